use Rattle.file_link.proofs.link.FileLink.append.Goals as goal

pub returns-in-Err-clause-cause : goal.returns-in-Err-clause-cause
returns-in-Err-clause-cause g c = record { later = c.count_fault.ensures.later; failed = c.count_fault.ensures.rose }
