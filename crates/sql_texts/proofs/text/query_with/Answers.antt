use Rattle.std.proofs.Common.{◌∙◌, ap, sym, Some}
use Rattle.std.specs.Option.{option_map}
use Rattle.sql_tree.specs.Select.{select_of}
use Rattle.sql_texts.specs.declared.text.TextError.{TextError}
use Rattle.sql_texts.specs.declared.text.TextError.TheVariants.{Name}
use Rattle.sql_texts.proofs.TextAnswers.{unparsed_fault, unparsed_query, parsed_fault, parsed_query, unresolved}
use Rattle.sql_texts.proofs.text.query_with.Goals as goal

pub returns-in-Err-clause-fault : goal.returns-in-Err-clause-fault
returns-in-Err-clause-fault c w =
    unparsed_fault c.args.derived.now c.args.text.now c.in-Err.error (c.parse.ensures.refused c.in-Err.error c.in-Err.is (c.not_parsed.ensures.memory w))
    ∙ sym (ap (λ (x : TextError). Some x) (c.not_parsed.ensures.fault w))

pub returns-in-Err-clause-refused : goal.returns-in-Err-clause-refused
returns-in-Err-clause-refused c w =
    unparsed_query c.args.derived.now c.args.text.now c.in-Err.error (c.parse.ensures.refused c.in-Err.error c.in-Err.is (c.not_parsed.ensures.memory w))

pub returns-in-Err-resolve_with-clause-fault : goal.returns-in-Err-resolve_with-clause-fault
returns-in-Err-resolve_with-clause-fault c w =
    parsed_fault c.args.derived.now c.args.text.now (select_of c.in-Ok.select) c.in-Ok.ensures.accepted c.in-Ok.ensures.tree
    ∙ ap (option_map Name) (c.in-Err-resolve_with.ensures.fault (c.not_resolved.ensures.memory w))
    ∙ sym (ap (λ (x : TextError). Some x) (c.not_resolved.ensures.fault w))

pub returns-in-Err-resolve_with-clause-refused : goal.returns-in-Err-resolve_with-clause-refused
returns-in-Err-resolve_with-clause-refused c w =
    parsed_query c.args.derived.now c.args.text.now (select_of c.in-Ok.select) c.in-Ok.ensures.accepted c.in-Ok.ensures.tree
    ∙ unresolved c.args.derived.now c.args.text.now (select_of c.in-Ok.select) c.in-Err-resolve_with.error (c.in-Err-resolve_with.ensures.fault (c.not_resolved.ensures.memory w))

pub returns-clause-ok : goal.returns-clause-ok
returns-clause-ok c =
    parsed_query c.args.derived.now c.args.text.now (select_of c.in-Ok.select) c.in-Ok.ensures.accepted c.in-Ok.ensures.tree ∙ c.in-Ok-resolve_with.ensures.ok

pub returns-clause-sound : goal.returns-clause-sound
returns-clause-sound c =
    parsed_fault c.args.derived.now c.args.text.now (select_of c.in-Ok.select) c.in-Ok.ensures.accepted c.in-Ok.ensures.tree ∙ ap (option_map Name) c.in-Ok-resolve_with.ensures.sound
