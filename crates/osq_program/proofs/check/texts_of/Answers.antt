use Rattle.std.proofs.Common.{ℕ, Bool, true, List, map, ap, ◌∙◌, subst}
use Rattle.osq_config.specs.declared.config.Pack.{Pack}
use Rattle.pack_rules.specs.declared.host.Host.{Host}
use Rattle.schedule_notes.specs.Notes.{AreNotes}
use Rattle.osq_program.specs.Checking.{IsListing, all_found, checked_host}
use Rattle.osq_program.proofs.check.texts_of.Goals as goal

pub returns-clause-lines : goal.returns-clause-lines
returns-clause-lines c =
    subst (λ (host : Host). IsListing c.args.configured.now.config host (all_found c.args.configured.now.config) c.in_ok-checked.checked.lines) c.in_ok-host.ensures
    (subst (λ (found : List Bool). IsListing c.args.configured.now.config c.in_ok-host.host found c.in_ok-checked.checked.lines)
    (c.as_slice-found.ensures.value ∙ c.in_ok-found.ensures ∙ ap (λ (packs : List Pack). map (λ (pack : Pack). true) packs) c.as_slice.ensures) c.in_ok-checked.ensures.lines)

pub returns-clause-notes : goal.returns-clause-notes
returns-clause-notes c =
    subst (λ (left_out : List ℕ). AreNotes c.args.configured.now.config (checked_host c.args.words.now) (all_found c.args.configured.now.config) left_out c.in_ok-checked.checked.notes) c.as_slice-2.ensures
    (subst (λ (host : Host). AreNotes c.args.configured.now.config host (all_found c.args.configured.now.config) c.as_slice-2.result.now c.in_ok-checked.checked.notes) c.in_ok-host.ensures
    (subst (λ (found : List Bool). AreNotes c.args.configured.now.config c.in_ok-host.host found c.as_slice-2.result.now c.in_ok-checked.checked.notes)
    (c.as_slice-found.ensures.value ∙ c.in_ok-found.ensures ∙ ap (λ (packs : List Pack). map (λ (pack : Pack). true) packs) c.as_slice.ensures) c.in_ok-checked.ensures.notes))
