use Rattle.std.proofs.Common.{rules, ◌≡◌, ◌++◌, ◌∷◌, [], ℕ, List, sym, ap, ◌∙◌, subst, append-nil}
use Rattle.osq_outside.specs.Causes.{Rose}
use Rattle.osq_config.specs.Files.{files_of}
use Rattle.config_files.specs.Refusals.{IsUnreadAt, IsUnreadOf}
use Rattle.config_files.specs.Adding.{AddsPack, with_packs}
use Rattle.config_files.specs.Texts.{text_in}
use Rattle.config_files.proofs.Walk.{one_added, passed_by, passed_error, text_none, text_one, unread_one}
use Rattle.config_files.proofs.adding.add_file.Goals as goal

pub returns-in-None-clause-adds : goal.returns-in-None-clause-adds
returns-in-None-clause-adds g c =
    let old = c.args.made.now.config in
    let pack = c.args.pack in (
      [],
      [],
      λ rest holds. passed_by old pack c.args.count.now _ c.in-None.is c.in_ok-push-in-None.ensures.ok rest holds,
      λ tells. text_none (g.F.Files.file c.args.files.now) pack c.in-None.is,
      sym (append-nil c.args.made.now.documents),
      sym (append-nil c.args.made.now.notes),
    )

pub returns-in_err-text-in-Some-clause-cause : goal.returns-in_err-text-in-Some-clause-cause
returns-in_err-text-in-Some-clause-cause g c =
    let pack = c.args.pack in
    let failed = Rose (g.F.Files.faults c.args.files.now) (g.F.Files.faults c.pack_text.new.files) in
    let error = c.in_err-text-in-Some.field-0.0 in
    passed_error (IsUnreadOf (files_of (pack ∷ [])) failed) error c.from_residual-in_err-text-in-Some.result c.from_residual-in_err-text-in-Some.ensures.1
    (unread_one pack c.in-Some.path c.in-Some.is failed error (subst (λ (path : List ℕ). IsUnreadAt path failed error) c.as_str.ensures c.in_err-text-in-Some.ensures.cause))

pub returns-clause-adds : goal.returns-clause-adds
returns-clause-adds g c =
    let pack = c.args.pack in
    let old = c.args.made.now.config in
    let new = c.add_text.new.made.config in
    let text = c.in_ok-text-in-Some.text in
    let added = c.in_ok-add_text.ensures.adds in
    let path = c.in-Some.path in
    let file = g.F.Files.file c.args.files.now in (
      text ∷ [],
      added.0,
      λ rest holds.
          let step = added.1 rest holds in
          let adds = subst (λ (t : List ℕ). AddsPack t pack.name (with_packs old (pack ∷ rest)) (with_packs new rest) added.0) c.as_str-2.ensures step.0 in
          (one_added pack path c.in-Some.is text added.0 _ _ adds, step.1),
      λ tells. text_one file pack path text c.in-Some.is (c.in_ok-text-in-Some.ensures.text tells ∙ ap (λ (p : List ℕ). text_in (file p)) c.as_str.ensures),
      c.in_ok-push.ensures.ok ∙ ap (λ (ds : List (List ℕ)). ds ++ text ∷ []) c.in_ok-add_text.ensures.documents,
      added.2,
    )
