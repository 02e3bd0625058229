use Rattle.std.proofs.Common.{rules, ◌≡◌, ◌≤◌, ◌++◌, ◌+◌, ◌∷◌, [], ℕ, List, length, refl, sym, ap, ◌∙◌, subst, arith, append_assoc}
use Rattle.std.specs.Vec.Iter.{into_iter_items}
use Rattle.osq_outside.specs.Causes.{Rose}
use Rattle.osq_config.specs.declared.config.Pack.{Pack}
use Rattle.osq_config.specs.Files.{files_of}
use Rattle.config_files.specs.Refusals.{IsUnreadOf}
use Rattle.config_files.proofs.Packs.{unread_turn}
use Rattle.config_files.proofs.Walk.{IsWalked, passed_error, walk_begins, walk_ends, walk_goes_on, within_held}
use Rattle.config_files.proofs.adding.add_files.Goals as goal

pub loop-pack-preserved : goal.loop-pack-preserved
loop-pack-preserved g c =
    let i = c.loop-pack.invariant in
    let step = c.in-Some.ensures.steps in
    let pack = c.in-Some.pack in
    let passed = c.loop-pack.yielded in
    let rest = into_iter_items c.next.new.self in
    let a = c.in_ok-add_file.ensures.adds in
    let fewer : length (into_iter_items c.loop-pack.pack-iterator) ≡ length rest + 1 = ap (λ (l : List Pack). length l) step.0 ∙ omega arith in
    record {
      can_next = tt;
      is_finite = tt;
      size = omega (arith, i.size, step.1, fewer);
      whole = i.whole ∙ ap (λ (l : List Pack). passed ++ l) step.0 ∙ sym (append_assoc passed (pack ∷ []) rest);
      walked = walk_goes_on g.F.Files.tells (g.F.Files.file c.args.files.now) (g.F.Files.file c.loop-pack.files) c.args.made.now.config c.loop-pack.made.config c.add_file.new.made.config passed pack rest
          c.loop-pack.count c.add_file.new.count c.args.made.now.documents c.loop-pack.made.documents c.add_file.new.made.documents c.args.made.now.notes c.loop-pack.made.notes c.add_file.new.made.notes i.same
          (subst (λ (ps : List Pack). IsWalked g.F.Files.tells (g.F.Files.file c.args.files.now) c.args.made.now.config c.loop-pack.made.config passed ps c.loop-pack.count c.args.made.now.documents c.loop-pack.made.documents c.args.made.now.notes c.loop-pack.made.notes) step.0 i.walked)
          a.0 a.1 a.2 a.3 a.4 a.5;
      same = λ tells path. c.add_file.ensures.same tells path ∙ i.same tells path;
      later = search rules;
    }

pub returns-in_err-add_file-clause-cause : goal.returns-in_err-add_file-clause-cause
returns-in_err-add_file-clause-cause g c =
    let i = c.loop-pack.invariant in
    let step = c.in-Some.ensures.steps in
    let pack = c.in-Some.pack in
    let passed = c.loop-pack.yielded in
    let rest = into_iter_items c.next.new.self in
    let error = c.in_err-add_file.field-0.0 in
    let failed = Rose (g.F.Files.faults c.loop-pack.files) (g.F.Files.faults c.add_file.new.files) in
    let rose = Rose (g.F.Files.faults c.args.files.now) (g.F.Files.faults c.add_file.new.files) in
    let later = i.later in
    let whole = i.whole ∙ ap (λ (l : List Pack). passed ++ l) step.0 in
    passed_error (IsUnreadOf (files_of c.args.made.now.config.packs) rose) error c.from_residual.result c.from_residual.ensures.1
    (subst (λ (ps : List Pack). IsUnreadOf (files_of ps) rose error) (sym whole)
    (unread_turn passed pack rest failed rose error (λ more. omega (arith, later, more)) c.in_err-add_file.ensures.cause))
