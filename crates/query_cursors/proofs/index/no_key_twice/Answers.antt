use Rattle.std.proofs.Common.{◌≡◌, arith}
use Rattle.std.specs.HashSet.{contains}
use Rattle.std.specs.Cmp.{decided}
use Rattle.pack_rules.specs.Keys.{same_key}
use Rattle.entry_model.specs.declared.restored.Run.{Run}
use Rattle.entry_model.proofs.Summaries.{same_key-Decides}
use Rattle.query_cursors.specs.declared.index.Lent.{Lent}
use Rattle.query_cursors.proofs.Apart.{known_more, own_more, found_twice}
use Rattle.query_cursors.proofs.Knowing.{same_lent}
use Rattle.query_cursors.proofs.index.no_key_twice.Goals as goal

turn : (s t : Run) → same_key s.key t.key ≡ same_key t.key s.key
turn s t = (decided same_key same_key-Decides).symm s.key t.key

pub loop-run-preserved : goal.loop-run-preserved
loop-run-preserved c =
    let runs = c.args.runs.now in
    let at = c.loop-run.run-index in
    let run = c.run-item.result in
    let within = c.loop-run-test.true in
    -- lent from any place, since what is known is known of the key
    let lent : Lent = record { key = record { ref_ptr = c.args.runs.ref_ptr; now = run.key } } in
    record {
      known = known_more (λ (run : Run) (lent : Lent). same_key run.key lent.key.now) (contains same_lent c.loop-run.known) (contains same_lent c.insert.new.self) runs at run within c.run-item.is c.in_ok-insert.ensures.updates.0 c.loop-run.invariant.known;
      own = own_more (λ s t. same_key s.key t.key) turn runs at run within c.run-item.is c.loop-run.invariant.own (grind (arith, c.loop-run.invariant.known lent, c.in_ok-insert.ensures.added, c.if-not-branch.false));
    }

pub returns-then-not-branch : goal.returns-then-not-branch
returns-then-not-branch c =
    let run = c.run-item.result in
    let lent : Lent = record { key = record { ref_ptr = c.args.runs.ref_ptr; now = run.key } } in (
      λ h. absurd (cc),
      λ own. absurd (found_twice (λ s t. same_key s.key t.key) turn c.args.runs.now c.loop-run.run-index run c.loop-run-test.true c.run-item.is (grind (arith, c.loop-run.invariant.known lent, c.in_ok-insert.ensures.added, c.if-not-branch.true)) own),
    )
