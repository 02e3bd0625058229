use Rattle.std.proofs.Common.{List, ◌∙◌, sym, subst}
use Rattle.osq_value.specs.declared.reading.Reading.{Reading}
use Rattle.daemon_rounds.proofs.Appended.{AreAppended, exceeds, none_appended, one_appended}
use Rattle.std.specs.Prelude.{All}
use Rattle.entry_model.specs.Next.{offset_at}
use Rattle.session_state.specs.Readings.{IsReading}
use Rattle.daemon_rounds.specs.Appending.{AreRising}
use Rattle.daemon_rounds.proofs.appending.append_each.Goals as goal

pub loop-reading-preserved : goal.loop-reading-preserved
loop-reading-preserved g c =
    one_appended _ _ _ _ c.in-Some.reading _ _
    (subst (λ (rest : List Reading). AreAppended c.args.state.now c.args.source.now c.from_vec-rest.result.items rest c.loop-reading.state) c.in-Some.ensures.items c.loop-reading.invariant)
    c.in-Ok.ensures.appended

pub returns-in-Err-clause-spent : goal.returns-in-Err-clause-spent
returns-in-Err-clause-spent g c e =
    exceeds c.args.state.now c.args.source.now c.from_vec-rest.result.items c.args.readings _ c.in-Some.reading c.loop-reading.state c.append_one.new.state (c.from_vec-rest.ensures.items ∙ c.into_vec.ensures)
    (subst (λ (rest : List Reading). AreAppended c.args.state.now c.args.source.now c.from_vec-rest.result.items rest c.loop-reading.state) c.in-Some.ensures.items c.loop-reading.invariant)
    c.in-Err.ensures.err (c.in-Err.ensures.spent e)

pub loop-reading-init : goal.loop-reading-init
loop-reading-init g c =
    let s = c.args.state.now in
    let source = c.args.source.now in
    let same = c.from_vec-rest.ensures.items ∙ c.into_vec.ensures in
    none_appended s source c.from_vec-rest.result.items (subst (All IsReading) (sym same) c.requires.readings) (subst (AreRising (offset_at s.counts.taken source)) (sym same) c.requires.rising)
