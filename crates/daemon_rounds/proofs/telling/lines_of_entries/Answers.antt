use Rattle.daemon_rounds.proofs.Told.{next_begun, tellable_at}
use Rattle.daemon_rounds.proofs.telling.lines_of_entries.Goals as goal

pub push_lines-requires : goal.push_lines-requires
push_lines-requires c =
    tellable_at c.args.entries.now c.loop-entry.entry-index c.entry-item.result c.requires c.loop-entry-test.true c.entry-item.is

pub loop-entry-preserved : goal.loop-entry-preserved
loop-entry-preserved c =
    let a = c.in_ok-push_lines.ensures in
    next_begun c.args.host.now c.args.form c.args.entries.now c.loop-entry.entry-index c.loop-entry.form c.form_behind-form.result c.loop-entry.text _ c.entry-item.result a.0 c.loop-entry-test.true c.entry-item.is c.loop-entry.invariant a.1 a.2 c.form_behind-form.ensures
