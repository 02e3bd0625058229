use Rattle.std.proofs.Common.{◌≡◌, ◌∙◌, ap, sym, subst, ℕ, ◌+◌, length, ◌++◌}
use Rattle.record_lines.specs.Lines.{cut_of}
use Rattle.record_lines.specs.Limits.{LINE_LIMIT}
use Rattle.publisher_core.specs.Records.{ended, TABLE_LIMIT, TableGives}
use Rattle.publisher_core.specs.Standing.{Reader, limit_of}
use Rattle.publisher_core.specs.Stepping.{Goes}
use Rattle.publisher_core.specs.declared.record.Next.{Next}
use Rattle.osq_value.specs.declared.source.SourceKind.TheVariants.{Audit, Changes, Tables}
use Rattle.publisher_core.proofs.Standing.{change_given, table_given, line_gathered}
use Rattle.publisher_core.proofs.publisher.Publisher.take_line.Goals as goal

pub returns-in-Ok-clause-goes : goal.returns-in-Ok-clause-goes
returns-in-Ok-clause-goes g c = λ before given start stream t.
    let kind : c.args.self.now.kind ≡ Audit = sym (ap (λ (r : Reader). r.kind) c.self.view_is) ∙ c.in-Audit.is in
    let limit : before.cutter.limit ≡ LINE_LIMIT = t.stands.limit ∙ ap limit_of (sym (ap (λ (r : Reader). r.kind) t.same) ∙ kind) in
    let at = start + length (ended (t.stands.lines ++ t.stands.held)) + length t.line.line + 1 in
    let cut : c.args.cut.now ≡ cut_of LINE_LIMIT at t.line.line = t.line.cut_is ∙ ap (λ (n : ℕ). cut_of n at t.line.line) limit in
    let end = c.end_of-end.ensures before.cutter.limit at t.line.line t.line.cut_is in
    line_gathered before c.args.self.now c.gather.new.self given start stream c.args.cut.now c.end_of-end.result t kind end (c.in-Ok.ensures.gathered t.line.line at cut) c.gather.ensures.same

pub returns-in-Ok-change_raw-clause-goes : goal.returns-in-Ok-change_raw-clause-goes
returns-in-Ok-change_raw-clause-goes g c = λ before given start stream t.
    let kind : c.args.self.now.kind ≡ Changes = sym (ap (λ (r : Reader). r.kind) c.self.view_is) ∙ c.in-Changes.is in
    let limit : before.cutter.limit ≡ LINE_LIMIT = t.stands.limit ∙ ap limit_of (sym (ap (λ (r : Reader). r.kind) t.same) ∙ kind) in
    let at = start + length (ended (t.stands.lines ++ t.stands.held)) + length t.line.line + 1 in
    let cut : c.args.cut.now ≡ cut_of LINE_LIMIT at t.line.line = t.line.cut_is ∙ ap (λ (n : ℕ). cut_of n at t.line.line) limit in
    let end = c.end_of-end.ensures before.cutter.limit at t.line.line t.line.cut_is in
    let one = c.in-Ok-change_raw.ensures t.line.line at cut in
    let taken = c.give.ensures.taken ∙ ap (λ (r : Reader). record r { taken = c.end_of-end.result }) c.self.view_is in
    let stands = change_given before c.args.self.now c.give.new.self given start stream c.args.cut.now c.in-Ok-change_raw.raw c.end_of-end.result t kind one end taken in
    subst (λ (n : Next). Goes c.give.new.self given start stream n) (sym c.give.ensures.given) stands

pub returns-in-Ok-table_gain-clause-goes : goal.returns-in-Ok-table_gain-clause-goes
returns-in-Ok-table_gain-clause-goes g c = λ before given start stream t.
    let kind : c.args.self.now.kind ≡ Tables = sym (ap (λ (r : Reader). r.kind) c.self.view_is) ∙ c.in-Tables.is in
    let limit : before.cutter.limit ≡ TABLE_LIMIT = t.stands.limit ∙ ap limit_of (sym (ap (λ (r : Reader). r.kind) t.same) ∙ kind) in
    let at = start + length (ended (t.stands.lines ++ t.stands.held)) + length t.line.line + 1 in
    let cut : c.args.cut.now ≡ cut_of TABLE_LIMIT at t.line.line = t.line.cut_is ∙ ap (λ (n : ℕ). cut_of n at t.line.line) limit in
    let end = c.end_of-end.ensures before.cutter.limit at t.line.line t.line.cut_is in
    let one : TableGives t.line.line c.in-Ok-table_gain.gain = c.in-Ok-table_gain.ensures t.line.line at cut in
    let stands = table_given before c.args.self.now c.give-in-Ok-table_gain.new.self given start stream c.args.cut.now c.in-Ok-table_gain.gain c.end_of-end.result t kind one end c.give-in-Ok-table_gain.ensures.taken in
    subst (λ (n : Next). Goes c.give-in-Ok-table_gain.new.self given start stream n) (sym c.give-in-Ok-table_gain.ensures.given) stands
