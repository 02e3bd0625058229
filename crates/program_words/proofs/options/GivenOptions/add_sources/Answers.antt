use Rattle.std.proofs.Common.{◌∙◌, ◌≤◌, ◌++◌, ap, append-nil, arith, drop_of_length-le, length, map, sym}
use Rattle.program_words.specs.Left.{options_in}
use Rattle.program_words.proofs.Told.{source_at, sources_read}
use Rattle.program_words.proofs.options.GivenOptions.add_sources.Goals as goal

pub returns : goal.returns
returns c =
    let items = c.values_of-path-items.result.now in
    let all : length items ≤ c.loop-path.path-index = omega (arith, c.loop-path-test.false) in
    sym (append-nil c.loop-path.sources) ∙ ap (λ l. c.loop-path.sources ++ map (λ v. source_at c.args.kind v.now) l) (sym (drop_of_length-le items all))
    ∙ c.loop-path.invariant ∙ ap (λ l. c.args.sources.now ++ l) (sources_read items c.args.name c.args.kind (options_in c.args.self.now) c.values_of-path-items.ensures)
