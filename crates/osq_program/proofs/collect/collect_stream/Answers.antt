use Rattle.std.proofs.Common.{ℕ, List, get_or, map, refl, slice_set, sym, subst}
use Rattle.collector_core.specs.Ledgers.{digests_of}
use Rattle.collect_rounds.specs.Runs.{Runs, Written}
use Rattle.osq_program.specs.Collecting.{stream}
use Rattle.osq_program.proofs.Collections.{changed_first, first_stream, one_source}
use Rattle.osq_program.proofs.collect.collect_stream.Goals as goal

pub returns-clause-runs : goal.returns-clause-runs
returns-clause-runs g c = λ told tells.
    let sources = c.args.sources.now in
    let source = get_or sources 0 c.index-sources-0.result in
    let rest = c.collect.new.source in
    let start : Written = record { ledger = g.O.Sink.written c.args.ledger.now; answers = g.O.Sink.written c.args.answers.now } in
    let end : Written = record { ledger = g.O.Sink.written c.collect.new.ledger; answers = g.O.Sink.written c.collect.new.answers } in
    let first = first_stream g.S.Source.left sources source (one_source sources source c.index-sources-0.result c.requires.one refl) in
    let later = first_stream g.S.Source.left (slice_set sources 0 rest) rest (changed_first sources rest c.requires.one) in
    subst (λ (x : List ℕ). Runs (digests_of c.args.opened.ledger) c.args.opened.has_rest x (stream (map g.S.Source.left (slice_set sources 0 rest))) c.args.rounds start end c.collect.result) (sym first)
    (subst (λ (x : List ℕ). Runs (digests_of c.args.opened.ledger) c.args.opened.has_rest (g.S.Source.left source) x c.args.rounds start end c.collect.result) (sym later) (c.collect.ensures.runs told tells))

pub returns-clause-source : goal.returns-clause-source
returns-clause-source g c = λ failed.
    let sources = c.args.sources.now in
    let source = get_or sources 0 c.index-sources-0.result in
    record {
      source = source;
      rest = c.collect.new.source;
      was = one_source sources source c.index-sources-0.result c.requires.one refl;
      is = changed_first sources c.collect.new.source c.requires.one;
      rose = c.collect.ensures.source.failed failed;
    }
