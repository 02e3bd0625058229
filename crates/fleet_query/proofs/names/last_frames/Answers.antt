use Rattle.std.proofs.Common.{rules, ◌≡◌, ◌∙◌, ℕ, sym, ap, length, take}
use Rattle.std.specs.BTreeMap.{values}
use Rattle.std.specs.Map.{values_of}
use Rattle.std.proofs.lemmas.List.{map-id, take_all}
use Rattle.std.proofs.lemmas.Iterator.Consumers.{YieldsList-end, YieldsList-from_rest, YieldsList-so_far}
use Rattle.fleet_query.proofs.LastsShown.{shown}
use Rattle.fleet_query.proofs.names.last_frames.Goals.{in-None, in-Some+then-len-eq-QUERY_TABLES}
use Rattle.fleet_query.proofs.names.last_frames.Goals as goal

pub returns : goal.returns
returns c =
    let loop = c.loop-last in
    let i = loop.invariant in
    let all = values c.in_ok-index.index in
    let road = YieldsList-from_rest {shows = λ x. x} {s = c.into_iter-last-iterator.result} all (search rules) in
    let some = YieldsList-so_far road loop.yielded loop.last-iterator loop.yielded_by in
    let yielded = i.lasts ∙ sym (map-id loop.yielded) in
    let front : loop.lasts ≡ take 90 (values_of c.in_ok-index.index.entries) = elim c.match-next.branch [
      | in-None w ↦
          let every = YieldsList-end road loop.yielded loop.last-iterator loop.yielded_by c.next.result c.next.new.self w.in-None.is c.next.ensures.steps in
          sym (take_all 90 loop.lasts i.few) ∙ ap (take 90) (yielded ∙ every.0)
      | in-Some+then-len-eq-QUERY_TABLES w ↦
          let count : length loop.yielded ≡ 90 = sym (ap length i.lasts) ∙ sym w.len.ensures ∙ w.if-len-eq-QUERY_TABLES.true in
          yielded ∙ some ∙ ap (λ (n : ℕ). take n all) count
    ] in
    shown c.in_ok-index.index.entries c.args.frames.now loop.lasts c.in_ok-index.ensures front
