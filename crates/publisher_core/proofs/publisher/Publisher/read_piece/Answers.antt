use Rattle.std.proofs.Common.{◌≡◌, ◌∙◌, ℕ, List, ◌+◌, ◌++◌, length, take, sym, ap, subst, refl, false}
use Rattle.std.proofs.lemmas.List.{with_items_is}
use Rattle.publisher_core.specs.Records.{ended}
use Rattle.publisher_core.specs.Standing.{Reader}
use Rattle.publisher_core.specs.Stepping.{IsDrained}
use Rattle.publisher_core.proofs.Standing.{fed}
use Rattle.publisher_core.proofs.publisher.Publisher.read_piece.Goals as goal

pub returns-clause-read : goal.returns-clause-read
returns-clause-read g c = λ given start stream d.
    let front = c.split_at.ensures.front in
    let value = c.as_slice.ensures.value in
    let whole = with_items_is c.self.inside.piece c.read.new.into (c.read.auto.into ∙ c.as_mut_slice.ensures.len) in
    let size = c.split_at.ensures.front_len in
    let dry = subst (λ (r : Reader). IsDrained r given start stream) (sym c.self.view_is) d in
    let s = dry.stands in
    let open_is : c.self.inside.is_ended ≡ false = ap (λ (r : Reader). r.is_ended) c.self.view_is ∙ c.requires.more in
    record {
      fresh = c.split_at.result.0.now;
      size = size;
      left = λ told. c.in-Ok.ensures.bytes told ∙ ap (λ (l : List ℕ). l ++ g.S.Source.left c.read.new.self) (sym (front ∙ ap (take c.in-Ok.count) (value ∙ whole)));
      stands = fed _ _ given start stream c.split_at.result.0.now dry open_is
          (c.in-Ok-feed.ensures.ok (start + length (ended (s.lines ++ s.held))) s.rest s.cutter) c.in-Ok-feed.ensures.limit refl;
    }
