use Rattle.std.proofs.Common.{◌≡◌, ◌⊎◌, ◌∙◌, ◌≤◌, ◌<◌, List, [], ◌∷◌, ◌++◌, sym, ap, subst, true, inl, inr, arith, Option, MatchOption, Some, None, Ok}
use Rattle.publisher_core.specs.declared.record.Found.{Found}
use Rattle.publisher_core.specs.Standing.{Reader, HasFound}
use Rattle.record_lines.specs.Limits.{STEP_BYTES}
use Rattle.publisher_core.specs.Stepping.{FindsNext, IsDrained}
use Rattle.publisher_core.proofs.Stepping.{reads_none, reads_on, one_next, none_next, next_same, read_same, end_read}
use Rattle.publisher_core.proofs.publisher.Publisher.next_found.Goals as goal
use Rattle.publisher_core.proofs.publisher.Publisher.next_found.Goals.{then-self-via-then-self, then-self-via-else-self+then-read-ge-STEP_BYTES}

pub returns-in-Ok-Some-clause-found : goal.returns-in-Ok-Some-clause-found
returns-in-Ok-Some-clause-found g c = λ before start stream s.
    let i = c.loop-one.invariant in
    let w = i.way before start stream s in
    let found = subst (λ (o : Option Found). MatchOption o (IsDrained c.next_piece.new.self before start (stream ++ w.fresh)) (λ (one : Found). HasFound c.next_piece.new.self (before ++ one ∷ []) start (stream ++ w.fresh)))
    c.in-Ok-Some.field-0-is (c.in-Ok-Some.ensures.found before start (stream ++ w.fresh) w.stands) in
    one_next g.S.Source.tells _ _ _ c.next_piece.new.self before start stream _ _ c.in-Ok-Some.one w found

pub returns-then-self-clause-found : goal.returns-then-self-clause-found
returns-then-self-clause-found g c = λ before start stream s.
    let i = c.loop-one.invariant in
    let w = i.way before start stream s in
    let dry = subst (λ (o : Option Found). MatchOption o (IsDrained c.next_piece.new.self before start (stream ++ w.fresh)) (λ (one : Found). HasFound c.next_piece.new.self (before ++ one ∷ []) start (stream ++ w.fresh)))
    c.in-Ok-None.field-0-is (c.in-Ok-None.ensures.found before start (stream ++ w.fresh) w.stands) in
    let why : (c.next_piece.new.self.is_ended ≡ true) ⊎ (STEP_BYTES ≤ c.loop-one.read) = elim c.then-self.branch [
      | then-self-via-then-self b ↦ inl (sym (ap (λ (r : Reader). r.is_ended) c.self.view_is) ∙ b.if-self.true)
      | then-self-via-else-self+then-read-ge-STEP_BYTES b ↦ inr b.if-read-ge-STEP_BYTES.true
    ] in
    none_next g.S.Source.tells _ _ _ c.next_piece.new.self before start stream _ _ w dry why

pub returns-in-Ok-Some-clause-grown : goal.returns-in-Ok-Some-clause-grown
returns-in-Ok-Some-clause-grown g c = λ before start stream s.
    let i = c.loop-one.invariant in
    let w = i.way before start stream s in
    let still = i.still before start stream s in
    let less = subst (λ (o : Option Found). MatchOption o (c.next_piece.new.self.taken ≡ c.loop-one.self.taken) (λ (one : Found). c.loop-one.self.taken < c.next_piece.new.self.taken))
    c.in-Ok-Some.field-0-is (c.in-Ok-Some.ensures.grown before start (stream ++ w.fresh) w.stands) in
    omega (arith, still, less)

pub returns-then-self-clause-grown : goal.returns-then-self-clause-grown
returns-then-self-clause-grown g c = λ before start stream s.
    let i = c.loop-one.invariant in
    let w = i.way before start stream s in
    subst (λ (o : Option Found). MatchOption o (c.next_piece.new.self.taken ≡ c.loop-one.self.taken) (λ (one : Found). c.loop-one.self.taken < c.next_piece.new.self.taken))
    c.in-Ok-None.field-0-is (c.in-Ok-None.ensures.grown before start (stream ++ w.fresh) w.stands) ∙ i.still before start stream s

pub loop-one-preserved : goal.loop-one-preserved
loop-one-preserved g c =
    let i = c.loop-one.invariant in
    let reads = c.in-Ok.ensures.count in
    let over = c.if-read-ge-STEP_BYTES.false in
    let later = c.in-Ok.ensures.cause.later in
    let before_later = i.later in
    record {
      within = omega (arith, reads, over);
      later = omega (arith, later, before_later);
      end = λ at told over. end_read c.in-Ok.count c.read_piece.new.self.is_ended (g.S.Source.left c.read_piece.new.source) c.in-Ok.ensures.end.0 c.in-Ok.ensures.end.1 (λ none. c.in-Ok.ensures.left told (ap Ok none)) over;
      same = read_same c.args.self.now c.next_piece.new.self c.read_piece.new.self (next_same c.args.self.now c.loop-one.self c.next_piece.new.self i.same c.in-Ok-None.ensures.same) c.in-Ok.ensures.same;
      still = λ before start stream s.
          let w = i.way before start stream s in
          ap (λ (r : Reader). r.taken) c.in-Ok.ensures.same
          ∙ subst (λ (o : Option Found). MatchOption o (c.next_piece.new.self.taken ≡ c.loop-one.self.taken) (λ (one : Found). c.loop-one.self.taken < c.next_piece.new.self.taken))
          c.in-Ok-None.field-0-is (c.in-Ok-None.ensures.grown before start (stream ++ w.fresh) w.stands)
          ∙ i.still before start stream s;
      way = λ before start stream s.
          let w = i.way before start stream s in
          let dry = subst (λ (o : Option Found). MatchOption o (IsDrained c.next_piece.new.self before start (stream ++ w.fresh)) (λ (one : Found). HasFound c.next_piece.new.self (before ++ one ∷ []) start (stream ++ w.fresh)))
          c.in-Ok-None.field-0-is (c.in-Ok-None.ensures.found before start (stream ++ w.fresh) w.stands) in
          reads_on g.S.Source.tells _ _ _ _ c.read_piece.new.self before start stream _ _ c.in-Ok.count w (c.in-Ok.ensures.read before start (stream ++ w.fresh) dry);
    }
