use Rattle.std.proofs.Common.{◌≡◌, ◌∙◌, ◌≤◌, ◌<◌, ◌+◌, List, [], ◌∷◌, ◌++◌, length, map, length-append, refl, sym, ap, subst, arith, Option, MatchOption, Some, None}
use Rattle.std.proofs.lemmas.List.{map-append, length-map}
use Rattle.publisher_core.specs.declared.record.Found.{Found}
use Rattle.publisher_core.specs.declared.record.Found.TheVariants as found
use Rattle.publisher_core.specs.declared.record.Raw.{Raw}
use Rattle.publisher_core.specs.Standing.{HasFound}
use Rattle.publisher_core.specs.Stepping.{FindsNext, GrowsBy, UnderWay}
use Rattle.publisher_core.proofs.Giving.{no_table}
use Rattle.publisher_core.proofs.Stepping.{begun, dry_steps, full_steps, grows_more, grows_same, more_found, source_same}
use Rattle.publisher_core.proofs.publisher.Publisher.take_raws.Goals as goal

pub loop-self-preserved : goal.loop-self-preserved
loop-self-preserved g c =
    let i = c.loop-self.invariant in
    let raw = c.in-Ok-Some-Record.raw in
    let pushed : c.push.new.self ≡ c.loop-self.raws ++ raw ∷ [] = c.in-Ok.ensures.ok in
    let size = ap length pushed ∙ length-append c.loop-self.raws (raw ∷ []) in
    let less = c.loop-self-test.true in
    let len = c.len.ensures in
    let later = c.in-Ok-Some-Record.ensures.cause.later in
    let before_later = i.later in
    let all : map found.Record c.loop-self.raws ++ found.Record raw ∷ [] ≡ map found.Record c.push.new.self =
    sym (map-append found.Record c.loop-self.raws (raw ∷ [])) ∙ ap (λ (rs : List Raw). map found.Record rs) (sym pushed) in
    record {
      within = c.in-Ok-Some-Record.ensures.within;
      few = omega (arith, size, less, len);
      later = omega (arith, later, before_later);
      end = λ at told over. c.in-Ok-Some-Record.ensures.end (i.end at) told over;
      same = source_same c.args.self.now c.loop-self.self c.next_found.new.self i.same c.in-Ok-Some-Record.ensures.same;
      grown = λ before start stream s.
          let w = i.way before start stream s in
          let up =
          subst (λ (o : Option Found). MatchOption o (c.next_found.new.self.taken ≡ c.loop-self.self.taken) (λ (x : Found). c.loop-self.self.taken < c.next_found.new.self.taken))
          (c.in-Ok-Some-Record.field-0-is ∙ ap Some c.in-Ok-Some-Record.field-0-0-is) (c.in-Ok-Some-Record.ensures.grown (before ++ map found.Record c.loop-self.raws) start (stream ++ w.fresh) w.stands) in
          subst (λ (rs : List Raw). GrowsBy c.args.self.now.taken c.next_found.new.self.taken rs) (sym pushed)
          (grows_more c.args.self.now.taken c.loop-self.self.taken c.next_found.new.self.taken c.loop-self.raws raw (i.grown before start stream s) up);
      way = λ before start stream s.
          let w = i.way before start stream s in
          subst (λ (many : List Found). UnderWay g.S.Source.tells (g.S.Source.left c.args.source.now) (g.S.Source.left c.next_found.new.source) c.next_found.new.self before start stream many c.next_found.new.read) all
          (more_found g.S.Source.tells _ _ _ _ c.next_found.new.self before start stream (map found.Record c.loop-self.raws) (found.Record raw) _ _ w
          (subst (λ (o : Option Found). FindsNext g.S.Source.tells (g.S.Source.left c.loop-self.source) (g.S.Source.left c.next_found.new.source) c.next_found.new.self (before ++ map found.Record c.loop-self.raws) start (stream ++ w.fresh) c.loop-self.read c.next_found.new.read o)
          (c.in-Ok-Some-Record.field-0-is ∙ ap Some c.in-Ok-Some-Record.field-0-0-is) (c.in-Ok-Some-Record.ensures.found (before ++ map found.Record c.loop-self.raws) start (stream ++ w.fresh) w.stands)));
    }

pub returns-in-Ok-None-clause-found : goal.returns-in-Ok-None-clause-found
returns-in-Ok-None-clause-found g c = λ before start stream s.
    let i = c.loop-self.invariant in
    let w = i.way before start stream s in
    let size = length-map c.loop-self.raws found.Record in
    let few = i.few in
    dry_steps g.S.Source.tells _ _ _ _ c.next_found.new.self before start stream (map found.Record c.loop-self.raws) _ _ c.args.max w
    (subst (λ (o : Option Found). FindsNext g.S.Source.tells (g.S.Source.left c.loop-self.source) (g.S.Source.left c.next_found.new.source) c.next_found.new.self (before ++ map found.Record c.loop-self.raws) start (stream ++ w.fresh) c.loop-self.read c.next_found.new.read o)
    c.in-Ok-None.field-0-is (c.in-Ok-None.ensures.found (before ++ map found.Record c.loop-self.raws) start (stream ++ w.fresh) w.stands)) (omega (arith, size, few))

pub returns-clause-found : goal.returns-clause-found
returns-clause-found g c = λ before start stream s.
    let i = c.loop-self.invariant in
    let over = c.loop-self-test.false in
    let len = c.len.ensures in
    let few = i.few in
    let size = length-map c.loop-self.raws found.Record in
    full_steps g.S.Source.tells _ _ _ before start stream (map found.Record c.loop-self.raws) c.loop-self.read c.args.max (i.way before start stream s) (omega (arith, over, len, few, size))

pub returns-in-Ok-None-clause-grown : goal.returns-in-Ok-None-clause-grown
returns-in-Ok-None-clause-grown g c = λ before start stream s.
    let i = c.loop-self.invariant in
    let w = i.way before start stream s in
    let still = subst (λ (o : Option Found). MatchOption o (c.next_found.new.self.taken ≡ c.loop-self.self.taken) (λ (x : Found). c.loop-self.self.taken < c.next_found.new.self.taken))
    c.in-Ok-None.field-0-is (c.in-Ok-None.ensures.grown (before ++ map found.Record c.loop-self.raws) start (stream ++ w.fresh) w.stands) in
    grows_same c.args.self.now.taken c.loop-self.self.taken c.next_found.new.self.taken c.loop-self.raws (i.grown before start stream s) still

pub returns-in-Ok-Some-Table-clause-found : goal.returns-in-Ok-Some-Table-clause-found
returns-in-Ok-Some-Table-clause-found g c = λ before start stream s.
    let i = c.loop-self.invariant in
    let w = i.way before start stream s in
    let n = subst (λ (o : Option Found). FindsNext g.S.Source.tells (g.S.Source.left c.loop-self.source) (g.S.Source.left c.next_found.new.source) c.next_found.new.self (before ++ map found.Record c.loop-self.raws) start (stream ++ w.fresh) c.loop-self.read c.next_found.new.read o)
    (c.in-Ok-Some-Table.field-0-is ∙ ap Some c.in-Ok-Some-Table.field-0-0-is) (c.in-Ok-Some-Table.ensures.found (before ++ map found.Record c.loop-self.raws) start (stream ++ w.fresh) w.stands) in
    absurd (no_table c.next_found.new.self (before ++ map found.Record c.loop-self.raws) c.in-Ok-Some-Table._own start ((stream ++ w.fresh) ++ n.fresh) n.found (λ tables. c.requires.kind (sym (c.in-Ok-Some-Table.ensures.same.kind ∙ i.same.kind) ∙ tables)))

pub returns-in-Ok-Some-Table-clause-grown : goal.returns-in-Ok-Some-Table-clause-grown
returns-in-Ok-Some-Table-clause-grown g c = λ before start stream s.
    let i = c.loop-self.invariant in
    let w = i.way before start stream s in
    let n = subst (λ (o : Option Found). FindsNext g.S.Source.tells (g.S.Source.left c.loop-self.source) (g.S.Source.left c.next_found.new.source) c.next_found.new.self (before ++ map found.Record c.loop-self.raws) start (stream ++ w.fresh) c.loop-self.read c.next_found.new.read o)
    (c.in-Ok-Some-Table.field-0-is ∙ ap Some c.in-Ok-Some-Table.field-0-0-is) (c.in-Ok-Some-Table.ensures.found (before ++ map found.Record c.loop-self.raws) start (stream ++ w.fresh) w.stands) in
    absurd (no_table c.next_found.new.self (before ++ map found.Record c.loop-self.raws) c.in-Ok-Some-Table._own start ((stream ++ w.fresh) ++ n.fresh) n.found (λ tables. c.requires.kind (sym (c.in-Ok-Some-Table.ensures.same.kind ∙ i.same.kind) ∙ tables)))

pub loop-self-init : goal.loop-self-init
loop-self-init g c =
    let none = c.new-raws.ensures in
    let size = ap length none in
    record {
      within = omega arith;
      few = omega (arith, size);
      later = omega arith;
      end = λ at. at;
      same = record { kind = refl; paths = refl; is_begun = refl; is_spent = refl };
      grown = λ before start stream s. subst (λ (rs : List Raw). GrowsBy c.args.self.now.taken c.args.self.now.taken rs) (sym none) refl;
      way = λ before start stream s.
          subst (λ (rs : List Raw). UnderWay g.S.Source.tells (g.S.Source.left c.args.source.now) (g.S.Source.left c.args.source.now) c.args.self.now before start stream (map found.Record rs) 0) (sym none)
          (begun g.S.Source.tells (g.S.Source.left c.args.source.now) c.args.self.now before start stream s);
    }
