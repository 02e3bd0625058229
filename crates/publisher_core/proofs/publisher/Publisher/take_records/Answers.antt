use Rattle.std.proofs.Common.{◌≡◌, ◌∙◌, ◌≤◌, ◌<◌, ◌+◌, List, [], ◌∷◌, ◌++◌, length, length-append, append_assoc, append-nil, refl, sym, ap, subst, arith, Option, MatchOption, Some, None}
use Rattle.std.specs.List.{AllZip}
use Rattle.std.proofs.lemmas.Slice.Zip.{AllZip-long}
use Rattle.osq_value.specs.declared.reading.Category.{Category}
use Rattle.publisher_core.specs.declared.record.Found.{Found}
use Rattle.publisher_core.specs.declared.record.ReadRecord.{ReadRecord}
use Rattle.publisher_core.specs.declared.record.Record.{Record}
use Rattle.publisher_core.specs.Found.{IsGiven, item_of, items_found}
use Rattle.publisher_core.specs.Standing.{Reader, HasFound}
use Rattle.publisher_core.specs.Stepping.{FindsNext, GrowsBy, UnderWay}
use Rattle.publisher_core.proofs.Given.{zip_more}
use Rattle.publisher_core.proofs.Giving.{items_more}
use Rattle.publisher_core.proofs.Stepping.{begun, dry_steps, full_steps, grows_more, grows_same, more_found, source_same}
use Rattle.publisher_core.proofs.publisher.Publisher.take_records.Goals as goal

pub loop-self-preserved : goal.loop-self-preserved
loop-self-preserved g c =
    let i = c.loop-self.invariant in
    let one = c.in-Ok-Some.one in
    let piece = c.in-Ok.piece in
    let pushed : c.push.new.self ≡ c.loop-self.pieces ++ piece ∷ [] = c.in-Ok-push.ensures.ok in
    let size = ap length pushed ∙ length-append c.loop-self.pieces (piece ∷ []) in
    let less = c.loop-self-test.true in
    let len = c.len.ensures in
    let later = c.in-Ok-Some.ensures.cause.later in
    let before_later = i.later in
    let same = source_same c.args.self.now c.loop-self.self c.next_found.new.self i.same c.in-Ok-Some.ensures.same in
    let paths = ap (λ (r : Reader). r.paths) c.self-in-loop-self.view_is ∙ same.paths in
    record {
      within = c.in-Ok-Some.ensures.within;
      few = omega (arith, size, less, len);
      later = omega (arith, later, before_later);
      end = λ at told over. c.in-Ok-Some.ensures.end (i.end at) told over;
      same = same;
      many = i.many ++ one ∷ [];
      each = subst (λ (ps : List ReadRecord). AllZip (IsGiven c.args.self.now.paths) (i.many ++ one ∷ []) ps) (sym pushed)
          (zip_more (IsGiven c.args.self.now.paths) i.many c.loop-self.pieces one piece i.each (subst (λ (p : List Category). IsGiven p one piece) paths c.in-Ok.ensures.given));
      shown = λ seen saw.
          subst (λ (rs : List Record). g.W.Watcher.saw c.given.new.watcher rs) (append_assoc seen (items_found i.many) (item_of one) ∙ ap (λ (rs : List Record). seen ++ rs) (sym (items_more i.many one)))
          (c.in-Ok.ensures.seen (seen ++ items_found i.many) (i.shown seen saw));
      grown = λ before start stream s.
          let w = i.way before start stream s in
          let up =
          subst (λ (o : Option Found). MatchOption o (c.next_found.new.self.taken ≡ c.loop-self.self.taken) (λ (x : Found). c.loop-self.self.taken < c.next_found.new.self.taken))
          c.in-Ok-Some.field-0-is (c.in-Ok-Some.ensures.grown (before ++ i.many) start (stream ++ w.fresh) w.stands) in
          subst (λ (ps : List ReadRecord). GrowsBy c.args.self.now.taken c.next_found.new.self.taken ps) (sym pushed)
          (grows_more c.args.self.now.taken c.loop-self.self.taken c.next_found.new.self.taken c.loop-self.pieces piece (i.grown before start stream s) up);
      way = λ before start stream s.
          let w = i.way before start stream s in
          more_found g.S.Source.tells _ _ _ _ c.next_found.new.self before start stream i.many one _ _ w
          (subst (λ (o : Option Found). FindsNext g.S.Source.tells (g.S.Source.left c.loop-self.source) (g.S.Source.left c.next_found.new.source) c.next_found.new.self (before ++ i.many) start (stream ++ w.fresh) c.loop-self.read c.next_found.new.read o)
          c.in-Ok-Some.field-0-is (c.in-Ok-Some.ensures.found (before ++ i.many) start (stream ++ w.fresh) w.stands));
    }

pub returns-in-Ok-None-clause-seen : goal.returns-in-Ok-None-clause-seen
returns-in-Ok-None-clause-seen g c = λ before start stream s.
    let i = c.loop-self.invariant in
    let w = i.way before start stream s in
    let size = AllZip-long (IsGiven c.args.self.now.paths) i.many c.loop-self.pieces i.each in
    let few = i.few in (
      i.many,
      i.each,
      dry_steps g.S.Source.tells _ _ _ _ c.next_found.new.self before start stream i.many _ _ c.args.most w
          (subst (λ (o : Option Found). FindsNext g.S.Source.tells (g.S.Source.left c.loop-self.source) (g.S.Source.left c.next_found.new.source) c.next_found.new.self (before ++ i.many) start (stream ++ w.fresh) c.loop-self.read c.next_found.new.read o)
          c.in-Ok-None.field-0-is (c.in-Ok-None.ensures.found (before ++ i.many) start (stream ++ w.fresh) w.stands)) (omega (arith, size, few)),
      i.shown,
    )

pub returns-clause-seen : goal.returns-clause-seen
returns-clause-seen g c = λ before start stream s.
    let i = c.loop-self.invariant in
    let over = c.loop-self-test.false in
    let len = c.len.ensures in
    let few = i.few in
    let size = AllZip-long (IsGiven c.args.self.now.paths) i.many c.loop-self.pieces i.each in
    (i.many, i.each, full_steps g.S.Source.tells _ _ _ before start stream i.many c.loop-self.read c.args.most (i.way before start stream s) (omega (arith, over, len, few, size)), i.shown)

pub returns-in-Ok-None-clause-grown : goal.returns-in-Ok-None-clause-grown
returns-in-Ok-None-clause-grown g c = λ before start stream s.
    let i = c.loop-self.invariant in
    let w = i.way before start stream s in
    let still = subst (λ (o : Option Found). MatchOption o (c.next_found.new.self.taken ≡ c.loop-self.self.taken) (λ (x : Found). c.loop-self.self.taken < c.next_found.new.self.taken))
    c.in-Ok-None.field-0-is (c.in-Ok-None.ensures.grown (before ++ i.many) start (stream ++ w.fresh) w.stands) in
    grows_same c.args.self.now.taken c.loop-self.self.taken c.next_found.new.self.taken c.loop-self.pieces (i.grown before start stream s) still

pub loop-self-init : goal.loop-self-init
loop-self-init g c =
    let none = c.new-pieces.ensures in
    let size = ap length none in
    record {
      within = omega arith;
      few = omega (arith, size);
      later = omega arith;
      end = λ at. at;
      same = record { kind = refl; paths = refl; is_begun = refl; is_spent = refl };
      many = [];
      each = subst (λ (ps : List ReadRecord). AllZip (IsGiven c.args.self.now.paths) [] ps) (sym none) tt;
      shown = λ seen saw. subst (λ (rs : List Record). g.W.Watcher.saw c.args.watcher.now rs) (sym (append-nil seen)) saw;
      grown = λ before start stream s. subst (λ (ps : List ReadRecord). GrowsBy c.args.self.now.taken c.args.self.now.taken ps) (sym none) refl;
      way = λ before start stream s. begun g.S.Source.tells (g.S.Source.left c.args.source.now) c.args.self.now before start stream s;
    }
