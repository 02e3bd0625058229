-- Each step keeps the rule.
use Rattle.std.proofs.Common.{◌≡◌, ◌≢◌, ℕ, zero, suc, ◌+◌, ◌%◌, ◌^◌, ◌<◌, ◌≤◌, ◌⊎◌, inl, inr, ⊎_elim, Bool, true, false, cond, eqb, List, [], ◌∷◌, ◌++◌, length, get_or, set, All, Option, Some, refl, sym, ap, ◌∙◌, subst, arith, append-nil, length-set, eq-eqb, ne_eqb}
use Rattle.std.proofs.Math.Nat.{mod-add-mod}
use Rattle.std.proofs.lemmas.List.Elements.{All-append, All-cons, All-nil, All-map}
use mathlib.Core.Logic.{dite}
use mathlib.Core.Option.{some, none, some-injective, some-ne-none}
use native.Mathlib.Decide.{ℕ_discrete}
use lib.ListN.{get_elem?}
use lib.Seq.{set-get_or}
use Rattle.atomic_table.specs.Table.{State, Me, step, Act, keeps, takes, gives, Valid, carried_after, stepped, Allows, Splits, Joins, opening, Final, Seen}
use Rattle.atomic_table.proofs.Lists.{at_set, set_here, set_else, set_again, at_longer, at_last, one_turn}
use Rattle.turn_lock.specs.declared.board.Phase.{Phase}
use Rattle.turn_lock.specs.declared.board.Phase.TheVariants.{Idle, Joined, Waits, InTurn, Spent}
use Rattle.turn_lock.specs.declared.board.View.{View}
use Rattle.turn_lock.specs.declared.board.Terms.{Terms}
use Rattle.turn_lock.specs.Turns.{entries, stamp, IsAbsent, Grows, total, tickets_of, outs_of, tickets, outs, IsOthers, first_view, spent_view, left_of, right_of, both_of, Sits, Hears, Knows, Kept, Told, drew, Served, looked, passed, learned}
use Rattle.turn_lock.proofs.Lists.{all_head, all_tail, all_left, all_right, all_more, longer_one, at_end, set_there, total_set, total_snoc, total_le, total_one, total_two, apart_at, grows_none, grows_more, grows_weaker, grows_longer, entries-stamp}

bool_cases : (b : Bool) → (b ≡ true) ⊎ (b ≡ false)
bool_cases true = inl refl
bool_cases false = inr refl

tickets-le-outs : (p : Phase) → tickets_of p ≤ outs_of p
tickets-le-outs Idle = omega arith
tickets-le-outs Joined = omega arith
tickets-le-outs (Waits t) = omega arith
tickets-le-outs InTurn = omega arith
tickets-le-outs Spent = omega arith

pub calm : {A E : Type 0} (v : View A E) → v.phase ≡ Idle → record v { phase = Idle } ≡ v
calm v e = ap (λ (p : Phase). record v { phase = p }) (sym e)

module _ {T A E : Type 0} (stands : T → A → List E → Type 0) (terms : Terms A) where
  abbrev W : Type 0
  W = View A E

  abbrev St : Type 0
  St = State (Option T) W

  abbrev M : Type 0
  M = Me (Option T) W

  abbrev Rule : St → Type 0
  Rule = Kept stands terms

  abbrev start : A
  start = terms.start.value

  abbrev Named : List W → ℕ → ℕ → Type 0
  Named vs i n = (u : W) × (get_elem? vs i ≡ some u) × (outs u ≡ 1) × (u.number ≡ n)

  abbrev Holder : List W → ℕ → Type 0
  Holder vs i = (u : W) × (get_elem? vs i ≡ some u) × (u.phase ≡ InTurn)

  seats_stay : (K : ℕ → W → Type 0) (vs : List W) (me : ℕ) (w : W) → K me w → ((j : ℕ) (d : W) → j ≢ me → get_elem? vs j ≡ some d → K j d) → (j : ℕ) (d : W) → get_elem? (set vs me w) j ≡ some d → K j d
  seats_stay K vs me w mine others j d e = ⊎_elim (λ (t : (j ≡ me) × (w ≡ d)). subst (λ (x : ℕ × W). K x.0 x.1) (λ i. (sym t.0 i, t.1 i)) mine)
      (λ (t : (j ≢ me) × (get_elem? vs j ≡ some d)). others j d t.0 t.1) (at_set vs me j w d e)

  numbers_stay : (vs : List W) (id : ℕ) (v w : W) → get_elem? vs id ≡ some v → outs w ≡ 1 → w.number ≡ v.number → (i n : ℕ) → Named vs i n → Named (set vs id w) i n
  numbers_stay vs id v w at out same i n named = dite (ℕ_discrete i id)
      (λ here.
      let is : v ≡ named.0 = some-injective v named.0 (sym at ∙ (ap (λ (k : ℕ). get_elem? vs k) (sym here) ∙ named.1)) in
      (w, subst (λ (k : ℕ). get_elem? (set vs id w) k ≡ some w) (sym here) (set_there vs id v w at), out, same ∙ (ap (λ (x : W). x.number) is ∙ named.3)))
      (λ other. (named.0, set_else vs id i w other ∙ named.1, named.2, named.3))

  holder_stay : (vs : List W) (id : ℕ) (v w : W) → get_elem? vs id ≡ some v → v.phase ≢ InTurn → (i : ℕ) → Holder vs i → Holder (set vs id w) i
  holder_stay vs id v w at not i held =
      let other : i ≢ id = λ here. not (ap (λ (x : W). x.phase) (some-injective v held.0 (sym at ∙ (ap (λ (k : ℕ). get_elem? vs k) (sym here) ∙ held.1))) ∙ held.2) in
      (held.0, set_else vs id i w other ∙ held.1, held.2)

  module _ (log : List (ℕ × E)) (drawn served : ℕ) (owner : ℕ → ℕ) (busy : Bool) (place : ℕ → ℕ) (given : ℕ) (joined : List ℕ) (j : ℕ) (v : W) where
    sits_of : (p : Phase) → outs_of p ≡ 1 → Knows start log drawn served owner busy place given joined j v p → Sits start log place given joined j v
    sits_of Idle out k = k
    sits_of Joined out k = k.0
    sits_of (Waits t) out k = k.0
    sits_of InTurn out k = k.0
    sits_of Spent out k = absurd (omega arith)

    -- the same seat at another phase
    sits_as : (p : Phase) → Sits start log place given joined j v → Sits start log place given joined j (record v { phase = p })
    sits_as p h = record { starts = h.starts; placed = h.placed; within = h.within; apart = h.apart; sees = h.sees; first = h.first; later = h.later }

    reseat : (place' : ℕ → ℕ) (given' : ℕ) (joined' : List ℕ) → (Sits start log place given joined j v → Sits start log place' given' joined' j v) → (p : Phase)
        → Knows start log drawn served owner busy place given joined j v p → Knows start log drawn served owner busy place' given' joined' j v p
    reseat place' given' joined' f Idle k = f k
    reseat place' given' joined' f Joined k = (f k.0, k.1)
    reseat place' given' joined' f (Waits t) k = (f k.0, k.1, k.2, k.3)
    reseat place' given' joined' f InTurn k = (f k.0, k.1, k.2, k.3, k.4)
    reseat place' given' joined' f Spent k = tt

    -- another seat draws a ticket
    others_drew : (me : ℕ) (p : Phase) → Knows start log drawn served owner busy place given joined j v p
        → Knows start log (drawn + 1) served (λ t. cond (eqb t drawn) me (owner t)) busy place given joined j v p
    others_drew me Idle k = k
    others_drew me Joined k = k
    others_drew me (Waits t) k =
        let below : t < drawn = k.2 in
        (k.0, k.1, omega arith, subst (λ (b : Bool). cond b me (owner t) ≡ j) (sym (ne_eqb t drawn (λ e. omega arith))) k.3)
    others_drew me InTurn k =
        let below : served < drawn = k.1 in
        (k.0, omega arith, subst (λ (b : Bool). cond b me (owner served) ≡ j) (sym (ne_eqb served drawn (λ e. omega arith))) k.2, k.3, k.4)
    others_drew me Spent k = tt

    -- another seat comes in turn
    others_looked : busy ≡ false → (p : Phase) → Knows start log drawn served owner busy place given joined j v p → Knows start log drawn served owner true place given joined j v p
    others_looked free Idle k = k
    others_looked free Joined k = k
    others_looked free (Waits t) k = k
    others_looked free InTurn k = let b : busy ≡ true = k.3 in absurd (cc (b, free))
    others_looked free Spent k = tt

    -- a number that is neither the seat's nor among the joined ones is another's for this seat
    is_others : (n : ℕ) → n ≢ v.number → IsAbsent joined n → Sits start log place given joined j v → IsOthers v n
    is_others n differs absent h = (
      differs,
      dite (ℕ_discrete v.number 0)
          (λ z. subst (λ (ks : List ℕ). IsAbsent ks n) (sym (h.first z).1) absent)
          (λ z. subst (λ (ks : List ℕ). IsAbsent ks n) (sym (h.later z)) (All-nil (λ (k : ℕ). k ≢ n))),
    )

    stamped_all : (P : ℕ → Type 0) (n : ℕ) (added : List E) → P n → All (λ (x : ℕ × E). P x.0) (stamp n added)
    stamped_all P n added p = All-map (λ (x : ℕ × E). P x.0) (λ (e : E). (n, e)) added (λ k d l. p)

    passed_at : (id : ℕ) (added : List (ℕ × E)) → j ≢ id → owner served ≡ id → (Sits start log place given joined j v → Sits start (log ++ added) place given joined j v)
        → (Sits start log place given joined j v → Hears log v → Hears (log ++ added) v) → (p : Phase)
        → Knows start log drawn served owner busy place given joined j v p → Knows start (log ++ added) drawn (served + 1) owner false place given joined j v p
    passed_at id added other mine sits hears Idle k = sits k
    passed_at id added other mine sits hears Joined k = (sits k.0, hears k.0 k.1)
    passed_at id added other mine sits hears (Waits t) k =
        let from : served ≤ t = k.1 in let below : t < drawn = k.2 in
        let differs : served ≢ t = λ e. other (sym k.3 ∙ (ap owner (sym e) ∙ mine)) in
        (sits k.0, omega arith, below, k.3)
    passed_at id added other mine sits hears InTurn k = absurd (other (sym k.2 ∙ mine))
    passed_at id added other mine sits hears Spent k = tt

    -- the seat `id`, whose number is n, passes the turn
    others_passed : (id n : ℕ) (added : List E) → j ≢ id → owner served ≡ id → place n ≡ id → IsAbsent joined n → (p : Phase)
        → Knows start log drawn served owner busy place given joined j v p → Knows start (log ++ stamp n added) drawn (served + 1) owner false place given joined j v p
    others_passed id n added other mine placed absent p k =
        let sits : Sits start log place given joined j v → Sits start (log ++ stamp n added) place given joined j v = λ h.
        let differs : n ≢ v.number = λ e. other (sym h.placed ∙ (ap place (sym e) ∙ placed)) in
        record {
          starts = h.starts;
          placed = h.placed;
          within = h.within;
          apart = h.apart;
          first = h.first;
          later = h.later;
          sees = grows_more (IsOthers v) v.seen log (stamp n added) h.sees (stamped_all (IsOthers v) n added (is_others n differs absent h));
        } in
        let hears : Sits start log place given joined j v → Hears log v → Hears (log ++ stamp n added) v = λ h e.
        let differs : n ≢ v.number = λ q. other (sym h.placed ∙ (ap place (sym q) ∙ placed)) in
        let all : IsAbsent (e.number ∷ e.others) n = subst (λ (ks : List ℕ). IsAbsent ks n) e.joined (is_others n differs absent h).1 in
        let P : ℕ → Type 0 = λ q. (q ≢ v.number) × IsAbsent e.others q in
        let Q : ℕ → Type 0 = λ q. q ≢ e.number in
        record {
          number = e.number;
          others = e.others;
          joined = e.joined;
          one = e.one;
          long = e.long;
          own = grows_more P v.before log (stamp n added) e.own (stamped_all P n added (differs, all_tail (λ (k : ℕ). k ≢ n) e.number e.others all));
          theirs = grows_more Q v.heard log (stamp n added) e.theirs (stamped_all Q n added (λ q. all_head (λ (k : ℕ). k ≢ n) e.number e.others all (sym q)));
        } in
        passed_at id (stamp n added) other mine sits hears p k

  -- ---- the steps
  still : (s : St) (r : Rule s) (i id : ℕ) (cs : List (ℕ × Option T)) (v : W) → get_elem? s.views id ≡ some v → Rule (stepped s i (get_or s.words i 0) id cs v keeps)
  still s r i id cs v at =
      subst (λ (ws : List ℕ). Rule record { words = ws; homes = s.homes; views = set s.views id v }) (sym (set-get_or s.words i 0))
      (subst (λ (vs : List W). Rule record { words = s.words; homes = s.homes; views = vs }) (sym (set_again s.views id v at)) r)

  pub draws : (slots id : ℕ) (me : M) → me.0.phase ≡ Idle → Allows Rule slots id me 0 (λ n. (n + 1) % 2 ^ 64) (drew (step slots 0 1 0 none) me)
  draws slots id me idle s r deep at small =
      let v : W = me.0 in
      let w : W = record v { phase = Waits r.drawn } in
      let mine : Sits start r.log r.place r.given r.joined id v = sits_of r.log r.drawn r.served r.owner r.busy r.place r.given r.joined id v v.phase (ap outs_of idle) (r.each_seat id v at) in
      let owner' : ℕ → ℕ = λ t. cond (eqb t r.drawn) id (r.owner t) in
      let held : r.drawn ≡ r.served + total tickets s.views = r.held in
      let none_yet : tickets v ≡ 0 = ap tickets_of idle in
      let out : outs v ≡ 1 = ap outs_of idle in
      let one_more : total tickets (set s.views id w) + tickets v ≡ total tickets s.views + 1 = total_set tickets s.views id v w at in
      let as_many : total outs (set s.views id w) + outs v ≡ total outs s.views + 1 = total_set outs s.views id v w at in
      let same_out : total outs (set s.views id w) ≡ total outs s.views = omega arith in (
        w,
        keeps,
        tt,
        record {
          log = r.log;
          drawn = r.drawn + 1;
          served = r.served;
          owner = owner';
          busy = r.busy;
          place = r.place;
          given = r.given;
          joined = r.joined;
          few = r.few;
          words = subst (λ (ws : List ℕ). set ws 0 ((get_or ws 0 0 + 1) % 2 ^ 64) ≡ ((r.drawn + 1) % 2 ^ 64) ∷ (r.served % 2 ^ 64) ∷ []) (sym r.words)
              (ap (λ (k : ℕ). k ∷ (r.served % 2 ^ 64) ∷ []) (mod-add-mod r.drawn (2 ^ 64) 1));
          home = r.home;
          holder = λ b.
              let h = r.holder b in
              let known = subst (λ (p : Phase). Knows start r.log r.drawn r.served r.owner r.busy r.place r.given r.joined (r.owner r.served) h.0 p) h.2 (r.each_seat (r.owner r.served) h.0 h.1) in
              let below : r.served < r.drawn = known.1 in
              let same : r.owner r.served ≡ owner' r.served = sym (ap (λ (b : Bool). cond b id (r.owner r.served)) (ne_eqb r.served r.drawn (λ e. omega arith))) in
              subst (λ (i : ℕ). Holder (set s.views id w) i) same (holder_stay s.views id v w at (λ e. cc (e, idle)) (r.owner r.served) h);
          held = omega arith;
          count = let c = r.count in omega arith;
          most = let c = r.most in omega arith;
          numbers = λ n le absent. numbers_stay s.views id v w at refl refl (r.place n) n (r.numbers n le absent);
          stamped = r.stamped;
          gone = r.gone;
          each_seat = seats_stay (λ j d. Knows start r.log (r.drawn + 1) r.served owner' r.busy r.place r.given r.joined j d d.phase) s.views id w (
            sits_as r.log r.drawn r.served r.owner r.busy r.place r.given r.joined id v (Waits r.drawn) mine,
            omega arith,
            omega arith,
            ap (λ (b : Bool). cond b id (r.owner r.drawn)) (eq-eqb r.drawn r.drawn refl),
          )
              (λ j d other e. others_drew r.log r.drawn r.served r.owner r.busy r.place r.given r.joined j d id d.phase (r.each_seat j d e));
        },
        (r.drawn, ap (λ (ws : List ℕ). get_or ws 0 0) r.words, refl),
      )

  -- where one seat is out, the first has seen all entries
  nothing_more : (s : St) (r : Rule s) (id : ℕ) (v : W) → get_elem? s.views id ≡ some v → outs v ≡ 1 → Sits start r.log r.place r.given r.joined id v → v.number ≡ 0 → length v.joined ≡ v.given → r.log ≡ v.seen
  nothing_more s r id v at out h is_first all = left h.sees.0 h.sees.1 h.sees.2 where
    left : (rest : List (ℕ × E)) → r.log ≡ v.seen ++ rest → All (λ x. IsOthers v x.0) rest → r.log ≡ v.seen
    left [] is others = is ∙ append-nil v.seen
    left (e ∷ es) is others =
        let other : IsOthers v e.0 = all_head (λ (x : ℕ × E). IsOthers v x.0) e es others in
        let first = h.first is_first in
        let low : e.0 ≤ r.given = all_head (λ (x : ℕ × E). x.0 ≤ r.given) e es (all_right (λ (x : ℕ × E). x.0 ≤ r.given) v.seen (e ∷ es) (subst (λ (l : List (ℕ × E)). All (λ x. x.0 ≤ r.given) l) is r.stamped)) in
        let named = r.numbers e.0 low (subst (λ (ks : List ℕ). IsAbsent ks e.0) first.1 other.1) in
        let apart : id ≢ r.place e.0 = apart_at s.views id (r.place e.0) v named.0 at named.1 (λ q. other.0 (sym named.3 ∙ sym (ap (λ (x : W). x.number) q))) in
        let two = total_two outs s.views id (r.place e.0) v named.0 apart at named.1 in
        let count = r.count in
        let o : outs v ≡ 1 = out in
        let o' : outs named.0 ≡ 1 = named.2 in
        let long : length r.joined ≡ r.given = sym (ap (λ (ks : List ℕ). length ks) first.1) ∙ (all ∙ first.0) in
        absurd (omega arith)

  -- the two tickets are one, since fewer are held than a word counts
  one_ticket : (s : St) (r : Rule s) (t : ℕ) → r.served ≤ t → t < r.drawn → r.served % 2 ^ 64 ≡ t % 2 ^ 64 → r.served ≡ t
  one_ticket s r t from below same =
      let held : r.drawn ≡ r.served + total tickets s.views = r.held in
      let few : total tickets s.views ≤ total outs s.views = total_le tickets outs (λ v. tickets-le-outs v.phase) s.views in
      let most = r.most in
      let small = r.few in
      one_turn r.served t (2 ^ 64) from (omega arith) same

  -- the seat's ticket is served
  comes : (id : ℕ) (me : M) (t : ℕ) → me.0.phase ≡ Waits t → (s : St) (r : Rule s) → length s.homes ≡ 1 → get_elem? s.views id ≡ some me.0 → r.served ≡ t → (w : W) × (a : Act (Option T)) × Valid s.homes me.1 a
      × Rule (stepped s 1 (get_or s.words 1 0) id me.1 w a) × Served stands me (w, carried_after me.1 a)
  comes id me t waits s r deep at now =
      let v : W = me.0 in
      let known = subst (λ (p : Phase). Knows start r.log r.drawn r.served r.owner r.busy r.place r.given r.joined id v p) waits (r.each_seat id v at) in
      let mine : Sits start r.log r.place r.given r.joined id v = known.0 in
      let below : t < r.drawn = known.2 in
      let owns : r.owner r.served ≡ id = ap r.owner now ∙ known.3 in
      let free : r.busy ≡ false = elim (bool_cases r.busy) [
        | inl b ↦
            let h = r.holder b in
            let is : v ≡ h.0 = some-injective v h.0 (sym at ∙ (ap (λ (k : ℕ). get_elem? s.views k) (sym owns) ∙ h.1)) in
            let in_turn : v.phase ≡ InTurn = ap (λ (x : W). x.phase) is ∙ h.2 in
            absurd (cc (in_turn, waits))
        | inr b ↦ b
      ] in
      let home = r.home free in
      let w : W = record v { phase = InTurn; seen = r.log } in
      let sits : Sits start r.log r.place r.given r.joined id w = record { starts = mine.starts; placed = mine.placed; within = mine.within; apart = mine.apart; first = mine.first; later = mine.later; sees = grows_none (IsOthers w) r.log } in
      let one : tickets v ≡ 1 = ap tickets_of waits in
      let out : outs v ≡ 1 = ap outs_of waits in
      let held : r.drawn ≡ r.served + total tickets s.views = r.held in
      let as_many : total tickets (set s.views id w) + tickets v ≡ total tickets s.views + 1 = total_set tickets s.views id v w at in
      let as_out : total outs (set s.views id w) + outs v ≡ total outs s.views + 1 = total_set outs s.views id v w at in (
        w,
        takes 0 (Some home.0),
        home.1,
        subst (λ (ws : List ℕ). Rule record { words = ws; homes = set s.homes 0 none; views = set s.views id w }) (sym (set-get_or s.words 1 0)) record {
          log = r.log;
          drawn = r.drawn;
          served = r.served;
          owner = r.owner;
          busy = true;
          place = r.place;
          given = r.given;
          joined = r.joined;
          few = r.few;
          words = r.words;
          home = λ b. absurd (cc b);
          holder = λ _. (w, subst (λ (i : ℕ). get_elem? (set s.views id w) i ≡ some w) (sym owns) (set_there s.views id v w at), refl);
          held = omega arith;
          count = let c = r.count in omega arith;
          most = let c = r.most in omega arith;
          numbers = λ n le absent. numbers_stay s.views id v w at refl refl (r.place n) n (r.numbers n le absent);
          stamped = r.stamped;
          gone = r.gone;
          each_seat = seats_stay (λ j d. Knows start r.log r.drawn r.served r.owner true r.place r.given r.joined j d d.phase) s.views id w
              (sits, omega arith, owns, refl, refl)
              (λ j d other e. others_looked r.log r.drawn r.served r.owner r.busy r.place r.given r.joined j d free d.phase (r.each_seat j d e));
        },
        record {
          value = home.0;
          all = r.log;
          seat = refl;
          grows = mine.sees;
          stood = λ a is. let same : start ≡ a = cc (mine.starts, is) in subst (λ (z : A). stands home.0 z (entries r.log)) same home.2;
          numbered = λ is_first. subst (λ (n : ℕ). All (λ (x : ℕ × E). x.0 ≤ n) r.log) (sym (mine.first is_first).0) r.stamped;
          alone = λ is_first all. nothing_more s r id v at out mine is_first all;
        },
      )

  pub looks : (slots id : ℕ) (me : M) (t : ℕ) → slots ≡ 1 → me.0.phase ≡ Waits t → Allows Rule slots id me 1 (λ n. n) (looked stands (step slots 1 0 0 none) me)
  looks slots id me t single waits s r deep at small =
      let v : W = me.0 in
      let known = subst (λ (p : Phase). Knows start r.log r.drawn r.served r.owner r.busy r.place r.given r.joined id v p) waits (r.each_seat id v at) in
      let now : get_or s.words 1 0 ≡ r.served % 2 ^ 64 = ap (λ (ws : List ℕ). get_or ws 1 0) r.words in
      dite (ℕ_discrete (get_or s.words 1 0) (t % 2 ^ 64))
      (λ hit.
      let c = comes id me t waits s r (deep ∙ single) at (one_ticket s r t known.1 known.2 (sym now ∙ hit)) in (
        c.0,
        c.1,
        c.2,
        c.3,
        λ t' is.
            let same : t ≡ t' = cc (waits, is) in
            (λ _. c.4, λ miss. absurd (miss (hit ∙ ap (λ (k : ℕ). k % 2 ^ 64) same))),
      ))
      (λ miss. (
        v,
        keeps,
        tt,
        still s r 1 id me.1 v at,
        λ t' is.
            let same : t ≡ t' = cc (waits, is) in
            (λ hit. absurd (miss (hit ∙ ap (λ (k : ℕ). k % 2 ^ 64) (sym same))), λ _. refl),
      ))

  pub passes : (slots id : ℕ) (me : M) (x : T) (added : List E) → slots ≡ 1 → me.0.phase ≡ InTurn → me.1 ≡ (0, Some x) ∷ [] → stands x start (entries me.0.seen ++ added)
      → Allows Rule slots id me 1 (λ n. (n + 1) % 2 ^ 64) (passed added (step slots 1 1 0 none) me)
  passes slots id me x added single turn carried stood s r deep at small =
      let v : W = me.0 in
      let known = subst (λ (p : Phase). Knows start r.log r.drawn r.served r.owner r.busy r.place r.given r.joined id v p) turn (r.each_seat id v at) in
      let mine : Sits start r.log r.place r.given r.joined id v = known.0 in
      let new : List (ℕ × E) = stamp v.number added in
      let w : W = record v { phase = Idle; seen = v.seen ++ new } in
      let log' : List (ℕ × E) = r.log ++ new in
      let all : v.seen ++ new ≡ log' = ap (λ (l : List (ℕ × E)). l ++ new) known.4 in
      let sits : Sits start log' r.place r.given r.joined id w = record {
        starts = mine.starts;
        placed = mine.placed;
        within = mine.within;
        apart = mine.apart;
        first = mine.first;
        later = mine.later;
        sees = subst (λ (l : List (ℕ × E)). Grows (IsOthers w) (v.seen ++ new) l) all (grows_none (IsOthers w) (v.seen ++ new));
      } in
      let one : tickets v ≡ 1 = ap tickets_of turn in
      let out : outs v ≡ 1 = ap outs_of turn in
      let held : r.drawn ≡ r.served + total tickets s.views = r.held in
      let fewer : total tickets (set s.views id w) + tickets v ≡ total tickets s.views + 0 = total_set tickets s.views id v w at in
      let as_out : total outs (set s.views id w) + outs v ≡ total outs s.views + 1 = total_set outs s.views id v w at in
      let within : v.number ≤ r.given = mine.within in
      subst (λ (cs : List (ℕ × Option T)). (w : W) × (a : Act (Option T)) × Valid s.homes cs a × Rule (stepped s 1 ((get_or s.words 1 0 + 1) % 2 ^ 64) id cs w a) × passed added (step slots 1 1 0 none) (v, cs) (get_or s.words 1 0) (w, carried_after cs a)) (sym carried) (
        w,
        gives,
        tt,
        record {
          log = log';
          drawn = r.drawn;
          served = r.served + 1;
          owner = r.owner;
          busy = false;
          place = r.place;
          given = r.given;
          joined = r.joined;
          few = r.few;
          words = subst (λ (ws : List ℕ). set ws 1 ((get_or ws 1 0 + 1) % 2 ^ 64) ≡ (r.drawn % 2 ^ 64) ∷ ((r.served + 1) % 2 ^ 64) ∷ []) (sym r.words)
              (ap (λ (k : ℕ). (r.drawn % 2 ^ 64) ∷ k ∷ []) (mod-add-mod r.served (2 ^ 64) 1));
          home = λ _. (x, set_here s.homes 0 (some (Some x)) (omega (arith, deep, single)), subst (λ (l : List (ℕ × E)). stands x start (entries l)) all (subst (λ (es : List E). stands x start es) (sym (entries-stamp v.seen v.number added)) stood));
          holder = λ b. absurd (cc b);
          held = omega arith;
          count = let c = r.count in omega arith;
          most = let c = r.most in omega arith;
          numbers = λ n le absent. numbers_stay s.views id v w at refl refl (r.place n) n (r.numbers n le absent);
          stamped = All-append (λ (x : ℕ × E). x.0 ≤ r.given) r.log new r.stamped (All-map (λ (x : ℕ × E). x.0 ≤ r.given) (λ (e : E). (v.number, e)) added (λ k d l. within));
          gone = r.gone;
          each_seat = seats_stay (λ j d. Knows start log' r.drawn (r.served + 1) r.owner false r.place r.given r.joined j d d.phase) s.views id w sits
              (λ j d other e. others_passed r.log r.drawn r.served r.owner r.busy r.place r.given r.joined j d id v.number added other known.2 mine.placed mine.apart d.phase (r.each_seat j d e));
        },
        refl,
      )

  -- what the rule says of a seat at rest
  told : (s : St) (r : Rule s) (id : ℕ) (v : W) → get_elem? s.views id ≡ some v → outs v ≡ 1 → Sits start r.log r.place r.given r.joined id v → (v.phase ≡ Joined → Hears r.log v) → Told v
  told s r id v at out mine hears = record {
    numbered = λ is_first. subst (λ (n : ℕ). All (λ (x : ℕ × E). x.0 ≤ n) v.seen) (sym (mine.first is_first).0)
        (all_left (λ (x : ℕ × E). x.0 ≤ r.given) v.seen mine.sees.0 (subst (λ (l : List (ℕ × E)). All (λ x. x.0 ≤ r.given) l) mine.sees.1 r.stamped));
    few = λ is_first.
        let first = mine.first is_first in
        let one = total_one outs s.views id v at in
        let o : outs v ≡ 1 = out in
        let c = r.count in
        let long : length v.joined ≡ length r.joined = ap (λ (ks : List ℕ). length ks) first.1 in
        let many : v.given ≡ r.given = first.0 in
        omega arith;
    hears = λ joined.
        let h = hears joined in
        let both = grows_longer (λ n. (n ≢ v.number) × IsAbsent h.others n) (λ n. n ≢ h.number) v.before v.heard r.log h.own h.theirs in
        record {
          number = h.number;
          others = h.others;
          joined = h.joined;
          one = h.one;
          long = h.long;
          own = subst (λ (l : List (ℕ × E)). Grows (λ n. (n ≢ v.number) × IsAbsent h.others n) v.before l) (sym h.long) both.1;
          theirs = subst (λ (l : List (ℕ × E)). Grows (λ n. n ≢ h.number) v.heard l) (sym h.long) both.2;
        };
  }

  -- a seat at rest goes on at the phase `Idle`
  calms : (s : St) (r : Rule s) (id : ℕ) (v : W) → get_elem? s.views id ≡ some v → tickets v ≡ 0 → outs v ≡ 1 → v.phase ≢ InTurn → Sits start r.log r.place r.given r.joined id v
      → (i : ℕ) (cs : List (ℕ × Option T)) → Rule (stepped s i (get_or s.words i 0) id cs (record v { phase = Idle }) keeps)
  calms s r id v at none_held out not_in_turn mine i cs =
      let w : W = record v { phase = Idle } in
      let t : tickets v ≡ 0 = none_held in
      let o : outs v ≡ 1 = out in
      let as_many : total tickets (set s.views id w) + tickets v ≡ total tickets s.views + 0 = total_set tickets s.views id v w at in
      let as_out : total outs (set s.views id w) + outs v ≡ total outs s.views + 1 = total_set outs s.views id v w at in
      let held : r.drawn ≡ r.served + total tickets s.views = r.held in
      subst (λ (ws : List ℕ). Rule record { words = ws; homes = s.homes; views = set s.views id w }) (sym (set-get_or s.words i 0)) record {
        log = r.log;
        drawn = r.drawn;
        served = r.served;
        owner = r.owner;
        busy = r.busy;
        place = r.place;
        given = r.given;
        joined = r.joined;
        few = r.few;
        words = r.words;
        home = r.home;
        holder = λ b. holder_stay s.views id v w at not_in_turn (r.owner r.served) (r.holder b);
        held = omega arith;
        count = let c = r.count in omega arith;
        most = let c = r.most in omega arith;
        numbers = λ n le absent. numbers_stay s.views id v w at refl refl (r.place n) n (r.numbers n le absent);
        stamped = r.stamped;
        gone = r.gone;
        each_seat = seats_stay (λ j d. Knows start r.log r.drawn r.served r.owner r.busy r.place r.given r.joined j d d.phase) s.views id w
            (sits_as r.log r.drawn r.served r.owner r.busy r.place r.given r.joined id v Idle mine) (λ j d other e. r.each_seat j d e);
      }

  pub learns : (slots id : ℕ) (me : M) → (me.0.phase ≡ Idle) ⊎ (me.0.phase ≡ Joined) → Allows Rule slots id me 1 (λ n. n) (learned (step slots 1 0 0 none) me)
  learns slots id me resting s r deep at small =
      let v : W = me.0 in
      let K : Phase → Type 0 = Knows start r.log r.drawn r.served r.owner r.busy r.place r.given r.joined id v in
      let w : W = record v { phase = Idle } in
      elim resting [
        | inl idle ↦
            let mine : Sits start r.log r.place r.given r.joined id v = subst K idle (r.each_seat id v at) in
            (w, keeps, tt, calms s r id v at (ap tickets_of idle) (ap outs_of idle) (λ e. cc (e, idle)) mine 1 me.1, (refl, told s r id v at (ap outs_of idle) mine (λ e. absurd (cc (e, idle)))))
        | inr joined ↦
            let known = subst K joined (r.each_seat id v at) in
            (w, keeps, tt, calms s r id v at (ap tickets_of joined) (ap outs_of joined) (λ e. cc (e, joined)) known.0 1 me.1, (refl, told s r id v at (ap outs_of joined) known.0 (λ _. known.1)))
      ]

  pub splits : (id : ℕ) (v : W) → v.phase ≡ Idle → v.number ≡ 0 → v.given + 1 < terms.seats + length v.joined → Splits Rule id v (left_of v) (right_of v)
  splits id v idle is_first room s r at =
      let mine : Sits start r.log r.place r.given r.joined id v = subst (Knows start r.log r.drawn r.served r.owner r.busy r.place r.given r.joined id v) idle (r.each_seat id v at) in
      let first = mine.first is_first in
      let many : v.given ≡ r.given = first.0 in
      let long : length v.joined ≡ length r.joined = ap (λ (ks : List ℕ). length ks) first.1 in
      let one : W = left_of v in
      let two : W = right_of v in
      let vs : List W = set s.views id one in
      let t : tickets v ≡ 0 = ap tickets_of idle in
      let t' : tickets one ≡ 0 = ap tickets_of idle in
      let o : outs v ≡ 1 = ap outs_of idle in
      let o' : outs one ≡ 1 = ap outs_of idle in
      let as_many : total tickets vs + tickets v ≡ total tickets s.views + tickets one = total_set tickets s.views id v one at in
      let as_out : total outs vs + outs v ≡ total outs s.views + outs one = total_set outs s.views id v one at in
      let then_many : total tickets (vs ++ two ∷ []) ≡ total tickets vs + 0 = total_snoc tickets vs two in
      let then_out : total outs (vs ++ two ∷ []) ≡ total outs vs + 1 = total_snoc outs vs two in
      let held : r.drawn ≡ r.served + total tickets s.views = r.held in
      let count : total outs s.views + length r.joined ≡ r.given + 1 = r.count in
      let wide : length vs ≡ length s.views = length-set s.views id one in
      let place' : ℕ → ℕ = λ n. cond (eqb n (r.given + 1)) (length s.views) (r.place n) in
      let old_place : (n : ℕ) → n ≤ r.given → place' n ≡ r.place n = λ n le. ap (λ (b : Bool). cond b (length s.views) (r.place n)) (ne_eqb n (r.given + 1) (λ e. omega arith)) in
      let new_place : (n : ℕ) → n ≡ r.given + 1 → place' n ≡ length s.views = λ n e. ap (λ (b : Bool). cond b (length s.views) (r.place n)) (eq-eqb n (r.given + 1) e) in
      let others : (j : ℕ) (d : W) → j ≢ id → Sits start r.log r.place r.given r.joined j d → Sits start r.log place' (r.given + 1) r.joined j d = λ j d other h.
      let within : d.number ≤ r.given = h.within in
      record {
        starts = h.starts;
        placed = old_place d.number within ∙ h.placed;
        within = omega arith;
        apart = h.apart;
        sees = h.sees;
        later = h.later;
        first = λ z. absurd (other (sym h.placed ∙ (ap r.place (z ∙ sym is_first) ∙ mine.placed)));
      } in
      let own : Sits start r.log place' (r.given + 1) r.joined id one = let within : v.number ≤ r.given = mine.within in
      record { starts = mine.starts; placed = old_place v.number within ∙ mine.placed; within = omega arith; apart = mine.apart; sees = mine.sees; first = λ _. (ap (λ (n : ℕ). n + 1) many, first.1); later = mine.later } in
      let number : two.number ≡ r.given + 1 = ap (λ (n : ℕ). n + 1) many in
      let Low : List (ℕ × E) → Type 0 = λ l. All (λ (x : ℕ × E). x.0 ≤ r.given) l in
      let fresh : Sits start r.log place' (r.given + 1) r.joined (length s.views) two = record {
        starts = mine.starts;
        placed = new_place two.number number;
        within = omega arith;
        apart = all_more (λ (k : ℕ). k ≤ r.given) (λ k. k ≢ two.number) r.joined (λ k le e. omega arith) r.gone;
        sees = (
          mine.sees.0,
          mine.sees.1,
          all_more (λ (x : ℕ × E). x.0 ≤ r.given) (λ x. IsOthers two x.0) mine.sees.0 (λ x le. ((λ e. omega arith), All-nil (λ (k : ℕ). k ≢ x.0)))
              (all_right (λ (x : ℕ × E). x.0 ≤ r.given) v.seen mine.sees.0 (subst Low mine.sees.1 r.stamped)),
        );
        first = λ z. absurd (omega arith);
        later = λ _. refl;
      } in
      record {
        log = r.log;
        drawn = r.drawn;
        served = r.served;
        owner = r.owner;
        busy = r.busy;
        place = place';
        given = r.given + 1;
        joined = r.joined;
        few = r.few;
        words = r.words;
        home = r.home;
        holder = λ b. let h = holder_stay s.views id v one at (λ e. cc (e, idle)) (r.owner r.served) (r.holder b) in (h.0, at_longer vs (two ∷ []) (r.owner r.served) h.0 h.1, h.2);
        held = omega arith;
        count = omega arith;
        most = omega arith;
        numbers = λ n le absent. dite (ℕ_discrete n (r.given + 1))
            (λ new. (two, subst (λ (k : ℕ). get_elem? (vs ++ two ∷ []) k ≡ some two) (sym (new_place n new)) (at_last vs two (length s.views) wide), refl, number ∙ sym new))
            (λ old.
            let low : n ≤ r.given = omega arith in
            let h = numbers_stay s.views id v one at o' refl (r.place n) n (r.numbers n low absent) in
            (h.0, subst (λ (k : ℕ). get_elem? (vs ++ two ∷ []) k ≡ some h.0) (sym (old_place n low)) (at_longer vs (two ∷ []) (r.place n) h.0 h.1), h.2, h.3));
        stamped = all_more (λ (x : ℕ × E). x.0 ≤ r.given) (λ x. x.0 ≤ r.given + 1) r.log (λ x le. omega arith) r.stamped;
        gone = all_more (λ (k : ℕ). k ≤ r.given) (λ k. k ≤ r.given + 1) r.joined (λ k le. omega arith) r.gone;
        each_seat = λ j d e. elim (at_end vs two d j e) [
          | inl old ↦ seats_stay (λ j d. Knows start r.log r.drawn r.served r.owner r.busy place' (r.given + 1) r.joined j d d.phase) s.views id one
              (subst (Knows start r.log r.drawn r.served r.owner r.busy place' (r.given + 1) r.joined id one) (sym idle) own)
              (λ j d other e. reseat r.log r.drawn r.served r.owner r.busy r.place r.given r.joined j d place' (r.given + 1) r.joined (others j d other) d.phase (r.each_seat j d e)) j d old
          | inr new ↦ subst (λ (x : ℕ × W). Knows start r.log r.drawn r.served r.owner r.busy place' (r.given + 1) r.joined x.0 x.1 x.1.phase) (λ i. (sym (new.0 ∙ wide) i, new.1 i)) fresh
        ];
      }

  pub joins : (id : ℕ) (v : W) (other : ℕ) (u : W) → v.phase ≡ Idle → v.number ≡ 0 → u.phase ≡ Idle → u.number ≢ 0 → Joins Rule id v other u (both_of v u) spent_view
  joins id v other u idle is_first their_idle not_first s r at apart there =
      let both : W = both_of v u in
      let vs : List W = set s.views id both in
      let them : get_elem? s.views other ≡ some u = sym (set_else s.views id other both apart) ∙ there in
      let K : ℕ → W → Phase → Type 0 = Knows start r.log r.drawn r.served r.owner r.busy r.place r.given r.joined in
      let mine : Sits start r.log r.place r.given r.joined id v = subst (K id v) idle (r.each_seat id v at) in
      let theirs : Sits start r.log r.place r.given r.joined other u = subst (K other u) their_idle (r.each_seat other u them) in
      let first = mine.first is_first in
      let t : tickets v ≡ 0 = ap tickets_of idle in
      let t' : tickets u ≡ 0 = ap tickets_of their_idle in
      let o : outs v ≡ 1 = ap outs_of idle in
      let o' : outs u ≡ 1 = ap outs_of their_idle in
      let spent : W = spent_view in
      let many1 : total tickets vs + tickets v ≡ total tickets s.views + 0 = total_set tickets s.views id v both at in
      let out1 : total outs vs + outs v ≡ total outs s.views + 1 = total_set outs s.views id v both at in
      let many2 : total tickets (set vs other spent) + tickets u ≡ total tickets vs + 0 = total_set tickets vs other u spent there in
      let out2 : total outs (set vs other spent) + outs u ≡ total outs vs + 0 = total_set outs vs other u spent there in
      let held : r.drawn ≡ r.served + total tickets s.views = r.held in
      let count : total outs s.views + length r.joined ≡ r.given + 1 = r.count in
      let most : total outs s.views ≤ terms.seats = r.most in
      let joined' : List ℕ = u.number ∷ r.joined in
      let longer_of = grows_longer (IsOthers v) (IsOthers u) v.seen u.seen r.log mine.sees theirs.sees in
      let own : Sits start r.log r.place r.given joined' id both = record {
        starts = mine.starts;
        placed = mine.placed;
        within = mine.within;
        apart = All-cons (λ (k : ℕ). k ≢ v.number) u.number r.joined (λ e. not_first (e ∙ is_first)) mine.apart;
        sees = grows_weaker (λ n. IsOthers v n × IsOthers u n) (IsOthers both) (λ n h. (h.0.0, All-cons (λ (k : ℕ). k ≢ n) u.number v.joined (λ e. h.1.0 (sym e)) h.0.1)) both.seen r.log longer_of.0;
        first = λ z. (first.0, ap (λ (ks : List ℕ). u.number ∷ ks) first.1);
        later = λ z. absurd (z is_first);
      } in
      let hears : Hears r.log both = record { number = u.number; others = v.joined; joined = refl; one = longer_one v.seen u.seen r.log mine.sees.0 theirs.sees.0 mine.sees.1 theirs.sees.1; own = mine.sees; theirs = grows_weaker (IsOthers u) (λ n. n ≢ u.number) (λ n h. h.0) u.seen r.log theirs.sees; long = refl } in
      let others : (j : ℕ) (d : W) → j ≢ id → j ≢ other → Sits start r.log r.place r.given r.joined j d → Sits start r.log r.place r.given joined' j d = λ j d not_me not_them h.
      record {
        starts = h.starts;
        placed = h.placed;
        within = h.within;
        sees = h.sees;
        later = h.later;
        apart = All-cons (λ (k : ℕ). k ≢ d.number) u.number r.joined (λ e. not_them (sym h.placed ∙ (ap r.place (sym e) ∙ theirs.placed))) h.apart;
        first = λ z. absurd (not_me (sym h.placed ∙ (ap r.place (z ∙ sym is_first) ∙ mine.placed)));
      } in
      let K' : ℕ → W → Type 0 = λ j d. Knows start r.log r.drawn r.served r.owner r.busy r.place r.given joined' j d d.phase in
      record {
        log = r.log;
        drawn = r.drawn;
        served = r.served;
        owner = r.owner;
        busy = r.busy;
        place = r.place;
        given = r.given;
        joined = joined';
        few = r.few;
        words = r.words;
        home = r.home;
        holder = λ b. holder_stay vs other u spent there (λ e. cc (e, their_idle)) (r.owner r.served) (holder_stay s.views id v both at (λ e. cc (e, idle)) (r.owner r.served) (r.holder b));
        held = omega arith;
        count = omega arith;
        most = omega arith;
        numbers = λ n le absent.
            let differs : u.number ≢ n = all_head (λ (k : ℕ). k ≢ n) u.number r.joined absent in
            let h = numbers_stay s.views id v both at refl refl (r.place n) n (r.numbers n le (all_tail (λ (k : ℕ). k ≢ n) u.number r.joined absent)) in
            let elsewhere : r.place n ≢ other = apart_at vs (r.place n) other h.0 u h.1 there (λ e. differs (sym (ap (λ (x : W). x.number) e) ∙ h.3)) in
            (h.0, set_else vs other (r.place n) spent elsewhere ∙ h.1, h.2, h.3);
        stamped = r.stamped;
        gone = All-cons (λ (k : ℕ). k ≤ r.given) u.number r.joined theirs.within r.gone;
        each_seat = seats_stay K' vs other spent tt (λ j d not_them e. seats_stay (λ j d. j ≢ other → K' j d) s.views id both (λ _. (own, hears))
            (λ j d not_me e not_them. reseat r.log r.drawn r.served r.owner r.busy r.place r.given r.joined j d r.place r.given joined' (others j d not_me not_them) d.phase (r.each_seat j d e)) j d e not_them);
      }

  -- ---- the beginning and the end
  pub opens : (value : T) → 1 ≤ terms.seats → terms.seats < 2 ^ 32 → stands value start [] → Rule (opening (0 ∷ 0 ∷ []) (Some value ∷ []) (first_view start))
  opens value some_seat few stood = record {
    log = [];
    drawn = 0;
    served = 0;
    owner = λ _. 0;
    busy = false;
    place = λ _. 0;
    given = 0;
    joined = [];
    few = few;
    words = refl;
    home = λ _. (value, refl, stood);
    holder = λ b. absurd (cc b);
    held = refl;
    count = refl;
    most = some_seat;
    numbers = λ n le absent. (first_view start, refl, refl, omega arith);
    stamped = All-nil (λ (x : ℕ × E). x.0 ≤ 0);
    gone = All-nil (λ (k : ℕ). k ≤ 0);
    each_seat = only;
  } where
    only : (j : ℕ) (d : W) → get_elem? (first_view start ∷ []) j ≡ some d → Knows start [] 0 0 (λ _. 0) false (λ _. 0) 0 [] j d d.phase
    only zero d e = subst (λ (x : W). Knows start [] 0 0 (λ _. 0) false (λ _. 0) 0 [] 0 x x.phase) (some-injective (first_view start) d e)
        record { starts = refl; placed = refl; within = omega arith; apart = All-nil (λ (k : ℕ). k ≢ 0); sees = grows_none (IsOthers (first_view {E = E} start)) []; first = λ _. (refl, refl); later = λ n. absurd (n refl) }
    only (suc j) d e = absurd (some-ne-none d (sym e))

  pub closes : (id : ℕ) (v : W) (ws : List ℕ) (xs : List (Option T)) → v.phase ≡ Idle → v.number ≡ 0 → length v.joined ≡ v.given → Final (Seen Rule id v) ws xs
      → (x : T) × (get_elem? xs 0 ≡ some (Some x)) × stands x start (entries v.seen)
  closes id v ws xs idle is_first all end =
      let s = end.0 in
      let r = end.1.0 in
      let at = end.1.1 in
      let mine : Sits start r.log r.place r.given r.joined id v = subst (Knows start r.log r.drawn r.served r.owner r.busy r.place r.given r.joined id v) idle (r.each_seat id v at) in
      let out : outs v ≡ 1 = ap outs_of idle in
      let first = mine.first is_first in
      let long : length r.joined ≡ r.given = sym (ap (λ (ks : List ℕ). length ks) first.1) ∙ (all ∙ first.0) in
      let free : r.busy ≡ false = elim (bool_cases r.busy) [
        | inl b ↦
            let h = r.holder b in
            let apart : id ≢ r.owner r.served = apart_at s.views id (r.owner r.served) v h.0 at h.1 (λ e. let q : v.phase ≡ InTurn = ap (λ (x : W). x.phase) e ∙ h.2 in cc (q, idle)) in
            let two = total_two outs s.views id (r.owner r.served) v h.0 apart at h.1 in
            let o : outs v ≡ 1 = out in
            let o' : outs h.0 ≡ 1 = ap outs_of h.2 in
            let c = r.count in
            absurd (omega arith)
        | inr b ↦ b
      ] in
      let home = r.home free in
      (home.0, end.4 0 (Some home.0) home.1, subst (λ (l : List (ℕ × E)). stands home.0 start (entries l)) (nothing_more s r id v at out mine is_first all) home.2)
