-- A configuration gives a host one schedule at a time.
use Rattle.std.proofs.Common.{◌≡◌, ℕ, Bool, true, false, ◌&&◌, List, [], ◌∷◌, refl, sym, ap, ◌∙◌, subst, Option, Some, None, bytes_eq, find}
use Rattle.std.specs.Prelude.{All, if◌then◌else◌, is_some, unwrap_or}
use Rattle.std.proofs.lemmas.Bool.{false≢true}
use Rattle.std.proofs.lemmas.List.Elements.{All-nil, All-cons, All-head, All-tail, All-weaker}
use Rattle.std.proofs.lemmas.Slice.Eq.{bytes_eq-Decides}
use Rattle.osq_config.specs.declared.config.Config.{Config}
use Rattle.change_records.specs.Events.{StandsBefore}
use Rattle.pack_rules.specs.declared.host.Host.{Host}
use Rattle.pack_rules.specs.declared.schedule.Form.{Form}
use Rattle.pack_rules.specs.declared.schedule.Schedule.{Schedule}
use Rattle.pack_rules.specs.declared.schedule.Scheduled.{Scheduled}
use Rattle.pack_rules.specs.ByName.{has_name, names_rise}
use Rattle.pack_rules.specs.Schedules.{IsScheduleOf}
use Rattle.entry_model.specs.declared.entry.Entry.{Entry}
use Rattle.entry_model.specs.declared.entry.Entry.TheVariants.{Configured}
use Rattle.session_model.specs.Configuring.{Configures, found_behind}
use Rattle.session_model.specs.Given.{Given}
use Rattle.run_laws.proofs.Names.{before_before, one_before}

abbrev IsBehind : List ℕ → Scheduled → Type 0
IsBehind name query = StandsBefore name query.key.name

both : (a b : Bool) → (a && b) ≡ true → (a ≡ true) × (b ≡ true)
both true b h = (refl, h)
both false b h = absurd (false≢true h)

-- where names rise, the first stands before all others
rising : (x : Scheduled) (xs : List Scheduled) → names_rise (x ∷ xs) ≡ true → All (IsBehind x.key.name) xs × (names_rise xs ≡ true)
rising x [] rise = (All-nil (IsBehind x.key.name), refl)
rising x (y ∷ xs) rise =
    let parts : StandsBefore x.key.name y.key.name × (names_rise (y ∷ xs) ≡ true) = both _ _ rise in
    let rest = rising y xs parts.1 in
    (All-cons (IsBehind x.key.name) y xs parts.0 (All-weaker (IsBehind y.key.name) (IsBehind x.key.name) (λ z later. before_before x.key.name y.key.name z.key.name parts.0 later) xs rest.0), parts.1)

-- what is found of a name in a list that begins with a query, by whether that has the name
abbrev found_by : Bool → List ℕ → Scheduled → List Scheduled → Option Scheduled
found_by has name x xs = if has then Some x else find (has_name name) xs

found_first : (name : List ℕ) (x : Scheduled) (xs : List Scheduled) → bytes_eq name x.key.name ≡ true → find (has_name name) (x ∷ xs) ≡ Some x
found_first name x xs e = ap (λ (b : Bool). found_by b name x xs) e

found_later : (name : List ℕ) (x : Scheduled) (xs : List Scheduled) → bytes_eq name x.key.name ≡ false → find (has_name name) (x ∷ xs) ≡ find (has_name name) xs
found_later name x xs e = ap (λ (b : Bool). found_by b name x xs) e

itself : (name : List ℕ) → bytes_eq name name ≡ true
itself name = (bytes_eq-Decides name name).1 refl

-- a name that stands before all names isn't among them
missing : (name : List ℕ) (xs : List Scheduled) → All (IsBehind name) xs → find (has_name name) xs ≡ None
missing name [] all = refl
missing name (x ∷ xs) all = by (missing name xs (All-tail (IsBehind name) x xs all)) (bytes_eq name x.key.name) refl where
  by : find (has_name name) xs ≡ None → (b : Bool) → bytes_eq name x.key.name ≡ b → find (has_name name) (x ∷ xs) ≡ None
  by rest true e =
      let first = All-head (IsBehind name) x xs all in
      let same : x.key.name ≡ name = sym ((bytes_eq-Decides name x.key.name).0 e) in
      let before : StandsBefore name name = subst (StandsBefore name) same first in
      absurd (one_before name name before before)
  by rest false e = found_later name x xs e ∙ rest

-- and a name that is found among them stands behind it
found_behind_it : (name other : List ℕ) (xs : List Scheduled) (s : Scheduled) → All (IsBehind name) xs → find (has_name other) xs ≡ Some s → StandsBefore name other
found_behind_it name other [] s all found = absurd (false≢true (ap is_some found))
found_behind_it name other (x ∷ xs) s all found = by (found_behind_it name other xs s (All-tail (IsBehind name) x xs all)) (bytes_eq other x.key.name) refl where
  by : (find (has_name other) xs ≡ Some s → StandsBefore name other) → (b : Bool) → bytes_eq other x.key.name ≡ b → StandsBefore name other
  by further true e = subst (StandsBefore name) (sym ((bytes_eq-Decides other x.key.name).0 e)) (All-head (IsBehind name) x xs all)
  by further false e = further (sym (found_later other x xs e) ∙ found)

some_same : (x y : Scheduled) → Some x ≡ Some y → x ≡ y
some_same x y e = ap (λ (o : Option Scheduled). unwrap_or o x) e

abbrev SameFinds : List Scheduled → List Scheduled → Type 0
SameFinds xs ys = (name : List ℕ) → find (has_name name) xs ≡ find (has_name name) ys

-- two lists whose names rise, and of which each name has the same query
module _ (x y : Scheduled) (xs ys : List Scheduled) (p : names_rise (x ∷ xs) ≡ true) (q : names_rise (y ∷ ys) ≡ true) (f : SameFinds (x ∷ xs) (y ∷ ys)) where
  mine : find (has_name x.key.name) (y ∷ ys) ≡ Some x
  mine = sym (f x.key.name) ∙ found_first x.key.name x xs (itself x.key.name)

  theirs : find (has_name y.key.name) (x ∷ xs) ≡ Some y
  theirs = f y.key.name ∙ found_first y.key.name y ys (itself y.key.name)

  turned : (b : Bool) → bytes_eq x.key.name y.key.name ≡ false → bytes_eq y.key.name x.key.name ≡ b → bytes_eq y.key.name x.key.name ≡ false
  turned true e h = absurd (false≢true (sym e ∙ (bytes_eq-Decides x.key.name y.key.name).1 (sym ((bytes_eq-Decides y.key.name x.key.name).0 h))))
  turned false e h = h

  -- begin with the same one
  first_by : (b : Bool) → bytes_eq x.key.name y.key.name ≡ b → x ≡ y
  first_by true e = some_same x y (sym mine ∙ found_first x.key.name y ys e)
  first_by false e =
      let yx = found_behind_it y.key.name x.key.name ys x (rising y ys q).0 (sym (found_later x.key.name y ys e) ∙ mine) in
      let xy = found_behind_it x.key.name y.key.name xs y (rising x xs p).0 (sym (found_later y.key.name x xs (turned (bytes_eq y.key.name x.key.name) e refl)) ∙ theirs) in
      absurd (one_before x.key.name y.key.name xy yx)

  first_same : x ≡ y
  first_same = first_by (bytes_eq x.key.name y.key.name) refl

  -- and so do the rests of them
  gone : find (has_name x.key.name) xs ≡ find (has_name x.key.name) ys
  gone =
      missing x.key.name xs (rising x xs p).0
      ∙ sym (subst (λ (s : Scheduled). find (has_name s.key.name) ys ≡ None) (sym first_same) (missing y.key.name ys (rising y ys q).0))

  rest_by : (name : List ℕ) (b : Bool) → bytes_eq name x.key.name ≡ b → find (has_name name) xs ≡ find (has_name name) ys
  rest_by name true h = subst (λ (n : List ℕ). find (has_name n) xs ≡ find (has_name n) ys) (sym ((bytes_eq-Decides name x.key.name).0 h)) gone
  rest_by name false h =
      sym (found_later name x xs h) ∙ (f name ∙ found_later name y ys (subst (λ (s : Scheduled). bytes_eq name s.key.name ≡ false) first_same h))

  rest_same : SameFinds xs ys
  rest_same name = rest_by name (bytes_eq name x.key.name) refl

-- are the same
by_name_same : (xs ys : List Scheduled) → names_rise xs ≡ true → names_rise ys ≡ true → SameFinds xs ys → xs ≡ ys
by_name_same [] [] p q f = refl
by_name_same [] (y ∷ ys) p q f = absurd (false≢true (ap is_some (f y.key.name ∙ found_first y.key.name y ys (itself y.key.name))))
by_name_same (x ∷ xs) [] p q f = absurd (false≢true (ap is_some (sym (f x.key.name) ∙ found_first x.key.name x xs (itself x.key.name))))
by_name_same (x ∷ xs) (y ∷ ys) p q f =
    ap (λ (s : Scheduled). s ∷ xs) (first_same x y xs ys p q f)
    ∙ ap (λ (ss : List Scheduled). y ∷ ss) (by_name_same xs ys (rising x xs p).1 (rising y ys q).1 (rest_same x y xs ys p q f))

abbrev schedule_with : List Scheduled → ℕ → ℕ → Form → Schedule
schedule_with queries expiry most form = record { queries = queries; events_expiry = expiry; events_max = most; form = form }

schedule_same : (config : Config) (host : Host) (found : List Bool) (one other : Schedule) → IsScheduleOf config host found one → IsScheduleOf config host found other → one ≡ other
schedule_same config host found one other x y =
    let queries = by_name_same one.queries other.queries x.queries.rise y.queries.rise (λ name. x.queries.first name ∙ sym (y.queries.first name)) in
    ap (λ (qs : List Scheduled). schedule_with qs one.events_expiry one.events_max one.form) queries
    ∙ (ap (λ (n : ℕ). schedule_with other.queries n one.events_max one.form) (x.expiry ∙ sym y.expiry)
    ∙ (ap (λ (n : ℕ). schedule_with other.queries other.events_expiry n one.form) (x.max ∙ sym y.max)
    ∙ ap (λ (f : Form). schedule_with other.queries other.events_expiry other.events_max f) (x.form ∙ sym y.form)))

-- at one moment behind one list a session is configured in one way
pub configures_same : (given : Given) (kept : List Entry) (moment : ℕ) (one other : Entry) → Configures given kept moment one → Configures given kept moment other → one ≡ other
configures_same given kept moment one other x y =
    x.are ∙ (ap (λ (s : Schedule). Configured given.documents s moment) (schedule_same given.config given.host (found_behind given kept moment) x.schedule y.schedule x.is y.is) ∙ sym y.are)
