-- Where the batches of a list stand.
use Rattle.std.proofs.Common.{◌≡◌, ℕ, zero, suc, ◌+◌, ◌-◌, ◌<◌, ◌≤◌, Bool, true, false, List, [], ◌∷◌, ◌++◌, length, map, take, get_or, refl, sym, ap, ap₂, ◌∙◌, arith, length-append, Option, Some, None}
use Rattle.std.specs.Prelude.{IfSome, if◌then◌else◌, nat_lt, slice_get, unwrap_or}
use Rattle.std.specs.List.{cons_option}
use Rattle.std.specs.Option.{option_map}
use Rattle.std.proofs.lemmas.Bool.Decides.{nat_tests}
use Rattle.std.proofs.lemmas.List.{append-nil, take_all, take_more, take-append-le, map-append}
use Rattle.std.proofs.lemmas.List.Elements.{filter_map-append}
use Rattle.std.proofs.lemmas.Option.{slice_get-get_or, slice_get-map, slice_get_within}
use Rattle.entry_model.specs.declared.entry.Batch.{Batch}
use Rattle.entry_model.specs.declared.entry.Entry.{Entry}
use Rattle.entry_model.specs.declared.entry.Entry.TheVariants.{Committed, Acked}
use Rattle.entry_model.specs.Values.{last_of, batch_in, acked_in, acked_upto, commits}
use Rattle.batch_keeper.specs.declared.indexed.Index.{Index}
use Rattle.batch_keeper.specs.Fetching.{fetched}
use Rattle.batch_keeper.specs.Indexing.{IsIndex, stands_as}

last_of-append : {X Y : Type 0} (found : X → Option Y) (y : Y) (xs ys : List X) → last_of found y (xs ++ ys) ≡ last_of found (last_of found y xs) ys
last_of-append found y [] ys = refl
last_of-append found y (x ∷ xs) ys = last_of-append found (unwrap_or (found x) y) xs ys

-- what one more entry adds to the batches
pub commits_more : (entries : List Entry) (seen : ℕ) (entry : Entry) → seen < length entries → entry ≡ get_or entries seen entry → commits (take (seen + 1) entries) ≡ commits (take seen entries) ++ commits (entry ∷ [])
commits_more entries seen entry lt is =
    ap commits (take_more entries seen entry lt ∙ ap (λ (e : Entry). take seen entries ++ e ∷ []) (sym is)) ∙ filter_map-append batch_in (take seen entries) (entry ∷ [])

-- and to what is acknowledged
pub acked_more : (entries : List Entry) (seen : ℕ) (entry : Entry) → seen < length entries → entry ≡ get_or entries seen entry → acked_upto (take (seen + 1) entries) ≡ unwrap_or (acked_in entry) (acked_upto (take seen entries))
acked_more entries seen entry lt is =
    ap acked_upto (take_more entries seen entry lt ∙ ap (λ (e : Entry). take seen entries ++ e ∷ []) (sym is)) ∙ last_of-append acked_in 0 (take seen entries) (entry ∷ [])

none_mapped : {X Y : Type 0} (f : X → Y) (o : Option X) → None ≡ option_map f o → o ≡ None
none_mapped f None e = refl
none_mapped f (Some x) e = absurd (cc)

-- the batch that stands at the place of this count
pub record IsPlaced (entries : List Entry) (places : List ℕ) (batches : List Batch) (at place : ℕ) : Type 0 where
  pub batch : Batch
  pub is : slice_get batches at ≡ Some batch
  pub stands : slice_get entries place ≡ Some (Committed batch)

module _ (entries : List Entry) (places : List ℕ) (batches : List Batch) (same : map (slice_get entries) places ≡ map stands_as batches) (at : ℕ) where
  both : option_map (slice_get entries) (slice_get places at) ≡ option_map stands_as (slice_get batches at)
  both = sym (slice_get-map (slice_get entries) places at) ∙ ap (λ (os : List (Option Entry)). slice_get os at) same ∙ slice_get-map stands_as batches at

  -- there is no batch where there is no place
  pub none_placed : slice_get places at ≡ None → slice_get batches at ≡ None
  none_placed e = none_mapped stands_as (slice_get batches at) (sym (ap (option_map (slice_get entries)) e) ∙ both)

  from_both : (place : ℕ) (o : Option Batch) → slice_get batches at ≡ o → Some (slice_get entries place) ≡ option_map stands_as o → IsPlaced entries places batches at place
  from_both place None e h = absurd (cc)
  from_both place (Some batch) e h = record { batch = batch; is = e; stands = cc }

  pub placed : (place : ℕ) → slice_get places at ≡ Some place → IsPlaced entries places batches at place
  placed place e = from_both place (slice_get batches at) refl (sym (ap (option_map (slice_get entries)) e) ∙ both)

-- places in a list stay where they are when it grows
get_more : {X : Type 0} (xs ys : List X) (place : ℕ) (x : X) → slice_get xs place ≡ Some x → slice_get (xs ++ ys) place ≡ Some x
get_more [] ys place x e = absurd (cc)
get_more (x' ∷ xs) ys zero x e = e
get_more (x' ∷ xs) ys (suc place) x e = get_more xs ys place x e

pub places_stay : (entries more : List Entry) (places : List ℕ) (batches : List Batch) → map (slice_get entries) places ≡ map stands_as batches → map (slice_get (entries ++ more)) places ≡ map stands_as batches
places_stay entries more [] [] e = refl
places_stay entries more [] (b ∷ batches) e = absurd (cc)
places_stay entries more (p ∷ places) [] e = absurd (cc)
places_stay entries more (p ∷ places) (b ∷ batches) e =
    let here : slice_get entries p ≡ stands_as b = cc in
    let rest : map (slice_get entries) places ≡ map stands_as batches = cc in
    let h = get_more entries more p (Committed b) here in
    let t = places_stay entries more places batches rest in
    λ i. h i ∷ t i

-- ---- one more entry

module _ (entries : List Entry) (old : Index) (is : IsIndex entries old) (entry : Entry) (lt : old.seen < length entries) (at : entry ≡ get_or entries old.seen entry) where
  stands_there : slice_get entries old.seen ≡ Some entry
  stands_there = slice_get-get_or entries old.seen entry lt ∙ ap (λ (e : Entry). Some e) (sym at)

  module _ (new : Index) (seen : new.seen ≡ old.seen) where
    pub more_placed : (batch : Batch) → entry ≡ Committed batch → new.places.items ≡ old.places.items ++ old.seen ∷ [] → new.acked ≡ old.acked → IsIndex entries (record { seen = new.seen + 1; places = new.places; acked = new.acked })
    more_placed batch committed places acked = record {
      within = omega (arith, seen, lt);
      batches =
          ap (map (slice_get entries)) places
          ∙ map-append (slice_get entries) old.places.items (old.seen ∷ [])
          ∙ ap₂ (λ (os ps : List (Option Entry)). os ++ ps) is.batches (ap (λ (o : Option Entry). o ∷ []) (stands_there ∙ ap (λ (e : Entry). Some e) committed))
          ∙ sym (map-append stands_as (commits (take old.seen entries)) (batch ∷ []))
          ∙ ap (λ (e : Entry). map stands_as (commits (take old.seen entries) ++ commits (e ∷ []))) (sym committed)
          ∙ sym (ap (map stands_as) (commits_more entries old.seen entry lt at))
          ∙ ap (λ (n : ℕ). map stands_as (commits (take (n + 1) entries))) (sym seen);
      mark =
          acked ∙ is.mark
          ∙ sym (acked_more entries old.seen entry lt at ∙ ap (λ (e : Entry). unwrap_or (acked_in e) (acked_upto (take old.seen entries))) committed)
          ∙ ap (λ (n : ℕ). acked_upto (take (n + 1) entries)) (sym seen);
    }

    pub more_acked : (upto : ℕ) → entry ≡ Acked upto → new.places.items ≡ old.places.items → new.acked ≡ upto → IsIndex entries (record { seen = new.seen + 1; places = new.places; acked = new.acked })
    more_acked upto is_acked places acked = record {
      within = omega (arith, seen, lt);
      batches =
          ap (map (slice_get entries)) places ∙ is.batches
          ∙ ap (map stands_as) (sym (append-nil (commits (take old.seen entries))) ∙ ap (λ (e : Entry). commits (take old.seen entries) ++ commits (e ∷ [])) (sym is_acked) ∙ sym (commits_more entries old.seen entry lt at))
          ∙ ap (λ (n : ℕ). map stands_as (commits (take (n + 1) entries))) (sym seen);
      mark =
          acked
          ∙ sym (acked_more entries old.seen entry lt at ∙ ap (λ (e : Entry). unwrap_or (acked_in e) (acked_upto (take old.seen entries))) is_acked)
          ∙ ap (λ (n : ℕ). acked_upto (take (n + 1) entries)) (sym seen);
    }

    none_here : ((batch : Batch) → entry ≡ Committed batch → ⊥) → batch_in entry ≡ None
    none_here other = by entry other
      where
        by : (e : Entry) → ((batch : Batch) → e ≡ Committed batch → ⊥) → batch_in e ≡ None
        by (Committed batch) not = absurd (not batch refl)
        by _ not = refl

    same_mark : ((upto : ℕ) → entry ≡ Acked upto → ⊥) → acked_in entry ≡ None
    same_mark other = by entry other
      where
        by : (e : Entry) → ((upto : ℕ) → e ≡ Acked upto → ⊥) → acked_in e ≡ None
        by (Acked upto) not = absurd (not upto refl)
        by _ not = refl

    pub more_seen : ((batch : Batch) → entry ≡ Committed batch → ⊥) → ((upto : ℕ) → entry ≡ Acked upto → ⊥) → new.places.items ≡ old.places.items → new.acked ≡ old.acked → IsIndex entries (record { seen = new.seen + 1; places = new.places; acked = new.acked })
    more_seen no_batch no_mark places acked = record {
      within = omega (arith, seen, lt);
      batches =
          ap (map (slice_get entries)) places ∙ is.batches
          ∙ ap (map stands_as) (sym (append-nil (commits (take old.seen entries))) ∙ ap (λ (o : Option Batch). commits (take old.seen entries) ++ cons_option o []) (sym (none_here no_batch)) ∙ sym (commits_more entries old.seen entry lt at))
          ∙ ap (λ (n : ℕ). map stands_as (commits (take (n + 1) entries))) (sym seen);
      mark =
          acked ∙ is.mark
          ∙ sym (acked_more entries old.seen entry lt at ∙ ap (λ (o : Option ℕ). unwrap_or o (acked_upto (take old.seen entries))) (same_mark no_mark))
          ∙ ap (λ (n : ℕ). acked_upto (take (n + 1) entries)) (sym seen);
    }

-- ---- the whole list

module _ (entries : List Entry) (index : Index) (is : IsIndex entries index) (whole : index.seen ≡ length entries) (number : ℕ) where
  all_seen : take index.seen entries ≡ entries
  all_seen = take_all index.seen entries (omega (arith, whole))

  all_same : map (slice_get entries) index.places.items ≡ map stands_as (commits entries)
  all_same = is.batches ∙ ap (λ (es : List Entry). map stands_as (commits es)) all_seen

  marked : index.acked ≡ acked_upto entries
  marked = is.mark ∙ ap acked_upto all_seen

  pub none_below : number ≤ index.acked → None ≡ fetched entries number
  none_below le =
      let mark = marked in
      let below : nat_lt (acked_upto entries) number ≡ false = grind (arith, nat_tests, mark, le) in
      sym (ap (λ (b : Bool). if b then slice_get (commits entries) (number - 1) else None) below)

  above_mark : index.acked < number → fetched entries number ≡ slice_get (commits entries) (number - 1)
  above_mark lt =
      let mark = marked in
      let above : nat_lt (acked_upto entries) number ≡ true = grind (arith, nat_tests, mark, lt) in
      ap (λ (b : Bool). if b then slice_get (commits entries) (number - 1) else None) above

  pub none_there : index.acked < number → slice_get index.places.items (number - 1) ≡ None → None ≡ fetched entries number
  none_there lt e = sym (above_mark lt ∙ none_placed entries index.places.items (commits entries) all_same (number - 1) e)

  module _ (lt : index.acked < number) (place : ℕ) (e : slice_get index.places.items (number - 1) ≡ Some place) where
    there : IsPlaced entries index.places.items (commits entries) (number - 1) place
    there = placed entries index.places.items (commits entries) all_same (number - 1) place e

    pub is_within : place < length entries
    is_within = slice_get_within entries place (Committed there.batch) there.stands

    pub is_fetched : (found : Option Batch) → ((batch : Batch) → slice_get entries place ≡ stands_as batch → found ≡ Some batch) → found ≡ fetched entries number
    is_fetched found gives = gives there.batch there.stands ∙ sym (above_mark lt ∙ there.is)

-- ---- a list that grows

pub index_stays : (entries more : List Entry) (index : Option Index) → IfSome index (IsIndex entries) → IfSome index (IsIndex (entries ++ more))
index_stays entries more None h = tt
index_stays entries more (Some index) is =
    let within = is.within in
    let same : take index.seen (entries ++ more) ≡ take index.seen entries = take-append-le index.seen entries more within in
    record {
      within = omega (arith, within, length-append entries more);
      batches = places_stay entries more index.places.items (commits (take index.seen entries)) is.batches ∙ ap (λ (es : List Entry). map stands_as (commits es)) (sym same);
      mark = is.mark ∙ ap acked_upto (sym same);
    }
