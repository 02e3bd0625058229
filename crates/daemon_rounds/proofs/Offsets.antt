-- The offsets of sources, once one of them was read further.
use Rattle.std.proofs.Common.{◌≡◌, ℕ, Bool, true, false, cond, List, [], ◌∷◌, ◌++◌, Option, Some, None, refl, sym, ap, ◌∙◌, subst, arith}
use Rattle.std.specs.Prelude.{find, map, ◌||◌, bytes_eq, unwrap_or, option_map, if◌then◌else◌}
use Rattle.std.specs.List.{list_any}
use Rattle.std.proofs.lemmas.Slice.Eq.{bytes_eq-Decides}
use Rattle.entry_model.specs.declared.restored.Taken.{Taken}
use Rattle.entry_model.specs.Next.{offset_at, with_offset}

abbrev offset_in : Option Taken → ℕ
offset_in found = unwrap_or (option_map (λ (t : Taken). t.offset) found) 0

module _ (source : List ℕ) (offset : ℕ) where
  abbrev is_it : Taken → Bool
  is_it t = bytes_eq t.source source

  abbrev changed : Taken → Taken
  changed t = if bytes_eq t.source source then record t { offset = offset } else t

  abbrev fresh : Taken
  fresh = record { source = source; offset = offset }

  itself : bytes_eq source source ≡ true
  itself = (bytes_eq-Decides source source).1 refl

  found_changed : (taken : List Taken) → list_any is_it taken ≡ true → offset_in (find is_it (map changed taken)) ≡ offset
  found_changed [] h = absurd (cc)
  found_changed (t ∷ taken) h = by_source (is_it t) refl (found_changed taken)
    where
      by_source : (b : Bool) → is_it t ≡ b → (list_any is_it taken ≡ true → offset_in (find is_it (map changed taken)) ≡ offset) → offset_in (find is_it (map changed (t ∷ taken))) ≡ offset
      by_source true e rest =
          ap (λ (b : Bool). offset_in (cond (bytes_eq (cond b (record t { offset = offset }) t).source source) (Some (cond b (record t { offset = offset }) t)) (find is_it (map changed taken)))) e ∙ ap (λ (b : Bool). offset_in (cond b (Some (record t { offset = offset })) (find is_it (map changed taken)))) e
      by_source false e rest =
          ap (λ (b : Bool). offset_in (cond (bytes_eq (cond b (record t { offset = offset }) t).source source) (Some (cond b (record t { offset = offset }) t)) (find is_it (map changed taken)))) e ∙ ap (λ (b : Bool). offset_in (cond b (Some t) (find is_it (map changed taken)))) e ∙ rest (sym (ap (λ (b : Bool). b || list_any is_it taken) e) ∙ h)

  found_fresh : (taken : List Taken) → list_any is_it taken ≡ false → offset_in (find is_it (taken ++ fresh ∷ [])) ≡ offset
  found_fresh [] h = ap (λ (b : Bool). offset_in (cond b (Some fresh) None)) itself
  found_fresh (t ∷ taken) h =
      let here : is_it t ≡ false = grind arith in
      let rest : list_any is_it taken ≡ false = grind arith in
      ap (λ (b : Bool). offset_in (cond b (Some t) (find is_it (taken ++ fresh ∷ [])))) here ∙ found_fresh taken rest

  pub offset_here : (taken : List Taken) → offset_at (with_offset taken source offset) source ≡ offset
  offset_here taken = by_any (list_any is_it taken) refl
    where
      by_any : (b : Bool) → list_any is_it taken ≡ b → offset_in (find is_it (cond b (map changed taken) (taken ++ fresh ∷ []))) ≡ offset
      by_any true e = found_changed taken e
      by_any false e = found_fresh taken e

  module _ (other : List ℕ) (differs : bytes_eq source other ≡ false) where
    abbrev is_other : Taken → Bool
    is_other t = bytes_eq t.source other

    kept_changed : (taken : List Taken) → find is_other (map changed taken) ≡ find is_other taken
    kept_changed [] = refl
    kept_changed (t ∷ taken) = by_source (is_it t) refl (kept_changed taken)
      where
        by_source : (b : Bool) → is_it t ≡ b → find is_other (map changed taken) ≡ find is_other taken → find is_other (map changed (t ∷ taken)) ≡ find is_other (t ∷ taken)
        by_source true e rest =
            let same : t.source ≡ source = (bytes_eq-Decides t.source source).0 e in
            let not : is_other t ≡ false = ap (λ (s : List ℕ). bytes_eq s other) same ∙ differs in
            ap (λ (b : Bool). cond (bytes_eq (cond b (record t { offset = offset }) t).source other) (Some (cond b (record t { offset = offset }) t)) (find is_other (map changed taken))) e ∙ ap (λ (b : Bool). cond b (Some (record t { offset = offset })) (find is_other (map changed taken))) not ∙ rest ∙ sym (ap (λ (b : Bool). cond b (Some t) (find is_other taken)) not)
        by_source false e rest =
            ap (λ (b : Bool). cond (bytes_eq (cond b (record t { offset = offset }) t).source other) (Some (cond b (record t { offset = offset }) t)) (find is_other (map changed taken))) e ∙ ap (λ (o : Option Taken). cond (is_other t) (Some t) o) rest

    kept_fresh : (taken : List Taken) → find is_other (taken ++ fresh ∷ []) ≡ find is_other taken
    kept_fresh [] = ap (λ (b : Bool). cond b (Some fresh) None) differs
    kept_fresh (t ∷ taken) = ap (λ (o : Option Taken). cond (is_other t) (Some t) o) (kept_fresh taken)

    pub offset_other : (taken : List Taken) → offset_at (with_offset taken source offset) other ≡ offset_at taken other
    offset_other taken = by_any (list_any is_it taken)
      where
        by_any : (b : Bool) → offset_in (find is_other (cond b (map changed taken) (taken ++ fresh ∷ []))) ≡ offset_in (find is_other taken)
        by_any true = ap offset_in (kept_changed taken)
        by_any false = ap offset_in (kept_fresh taken)
