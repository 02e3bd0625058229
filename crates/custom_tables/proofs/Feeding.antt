-- What a custom table holds behind one more record.
use Rattle.std.proofs.Common.{◌≡◌, ℕ, ◌+◌, ◌∙◌, ap, sym, refl, length, List, [], ◌∷◌, ◌++◌, Option, Some, None}
use Rattle.std.specs.List.{cons_option}
use Rattle.std.proofs.lemmas.List.{length-append, append-nil}
use Rattle.std.proofs.lemmas.List.Elements.{filter_map-append}
use Rattle.osq_value.specs.declared.value.Value.{Value}
use Rattle.publisher_core.specs.declared.record.Record.{Record}
use Rattle.custom_tables.specs.declared.rule.Rule.{Rule}
use Rattle.custom_tables.specs.Rows.{row_of_record}
use Rattle.custom_tables.specs.Held.{Held, held_of, last_of, rows_of}
use Rattle.custom_tables.proofs.Rings.{last_again}

rows_behind : (rule : Rule) (records : List Record) (item : Record) → (row : Option (List Value)) → row ≡ row_of_record rule item → rows_of rule (records ++ item ∷ []) ≡ rows_of rule records ++ cons_option row []
rows_behind rule records item row is = filter_map-append (row_of_record rule) records (item ∷ []) ∙ ap (λ found. rows_of rule records ++ cons_option found []) (sym is)

-- a record that gives no row leaves what is held
pub fed_none : (rule : Rule) (max : ℕ) (held : Held) (records : List Record) (item : Record) → None ≡ row_of_record rule item → held ≡ held_of max (rows_of rule records) → held ≡ held_of max (rows_of rule (records ++ item ∷ []))
fed_none rule max held records item is fed = fed ∙ ap (held_of max) (sym (rows_behind rule records item None is ∙ append-nil (rows_of rule records)))

-- the row that a record gives is the last one
pub fed_row : (rule : Rule) (max : ℕ) (held : Held) (records : List Record) (item : Record) (row : List Value) (rows : List (List Value)) → Some row ≡ row_of_record rule item → held ≡ held_of max (rows_of rule records)
    → rows ≡ last_of max (held.rows ++ row ∷ []) → record { last = held.last + 1; rows = rows } ≡ held_of max (rows_of rule (records ++ item ∷ []))
fed_row rule max held records item row rows is fed now =
    let before = rows_of rule records in
    let behind : rows_of rule (records ++ item ∷ []) ≡ before ++ row ∷ [] = rows_behind rule records item (Some row) is in
    let last : held.last + 1 ≡ length (before ++ row ∷ []) = ap (λ (h : Held). h.last + 1) fed ∙ sym (length-append before (row ∷ [])) in
    let kept : rows ≡ last_of max (before ++ row ∷ []) = now ∙ ap (λ (h : Held). last_of max (h.rows ++ row ∷ [])) fed ∙ last_again max before row in
    let made : record { last = held.last + 1; rows = rows } ≡ held_of max (before ++ row ∷ []) = (λ i. record { last = last i; rows = kept i }) in
    made ∙ ap (held_of max) (sym behind)

-- what isn't some row is none
pub none_left : {X : Type 0} → (found : Option X) → ((x : X) → found ≡ Some x → ⊥) → None ≡ found
none_left None some = refl
none_left (Some x) some = absurd (some x refl)
