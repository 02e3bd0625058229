-- Rows by their labels are rows by the names of their columns.
use Rattle.std.proofs.Common.{◌≡◌, ℕ, ◌≤◌, true, false, cond, List, [], ◌∷◌, ◌++◌, length, drop, min, zero, suc, refl, ap, ◌∙◌, arith, append_assoc, bytes_eq, ◌==◌}
use Rattle.std.specs.Prelude.{flat_map}
use Rattle.std.specs.List.{list_any}
use Rattle.osq_value.specs.declared.value.Value.{Value}
use Rattle.calendar_text.specs.Calendar.{IsCalendarText}
use Rattle.pack_rules.specs.declared.schedule.Mode.TheVariants.{Evented}
use Rattle.pack_rules.specs.declared.schedule.Form.{Form}
use Rattle.pack_rules.specs.declared.schedule.Form.TheVariants.{Event}
use Rattle.entry_model.specs.declared.entry.Batch.{Batch}
use Rattle.result_batches.specs.Json.{escaped, quoted, joined, each_behind_comma}
use Rattle.result_batches.specs.Labels.{label, labels_from, cells, labelled, labelled_rows}
use Rattle.result_batches.specs.Lines.{value_text, member, members, object, objects, head_text, lines_text, difference_line, difference_text, AreLines, AreAddedLines}

-- a label before a value is the member, but for what stands before both
member_is : (name : List ℕ) (value : Value) (rest : List ℕ)
    → ((quoted name ++ 58 ∷ 34 ∷ []) ++ flat_map escaped (value_text value) ++ 34 ∷ []) ++ rest ≡ member name value ++ rest
member_is name value rest =
    let inside : List ℕ = flat_map escaped (value_text value) in
    ap (λ l. l ++ rest) (append_assoc (quoted name ++ 58 ∷ 34 ∷ []) inside (34 ∷ []) ∙ append_assoc (quoted name) (58 ∷ 34 ∷ []) (inside ++ 34 ∷ []))

cells_none : (labels : List (List ℕ)) → cells labels [] ≡ []
cells_none [] = refl
cells_none (l ∷ ls) = refl

members_none : (names : List (List ℕ)) → members names [] ≡ []
members_none [] = refl
members_none (n ∷ ns) = refl

cells_behind : (names : List (List ℕ)) (row : List Value) → cells (labels_from false names) row ≡ each_behind_comma (members names row)
cells_behind [] row = refl
cells_behind (n ∷ ns) [] = cells_none (labels_from false (n ∷ ns))
cells_behind (n ∷ ns) (v ∷ vs) =
    elim (list_any (bytes_eq n) ns) as (λ t. cells (cond t ([] ∷ labels_from false ns) (label false n ∷ labels_from false ns)) (v ∷ vs)
    ≡ each_behind_comma (cond t (members ns vs) (member n v ∷ members ns vs))) [
      | true ↦ cells_behind ns vs
      | false ↦ ap (λ l. 44 ∷ l) (member_is n v (cells (labels_from false ns) vs) ∙ ap (λ l. member n v ++ l) (cells_behind ns vs))
    ]

cells_joined : (names : List (List ℕ)) (row : List Value) → cells (labels_from true names) row ≡ joined (members names row)
cells_joined [] row = refl
cells_joined (n ∷ ns) [] = cells_none (labels_from true (n ∷ ns))
cells_joined (n ∷ ns) (v ∷ vs) =
    elim (list_any (bytes_eq n) ns) as (λ t. cells (cond t ([] ∷ labels_from true ns) (label true n ∷ labels_from false ns)) (v ∷ vs)
    ≡ joined (cond t (members ns vs) (member n v ∷ members ns vs))) [
      | true ↦ cells_joined ns vs
      | false ↦ member_is n v (cells (labels_from false ns) vs) ∙ ap (λ l. member n v ++ l) (cells_behind ns vs)
    ]

pub labelled_object : (names : List (List ℕ)) (row : List Value) → labelled (labels_from true names) row ≡ object names row
labelled_object names row = ap (λ l. 123 ∷ (l ++ 125 ∷ [])) (cells_joined names row)

pub labelled_objects : (names : List (List ℕ)) (rows : List (List Value)) → labelled_rows (labels_from true names) rows ≡ objects names rows
labelled_objects names [] = refl
labelled_objects names (row ∷ rows) = ap (λ l. l ∷ labelled_rows (labels_from true names) rows) (labelled_object names row) ∙ ap (λ ls. object names row ∷ ls) (labelled_objects names rows)

-- behind the end of one of the lists no cell is left
pub cells_end : (labels : List (List ℕ)) (row : List Value) (n : ℕ) → min (length labels) (length row) ≤ n → cells (drop n labels) (drop n row) ≡ []
cells_end [] row zero h = refl
cells_end [] row (suc n) h = refl
cells_end (l ∷ ls) [] zero h = refl
cells_end (l ∷ ls) [] (suc n) h = cells_none (drop n ls)
cells_end (l ∷ ls) (v ∷ vs) zero h = absurd (omega (arith, h))
cells_end (l ∷ ls) (v ∷ vs) (suc n) h = cells_end ls vs n (omega (arith, h))

-- a line behind others, piece by piece
pub line_grown : (lines head action row end : List ℕ) → lines ++ head ++ action ++ row ++ end ≡ lines ++ (head ++ action ++ row ++ end)
line_grown lines head action row end =
    ap (λ l. l ++ end) (ap (λ l. l ++ row) (append_assoc lines head action) ∙ append_assoc lines (head ++ action) row)
    ∙ append_assoc lines (head ++ action ++ row) end

-- the line of some objects
pub difference_some : (head decoration line : List ℕ) (labels : List (List ℕ)) (rows : List (List Value)) → (length rows == 0) ≡ false
    → line ≡ difference_text head decoration (labelled_rows labels rows) → line ≡ difference_line head decoration (labelled_rows labels rows)
difference_some head decoration line labels [] some is = absurd (let no : ⊥ = cc in no)
difference_some head decoration line labels (row ∷ rows) some is = is

-- what was made of a batch's head and labels are its lines
pub are_lines : (form : Form) (host calendar head decoration lines : List ℕ) (names labels : List (List ℕ)) (batch : Batch) → IsCalendarText batch.moment calendar
    → head ≡ head_text host calendar batch → labels ≡ labels_from true names
    → lines ≡ lines_text batch.query.mode form head decoration (labelled_rows labels batch.rows) → AreLines form host names decoration batch lines
are_lines form host calendar head decoration lines names labels batch shown head_is labels_are lines_are = record {
  calendar = calendar;
  shown = shown;
  text =
      lines_are ∙ ap (λ h. lines_text batch.query.mode form h decoration (labelled_rows labels batch.rows)) head_is
      ∙ ap (λ ls. lines_text batch.query.mode form (head_text host calendar batch) decoration (labelled_rows ls batch.rows)) labels_are
      ∙ ap (lines_text batch.query.mode form (head_text host calendar batch) decoration) (labelled_objects names batch.rows);
}

-- in the form of events the lines of an evented batch are a line for each row
pub added_lines_of : (host : List ℕ) (names : List (List ℕ)) (decoration : List ℕ) (batch : Batch) (lines : List ℕ) → batch.query.mode ≡ Evented
    → AreLines Event host names decoration batch lines → AreAddedLines host names decoration batch lines
added_lines_of host names decoration batch lines evented are = record {
  calendar = are.calendar;
  shown = are.shown;
  text = are.text ∙ ap (λ mode. lines_text mode Event (head_text host are.calendar batch) decoration (objects names batch.rows)) evented;
}
