-- Lists of notes with more behind them.
use Rattle.std.proofs.Common.{◌≡◌, ◌⊎◌, inl, inr, List, [], ◌∷◌, ◌++◌, map, refl, sym, ap, ◌∙◌, append_assoc, append-nil}
use Rattle.std.proofs.Math.Seq.{drop-append_seam}
use Rattle.entry_model.specs.declared.entry.Entry.{Entry}
use Rattle.session_state.specs.Cut.{CutValue}
use Rattle.shared_store.specs.declared.noted.Noted.{Noted}
use Rattle.shared_store.specs.declared.noted.Noted.TheVariants.{Added, Taken, Given}
use Rattle.shared_store.specs.Notes.{entries_in, untaken, grown}
use Rattle.shared_store.specs.Laws.{HasNoMark}

pub entries_in-append : (xs ys : List Noted) → entries_in (xs ++ ys) ≡ entries_in xs ++ entries_in ys
entries_in-append [] ys = refl
entries_in-append (Added entry ∷ xs) ys = ap (λ (es : List Entry). entry ∷ es) (entries_in-append xs ys)
entries_in-append (Taken ∷ xs) ys = entries_in-append xs ys
entries_in-append (Given cut ∷ xs) ys = entries_in-append xs ys

pub untaken-append : (before : List Entry) (xs ys : List Noted) → untaken before (xs ++ ys) ≡ untaken (untaken before xs) ys
untaken-append before [] ys = refl
untaken-append before (Added entry ∷ xs) ys = untaken-append (before ++ entry ∷ []) xs ys
untaken-append before (Taken ∷ xs) ys = untaken-append [] xs ys
untaken-append before (Given cut ∷ xs) ys = untaken-append before xs ys

pub entries_in-added : (es : List Entry) → entries_in (map Added es) ≡ es
entries_in-added [] = refl
entries_in-added (e ∷ es) = ap (λ (es : List Entry). e ∷ es) (entries_in-added es)

pub untaken-added : (before es : List Entry) → untaken before (map Added es) ≡ before ++ es
untaken-added before [] = sym (append-nil before)
untaken-added before (e ∷ es) = untaken-added (before ++ e ∷ []) es ∙ append_assoc before (e ∷ []) es

-- without a mark all entries are left
pub untaken_all : (before : List Entry) (notes : List Noted) → HasNoMark notes → untaken before notes ≡ before ++ entries_in notes
untaken_all before [] none = sym (append-nil before)
untaken_all before (Added entry ∷ rest) none = untaken_all (before ++ entry ∷ []) rest none ∙ append_assoc before (entry ∷ []) (entries_in rest)
untaken_all before (Taken ∷ rest) none = absurd none
untaken_all before (Given cut ∷ rest) none = untaken_all before rest none

pub grown_by : (old es new : List Entry) → new ≡ old ++ es → grown old new ≡ map Added es
grown_by old es new is = ap (λ (new : List Entry). grown old new) is ∙ ap (map Added) (drop-append_seam old es)

-- a cut among these notes and more stands among the first, or among those behind
pub cut_among : (before after notes more : List Noted) (cut : CutValue) → notes ++ more ≡ before ++ Given cut ∷ after
    → ((rest : List Noted) × (notes ≡ before ++ Given cut ∷ rest)) ⊎ ((m : List Noted) × (before ≡ notes ++ m) × (more ≡ m ++ Given cut ∷ after))
cut_among before after [] more cut e = inr (before, refl, e)
cut_among [] after (x ∷ xs) more cut e = let head : x ≡ Given cut = cc in inl (xs, ap (λ (y : Noted). y ∷ xs) head)
cut_among (b ∷ bs) after (x ∷ xs) more cut e =
    let heads : x ≡ b = cc in
    let tails : xs ++ more ≡ bs ++ Given cut ∷ after = cc in
    elim (cut_among bs after xs more cut tails) [ inl t ↦ inl (t.0, cc (heads, t.1)) | inr t ↦ inr (t.0, cc (heads, t.1), t.2) ]

pub added_no_cut : (es : List Entry) (m after : List Noted) (cut : CutValue) → map Added es ≡ m ++ Given cut ∷ after → ⊥
added_no_cut [] [] after cut e = cc
added_no_cut [] (y ∷ m) after cut e = cc
added_no_cut (e ∷ es) [] after cut h = cc
added_no_cut (e ∷ es) (y ∷ m) after cut h = let tails : map Added es ≡ m ++ Given cut ∷ after = cc in added_no_cut es m after cut tails

none_ends : (m after : List Noted) (cut : CutValue) → [] ≡ m ++ Given cut ∷ after → ⊥
none_ends [] after cut e = cc
none_ends (y ∷ m) after cut e = cc

pub no_cut_before : (before after : List Noted) (cut : CutValue) → [] ≡ before ++ Given cut ∷ after → ⊥
no_cut_before = none_ends

pub mark_no_cut : (m after : List Noted) (cut : CutValue) → Taken ∷ [] ≡ m ++ Given cut ∷ after → ⊥
mark_no_cut [] after cut e = cc
mark_no_cut (y ∷ m) after cut e = let tails : [] ≡ m ++ Given cut ∷ after = cc in none_ends m after cut tails

pub one_cut : (m after : List Noted) (cut other : CutValue) → Given other ∷ [] ≡ m ++ Given cut ∷ after → (m ≡ []) × (other ≡ cut)
one_cut [] after cut other e = (refl, cc)
one_cut (y ∷ m) after cut other e = let tails : [] ≡ m ++ Given cut ∷ after = cc in absurd (none_ends m after cut tails)
