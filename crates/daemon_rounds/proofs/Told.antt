-- The lines of entries, one entry after another.
use Rattle.std.proofs.Common.{◌≡◌, ℕ, zero, suc, ◌+◌, ◌<◌, arith, List, [], ◌∷◌, ◌++◌, length, take, get_or, refl, sym, ap, ◌∙◌, subst, append_assoc}
use Rattle.std.proofs.lemmas.List.{append-nil, take_more}
use Rattle.pack_rules.specs.declared.schedule.Form.{Form}
use Rattle.entry_model.specs.declared.entry.Entry.{Entry}
use Rattle.daemon_rounds.specs.Telling.{AreLinesOf, AreTellable, IsTold, Tells, form_after}

-- the form that runs behind entries
abbrev pub form_behind : Form → List Entry → Form
form_behind form [] = form
form_behind form (entry ∷ rest) = form_behind (form_after form entry) rest

form-push : (form : Form) (entries : List Entry) (entry : Entry) → form_behind form (entries ++ entry ∷ []) ≡ form_after (form_behind form entries) entry
form-push form [] entry = refl
form-push form (first ∷ entries) entry = form-push (form_after form first) entries entry

told-push : (host : List ℕ) (form : Form) (entries : List Entry) (entry : Entry) (text lines : List ℕ) → AreLinesOf host form entries text → Tells host (form_behind form entries) entry lines → AreLinesOf host form (entries ++ entry ∷ []) (text ++ lines)
told-push host form [] entry text lines told tells =
    (lines, [], tells, refl, ap (λ (t : List ℕ). t ++ lines) told ∙ sym (append-nil lines))
told-push host form (first ∷ entries) entry text lines told tells =
    (told.0, told.1 ++ lines, told.2, told-push host (form_after form first) entries entry told.1 lines told.3 tells, ap (λ (t : List ℕ). t ++ lines) told.4 ∙ append_assoc told.0 told.1 lines)

-- the first of the entries are told
pub record AreBegun (host : List ℕ) (form : Form) (entries : List Entry) (at : ℕ) (now : Form) (text : List ℕ) : Type 0 where
  pub told : AreLinesOf host form (take at entries) text
  pub runs : now ≡ form_behind form (take at entries)

pub one_begun : (host : List ℕ) (form : Form) (entries : List Entry) (at : ℕ) (now : Form) (text : List ℕ) (entry : Entry) (lines : List ℕ) → at < length entries → entry ≡ get_or entries at entry → AreBegun host form entries at now text → Tells host now entry lines → AreBegun host form entries (at + 1) (form_after now entry) (text ++ lines)
one_begun host form entries at now text entry lines within is begun tells =
    let more : take (at + 1) entries ≡ take at entries ++ entry ∷ [] = take_more entries at entry within ∙ ap (λ (e : Entry). take at entries ++ e ∷ []) (sym is) in
    record {
      told = subst (λ (es : List Entry). AreLinesOf host form es (text ++ lines)) (sym more) (told-push host form (take at entries) entry text lines begun.told (subst (λ (f : Form). Tells host f entry lines) begun.runs tells));
      runs = ap (λ (f : Form). form_after f entry) begun.runs ∙ sym (form-push form (take at entries) entry) ∙ ap (form_behind form) (sym more);
    }

pub next_begun : (host : List ℕ) (form : Form) (entries : List Entry) (at : ℕ) (now next : Form) (text longer : List ℕ) (entry : Entry) (lines : List ℕ) → at < length entries → entry ≡ get_or entries at entry → AreBegun host form entries at now text → Tells host now entry lines → longer ≡ text ++ lines → next ≡ form_after now entry → AreBegun host form entries (at + 1) next longer
next_begun host form entries at now next text longer entry lines within is begun tells grown runs =
    let b = one_begun host form entries at now text entry lines within is begun tells in
    record { told = subst (AreLinesOf host form (take (at + 1) entries)) (sym grown) b.told; runs = runs ∙ b.runs }

-- each of them can be told
pub tellable_at : (entries : List Entry) (at : ℕ) (entry : Entry) → AreTellable entries → at < length entries → entry ≡ get_or entries at entry → IsTold entry
tellable_at [] at entry tellable within is = absurd (omega (arith, within))
tellable_at (first ∷ entries) zero entry tellable within is = subst IsTold (sym is) tellable.0
tellable_at (first ∷ entries) (suc at) entry tellable within is = tellable_at entries at entry tellable.1 (omega (arith, within)) is
