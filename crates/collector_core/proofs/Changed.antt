-- What is recorded of each host where that of one changes.
use Rattle.std.proofs.Common.{◌≡◌, ◌≢◌, ◌∙◌, ℕ, Bool, true, false, cond, List, Option, bytes_eq, ap, refl, subst, sym, true≢false}
use Rattle.std.specs.BTreeMap.{BTreeMap, UpdatesBy, get_by_text}
use Rattle.std.specs.Cmp.Lexicographic.{slice_cmp}
use Rattle.std.specs.Ordering.{nat_cmp}
use Rattle.std.specs.declared.string.String.{String}
use Rattle.std.specs.String.{string_bytes, string_cmp}
use Rattle.std.proofs.lemmas.Map.Text.{btree_map_updates_text}
use Rattle.std.proofs.lemmas.Slice.Eq.{bytes_eq-Decides}

-- different texts aren't equal
pub unequal : (xs ys : List ℕ) → ys ≢ xs → bytes_eq xs ys ≡ false
unequal xs ys apart = by (bytes_eq xs ys) refl
  where
    by : (b : Bool) → bytes_eq xs ys ≡ b → bytes_eq xs ys ≡ false
    by true e = absurd (apart (sym ((bytes_eq-Decides xs ys).0 e)))
    by false e = e

-- what is as before at a text and at each other is as before
pub everywhere : {X : Type 0} (old new : List ℕ → X) (host : List ℕ) → new host ≡ old host → ((other : List ℕ) → other ≢ host → new other ≡ old other)
    → (any : List ℕ) → new any ≡ old any
everywhere old new host own others any = by (bytes_eq any host) refl
  where
    by : (b : Bool) → bytes_eq any host ≡ b → new any ≡ old any
    by true e = subst (λ (text : List ℕ). new text ≡ old text) (sym ((bytes_eq-Decides any host).0 e)) own
    by false e = others any (λ same. true≢false (sym ((bytes_eq-Decides any host).1 same) ∙ e))

-- a map in which the entry of a text is another has of each other text what it had
pub others_keep : {X Y : Type 0} (m n : BTreeMap (String Y) X) (host : List ℕ) (now : Option X) → UpdatesBy string_cmp (λ k. slice_cmp nat_cmp host (string_bytes k)) m n now
    → (other : List ℕ) → other ≢ host → get_by_text n other ≡ get_by_text m other
others_keep m n host now updates other apart =
    btree_map_updates_text host m n now updates other ∙ ap (λ (b : Bool). cond b now (get_by_text m other)) (unequal host other apart)
