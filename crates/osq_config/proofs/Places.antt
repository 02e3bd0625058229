-- The pack of a name among the others.
use Rattle.std.proofs.Common.{◌≡◌, ℕ, ◌+◌, ◌<◌, Bool, true, false, List, [], ◌∷◌, ◌++◌, length, take, drop, refl, sym, ap, ◌∙◌, subst, arith, bytes_eq, Some, None, length-append, cond}
use Rattle.std.specs.Prelude.{slice_get, slice_set, remove}
use Rattle.std.specs.List.{position_from}
use Rattle.std.proofs.Math.Seq.{set-append_seam, take-append_seam}
use Rattle.osq_config.specs.declared.config.Pack.{Pack}
use Rattle.osq_config.specs.Files.{filled, left_out, refilled}

abbrev pub named : List ℕ → Pack → Bool
named name pack = bytes_eq pack.name name

-- the pack of a name stands at a place
pub record StandsAt (name : List ℕ) (packs : List Pack) (i : ℕ) : Type 0 where
  pub before : List Pack
  pub pack : Pack
  pub after : List Pack
  pub place : packs ≡ before ++ pack ∷ after
  pub size : length before ≡ i
  pub fills : (read : Pack) → filled name read packs ≡ before ++ refilled pack read ∷ after
  pub leaves : left_out name packs ≡ before ++ after

later : (name : List ℕ) (p : Pack) (ps : List Pack) (i : ℕ) → named name p ≡ false → StandsAt name ps i → StandsAt name (p ∷ ps) (i + 1)
later name p ps i other at = record {
  before = p ∷ at.before;
  pack = at.pack;
  after = at.after;
  place = ap (λ xs. p ∷ xs) at.place;
  size = let s = at.size in omega arith;
  fills = λ read. rw other (ap (λ xs. p ∷ xs) (at.fills read));
  leaves = rw other (ap (λ xs. p ∷ xs) at.leaves);
}

here : (name : List ℕ) (p : Pack) (ps : List Pack) → named name p ≡ true → StandsAt name (p ∷ ps) 0
here name p ps is = record {
  before = [];
  pack = p;
  after = ps;
  place = refl;
  size = refl;
  fills = λ read. rw is refl;
  leaves = rw is refl;
}

found_from : (name : List ℕ) (packs : List Pack) (k at : ℕ) → position_from (named name) k packs ≡ Some at → (i : ℕ) × (at ≡ k + i) × StandsAt name packs i
found_from name [] k at e = absurd (let no : ⊥ = cc in no)
found_from name (p ∷ ps) k at e = by_name name p ps k at (found_from name ps (k + 1) at) (named name p) refl e where
  by_name : (name : List ℕ) (p : Pack) (ps : List Pack) (k at : ℕ) → (position_from (named name) (k + 1) ps ≡ Some at → (i : ℕ) × (at ≡ k + 1 + i) × StandsAt name ps i) → (b : Bool) → named name p ≡ b → cond b (Some k) (position_from (named name) (k + 1) ps) ≡ Some at → (i : ℕ) × (at ≡ k + i) × StandsAt name (p ∷ ps) i
  by_name name p ps k at rest true is e = (0, (let same : k ≡ at = cc in omega arith), here name p ps is)
  by_name name p ps k at rest false is e = let (i, at_is, stands) = rest e in (i + 1, omega arith, later name p ps i is stands)

pub found : (name : List ℕ) (packs : List Pack) (at : ℕ) → position_from (named name) 0 packs ≡ Some at → StandsAt name packs at
found name packs at e = let (i, at_is, stands) = found_from name packs 0 at e in subst (StandsAt name packs) (let same : i ≡ at = omega arith in same) stands

pub nowhere : (name : List ℕ) (packs : List Pack) (k : ℕ) → position_from (named name) k packs ≡ None → (left_out name packs ≡ packs) × ((read : Pack) → filled name read packs ≡ packs)
nowhere name [] k e = (refl, λ read. refl)
nowhere name (p ∷ ps) k e = by_name name p ps k (nowhere name ps (k + 1)) (named name p) refl e where
  by_name : (name : List ℕ) (p : Pack) (ps : List Pack) (k : ℕ) → (position_from (named name) (k + 1) ps ≡ None → (left_out name ps ≡ ps) × ((read : Pack) → filled name read ps ≡ ps)) → (b : Bool) → named name p ≡ b → cond b (Some k) (position_from (named name) (k + 1) ps) ≡ None → (left_out name (p ∷ ps) ≡ p ∷ ps) × ((read : Pack) → filled name read (p ∷ ps) ≡ p ∷ ps)
  by_name name p ps k rest true is e = absurd (let no : ⊥ = cc in no)
  by_name name p ps k rest false is e = let (leaves, fills) = rest e in (rw is (ap (λ xs. p ∷ xs) leaves), λ read. rw is (ap (λ xs. p ∷ xs) (fills read)))

get_middle : (before : List Pack) (pack : Pack) (after : List Pack) → slice_get (before ++ pack ∷ after) (length before) ≡ Some pack
get_middle [] pack after = refl
get_middle (p ∷ before) pack after = get_middle before pack after

remove_middle : (before : List Pack) (pack : Pack) (after : List Pack) → remove (before ++ pack ∷ after) (length before) ≡ before ++ after
remove_middle [] pack after = refl
remove_middle (p ∷ before) pack after = ap (λ xs. p ∷ xs) (remove_middle before pack after)

pub within_packs : (name : List ℕ) (packs : List Pack) (at : ℕ) → StandsAt name packs at → at < length packs
within_packs name packs at stands =
    let size = stands.size in
    let all = ap (λ (xs : List Pack). length xs) stands.place ∙ length-append stands.before (stands.pack ∷ stands.after) in
    omega arith

pub get_place : (name : List ℕ) (packs : List Pack) (at : ℕ) → (stands : StandsAt name packs at) → slice_get packs at ≡ Some stands.pack
get_place name packs at stands =
    ap (λ (n : ℕ). slice_get packs n) (sym stands.size) ∙ ap (λ (xs : List Pack). slice_get xs (length stands.before)) stands.place ∙ get_middle stands.before stands.pack stands.after

pub set_place : (name : List ℕ) (packs : List Pack) (at : ℕ) (read : Pack) → (stands : StandsAt name packs at) → slice_set packs at (refilled stands.pack read) ≡ filled name read packs
set_place name packs at read stands =
    ap (λ (n : ℕ). slice_set packs n (refilled stands.pack read)) (sym stands.size)
    ∙ ap (λ (xs : List Pack). slice_set xs (length stands.before) (refilled stands.pack read)) stands.place
    ∙ set-append_seam stands.before stands.pack stands.after (refilled stands.pack read) ∙ sym (stands.fills read)

pub remove_place : (name : List ℕ) (packs : List Pack) (at : ℕ) → StandsAt name packs at → remove packs at ≡ left_out name packs
remove_place name packs at stands =
    ap (λ (n : ℕ). remove packs n) (sym stands.size) ∙ ap (λ (xs : List Pack). remove xs (length stands.before)) stands.place
    ∙ remove_middle stands.before stands.pack stands.after ∙ sym stands.leaves

-- what a slice of a list of the same length writes back
pub written_back : (new old : List Pack) → length new ≡ length old → take (length old) (new ++ drop (length new) old) ≡ new
written_back new old same = ap (λ (n : ℕ). take n (new ++ drop (length new) old)) (sym same) ∙ take-append_seam new (drop (length new) old)
