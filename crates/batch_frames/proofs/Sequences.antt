-- Texts that stand behind one another, as a reader takes them.
use Rattle.std.proofs.Common.{◌≡◌, ℕ, Bool, true, false, List, ◌++◌, refl, ap, ◌∙◌, append_assoc}
use Rattle.std.specs.Prelude.{◌&&◌}
use Rattle.batch_frames.specs.Ends.{BeginsWithEnd}
use Rattle.batch_frames.specs.Takes.{Takes}

-- one value behind another
pub both_taken : {A B : Type 0} → (f : A → List ℕ) (F : A → Type 0) (g : B → List ℕ) (G : B → Type 0) (bytes middle rest : List ℕ) (a : A) (b : B)
    → ((value : B) (behind : List ℕ) → BeginsWithEnd (g value ++ behind)) → Takes f F bytes a middle → Takes g G middle b rest
    → Takes (λ (p : A × B). f p.0 ++ g p.1) (λ (p : A × B). F p.0 × G p.1) bytes (a, b) rest
both_taken {A = A} {B = B} f F g G bytes middle rest a b begins first second = λ p behind held ended is.
    let one : (a ≡ p.0) × (middle ≡ g p.1 ++ behind) = first p.0 (g p.1 ++ behind) held.0 (begins p.1 behind) (is ∙ append_assoc (f p.0) (g p.1) behind) in
    let two : (b ≡ p.1) × (rest ≡ behind) = second p.1 behind held.1 ended one.1 in
    let x : a ≡ p.0 = one.0 in
    let y : b ≡ p.1 = two.0 in
    (ap (λ (z : A). (z, b)) x ∙ ap (λ (z : B). (p.0, z)) y, two.1)

-- the parts of a frame's text are the text
pub parts_are : (w1 h w2 n w3 nm w4 tx w5 md w6 lo w7 hi w8 cu w9 mo w10 ns w11 rs : List ℕ)
    → ((((w1 ++ h) ++ (w2 ++ n)) ++ ((w3 ++ nm) ++ ((w4 ++ tx) ++ (w5 ++ md)))) ++ ((w6 ++ lo) ++ ((w7 ++ hi) ++ ((w8 ++ cu) ++ (w9 ++ mo))))) ++ ((w10 ++ ns) ++ (w11 ++ rs))
    ≡ w1 ++ h ++ w2 ++ n ++ w3 ++ nm ++ w4 ++ tx ++ w5 ++ md ++ w6 ++ lo ++ w7 ++ hi ++ w8 ++ cu ++ w9 ++ mo ++ w10 ++ ns ++ w11 ++ rs
parts_are w1 h w2 n w3 nm w4 tx w5 md w6 lo w7 hi w8 cu w9 mo w10 ns w11 rs = simp append_assoc

pub four_behind : (a b c d e : List ℕ) → (((a ++ b) ++ c) ++ d) ++ e ≡ a ++ (b ++ (c ++ (d ++ e)))
four_behind a b c d e = simp append_assoc

pub three_behind : (a b c d : List ℕ) → ((a ++ b) ++ c) ++ d ≡ a ++ (b ++ (c ++ d))
three_behind a b c d = simp append_assoc

pub both_true : (a b : Bool) → (a && b) ≡ true → (a ≡ true) × (b ≡ true)
both_true true b h = (refl, h)
both_true false b h = absurd (let no : ⊥ = cc in no)

pub two_behind : (line a b c d : List ℕ) → (((line ++ a) ++ b) ++ c) ++ d ≡ line ++ ((a ++ b) ++ (c ++ d))
two_behind line a b c d = simp append_assoc
