-- What answers tell of a frame.
use Rattle.std.proofs.Common.{◌≡◌, ℕ, ◌<◌, ◌^◌, List, ◌++◌, Option, Some, None, unwrap_or, refl, sym, ap, ◌∙◌, codes, append_assoc}
use Rattle.std.specs.Fmt.{decimal}
use Rattle.std.specs.Str.{IsUtf8}
use Rattle.std.proofs.lemmas.List.{append_cancel_left}
use Rattle.result_batches.specs.Json.{quoted}
use Rattle.batch_frames.specs.Takes.{Takes}
use Rattle.collector_answers.specs.declared.answer.Answer.TheVariants.{Conflict}
use Rattle.collector_answers.specs.declared.read.Counted.{Counted}
use Rattle.collector_answers.specs.declared.read.Told.{Told}
use Rattle.collector_answers.specs.Lines.{counted_line, told}

-- what an answer tells, and what stands behind it
pub told_is : (front host behind : List ℕ) (number recorded : ℕ)
    → told front host number recorded ++ behind ≡ front ++ quoted host ++ codes ",\"number\":" ++ decimal number ++ codes ",\"recorded\":" ++ (decimal recorded ++ behind)
unfolding told
told_is front host behind number recorded =
    append_assoc (front ++ quoted host ++ codes ",\"number\":" ++ decimal number ++ codes ",\"recorded\":") (decimal recorded) behind

pub counted_is : (front host : List ℕ) (number recorded : ℕ)
    → counted_line front host number recorded ≡ front ++ quoted host ++ codes ",\"number\":" ++ decimal number ++ codes ",\"recorded\":" ++ (decimal recorded ++ codes "}")
unfolding counted_line
counted_is front host number recorded = told_is front host (codes "}") number recorded

pub spread : (a b c d e f : List ℕ) → a ++ b ++ c ++ d ++ e ++ f ≡ a ++ (b ++ (c ++ (d ++ (e ++ f))))
spread a b c d e f = simp append_assoc

pub none_some : {T : Type 0} {P : Type 0} → (x : T) → None ≡ Some x → P
none_some x e = absurd (let no : ⊥ = cc in no)

abbrev pub both : {A B : Type 0} → A → B → Option (A × B)
both a b = Some (a, b)

abbrev left_or : {A B : Type 0} → A → Option (A × B) → A
left_or a None = a
left_or a (Some p) = p.0

abbrev right_or : {A B : Type 0} → B → Option (A × B) → B
right_or b None = b
right_or b (Some p) = p.1

pub same_pair : {A B : Type 0} → (a x : A) (b y : B) → both a b ≡ both x y → (a ≡ x) × (b ≡ y)
same_pair a x b y e = (ap (left_or a) e, ap (right_or b) e)

pub same_both : {A B : Type 0} → (a x : A) (b y : B) → a ≡ x → b ≡ y → both a b ≡ both x y
same_both a x b y one other = ap (λ p. both p b) one ∙ ap (λ q. both x q) other

pub same_some : (a x : ℕ) → Some a ≡ Some x → a ≡ x
same_some a x e = ap (λ (o : Option ℕ). unwrap_or o a) e

abbrev pub told_and : List ℕ → ℕ → List ℕ → Option (Told × List ℕ)
told_and host number rest = Some (record { host = host; number = number }, rest)

abbrev pub counted : List ℕ → ℕ → ℕ → Option Counted
counted host number recorded = Some (record { host = host; number = number; recorded = recorded })

-- the parts that were read are those that were told
pub told_same : (h host : List ℕ) (n number : ℕ) (r rest : List ℕ) → h ≡ host → n ≡ number → r ≡ rest → told_and h n r ≡ told_and host number rest
told_same h host n number r rest one two three = ap (λ (x : List ℕ). told_and x n r) one ∙ ap (λ (x : ℕ). told_and host x r) two ∙ ap (λ (x : List ℕ). told_and host number x) three

pub record Parts (h host : List ℕ) (n number : ℕ) (r rest : List ℕ) : Type 0 where
  pub host_is : h ≡ host
  pub number_is : n ≡ number
  pub rest_is : r ≡ rest

abbrev host_or : List ℕ → Option (Told × List ℕ) → List ℕ
host_or h None = h
host_or h (Some p) = p.0.host

abbrev number_or : ℕ → Option (Told × List ℕ) → ℕ
number_or n None = n
number_or n (Some p) = p.0.number

pub told_parts : (h host : List ℕ) (n number : ℕ) (r rest : List ℕ) → told_and h n r ≡ told_and host number rest → Parts h host n number r rest
told_parts h host n number r rest e =
    record { host_is = ap (host_or h) e; number_is = ap (number_or n) e; rest_is = ap (right_or r) e }

pub counted_same : (h host : List ℕ) (n number m recorded : ℕ) → h ≡ host → n ≡ number → m ≡ recorded → counted h n m ≡ counted host number recorded
counted_same h host n number m recorded one two three =
    ap (λ (x : List ℕ). counted x n m) one ∙ ap (λ (x : ℕ). counted host x m) two ∙ ap (λ (x : ℕ). counted host number x) three

pub conflict_same : (h host : List ℕ) (n number m recorded : ℕ) (k kept f found : List ℕ) → h ≡ host → n ≡ number → m ≡ recorded → both k f ≡ both kept found
    → Some (Conflict h n m k f) ≡ Some (Conflict host number recorded kept found)
conflict_same h host n number m recorded k kept f found one two three digests =
    let same = same_pair k kept f found digests in
    ap (λ (x : List ℕ). Some (Conflict x n m k f)) one ∙ ap (λ (x : ℕ). Some (Conflict host x m k f)) two ∙ ap (λ (x : ℕ). Some (Conflict host number x k f)) three
    ∙ ap (λ (x : List ℕ). Some (Conflict host number recorded x f)) same.0 ∙ ap (λ (x : List ℕ). Some (Conflict host number recorded kept x)) same.1

module _ (line front rest h after : List ℕ) (whole : line ≡ front ++ rest) (takes : Takes quoted IsUtf8 rest h after) (host tail : List ℕ) (number : ℕ) (held : IsUtf8 host)
    (is : line ≡ front ++ quoted host ++ codes ",\"number\":" ++ decimal number ++ codes ",\"recorded\":" ++ tail) where
  -- the host is read, and the number stands behind it
  pub host_taken : (h ≡ host) × (after ≡ codes ",\"number\":" ++ (decimal number ++ (codes ",\"recorded\":" ++ tail)))
  host_taken =
      takes host (codes ",\"number\":" ++ (decimal number ++ (codes ",\"recorded\":" ++ tail))) held refl
      (append_cancel_left front rest (quoted host ++ (codes ",\"number\":" ++ (decimal number ++ (codes ",\"recorded\":" ++ tail))))
      (sym whole ∙ is ∙ spread front (quoted host) (codes ",\"number\":") (decimal number) (codes ",\"recorded\":") tail))

  -- the number is read, and the count stands behind it
  pub number_taken : (digits behind : List ℕ) (n : ℕ) → after ≡ codes ",\"number\":" ++ digits → Takes decimal (λ n. n < 2 ^ 64) digits n behind → number < 2 ^ 64
      → (n ≡ number) × (behind ≡ codes ",\"recorded\":" ++ tail)
  number_taken digits behind n at reads small =
      reads number (codes ",\"recorded\":" ++ tail) small refl
      (append_cancel_left (codes ",\"number\":") digits (decimal number ++ (codes ",\"recorded\":" ++ tail)) (sym at ∙ host_taken.1))
