-- The lines of a load are short.
use Rattle.std.proofs.Common.{◌≡◌, ℕ, zero, suc, ◌+◌, ◌/◌, ◌%◌, ◌^◌, ◌≤◌, ◌<◌, ◌==◌, ◌&&◌, not, Bool, true, false, List, [], ◌∷◌, ◌++◌, length, refl, ap, sym, ◌∙◌, subst, arith, append_assoc, length-append, codes}
use Rattle.std.specs.Prelude.{All}
use Rattle.std.specs.Fmt.{decimal}
use Rattle.std.proofs.lemmas.Bool.{false≢true}
use Rattle.std.proofs.lemmas.Bool.Decides.{Decides-eqb}
use Rattle.std.proofs.lemmas.Fmt.{decimal_by_steps, length-decimal-le}
use Rattle.std.proofs.lemmas.List.Elements.{All-nil, All-cons, All-push}
use Rattle.osq_value.specs.declared.source.SourceKind.TheVariants.{Changes}
use Rattle.record_lines.specs.Lines.{HasNoFeed, lines_of, rest_of}
use Rattle.record_lines.proofs.Cuts.{lines_of-ended, lines_of-nil, rest_of-ended, rest_of-nil}
use Rattle.generated_changes.specs.Generated.{action_named, action_of, file_of, line_of, number_after}
use Rattle.generated_changes.specs.Generated as load
use Rattle.session_model.specs.Given.{Source}
use Rattle.run_laws.specs.OneList.{GivesOne, HasShortLines, SameLoads}
use Rattle.run_laws.proofs.Lines.{lines_give_one}
use Rattle.run_laws.proofs.Same.{same_entries}

no_feed-append : (xs ys : List ℕ) → HasNoFeed xs → HasNoFeed ys → HasNoFeed (xs ++ ys)
no_feed-append [] ys h k = k
no_feed-append (x ∷ xs) ys h k = (h.0, no_feed-append xs ys h.1 k)

-- no byte of a text that is written out is a line feed
abbrev plain : List ℕ → Bool
plain [] = true
plain (x ∷ xs) = not (x == 10) && plain xs

both : (a b : Bool) → (a && b) ≡ true → (a ≡ true) × (b ≡ true)
both true b h = (refl, h)
both false b h = absurd (false≢true h)

not_both : (b : Bool) → not b ≡ true → b ≡ true → ⊥
not_both true h e = false≢true h
not_both false h e = false≢true e

is_plain : (xs : List ℕ) → plain xs ≡ true → HasNoFeed xs
is_plain [] h = tt
is_plain (x ∷ xs) h =
    let parts = both (not (x == 10)) (plain xs) h in
    (λ e. not_both (x == 10) parts.0 ((Decides-eqb x 10).1 e), is_plain xs parts.1)

decimal_plain : (n : ℕ) → n < 2 ^ 64 → HasNoFeed (decimal n)
decimal_plain =
    decimal_by_steps (λ n ds. HasNoFeed ds)
    (λ n h. (λ e. absurd (let bad = e in omega (arith, bad)), tt))
    (λ n ds h before. no_feed-append ds ((48 + n % 10) ∷ []) before (λ e. absurd (let bad = e in omega (arith, bad)), tt))

named_plain : (k : ℕ) → HasNoFeed (action_named k) × (length (action_named k) ≤ 7)
unfolding action_named
named_plain zero = (is_plain (codes "CREATED") refl, omega arith)
named_plain (suc zero) = (is_plain (codes "UPDATED") refl, omega arith)
named_plain (suc (suc k)) = (is_plain (codes "DELETED") refl, omega arith)

action_plain : (number : ℕ) → HasNoFeed (action_of number) × (length (action_of number) ≤ 7)
unfolding action_of
action_plain number = named_plain ((number / 2 ^ 20) % 3)

file_small : (number : ℕ) → file_of number < 2 ^ 64
unfolding file_of
file_small number = let small : (number / 2 ^ 33) % 100 < 2 ^ 64 = omega arith in small

decimal_short : (n : ℕ) → n < 2 ^ 64 → length (decimal n) ≤ 20
decimal_short n small = length-decimal-le 20 n (omega arith) (let below : n < 10 ^ 20 = omega (arith, small) in below) small

abbrev path_front : List ℕ
path_front = codes "{\"path\":\"/etc/f"

abbrev action_front : List ℕ
action_front = codes "\",\"action\":\""

abbrev time_front : List ℕ
time_front = codes "\",\"time\":"

-- what stands before the end of a line, and behind it up to its line feed
abbrev what_of : ℕ → List ℕ
what_of number = (path_front ++ decimal (file_of number)) ++ (action_front ++ action_of number)

abbrev when_of : ℕ → List ℕ
when_of time = time_front ++ decimal time

-- a line without its line feed
abbrev front_of : ℕ → ℕ → List ℕ
front_of number time = what_of number ++ (when_of time ++ codes "}")

line_is : (number time : ℕ) → line_of number time ≡ front_of number time ++ 10 ∷ []
line_is number time =
    ap (λ (xs : List ℕ). what_of number ++ xs) (sym (append_assoc (when_of time) (codes "}") (10 ∷ [])))
    ∙ sym (append_assoc (what_of number) (when_of time ++ codes "}") (10 ∷ []))

front_plain : (number time : ℕ) → time < 2 ^ 64 → HasNoFeed (front_of number time)
front_plain number time small =
    let path = no_feed-append path_front (decimal (file_of number)) (is_plain path_front refl) (decimal_plain (file_of number) (file_small number)) in
    let action = no_feed-append action_front (action_of number) (is_plain action_front refl) (action_plain number).0 in
    let what = no_feed-append (path_front ++ decimal (file_of number)) (action_front ++ action_of number) path action in
    let when = no_feed-append time_front (decimal time) (is_plain time_front refl) (decimal_plain time small) in
    no_feed-append (what_of number) (when_of time ++ codes "}") what (no_feed-append (when_of time) (codes "}") when (is_plain (codes "}") refl))

front_short : (number time : ℕ) → time < 2 ^ 64 → length (front_of number time) ≤ 100
front_short number time small =
    let path : length (path_front ++ decimal (file_of number)) ≡ 15 + length (decimal (file_of number)) = length-append path_front (decimal (file_of number)) in
    let action : length (action_front ++ action_of number) ≡ 12 + length (action_of number) = length-append action_front (action_of number) in
    let what = length-append (path_front ++ decimal (file_of number)) (action_front ++ action_of number) in
    let when : length (when_of time) ≡ 9 + length (decimal time) = length-append time_front (decimal time) in
    let end : length (when_of time ++ codes "}") ≡ length (when_of time) + 1 = length-append (when_of time) (codes "}") in
    let all = length-append (what_of number) (when_of time ++ codes "}") in
    let file = decimal_short (file_of number) (file_small number) in
    let named = (action_plain number).1 in
    let moment = decimal_short time small in
    omega (arith, path, action, what, when, end, all, file, named, moment)

abbrev IsShort : List ℕ → Type 0
IsShort line = length line ≤ 100

-- all lines of a load are short, and behind the last line feed nothing stands
lines_short : (from count : ℕ) → count < 2 ^ 64 → All IsShort (lines_of (load.lines_of from count)) × (rest_of (load.lines_of from count) ≡ [])
unfolding load.lines_of
lines_short from zero small = (subst (All IsShort) (sym lines_of-nil) (All-nil IsShort), rest_of-nil)
lines_short from (suc count) small =
    let before = load.lines_of from count in
    let number = number_after (suc count) from in
    let front = front_of number (suc count) in
    let less : count < 2 ^ 64 = omega (arith, small) in
    let rest = lines_short from count less in
    let whole : before ++ line_of number (suc count) ≡ before ++ front ++ 10 ∷ [] =
    ap (λ (xs : List ℕ). before ++ xs) (line_is number (suc count)) ∙ sym (append_assoc before front (10 ∷ [])) in
    let feedless = front_plain number (suc count) small in
    let lines : lines_of (before ++ line_of number (suc count)) ≡ lines_of before ++ front ∷ [] =
    ap lines_of whole
    ∙ (lines_of-ended before front [] feedless
    ∙ (ap (λ (xs : List ℕ). lines_of before ++ (xs ++ front) ∷ lines_of []) rest.1
    ∙ ap (λ (ls : List (List ℕ)). lines_of before ++ front ∷ ls) lines_of-nil)) in
    let none = ap rest_of whole ∙ (rest_of-ended before front [] feedless ∙ rest_of-nil) in
    (subst (All IsShort) (sym lines) (All-push IsShort (lines_of before) front rest.0 (front_short number (suc count) small)), none)

-- so a session over a load adds one list
pub same_loads : (tells : Type 0) → SameLoads tells
same_loads tells given kept first beats one other name from count told sources records few x y =
    let source : Source = record { name = name; kind = Changes; bytes = load.lines_of from count } in
    let small : count < 2 ^ 64 = omega (arith, few) in
    let lines : HasShortLines given.records source.bytes = record { most = 100; fit = (let hundred = records in omega (arith, hundred)); short = (lines_short from count small).0 } in
    let gives : GivesOne tells given source = lines_give_one tells given source told refl lines in
    same_entries tells given kept first beats one other (subst (All (GivesOne tells given)) (sym sources) (All-cons (GivesOne tells given) source [] gives (All-nil (GivesOne tells given)))) x y
