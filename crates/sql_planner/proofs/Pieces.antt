-- A text that grew piece by piece.
use Rattle.std.proofs.Common.{◌≡◌, ap, ◌∙◌, List, ◌++◌, append_assoc}

pub four : {X : Type 0} (text a b c d one two three grown : List X) → grown ≡ three ++ d → three ≡ two ++ c → two ≡ one ++ b → one ≡ text ++ a → grown ≡ text ++ (((a ++ b) ++ c) ++ d)
four text a b c d one two three grown last third second first =
    let front : (text ++ a) ++ b ≡ text ++ (a ++ b) = append_assoc text a b in
    let more : (text ++ (a ++ b)) ++ c ≡ text ++ ((a ++ b) ++ c) = append_assoc text (a ++ b) c in
    let all : (text ++ ((a ++ b) ++ c)) ++ d ≡ text ++ (((a ++ b) ++ c) ++ d) = append_assoc text ((a ++ b) ++ c) d in
    last ∙ ap (λ t. t ++ d) (third ∙ ap (λ t. t ++ c) (second ∙ ap (λ t. t ++ b) first ∙ front) ∙ more) ∙ all
