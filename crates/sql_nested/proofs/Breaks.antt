-- The first breach, from the first token to the last.
use Rattle.std.proofs.Common.{◌≡◌, ℕ, List, [], ◌∷◌, Option, Some, None, ap, sym, ◌∙◌}
use Rattle.sql_tokens.specs.declared.token.Token.{Token}
use Rattle.sql_faults.specs.declared.error.ParseError.{ParseError}
use Rattle.sql_faults.specs.declared.error.ParseKind.{ParseKind}
use Rattle.sql_nested.specs.declared.level.Standing.{Standing}
use Rattle.sql_nested.specs.declared.outlook.Look.{Look}
use Rattle.sql_nested.specs.Outlook.{behind, look_of, looks}
use Rattle.sql_nested.specs.Levels.{moved, start}
use Rattle.sql_nested.specs.Breaches.{breach_at, first_of, first_from, first_breach}

pub looks_split : (text : List ℕ) (rest tail : List Token) (t : Token) (all : List Look) → rest ≡ t ∷ tail → all ≡ looks text rest → all ≡ look_of (behind text tail) ∷ looks text tail
unfolding looks
looks_split text rest tail t all e h = h ∙ ap (looks text) e

pub breach_begins : (text : List ℕ) (tokens : List Token) (s : Standing) → s ≡ start → first_breach text tokens ≡ first_from text s tokens
unfolding first_breach
breach_begins text tokens s e = sym (ap (λ (x : Standing). first_from text x tokens) e)

pub breach_found : (text : List ℕ) (s : Standing) (rest tail : List Token) (t : Token) (look : Look) (kind : ParseKind) (whole : Option ParseError)
    → Some kind ≡ breach_at text s t tail look → rest ≡ t ∷ tail → whole ≡ first_from text s rest → look ≡ look_of (behind text tail) → whole ≡ Some (record { place = t.span.start; kind = kind })
unfolding first_from
breach_found text s rest tail t look kind whole found e known is_look =
    known ∙ ap (first_from text s) e ∙ ap (λ (o : Option ParseKind). first_of t o (first_from text (moved text t tail s) tail)) (sym (found ∙ ap (breach_at text s t tail) is_look))

pub breach_later : (text : List ℕ) (s after : Standing) (rest tail : List Token) (t : Token) (look : Look) (whole : Option ParseError)
    → None ≡ breach_at text s t tail look → rest ≡ t ∷ tail → whole ≡ first_from text s rest → look ≡ look_of (behind text tail) → after ≡ moved text t tail s → whole ≡ first_from text after tail
unfolding first_from
breach_later text s after rest tail t look whole found e known is_look is_after =
    known ∙ ap (first_from text s) e ∙ ap (λ (o : Option ParseKind). first_of t o (first_from text (moved text t tail s) tail)) (sym (found ∙ ap (breach_at text s t tail) is_look))
    ∙ ap (λ (x : Standing). first_from text x tail) (sym is_after)

pub breach_ends : (text : List ℕ) (s : Standing) (rest : List Token) (whole : Option ParseError) → rest ≡ [] → whole ≡ first_from text s rest → whole ≡ None
unfolding first_from
breach_ends text s rest whole e known = known ∙ ap (first_from text s) e
