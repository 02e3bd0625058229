-- The parts and selects, from the first token to the last.
use Rattle.std.proofs.Common.{◌≡◌, ℕ, List, [], ◌∷◌, ap, sym, ◌∙◌, length}
use Rattle.sql_tree.specs.declared.span.Span.{Span}
use Rattle.sql_tokens.specs.declared.token.Token.{Token}
use Rattle.sql_nested.specs.declared.chains.Trace.{Trace}
use Rattle.sql_nested.specs.Chains.{begun, ended, traced, traced_from, outline_by, outline_of}

pub traced_more : (text : List ℕ) (s after whole : Trace) (rest tail : List Token) (t : Token) → after ≡ traced text t tail s → rest ≡ t ∷ tail → whole ≡ traced_from text s rest → whole ≡ traced_from text after tail
unfolding traced_from
traced_more text s after whole rest tail t is_after e known = known ∙ ap (traced_from text s) e ∙ ap (λ (x : Trace). traced_from text x tail) (sym is_after)

pub traced_ends : (text : List ℕ) (tokens rest : List Token) (s : Trace) (selects : List Span) → rest ≡ [] → traced_from text begun tokens ≡ traced_from text s rest → selects ≡ ended (length text) s.chain
    → outline_of text tokens ≡ record { parts = s.parts; selects = selects }
unfolding traced_from outline_of
traced_ends text tokens rest s selects e known is_ended = rw is_ended (ap (outline_by text) (known ∙ ap (traced_from text s) e))
