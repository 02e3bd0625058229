-- The parts of a nested text and its chains of selects: their byte places.
use Rattle.std.specs.Prelude.{ℕ, false, if◌then◌else◌, List, [], ◌∷◌, ◌++◌, length}
use Rattle.sql_tree.specs.declared.span.Span.{Span}
use Rattle.sql_tokens.specs.declared.token.Token.{Token}
use Rattle.sql_tokens.specs.Tokens.{next}
use Rattle.sql_nested.specs.declared.role.Role.{Role}
use Rattle.sql_nested.specs.declared.role.Role.TheVariants as role
use Rattle.sql_nested.specs.declared.chains.Part.{Part}
use Rattle.sql_nested.specs.declared.chains.Outline.{Outline}
use Rattle.sql_nested.specs.declared.chains.Chain.{Chain}
use Rattle.sql_nested.specs.declared.chains.Trace.{Trace}
use Rattle.sql_nested.specs.Roles.{role_of, cuts, opens_part}

-- the selects of a chain, of which the last ends there
abbrev pub ended : ℕ → Chain → List Span
ended to c = c.selects ++ (record { start = c.from; end = to }) ∷ []

-- UNION ALL stands from one place to the other
abbrev pub cut_at : ℕ → ℕ → Chain → Chain
cut_at to from c = record { opened = c.opened; is_part = c.is_part; from = from; selects = ended to c }

-- what a parenthesis opens
abbrev pub opened_at : Token → List Token → Chain
opened_at t rest = record { opened = t.span.start; is_part = opens_part rest; from = t.span.end; selects = [] }

abbrev pub opened_by : Token → List Token → Trace → Trace
opened_by t rest s = record { chain = opened_at t rest; around = s.chain ∷ s.around; parts = s.parts }

-- the part that a parenthesis closes
abbrev pub part_of : Token → Chain → Part
part_of t c = record { span = record { start = c.opened; end = t.span.end }; selects = ended t.span.start c }

-- behind a parenthesis that closes; one that closes none changes nothing
abbrev pub closed_by : Token → List Chain → Trace → Trace
closed_by t [] s = s
closed_by t (outer ∷ around) s = record { chain = outer; around = around; parts = if s.chain.is_part then s.parts ++ part_of t s.chain ∷ [] else s.parts }

abbrev pub cut_by : Token → List Token → Trace → Trace
cut_by t rest s = record { chain = cut_at t.span.start (next rest).span.end s.chain; around = s.around; parts = s.parts }

-- behind a token
unfoldable pub traced : List ℕ → Token → List Token → Trace → Trace
traced text t rest s = by (role_of t.kind) where
  by : Role → Trace
  by role.Open = opened_by t rest s
  by role.Close = closed_by t s.around s
  by _ = if cuts text t rest then cut_by t rest s else s

abbrev pub begun : Trace
begun = record { chain = record { opened = 0; is_part = false; from = 0; selects = [] }; around = []; parts = [] }

unfoldable pub traced_from : List ℕ → Trace → List Token → Trace
traced_from text s [] = s
traced_from text s (t ∷ ts) = traced_from text (traced text t ts s) ts

abbrev pub outline_by : List ℕ → Trace → Outline
outline_by text s = record { parts = s.parts; selects = ended (length text) s.chain }

-- the parts, in the order of the parentheses that close them, and the selects of the text itself
unfoldable pub outline_of : List ℕ → List Token → Outline
outline_of text tokens = outline_by text (traced_from text begun tokens)
