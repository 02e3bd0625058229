-- What tokens are to the selects that a nested text joins.
use Rattle.std.specs.Prelude.{ℕ, ◌-◌, ◌&&◌, Bool, true, false, List, take, drop, codes}
use Rattle.std.specs.Str.{str_eq_ignore_ascii_case}
use Rattle.sql_tree.specs.declared.span.Span.{Span}
use Rattle.sql_tokens.specs.declared.token.Token.{Token}
use Rattle.sql_tokens.specs.declared.token.Kind.{Kind}
use Rattle.sql_tokens.specs.declared.token.Kind.TheVariants as kind
use Rattle.sql_tokens.specs.declared.token.Clause.{Clause}
use Rattle.sql_tokens.specs.declared.token.Clause.TheVariants as clause
use Rattle.sql_tokens.specs.Tokens.{next}
use Rattle.sql_nested.specs.declared.role.Role.{Role}
use Rattle.sql_nested.specs.declared.role.Role.TheVariants as role

abbrev pub role_of_clause : Clause → Role
role_of_clause clause.Select = role.Select
role_of_clause clause.From = role.From
role_of_clause clause.Where = role.Word
role_of_clause clause.By = role.Word
role_of_clause clause.Having = role.Word
role_of_clause clause.Offset = role.Word
role_of_clause clause.Order = role.Order
role_of_clause clause.Limit = role.Limit
role_of_clause clause.Join = role.Join
role_of_clause other = role.Inner

abbrev pub role_of : Kind → Role
role_of kind.Open = role.Open
role_of kind.Close = role.Close
role_of kind.Semicolon = role.Semicolon
role_of kind.Comma = role.Comma
role_of (kind.Clause c) = role_of_clause c
role_of (kind.Name w) = role.Name
role_of (kind.QuotedName w) = role.QuotedName
role_of other = role.Inner

-- the bytes of a span
abbrev pub piece : List ℕ → Span → List ℕ
piece text span = take (span.end - span.start) (drop span.start text)

abbrev pub is_plain_name : Kind → Bool
is_plain_name (kind.Name w) = true
is_plain_name other = false

-- UNION and ALL are plain names to a SELECT alone, and keywords of a nested text
abbrev pub is_word : List ℕ → List ℕ → Token → Bool
is_word text word t = is_plain_name t.kind && str_eq_ignore_ascii_case (piece text t.span) word

unfoldable pub is_union : List ℕ → Token → Bool
is_union text t = is_word text (codes "union") t

unfoldable pub is_all : List ℕ → Token → Bool
is_all text t = is_word text (codes "all") t

-- UNION with ALL behind it, which cuts a chain into selects
unfoldable pub cuts : List ℕ → Token → List Token → Bool
cuts text t rest = is_union text t && is_all text (next rest)

-- SELECT stands in front, so that the parenthesis before opens a part
abbrev pub is_select : Role → Bool
is_select role.Select = true
is_select _ = false

abbrev pub opens_part : List Token → Bool
opens_part rest = is_select (role_of (next rest).kind)
