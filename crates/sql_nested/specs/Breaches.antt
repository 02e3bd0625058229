-- The first breach of the rules of a nested text.
use Rattle.std.specs.Prelude.{ℕ, ◌==◌, ◌&&◌, ◌||◌, nat_lt, not, length, Bool, false, if◌then◌else◌, List, [], ◌∷◌, slice_get, Option, Some, None}
use Rattle.std.specs.Option.{option_map_or}
use Rattle.sql_tokens.specs.declared.token.Token.{Token}
use Rattle.sql_tokens.specs.Tokens.{next}
use Rattle.sql_faults.specs.declared.error.ParseError.{ParseError}
use Rattle.sql_faults.specs.declared.error.ParseKind.{ParseKind}
use Rattle.sql_faults.specs.declared.error.ParseKind.TheVariants.{NotInGrammar, TooDeep}
use Rattle.sql_nested.specs.declared.role.Role.{Role}
use Rattle.sql_nested.specs.declared.role.Role.TheVariants as role
use Rattle.sql_nested.specs.declared.level.Enclosure.{Enclosure}
use Rattle.sql_nested.specs.declared.level.Enclosure.TheVariants as enclosure
use Rattle.sql_nested.specs.declared.level.Standing.{Standing}
use Rattle.sql_nested.specs.declared.outlook.Look.{Look}
use Rattle.sql_nested.specs.Roles.{role_of, piece, is_union, is_all, opens_part}
use Rattle.sql_nested.specs.Levels.{is_chain, start, moved, may_name_table}
use Rattle.sql_nested.specs.Outlook.{behind, look_of}

abbrev pub unless : Bool → ParseKind → Option ParseKind
unless holds fault = if holds then None else Some fault

-- a part stands where a table's name may, and at most eight stand inside one another
abbrev pub breach_of_part : Standing → Option ParseKind
breach_of_part s = if not (may_name_table s) then Some NotInGrammar else unless (nat_lt s.level.depth 8) TooDeep

-- each parenthesis is closed
abbrev pub breach_of_open : Standing → List Token → Look → Option ParseKind
breach_of_open s rest look = if not look.is_closed then Some NotInGrammar else (if opens_part rest then breach_of_part s else None)

-- a name that begins with #, as those do that stand for parts
unfoldable pub is_numbered : List ℕ → Token → Bool
is_numbered text t = option_map_or (λ (byte : ℕ). byte == 35) (slice_get (piece text t.span) 1) false

abbrev pub is_after_union : List ℕ → Standing → Bool
is_after_union text s = option_map_or (is_union text) s.before false

-- UNION stands before ALL in a chain, and ALL behind UNION alone
unfoldable pub breach_of_name : List ℕ → Standing → Token → List Token → Option ParseKind
breach_of_name text s t rest =
    if is_union text t then unless (is_all text (next rest) && is_chain s.level.enclosure) NotInGrammar
    else (if is_all text t then unless (is_after_union text s) NotInGrammar else None)

-- a semicolon stands in no part, and before no further select of the text
abbrev pub breach_of_end : Enclosure → Look → Option ParseKind
breach_of_end enclosure.Text look = unless (not look.is_cut) NotInGrammar
breach_of_end enclosure.Part look = Some NotInGrammar
breach_of_end enclosure.Plain look = None

-- ORDER BY and LIMIT stand in no chain of several selects
abbrev pub breach_of_order : Standing → Look → Option ParseKind
breach_of_order s look = unless (not (is_chain s.level.enclosure && (s.level.is_cut || look.is_cut))) NotInGrammar

-- the breach of a token there, with these behind it
unfoldable pub breach_at : List ℕ → Standing → Token → List Token → Look → Option ParseKind
breach_at text s t rest look = by (role_of t.kind) where
  by : Role → Option ParseKind
  by role.Open = breach_of_open s rest look
  by role.Close = unless (not (length s.around == 0)) NotInGrammar
  by role.Semicolon = breach_of_end s.level.enclosure look
  by role.Order = breach_of_order s look
  by role.Limit = breach_of_order s look
  by role.Name = breach_of_name text s t rest
  by role.QuotedName = unless (not (is_numbered text t)) NotInGrammar
  by _ = None

abbrev pub first_of : Token → Option ParseKind → Option ParseError → Option ParseError
first_of t None others = others
first_of t (Some kind) others = Some (record { place = t.span.start; kind = kind })

-- the first breach of these tokens, by place
unfoldable pub first_from : List ℕ → Standing → List Token → Option ParseError
first_from text s [] = None
first_from text s (t ∷ ts) = first_of t (breach_at text s t ts (look_of (behind text ts))) (first_from text (moved text t ts s) ts)

unfoldable pub first_breach : List ℕ → List Token → Option ParseError
first_breach text tokens = first_from text start tokens
