-- The calls of regex_match in a text's tokens.
use Rattle.std.specs.Prelude.{ℕ, pos, ◌+◌, ◌&&◌, ◌||◌, not, nat_le, if◌then◌else◌, Bool, true, false, List, [], ◌∷◌, codes, slice_get, Option, Some, None}
use Rattle.std.specs.Option.{unwrap_or, is_some}
use Rattle.sql_tree.specs.declared.tree.Name.{Name}
use Rattle.sql_tokens.specs.declared.token.Kind.{Kind}
use Rattle.sql_tokens.specs.declared.token.Kind.TheVariants as kind
use Rattle.sql_tokens.specs.declared.token.Token.{Token}
use Rattle.sql_tokens.specs.Tokens.{end_token, is_name}
pub use Rattle.sql_tokens.specs.Tokens.{is_dot}
use Rattle.sql_scope.specs.Spelling.{name_text, same_name}
use Rattle.sql_names.specs.Least.{lesser, least}
use Rattle.sql_names.specs.Unmeant.{begins_by_number}
use Rattle.custom_tables.specs.declared.call.Call.{Call}

-- the token so many behind the first; past the last stands the end
abbrev pub token_in : List Token → ℕ → Token
token_in ts at = unwrap_or (slice_get ts at) end_token

abbrev pub kind_in : List Token → ℕ → Kind
kind_in ts at = (token_in ts at).kind

abbrev pub is_open : Kind → Bool
is_open kind.Open = true
is_open other = false

abbrev pub is_close : Kind → Bool
is_close kind.Close = true
is_close other = false

abbrev pub is_comma : Kind → Bool
is_comma kind.Comma = true
is_comma other = false

abbrev pub is_text : Kind → Bool
is_text kind.Text = true
is_text other = false

abbrev pub is_number : Kind → Bool
is_number (kind.Number value) = true
is_number other = false

abbrev pub is_quoted : Kind → Bool
is_quoted (kind.QuotedName word) = true
is_quoted other = false

abbrev pub name_of : Token → Name
name_of token = record { span = token.span; is_quoted = is_quoted token.kind }

-- the name regex_match, ASCII case aside, with quotes or without
abbrev pub is_word : List ℕ → Token → Bool
is_word text token = is_name token.kind && same_name (name_text text (name_of token)) (codes "regex_match")

-- the tokens begin with that name and `(`
abbrev pub begins_call : List ℕ → List Token → Bool
begins_call text ts = is_open (kind_in ts 1) && is_word text (token_in ts 0)

-- where the column's name stands: behind `(`, or behind a table's name and a dot
abbrev pub column_at : List Token → ℕ
column_at ts = if is_dot (kind_in ts 3) then 4 else 2

-- behind a column's name stand `,`, a text, `,`, a number and `)`
abbrev pub has_rest : List Token → ℕ → Bool
has_rest ts at = is_comma (kind_in ts (at + 1)) && (is_text (kind_in ts (at + 2)) && (is_comma (kind_in ts (at + 3)) && (is_number (kind_in ts (at + 4)) && is_close (kind_in ts (at + 5)))))

-- of a text that begins with that name and `(`: the call is of the one form
abbrev pub is_call : List Token → Bool
is_call ts = is_name (kind_in ts 2) && ((not (is_dot (kind_in ts 3)) || is_name (kind_in ts 4)) && has_rest ts (column_at ts))

-- the group that a number names, which is at most 99
abbrev pub group_of : Kind → Option ℕ
group_of (kind.Number (Some (pos n))) = if nat_le n 99 then Some n else None
group_of other = None

-- the token of a call's number
abbrev pub number_of : List Token → Token
number_of ts = token_in ts (column_at ts + 4)

-- the call that these tokens begin with
abbrev pub call_of : List Token → Call
call_of ts = record {
  table = (if is_dot (kind_in ts 3) then Some (name_of (token_in ts 2)) else None);
  column = name_of (token_in ts (column_at ts));
  pattern = (token_in ts (column_at ts + 2)).span;
  group = unwrap_or (group_of (number_of ts).kind) 0;
  span = record { start = (token_in ts 0).span.start; end = (token_in ts (column_at ts + 5)).span.end };
}

-- the calls, in their order
abbrev pub calls_of : List ℕ → List Token → List Call
calls_of text [] = []
calls_of text (t ∷ ts) = if begins_call text (t ∷ ts) then call_of (t ∷ ts) ∷ calls_of text ts else calls_of text ts

-- a quoted name that begins with `#`
abbrev pub is_number_name : List ℕ → Token → Bool
is_number_name text token = is_quoted token.kind && begins_by_number (name_text text (name_of token))

-- where the tokens begin with a call that isn't of the form, or with a call whose group is above 99
abbrev pub call_fault_at : List Token → Option ℕ
call_fault_at ts = if not (is_call ts) then Some (token_in ts 0).span.start else (if is_some (group_of (number_of ts).kind) then None else Some (number_of ts).span.start)

abbrev pub name_fault_at : List ℕ → Token → Option ℕ
name_fault_at text token = if is_number_name text token then Some token.span.start else None

abbrev pub fault_at : List ℕ → List Token → Option ℕ
fault_at text ts = lesser (name_fault_at text (token_in ts 0)) (if begins_call text ts then call_fault_at ts else None)

abbrev pub faults_of : List ℕ → List Token → List (Option ℕ)
faults_of text [] = []
faults_of text (t ∷ ts) = fault_at text (t ∷ ts) ∷ faults_of text ts

-- the least place at which the calls or the names of a text are none
unfoldable pub call_fault : List ℕ → List Token → Option ℕ
call_fault text ts = least (faults_of text ts)
