-- A list of tokens, of which there is always a next one: past the last stands the end.
use Rattle.std.specs.Prelude.{List, [], ◌∷◌, Bool, true, false, ◌&&◌}
use Rattle.sql_tokens.specs.declared.token.Token.{Token}
use Rattle.sql_tokens.specs.declared.token.Kind.{Kind}
use Rattle.sql_tokens.specs.declared.token.Kind.TheVariants as kind

abbrev pub end_token : Token
end_token = record { kind = kind.End; span = record { start = 0; end = 0 }; previous_end = 0 }

abbrev pub next : List Token → Token
next [] = end_token
next (t ∷ ts) = t

abbrev pub after : List Token → List Token
after [] = []
after (t ∷ ts) = ts

abbrev pub is_name : Kind → Bool
is_name (kind.Name w) = true
is_name (kind.QuotedName w) = true
is_name other = false

abbrev pub is_dot : Kind → Bool
is_dot kind.Dot = true
is_dot other = false

abbrev pub is_star : Kind → Bool
is_star kind.Star = true
is_star other = false

abbrev pub is_end : Kind → Bool
is_end kind.End = true
is_end other = false

-- the next three tokens are a name, a dot and `*`
abbrev pub is_all_of : List Token → Bool
is_all_of ts = is_name (next ts).kind && (is_dot (next (after ts)).kind && is_star (next (after (after ts))).kind)
