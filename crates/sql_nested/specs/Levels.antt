-- The levels of a nested text: the text itself, and what each open parenthesis encloses. A token stands on the innermost level that is open there.
use Rattle.std.specs.Prelude.{ℕ, ◌+◌, ◌||◌, nat_lt, Bool, true, false, if◌then◌else◌, List, [], ◌∷◌, Option, Some, None}
use Rattle.std.specs.Option.{unwrap_or}
use Rattle.sql_tokens.specs.declared.token.Token.{Token}
use Rattle.sql_nested.specs.declared.role.Role.{Role}
use Rattle.sql_nested.specs.declared.role.Role.TheVariants as role
use Rattle.sql_nested.specs.declared.level.Enclosure.{Enclosure}
use Rattle.sql_nested.specs.declared.level.Enclosure.TheVariants as enclosure
use Rattle.sql_nested.specs.declared.level.Level.{Level}
use Rattle.sql_nested.specs.declared.level.Standing.{Standing}
use Rattle.sql_nested.specs.Roles.{role_of, is_union, is_all, cuts, opens_part}

-- the text itself, or the inside of a part
abbrev pub is_chain : Enclosure → Bool
is_chain enclosure.Text = true
is_chain enclosure.Part = true
is_chain enclosure.Plain = false

-- a ninth part is refused, and not counted
abbrev pub one_more : ℕ → ℕ
one_more depth = if nat_lt depth 8 then depth + 1 else depth

-- the level that a parenthesis opens, which opens a part or not
abbrev pub inside : Level → Bool → Level
inside outer true = record { enclosure = enclosure.Part; depth = one_more outer.depth; is_from = false; is_cut = false }
inside outer false = record { enclosure = enclosure.Plain; depth = outer.depth; is_from = false; is_cut = false }

-- whether a list of FROM stands behind the token, or another; ON, AND, JOIN begin none, so that a comma behind them is one of FROM
unfoldable pub begins_list : List ℕ → Token → Option Bool
begins_list text t = by (role_of t.kind) where
  by : Role → Option Bool
  by role.From = Some true
  by role.Select = Some false
  by role.Limit = Some false
  by role.Word = Some false
  by role.Name = if is_union text t || is_all text t then Some false else None
  by _ = None

-- the level behind a token that is no parenthesis
unfoldable pub seen : List ℕ → Token → List Token → Level → Level
seen text t rest level = record { enclosure = level.enclosure; depth = level.depth; is_from = unwrap_or (begins_list text t) level.is_from; is_cut = level.is_cut || cuts text t rest }

abbrev pub start : Standing
start = record { level = record { enclosure = enclosure.Text; depth = 0; is_from = false; is_cut = false }; around = []; before = None }

-- behind a parenthesis that closes a level; one that closes none changes no level
abbrev pub closed : Token → List Level → Standing → Standing
closed t [] s = record { level = s.level; around = []; before = Some t }
closed t (outer ∷ around) s = record { level = outer; around = around; before = Some t }

-- behind a token
unfoldable pub moved : List ℕ → Token → List Token → Standing → Standing
moved text t rest s = by (role_of t.kind) where
  by : Role → Standing
  by role.Open = record { level = inside s.level (opens_part rest); around = s.level ∷ s.around; before = Some t }
  by role.Close = closed t s.around s
  by _ = record { level = seen text t rest s.level; around = s.around; before = Some t }

-- behind FROM, JOIN, or a comma of FROM the name of a table may stand
abbrev pub may_name_table : Standing → Bool
may_name_table s = after s.before where
  by : Role → Bool
  by role.From = true
  by role.Join = true
  by role.Comma = s.level.is_from
  by _ = false

  after : Option Token → Bool
  after None = false
  after (Some t) = by (role_of t.kind)
