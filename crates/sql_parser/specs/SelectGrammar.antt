-- The grammar of a SELECT: which tokens, from where to where, spell which tree. A part in brackets stands exactly where its first token does.
use Rattle.std.specs.Prelude.{◌≡◌, ◌≢◌, ℤ, suc, zero, pos, negsuc, List, [], ◌∷◌, Option, Some, None, Bool, true, false}
use Rattle.sql_tokens.specs.declared.token.Token.{Token}
use Rattle.sql_tokens.specs.declared.token.Kind.TheVariants as kind
use Rattle.sql_tokens.specs.declared.token.Clause.TheVariants as clause
use Rattle.sql_tokens.specs.declared.level.Level.TheVariants as level
use Rattle.sql_parser.specs.declared.clauses.Form.{Form}
use Rattle.sql_parser.specs.declared.clauses.Form.TheVariants as form
use Rattle.sql_tree.specs.declared.tree.Name.{Name}
use Rattle.sql_tokens.specs.Tokens.{next, after, is_name, is_all_of}
use Rattle.sql_faults.specs.Calls.{name_of}
use Rattle.sql_parser.specs.Grammar.{chain, Spells}
use Rattle.sql_tree.specs.Tree.{Tree}
use Rattle.sql_tree.specs.Select.{ItemTree, RefTree, HavingTree, TermTree, SelectTree}
use Rattle.sql_tree.specs.Select as select

-- from these tokens to those, what they spell
abbrev pub Spelling : Type 0 → Type 1
Spelling X = List Token → X → List Token → Type 0

-- e
abbrev pub SpellsExpression : Spelling Tree
SpellsExpression = Spells (chain level.Or)

-- ---- lists

-- {x}
pub data Repeated {X : Type 0} (More : Spelling (Option X)) : List Token → List X → List Token → Type 0 where
  no_further : {ts rest : List Token}
      → More ts None rest → Repeated More ts [] rest
  one_further : {ts middle rest : List Token} {x : X} {xs : List X}
      → More ts (Some x) middle → Repeated More middle xs rest → Repeated More ts (x ∷ xs) rest

-- x {y}
pub data Listed {X : Type 0} (First : Spelling X) (More : Spelling (Option X)) : List Token → List X → List Token → Type 0 where
  listed : {ts middle rest : List Token} {x : X} {xs : List X}
      → First ts x middle → Repeated More middle xs rest → Listed First More ts (x ∷ xs) rest

-- ["," x]
pub data BehindComma {X : Type 0} (Item : Spelling X) : List Token → Option X → List Token → Type 0 where
  no_comma : {ts : List Token}
      → (next ts).kind ≢ kind.Comma → BehindComma Item ts None ts
  a_comma : {ts rest : List Token} {x : X}
      → (next ts).kind ≡ kind.Comma → Item (after ts) x rest → BehindComma Item ts (Some x) rest

-- x {"," x}
abbrev pub WithCommas : {X : Type 0} → Spelling X → Spelling (List X)
WithCommas Item = Listed Item (BehindComma Item)

-- ---- names, and items of the result

pub data SpellsName : List Token → Name → List Token → Type 0 where
  a_name : {ts : List Token}
      → is_name (next ts).kind ≡ true → SpellsName ts (name_of (next ts)) (after ts)

-- [["AS"] name]
pub data SpellsAlias : List Token → Option Name → List Token → Type 0 where
  no_alias : {ts : List Token}
      → is_name (next ts).kind ≡ false → (next ts).kind ≢ kind.As → SpellsAlias ts None ts
  an_alias : {ts rest : List Token} {n : Name}
      → SpellsName ts n rest → SpellsAlias ts (Some n) rest
  alias_with_as : {ts rest : List Token} {n : Name}
      → (next ts).kind ≡ kind.As → SpellsName (after ts) n rest → SpellsAlias ts (Some n) rest

-- e [["AS"] name]. Its text ends where the last token of the expression does.
pub data SpellsExpressionItem : List Token → ItemTree → List Token → Type 0 where
  an_expression : {ts middle rest : List Token} {e : Tree} {alias : Option Name}
      → SpellsExpression ts e middle → SpellsAlias middle alias rest
      → SpellsExpressionItem ts (select.one e (record { start = (next ts).span.start; end = (next middle).previous_end }) alias) rest

-- "*" | name "." "*" | e [["AS"] name]
pub data SpellsItem : List Token → ItemTree → List Token → Type 0 where
  all_columns : {ts : List Token}
      → (next ts).kind ≡ kind.Star → SpellsItem ts (select.all (next ts).span.start) (after ts)
  all_columns_of : {ts : List Token}
      → is_all_of ts ≡ true → SpellsItem ts (select.all_of (name_of (next ts))) (after (after (after ts)))
  an_item : {ts rest : List Token} {item : ItemTree}
      → is_all_of ts ≡ false → (next ts).kind ≢ kind.Star → SpellsExpressionItem ts item rest → SpellsItem ts item rest

-- ---- tables

-- "(" name {"," name} ")"
pub data SpellsNames : List Token → List Name → List Token → Type 0 where
  some_names : {ts rest : List Token} {names : List Name}
      → (next ts).kind ≡ kind.Open → WithCommas SpellsName (after ts) names rest → (next rest).kind ≡ kind.Close → SpellsNames ts names (after rest)

-- ["ON" e | "USING" "(" name {"," name} ")"]
pub data SpellsCondition : List Token → Option Tree × List Name → List Token → Type 0 where
  no_condition : {ts : List Token}
      → (next ts).kind ≢ kind.Clause clause.On → (next ts).kind ≢ kind.Clause clause.Using → SpellsCondition ts (None, []) ts
  an_on : {ts rest : List Token} {e : Tree}
      → (next ts).kind ≡ kind.Clause clause.On → SpellsExpression (after ts) e rest → SpellsCondition ts (Some e, []) rest
  a_using : {ts rest : List Token} {names : List Name}
      → (next ts).kind ≡ kind.Clause clause.Using → SpellsNames (after ts) names rest → SpellsCondition ts (None, names) rest

-- only a table that JOIN or LEFT JOIN brings in has a condition
abbrev pub SpellsConditionOf : Form → Spelling (Option Tree × List Name)
SpellsConditionOf form.Plain ts condition rest = (condition ≡ (None, [])) × (rest ≡ ts)
SpellsConditionOf form.Inner ts condition rest = SpellsCondition ts condition rest
SpellsConditionOf form.Outer ts condition rest = SpellsCondition ts condition rest

abbrev pub is_outer : Form → Bool
is_outer form.Plain = false
is_outer form.Inner = false
is_outer form.Outer = true

-- name [["AS"] name], and the condition
pub data SpellsTable : Form → List Token → RefTree → List Token → Type 0 where
  a_table : {how : Form} {ts behind_name behind_alias rest : List Token} {table : Name} {alias : Option Name} {condition : Option Tree × List Name}
      → SpellsName ts table behind_name → SpellsAlias behind_name alias behind_alias → SpellsConditionOf how behind_alias condition rest
      → SpellsTable how ts (record { table = table; alias = alias; is_outer = is_outer how; on = condition.0; using = condition.1 }) rest

-- "JOIN"
pub data SpellsJoin : Form → List Token → Option Form → List Token → Type 0 where
  a_join : {how : Form} {ts : List Token}
      → (next ts).kind ≡ kind.Clause clause.Join → SpellsJoin how ts (Some how) (after ts)

-- ["OUTER"] "JOIN"
pub data SpellsOuterJoin : List Token → Option Form → List Token → Type 0 where
  without_outer : {ts rest : List Token} {how : Option Form}
      → (next ts).kind ≢ kind.Clause clause.Outer → SpellsJoin form.Outer ts how rest → SpellsOuterJoin ts how rest
  with_outer : {ts rest : List Token} {how : Option Form}
      → (next ts).kind ≡ kind.Clause clause.Outer → SpellsJoin form.Outer (after ts) how rest → SpellsOuterJoin ts how rest

-- ["," | "CROSS" "JOIN" | ["INNER"] "JOIN" | "LEFT" ["OUTER"] "JOIN"]
pub data SpellsForm : List Token → Option Form → List Token → Type 0 where
  no_table : {ts : List Token}
      → (next ts).kind ≢ kind.Comma → (next ts).kind ≢ kind.Clause clause.Cross → (next ts).kind ≢ kind.Clause clause.Join → (next ts).kind ≢ kind.Clause clause.Inner → (next ts).kind ≢ kind.Clause clause.Left → SpellsForm ts None ts
  by_comma : {ts : List Token}
      → (next ts).kind ≡ kind.Comma → SpellsForm ts (Some form.Plain) (after ts)
  by_cross_join : {ts rest : List Token} {how : Option Form}
      → (next ts).kind ≡ kind.Clause clause.Cross → SpellsJoin form.Plain (after ts) how rest → SpellsForm ts how rest
  by_join : {ts rest : List Token} {how : Option Form}
      → SpellsJoin form.Inner ts how rest → SpellsForm ts how rest
  by_inner_join : {ts rest : List Token} {how : Option Form}
      → (next ts).kind ≡ kind.Clause clause.Inner → SpellsJoin form.Inner (after ts) how rest → SpellsForm ts how rest
  by_left_join : {ts rest : List Token} {how : Option Form}
      → (next ts).kind ≡ kind.Clause clause.Left → SpellsOuterJoin (after ts) how rest → SpellsForm ts how rest

-- a further table, as the words before it bring it in
pub data SpellsFurtherTable : List Token → Option RefTree → List Token → Type 0 where
  no_further_table : {ts rest : List Token}
      → SpellsForm ts None rest → SpellsFurtherTable ts None rest
  a_further_table : {ts middle rest : List Token} {how : Form} {table : RefTree}
      → SpellsForm ts (Some how) middle → SpellsTable how middle table rest → SpellsFurtherTable ts (Some table) rest

-- table {further table}
abbrev pub SpellsTables : Spelling (List RefTree)
SpellsTables = Listed (SpellsTable form.Plain) SpellsFurtherTable

-- ---- the clauses in their order

-- ["DISTINCT"]
pub data SpellsDistinct : List Token → Bool → List Token → Type 0 where
  no_distinct : {ts : List Token}
      → (next ts).kind ≢ kind.Distinct → SpellsDistinct ts false ts
  a_distinct : {ts : List Token}
      → (next ts).kind ≡ kind.Distinct → SpellsDistinct ts true (after ts)

-- "SELECT" ["DISTINCT"]
pub data SpellsOpening : List Token → Bool → List Token → Type 0 where
  an_opening : {ts rest : List Token} {is_distinct : Bool}
      → (next ts).kind ≡ kind.Clause clause.Select → SpellsDistinct (after ts) is_distinct rest → SpellsOpening ts is_distinct rest

-- ["FROM" table {further table}]
pub data SpellsFrom : List Token → List RefTree → List Token → Type 0 where
  no_from : {ts : List Token}
      → (next ts).kind ≢ kind.Clause clause.From → SpellsFrom ts [] ts
  a_from : {ts rest : List Token} {tables : List RefTree}
      → (next ts).kind ≡ kind.Clause clause.From → SpellsTables (after ts) tables rest → SpellsFrom ts tables rest

-- ["WHERE" e]
pub data SpellsWhere : List Token → Option Tree → List Token → Type 0 where
  no_where : {ts : List Token}
      → (next ts).kind ≢ kind.Clause clause.Where → SpellsWhere ts None ts
  a_where : {ts rest : List Token} {e : Tree}
      → (next ts).kind ≡ kind.Clause clause.Where → SpellsExpression (after ts) e rest → SpellsWhere ts (Some e) rest

-- "BY" x {"," x}
pub data SpellsBy {X : Type 0} (Item : Spelling X) : List Token → List X → List Token → Type 0 where
  a_by : {ts rest : List Token} {xs : List X}
      → (next ts).kind ≡ kind.Clause clause.By → WithCommas Item (after ts) xs rest → SpellsBy Item ts xs rest

-- ["GROUP" "BY" e {"," e}]
pub data SpellsGroup : List Token → List Tree → List Token → Type 0 where
  no_group : {ts : List Token}
      → (next ts).kind ≢ kind.Clause clause.Group → SpellsGroup ts [] ts
  a_group : {ts rest : List Token} {keys : List Tree}
      → (next ts).kind ≡ kind.Clause clause.Group → SpellsBy SpellsExpression (after ts) keys rest → SpellsGroup ts keys rest

-- ["HAVING" e]
pub data SpellsHaving : List Token → Option HavingTree → List Token → Type 0 where
  no_having : {ts : List Token}
      → (next ts).kind ≢ kind.Clause clause.Having → SpellsHaving ts None ts
  a_having : {ts rest : List Token} {e : Tree}
      → (next ts).kind ≡ kind.Clause clause.Having → SpellsExpression (after ts) e rest → SpellsHaving ts (Some (record { place = (next ts).span.start; tree = e })) rest

-- ["ASC" | "DESC"]: whether it is descending
pub data SpellsDirection : List Token → Bool → List Token → Type 0 where
  no_direction : {ts : List Token}
      → (next ts).kind ≢ kind.Clause clause.Asc → (next ts).kind ≢ kind.Clause clause.Desc → SpellsDirection ts false ts
  ascending : {ts : List Token}
      → (next ts).kind ≡ kind.Clause clause.Asc → SpellsDirection ts false (after ts)
  descending : {ts : List Token}
      → (next ts).kind ≡ kind.Clause clause.Desc → SpellsDirection ts true (after ts)

-- e ["ASC" | "DESC"]
pub data SpellsTerm : List Token → TermTree → List Token → Type 0 where
  a_term : {ts middle rest : List Token} {e : Tree} {is_descending : Bool}
      → SpellsExpression ts e middle → SpellsDirection middle is_descending rest → SpellsTerm ts (record { tree = e; is_descending = is_descending }) rest

-- ["ORDER" "BY" term {"," term}]
pub data SpellsOrder : List Token → List TermTree → List Token → Type 0 where
  no_order : {ts : List Token}
      → (next ts).kind ≢ kind.Clause clause.Order → SpellsOrder ts [] ts
  an_order : {ts rest : List Token} {terms : List TermTree}
      → (next ts).kind ≡ kind.Clause clause.Order → SpellsBy SpellsTerm (after ts) terms rest → SpellsOrder ts terms rest

pub data SpellsNumber : List Token → ℤ → List Token → Type 0 where
  a_number : {ts : List Token} {n : ℤ}
      → (next ts).kind ≡ kind.Number (Some n) → SpellsNumber ts n (after ts)

-- minus the size of a number; a token's number has no sign, so that this is its negative
abbrev pub minus : ℤ → ℤ
minus (pos zero) = pos zero
minus (pos (suc n)) = negsuc n
minus (negsuc n) = negsuc n

-- ["-" | "+"] number
pub data SpellsInteger : List Token → ℤ → List Token → Type 0 where
  unsigned : {ts rest : List Token} {n : ℤ}
      → (next ts).kind ≢ kind.Plus → (next ts).kind ≢ kind.Minus → SpellsNumber ts n rest → SpellsInteger ts n rest
  with_plus : {ts rest : List Token} {n : ℤ}
      → (next ts).kind ≡ kind.Plus → SpellsNumber (after ts) n rest → SpellsInteger ts n rest
  with_minus : {ts rest : List Token} {n : ℤ}
      → (next ts).kind ≡ kind.Minus → SpellsNumber (after ts) n rest → SpellsInteger ts (minus n) rest

-- ["OFFSET" int]
pub data SpellsOffset : List Token → Option ℤ → List Token → Type 0 where
  no_offset : {ts : List Token}
      → (next ts).kind ≢ kind.Clause clause.Offset → SpellsOffset ts None ts
  an_offset : {ts rest : List Token} {n : ℤ}
      → (next ts).kind ≡ kind.Clause clause.Offset → SpellsInteger (after ts) n rest → SpellsOffset ts (Some n) rest

-- ["LIMIT" int ["OFFSET" int]]
pub data SpellsLimit : List Token → Option ℤ × Option ℤ → List Token → Type 0 where
  no_limit : {ts : List Token}
      → (next ts).kind ≢ kind.Clause clause.Limit → SpellsLimit ts (None, None) ts
  a_limit : {ts middle rest : List Token} {n : ℤ} {skip : Option ℤ}
      → (next ts).kind ≡ kind.Clause clause.Limit → SpellsInteger (after ts) n middle → SpellsOffset middle skip rest → SpellsLimit ts (Some n, skip) rest

-- ---- the whole

pub record SpellsSelect (ts : List Token) (tree : SelectTree) (rest : List Token) : Type 0 where
  pub behind_opening : List Token
  pub behind_items : List Token
  pub behind_from : List Token
  pub behind_where : List Token
  pub behind_group : List Token
  pub behind_having : List Token
  pub behind_order : List Token
  pub opening : SpellsOpening ts tree.is_distinct behind_opening
  pub items : WithCommas SpellsItem behind_opening tree.items behind_items
  pub from : SpellsFrom behind_items tree.sources behind_from
  pub filter : SpellsWhere behind_from tree.filter behind_where
  pub group : SpellsGroup behind_where tree.keys behind_group
  pub having : SpellsHaving behind_group tree.having behind_having
  pub order : SpellsOrder behind_having tree.terms behind_order
  pub limit : SpellsLimit behind_order (tree.limit, tree.skip) rest

-- [";"], and the end
pub data SpellsEnd : List Token → Type 0 where
  at_end : {ts : List Token}
      → (next ts).kind ≡ kind.End → SpellsEnd ts
  behind_semicolon : {ts : List Token}
      → (next ts).kind ≡ kind.Semicolon → (next (after ts)).kind ≡ kind.End → SpellsEnd ts

-- the tokens spell this tree, and then stands the end
pub record IsSelect (tokens : List Token) (tree : SelectTree) : Type 0 where
  pub rest : List Token
  pub spelled : SpellsSelect tokens tree rest
  pub ended : SpellsEnd rest
