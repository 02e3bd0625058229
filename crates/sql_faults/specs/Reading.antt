-- The reading of a list of tokens, which holds what is still expected, and the faults that it meets.
use Rattle.std.specs.Prelude.{ℕ, ◌+◌, nat_lt, if◌then◌else◌, List, [], ◌∷◌, ◌++◌, Option, Some, None, Bool, true, false}
use Rattle.sql_tokens.specs.declared.token.Token.{Token}
use Rattle.sql_faults.specs.declared.error.ParseError.{ParseError}
use Rattle.sql_faults.specs.declared.error.ParseKind.{ParseKind}
use Rattle.sql_faults.specs.declared.error.ParseKind.TheVariants.{NotInGrammar, NumberTooWide, TooDeep}
use Rattle.sql_tokens.specs.declared.token.Kind.{Kind}
use Rattle.sql_tokens.specs.declared.token.Kind.TheVariants as kind
use Rattle.sql_tokens.specs.declared.token.Word.{Word}
use Rattle.sql_tokens.specs.declared.level.Level.{Level}
use Rattle.sql_tokens.specs.declared.level.Level.TheVariants as level
use Rattle.sql_tokens.specs.declared.level.Sign.{Sign}
use Rattle.sql_tokens.specs.declared.level.Sign.TheVariants as sign
use Rattle.sql_faults.specs.declared.part.Part.{Part}
use Rattle.sql_faults.specs.declared.part.Part.TheVariants.{One, Must, May}
use Rattle.sql_faults.specs.declared.part.Expected.{Expected}
use Rattle.sql_faults.specs.declared.part.Expected.TheVariants as expected
use Rattle.sql_faults.specs.declared.part.Rule.{Rule}
use Rattle.sql_faults.specs.declared.part.Rule.TheVariants as rule
use Rattle.sql_faults.specs.declared.part.Optional.{Optional}
use Rattle.sql_faults.specs.declared.part.Optional.TheVariants as optional
use Rattle.sql_tokens.specs.Levels.{sign_at}
use Rattle.sql_faults.specs.declared.arguments.Shape.{Shape}
use Rattle.sql_faults.specs.declared.arguments.Shape.TheVariants as shape
use Rattle.sql_faults.specs.Calls.{is_known, is_allowed, type_of}
use Rattle.sql_tokens.specs.declared.token.Clause.TheVariants as clause
use Rattle.sql_tokens.specs.Tokens.{end_token, is_all_of}

-- one more nesting, and one more operator, as far as the limit
abbrev pub deeper : ℕ → ℕ
deeper d = if nat_lt d 64 then d + 1 else d

abbrev pub later : ℕ → ℕ
later count = if nat_lt count 1000 then count + 1 else count

abbrev pub one_longer : Shape → Shape
one_longer shape.All = shape.All
one_longer (shape.Distinct n) = shape.Distinct (later n)
one_longer (shape.Plain n) = shape.Plain (later n)

-- what stands between the operators of a level
abbrev pub operand_rule : Level → ℕ → Rule
operand_rule level.Or d = rule.Chain level.And d
operand_rule level.And d = rule.Negated d
operand_rule level.Equal d = rule.Chain level.Less d
operand_rule level.Less d = rule.Chain level.Sum d
operand_rule level.Sum d = rule.Chain level.Product d
operand_rule level.Product d = rule.Chain level.Joined d
operand_rule level.Joined d = rule.Signed d

abbrev pub further : Level → ℕ → ℕ → Part
further l d count = May (optional.Step l d count)

-- AS, a type's name and the parenthesis that closes a cast
abbrev pub type_parts : List Part
type_parts = One expected.As ∷ One expected.Type ∷ One expected.Close ∷ []

-- what stands behind the word CAST
abbrev pub cast_parts : ℕ → List Part
cast_parts d = One (expected.Parenthesis d) ∷ Must (rule.Chain level.Or (deeper d)) ∷ type_parts

-- ---- the alternative of a rule that the next token can begin

unfoldable pub atom_by : ℕ → Token → Kind → List Part
atom_by d t (kind.Number value) = One expected.Number ∷ []
atom_by d t kind.Text = One expected.Chosen ∷ []
atom_by d t kind.Null = One expected.Chosen ∷ []
atom_by d t (kind.Name w) = One expected.Chosen ∷ May (optional.AfterName d t.span.start w) ∷ []
atom_by d t (kind.QuotedName w) = One expected.Chosen ∷ May (optional.AfterName d t.span.start w) ∷ []
atom_by d t kind.Cast = One expected.Chosen ∷ One (expected.Parenthesis d) ∷ Must (rule.Chain level.Or (deeper d)) ∷ type_parts
atom_by d t kind.Open = One (expected.Nesting d) ∷ Must (rule.Chain level.Or (deeper d)) ∷ One expected.Close ∷ []
atom_by d t other = One expected.Nothing ∷ []

unfoldable pub signed_by : ℕ → Token → Kind → List Part
signed_by d t kind.Plus = One (expected.Nesting d) ∷ Must (rule.Signed (deeper d)) ∷ []
signed_by d t kind.Minus = One (expected.Nesting d) ∷ Must (rule.Signed (deeper d)) ∷ []
signed_by d t other = atom_by d t other

unfoldable pub joined_by : ℕ → Token → Kind → List Part
joined_by d t k = signed_by d t k ++ further level.Joined d 0 ∷ []

unfoldable pub product_by : ℕ → Token → Kind → List Part
product_by d t k = joined_by d t k ++ further level.Product d 0 ∷ []

unfoldable pub sum_by : ℕ → Token → Kind → List Part
sum_by d t k = product_by d t k ++ further level.Sum d 0 ∷ []

unfoldable pub less_by : ℕ → Token → Kind → List Part
less_by d t k = sum_by d t k ++ further level.Less d 0 ∷ []

unfoldable pub equal_by : ℕ → Token → Kind → List Part
equal_by d t k = less_by d t k ++ further level.Equal d 0 ∷ []

unfoldable pub negated_by : ℕ → Token → Kind → List Part
negated_by d t kind.Not = One (expected.Nesting d) ∷ Must (rule.Negated (deeper d)) ∷ []
negated_by d t other = equal_by d t other

unfoldable pub and_by : ℕ → Token → Kind → List Part
and_by d t k = negated_by d t k ++ further level.And d 0 ∷ []

unfoldable pub or_by : ℕ → Token → Kind → List Part
or_by d t k = and_by d t k ++ further level.Or d 0 ∷ []

abbrev pub chain_by : Level → ℕ → Token → Kind → List Part
chain_by level.Or = or_by
chain_by level.And = and_by
chain_by level.Equal = equal_by
chain_by level.Less = less_by
chain_by level.Sum = sum_by
chain_by level.Product = product_by
chain_by level.Joined = joined_by

abbrev pub list_parts : ℕ → List Part
list_parts d = One (expected.Parenthesis d) ∷ Must (rule.Items (deeper d)) ∷ []

abbrev pub between_parts : Level → ℕ → List Part
between_parts l d = Must (operand_rule l d) ∷ One expected.And ∷ Must (operand_rule l d) ∷ []

unfoldable pub negatable_by : Level → ℕ → Kind → List Part
negatable_by l d kind.Like = One expected.Chosen ∷ Must (operand_rule l d) ∷ []
negatable_by l d kind.In = One expected.Chosen ∷ list_parts d
negatable_by l d kind.Between = One expected.Chosen ∷ between_parts l d
negatable_by l d other = One expected.Nothing ∷ []

unfoldable pub items_by : ℕ → Token → Kind → List Part
items_by d t kind.Close = One expected.Close ∷ []
items_by d t other = or_by d t other ++ May (optional.Item d) ∷ One expected.Close ∷ []

unfoldable pub arguments_by : ℕ → ℕ → Word → Token → Kind → List Part
arguments_by d p w t kind.Close = One (expected.EndOfCall p w (shape.Plain 0)) ∷ []
arguments_by d p w t kind.Star = One expected.Chosen ∷ One (expected.EndOfCall p w shape.All) ∷ []
arguments_by d p w t kind.Distinct = One expected.Chosen ∷ Must (rule.Chain level.Or d) ∷ Must (rule.AfterArgument d p w (shape.Distinct 1)) ∷ []
arguments_by d p w t other = or_by d t other ++ Must (rule.AfterArgument d p w (shape.Plain 1)) ∷ []

unfoldable pub after_argument_by : ℕ → ℕ → Word → Shape → Kind → List Part
after_argument_by d p w s kind.Comma = One expected.Chosen ∷ Must (rule.Chain level.Or d) ∷ Must (rule.AfterArgument d p w (one_longer s)) ∷ []
after_argument_by d p w s other = One (expected.EndOfCall p w s) ∷ []

-- what follows a table's name, and a further table with its condition
abbrev pub source_parts : List Part
source_parts = One expected.Name ∷ May optional.Alias ∷ []

abbrev pub term_parts : List Part
term_parts = Must (rule.Chain level.Or 0) ∷ May optional.Direction ∷ []

abbrev pub names_parts : List Part
names_parts = One expected.Open ∷ One expected.Name ∷ May optional.Names ∷ One expected.Close ∷ []

unfoldable pub other_item_by : Token → Kind → List Part
other_item_by t kind.Star = One expected.Chosen ∷ []
other_item_by t other = or_by 0 t other ++ May optional.Alias ∷ []

-- an item is a name, a dot and `*` exactly where the next three tokens are these
unfoldable pub select_item_by : Bool → Token → Kind → List Part
select_item_by true t k = One expected.Name ∷ One expected.Dot ∷ One expected.Star ∷ []
select_item_by false t k = other_item_by t k

unfoldable pub integer_by : Kind → List Part
integer_by kind.Plus = One expected.Chosen ∷ One expected.Number ∷ []
integer_by kind.Minus = One expected.Chosen ∷ One expected.Number ∷ []
integer_by other = One expected.Number ∷ []

unfoldable pub left_join_by : Kind → List Part
left_join_by (kind.Clause clause.Outer) = One expected.Chosen ∷ One expected.Join ∷ []
left_join_by other = One expected.Join ∷ []

abbrev pub alternative : Rule → Token → Bool → List Part
alternative (rule.Chain l d) t a = chain_by l d t t.kind
alternative (rule.Negated d) t a = negated_by d t t.kind
alternative (rule.Signed d) t a = signed_by d t t.kind
alternative (rule.Atom d) t a = atom_by d t t.kind
alternative (rule.Negatable l d) t a = negatable_by l d t.kind
alternative (rule.Items d) t a = items_by d t t.kind
alternative (rule.Arguments d p w) t a = arguments_by d p w t t.kind
alternative (rule.AfterArgument d p w s) t a = after_argument_by d p w s t.kind
alternative rule.SelectItem t a = select_item_by a t t.kind
alternative rule.Integer t a = integer_by t.kind
alternative rule.LeftJoin t a = left_join_by t.kind

-- ---- what an optional part is where the next token can begin it

abbrev pub behind : Sign → Level → ℕ → List Part
behind (sign.Binary op) l d = Must (operand_rule l d) ∷ []
behind sign.Is l d = May optional.Not ∷ Must (operand_rule l d) ∷ []
behind sign.Not l d = Must (rule.Negatable l d) ∷ []
behind sign.In l d = list_parts d
behind sign.Between l d = between_parts l d

abbrev pub step_by : Level → ℕ → ℕ → Option Sign → Option (List Part)
step_by l d count None = None
step_by l d count (Some s) = Some (One (expected.Operator count) ∷ behind s l d ++ further l d (later count) ∷ [])

unfoldable pub not_by : Kind → Option (List Part)
not_by kind.Not = Some (One expected.Chosen ∷ [])
not_by other = None

unfoldable pub item_by : ℕ → Kind → Option (List Part)
item_by d kind.Comma = Some (One expected.Chosen ∷ Must (rule.Chain level.Or d) ∷ May (optional.Item d) ∷ [])
item_by d other = None

unfoldable pub name_by : ℕ → ℕ → Word → Kind → Option (List Part)
name_by d p w kind.Dot = Some (One expected.Chosen ∷ One expected.Name ∷ [])
name_by d p w kind.Open = Some (One (expected.Call d p w) ∷ Must (rule.Arguments (deeper d) p w) ∷ [])
name_by d p w other = None

unfoldable pub distinct_by : Kind → Option (List Part)
distinct_by kind.Distinct = Some (One expected.Chosen ∷ [])
distinct_by other = None

unfoldable pub select_items_by : Kind → Option (List Part)
select_items_by kind.Comma = Some (One expected.Chosen ∷ Must rule.SelectItem ∷ May optional.SelectItems ∷ [])
select_items_by other = None

unfoldable pub alias_by : Kind → Option (List Part)
alias_by kind.As = Some (One expected.Chosen ∷ One expected.Name ∷ [])
alias_by (kind.Name w) = Some (One expected.Chosen ∷ [])
alias_by (kind.QuotedName w) = Some (One expected.Chosen ∷ [])
alias_by other = None

unfoldable pub from_by : Kind → Option (List Part)
from_by (kind.Clause clause.From) = Some (One expected.Chosen ∷ source_parts ++ May optional.Sources ∷ [])
from_by other = None

abbrev pub conditional : List Part
conditional = source_parts ++ May optional.Condition ∷ May optional.Sources ∷ []

unfoldable pub sources_by : Kind → Option (List Part)
sources_by kind.Comma = Some (One expected.Chosen ∷ source_parts ++ May optional.Sources ∷ [])
sources_by (kind.Clause clause.Cross) = Some (One expected.Chosen ∷ One expected.Join ∷ source_parts ++ May optional.Sources ∷ [])
sources_by (kind.Clause clause.Join) = Some (One expected.Chosen ∷ conditional)
sources_by (kind.Clause clause.Inner) = Some (One expected.Chosen ∷ One expected.Join ∷ conditional)
sources_by (kind.Clause clause.Left) = Some (One expected.Chosen ∷ Must rule.LeftJoin ∷ conditional)
sources_by other = None

unfoldable pub condition_by : Kind → Option (List Part)
condition_by (kind.Clause clause.On) = Some (One expected.Chosen ∷ Must (rule.Chain level.Or 0) ∷ [])
condition_by (kind.Clause clause.Using) = Some (One expected.Chosen ∷ names_parts)
condition_by other = None

unfoldable pub names_by : Kind → Option (List Part)
names_by kind.Comma = Some (One expected.Chosen ∷ One expected.Name ∷ May optional.Names ∷ [])
names_by other = None

unfoldable pub where_by : Kind → Option (List Part)
where_by (kind.Clause clause.Where) = Some (One expected.Chosen ∷ Must (rule.Chain level.Or 0) ∷ [])
where_by other = None

unfoldable pub group_by : Kind → Option (List Part)
group_by (kind.Clause clause.Group) = Some (One expected.Chosen ∷ One expected.By ∷ Must (rule.Chain level.Or 0) ∷ May (optional.Item 0) ∷ [])
group_by other = None

unfoldable pub having_by : Kind → Option (List Part)
having_by (kind.Clause clause.Having) = Some (One expected.Chosen ∷ Must (rule.Chain level.Or 0) ∷ [])
having_by other = None

unfoldable pub order_by : Kind → Option (List Part)
order_by (kind.Clause clause.Order) = Some (One expected.Chosen ∷ One expected.By ∷ term_parts ++ May optional.Terms ∷ [])
order_by other = None

unfoldable pub terms_by : Kind → Option (List Part)
terms_by kind.Comma = Some (One expected.Chosen ∷ term_parts ++ May optional.Terms ∷ [])
terms_by other = None

unfoldable pub direction_by : Kind → Option (List Part)
direction_by (kind.Clause clause.Asc) = Some (One expected.Chosen ∷ [])
direction_by (kind.Clause clause.Desc) = Some (One expected.Chosen ∷ [])
direction_by other = None

unfoldable pub limit_by : Kind → Option (List Part)
limit_by (kind.Clause clause.Limit) = Some (One expected.Chosen ∷ Must rule.Integer ∷ May optional.Offset ∷ [])
limit_by other = None

unfoldable pub offset_by : Kind → Option (List Part)
offset_by (kind.Clause clause.Offset) = Some (One expected.Chosen ∷ Must rule.Integer ∷ [])
offset_by other = None

unfoldable pub semicolon_by : Kind → Option (List Part)
semicolon_by kind.Semicolon = Some (One expected.Chosen ∷ [])
semicolon_by other = None

abbrev pub entered : Optional → Kind → Option (List Part)
entered (optional.Step l d count) k = step_by l d count (sign_at l k)
entered optional.Not k = not_by k
entered (optional.Item d) k = item_by d k
entered (optional.AfterName d p w) k = name_by d p w k
entered optional.Distinct k = distinct_by k
entered optional.SelectItems k = select_items_by k
entered optional.Alias k = alias_by k
entered optional.From k = from_by k
entered optional.Sources k = sources_by k
entered optional.Condition k = condition_by k
entered optional.Names k = names_by k
entered optional.Where k = where_by k
entered optional.Group k = group_by k
entered optional.Having k = having_by k
entered optional.Order k = order_by k
entered optional.Terms k = terms_by k
entered optional.Direction k = direction_by k
entered optional.Limit k = limit_by k
entered optional.Offset k = offset_by k
entered optional.Semicolon k = semicolon_by k

-- ---- one token

unfoldable pub fits : Expected → Kind → Bool
fits expected.Chosen k = true
fits expected.Number (kind.Number value) = true
fits expected.Number other = false
fits (expected.Nesting d) k = true
fits (expected.Operator count) k = true
fits (expected.Parenthesis d) kind.Open = true
fits (expected.Parenthesis d) other = false
fits expected.Close kind.Close = true
fits expected.Close other = false
fits expected.And kind.And = true
fits expected.And other = false
fits expected.Name (kind.Name w) = true
fits expected.Name (kind.QuotedName w) = true
fits expected.Name other = false
fits expected.Dot kind.Dot = true
fits expected.Dot other = false
fits expected.Star kind.Star = true
fits expected.Star other = false
fits expected.Open kind.Open = true
fits expected.Open other = false
fits expected.Select (kind.Clause clause.Select) = true
fits expected.Select other = false
fits expected.By (kind.Clause clause.By) = true
fits expected.By other = false
fits expected.Join (kind.Clause clause.Join) = true
fits expected.Join other = false
fits expected.As kind.As = true
fits expected.As other = false
fits expected.Type (kind.Name w) = true
fits expected.Type (kind.QuotedName w) = true
fits expected.Type other = false
fits (expected.Call d p w) k = true
fits (expected.EndOfCall p w s) kind.Close = true
fits (expected.EndOfCall p w s) other = false
fits expected.End kind.End = true
fits expected.End other = false
fits expected.Nothing k = false

abbrev pub fault_at : Token → ParseKind → ParseError
fault_at t k = record { place = t.span.start; kind = k }

unfoldable pub wide : Token → Kind → List ParseError
wide t (kind.Number None) = fault_at t NumberTooWide ∷ []
wide t other = []

abbrev pub at_limit : ℕ → ℕ → Token → List ParseError
at_limit n limit t = if nat_lt n limit then [] else fault_at t TooDeep ∷ []

abbrev pub name_fault : ℕ → ParseError
name_fault p = record { place = p; kind = NotInGrammar }

abbrev pub untyped : Token → Option Bool → List ParseError
untyped t None = fault_at t NotInGrammar ∷ []
untyped t (Some is_text) = []

-- a name where a type's is expected
unfoldable pub type_fault : Token → Kind → List ParseError
type_fault t (kind.Name w) = untyped t (type_of w)
type_fault t (kind.QuotedName w) = untyped t (type_of w)
type_fault t other = []

-- the faults of a token that was expected. A name stands before its parenthesis.
unfoldable pub found : Expected → Token → List ParseError
found (expected.Number) t = wide t t.kind
found (expected.Nesting d) t = at_limit d 64 t
found (expected.Parenthesis d) t = at_limit d 64 t
found (expected.Operator count) t = at_limit count 1000 t
found (expected.Call d p w) t = if is_known w then at_limit d 64 t else name_fault p ∷ []
found (expected.EndOfCall p w s) t = if is_allowed w s then [] else name_fault p ∷ []
found expected.Type t = type_fault t t.kind
found expected.Chosen t = []
found expected.Close t = []
found expected.And t = []
found expected.As t = []
found expected.Dot t = []
found expected.Star t = []
found expected.Open t = []
found expected.Select t = []
found expected.By t = []
found expected.Join t = []
found expected.Name t = []
found expected.End t = []
found expected.Nothing t = []

-- ---- the reading

-- What is expected, with the rules before the first token replaced. The truth value says whether the next three tokens are a name, a dot and `*`.
unfoldable pub settled : List Part → Token → Bool → List Part
settled [] t a = []
settled (One e ∷ parts) t a = One e ∷ parts
settled (Must r ∷ parts) t a = alternative r t a ++ parts
settled (May o ∷ parts) t a = elim (entered o t.kind) [ None ↦ settled parts t a | Some inner ↦ inner ++ parts ]

abbrev pub taken : List Part → Token → (List Part → List ParseError) → List ParseError
taken (One e ∷ parts) t others = if fits e t.kind then found e t ++ others parts else fault_at t NotInGrammar ∷ []
taken other t others = []

-- the faults of the reading, token by token
unfoldable pub faults : List Part → List Token → List ParseError
faults parts [] = taken (settled parts end_token false) end_token (λ rest. [])
faults parts (t ∷ ts) = taken (settled parts t (is_all_of (t ∷ ts))) t (λ rest. faults rest ts)

-- the fault of least place, the first of them
abbrev pub lesser : Option ParseError → ParseError → Option ParseError
lesser None f = Some f
lesser (Some least) f = if nat_lt f.place least.place then Some f else Some least

abbrev pub least_from : Option ParseError → List ParseError → Option ParseError
least_from least [] = least
least_from least (f ∷ fs) = least_from (lesser least f) fs

-- what is expected of a whole select: its items, its further clauses, and its end
abbrev pub beginning_parts : List Part
beginning_parts = One expected.Select ∷ May optional.Distinct ∷ Must rule.SelectItem ∷ May optional.SelectItems ∷ []

abbrev pub middle_parts : List Part
middle_parts = May optional.From ∷ May optional.Where ∷ May optional.Group ∷ May optional.Having ∷ []

abbrev pub order_parts : List Part
order_parts = May optional.Order ∷ May optional.Limit ∷ May optional.Semicolon ∷ One expected.End ∷ []

abbrev pub whole_select : List Part
whole_select = beginning_parts ++ middle_parts ++ order_parts

-- what is expected of a whole expression
abbrev pub whole : List Part
whole = Must (rule.Chain level.Or 0) ∷ One expected.End ∷ []

-- the fault of least place where these are expected
abbrev pub first_fault : List Part → List Token → Option ParseError
first_fault parts tokens = least_from None (faults parts tokens)
