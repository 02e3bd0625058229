-- For proofs of the descent's steps, and no part of the grammar: what a descent has done of a reading. The private contracts of the parser alone speak of it.
use Rattle.std.specs.Prelude.{◌≡◌, ◌≢◌, ◌<◌, ◌+◌, ℕ, List, [], ◌∷◌, ◌++◌, Option, Some, None, Result, Ok, Err, Bool, false, ℤ}
use Rattle.std.specs.Global.{Vec}
use Rattle.sql_tokens.specs.declared.token.Token.{Token}
use Rattle.sql_faults.specs.declared.part.Part.{Part}
use Rattle.sql_faults.specs.declared.part.Part.TheVariants.{Must, One}
use Rattle.sql_faults.specs.declared.part.Expected.TheVariants as expected
use Rattle.sql_tokens.specs.declared.token.Word.{Word}
use Rattle.sql_tree.specs.declared.tree.Name.{Name}
use Rattle.sql_faults.specs.declared.arguments.Shape.{Shape}
use Rattle.sql_faults.specs.Calls.{IsNamed, name_of, call_of, is_allowed, type_of}
use Rattle.sql_faults.specs.declared.part.Rule.{Rule}
use Rattle.sql_faults.specs.declared.part.Rule.TheVariants as rule
use Rattle.sql_tree.specs.declared.tree.Operator.{Operator}
use Rattle.sql_tree.specs.declared.tree.Operator.TheVariants as op
use Rattle.sql_tokens.specs.declared.token.Kind.{Kind}
use Rattle.sql_tokens.specs.declared.token.Kind.TheVariants as kind
use Rattle.sql_tokens.specs.declared.level.Level.{Level}
use Rattle.sql_parser.specs.declared.stop.Stop.{Stop}
use Rattle.sql_parser.specs.declared.stop.Stop.TheVariants.{Refused, NoMemory}
use Rattle.sql_tree.specs.declared.tree.Node.{Node}
use Rattle.sql_tree.specs.declared.tree.Step.{Step}
use Rattle.sql_tokens.specs.Tokens.{next, after}
use Rattle.sql_tree.specs.Tree.{Tree, OneStep, Trees, number, column, cast}
use Rattle.sql_tree.specs.View.{tree_of, step_of, trees_of}
use Rattle.sql_tokens.specs.Levels.{sign_at}
use Rattle.sql_tokens.specs.declared.level.Level.TheVariants as level
use Rattle.sql_parser.specs.Grammar.{Class, chain, Spells, SpellsStep, SpellsBetween, SpellsNegated, SpellsList, SpellsArguments, SpellsCounted, SpellsType}
use Rattle.sql_faults.specs.Reading.{faults, further, list_parts, between_parts, deeper, type_parts, cast_parts}

-- Whatever comes behind, where `before` is expected at `old`, the faults are those where `later` is expected at `new`.
pub record Leads (before later : List Part) (old new : List Token) : Type 0 where
  pub holds : (parts : List Part) → faults (before ++ parts) old ≡ faults (later ++ parts) new

-- Whatever comes behind, there is a fault where these are expected.
pub record Fails (before : List Part) (old : List Token) : Type 0 where
  pub holds : (parts : List Part) → faults (before ++ parts) old ≢ []

-- the rule is read from old to new
abbrev pub Reads : Rule → List Token → List Token → Type 0
Reads r = Leads (Must r ∷ []) []

abbrev pub Refuses : Rule → List Token → Type 0
Refuses r = Fails (Must r ∷ [])

-- one more operator of a chain is read, wherever it may still have one
pub record ReadsStep (l : Level) (d : ℕ) (old new : List Token) : Type 0 where
  pub holds : (count : ℕ) → count < 1000 → Leads (further l d count ∷ []) (further l d (count + 1) ∷ []) old new

pub record RefusesStep (l : Level) (d : ℕ) (old : List Token) : Type 0 where
  pub holds : (count : ℕ) → Fails (further l d count ∷ []) old

-- ---- what the functions of the descent answer

-- A descent that stops has met a fault, unless memory ran out.
abbrev pub Stopped : List Part → List Token → Stop → Type 0
Stopped before old Refused = Fails before old
Stopped before old NoMemory = Unit {0}

pub record IsRead (c : Class) (r : Rule) (old : List Token) (tree : Tree) (new : List Token) : Type 0 where
  pub spelled : Spells c old tree new
  pub reads : Reads r old new

abbrev pub Descends : Class → Rule → List Token → Result Node Stop → List Token → Type 0
Descends c r old (Ok node) new = IsRead c r old (tree_of node) new
Descends c r old (Err e) new = Stopped (Must r ∷ []) old e

pub record IsNoStep (l : Level) (old new : List Token) : Type 0 where
  pub same : new ≡ old
  pub none : sign_at l (next old).kind ≡ None

pub record IsStep (l : Level) (d : ℕ) (old : List Token) (step : OneStep) (new : List Token) : Type 0 where
  pub spelled : SpellsStep l old step new
  pub reads : ReadsStep l d old new

abbrev pub StoppedStep : Level → ℕ → List Token → Stop → Type 0
StoppedStep l d old Refused = RefusesStep l d old
StoppedStep l d old NoMemory = Unit {0}

abbrev pub StepDescends : Level → ℕ → List Token → Result (Option Step) Stop → List Token → Type 0
StepDescends l d old (Ok None) new = IsNoStep l old new
StepDescends l d old (Ok (Some step)) new = IsStep l d old (step_of step) new
StepDescends l d old (Err e) new = StoppedStep l d old e

pub record IsList (d : ℕ) (old : List Token) (trees : Trees) (new : List Token) : Type 0 where
  pub spelled : SpellsList old trees new
  pub reads : Leads (list_parts d) [] old new

abbrev pub ListDescends : ℕ → List Token → Result (Vec Node) Stop → List Token → Type 0
ListDescends d old (Ok nodes) new = IsList d old (trees_of nodes.items) new
ListDescends d old (Err e) new = Stopped (list_parts d) old e

-- ---- parts of a step

-- what `IS` or `IS NOT` is, behind `IS`
abbrev pub IsIs : List Token → Operator → List Token → Type 0
IsIs old op.Is new = ((next old).kind ≢ kind.Not) × (new ≡ old)
IsIs old op.IsNot new = ((next old).kind ≡ kind.Not) × (new ≡ after old)
IsIs old other new = ⊥

pub record IsBetween (l : Level) (d : ℕ) (is_negated : Bool) (old : List Token) (step : OneStep) (new : List Token) : Type 0 where
  pub spelled : SpellsBetween l is_negated old step new
  pub reads : Leads (between_parts l d) [] old new

abbrev pub BetweenDescends : Level → ℕ → Bool → List Token → Result Step Stop → List Token → Type 0
BetweenDescends l d is_negated old (Ok step) new = IsBetween l d is_negated old (step_of step) new
BetweenDescends l d is_negated old (Err e) new = Stopped (between_parts l d) old e

pub record IsNegated (l : Level) (d : ℕ) (old : List Token) (step : OneStep) (new : List Token) : Type 0 where
  pub spelled : SpellsNegated l old step new
  pub reads : Reads (rule.Negatable l d) old new

abbrev pub NegatedDescends : Level → ℕ → List Token → Result Step Stop → List Token → Type 0
NegatedDescends l d old (Ok step) new = IsNegated l d old (step_of step) new
NegatedDescends l d old (Err e) new = Stopped (Must (rule.Negatable l d) ∷ []) old e

-- a number of at most 64 bits is read, and a wider one refused
abbrev pub NumberRead : ℕ → Option ℤ → List Token → Result Node Stop → List Token → Type 0
NumberRead place (Some value) old (Ok node) new = (tree_of node ≡ number place value) × (new ≡ after old)
NumberRead place (Some value) old (Err e) new = ⊥
NumberRead place None old (Ok node) new = ⊥
NumberRead place None old (Err Refused) new = Unit {0}
NumberRead place None old (Err NoMemory) new = ⊥

-- the name behind a dot
abbrev pub MemberRead : Name → List Token → Result Node Stop → List Token → Type 0
MemberRead table old (Ok node) new = (w : Word) × IsNamed (next old).kind w × (tree_of node ≡ column (Some table) (name_of (next old))) × (new ≡ after old)
MemberRead table old (Err Refused) new = (w : Word) → IsNamed (next old).kind w → ⊥
MemberRead table old (Err NoMemory) new = ⊥

abbrev pub call_parts : ℕ → ℕ → Word → List Part
call_parts d p w = One (expected.Call d p w) ∷ Must (rule.Arguments (deeper d) p w) ∷ []

-- a call, from its parenthesis on
pub record IsCall (d p : ℕ) (w : Word) (old : List Token) (tree : Tree) (new : List Token) : Type 0 where
  pub items : Trees
  pub has : Shape
  pub spelled : SpellsArguments old has items new
  pub allowed : call_of p w has items ≡ Some tree
  pub reads : Leads (call_parts d p w) [] old new

abbrev pub CallDescends : ℕ → ℕ → Word → List Token → Result Node Stop → List Token → Type 0
CallDescends d p w old (Ok node) new = IsCall d p w old (tree_of node) new
CallDescends d p w old (Err e) new = Stopped (call_parts d p w) old e

abbrev pub counted_parts : ℕ → ℕ → Word → Shape → List Part
counted_parts d p w s = Must (rule.Chain level.Or d) ∷ Must (rule.AfterArgument d p w s) ∷ []

-- the arguments of a call from the first on, and its closing parenthesis
pub record IsCounted (d p : ℕ) (w : Word) (s : Shape) (old : List Token) (tree : Tree) (new : List Token) : Type 0 where
  pub items : Trees
  pub has : Shape
  pub spelled : SpellsCounted old s has items new
  pub allowed : call_of p w has items ≡ Some tree
  pub reads : Leads (counted_parts d p w s) [] old new

abbrev pub CountedDescends : ℕ → ℕ → Word → Shape → List Token → Result Node Stop → List Token → Type 0
CountedDescends d p w s old (Ok node) new = IsCounted d p w s old (tree_of node) new
CountedDescends d p w s old (Err e) new = Stopped (counted_parts d p w s) old e

-- the closing parenthesis of a call with these arguments
pub record IsClosed (p : ℕ) (w : Word) (s : Shape) (items : Trees) (old : List Token) (tree : Tree) (new : List Token) : Type 0 where
  pub closed : (next old).kind ≡ kind.Close
  pub allowed : call_of p w s items ≡ Some tree
  pub takes : new ≡ after old

abbrev pub CloseDescends : ℕ → Word → Shape → Trees → List Token → Result Node Stop → List Token → Type 0
CloseDescends p w s items old (Ok node) new = IsClosed p w s items old (tree_of node) new
CloseDescends p w s items old (Err e) new = Stopped (One (expected.EndOfCall p w s) ∷ []) old e

abbrev pub CallAllowed : ℕ → Word → Shape → Trees → Result Node Stop → Type 0
CallAllowed p w s items (Ok node) = call_of p w s items ≡ Some (tree_of node)
CallAllowed p w s items (Err Refused) = is_allowed w s ≡ false
CallAllowed p w s items (Err NoMemory) = Unit {0}

-- ---- casts

abbrev pub TypeNamed : Kind → Result Bool Stop → Type 0
TypeNamed k (Ok is_text) = (w : Word) × IsNamed k w × (type_of w ≡ Some is_text)
TypeNamed k (Err Refused) = (w : Word) → IsNamed k w → type_of w ≡ None
TypeNamed k (Err NoMemory) = ⊥

pub record IsType (old : List Token) (is_text : Bool) (new : List Token) : Type 0 where
  pub spelled : SpellsType old is_text new
  pub reads : Leads type_parts [] old new

abbrev pub TypeDescends : List Token → Result Bool Stop → List Token → Type 0
TypeDescends old (Ok is_text) new = IsType old is_text new
TypeDescends old (Err e) new = Stopped type_parts old e

-- behind the word CAST
pub record IsCast (d : ℕ) (old : List Token) (whole : Tree) (new : List Token) : Type 0 where
  pub inner : Tree
  pub middle : List Token
  pub is_text : Bool
  pub opened : (next old).kind ≡ kind.Open
  pub spelled : Spells (chain level.Or) (after old) inner middle
  pub typed : SpellsType middle is_text new
  pub is : whole ≡ cast inner is_text
  pub reads : Leads (cast_parts d) [] old new

abbrev pub CastDescends : ℕ → List Token → Result Node Stop → List Token → Type 0
CastDescends d old (Ok node) new = IsCast d old (tree_of node) new
CastDescends d old (Err e) new = Stopped (cast_parts d) old e
