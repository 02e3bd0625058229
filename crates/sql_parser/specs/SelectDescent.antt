-- For proofs of the descent's steps, and no part of the grammar: what a descent over a select has done of its reading. The private contracts of the parser alone speak of it.
use Rattle.std.specs.Prelude.{◌≡◌, ◌≢◌, ◌≤◌, ◌<◌, List, [], ◌∷◌, ◌++◌, length, Option, Some, None, option_map, Result, Ok, Err, Bool, true, false}
use Rattle.sql_tokens.specs.declared.token.Token.{Token}
use Rattle.sql_tokens.specs.declared.token.Kind.{Kind}
use Rattle.sql_faults.specs.declared.part.Part.{Part}
use Rattle.sql_faults.specs.declared.part.Part.TheVariants.{One, May}
use Rattle.sql_faults.specs.declared.part.Expected.TheVariants as expected
use Rattle.sql_tree.specs.declared.select.Select.{Select}
use Rattle.sql_parser.specs.declared.stop.Stop.TheVariants.{Refused, NoMemory}
use Rattle.sql_tree.specs.Select.{select_of}
use Rattle.sql_faults.specs.declared.part.Optional.TheVariants as optional
use Rattle.sql_parser.specs.declared.clauses.Form.{Form}
use Rattle.sql_parser.specs.declared.clauses.Form.TheVariants as form
use Rattle.sql_parser.specs.declared.stop.Stop.{Stop}
use Rattle.sql_tokens.specs.Tokens.{next, after}
use Rattle.sql_tree.specs.declared.tree.Name.{Name}
use Rattle.sql_tree.specs.declared.tree.Node.{Node}
use Rattle.sql_tree.specs.Tree.{Tree}
use Rattle.sql_tree.specs.View.{tree_of}
use Rattle.sql_faults.specs.Reading.{source_parts, beginning_parts, middle_parts, whole_select, faults}
use Rattle.sql_parser.specs.Descent.{Leads, Stopped}
use Rattle.sql_parser.specs.SelectGrammar.{Spelling, SpellsForm, SpellsEnd, IsSelect}

-- the next token was of this kind, and was taken
abbrev pub Took : Kind → List Token → Bool → List Token → Type 0
Took k old true new = ((next old).kind ≡ k) × (new ≡ after old)
Took k old false new = ((next old).kind ≢ k) × (new ≡ old)

-- This is spelled from old to new. Where `before` is expected at old, `later` is expected at new.
pub record IsFound {X : Type 0} (rule : Spelling X) (before later : List Part) (old : List Token) (x : X) (new : List Token) : Type 0 where
  pub spelled : rule old x new
  pub leads : Leads before later old new
  pub no_longer : length new ≤ length old

-- what a function for a rule answers
abbrev pub Finds : {A X : Type 0} → (A → X) → Spelling X → List Part → List Token → Result A Stop → List Token → Type 0
Finds view rule parts old (Ok a) new = IsFound rule parts [] old (view a) new
Finds view rule parts old (Err e) new = Stopped parts old e

-- what is expected of a table that is brought in so
abbrev pub condition_parts : Form → List Part
condition_parts form.Plain = []
condition_parts form.Inner = May optional.Condition ∷ []
condition_parts form.Outer = May optional.Condition ∷ []

abbrev pub form_parts : Form → List Part
form_parts f = source_parts ++ condition_parts f

abbrev pub condition_tree : Option Node × List Name → Option Tree × List Name
condition_tree c = (option_map tree_of c.0, c.1)

-- what is expected of a select, before what may end its text
abbrev pub select_parts : List Part
select_parts = beginning_parts ++ middle_parts ++ May optional.Order ∷ May optional.Limit ∷ []

-- how a further table is brought in, where there is one
abbrev pub FormFound : List Token → Result (Option Form) Stop → List Token → Type 0
FormFound old (Ok None) new = IsFound SpellsForm (May optional.Sources ∷ []) [] old None new
FormFound old (Ok (Some f)) new = IsFound SpellsForm (May optional.Sources ∷ []) (form_parts f ++ May optional.Sources ∷ []) old (Some f) new × (length new < length old)
FormFound old (Err e) new = Stopped (May optional.Sources ∷ []) old e

-- what may end a text behind a select
abbrev pub end_parts : List Part
end_parts = May optional.Semicolon ∷ One expected.End ∷ []

abbrev pub EndTold : List Token → Bool → Type 0
EndTold ts true = SpellsEnd ts × (faults end_parts ts ≡ [])
EndTold ts false = faults end_parts ts ≢ []

-- what the descent over a whole text answers
abbrev pub SelectDescends : List Token → Result Select Stop → Type 0
SelectDescends tokens (Ok select) = IsSelect tokens (select_of select) × (faults whole_select tokens ≡ [])
SelectDescends tokens (Err Refused) = faults whole_select tokens ≢ []
SelectDescends tokens (Err NoMemory) = Unit {0}
