-- What may be said of any tokens: the grammar of a SELECT derives a tree of them and they have no fault, or they have a fault.
use Rattle.std.specs.Prelude.{◌≡◌, ◌≢◌, List, [], Option, Some, None}
use Rattle.sql_tokens.specs.declared.token.Token.{Token}
use Rattle.sql_faults.specs.Reading.{faults, whole_select}
use Rattle.sql_tree.specs.Select.{SelectTree}
use Rattle.sql_parser.specs.SelectGrammar.{IsSelect}

pub data Judged (tokens : List Token) : Type 0 where
  sentence : (tree : SelectTree) → IsSelect tokens tree → faults whole_select tokens ≡ [] → Judged tokens
  faulty : faults whole_select tokens ≢ [] → Judged tokens

-- the tree of a sentence
abbrev pub tree_of_judged : {tokens : List Token} → Judged tokens → Option SelectTree
tree_of_judged (sentence tree spelled faultless) = Some tree
tree_of_judged (faulty fault) = None
