-- The tree of a text as a function of it is the one that the grammar derives.
use Rattle.std.proofs.Common.{◌≡◌, ℕ, List, [], length, ltb, Some, None, ap, subst}
use Rattle.std.proofs.lemmas.Option.{none-some}
use Rattle.sql_tokens.specs.declared.token.Token.{Token}
use Rattle.sql_tokens.specs.Lexing.{tokens_of}
use Rattle.sql_faults.specs.Reading.{faults, first_fault, whole_select}
use Rattle.sql_tree.specs.Select.{SelectTree}
use Rattle.sql_parser.specs.SelectGrammar.{IsSelect}
use Rattle.sql_parser.specs.Text.{select_fault, too_long}
use Rattle.sql_parser.specs.Judged.{Judged, sentence, faulty, tree_of_judged}
use Rattle.sql_parser.proofs.Whole.{no_least, no_fault}
use Rattle.sql_parser.proofs.SelectTold.{judged}
use Rattle.sql_parser.proofs.OneSelect.{one_select}
use Rattle.sql_texts.specs.TextTree.{select_of_tokens, select_of_text}

some_is : (s t : SelectTree) → Some s ≡ Some t → s ≡ t
some_is s t e = cc

derived_by : {ts : List Token} (j : Judged ts) (t : SelectTree) → tree_of_judged j ≡ Some t → IsSelect ts t
derived_by {ts} (sentence s h f) t e = subst (λ (x : SelectTree). IsSelect ts x) (some_is s t e) h
derived_by (faulty g) t e = absurd (none-some t e)

pub derived : (ts : List Token) (t : SelectTree) → select_of_tokens ts ≡ Some t → IsSelect ts t
unfolding select_of_tokens
derived ts t e = derived_by (judged ts) t e

given_by : {ts : List Token} (j : Judged ts) (t : SelectTree) → faults whole_select ts ≡ [] → IsSelect ts t → tree_of_judged j ≡ Some t
given_by {ts} (sentence s h f) t n d = ap Some (one_select ts s t h d)
given_by (faulty g) t n d = absurd (g n)

-- what is derived of tokens without a fault is their tree
pub given : (ts : List Token) (t : SelectTree) → faults whole_select ts ≡ [] → IsSelect ts t → select_of_tokens ts ≡ Some t
unfolding select_of_tokens
given ts t n d = given_by (judged ts) t n d

-- the same of a text
pub tree_derived : (text : List ℕ) (t : SelectTree) → select_of_text text ≡ Some t → IsSelect (tokens_of text) t
tree_derived text t e = derived (tokens_of text) t e

pub tree_given : (text : List ℕ) (t : SelectTree) → select_fault text ≡ None → IsSelect (tokens_of text) t → select_of_text text ≡ Some t
tree_given text t n d = given (tokens_of text) t (no_fault (ltb 65536 (length text)) too_long (faults whole_select (tokens_of text)) n) d

-- the same of tokens by their least fault
pub given_unfaulted : (ts : List Token) (t : SelectTree) → first_fault whole_select ts ≡ None → IsSelect ts t → select_of_tokens ts ≡ Some t
given_unfaulted ts t n d = given ts t (no_least (faults whole_select ts) n) d
