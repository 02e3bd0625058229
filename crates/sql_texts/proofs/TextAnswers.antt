-- What a text's grammar and its names say of its query and of its fault.
use Rattle.std.proofs.Common.{◌≡◌, ℕ, List, Option, Some, None, ap, ◌∙◌}
use Rattle.std.specs.Option.{option_map}
use Rattle.sql_faults.specs.declared.error.ParseError.{ParseError}
use Rattle.sql_tree.specs.Select.{SelectTree}
use Rattle.sql_tokens.specs.Lexing.{tokens_of}
use Rattle.sql_parser.specs.SelectGrammar.{IsSelect}
use Rattle.sql_parser.specs.Text.{select_fault}
use Rattle.sql_query.specs.declared.derived.Derived.{Derived}
use Rattle.sql_names.specs.declared.error.NameError.{NameError}
use Rattle.sql_texts.specs.TextTree.{select_of_text}
use Rattle.sql_texts.specs.declared.text.TextError.TheVariants.{Parse, Name}
use Rattle.sql_scope.specs.Mentions.{mentions_of_select}
use Rattle.sql_names.specs.Resolve.{name_fault_with, resolved_with, unless_fault, names_of_select}
use Rattle.sql_names.specs.Making.{query_tree}
use Rattle.sql_texts.specs.Texts.{query_unless, query_with_in}
use Rattle.sql_texts.specs.TextFaults.{fault_or, text_fault_with}
use Rattle.sql_texts.proofs.DerivedTree.{tree_given}

pub unparsed_fault : (derived : List Derived) (text : List ℕ) (fault : ParseError) → select_fault text ≡ Some fault → text_fault_with derived text ≡ Some (Parse fault)
unfolding text_fault_with
unparsed_fault derived text fault f = ap (λ (x : Option ParseError). fault_or derived x text (select_of_text text)) f

pub unparsed_query : (derived : List Derived) (text : List ℕ) (fault : ParseError) → select_fault text ≡ Some fault → query_with_in derived text ≡ None
unfolding query_with_in
unparsed_query derived text fault f = ap (λ (x : Option ParseError). query_unless derived x text (select_of_text text)) f

pub parsed_fault : (derived : List Derived) (text : List ℕ) (tree : SelectTree) → select_fault text ≡ None → IsSelect (tokens_of text) tree → text_fault_with derived text ≡ option_map Name (name_fault_with derived text tree)
unfolding text_fault_with
parsed_fault derived text tree n t = ap (λ (x : Option ParseError). fault_or derived x text (select_of_text text)) n ∙ ap (λ (x : Option SelectTree). fault_or derived None text x) (tree_given text tree n t)

pub parsed_query : (derived : List Derived) (text : List ℕ) (tree : SelectTree) → select_fault text ≡ None → IsSelect (tokens_of text) tree → query_with_in derived text ≡ resolved_with derived text tree
unfolding query_with_in
parsed_query derived text tree n t = ap (λ (x : Option ParseError). query_unless derived x text (select_of_text text)) n ∙ ap (λ (x : Option SelectTree). query_unless derived None text x) (tree_given text tree n t)

pub unresolved : (derived : List Derived) (text : List ℕ) (tree : SelectTree) (fault : NameError) → name_fault_with derived text tree ≡ Some fault → resolved_with derived text tree ≡ None
unfolding resolved_with
unresolved derived text tree fault f = ap (λ (x : Option NameError). unless_fault x (query_tree (names_of_select derived text tree) tree (mentions_of_select tree))) f
