-- The fault of a text: that of its grammar, else that of its names.
use Rattle.std.specs.Prelude.{ℕ, List, [], Option, Some, None, codes}
use Rattle.std.specs.Option.{option_map}
use Rattle.sql_faults.specs.declared.error.ParseError.{ParseError}
use Rattle.sql_faults.specs.declared.error.ParseKind.{ParseKind}
use Rattle.sql_faults.specs.declared.error.ParseKind.TheVariants as parse
use Rattle.sql_tree.specs.Select.{SelectTree}
use Rattle.sql_parser.specs.Text.{select_fault}
use Rattle.sql_query.specs.declared.derived.Derived.{Derived}
use Rattle.sql_names.specs.declared.error.NameKind.{NameKind}
use Rattle.sql_names.specs.declared.error.NameKind.TheVariants as name
use Rattle.sql_texts.specs.TextTree.{select_of_text}
use Rattle.sql_texts.specs.declared.text.TextError.{TextError}
use Rattle.sql_texts.specs.declared.text.TextError.TheVariants.{Parse, Name, NoMemory}
use Rattle.sql_names.specs.Resolve.{name_fault_with}

abbrev pub fault_or : List Derived → Option ParseError → List ℕ → Option SelectTree → Option TextError
fault_or derived (Some fault) text tree = Some (Parse fault)
fault_or derived None text None = None
fault_or derived None text (Some tree) = option_map Name (name_fault_with derived text tree)

-- where FROM may mean these derived tables too
unfoldable pub text_fault_with : List Derived → List ℕ → Option TextError
text_fault_with derived text = fault_or derived (select_fault text) text (select_of_text text)

-- where FROM means tables of the catalogue alone
unfoldable pub text_fault : List ℕ → Option TextError
text_fault text = text_fault_with [] text

abbrev pub place_of_fault : TextError → ℕ
place_of_fault (Parse error) = error.place
place_of_fault (Name error) = error.place
place_of_fault NoMemory = 0

abbrev pub parse_kind_name : ParseKind → List ℕ
parse_kind_name parse.NotInGrammar = codes "NotInGrammar"
parse_kind_name parse.NumberTooWide = codes "NumberTooWide"
parse_kind_name parse.TextTooLong = codes "TextTooLong"
parse_kind_name parse.TooDeep = codes "TooDeep"
parse_kind_name parse.NoMemory = codes "NoMemory"

abbrev pub name_kind_name : NameKind → List ℕ
name_kind_name name.TooManyTables = codes "TooManyTables"
name_kind_name name.NoTable = codes "NoTable"
name_kind_name name.NoColumn = codes "NoColumn"
name_kind_name name.Ambiguous = codes "Ambiguous"
name_kind_name name.BadAggregate = codes "BadAggregate"
name_kind_name name.BareColumn = codes "BareColumn"
name_kind_name name.NoMemory = codes "NoMemory"

-- how the kind of a fault is called
abbrev pub name_of_fault : TextError → List ℕ
name_of_fault (Parse error) = parse_kind_name error.kind
name_of_fault (Name error) = name_kind_name error.kind
name_of_fault NoMemory = codes "NoMemory"
