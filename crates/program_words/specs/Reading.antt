-- What the matches of a command's words tell of its options.
use Rattle.std.specs.Prelude.{◌≡◌, ℕ, ◌&&◌, ◌||◌, not, Bool, true, bytes_eq, codes, filter, if◌then◌else◌, map, List, [], ◌∷◌, Option, None, Some, unwrap_or}
use Rattle.std.specs.List.{list_all, list_any}
use Rattle.clap.specs.Words.{Row, all_of, one_of}
use Rattle.program_words.specs.declared.command.CommandName.{CommandName}
use Rattle.program_words.specs.declared.name.Name.{Name}
use Rattle.program_words.specs.declared.name.Name.TheVariants.{Start, Step}
use Rattle.program_words.specs.declared.name.Takes.{Takes}
use Rattle.program_words.specs.declared.name.Takes.TheVariants.{Nothing}
use Rattle.program_words.specs.Names.{is_source, takes}
use Rattle.program_words.specs.Given.{Given, fits, fits_none, fits_value, is_named, stands, takes_word}
use Rattle.program_words.specs.Commands.{has_option, has_required, has_whole_link, sources_of}
use Rattle.program_words.specs.Rules.{spelling}

-- a value stands behind the option where its name takes one, and only there
abbrev pub has_form_by : Takes → Option (List ℕ) → Bool
has_form_by kind None = fits_none kind
has_form_by kind (Some text) = takes_word kind

abbrev pub has_form : Given → Bool
has_form g = has_form_by (takes g.name) g.value

-- an option of the command, with a value where it takes one
abbrev pub is_spelled : CommandName → Given → Bool
is_spelled command g = has_option command g.name && has_form g

-- no option that may stand once stands twice
unfoldable pub stand_once : List Given → Bool
stand_once [] = true
stand_once (g ∷ gs) = (is_source g.name || not (stands g.name gs)) && stand_once gs

-- what clap tells apart: each option is one of the command's, the required ones stand, and none that may stand once stands twice
abbrev pub are_spelled : CommandName → List Given → Bool
are_spelled command gs = list_all (is_spelled command) gs && has_required command gs && stand_once gs

-- the values of the options of one name
abbrev pub values_named : Name → List Given → List (List ℕ)
values_named name gs = map (λ g. unwrap_or g.value []) (filter (is_named name) gs)

-- no two of the texts are the same
unfoldable pub are_apart : List (List ℕ) → Bool
are_apart [] = true
are_apart (text ∷ texts) = not (list_any (bytes_eq text) texts) && are_apart texts

-- what stands behind the options of a name is what it takes
abbrev pub values_fit : List Given → Name → Bool
values_fit gs name = not (takes_word (takes name)) || list_all (fits_value (takes name)) (values_named name gs)

-- what stands behind each option is what its name takes
abbrev pub all_fit : List Given → Bool
all_fit gs = list_all (λ g. fits (takes g.name) g.value) gs

-- the paths of the sources, in their order
abbrev pub paths_named : List Given → List (List ℕ)
paths_named gs = map (λ source. source.name) (sources_of gs)

-- a step stands beside a start alone, and a link whole
abbrev pub are_paired : List Given → Bool
are_paired gs = (stands Start gs || not (stands Step gs)) && has_whole_link gs

-- the rows of the matches tell of the options
pub record Tells (command : CommandName) (rows : List Row) (gs : List Given) : Type 0 where
  pub spelled : are_spelled command gs ≡ true
  pub values : (name : Name) → takes_word (takes name) ≡ true → unwrap_or (all_of (spelling name) rows) [] ≡ values_named name gs
  pub flags : (name : Name) → takes name ≡ Nothing → unwrap_or (one_of (spelling name) rows) (codes "false") ≡ (if stands name gs then codes "true" else codes "false")
