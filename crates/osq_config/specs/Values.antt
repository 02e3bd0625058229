-- What a value without a fault says.
use Rattle.std.specs.Prelude.{ℕ, bytes_eq, Bool, false, List, [], ◌∷◌, codes, Option, Some, None, option_and_then, unwrap_or}
use Rattle.std.specs.Option.{option_map_or}
use Rattle.serde_json.specs.Data.{Data, Members, no_members, member}
use Rattle.serde_json.specs.Find.{get, as_str, as_object}
use Rattle.osq_value.specs.declared.reading.Category.{Category}
use Rattle.osq_config.specs.declared.config.Config.{Config}
use Rattle.osq_config.specs.declared.config.Pack.{Pack}
use Rattle.osq_config.specs.declared.config.QueryEntry.{QueryEntry}
use Rattle.osq_config.specs.declared.config.Rules.{Rules}
use Rattle.osq_config.specs.declared.option.Options.{Options}
use Rattle.osq_config.specs.Faults.{number_of, within, truth_of, texts_of}

-- a number within its bounds, or what stands for a missing one
abbrev pub number_in : ℕ → ℕ → ℕ → Option Data → ℕ
number_in least most default found = unwrap_or (option_and_then (within least most) (option_and_then number_of found)) default

-- a missing text is the empty one
abbrev pub text_in : Option Data → List ℕ
text_in found = unwrap_or (option_and_then as_str found) []

-- a missing truth value is false
abbrev pub truth_in : Option Data → Bool
truth_in found = unwrap_or (option_and_then truth_of found) false

abbrev pub rules_of : Data → Rules
rules_of d =
    record {
      platform = text_in (get (codes "platform") d);
      version = text_in (get (codes "version") d);
      shard = number_in 1 100 100 (get (codes "shard") d);
    }

abbrev pub entry_of : List ℕ → Data → QueryEntry
entry_of name d =
    record {
      name = name;
      text = text_in (get (codes "query") d);
      interval = number_in 1 604800 3600 (get (codes "interval") d);
      is_snapshot = truth_in (get (codes "snapshot") d);
      rules = rules_of d;
    }

-- the entries of an object, in its order
abbrev pub entries_of : Members → List QueryEntry
entries_of no_members = []
entries_of (member name d ms) = entry_of name d ∷ entries_of ms

abbrev pub entries_in : Option Data → List QueryEntry
entries_in found = option_map_or entries_of (option_and_then as_object found) []

-- a missing array has no texts
abbrev pub texts_in : Option Data → List (List ℕ)
texts_in found = unwrap_or (option_and_then texts_of found) []

-- a pack of this name whose file stands at a path, or that stands in the configuration itself
abbrev pub pack_with : List ℕ → Option (List ℕ) → Data → Pack
pack_with name path d =
    record { name = name; path = path; discovery = texts_in (get (codes "discovery") d); queries = entries_in (get (codes "queries") d); rules = rules_of d }

-- a pack of which the file's path alone is known
abbrev pub pack_by_path : List ℕ → List ℕ → Pack
pack_by_path name path =
    record { name = name; path = Some path; discovery = []; queries = []; rules = record { platform = []; version = []; shard = 100 } }

abbrev pub pack_of : List ℕ → Data → Pack
pack_of name d = option_map_or (pack_by_path name) (as_str d) (pack_with name None d)

-- the packs of an object, in its order
abbrev pub packs_of : Members → List Pack
packs_of no_members = []
packs_of (member name d ms) = pack_of name d ∷ packs_of ms

abbrev pub packs_in : Option Data → List Pack
packs_in found = option_map_or packs_of (option_and_then as_object found) []

-- a category, with what is excluded under its name
abbrev pub category_of : Option Data → List ℕ → Data → Category
category_of excluded name d = record { name = name; patterns = texts_in (Some d); excluded = texts_in (option_and_then (get name) excluded) }

abbrev pub categories_of : Option Data → Members → List Category
categories_of excluded no_members = []
categories_of excluded (member name d ms) = category_of excluded name d ∷ categories_of excluded ms

abbrev pub categories_in : Option Data → Option Data → List Category
categories_in excluded found = option_map_or (categories_of excluded) (option_and_then as_object found) []

abbrev pub options_of : Option Data → Options
options_of found =
    record {
      events_expiry = number_in 1 4294967295 3600 (option_and_then (get (codes "events_expiry")) found);
      events_max = number_in 1 1000000 50000 (option_and_then (get (codes "events_max")) found);
      is_batch_form = bytes_eq (text_in (option_and_then (get (codes "result_form")) found)) (codes "batch");
    }

unfoldable pub config_of : Data → Config
config_of d =
    let options = options_of (get (codes "options") d) in
    record {
      events_expiry = options.events_expiry;
      events_max = options.events_max;
      is_batch_form = options.is_batch_form;
      schedule = entries_in (get (codes "schedule") d);
      packs = packs_in (get (codes "packs") d);
      categories = categories_in (get (codes "exclude_paths") d) (get (codes "file_paths") d);
    }
