-- The first fault of a value of a kind.
use Rattle.std.specs.Prelude.{ℕ, ◌&&◌, nat_le, bytes_eq, Bool, true, false, List, [], ◌∷◌, ◌++◌, codes, if◌then◌else◌, Option, Some, None, option_map, option_and_then, is_some, ℤ, pos, negsuc}
use Rattle.std.specs.List.{list_any}
use Rattle.std.specs.Option.{option_or, option_map_or}
use Rattle.serde_json.specs.Data.{Data, null, boolean, number, string, array, object, Items, no_items, item, Members, no_members, member}
use Rattle.serde_json.specs.Find.{get, as_str, as_array, as_object, as_i64}
use Rattle.osq_value.specs.Spelling.{int_of}
use Rattle.osq_config.specs.declared.error.ConfigError.{ConfigError}
use Rattle.osq_config.specs.declared.error.ConfigError.TheVariants.{WrongShape, OutOfRange}
use Rattle.osq_config.specs.Kinds.{Kind, whole, truth, text, word, texts, fields, each, text_or, Keys, no_keys, may, must}

-- a whole number within 64 bits, or a text that spells one
abbrev pub number_of : Data → Option ℤ
number_of null = None
number_of (boolean _) = None
number_of (number n) = as_i64 n
number_of (string s) = int_of s
number_of (array _) = None
number_of (object _) = None

-- a number from one bound to another
abbrev pub within : ℕ → ℕ → ℤ → Option ℕ
within least most (pos n) = if nat_le least n && nat_le n most then Some n else None
within least most (negsuc n) = None

-- the truth value that a text spells
abbrev pub spelled_truth : List ℕ → Option Bool
spelled_truth s = if bytes_eq s (codes "true") then Some true else (if bytes_eq s (codes "false") then Some false else None)

abbrev pub truth_of : Data → Option Bool
truth_of null = None
truth_of (boolean b) = Some b
truth_of (number _) = None
truth_of (string s) = spelled_truth s
truth_of (array _) = None
truth_of (object _) = None

-- the items, where each is a text
abbrev pub all_texts : Items → Option (List (List ℕ))
all_texts no_items = Some []
all_texts (item d ds) = option_and_then (λ first. option_map (λ rest. first ∷ rest) (all_texts ds)) (as_str d)

abbrev pub texts_of : Data → Option (List (List ℕ))
texts_of d = option_and_then all_texts (as_array d)

-- the path of a key: the keys above it and itself, with dots
abbrev pub path_to : List ℕ → List ℕ → List ℕ
path_to [] key = key
path_to (byte ∷ path) key = byte ∷ path ++ 46 ∷ key

-- a value that is there has the right kind of value
abbrev pub fault_of_shape : List ℕ → Bool → Option ConfigError
fault_of_shape path is_right = if is_right then None else Some (WrongShape path)

abbrev pub fault_of_number : List ℕ → ℕ → ℕ → Option ℤ → Option ConfigError
fault_of_number path least most None = Some (WrongShape path)
fault_of_number path least most (Some n) = if is_some (within least most n) then None else Some (OutOfRange path)

abbrev pub fault_of_word : List ℕ → List (List ℕ) → Option (List ℕ) → Option ConfigError
fault_of_word path words None = Some (WrongShape path)
fault_of_word path words (Some s) = if list_any (bytes_eq s) words then None else Some (OutOfRange path)

-- the first fault of the members, by the fault of one at its path
abbrev pub fault_of_members : (List ℕ → Data → Option ConfigError) → List ℕ → Members → Option ConfigError
fault_of_members fault path no_members = None
fault_of_members fault path (member key d ms) = option_or (fault (path_to path key) d) (fault_of_members fault path ms)

abbrev pub fault_of_object : List ℕ → (Members → Option ConfigError) → Option Members → Option ConfigError
fault_of_object path fault None = Some (WrongShape path)
fault_of_object path fault (Some ms) = fault ms

-- The first fault of a value that stands at a path: an object before its members, and its keys in their order.
abbrev mutual
  pub fault_of : Kind → List ℕ → Data → Option ConfigError
  fault_of (whole least most) path d = fault_of_number path least most (number_of d)
  fault_of truth path d = fault_of_shape path (is_some (truth_of d))
  fault_of text path d = fault_of_shape path (is_some (as_str d))
  fault_of (word words) path d = fault_of_word path words (as_str d)
  fault_of texts path d = fault_of_shape path (is_some (texts_of d))
  fault_of (fields keys) path d = option_or (fault_of_shape path (is_some (as_object d))) (fault_of_keys keys path d)
  fault_of (each kind) path d = fault_of_object path (fault_of_members (fault_of kind) path) (as_object d)
  fault_of (text_or kind) path d = if is_some (as_str d) then None else fault_of kind path d

  pub fault_of_keys : Keys → List ℕ → Data → Option ConfigError
  fault_of_keys no_keys path d = None
  fault_of_keys (may key kind keys) path d =
      option_or (option_and_then (fault_of kind (path_to path key)) (get key d)) (fault_of_keys keys path d)
  fault_of_keys (must key kind keys) path d =
      option_or (option_map_or (fault_of kind (path_to path key)) (get key d) (Some (WrongShape (path_to path key)))) (fault_of_keys keys path d)

-- the fault of a key that may be missing
abbrev pub fault_at : Kind → List ℕ → List ℕ → Data → Option ConfigError
fault_at kind path key d = option_and_then (fault_of kind (path_to path key)) (get key d)

-- the fault of a key that must be there
abbrev pub fault_at_needed : Kind → List ℕ → List ℕ → Data → Option ConfigError
fault_at_needed kind path key d = option_map_or (fault_of kind (path_to path key)) (get key d) (Some (WrongShape (path_to path key)))
