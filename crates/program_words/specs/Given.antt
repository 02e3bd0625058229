-- The options that words spell, in their order.
use Rattle.std.specs.Prelude.{ℕ, ◌==◌, ◌&&◌, not, Bool, true, false, bytes_eq, codes, drop, if◌then◌else◌, nat_eq, nat_le, nat_lt, List, [], ◌∷◌, length, Option, None, Some, is_none, is_some, option_and_then, unwrap_or}
use Rattle.std.specs.List.{after_first, before_first, find, list_any, position_or_len, starts_with}
use Rattle.program_words.specs.declared.name.Name.{Name}
use Rattle.program_words.specs.declared.name.Name.TheVariants.{Other}
use Rattle.program_words.specs.declared.name.Takes.{Takes}
use Rattle.program_words.specs.declared.name.Takes.TheVariants.{Nothing, AnyText, ShortText, Number, Unknown}
use Rattle.program_words.specs.Names.{is_source, name_of, same_name, takes}
use Rattle.program_words.specs.Texts.{is_text, number_in}

-- an option: its name, and the text behind it, if one stands there
pub record Given : Type 0 where
  pub name : Name
  pub value : Option (List ℕ)

-- the sign `=`
abbrev pub is_sign : ℕ → Bool
is_sign b = b == 61

-- what stands behind the dashes: a name, or a name, the sign and a value
unfoldable pub behind_dashes : List ℕ → Given
behind_dashes text =
    if nat_lt (position_or_len is_sign text) (length text)
    then record { name = name_of (before_first is_sign text); value = Some (after_first is_sign text) }
    else record { name = name_of text; value = None }

-- what one word spells by itself: `--name`, or `--name=value`; any other word is no option
unfoldable pub option_of : List ℕ → Given
option_of word =
    if starts_with nat_eq word (codes "--") then behind_dashes (drop 2 word) else record { name = Other; value = None }

-- an option whose value is the next word
abbrev pub takes_word : Takes → Bool
takes_word Nothing = false
takes_word AnyText = true
takes_word ShortText = true
takes_word (Number least most) = true
takes_word Unknown = false

unfoldable pub awaits : Given → Bool
awaits g = is_none g.value && takes_word (takes g.name)

-- an option with its value, `--name value`
unfoldable pub with_value : Given → List ℕ → Given
with_value g word = record { name = g.name; value = Some word }

-- the options that words spell; one that awaits a value takes the next word, whatever that is
unfoldable pub options_of : List (List ℕ) → List Given
options_of [] = []
options_of (word ∷ []) = option_of word ∷ []
options_of (word ∷ next ∷ words) =
    if awaits (option_of word) then with_value (option_of word) next ∷ options_of words else option_of word ∷ options_of (next ∷ words)

-- the value is one that the name takes
abbrev pub fits_value : Takes → List ℕ → Bool
fits_value Nothing text = false
fits_value AnyText text = is_text text
fits_value ShortText text = is_text text && nat_le (length text) 255
fits_value (Number least most) text = is_some (number_in least most text)
fits_value Unknown text = false

abbrev pub fits_none : Takes → Bool
fits_none Nothing = true
fits_none AnyText = false
fits_none ShortText = false
fits_none (Number least most) = false
fits_none Unknown = false

unfoldable pub fits : Takes → Option (List ℕ) → Bool
fits kind None = fits_none kind
fits kind (Some text) = fits_value kind text

unfoldable pub is_named : Name → Given → Bool
is_named name g = same_name name g.name

-- an option of that name stands among them
unfoldable pub stands : Name → List Given → Bool
stands name gs = list_any (is_named name) gs

-- the value of the option of that name
unfoldable pub value_of : Name → List Given → Option (List ℕ)
value_of name gs = option_and_then (λ g. g.value) (find (is_named name) gs)

unfoldable pub value_or : List ℕ → Name → List Given → List ℕ
value_or default name gs = unwrap_or (value_of name gs) default

abbrev pub number_taken : Takes → List ℕ → Option ℕ
number_taken Nothing text = None
number_taken AnyText text = None
number_taken ShortText text = None
number_taken (Number least most) text = number_in least most text
number_taken Unknown text = None

-- the number of the option of that name
unfoldable pub number_of : Name → List Given → Option ℕ
number_of name gs = option_and_then (number_taken (takes name)) (value_of name gs)

unfoldable pub number_or : ℕ → Name → List Given → ℕ
number_or default name gs = unwrap_or (number_of name gs) default

abbrev pub same_value : Option (List ℕ) → Option (List ℕ) → Bool
same_value None other = is_none other
same_value (Some text) None = false
same_value (Some text) (Some other) = bytes_eq text other

-- the second repeats the first: a source with the path of another source, or an option with the name of another option
unfoldable pub repeats : Given → Given → Bool
repeats g h = if is_source g.name then is_source h.name && same_value g.value h.value else same_name g.name h.name

-- no option is repeated by one behind it
unfoldable pub none_repeats : List Given → Bool
none_repeats [] = true
none_repeats (g ∷ gs) = not (list_any (repeats g) gs) && none_repeats gs
