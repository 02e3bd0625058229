-- A line's tokens, and the object that they are.
use Rattle.std.proofs.Common.{◌≡◌, ℕ, List, [], ◌∷◌, length, Option, Some, None, Result, Ok, Err, option_map, option_and_then, refl, sym, ap, ◌∙◌, arith}
use Rattle.std.specs.Str.{IsUtf8}
use Rattle.json.specs.Json as json
use Rattle.json.specs.Json.{members, parse_map, value}
use Rattle.json.specs.Lex.{tokens}
use Rattle.json.specs.Reads.{token_of}
use Rattle.json.specs.Token.{Token}
use Rattle.json.specs.declared.token.Token.{Token as Given}
use Rattle.json.specs.declared.token.Token.TheVariants as given
use Rattle.json.proofs.Grammar.{value_is, value-begin_array, value-begin_object}
use Rattle.serde_json.specs.Data.{Data, Num, number, array, object, Items, Members, no_members}
use Rattle.serde_json.specs.Find.{as_object}
use Rattle.serde_json.specs.Read.{converted, number_of, of_items, of_json, of_members}
use Rattle.change_records.specs.declared.error.JsonLineError.{JsonLineError}
use Rattle.change_records.specs.declared.error.JsonLineError.TheVariants as fault
use Rattle.change_records.specs.Reads.{Reads, ReadsLine}
use Rattle.change_records.specs.Tokens.{ReadsTokens, data_of}
use Rattle.change_records.proofs.TokenReading.{converted-object, pick, whole, whole_and_more, whole_read, whole_refused}

abbrev all_of : List Token → Option (Members × List Token)
all_of ts = converted (λ given. of_members given no_members) (members (value 126) (length ts) ts)

opened : (ts : List Token) → converted of_json (value 127 (Token.begin_object ∷ ts)) ≡ parse_map object (all_of ts)
opened ts = ap (converted of_json) (value-begin_object 127 ts (omega arith)) ∙ converted-object (members (value 126) (length ts) ts)

pub object_read : (ts : List Token) (all : Members) → all_of ts ≡ Some (all, []) → data_of (Token.begin_object ∷ ts) ≡ Some (object all)
object_read ts all e = whole_read (value 127 (Token.begin_object ∷ ts)) (object all) (opened ts ∙ ap (parse_map object) e)

pub object_and_more : (ts : List Token) (all : Members) (t : Token) (r : List Token) → all_of ts ≡ Some (all, t ∷ r) → data_of (Token.begin_object ∷ ts) ≡ None
object_and_more ts all t r e = whole_and_more (value 127 (Token.begin_object ∷ ts)) (object all) t r (opened ts ∙ ap (parse_map object) e)

pub object_refused : (ts : List Token) → all_of ts ≡ None → data_of (Token.begin_object ∷ ts) ≡ None
object_refused ts e = whole_refused (value 127 (Token.begin_object ∷ ts)) (opened ts ∙ ap (parse_map object) e)

-- ---- other lines

abbrev Other : Option (json.Json × List Token) → Type 0
Other parsed = option_and_then as_object (whole parsed) ≡ None

no_number : (n : Option Num) → option_and_then as_object (option_map number n) ≡ None
no_number None = refl
no_number (Some n) = refl

no_array : (ds : Option Items) → option_and_then as_object (option_map array ds) ≡ None
no_array None = refl
no_array (Some ds) = refl

other_array : (parsed : Option (json.Items × List Token)) → Other (parse_map json.array parsed)
other_array None = refl
other_array (Some (js, [])) = no_array (of_items js)
other_array (Some (js, t ∷ r)) = refl

other_number : (s : List ℕ) (r : List Token) → Other (Some (json.number s, r))
other_number s [] = no_number (number_of s)
other_number s (t ∷ r) = refl

other_string : (s : List ℕ) (r : List Token) → Other (Some (json.string s, r))
other_string s [] = refl
other_string s (t ∷ r) = refl

other_boolean : (b : _) (r : List Token) → Other (Some (json.boolean b, r))
other_boolean b [] = refl
other_boolean b (t ∷ r) = refl

other_null : (r : List Token) → Other (Some (json.null, r))
other_null [] = refl
other_null (t ∷ r) = refl

abbrev members_of : Option (json.Json × List Token) → Option Members
members_of parsed = option_and_then as_object (whole parsed)

other_first : (t : Token) (ts : List Token) → (t ≡ Token.begin_object → ⊥) → Other (value 127 (t ∷ ts))
other_first Token.begin_object ts other = absurd (other refl)
other_first Token.end_object ts other = ap members_of (value_is 127 (Token.end_object ∷ ts))
other_first Token.begin_array ts other = ap members_of (value-begin_array 127 ts (omega arith)) ∙ other_array (json.items (value 126) (length ts) ts)
other_first Token.end_array ts other = ap members_of (value_is 127 (Token.end_array ∷ ts))
other_first (Token.key s) ts other = ap members_of (value_is 127 (Token.key s ∷ ts))
other_first (Token.string s) ts other = ap members_of (value_is 127 (Token.string s ∷ ts)) ∙ other_string s ts
other_first (Token.number s) ts other = ap members_of (value_is 127 (Token.number s ∷ ts)) ∙ other_number s ts
other_first (Token.boolean b) ts other = ap members_of (value_is 127 (Token.boolean b ∷ ts)) ∙ other_boolean b ts
other_first Token.null ts other = ap members_of (value_is 127 (Token.null ∷ ts)) ∙ other_null ts
other_first Token.bad ts other = ap members_of (value_is 127 (Token.bad ∷ ts))

pub begins : (t : Given) → token_of t ≡ Token.begin_object → t ≡ given.BeginObject
begins given.BeginObject e = refl
begins given.EndObject e = absurd (cc)
begins given.BeginArray e = absurd (cc)
begins given.EndArray e = absurd (cc)
begins (given.Key s) e = absurd (cc)
begins (given.String s) e = absurd (cc)
begins (given.Number s) e = absurd (cc)
begins (given.Bool b) e = absurd (cc)
begins given.Null e = absurd (cc)
begins given.Bad e = absurd (cc)

some_none : {A : Type 0} (a : A) → Some a ≡ None → ⊥
some_none a e = absurd (cc)

pub no_object : (t : Token) (ts : List Token) (line : Members) → (t ≡ Token.begin_object → ⊥) → data_of (t ∷ ts) ≡ Some (object line) → ⊥
no_object t ts line other is = some_none line (sym (ap (option_and_then as_object) is) ∙ other_first t ts other)

pub nothing : (line : Data) → data_of [] ≡ Some line → ⊥
nothing line is = some_none line (sym is ∙ ap whole (value_is 127 []))

pub refused_line : (ts : List Token) (line : Data) → data_of ts ≡ None → data_of ts ≡ Some line → ⊥
refused_line ts line none is = some_none line (sym is ∙ none)

-- ---- answers

pub reads_of : {X : Type 0} (found : Data → Option X) (ts : List Token) (line : Data) (x : Option X) (result : Result X JsonLineError) → data_of ts ≡ Some line → x ≡ found line → Reads x result → ReadsTokens found ts result
reads_of found ts line x (Ok v) is same e = (line, is, sym same ∙ e)
reads_of found ts line x (Err fault.BadLine) is same e = λ other of_other. ap found (ap (pick line) (sym of_other ∙ is)) ∙ sym same ∙ e
reads_of found ts line x (Err fault.NoMemory) is same e = tt

pub line_read : {X : Type 0} (found : Data → Option X) (text : List ℕ) (result : Result X JsonLineError) → IsUtf8 text → ReadsTokens found (tokens text) result → ReadsLine found text result
line_read found text (Ok x) utf8 reads = (reads.0, utf8, reads.1, reads.2)
line_read found text (Err fault.BadLine) utf8 reads = λ line same is. reads line is
line_read found text (Err fault.NoMemory) utf8 reads = tt
