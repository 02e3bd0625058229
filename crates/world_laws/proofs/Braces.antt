-- No text of a frame begins another: what stands behind the first brace that closes a text is what stands behind the text.
use Rattle.std.proofs.Common.{◌≡◌, ℕ, zero, suc, ◌+◌, ◌/◌, ◌%◌, ◌<◌, ◌≤◌, Bool, true, false, cond, List, [], ◌∷◌, ◌++◌, map, refl, sym, ap, ◌∙◌, append_assoc, append-nil, arith, Option, Some, None, ℤ, pos, negsuc, ◌==◌, codes}
use Rattle.std.specs.Prelude.{flat_map, nat_lt, if◌then◌else◌}
use Rattle.std.specs.Fmt.{digit_glyph, digits_onto, digits, decimal, signed_decimal}
use Rattle.std.proofs.lemmas.Bool.Decides.{nat_tests}
use Rattle.control_escapes.specs.Escapes.{hex_digit}
use Rattle.osq_value.specs.declared.value.Value.{Value}
use Rattle.osq_value.specs.declared.value.Value.TheVariants.{Null, Int, Text}
use Rattle.pack_rules.specs.declared.schedule.QueryKey.{QueryKey}
use Rattle.result_batches.specs.Frames.{hexadecimal, json_value, mode_text}
use Rattle.result_batches.specs.Json.{array, each_behind_comma, escaped, joined, quoted}
use Rattle.batch_frames.specs.declared.frame.Frame.{Frame}
use Rattle.batch_frames.specs.Parts.{digest_part, query_part, sender_part, slice_part, table_part}
use Rattle.batch_frames.specs.Texts.{digest_of, text_of}
use Rattle.batch_frames.proofs.Framed.{text_is}
use Rattle.world_laws.specs.Laws.{NoneBegins}

-- outside of a string, inside one, and behind a backslash
data Mode : Type 0 where
  outside : Mode
  inside : Mode
  escaping : Mode

-- what stands behind the first brace that closes outside of a string
abbrev behind_brace : Mode → List ℕ → Option (List ℕ)
behind_brace mode [] = None
behind_brace outside (byte ∷ rest) = if byte == 125 then Some rest else (if byte == 34 then behind_brace inside rest else behind_brace outside rest)
behind_brace inside (byte ∷ rest) = if byte == 34 then behind_brace outside rest else (if byte == 92 then behind_brace escaping rest else behind_brace inside rest)
behind_brace escaping (byte ∷ rest) = behind_brace inside rest

-- the bytes are passed by
abbrev IsPassed : List ℕ → Type 0
IsPassed bytes = (rest : List ℕ) → behind_brace outside (bytes ++ rest) ≡ behind_brace outside rest

abbrev IsPassedInside : List ℕ → Type 0
IsPassedInside bytes = (rest : List ℕ) → behind_brace inside (bytes ++ rest) ≡ behind_brace inside rest

both : (xs ys : List ℕ) → IsPassed xs → IsPassed ys → IsPassed (xs ++ ys)
both xs ys h k rest = ap (behind_brace outside) (append_assoc xs ys rest) ∙ h (ys ++ rest) ∙ k rest

both_inside : (xs ys : List ℕ) → IsPassedInside xs → IsPassedInside ys → IsPassedInside (xs ++ ys)
both_inside xs ys h k rest = ap (behind_brace inside) (append_assoc xs ys rest) ∙ h (ys ++ rest) ∙ k rest

-- a byte that neither closes nor opens
plain : (b : ℕ) → (b == 125) ≡ false → (b == 34) ≡ false → IsPassed (b ∷ [])
plain b h k rest = rw (h, k) refl

plain_inside : (b : ℕ) → (b == 34) ≡ false → (b == 92) ≡ false → IsPassedInside (b ∷ [])
plain_inside b h k rest = rw (h, k) refl

hex_small : (n : ℕ) → n < 16 → ((hex_digit n == 34) ≡ false) × ((hex_digit n == 92) ≡ false)
hex_small n h = by_ten (nat_lt n 10) refl
  where
    by_ten : (b : Bool) → nat_lt n 10 ≡ b → ((cond b (48 + n) (87 + n) == 34) ≡ false) × ((cond b (48 + n) (87 + n) == 92) ≡ false)
    by_ten true e = let low : n < 10 = grind (arith, nat_tests, e) in (grind (arith, nat_tests, low), grind (arith, nat_tests, low))
    by_ten false e = let high : 10 ≤ n = grind (arith, nat_tests, e) in (grind (arith, nat_tests, high, h), grind (arith, nat_tests, high, h))

-- an escape of two bytes
short : (b : ℕ) → IsPassedInside (92 ∷ b ∷ [])
short b rest = refl

long : (high low : ℕ) → high < 16 → low < 16 → IsPassedInside (codes "\\u00" ++ hex_digit high ∷ hex_digit low ∷ [])
long high low h k rest =
    let a = hex_small high h in
    let b = hex_small low k in
    rw (a.0, a.1, b.0, b.1) refl

by_small : (b : ℕ) (t : Bool) → nat_lt b 32 ≡ t → (b == 34) ≡ false → (b == 92) ≡ false → IsPassedInside (cond t (codes "\\u00" ++ hex_digit (b / 16) ∷ hex_digit (b % 16) ∷ []) (b ∷ []))
by_small b true is h k =
    let low : b < 32 = grind (arith, nat_tests, is) in
    long (b / 16) (b % 16) (omega (arith, low)) (omega arith)
by_small b false is h k = plain_inside b h k

either : (t : Bool) (xs ys : List ℕ) → IsPassedInside xs → IsPassedInside ys → IsPassedInside (cond t xs ys)
either true xs ys h k = h
either false xs ys h k = k

by_slash : (b : ℕ) (t : Bool) → (b == 92) ≡ t → (b == 34) ≡ false → IsPassedInside (cond t (92 ∷ 92 ∷ []) (cond (b == 8) (92 ∷ 98 ∷ []) (cond (b == 9) (92 ∷ 116 ∷ []) (cond (b == 10) (92 ∷ 110 ∷ []) (cond (b == 12) (92 ∷ 102 ∷ []) (cond (b == 13) (92 ∷ 114 ∷ []) (cond (nat_lt b 32) (codes "\\u00" ++ hex_digit (b / 16) ∷ hex_digit (b % 16) ∷ []) (b ∷ []))))))))
by_slash b true is h = short 92
by_slash b false is h =
    either (b == 8) _ _ (short 98) (either (b == 9) _ _ (short 116) (either (b == 10) _ _ (short 110) (either (b == 12) _ _ (short 102) (either (b == 13) _ _ (short 114) (by_small b (nat_lt b 32) refl h is)))))

by_quote : (b : ℕ) (t : Bool) → (b == 34) ≡ t → IsPassedInside (cond t (92 ∷ 34 ∷ []) (cond (b == 92) (92 ∷ 92 ∷ []) (cond (b == 8) (92 ∷ 98 ∷ []) (cond (b == 9) (92 ∷ 116 ∷ []) (cond (b == 10) (92 ∷ 110 ∷ []) (cond (b == 12) (92 ∷ 102 ∷ []) (cond (b == 13) (92 ∷ 114 ∷ []) (cond (nat_lt b 32) (codes "\\u00" ++ hex_digit (b / 16) ∷ hex_digit (b % 16) ∷ []) (b ∷ [])))))))))
by_quote b true is = short 34
by_quote b false is = by_slash b (b == 92) refl is

byte_passed : (b : ℕ) → IsPassedInside (escaped b)
byte_passed b = by_quote b (b == 34) refl

text_passed : (text : List ℕ) → IsPassedInside (flat_map escaped text)
text_passed [] = λ rest. refl
text_passed (b ∷ bs) = both_inside (escaped b) (flat_map escaped bs) (byte_passed b) (text_passed bs)

quoted_passed : (text : List ℕ) → IsPassed (quoted text)
quoted_passed text rest =
    ap (behind_brace inside) (append_assoc (flat_map escaped text) (34 ∷ []) rest) ∙ text_passed text (34 ∷ rest)

-- digits
glyph_passed : (d : ℕ) → d < 10 → IsPassed (digit_glyph false d ∷ [])
glyph_passed d h = by_ten (nat_lt d 10) refl
  where
    by_ten : (b : Bool) → nat_lt d 10 ≡ b → IsPassed (cond b (48 + d) (87 + d) ∷ [])
    by_ten true e = plain (48 + d) (grind (arith, nat_tests, h)) (grind (arith, nat_tests, h))
    by_ten false e = absurd (let high : 10 ≤ d = grind (arith, nat_tests, e) in omega (arith, high, h))

onto_passed : (k n : ℕ) (acc : List ℕ) → IsPassed acc → IsPassed (digits_onto k 10 false n acc)
onto_passed zero n acc h = h
onto_passed (suc k) n acc h = by_end (n / 10 == 0) (onto_passed k (n / 10) (digit_glyph false (n % 10) ∷ acc))
  where
    more : IsPassed (digit_glyph false (n % 10) ∷ acc)
    more = both (digit_glyph false (n % 10) ∷ []) acc (glyph_passed (n % 10) (omega arith)) h

    by_end : (b : Bool) → (IsPassed (digit_glyph false (n % 10) ∷ acc) → IsPassed (digits_onto k 10 false (n / 10) (digit_glyph false (n % 10) ∷ acc))) → IsPassed (cond b (digit_glyph false (n % 10) ∷ acc) (digits_onto k 10 false (n / 10) (digit_glyph false (n % 10) ∷ acc)))
    by_end true later = more
    by_end false later = later more

decimal_passed : (n : ℕ) → IsPassed (decimal n)
unfolding digits
decimal_passed n = onto_passed 64 n [] (λ rest. refl)

signed_passed : (z : ℤ) → IsPassed (signed_decimal z)
signed_passed (pos n) = decimal_passed n
signed_passed (negsuc n) = λ rest. decimal_passed (suc n) rest

-- arrays
abbrev AllPassed : List (List ℕ) → Type 0
AllPassed [] = Unit {0}
AllPassed (text ∷ texts) = IsPassed text × AllPassed texts

commas_passed : (texts : List (List ℕ)) → AllPassed texts → IsPassed (each_behind_comma texts)
commas_passed [] h = λ rest. refl
commas_passed (text ∷ texts) h = both (44 ∷ text) (each_behind_comma texts) (λ rest. h.0 rest) (commas_passed texts h.1)

joined_passed : (texts : List (List ℕ)) → AllPassed texts → IsPassed (joined texts)
joined_passed [] h = λ rest. refl
joined_passed (text ∷ texts) h = both text (each_behind_comma texts) h.0 (commas_passed texts h.1)

array_passed : (texts : List (List ℕ)) → AllPassed texts → IsPassed (array texts)
array_passed texts h rest =
    ap (behind_brace outside) (append_assoc (joined texts) (93 ∷ []) rest) ∙ joined_passed texts h (93 ∷ rest)

all_passed : {X : Type 0} (text : X → List ℕ) → ((x : X) → IsPassed (text x)) → (xs : List X) → AllPassed (map text xs)
all_passed text h [] = tt
all_passed text h (x ∷ xs) = (h x, all_passed text h xs)

-- ---- the parts of a frame's text

value_passed : (value : Value) → IsPassed (json_value value)
value_passed Null = λ rest. refl
value_passed (Int n) = signed_passed n
value_passed (Text text) = quoted_passed text

row_passed : (row : List Value) → IsPassed (array (map json_value row))
row_passed row = array_passed (map json_value row) (all_passed json_value value_passed row)

-- a key, of which the quotes close again, and its value
sender_passed : (host : List ℕ) (number : ℕ) → IsPassed (sender_part host number)
unfolding sender_part
sender_passed host number =
    both (codes "{\"frame\":1,\"host\":" ++ quoted host) (codes ",\"number\":" ++ decimal number)
    (both (codes "{\"frame\":1,\"host\":") (quoted host) (λ rest. refl) (quoted_passed host))
    (both (codes ",\"number\":") (decimal number) (λ rest. refl) (decimal_passed number))

query_passed : (query : QueryKey) → IsPassed (query_part query)
unfolding query_part
query_passed query =
    both (codes ",\"name\":" ++ quoted query.name) ((codes ",\"text\":" ++ quoted query.text) ++ (codes ",\"mode\":" ++ quoted (mode_text query.mode)))
    (both (codes ",\"name\":") (quoted query.name) (λ rest. refl) (quoted_passed query.name))
    (both (codes ",\"text\":" ++ quoted query.text) (codes ",\"mode\":" ++ quoted (mode_text query.mode))
    (both (codes ",\"text\":") (quoted query.text) (λ rest. refl) (quoted_passed query.text))
    (both (codes ",\"mode\":") (quoted (mode_text query.mode)) (λ rest. refl) (quoted_passed (mode_text query.mode))))

slice_passed : (lo hi cut moment : ℕ) → IsPassed (slice_part lo hi cut moment)
unfolding slice_part
slice_passed lo hi cut moment =
    both (codes ",\"lo\":" ++ decimal lo) ((codes ",\"hi\":" ++ decimal hi) ++ ((codes ",\"cut\":" ++ decimal cut) ++ (codes ",\"moment\":" ++ decimal moment)))
    (both (codes ",\"lo\":") (decimal lo) (λ rest. refl) (decimal_passed lo))
    (both (codes ",\"hi\":" ++ decimal hi) ((codes ",\"cut\":" ++ decimal cut) ++ (codes ",\"moment\":" ++ decimal moment))
    (both (codes ",\"hi\":") (decimal hi) (λ rest. refl) (decimal_passed hi))
    (both (codes ",\"cut\":" ++ decimal cut) (codes ",\"moment\":" ++ decimal moment)
    (both (codes ",\"cut\":") (decimal cut) (λ rest. refl) (decimal_passed cut))
    (both (codes ",\"moment\":") (decimal moment) (λ rest. refl) (decimal_passed moment))))

table_passed : (names : List (List ℕ)) (rows : List (List Value)) → IsPassed (table_part names rows)
unfolding table_part
table_passed names rows =
    let its : IsPassed (array (map quoted names)) = array_passed (map quoted names) (all_passed quoted quoted_passed names) in
    let theirs : IsPassed (array (map (λ (row : List Value). array (map json_value row)) rows)) =
    array_passed (map (λ (row : List Value). array (map json_value row)) rows) (all_passed (λ (row : List Value). array (map json_value row)) row_passed rows) in
    both (codes ",\"names\":" ++ array (map quoted names)) (codes ",\"rows\":" ++ array (map (λ (row : List Value). array (map json_value row)) rows))
    (both (codes ",\"names\":") (array (map quoted names)) (λ rest. refl) its)
    (both (codes ",\"rows\":") (array (map (λ (row : List Value). array (map json_value row)) rows)) (λ rest. refl) theirs)

-- ---- the brace that closes

-- the bytes end with the first brace that closes
abbrev IsClosed : List ℕ → Type 0
IsClosed bytes = (rest : List ℕ) → behind_brace outside (bytes ++ rest) ≡ Some rest

closed_behind : (xs ys : List ℕ) → IsPassed xs → IsClosed ys → IsClosed (xs ++ ys)
closed_behind xs ys h k rest = ap (behind_brace outside) (append_assoc xs ys rest) ∙ h (ys ++ rest) ∙ k rest

digest_closed : (digest : List ℕ) → IsClosed (digest_part digest)
unfolding digest_part
digest_closed digest =
    closed_behind (codes ",\"sha256\":") (quoted (hexadecimal digest) ++ codes "}") (λ rest. refl)
    (closed_behind (quoted (hexadecimal digest)) (codes "}") (quoted_passed (hexadecimal digest)) (λ rest. refl))

text_closed : (frame : Frame) → IsClosed (text_of frame)
text_closed frame rest =
    let batch = frame.batch in
    let sender = sender_part frame.host batch.number in
    let query = query_part batch.query in
    let slice = slice_part batch.lo batch.hi batch.cut batch.moment in
    let table = table_part frame.names batch.rows in
    let digest = digest_part (digest_of frame) in
    let parts : IsClosed (sender ++ (query ++ (slice ++ (table ++ digest)))) =
    closed_behind sender (query ++ (slice ++ (table ++ digest))) (sender_passed frame.host batch.number)
    (closed_behind query (slice ++ (table ++ digest)) (query_passed batch.query)
    (closed_behind slice (table ++ digest) (slice_passed batch.lo batch.hi batch.cut batch.moment)
    (closed_behind table digest (table_passed frame.names batch.rows) (digest_closed (digest_of frame))))) in
    ap (λ (text : List ℕ). behind_brace outside (text ++ rest)) (text_is frame) ∙ parts rest

pub none_begins : NoneBegins
none_begins one other byte behind e =
    let long : behind_brace outside (text_of one ++ byte ∷ behind) ≡ Some (byte ∷ behind) = text_closed one (byte ∷ behind) in
    let whole : behind_brace outside (text_of other) ≡ Some [] = ap (behind_brace outside) (sym (append-nil (text_of other))) ∙ text_closed other [] in
    let same : Some (byte ∷ behind) ≡ Some [] = sym long ∙ ap (behind_brace outside) e ∙ whole in
    let gone : ⊥ = cc in gone
