-- The text of a frame by its parts.
use Rattle.std.proofs.Common.{◌≡◌, ℕ, ◌<◌, ◌^◌, true, List, ◌++◌, map, codes, length, refl, sym, ap, ◌∙◌, arith}
use Rattle.std.specs.Prelude.{◌&&◌, nat_le}
use Rattle.std.specs.Fmt.{decimal}
use Rattle.std.proofs.lemmas.Bool.{ltb-true}
use Rattle.osq_value.specs.declared.value.Value.{Value}
use Rattle.entry_model.specs.declared.entry.Batch.{Batch}
use Rattle.result_batches.specs.Json.{array, quoted}
use Rattle.result_batches.specs.Frames.{frame_body, hexadecimal, json_value, mode_text}
use Rattle.sha2.specs.Sha256.{sha256}
use Rattle.batch_frames.specs.declared.frame.Frame.{Frame}
use Rattle.batch_frames.specs.declared.parts.Slice.{Slice}
use Rattle.batch_frames.specs.declared.parts.Sender.{Sender}
use Rattle.batch_frames.specs.declared.parts.Table.{Table}
use Rattle.pack_rules.specs.declared.schedule.QueryKey.{QueryKey}
use Rattle.batch_frames.specs.Decodes.{ReadsFrame}
use Rattle.batch_frames.specs.Ends.{BeginsWithEnd}
use Rattle.batch_frames.specs.Shapes.{frame}
use Rattle.batch_frames.specs.Takes.{Takes}
use Rattle.batch_frames.specs.Parts.{sender_part, query_part, slice_part, table_part, digest_part, sender_text, slice_text, table_text, IsHeldSender, IsHeldSlice, IsHeldTable}
use Rattle.batch_frames.specs.Texts.{IsHeldQuery, text_of, digest_of}
use Rattle.batch_frames.specs.Valid.{is_valid, is_host, has_numbers, is_number, are_wide}
use Rattle.batch_frames.proofs.Sequences.{both_true, four_behind, parts_are, three_behind}

-- what the digest is made from
pub body_is : (host : List ℕ) (names : List (List ℕ)) (b : Batch)
    → ((sender_part host b.number ++ query_part b.query) ++ slice_part b.lo b.hi b.cut b.moment) ++ table_part names b.rows ≡ frame_body host names b
unfolding sender_part query_part slice_part table_part
body_is host names b =
    parts_are (codes "{\"frame\":1,\"host\":") (quoted host) (codes ",\"number\":") (decimal b.number) (codes ",\"name\":") (quoted b.query.name)
    (codes ",\"text\":") (quoted b.query.text) (codes ",\"mode\":") (quoted (mode_text b.query.mode)) (codes ",\"lo\":") (decimal b.lo)
    (codes ",\"hi\":") (decimal b.hi) (codes ",\"cut\":") (decimal b.cut) (codes ",\"moment\":") (decimal b.moment)
    (codes ",\"names\":") (array (map quoted names)) (codes ",\"rows\":") (array (map (λ (row : List Value). array (map json_value row)) b.rows))

-- and the digest behind it
pub digest_behind : (f : Frame) → text_of f ≡ frame_body f.host f.names f.batch ++ digest_part (digest_of f)
unfolding text_of digest_of digest_part
digest_behind f = three_behind (frame_body f.host f.names f.batch) (codes ",\"sha256\":") (quoted (hexadecimal (sha256 (frame_body f.host f.names f.batch)))) (codes "}")

pub text_is : (f : Frame)
    → text_of f ≡ sender_part f.host f.batch.number ++ (query_part f.batch.query ++ (slice_part f.batch.lo f.batch.hi f.batch.cut f.batch.moment ++ (table_part f.names f.batch.rows ++ digest_part (digest_of f))))
text_is f =
    digest_behind f ∙ ap (λ body. body ++ digest_part (digest_of f)) (sym (body_is f.host f.names f.batch))
    ∙ four_behind (sender_part f.host f.batch.number) (query_part f.batch.query) (slice_part f.batch.lo f.batch.hi f.batch.cut f.batch.moment) (table_part f.names f.batch.rows) (digest_part (digest_of f))

-- the numbers of a valid frame have 64 bits
pub record HasNumbers (batch : Batch) : Type 0 where
  pub number : batch.number < 2 ^ 64
  pub lo : batch.lo < 2 ^ 64
  pub hi : batch.hi < 2 ^ 64
  pub cut : batch.cut < 2 ^ 64
  pub moment : batch.moment < 2 ^ 64

wide : (n : ℕ) → is_number n ≡ true → n < 2 ^ 64
wide n h = let small : n < 2 ^ 63 = ltb-true n (2 ^ 63) h in omega arith

pub numbers_of : (f : Frame) → is_valid f ≡ true → HasNumbers f.batch
numbers_of f valid =
    let b : Batch = f.batch in
    let both = both_true (is_host f.host && has_numbers b) (are_wide (length f.names) b.rows) valid in
    let all = both_true (is_host f.host) (has_numbers b) both.0 in
    let moment = both_true _ (is_number b.moment) all.1 in
    let cut = both_true _ (is_number b.cut) moment.0 in
    let hi = both_true _ (is_number b.hi) cut.0 in
    let lo = both_true _ (is_number b.lo) hi.0 in
    let number = both_true (nat_le 1 b.number) (is_number b.number) lo.0 in
    record { number = wide b.number number.1; lo = wide b.lo lo.1; hi = wide b.hi hi.1; cut = wide b.cut cut.1; moment = wide b.moment moment.1 }

begins_query : (query : QueryKey) (behind : List ℕ) → BeginsWithEnd (query_part query ++ behind)
unfolding query_part
begins_query query behind = refl

begins_slice : (lo hi cut moment : ℕ) (behind : List ℕ) → BeginsWithEnd (slice_part lo hi cut moment ++ behind)
unfolding slice_part
begins_slice lo hi cut moment behind = refl

begins_table : (names : List (List ℕ)) (rows : List (List Value)) (behind : List ℕ) → BeginsWithEnd (table_part names rows ++ behind)
unfolding table_part
begins_table names rows behind = refl

begins_digest : (digest : List ℕ) → BeginsWithEnd (digest_part digest)
unfolding digest_part
begins_digest digest = refl

-- what the four readers take of a valid frame's text are the parts of that frame
pub read_is : (text : List ℕ) (sender : Sender) (query : QueryKey) (slice : Slice) (table : Table) (one two three four : List ℕ) (made : Frame)
    → Takes sender_text IsHeldSender text sender one → Takes query_part IsHeldQuery one query two → Takes slice_text IsHeldSlice two slice three
    → Takes table_text IsHeldTable three table four → made ≡ frame sender.host sender.number query slice table → ReadsFrame text made
read_is text sender query slice table one two three four made first second third fourth is = λ f held of.
    let n = numbers_of f of.valid in
    let b : Batch = f.batch in
    let digest : List ℕ = digest_part (digest_of f) in
    let tables : List ℕ = table_part f.names b.rows ++ digest in
    let slices : List ℕ = slice_part b.lo b.hi b.cut b.moment ++ tables in
    let queries : List ℕ = query_part b.query ++ slices in
    let a = first (record { host = f.host; number = b.number }) queries (record { host = held.host; number = n.number }) (begins_query b.query slices) (of.is ∙ text_is f) in
    let q = second b.query slices held.query (begins_slice b.lo b.hi b.cut b.moment tables) a.1 in
    let s = third (record { lo = b.lo; hi = b.hi; cut = b.cut; moment = b.moment }) tables (record { lo = n.lo; hi = n.hi; cut = n.cut; moment = n.moment }) (begins_table f.names b.rows digest) q.1 in
    let t = fourth (record { names = f.names; rows = b.rows }) digest (record { names = held.names; rows = held.rows }) (begins_digest (digest_of f)) s.1 in
    is ∙ ap (λ (x : Sender). frame x.host x.number query slice table) a.0 ∙ ap (λ (x : QueryKey). frame f.host b.number x slice table) q.0
    ∙ ap (λ (x : Slice). frame f.host b.number b.query x table) s.0 ∙ ap (λ (x : Table). frame f.host b.number b.query (record { lo = b.lo; hi = b.hi; cut = b.cut; moment = b.moment }) x) t.0
