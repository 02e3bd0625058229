-- The last frame of each name, as a map by names keeps it.
use Rattle.std.proofs.Common.{◌≡◌, ℕ, ◌+◌, ◌<◌, refl, sym, ap, ◌∙◌, List, [], ◌∷◌, ◌++◌, length, map, take, get_or, Ordering}
use Rattle.std.specs.Borrow.{Bor}
use Rattle.std.specs.BTreeMap.{insert_entry}
use Rattle.std.specs.Cmp.Lexicographic.{slice_cmp}
use Rattle.std.specs.Ordering.{is_eq, match_ordering, nat_cmp}
use Rattle.std.specs.declared.cmp.Ordering.TheVariants.{Less, Equal, Greater}
use Rattle.std.proofs.lemmas.List.{take_more}
use Rattle.std.proofs.lemmas.Map.Text.{is_eq-slice_cmp}
use Rattle.std.proofs.lemmas.Slice.Eq.{bytes_eq-Decides}
use Rattle.batch_frames.specs.declared.frame.Frame.{Frame}
use Rattle.fleet_query.specs.Names.{last_after, last_frames, name_of, with_frame}

abbrev pub Entry : Type 0
Entry = Bor (List ℕ) × Bor Frame

abbrev pub frame_in : Entry → Frame
frame_in entry = entry.1.now

-- each frame stands at its own name
abbrev pub AreKeyed : List Entry → Type 0
AreKeyed [] = Unit {0}
AreKeyed (entry ∷ entries) = (entry.0.now ≡ name_of entry.1.now) × AreKeyed entries

abbrev order : Bor (List ℕ) → Bor (List ℕ) → Ordering
order one other = slice_cmp nat_cmp one.now other.now

same : (one other : List ℕ) → slice_cmp nat_cmp one other ≡ Equal → one ≡ other
same one other equal = (bytes_eq-Decides one other).0 (sym (is_eq-slice_cmp one other) ∙ ap is_eq equal)

pub inserted : (entries : List Entry) (name : Bor (List ℕ)) (frame : Bor Frame) → name.now ≡ name_of frame.now → AreKeyed entries
    → map frame_in (insert_entry order entries name frame) ≡ with_frame frame.now (map frame_in entries)
inserted [] name frame is keyed = refl
inserted (entry ∷ entries) name frame is keyed =
    by (order name entry.0) (inserted entries name frame is keyed.1)
    ∙ (λ k. match_ordering (slice_cmp nat_cmp (is k) (keyed.0 k)) (frame.now ∷ entry.1.now ∷ map frame_in entries) (frame.now ∷ map frame_in entries) (entry.1.now ∷ with_frame frame.now (map frame_in entries)))
  where
    by : (o : Ordering) → map frame_in (insert_entry order entries name frame) ≡ with_frame frame.now (map frame_in entries)
        → map frame_in (match_ordering o ((name, frame) ∷ entry ∷ entries) ((entry.0, frame) ∷ entries) (entry ∷ insert_entry order entries name frame))
        ≡ match_ordering o (frame.now ∷ entry.1.now ∷ map frame_in entries) (frame.now ∷ map frame_in entries) (entry.1.now ∷ with_frame frame.now (map frame_in entries))
    by Less _ = refl
    by Equal _ = refl
    by Greater later = ap (λ (frames : List Frame). entry.1.now ∷ frames) later

pub still_keyed : (entries : List Entry) (name : Bor (List ℕ)) (frame : Bor Frame) → name.now ≡ name_of frame.now → AreKeyed entries → AreKeyed (insert_entry order entries name frame)
still_keyed [] name frame is keyed = (is, tt)
still_keyed (entry ∷ entries) name frame is keyed = by (order name entry.0) refl (still_keyed entries name frame is keyed.1)
  where
    by : (o : Ordering) → order name entry.0 ≡ o → AreKeyed (insert_entry order entries name frame)
        → AreKeyed (match_ordering o ((name, frame) ∷ entry ∷ entries) ((entry.0, frame) ∷ entries) (entry ∷ insert_entry order entries name frame))
    by Less _ _ = (is, keyed)
    by Equal equal _ = (sym (same name.now entry.0.now equal) ∙ is, keyed.1)
    by Greater _ later = (keyed.0, later)

last_push : (lasts frames : List Frame) (frame : Frame) → last_after lasts (frames ++ frame ∷ []) ≡ with_frame frame (last_after lasts frames)
last_push lasts [] frame = refl
last_push lasts (first ∷ frames) frame = last_push (with_frame first lasts) frames frame

-- one frame more
pub last_more : (frames : List Frame) (at : ℕ) (frame : Frame) → at < length frames → frame ≡ get_or frames at frame → last_frames (take (at + 1) frames) ≡ with_frame frame (last_frames (take at frames))
last_more frames at frame within is =
    ap last_frames (take_more frames at frame within ∙ ap (λ (f : Frame). take at frames ++ f ∷ []) (sym is)) ∙ last_push [] (take at frames) frame
