-- The changes of a seal as the spelling of its statements.
use Rattle.std.proofs.Common.{◌≡◌, ℕ, ◌+◌, List, [], ◌∷◌, ◌++◌, length, map, fold, refl, sym, ap, ◌∙◌, append_assoc, arith}
use Rattle.std.proofs.lemmas.List.{append-nil, map-append}
use Rattle.osq_value.specs.declared.value.Value.{Value}
use Rattle.entry_model.specs.declared.entry.Batch.{Batch}
use Rattle.entry_model.specs.declared.entry.Entry.{Entry}
use Rattle.entry_model.specs.declared.restored.Live.{Live}
use Rattle.kept_tables.specs.declared.changes.Change.{Change}
use Rattle.kept_tables.specs.declared.sealing.Sealing.{Sealing}
use Rattle.kept_tables.specs.Edits.{Edit, add_batch, add_batch_part, add_events, add_set_part, counts_after, edits_of, live_part, next, note_run, note_taken, part_edits, rows_text, seal_edits, set_edits, set_groups, spelled, unset, write_counts}
use Rattle.kept_tables.specs.Parts.{part_text}
use Rattle.kept_tables.specs.Sealing.{comes_to, event_change, set_change, with_batch_part, with_changes, with_edits, with_entry}

-- some edits, and then some more
pub spelled_more : (changes : List Change) (edits more : List Edit) → (changes ++ map spelled edits) ++ map spelled more ≡ changes ++ map spelled (edits ++ more)
spelled_more changes edits more = append_assoc changes (map spelled edits) (map spelled more) ∙ ap (λ (cs : List Change). changes ++ cs) (sym (map-append spelled edits more))

pub sealed_is : (s : Sealing) (entries : List Entry) → (fold with_entry s entries).changes ++ spelled (write_counts (fold with_entry s entries).counts) ∷ [] ≡ s.changes ++ map spelled (seal_edits s.counts entries)
sealed_is s [] = refl
sealed_is s (entry ∷ entries) =
    sealed_is (with_entry s entry) entries ∙ spelled_more s.changes (edits_of (next s.counts) entry) (seal_edits (counts_after (next s.counts) entry) entries)

pub events_spelled : (table moment : ℕ) (gs : List (List Live)) → map (event_change table moment) (map part_text gs) ≡ map spelled (map (λ (group : List Live). add_events (live_part table moment group)) gs)
events_spelled table moment [] = refl
events_spelled table moment (g ∷ gs) = ap (λ (cs : List Change). spelled (add_events (live_part table moment g)) ∷ cs) (events_spelled table moment gs)

pub sets_spelled : (table : ℕ) (gs : List (List (List Value))) → map (set_change table) (map rows_text gs) ≡ map spelled (map (λ (group : List (List Value)). add_set_part (record { table = record { 0 = table }; rows = group })) gs)
sets_spelled table [] = refl
sets_spelled table (g ∷ gs) = ap (λ (cs : List Change). spelled (add_set_part (record { table = record { 0 = table }; rows = g })) ∷ cs) (sets_spelled table gs)

pub parts_spelled : (s : Sealing) (batch : ℕ) (gs : List (List (List Value))) → fold (with_batch_part batch) s (map rows_text gs) ≡ comes_to s (record s.counts { parts = s.counts.parts + length gs }) (part_edits s.counts.parts batch gs)
parts_spelled s batch [] =
    let none : s.counts.parts ≡ s.counts.parts + 0 = omega arith in λ i. record { counts = record s.counts { parts = none i }; changes = sym (append-nil s.changes) i }
parts_spelled s batch (g ∷ gs) =
    let more : (s.counts.parts + 1) + length gs ≡ s.counts.parts + length (g ∷ gs) = omega arith in
    parts_spelled (with_batch_part batch s (rows_text g)) batch gs
    ∙ (λ i. record { counts = record s.counts { parts = more i }; changes = append_assoc s.changes (spelled (add_batch_part (s.counts.parts + 1) batch g) ∷ []) (map spelled (part_edits (s.counts.parts + 1) batch gs)) i })

-- two edits, and the rows of a batch
pub commit_spelled : (s : Sealing) (batch : Batch) (gs : List (List (List Value)))
    → fold (with_batch_part batch.number) (with_edits (with_edits s (note_run batch ∷ [])) (add_batch batch ∷ [])) (map rows_text gs) ≡ comes_to s (record s.counts { parts = s.counts.parts + length gs }) (note_run batch ∷ add_batch batch ∷ part_edits s.counts.parts batch.number gs)
commit_spelled s batch gs =
    let two = with_edits (with_edits s (note_run batch ∷ [])) (add_batch batch ∷ []) in
    let rest = part_edits s.counts.parts batch.number gs in
    parts_spelled two batch.number gs
    ∙ (λ i. record { counts = record s.counts { parts = s.counts.parts + length gs }; changes = (ap (λ (cs : List Change). cs ++ map spelled rest) (spelled_more s.changes (note_run batch ∷ []) (add_batch batch ∷ [])) ∙ spelled_more s.changes (note_run batch ∷ add_batch batch ∷ []) rest) i })

-- a source's offset, and the rows of a table in place of those before
pub set_spelled : (s : Sealing) (source : List ℕ) (taken table : ℕ) (rows : List (List Value))
    → with_changes (with_edits (with_edits s (note_taken source taken ∷ [])) (unset table ∷ [])) (map (set_change table) (map rows_text (set_groups rows))) ≡ comes_to s s.counts (note_taken source taken ∷ unset table ∷ set_edits table rows)
set_spelled s source taken table rows =
    let two = with_edits (with_edits s (note_taken source taken ∷ [])) (unset table ∷ []) in
    ap (λ (cs : List Change). with_changes two cs) (sets_spelled table (set_groups rows))
    ∙ (λ i. record { counts = s.counts; changes = (ap (λ (cs : List Change). cs ++ map spelled (set_edits table rows)) (spelled_more s.changes (note_taken source taken ∷ []) (unset table ∷ [])) ∙ spelled_more s.changes (note_taken source taken ∷ unset table ∷ []) (set_edits table rows)) i })
