-- The sources that words name.
use Rattle.std.proofs.Common.{◌≡◌, ℕ, zero, suc, ◌≤◌, List, [], ◌∷◌, length, slice_get, Some, ap, subst, ◌∙◌, arith}
use Rattle.std.specs.Prelude.{All}
use Rattle.std.proofs.lemmas.List.Elements.{All-head, All-tail}
use Rattle.osq_value.specs.declared.source.SourceName.{SourceName}
use Rattle.entry_model.specs.Values.{taken_from}
use Rattle.session_model.specs.Given.{Source}
use Rattle.osq_program.specs.Observed.{Observed}
use Rattle.osq_program.specs.Reasons.{HasShrunk}
use Rattle.osq_program.specs.Setups.{sources_named}
use Rattle.run_laws.specs.Ready.{IsThere}

-- the source at a place, with its bytes
there_at : (P : Source → Type 0) (names : List SourceName) (all : List (List ℕ)) (place : ℕ) (source : SourceName) (bytes : List ℕ) → slice_get names place ≡ Some source → slice_get all place ≡ Some bytes → All P (sources_named names all)
    → P (record { name = source.name; kind = source.kind; bytes = bytes })
there_at P [] all place source bytes named had each = absurd (let no : ⊥ = cc in no)
there_at P (name ∷ names) [] place source bytes named had each = absurd (let no : ⊥ = cc in no)
there_at P (name ∷ names) (first ∷ all) zero source bytes named had each =
    let same : name ≡ source = cc in
    let its : first ≡ bytes = cc in
    subst (λ (bs : List ℕ). P (record { name = source.name; kind = source.kind; bytes = bs })) its
    (subst (λ (s : SourceName). P (record { name = s.name; kind = s.kind; bytes = first })) same (All-head P (record { name = name.name; kind = name.kind; bytes = first }) (sources_named names all) each))
there_at P (name ∷ names) (first ∷ all) (suc place) source bytes named had each =
    there_at P names all place source bytes named had (All-tail P (record { name = name.name; kind = name.kind; bytes = first }) (sources_named names all) each)

-- a source that has its kept bytes didn't shrink
pub not_shrunk : (names : List SourceName) (seen : Observed) (name : List ℕ) (kept found : ℕ) → seen.keeper_tells → seen.source_tells → All (IsThere seen.kept_before) (sources_named names seen.all_bytes) → HasShrunk names seen name kept found → ⊥
not_shrunk names seen name kept found kept_told told there shrunk =
    let (bytes, had, size) = shrunk.ended told in
    let source = shrunk.named.source in
    let within : taken_from seen.kept_before source.name ≤ length bytes = there_at (IsThere seen.kept_before) names seen.all_bytes shrunk.place source bytes shrunk.named.there had there in
    let is = shrunk.kept_is kept_told ∙ ap (taken_from seen.kept_before) shrunk.named.name_is in
    let short = shrunk.short in
    omega (arith, within, is, short, size)
