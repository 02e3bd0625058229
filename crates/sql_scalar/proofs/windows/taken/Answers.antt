use Rattle.std.proofs.Common.{◌≡◌, ℕ, List, [], ◌++◌, sym, ◌∙◌, ap, append-nil}
use Rattle.std.specs.Str.{chars, encode_utf8_all}
use Rattle.std.specs.String.{string_bytes}
use Rattle.std.proofs.lemmas.Int.{to_z-of_z}
use Rattle.osq_value.specs.declared.value.Value.TheVariants.{Text}
use Rattle.sql_scalar.specs.Windows.{inside, kept}
use Rattle.sql_scalar.proofs.Past.{nothing_past}
use Rattle.sql_scalar.proofs.windows.taken.Goals as goal
use Rattle.sql_scalar.proofs.windows.taken.Goals.{in-Some+then-is_past, in_default}

pub returns : goal.returns
returns c =
    let fits = c.ranges.low in
    let so_far = simp to_z-of_z at c.loop-first.invariant.so_far in
    let done : kept (inside c.args.low c.args.high) c.loop-first.position (chars c.loop-first.rest.now) ≡ [] =
    elim c.match-split_first_char.branch [
      | in-Some+then-is_past w ↦ nothing_past c.args.low c.args.high c.loop-first.position (chars c.loop-first.rest.now)
          (sym w.if-is_past.ensures)
      | in_default w ↦ ap (kept (inside c.args.low c.args.high) c.loop-first.position) w.in_default.ensures
    ] in
    ap Text
    (c.from_string.ensures
    ∙ sym (so_far
    ∙ ap (λ (items : List ℕ). string_bytes c.loop-first.part ++ encode_utf8_all items) done
    ∙ append-nil (string_bytes c.loop-first.part)))
