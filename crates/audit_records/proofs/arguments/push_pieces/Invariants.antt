use Rattle.std.proofs.Common.{◌≡◌, ℕ, ◌-◌, ◌++◌}
use Rattle.std.specs.List.{concat}
use Rattle.std.specs.String.{string_bytes}
use Rattle.audit_records.specs.Arguments.{execve_text, most_pieces, piece_key, pieces, until_missing}
use Rattle.audit_records.proofs.arguments.push_pieces.Given as goal

abbrev pub invariant-loop-piece : goal.invariant-loop-piece
invariant-loop-piece l =
    string_bytes l.text ++ concat (until_missing (most_pieces - l.piece) l.piece (λ (piece : ℕ). execve_text (piece_key l.place piece) l.fields.lines.now))
    ≡ string_bytes l.fn.text ++ concat (pieces l.place l.fields.lines.now)
