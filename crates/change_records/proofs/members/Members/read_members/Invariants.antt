use Rattle.std.proofs.Common.{◌≡◌, ℕ, ◌≤◌, length}
use Rattle.json.specs.Json.{members, value}
use Rattle.serde_json.specs.Data.{Members, no_members}
use Rattle.serde_json.specs.Read.{of_members, converted}
use Rattle.change_records.specs.Members.{AreOf}
use Rattle.change_records.proofs.members.Members.read_members.Given as goal

abbrev pub invariant-loop-name : goal.invariant-loop-name
invariant-loop-name l =
    (n : ℕ) × (length l.reader ≤ n)
    × (passed : Members) × (converted (λ given. of_members given no_members) (members (value l.depth) (length l.fn.reader) l.fn.reader) ≡ converted (λ given. of_members given passed) (members (value l.depth) n l.reader))
    × AreOf passed l.self

abbrev pub decreases-loop-name : goal.decreases-loop-name
decreases-loop-name l = length l.reader
