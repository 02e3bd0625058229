use Rattle.std.proofs.Common.{◌+◌, ◌-◌, ◌*◌, length}
use Rattle.sql_tokens.specs.Levels.{rank}
use Rattle.sql_tree.specs.View.{tree_of, steps_of, trees_of}
use Rattle.sql_parser.proofs.Read.{IsChainSoFar, IsListSoFar}
use Rattle.sql_parser.proofs.Calls.{IsCountedSoFar}
use Rattle.sql_parser.proofs.descent.+descent.Given as goal

abbrev pub decreases-atom : goal.decreases-atom
decreases-atom l = 64 * (64 - l.depth) + 2

abbrev pub decreases-signed : goal.decreases-signed
decreases-signed l = 64 * (64 - l.depth) + 3

abbrev pub decreases-list : goal.decreases-list
decreases-list l = 64 * (64 - l.depth) + 1

abbrev pub decreases-negated : goal.decreases-negated
decreases-negated l = 64 * (64 - l.depth) + 34

abbrev pub decreases-operand : goal.decreases-operand
decreases-operand l = 64 * (64 - l.depth) + 6 * rank l.level + 5

abbrev pub decreases-between : goal.decreases-between
decreases-between l = 64 * (64 - l.depth) + 6 * rank l.level + 6

abbrev pub decreases-negated_step : goal.decreases-negated_step
decreases-negated_step l = 64 * (64 - l.depth) + 6 * rank l.level + 7

abbrev pub decreases-step : goal.decreases-step
decreases-step l = 64 * (64 - l.depth) + 6 * rank l.level + 8

abbrev pub decreases-chain : goal.decreases-chain
decreases-chain l = 64 * (64 - l.depth) + 6 * rank l.level + 9

abbrev pub invariant-chain-loop-count : goal.invariant-chain-loop-count
invariant-chain-loop-count l = IsChainSoFar l.level l.depth l._count l.fn.reader (tree_of l.first) (steps_of l.steps.items) l.reader

abbrev pub invariant-list-loop-reader : goal.invariant-list-loop-reader
invariant-list-loop-reader l = IsListSoFar l.depth l.fn.reader (trees_of l.items.items) l.reader

abbrev pub decreases-list-loop-reader : goal.decreases-list-loop-reader
decreases-list-loop-reader l = length l.reader

abbrev pub decreases-named : goal.decreases-named
decreases-named l = 64 * (64 - l.depth) + 1

abbrev pub decreases-call : goal.decreases-call
decreases-call l = 64 * (64 - l.depth)

abbrev pub decreases-cast : goal.decreases-cast
decreases-cast l = 64 * (64 - l.depth)

abbrev pub decreases-counted : goal.decreases-counted
decreases-counted l = 64 * (64 - l.depth) + 50

abbrev pub invariant-counted-loop-reader : goal.invariant-counted-loop-reader
invariant-counted-loop-reader l = IsCountedSoFar l.depth l.place l.word l.fn.one l.fn.reader (trees_of l.arguments.items) l.shape l.reader

abbrev pub decreases-counted-loop-reader : goal.decreases-counted-loop-reader
decreases-counted-loop-reader l = length l.reader
