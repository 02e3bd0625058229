use Rattle.std.proofs.Common.{◌≡◌, ◌+◌, ◌++◌, drop}
use Rattle.custom_tables.specs.Reading.{read_from}
use Rattle.custom_tables.proofs.reading.text_as_read.Given as goal

abbrev pub invariant-loop-call : goal.invariant-loop-call
invariant-loop-call l = record {
  read : l.read.items ++ read_from l.text l.place l.number (drop l.call-index l.calls) ≡ read_from l.text 0 1 l.calls;
  number : l.number ≡ l.call-index + 1;
  bytes : l.bytes ≡ l.text;
}
