use Rattle.std.proofs.Common.{arith}
use Rattle.audit_records.proofs.CommandLine.{early-key}
use Rattle.audit_records.proofs.arguments.early_key.Goals as goal

pub returns-in-0 : goal.returns-in-0
returns-in-0 c = early-key 0 _ c.in-0.is (omega arith)

pub returns-in-1 : goal.returns-in-1
returns-in-1 c = early-key 1 _ c.in-1.is (omega arith)

pub returns-in-2 : goal.returns-in-2
returns-in-2 c = early-key 2 _ c.in-2.is (omega arith)

pub returns-in-3 : goal.returns-in-3
returns-in-3 c = early-key 3 _ c.in-3.is (omega arith)

pub returns-in-4 : goal.returns-in-4
returns-in-4 c = early-key 4 _ c.in-4.is (omega arith)

pub returns-in-5 : goal.returns-in-5
returns-in-5 c = early-key 5 _ c.in-5.is (omega arith)

pub returns-in-6 : goal.returns-in-6
returns-in-6 c = early-key 6 _ c.in-6.is (omega arith)

pub returns-in-7 : goal.returns-in-7
returns-in-7 c = early-key 7 _ c.in-7.is (omega arith)

pub returns-in-8 : goal.returns-in-8
returns-in-8 c = early-key 8 _ c.in-8.is (omega arith)

pub returns-in-9 : goal.returns-in-9
returns-in-9 c = early-key 9 _ c.in-9.is (omega arith)
