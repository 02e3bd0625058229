use Rattle.std.proofs.Common.{◌≡◌, true, List, ℕ, subst, sym}
use Rattle.custom_tables.specs.Patterns.{is_pattern}
use Rattle.custom_tables.proofs.PatternLaws.{is_read, is_refused}
use Rattle.custom_tables.proofs.pattern.Pattern.of.Goals as goal

pub returns-in-Ok-clause-is : goal.returns-in-Ok-clause-is
returns-in-Ok-clause-is c =
    let made = c.in-Ok.ensures in
    sym (subst (λ (text : List ℕ). is_pattern text ≡ true) made.source (is_read c.in-Ok.regex made.config made.read).0)

pub returns-in-Err-Syntax-clause-is : goal.returns-in-Err-Syntax-clause-is
returns-in-Err-Syntax-clause-is c =
    let refused = c.in-Err-Syntax.ensures in
    sym (is_refused c.args.text.now c.in-Err-Syntax.field-0-0.kind (rw c.in-Err-Syntax.field-0-is at refused.kind) (refused.by_grammar c.in-Err-Syntax.field-0-0 c.in-Err-Syntax.field-0-is))
