use Rattle.std.proofs.Common.{List, ℕ, subst, sym}
use Rattle.regex.specs.Patterns.{Re, SameCaptures}
use Rattle.regex.specs.Strings.{regex_pattern}
use Rattle.custom_tables.specs.Patterns.{pattern_in}
use Rattle.custom_tables.proofs.PatternLaws.{is_read}
use Rattle.custom_tables.proofs.pattern.Pattern.matcher.Goals as goal

pub returns : goal.returns
returns c =
    let regex = c.self.inside.regex in
    let law = is_read regex c.self.invariant.0 c.self.invariant.1 in
    subst (λ (re : Re). SameCaptures re (pattern_in c.args.self.now)) (sym c.in_ok-matcher.ensures.pattern) (subst (λ (text : List ℕ). SameCaptures (regex_pattern regex) (pattern_in text)) c.self.view_is law.1)
