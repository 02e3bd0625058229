use Rattle.std.proofs.Common.{rules, IsUtf8}
use Rattle.sql_scalar.proofs.Fitting.{skip_to_place, skip_all, split_end, nothing_end}
use Rattle.sql_scalar.proofs.skips.skip_to_sign.Goals as goal

pub returns-in-Some-clause-same : goal.returns-in-Some-clause-same
returns-in-Some-clause-same c =
    λ test. skip_to_place c.args.sign _ _ test _ c.args.text.now c.split_at.result.1.now c.in-Some.at c.requires.ascii c.requires.plain c.utf8.text
    c.to_ascii_lowercase-lower.ensures.value c.to_ascii_uppercase-upper.ensures.value c.as_bytes.ensures.value c.in-Some.ensures c.split_at.ensures.back

pub returns-in-None-clause-same : goal.returns-in-None-clause-same
returns-in-None-clause-same c =
    λ test. skip_all c.args.sign _ _ test _ c.args.text.now c.requires.ascii c.requires.plain c.utf8.text
    c.to_ascii_lowercase-lower.ensures.value c.to_ascii_uppercase-upper.ensures.value c.as_bytes.ensures.value c.in-None.ensures

pub returns-in-Some-clause-end : goal.returns-in-Some-clause-end
returns-in-Some-clause-end c =
    let told : IsUtf8 c.split_at.result.0.now = search rules in
    split_end c.args.text.now c.split_at.result.0.now c.split_at.result.1.now c.in-Some.at told c.split_at.ensures.front c.split_at.ensures.back

pub returns-in-None-clause-end : goal.returns-in-None-clause-end
returns-in-None-clause-end c = nothing_end c.args.text.now
