use Rattle.std.proofs.Common.{◌≡◌, IfOk, subst, sym}
use Rattle.clap.specs.Matches.{found_of}
use Rattle.clap.specs.Walk.{rows_of}
use Rattle.program_words.specs.Left.{options_in}
use Rattle.program_words.proofs.Own.{right_own, wrong_fit, wrong_pairs}
use Rattle.program_words.proofs.options.GivenOptions.are_right.Goals.{then-not-all_fit-via-then-not-all_fit, then-not-all_fit-via-else-not-all_fit+then-not-are_paired}
use Rattle.program_words.proofs.options.GivenOptions.are_right.Goals as goal

pub returns-then-not-all_fit : goal.returns-then-not-all_fit
returns-then-not-all_fit c =
    let options = c.args.self.now in
    let rows = rows_of (found_of options.matches) in
    elim c.then-not-all_fit.branch [
      | then-not-all_fit-via-then-not-all_fit w ↦ wrong_fit options.command rows (options_in options) options.told (sym w.if-not-all_fit.ensures)
      | then-not-all_fit-via-else-not-all_fit+then-not-are_paired w ↦ wrong_pairs options.command rows (options_in options) options.told (sym w.if-not-are_paired.ensures)
    ]

pub returns : goal.returns
returns c =
    let options = c.args.self.now in
    subst (λ own. IfOk c.has_own_paths.result (λ right. right ≡ own))
    (right_own options.command (rows_of (found_of options.matches)) (options_in options) options.told (sym c.if-not-all_fit.ensures) (sym c.if-not-are_paired.ensures)) c.has_own_paths.ensures
