use Rattle.std.proofs.Common.{◌∙◌, ◌++◌, ap, map}
use Rattle.program_words.specs.Left.{options_in}
use Rattle.program_words.proofs.Told.{paths_read}
use Rattle.program_words.proofs.options.GivenOptions.paths.Goals as goal

pub returns : goal.returns
returns c =
    let audit = c.values_of.result.now in
    let changes = c.values_of-2.result.now in
    let tables = c.values_of-3.result.now in
    let one = c.in_ok-extend_from_slice.ensures.items ∙ ap (λ l. l ++ audit) c.new-paths.ensures.items in
    let two = c.in_ok-extend_from_slice-2.ensures.items ∙ ap (λ l. l ++ changes) one in
    let three = c.in_ok-extend_from_slice-3.ensures.items ∙ ap (λ l. l ++ tables) two in
    ap (map (λ v. v.now)) three ∙ paths_read audit changes tables (options_in c.args.self.now) c.values_of.ensures c.values_of-2.ensures c.values_of-3.ensures
