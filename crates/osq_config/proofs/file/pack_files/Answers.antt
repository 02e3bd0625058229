use Rattle.std.proofs.Common.{◌≡◌, ◌≤◌, ◌++◌, List, length, sym, ap, ◌∙◌, subst, append-nil}
use Rattle.std.proofs.lemmas.List.{drop_all}
use Rattle.osq_config.specs.declared.config.Pack.{Pack}
use Rattle.osq_config.specs.declared.file.PackFile.{PackFile}
use Rattle.osq_config.specs.Files.{file_names, files_of}
use Rattle.osq_config.specs.Names.{names_rise}
use Rattle.osq_config.proofs.Names.{files_rise}
use Rattle.osq_config.proofs.file.pack_files.Goals as goal

pub returns-clause-named : goal.returns-clause-named
returns-clause-named c = λ rise.
    let packs = c.args.config.now.packs in
    let files = c.loop-pack.files in
    let ended = subst (λ (ps : List Pack). length ps ≤ c.loop-pack.pack-index) c.as_slice-pack-items.ensures c.loop-pack-test.false in
    let all : files_of packs ≡ files = c.loop-pack.invariant ∙ ap (λ (ps : List Pack). files ++ files_of ps) (drop_all c.loop-pack.pack-index packs ended) ∙ append-nil files in
    ap (λ (fs : List PackFile). names_rise (file_names fs)) (sym all) ∙ files_rise packs rise.packs
