use Rattle.std.proofs.Common.{◌≡◌, ◌++◌, drop}
use Rattle.osq_config.specs.Files.{files_of}
use Rattle.osq_config.proofs.file.pack_files.Given as goal

abbrev pub invariant-loop-pack : goal.invariant-loop-pack
invariant-loop-pack l = files_of l.config.packs ≡ l.files ++ files_of (drop l.pack-index l.config.packs)
