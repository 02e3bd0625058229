use Rattle.std.proofs.Common.{◌++◌, ℕ, List, refl, ap, ◌∙◌}
use Rattle.osq_config.specs.Files.{files_of}
use Rattle.config_files.proofs.Packs.{adds_rise, configured_by}
use Rattle.config_files.proofs.configured.read_configured.Goals as goal

pub returns-clause-configured : goal.returns-clause-configured
returns-clause-configured g c =
    let read = c.in_ok-made.ensures.config in
    let added = c.in_ok-add_files.ensures.adds in
    configured_by g.F.Files.tells (g.F.Files.file c.args.files.now) (g.F.Files.file c.config_in.new.files) c.config_in.ensures.same c.args.path.now read.0 read.1 c.in_ok-made.made.config _ read.2 _ refl
    added.0 added.1 added.2 added.3 _ _ (added.4 ∙ ap (λ (ds : List (List ℕ)). ds ++ added.0) read.3) (added.5 ∙ ap (λ (n : List ℕ). n ++ added.1) read.4)

pub returns-clause-named : goal.returns-clause-named
returns-clause-named g c =
    let added = c.in_ok-add_files.ensures.adds in
    adds_rise (files_of c.in_ok-made.made.config.packs) added.0 c.in_ok-made.made.config _ added.1 added.2 c.in_ok-made.ensures.named
