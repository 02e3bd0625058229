-- The numbers of a configuration in files lie between their bounds.
use Rattle.std.proofs.Common.{◌≡◌, ℕ, List, [], ◌∷◌, Some, None, Option, Ok, inl, inr, refl, sym, ap, ◌∙◌, subst}
use Rattle.osq_config.specs.declared.config.Config.{Config}
use Rattle.osq_config.specs.declared.file.PackFile.{PackFile}
use Rattle.osq_config.specs.Bounds.{IsBounded}
use Rattle.osq_config.specs.Files.{files_of, fault_of_file}
use Rattle.osq_config.proofs.Bounded.{answer_bounded, filled_bounded, left_bounded}
use Rattle.config_files.specs.Adding.{AddsPack, AddsPacks}
use Rattle.config_files.specs.Configurations.{IsConfigOf}

pack_bounded : (text name : List ℕ) (before after : Config) (line : List ℕ) → AddsPack text name before after line → IsBounded before → IsBounded after
pack_bounded text name before after line (inl (answer, fills, none)) bounded =
    let has = answer.1.is_json in
    let had = fills.1.is_json in
    let same : answer.0 ≡ fills.0 = (cc) in
    subst IsBounded (sym fills.2) (filled_bounded before name fills.0 (subst (λ d. fault_of_file before d ≡ None) same answer.2) bounded)
pack_bounded text name before after line (inr (error, whole, faults, is, told)) bounded =
    subst IsBounded (sym is) (left_bounded before name bounded)

packs_bounded : (packs : List PackFile) (texts : List (List ℕ)) (before after : Config) (lines : List ℕ) → AddsPacks packs texts before after lines → IsBounded before → IsBounded after
packs_bounded [] [] before after lines adds bounded = subst IsBounded (sym adds.0) bounded
packs_bounded [] (text ∷ texts) before after lines adds bounded = absurd adds
packs_bounded (pack ∷ packs) [] before after lines adds bounded = absurd adds
packs_bounded (pack ∷ packs) (text ∷ texts) before after lines (next, line, rest, first, others, are) bounded =
    packs_bounded packs texts next after rest others (pack_bounded text pack.name before next line first bounded)

pub config_bounded : (documents : List (List ℕ)) (config : Config) (lines : List ℕ) → IsConfigOf documents config lines → IsBounded config
config_bounded documents config lines is =
    packs_bounded (files_of is.read.packs) is.texts is.read config lines is.packs (answer_bounded is.document (Ok is.read) is.reads)
