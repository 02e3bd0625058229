-- A document whose packs all stand in it has one configuration.
use Rattle.std.proofs.Common.{◌≡◌, ℕ, List, [], ◌∷◌, ap, refl, sym, subst, ◌∙◌, Option}
use Rattle.std.specs.Prelude.{unwrap_or}
use Rattle.serde_json.specs.Data.{Data}
use Rattle.osq_config.specs.declared.config.Config.{Config}
use Rattle.osq_config.specs.declared.file.PackFile.{PackFile}
use Rattle.osq_config.specs.Documents.{HasValue}
use Rattle.osq_config.specs.Files.{files_of}
use Rattle.osq_config.specs.Values.{config_of}
use Rattle.config_files.specs.Adding.{AddsPacks}
use Rattle.config_files.specs.Configurations.{IsConfigOf}
use Rattle.run_laws.specs.OneList.{OneConfiguration, StandsAlone}

value_same : (document : List ℕ) (one other : Data) → HasValue document one → HasValue document other → one ≡ other
value_same document one other x y = ap (λ (o : Option Data). unwrap_or o one) (sym x.is_json ∙ y.is_json)

-- no file, and so no text and no change
no_packs : (texts : List (List ℕ)) (before after : Config) (lines : List ℕ) → AddsPacks [] texts before after lines → (texts ≡ []) × (after ≡ before)
no_packs [] before after lines adds = (refl, adds.0)
no_packs (text ∷ texts) before after lines adds = absurd adds

-- the configuration is what the document says
record IsAlone (document : List ℕ) (documents : List (List ℕ)) (config : Config) : Type 0 where
  value : Data
  has : HasValue document value
  one : documents ≡ document ∷ []
  says : config ≡ config_of value

alone_is : (document : List ℕ) (documents : List (List ℕ)) (config : Config) (notes : List ℕ) → StandsAlone document → (x : IsConfigOf documents config notes) → x.document ≡ document → IsAlone document documents config
alone_is document documents config notes alone x same =
    let has : HasValue document x.reads.0 = subst (λ (text : List ℕ). HasValue text x.reads.0) same x.reads.1 in
    let none : files_of x.read.packs ≡ [] = ap (λ (c : Config). files_of c.packs) x.reads.3 ∙ alone x.reads.0 has in
    let packs = no_packs x.texts x.read config notes (subst (λ (files : List PackFile). AddsPacks files x.texts x.read config notes) none x.packs) in
    record {
      value = x.reads.0;
      has = has;
      one = x.are ∙ (ap (λ (texts : List (List ℕ)). x.document ∷ texts) packs.0 ∙ ap (λ (text : List ℕ). text ∷ []) same);
      says = packs.1 ∙ x.reads.3;
    }

pub one_configuration : OneConfiguration
one_configuration document one other config next notes lines alone x y here there =
    let p = alone_is document one config notes alone x here in
    let q = alone_is document other next lines alone y there in
    (p.one ∙ sym q.one, p.says ∙ (ap config_of (value_same document p.value q.value p.has q.has) ∙ sym q.says))
