-- From the packs of some files to those of all.
use Rattle.std.proofs.Common.{◌≡◌, inl, inr, ℕ, List, [], ◌∷◌, ◌++◌, refl, sym, ap, ◌∙◌, subst, append-nil, append_assoc, Option, Some, None, Ok}
use Rattle.std.specs.Prelude.{Contains}
use Rattle.std.proofs.lemmas.List.{map-append}
use Rattle.std.proofs.lemmas.List.Elements.{Contains-append_left, Contains-append_right, filter_map-append}
use Rattle.osq_config.specs.declared.config.Config.{Config}
use Rattle.osq_config.specs.declared.config.Pack.{Pack}
use Rattle.osq_config.specs.declared.file.PackFile.{PackFile}
use Rattle.osq_config.specs.Counts.{fault_of_config}
use Rattle.osq_config.specs.Files.{file_of, file_pack, files_of}
use Rattle.osq_config.specs.Names.{NamesRise}
use Rattle.osq_config.specs.Reads.{Answers}
use Rattle.osq_config.specs.Values.{config_of}
use Rattle.osq_config.proofs.Names.{filled_rises, left_rises}
use Rattle.config_files.specs.declared.error.ConfiguredError.{ConfiguredError}
use Rattle.config_files.specs.declared.error.ConfiguredError.TheVariants.{Fault, Missing, Refused, NoMemory}
use Rattle.config_files.specs.Adding.{AddsPack, AddsPacks}
use Rattle.config_files.specs.Configurations.{IsConfigured}
use Rattle.config_files.specs.Refusals.{IsUnreadOf}
use Rattle.config_files.specs.Texts.{text_in, texts_in}

-- the packs of some files, and then those of more
adds_more : (packs more : List PackFile) (texts others : List (List ℕ)) (before middle after : Config) (lines rest : List ℕ)
    → AddsPacks packs texts before middle lines → AddsPacks more others middle after rest → AddsPacks (packs ++ more) (texts ++ others) before after (lines ++ rest)
adds_more [] more [] others before middle after lines rest none adds =
    subst (λ (c : Config). AddsPacks more others c after (lines ++ rest)) none.0 (subst (λ (ls : List ℕ). AddsPacks more others middle after (ls ++ rest)) (sym none.1) adds)
adds_more [] more (other ∷ texts) others before middle after lines rest none adds = absurd none
adds_more (first ∷ packs) more [] others before middle after lines rest none adds = absurd none
adds_more (first ∷ packs) more (text ∷ texts) others before middle after lines rest all adds = (
  all.0,
  all.1,
  all.2 ++ rest,
  all.3,
  adds_more packs more texts others all.0 middle after all.2 rest all.4 adds,
  ap (λ (l : List ℕ). l ++ rest) all.5 ∙ append_assoc all.1 all.2 rest,
)

-- one pack more of the walk over all
files_more : (packs : List Pack) (pack : Pack) → files_of (packs ++ pack ∷ []) ≡ files_of packs ++ files_of (pack ∷ [])
files_more packs pack = filter_map-append file_of packs (pack ∷ [])

pub packs_turn : (packs : List Pack) (pack : Pack) (texts more : List (List ℕ)) (old middle new : Config) (lines rest : List ℕ)
    → AddsPacks (files_of packs) texts old middle lines → AddsPacks (files_of (pack ∷ [])) more middle new rest → AddsPacks (files_of (packs ++ pack ∷ [])) (texts ++ more) old new (lines ++ rest)
packs_turn packs pack texts more old middle new lines rest added adds =
    subst (λ (files : List PackFile). AddsPacks files (texts ++ more) old new (lines ++ rest)) (sym (files_more packs pack))
    (adds_more (files_of packs) (files_of (pack ∷ [])) texts more old middle new lines rest added adds)

texts_before : (before now : List ℕ → Option (List ℕ)) → ((path : List ℕ) → now path ≡ before path) → (packs : List PackFile) → texts_in now packs ≡ texts_in before packs
texts_before before now same [] = refl
texts_before before now same (pack ∷ packs) =
    ap (λ (t : List ℕ). t ∷ texts_in now packs) (ap text_in (same pack.path)) ∙ ap (λ (ts : List (List ℕ)). text_in (before pack.path) ∷ ts) (texts_before before now same packs)

-- The texts of the files before and at this turn, where the files are as they were at the beginning.
pub texts_turn : (before now : List ℕ → Option (List ℕ)) (packs : List Pack) (pack : Pack) (texts more : List (List ℕ)) → ((path : List ℕ) → now path ≡ before path)
    → texts ≡ texts_in before (files_of packs) → more ≡ texts_in now (files_of (pack ∷ [])) → texts ++ more ≡ texts_in before (files_of (packs ++ pack ∷ []))
texts_turn before now packs pack texts more same earlier told =
    ap (λ (ts : List (List ℕ)). ts ++ more) earlier
    ∙ ap (λ (ts : List (List ℕ)). texts_in before (files_of packs) ++ ts) (told ∙ texts_before before now same (files_of (pack ∷ [])))
    ∙ sym (ap (texts_in before) (files_more packs pack) ∙ map-append (λ (file : PackFile). text_in (before file.path)) (files_of packs) (files_of (pack ∷ [])))

-- a file of the pack of this turn is one of all packs' files
pub unread_turn : (packs : List Pack) (pack : Pack) (rest : List Pack) (failed later : Type 0) (error : ConfiguredError) → (failed → later)
    → IsUnreadOf (files_of (pack ∷ [])) failed error → IsUnreadOf (files_of (packs ++ pack ∷ rest)) later error
unread_turn packs pack rest failed later (Fault file) more is =
    let (file_of_pack, among, same) = is.1 in
    let all : files_of (packs ++ pack ∷ rest) ≡ files_of packs ++ (files_of (pack ∷ []) ++ files_of rest) =
    filter_map-append file_of packs (pack ∷ rest) ∙ ap (λ (files : List PackFile). files_of packs ++ files) (filter_map-append file_of (pack ∷ []) rest) in (
      more is.0,
      (
        file_of_pack,
        subst (λ (files : List PackFile). Contains files file_of_pack) (sym all)
            (Contains-append_right (files_of packs) (files_of (pack ∷ []) ++ files_of rest) file_of_pack (Contains-append_left (files_of (pack ∷ [])) (files_of rest) file_of_pack among)),
        same,
      ),
    )
unread_turn packs pack rest failed later Missing more is = absurd is
unread_turn packs pack rest failed later (Refused fault) more is = absurd is
unread_turn packs pack rest failed later NoMemory more is = tt

-- the names rise as before
pub adds_rise : (packs : List PackFile) (texts : List (List ℕ)) (before after : Config) (lines : List ℕ) → AddsPacks packs texts before after lines → NamesRise before → NamesRise after
adds_rise [] [] before after lines none rise = subst NamesRise (sym none.0) rise
adds_rise [] (text ∷ texts) before after lines none rise = absurd none
adds_rise (pack ∷ packs) [] before after lines none rise = absurd none
adds_rise (pack ∷ packs) (text ∷ texts) before after lines all rise = adds_rise packs texts all.0 after all.2 all.4 (by all.0 all.3) where
  by : (next : Config) → AddsPack text pack.name before next all.1 → NamesRise next
  by next (inl (answer, (d, has, is), line)) = subst NamesRise (sym is) (filled_rises before pack.name text d has rise)
  by next (inr (error, whole, answer, is, line)) = subst NamesRise (sym is) (left_rises before pack.name rise)

-- the configuration with the packs of its files
pub configured_by : (files_tell : Type 0) (before now : List ℕ → Option (List ℕ)) → (files_tell → (path : List ℕ) → now path ≡ before path)
    → (path document : List ℕ) → (files_tell → before path ≡ Some document) → (read config : Config) → Answers fault_of_config config_of document (Ok read)
    → (packs : List PackFile) → packs ≡ files_of read.packs → (texts : List (List ℕ)) (lines : List ℕ) → AddsPacks packs texts read config lines → (files_tell → texts ≡ texts_in now packs)
    → (documents : List (List ℕ)) (notes : List ℕ) → documents ≡ document ∷ texts → notes ≡ lines → IsConfigured files_tell before path config documents notes
configured_by files_tell before now same path document found read config reads packs are texts lines adds held documents notes kept told =
    record {
      holds = record {
        document = document;
        texts = texts;
        are = kept;
        read = read;
        reads = reads;
        packs = subst (λ (ps : List PackFile). AddsPacks ps texts read config notes) are (subst (λ (ls : List ℕ). AddsPacks packs texts read config ls) (sym told) adds);
      };
      found = found;
      told = λ tells. held tells ∙ texts_before before now (same tells) packs ∙ ap (texts_in before) are;
    }
