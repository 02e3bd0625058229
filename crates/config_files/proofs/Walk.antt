-- One walk over the packs of a configuration: each stands first of its name, behind those that the walk has passed.
use Rattle.std.proofs.Common.{◌≡◌, ◌≢◌, inl, inr, ℕ, ◌+◌, ◌≤◌, Bool, true, false, List, [], ◌∷◌, ◌++◌, length, refl, sym, ap, ◌∙◌, subst, arith, append-nil, append_assoc, bytes_eq, Option, Some, None, Result, Ok, Err}
use Rattle.std.specs.Prelude.{Contains, IfErr, IsErrAnd}
use Rattle.std.proofs.lemmas.List.Sums.{sum_by-append}
use Rattle.std.proofs.lemmas.Slice.Eq.{bytes_eq-Decides}
use Rattle.serde_json.specs.Data.{Data}
use Rattle.osq_config.specs.declared.config.Config.{Config}
use Rattle.osq_config.specs.declared.config.Pack.{Pack}
use Rattle.osq_config.specs.declared.error.ConfigError.{ConfigError}
use Rattle.osq_config.specs.declared.error.ConfigError.TheVariants.{NoMemory as WantsMemory}
use Rattle.osq_config.specs.declared.file.PackFile.{PackFile}
use Rattle.osq_config.specs.Counts.{packed_count, query_count}
use Rattle.osq_config.specs.Files.{fault_beside, fault_of_file, file_pack, files_of, filled, left_out, refilled}
use Rattle.osq_config.specs.Names.{NamesRise, names_rise, pack_names}
use Rattle.osq_config.specs.Reads.{Answers}
use Rattle.osq_config.proofs.Beside.{refused_alike}
use Rattle.osq_config.proofs.Bounded.{packed_count-cons}
use Rattle.osq_config.proofs.Names.{filled_names, left_names}
use Rattle.osq_config.proofs.Rising.{StandsBefore, before_all, names_differ, tail_rises}
use Rattle.config_files.specs.declared.error.ConfiguredError.{ConfiguredError}
use Rattle.config_files.specs.declared.error.ConfiguredError.TheVariants.{Fault, Missing, Refused, NoMemory}
use Rattle.config_files.specs.Adding.{AddsPack, AddsPacks, HoldsWith, with_packs}
use Rattle.config_files.specs.Naming.{kind_of_error, left_out_line}
use Rattle.config_files.specs.Refusals.{IsUnreadAt, IsUnreadOf}
use Rattle.config_files.specs.Texts.{text_in, texts_in}
use Rattle.config_files.proofs.Packs.{packs_turn, texts_turn}

differs : (name : List ℕ) (front : List Pack) (pack : Pack) (rest : List Pack) → StandsBefore name (pack_names (front ++ pack ∷ rest)) → bytes_eq name pack.name ≡ false
differs name [] pack rest before = names_differ name pack.name before.0
differs name (next ∷ front) pack rest before = differs name front pack rest before.1

same : (name : List ℕ) → bytes_eq name name ≡ true
same name = (bytes_eq-Decides name name).1 refl

-- the walk's pack is the one of its name
filled_there : (front : List Pack) (pack : Pack) (rest : List Pack) (read : Pack) → names_rise (pack_names (front ++ pack ∷ rest)) ≡ true
    → filled pack.name read (front ++ pack ∷ rest) ≡ front ++ refilled pack read ∷ rest
filled_there [] pack rest read rise = rw (same pack.name) refl
filled_there (first ∷ front) pack rest read rise =
    rw (differs first.name front pack rest (before_all first.name (pack_names (front ++ pack ∷ rest)) rise))
    (ap (λ (packs : List Pack). first ∷ packs) (filled_there front pack rest read (tail_rises first.name (pack_names (front ++ pack ∷ rest)) rise)))

left_there : (front : List Pack) (pack : Pack) (rest : List Pack) → names_rise (pack_names (front ++ pack ∷ rest)) ≡ true → left_out pack.name (front ++ pack ∷ rest) ≡ front ++ rest
left_there [] pack rest rise = rw (same pack.name) refl
left_there (first ∷ front) pack rest rise =
    rw (differs first.name front pack rest (before_all first.name (pack_names (front ++ pack ∷ rest)) rise))
    (ap (λ (packs : List Pack). first ∷ packs) (left_there front pack rest (tail_rises first.name (pack_names (front ++ pack ∷ rest)) rise)))

count_there : (front : List Pack) (pack : Pack) (rest : List Pack) → packed_count (front ++ pack ∷ rest) ≡ packed_count front + (length pack.queries + packed_count rest)
count_there front pack rest =
    sum_by-append (λ (pack : Pack). length pack.queries) front (pack ∷ rest) ∙ ap (λ (n : ℕ). packed_count front + n) (packed_count-cons pack rest)

-- the walk's pack is among those that are held
pub within_held : (config : Config) (pack : Pack) (rest : List Pack) (count : ℕ) → HoldsWith config (pack ∷ rest) count → length pack.queries ≤ count
within_held config pack rest count holds =
    let held = holds.held in
    let there = count_there config.packs pack rest in
    omega arith

-- a pack with what its text says
pub added_by : (text : List ℕ) (old : Config) (pack read : Pack) (count next : ℕ) (packs : List Pack) → Answers (fault_beside count) file_pack text (Ok read)
    → next + length pack.queries ≡ count + length read.queries → packs ≡ old.packs ++ refilled pack read ∷ [] → (rest : List Pack) → HoldsWith old (pack ∷ rest) count
    → AddsPack text pack.name (with_packs old (pack ∷ rest)) (with_packs (record old { packs = packs }) rest) [] × HoldsWith (record old { packs = packs }) rest next
added_by text old pack read count next packs (d, has, none, is) moved put rest holds =
    let whole : packs ++ rest ≡ old.packs ++ refilled pack read ∷ rest = ap (λ (ps : List Pack). ps ++ rest) put ∙ append_assoc old.packs (refilled pack read ∷ []) rest in
    let fills : packs ++ rest ≡ filled pack.name read (old.packs ++ pack ∷ rest) = whole ∙ sym (filled_there old.packs pack rest read holds.names) in
    let fits : fault_of_file (with_packs old (pack ∷ rest)) d ≡ None = ap (λ (n : ℕ). fault_beside n d) (sym holds.held) ∙ none in
    let held = holds.held in
    let there = count_there old.packs pack rest in
    let now : packed_count (packs ++ rest) ≡ packed_count old.packs + (length read.queries + packed_count rest) = ap packed_count whole ∙ count_there old.packs (refilled pack read) rest in (
      inl (
        (d, has, fits, refl),
        (d, has, ap (λ (ps : List Pack). record old { packs = ps }) (fills ∙ ap (λ (r : Pack). filled pack.name r (old.packs ++ pack ∷ rest)) is)),
        refl,
      ),
      record {
        names = ap (λ (ps : List Pack). names_rise (pack_names ps)) fills ∙ ap names_rise (filled_names pack.name read (old.packs ++ pack ∷ rest)) ∙ holds.names;
        held = omega arith;
      },
    )

-- a pack that is left out
pub left_by : (text : List ℕ) (old : Config) (pack : Pack) (count next : ℕ) (error : ConfigError) → error ≢ WantsMemory → Answers (fault_beside count) file_pack text (Err error)
    → next + length pack.queries ≡ count → (rest : List Pack) → HoldsWith old (pack ∷ rest) count
    → AddsPack text pack.name (with_packs old (pack ∷ rest)) (with_packs old rest) (left_out_line pack.name (kind_of_error error)) × HoldsWith old rest next
left_by text old pack count next error whole answer moved rest holds =
    let leaves : old.packs ++ rest ≡ left_out pack.name (old.packs ++ pack ∷ rest) = sym (left_there old.packs pack rest holds.names) in
    let before = with_packs old (pack ∷ rest) in
    let told = subst (λ (n : ℕ). Answers (fault_beside n) file_pack text (Err error)) holds.held answer in
    let held = holds.held in
    let there = count_there old.packs pack rest in
    let now = sum_by-append (λ (pack : Pack). length pack.queries) old.packs rest in (
      inr (
        error,
        whole,
        refused_alike {Y = Unit {0}} (fault_of_file before) file_pack (λ _. tt) text error told,
        ap (λ (ps : List Pack). record old { packs = ps }) leaves,
        refl,
      ),
      record {
        names = ap (λ (ps : List Pack). names_rise (pack_names ps)) leaves ∙ left_names pack.name (old.packs ++ pack ∷ rest) holds.names;
        held = omega arith;
      },
    )

-- the files of one pack
files_one : (pack : Pack) (path : List ℕ) → pack.path ≡ Some path → files_of (pack ∷ []) ≡ record { name = pack.name; path = path } ∷ []
files_one pack path is = ap (λ (p : Option (List ℕ)). files_of (record pack { path = p } ∷ [])) is

files_none : (pack : Pack) → pack.path ≡ None → files_of (pack ∷ []) ≡ []
files_none pack is = ap (λ (p : Option (List ℕ)). files_of (record pack { path = p } ∷ [])) is

pub text_one : (file : List ℕ → Option (List ℕ)) (pack : Pack) (path text : List ℕ) → pack.path ≡ Some path → text ≡ text_in (file path) → text ∷ [] ≡ texts_in file (files_of (pack ∷ []))
text_one file pack path text is told = ap (λ (t : List ℕ). t ∷ []) told ∙ sym (ap (texts_in file) (files_one pack path is))

pub text_none : (file : List ℕ → Option (List ℕ)) (pack : Pack) → pack.path ≡ None → [] ≡ texts_in file (files_of (pack ∷ []))
text_none file pack is = sym (ap (texts_in file) (files_none pack is))

pub one_added : (pack : Pack) (path : List ℕ) → pack.path ≡ Some path → (text line : List ℕ) (before after : Config) → AddsPack text pack.name before after line
    → AddsPacks (files_of (pack ∷ [])) (text ∷ []) before after line
one_added pack path is text line before after adds =
    subst (λ (files : List PackFile). AddsPacks files (text ∷ []) before after line) (sym (files_one pack path is)) (after, line, [], adds, (refl, refl), sym (append-nil line))

-- a pack that stands in the configuration itself
pub passed_by : (old : Config) (pack : Pack) (count : ℕ) (packs : List Pack) → pack.path ≡ None → packs ≡ old.packs ++ pack ∷ [] → (rest : List Pack) → HoldsWith old (pack ∷ rest) count
    → AddsPacks (files_of (pack ∷ [])) [] (with_packs old (pack ∷ rest)) (with_packs (record old { packs = packs }) rest) [] × HoldsWith (record old { packs = packs }) rest count
passed_by old pack count packs is put rest holds =
    let whole : packs ++ rest ≡ old.packs ++ pack ∷ rest = ap (λ (ps : List Pack). ps ++ rest) put ∙ append_assoc old.packs (pack ∷ []) rest in (
      subst (λ (files : List PackFile). AddsPacks files [] (with_packs old (pack ∷ rest)) (with_packs (record old { packs = packs }) rest) []) (sym (files_none pack is))
          (ap (λ (ps : List Pack). record old { packs = ps }) whole, refl),
      record {
        names = ap (λ (ps : List Pack). names_rise (pack_names ps)) whole ∙ holds.names;
        held = holds.held ∙ ap (λ (ps : List Pack). query_count old.schedule ps) (sym whole);
      },
    )

pub unread_one : (pack : Pack) (path : List ℕ) → pack.path ≡ Some path → (failed : Type 0) (error : ConfiguredError) → IsUnreadAt path failed error → IsUnreadOf (files_of (pack ∷ [])) failed error
unread_one pack path is failed (Fault file) unread =
    let here : PackFile = record { name = pack.name; path = path } in
    (unread.0, (here, subst (λ (files : List PackFile). Contains files here) (sym (files_one pack path is)) (0, omega arith, refl), unread.1))
unread_one pack path is failed Missing unread = absurd unread
unread_one pack path is failed (Refused fault) unread = absurd unread
unread_one pack path is failed NoMemory unread = tt

-- an error that is passed on
pub passed_error : {T : Type 0} (P : ConfiguredError → Type 0) (error : ConfiguredError) (r : Result T ConfiguredError) → IsErrAnd r (λ passed. passed ≡ error) → P error → IfErr r P
passed_error P error (Ok x) same holds = tt
passed_error P error (Err passed) same holds = subst P (sym same) holds

-- where the walk stands: what it has added, and what is left of the packs
pub record IsWalked (files_tell : Type 0) (file : List ℕ → Option (List ℕ)) (old now : Config) (passed rest : List Pack) (count : ℕ) (documents kept : List (List ℕ)) (notes told : List ℕ) : Type 0 where
  pub texts : List (List ℕ)
  pub lines : List ℕ
  pub adds : AddsPacks (files_of passed) texts old (with_packs now rest) lines
  pub texts_are : files_tell → texts ≡ texts_in file (files_of passed)
  pub documents_are : kept ≡ documents ++ texts
  pub notes_are : told ≡ notes ++ lines
  pub holds : HoldsWith now rest count

pub walk_begins : (files_tell : Type 0) (file : List ℕ → Option (List ℕ)) (old : Config) (count : ℕ) (documents : List (List ℕ)) (notes : List ℕ)
    → NamesRise old → count ≡ query_count old.schedule old.packs → IsWalked files_tell file old (record old { packs = [] }) [] old.packs count documents documents notes notes
walk_begins files_tell file old count documents notes rise held = record {
  texts = [];
  lines = [];
  adds = (refl, refl);
  texts_are = λ tells. refl;
  documents_are = sym (append-nil documents);
  notes_are = sym (append-nil notes);
  holds = record { names = rise.packs; held = held };
}

pub walk_goes_on : (files_tell : Type 0) (before now : List ℕ → Option (List ℕ)) (old middle new : Config) (passed : List Pack) (pack : Pack) (rest : List Pack) (count next : ℕ) (documents kept more : List (List ℕ)) (notes told line : List ℕ)
    → (files_tell → (path : List ℕ) → now path ≡ before path)
    → IsWalked files_tell before old middle passed (pack ∷ rest) count documents kept notes told
    → (texts : List (List ℕ)) (lines : List ℕ)
    → ((rest : List Pack) → HoldsWith middle (pack ∷ rest) count → AddsPacks (files_of (pack ∷ [])) texts (with_packs middle (pack ∷ rest)) (with_packs new rest) lines × HoldsWith new rest next)
    → (files_tell → texts ≡ texts_in now (files_of (pack ∷ []))) → more ≡ kept ++ texts → line ≡ told ++ lines
    → IsWalked files_tell before old new (passed ++ pack ∷ []) rest next documents more notes line
walk_goes_on files_tell before now old middle new passed pack rest count next documents kept more notes told line same walked texts lines adds texts_are documents_are notes_are =
    let step = adds rest walked.holds in
    record {
      texts = walked.texts ++ texts;
      lines = walked.lines ++ lines;
      adds = packs_turn passed pack walked.texts texts old (with_packs middle (pack ∷ rest)) (with_packs new rest) walked.lines lines walked.adds step.0;
      texts_are = λ tells. texts_turn before now passed pack walked.texts texts (same tells) (walked.texts_are tells) (texts_are tells);
      documents_are = documents_are ∙ ap (λ (ts : List (List ℕ)). ts ++ texts) walked.documents_are ∙ append_assoc documents walked.texts texts;
      notes_are = notes_are ∙ ap (λ (ls : List ℕ). ls ++ lines) walked.notes_are ∙ append_assoc notes walked.lines lines;
      holds = step.1;
    }

-- all packs are passed
pub walk_ends : (files_tell : Type 0) (file : List ℕ → Option (List ℕ)) (old now : Config) (passed rest : List Pack) (count : ℕ) (documents kept : List (List ℕ)) (notes told : List ℕ)
    → IsWalked files_tell file old now passed rest count documents kept notes told → rest ≡ [] → old.packs ≡ passed ++ rest
    → (texts : List (List ℕ)) × (lines : List ℕ) × AddsPacks (files_of old.packs) texts old now lines × (files_tell → texts ≡ texts_in file (files_of old.packs)) × (kept ≡ documents ++ texts) × (told ≡ notes ++ lines)
walk_ends files_tell file old now passed rest count documents kept notes told walked none all =
    let whole : passed ≡ old.packs = sym (all ∙ ap (λ (ps : List Pack). passed ++ ps) none ∙ append-nil passed) in
    let last : with_packs now rest ≡ now = ap (λ (ps : List Pack). record now { packs = ps }) (ap (λ (ps : List Pack). now.packs ++ ps) none ∙ append-nil now.packs) in (
      walked.texts,
      walked.lines,
      subst (λ (config : Config). AddsPacks (files_of old.packs) walked.texts old config walked.lines) last
          (subst (λ (ps : List Pack). AddsPacks (files_of ps) walked.texts old (with_packs now rest) walked.lines) whole walked.adds),
      λ tells. walked.texts_are tells ∙ ap (λ (ps : List Pack). texts_in file (files_of ps)) whole,
      walked.documents_are,
      walked.notes_are,
    )
