-- What is accepted isn't refused.
use Rattle.std.proofs.Common.{◌≡◌, ◌≢◌, inl, inr, ℕ, List, Option, Some, None, Ok, Err, refl, sym, ap, subst, ◌∙◌}
use Rattle.serde_json.specs.Data.{Data}
use Rattle.osq_config.specs.declared.config.Config.{Config}
use Rattle.osq_config.specs.declared.error.ConfigError.{ConfigError}
use Rattle.osq_config.specs.declared.error.ConfigError.TheVariants.{NotJson, WrongShape, OutOfRange, TooManyQueries, NoMemory}
use Rattle.osq_config.specs.Counts.{fault_of_config}
use Rattle.osq_config.specs.Documents.{HasValue}
use Rattle.osq_config.specs.Reads.{Answers}
use Rattle.osq_config.specs.Values.{config_of}
use Rattle.config_files.specs.Configurations.{IsConfigured}
use Rattle.sql_texts.specs.TextFaults.{text_fault}
use Rattle.osq_program.specs.Checking.{IsRefusedFor}
use Rattle.osq_program.specs.Querying.{IsRefusedAt}
use Rattle.osq_program.specs.Watching.{IsRefusedIn, Watches}

pub some_same : {X : Type 0} → {x y : X} → Some x ≡ Some y → x ≡ y
some_same e = cc

pub none_some : {X : Type 0} → {x : X} → {o : Option X} → o ≡ None → o ≡ Some x → ⊥
none_some none some = cc

-- a document has one value
one_value : (document : List ℕ) (a b : Data) → HasValue document a → HasValue document b → a ≡ b
one_value document a b first second = some_same (sym first.is_json ∙ second.is_json)

-- a document without a fault has none
no_fault : (document : List ℕ) (read : Config) (error : ConfigError) → Answers {X = Config} fault_of_config config_of document (Ok read) → error ≢ NoMemory → Answers {X = Config} fault_of_config config_of document (Err error) → ⊥
no_fault document read NotJson (d, has, none, is) whole faults = faults d has
no_fault document read (WrongShape key) (d, has, none, is) whole (e, its, some) = none_some none (ap fault_of_config (one_value document d e has its) ∙ some)
no_fault document read (OutOfRange key) (d, has, none, is) whole (e, its, some) = none_some none (ap fault_of_config (one_value document d e has its) ∙ some)
no_fault document read TooManyQueries (d, has, none, is) whole (e, its, some) = none_some none (ap fault_of_config (one_value document d e has its) ∙ some)
no_fault document read NoMemory accepted whole faults = whole refl

module _ (files_tell : Type 0) (file : List ℕ → Option (List ℕ)) (told : files_tell) where
  pub not_refused : (path kind key : List ℕ) (config : Config) (documents : List (List ℕ)) (notes : List ℕ) → IsConfigured files_tell file path config documents notes → IsRefusedFor files_tell file path kind key → ⊥
  not_refused path kind key config documents notes accepted (inl (missing, kind_is, key_is)) = none_some (missing told) (accepted.found told)
  not_refused path kind key config documents notes accepted (inr faulty) =
      let same = some_same (sym (accepted.found told) ∙ faulty.faulty.found told) in
      no_fault faulty.faulty.document accepted.holds.read faulty.error (subst (λ (document : List ℕ). Answers {X = Config} fault_of_config config_of document (Ok accepted.holds.read)) same accepted.holds.reads) faulty.faulty.whole faulty.faulty.faults

  -- where a configuration is named
  pub not_refused_in : (config : Option (List ℕ)) (kind key : List ℕ) → Watches files_tell file config → IsRefusedIn files_tell file config kind key → ⊥
  not_refused_in None kind key watched refused = refused
  not_refused_in (Some path) kind key watched refused = not_refused path kind key watched.are.config watched.are.documents watched.notes watched.are.configured refused

-- a text that is a query has no fault
pub no_text_fault : (text : List ℕ) (place : ℕ) (kind : List ℕ) → text_fault text ≡ None → IsRefusedAt text place kind → ⊥
no_text_fault text place kind none (fault, some, at, named) = none_some none some
