-- What a reader answers.
use Rattle.std.specs.Prelude.{◌≡◌, ℕ, List, Option, Some, None, Result, Ok, Err}
use Rattle.serde_json.specs.Data.{Data}
use Rattle.serde_json.specs.View.{view}
use Rattle.serde_json.specs.declared.value.Value.{Value as Json}
use Rattle.osq_config.specs.Documents.{HasValue}
use Rattle.osq_config.specs.declared.error.ConfigError.{ConfigError}
use Rattle.osq_config.specs.declared.error.ConfigError.TheVariants.{NotJson, WrongShape, OutOfRange, TooManyQueries, NoMemory}

-- the error is the fault, or memory was wanting; a value is JSON already
abbrev pub Faults : Option ConfigError → ConfigError → Type 0
Faults fault NotJson = ⊥
Faults fault (WrongShape key) = fault ≡ Some (WrongShape key)
Faults fault (OutOfRange key) = fault ≡ Some (OutOfRange key)
Faults fault TooManyQueries = fault ≡ Some TooManyQueries
Faults fault NoMemory = Unit {0}

-- the value where there is no fault, and the fault where there is one
abbrev pub Reads : {X : Type 0} → Option ConfigError → X → Result X ConfigError → Type 0
Reads fault value (Ok x) = (fault ≡ None) × (x ≡ value)
Reads fault value (Err error) = Faults fault error

-- the value of a document, or that it has none
abbrev pub ReadsDocument : List ℕ → Result Json ConfigError → Type 0
ReadsDocument document (Ok json) = HasValue document (view json)
ReadsDocument document (Err NotJson) = (value : Data) → HasValue document value → ⊥
ReadsDocument document (Err (WrongShape key)) = ⊥
ReadsDocument document (Err (OutOfRange key)) = ⊥
ReadsDocument document (Err TooManyQueries) = ⊥
ReadsDocument document (Err NoMemory) = Unit {0}

-- What a reader of documents answers: the value of a document without a fault, and the fault of every other.
abbrev pub Answers : {X : Type 0} → (Data → Option ConfigError) → (Data → X) → List ℕ → Result X ConfigError → Type 0
Answers fault value document (Ok x) = (d : Data) × HasValue document d × (fault d ≡ None) × (x ≡ value d)
Answers fault value document (Err NotJson) = (d : Data) → HasValue document d → ⊥
Answers fault value document (Err (WrongShape key)) = (d : Data) × HasValue document d × (fault d ≡ Some (WrongShape key))
Answers fault value document (Err (OutOfRange key)) = (d : Data) × HasValue document d × (fault d ≡ Some (OutOfRange key))
Answers fault value document (Err TooManyQueries) = (d : Data) × HasValue document d × (fault d ≡ Some TooManyQueries)
Answers fault value document (Err NoMemory) = Unit {0}
