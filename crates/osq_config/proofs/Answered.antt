-- From the reader of a value to the reader of a document.
use Rattle.std.proofs.Common.{ℕ, List, Option}
use Rattle.std.specs.Prelude.{Result, Ok, Err}
use Rattle.serde_json.specs.Data.{Data}
use Rattle.osq_config.specs.declared.error.ConfigError.{ConfigError}
use Rattle.osq_config.specs.declared.error.ConfigError.TheVariants.{NotJson, WrongShape, OutOfRange, TooManyQueries, NoMemory}
use Rattle.osq_config.specs.Documents.{HasValue}
use Rattle.osq_config.specs.Reads.{Answers, Reads, ReadsDocument}

pub answered : {X : Type 0} → (fault : Data → Option ConfigError) (value : Data → X) (document : List ℕ) (d : Data) (r : Result X ConfigError) → HasValue document d → Reads (fault d) (value d) r → Answers fault value document r
answered fault value document d (Ok x) has reads = (d, has, reads.0, reads.1)
answered fault value document d (Err NotJson) has reads = absurd reads
answered fault value document d (Err (WrongShape key)) has reads = (d, has, reads)
answered fault value document d (Err (OutOfRange key)) has reads = (d, has, reads)
answered fault value document d (Err TooManyQueries) has reads = (d, has, reads)
answered fault value document d (Err NoMemory) has reads = tt

-- a document without a value
pub unread : {X : Type 0} → (fault : Data → Option ConfigError) (value : Data → X) (document : List ℕ) (error : ConfigError) → ReadsDocument document (Err error) → Answers fault value document (Err error)
unread fault value document NotJson none = none
unread fault value document (WrongShape key) none = absurd none
unread fault value document (OutOfRange key) none = absurd none
unread fault value document TooManyQueries none = absurd none
unread fault value document NoMemory none = tt
