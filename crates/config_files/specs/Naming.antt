-- How the error of a document is called, and what is told of a pack that is left out by it.
use Rattle.std.specs.Prelude.{ℕ, List, [], ◌++◌, codes}
use Rattle.control_escapes.specs.Escapes.{escaped_controls}
use Rattle.osq_config.specs.declared.error.ConfigError.{ConfigError}
use Rattle.osq_config.specs.declared.error.ConfigError.TheVariants.{NotJson, WrongShape, OutOfRange, TooManyQueries, NoMemory}

abbrev pub kind_of_error : ConfigError → List ℕ
kind_of_error NotJson = codes "NotJson"
kind_of_error (WrongShape key) = codes "WrongShape"
kind_of_error (OutOfRange key) = codes "OutOfRange"
kind_of_error TooManyQueries = codes "TooManyQueries"
kind_of_error NoMemory = codes "NoMemory"

abbrev pub key_of_error : ConfigError → List ℕ
key_of_error NotJson = []
key_of_error (WrongShape key) = key
key_of_error (OutOfRange key) = key
key_of_error TooManyQueries = []
key_of_error NoMemory = []

-- the line for a pack that is left out, whose name ends no line
abbrev pub left_out_line : List ℕ → List ℕ → List ℕ
left_out_line name kind = codes "osqd: pack " ++ escaped_controls name ++ codes " left out: " ++ kind ++ codes "\n"
