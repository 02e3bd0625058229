use Rattle.std.proofs.Common.{◌<◌, ℕ, suc, List, [], ◌∷◌, get_or}
use Rattle.std.specs.List.{AllByRecursion}
use Rattle.batch_forwarder.proofs.polling.held_digest.Goals as goal

all_bytes : (bytes : List ℕ) → ((place : ℕ) → get_or bytes place 0 < 256) → AllByRecursion (λ (byte : ℕ). byte < 256) bytes
all_bytes [] fit = tt
all_bytes (byte ∷ bytes) fit = (fit 0, all_bytes bytes (λ place. fit (suc place)))

pub returns : goal.returns
returns c = record { size = c.requires; bytes = all_bytes c.args.digest.now (λ place. (c.type_inv.digest place).fits) }
