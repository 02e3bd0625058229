use Rattle.std.proofs.Common.{ℕ, ◌<◌, ◌^◌, List, ◌++◌, codes, refl, ap}
use Rattle.std.specs.Fmt.{decimal}
use Rattle.std.specs.Str.{IsUtf8}
use Rattle.result_batches.specs.Json.{quoted}
use Rattle.batch_frames.specs.Parts.{sender_part}
use Rattle.batch_frames.proofs.Sequences.{both_taken}
use Rattle.batch_frames.proofs.parts.take_sender.Goals as goal

pub returns : goal.returns
unfolding sender_part
returns c = λ sender behind held ended is.
    let taken = both_taken (λ (v : List ℕ). codes "{\"frame\":1,\"host\":" ++ quoted v) IsUtf8 (λ (n : ℕ). codes ",\"number\":" ++ decimal n) (λ (n : ℕ). n < 2 ^ 64) _ _ _ _ _ (λ _ _. refl) c.in_ok-host.ensures c.in_ok-number.ensures (sender.host, sender.number) behind (held.host, held.number) ended is in
    (ap (λ (p : List ℕ × ℕ). record { host = p.0; number = p.1 }) taken.0, taken.1)
