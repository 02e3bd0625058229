-- The lines of the status stream.
use Rattle.std.specs.Prelude.{◌≡◌, ◌⊎◌, ℕ, ◌+◌, nat_lt, if◌then◌else◌, List, ◌++◌, take, Option, Some, None, codes}
use Rattle.std.specs.Fmt.{decimal}
use Rattle.control_escapes.specs.Escapes.{escaped_controls}
use Rattle.program_words.specs.declared.error.WordsError.{WordsError}
use Rattle.program_words.specs.declared.error.WordsError.TheVariants as words
use Rattle.replay_rounds.specs.declared.refused.Numbers.{Numbers}
use Rattle.osq_program.specs.declared.status.Status.{Status}
use Rattle.osq_program.specs.declared.status.Status.TheVariants.{Ok as Done, Usage, FilesFault, ConfigRefused, KeeperFault, KeeperRefused, MomentTooLarge, SourceFault, SourceShrank, NumbersSpent, SinkFault, TicksSpent, QueryRefused, OutOfMemory}
use Rattle.osq_program.specs.Answers.{status_number}

abbrev pub usage_text : List ℕ
usage_text = codes "usage: osqd COMMAND [OPTIONS]\n"

-- a file can't be read
abbrev pub unread_line : List ℕ → List ℕ
unread_line file = codes "osqd: file " ++ escaped_controls file ++ codes " can't be read\n"

-- of so many batches the first that the collector has not acknowledged, or 0
abbrev pub next_of : ℕ → ℕ → ℕ
next_of acked batches = if nat_lt acked batches then acked + 1 else 0

-- the last line of a run: its status's number, the numbers of the kept list, and how often the link failed
abbrev pub final_line : ℕ → Numbers → ℕ → List ℕ
final_line number kept faults =
    codes "osqd: done " ++ decimal number ++ codes " events=" ++ decimal kept.events ++ codes " batches=" ++ decimal kept.batches
    ++ codes " acknowledged=" ++ decimal kept.acknowledged ++ codes " next=" ++ decimal (next_of kept.acknowledged kept.batches)
    ++ codes " linkfaults=" ++ decimal faults ++ codes "\n"

-- a configuration is refused, for this kind of reason, at this key
abbrev pub refused_line : List ℕ → List ℕ → List ℕ
refused_line kind key = codes "osqd: status 2 ConfigRefused kind=" ++ kind ++ codes " key=" ++ escaped_controls key ++ codes "\n"

-- a source ended before the bytes that are kept of it
abbrev pub shrank_line : List ℕ → ℕ → ℕ → List ℕ
shrank_line source kept found =
    codes "osqd: status 6 SourceShrank source=" ++ escaped_controls source ++ codes " kept=" ++ decimal kept ++ codes " found=" ++ decimal found ++ codes "\n"

-- a source failed
abbrev pub failed_line : List ℕ → List ℕ
failed_line source = codes "osqd: status 7 SourceFault source=" ++ escaped_controls source ++ codes "\n"

-- the clock gave a moment that is too large
abbrev pub late_line : ℕ → List ℕ
late_line moment = codes "osqd: status 9 MomentTooLarge moment=" ++ decimal moment ++ codes "\n"

-- a text is refused at this place, by this kind of fault
abbrev pub fault_line : ℕ → List ℕ → List ℕ
fault_line place kind = codes "osqd: status 12 QueryRefused place=" ++ decimal place ++ codes " kind=" ++ kind ++ codes "\n"

-- the line of each status: its number, its name, and what it carries
abbrev pub refusal_line : Status → List ℕ
refusal_line Done = codes "osqd: status 0 Ok\n"
refusal_line (ConfigRefused kind key) = refused_line kind.now key
refusal_line FilesFault = codes "osqd: status 3 FilesFault\n"
refusal_line KeeperFault = codes "osqd: status 4 KeeperFault\n"
refusal_line KeeperRefused = codes "osqd: status 5 KeeperRefused\n"
refusal_line (SourceShrank source kept found) = shrank_line source kept found
refusal_line (SourceFault source) = failed_line source
refusal_line SinkFault = codes "osqd: status 8 SinkFault\n"
refusal_line (MomentTooLarge moment) = late_line moment
refusal_line NumbersSpent = codes "osqd: status 10 NumbersSpent\n"
refusal_line TicksSpent = codes "osqd: status 11 TicksSpent\n"
refusal_line (QueryRefused place kind) = fault_line place kind.now
refusal_line OutOfMemory = codes "osqd: status 20 OutOfMemory\n"
refusal_line Usage = codes "osqd: status 64 Usage\n"

-- the status carries something
abbrev pub HasFields : Status → Type 0
HasFields (ConfigRefused kind key) = Unit {0}
HasFields (SourceShrank source kept found) = Unit {0}
HasFields (SourceFault source) = Unit {0}
HasFields (MomentTooLarge moment) = Unit {0}
HasFields (QueryRefused place kind) = Unit {0}
HasFields status = ⊥

-- The answer to a refusal is that, or want of memory where the line of what it carries wanted some.
abbrev pub IsRefusedAs : Status → Status → Type 0
IsRefusedAs refused status = (status ≡ refused) ⊎ (HasFields refused × (status ≡ OutOfMemory))

-- a file of this path can't be read, or memory was wanting to tell so
abbrev pub IsUnread : Status → Type 0
IsUnread status = (status ≡ FilesFault) ⊎ (status ≡ OutOfMemory)

abbrev pub unread_text : List ℕ → Status → List ℕ
unread_text file FilesFault = unread_line file ++ refusal_line FilesFault
unread_text file status = refusal_line status

-- the text was written, or by a fault that was counted a front part of it
abbrev pub Tells : (failed : Type 0) → (before after text : List ℕ) → Type 0
Tells failed before after text = (after ≡ before ++ text) ⊎ (failed × ((count : ℕ) × (after ≡ before ++ take count text)))

-- The end of a session over a loaded list: the line of its refusal and the final line; or, where memory was wanting for these, that of this want.
abbrev pub EndsAs : (before after : List ℕ) (refused : Status) → Status → Numbers → (faults : ℕ) → Type 0
EndsAs before after refused status kept faults =
    ((status ≡ refused) × (after ≡ before ++ (refusal_line refused ++ final_line (status_number refused) kept faults)))
    ⊎ ((status ≡ OutOfMemory) × (after ≡ before ++ refusal_line status))

-- where it has no numbers, the line of its refusal alone
abbrev pub TellsStop : (failed : Type 0) → (before after : List ℕ) (refused : Status) → Status → Option Numbers → (faults : ℕ) → Type 0
TellsStop failed before after refused status None faults = IsRefusedAs refused status × Tells failed before after (refusal_line status)
TellsStop failed before after refused status (Some kept) faults = EndsAs before after refused status kept faults ⊎ failed

-- the answer to words that give no command, and what is told of it
abbrev pub status_of : WordsError → Status
status_of words.Usage = Usage
status_of words.NoMemory = OutOfMemory

abbrev pub words_text : WordsError → List ℕ
words_text words.Usage = usage_text
words_text words.NoMemory = refusal_line OutOfMemory
