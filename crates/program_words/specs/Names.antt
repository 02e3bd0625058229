-- The names of options: how each is spelled behind its dashes, and what it takes.
use Rattle.std.specs.Prelude.{ℕ, ◌-◌, ◌^◌, Bool, true, false, bytes_eq, codes, nat_eq, List, [], ◌∷◌}
use Rattle.std.specs.Option.{option_map_or}
use Rattle.std.specs.List.{find}
use Rattle.program_words.specs.declared.name.Name.{Name}
use Rattle.program_words.specs.declared.name.Name.TheVariants.{Config, Host, Platform, Agent, Text, Audit, Changes, Tables, Start, Step, Ticks, Records, Explain, Frames, Ledger, Store, From, Count, Workers, FramesOut, AnswersIn, Other}
use Rattle.program_words.specs.declared.name.Takes.{Takes}
use Rattle.program_words.specs.declared.name.Takes.TheVariants.{Nothing, AnyText, ShortText, Number, Unknown}

-- how each name is spelled
unfoldable pub names : List (List ℕ × Name)
names =
    (codes "config", Config) ∷ (codes "host", Host) ∷ (codes "platform", Platform) ∷ (codes "agent", Agent) ∷ (codes "text", Text)
    ∷ (codes "audit", Audit) ∷ (codes "changes", Changes) ∷ (codes "tables", Tables) ∷ (codes "start", Start) ∷ (codes "step", Step)
    ∷ (codes "ticks", Ticks) ∷ (codes "records", Records) ∷ (codes "explain", Explain)
    ∷ (codes "frames", Frames) ∷ (codes "ledger", Ledger) ∷ (codes "store", Store) ∷ (codes "from", From) ∷ (codes "count", Count)
    ∷ (codes "workers", Workers) ∷ (codes "frames-out", FramesOut) ∷ (codes "answers-in", AnswersIn) ∷ []

-- the name that is spelled so, or Other: no name is shortened
unfoldable pub name_of : List ℕ → Name
name_of text = option_map_or (λ entry. entry.1) (find (λ entry. bytes_eq text entry.0) names) Other

-- what stands behind a name
unfoldable pub takes : Name → Takes
takes Config = AnyText
takes Host = ShortText
takes Platform = AnyText
takes Agent = AnyText
takes Text = AnyText
takes Audit = AnyText
takes Changes = AnyText
takes Tables = AnyText
takes Start = Number 0 (2 ^ 63 - 1)
takes Step = Number 0 604800
takes Ticks = Number 1 1000000
takes Records = Number 1 1000000
takes Explain = Nothing
takes Frames = AnyText
takes Ledger = AnyText
takes Store = AnyText
takes From = Number 0 (2 ^ 63 - 1)
takes Count = Number 1 1000000
takes Workers = Number 1 16
takes FramesOut = AnyText
takes AnswersIn = AnyText
takes Other = Unknown

-- an option that names a source
unfoldable pub is_source : Name → Bool
is_source Audit = true
is_source Changes = true
is_source Tables = true
is_source _ = false

-- each name has its own place
unfoldable pub place : Name → ℕ
place Config = 0
place Host = 1
place Platform = 2
place Agent = 3
place Text = 4
place Audit = 5
place Changes = 6
place Tables = 7
place Start = 8
place Step = 9
place Ticks = 10
place Records = 11
place Explain = 12
place Frames = 13
place Ledger = 14
place Store = 15
place From = 16
place Count = 17
place Workers = 18
place FramesOut = 19
place AnswersIn = 20
place Other = 21

abbrev pub same_name : Name → Name → Bool
same_name a b = nat_eq (place a) (place b)
