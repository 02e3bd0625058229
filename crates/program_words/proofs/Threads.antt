-- The command of words is a session by threads exactly where its word is that of one.
use Rattle.std.proofs.Common.{◌≡◌, ◌∙◌, ℕ, Bool, true, false, cond, List, [], ◌∷◌, Option, Some, None, refl, ap, map, sym, unwrap_or}
use Rattle.std.specs.Prelude.{bytes_eq, codes, option_and_then, slice_get}
use Rattle.std.specs.Borrow.{Bor}
use Rattle.std.specs.Option.{option_map_or}
use Rattle.std.proofs.lemmas.Option.{cond_some}
use Rattle.std.proofs.lemmas.Slice.Eq.{bytes_eq-Decides}
use Rattle.program_words.specs.declared.command.CommandName.{CommandName}
use Rattle.program_words.specs.declared.command.CommandName.TheVariants.{Replay, Daemon, Query, Check, Collect, Generate, SelfTest, Report, Fleet}
use Rattle.program_words.specs.declared.command.CommandWords.{CommandWords}
use Rattle.program_words.specs.Given.{Given, options_of}
use Rattle.program_words.specs.Commands.{are_options, asked_by, by_threads, command_named, command_with, has_refused, is_by_threads, words_of}

abbrev is_daemon : CommandName → Bool
is_daemon Daemon = true
is_daemon _ = false

others : (query check collect generate self_test report fleet : Bool) (name : CommandName)
    → cond query (Some Query) (cond check (Some Check) (cond collect (Some Collect) (cond generate (Some Generate) (cond self_test (Some SelfTest) (cond report (Some Report) (cond fleet (Some Fleet) None)))))) ≡ Some name
    → is_daemon name ≡ false
others true check collect generate self_test report fleet Query is = refl
others false true collect generate self_test report fleet Check is = refl
others false false true generate self_test report fleet Collect is = refl
others false false false true self_test report fleet Generate is = refl
others false false false false true report fleet SelfTest is = refl
others false false false false false true fleet Report is = refl
others false false false false false false true Fleet is = refl
others query check collect generate self_test report fleet _ is = absurd cc

one_name : (a b : CommandName) → Some a ≡ Some b → a ≡ b
one_name a b is = ap (λ o. unwrap_or o a) is

abbrev behind_daemon : List ℕ → Option CommandName
behind_daemon word =
    cond (bytes_eq word (codes "query")) (Some Query) (cond (bytes_eq word (codes "check")) (Some Check) (cond (bytes_eq word (codes "collect")) (Some Collect)
    (cond (bytes_eq word (codes "generate")) (Some Generate) (cond (bytes_eq word (codes "selftest")) (Some SelfTest) (cond (bytes_eq word (codes "report")) (Some Report)
    (cond (bytes_eq word (codes "fleet")) (Some Fleet) None))))))

named_by : (word : List ℕ) (name : CommandName) (replay daemon : Bool) → bytes_eq word (codes "replay") ≡ replay → bytes_eq word (codes "daemon") ≡ daemon
    → cond replay (Some Replay) (cond daemon (Some Daemon) (behind_daemon word)) ≡ Some name → is_daemon name ≡ daemon
named_by word name true daemon is_replay is_daemon_word is =
    ap is_daemon (sym (one_name Replay name is)) ∙ ap (λ w. bytes_eq w (codes "daemon")) (sym ((bytes_eq-Decides word (codes "replay")).0 is_replay)) ∙ is_daemon_word
named_by word name false true is_replay is_daemon_word is = ap is_daemon (sym (one_name Daemon name is))
named_by word name false false is_replay is_daemon_word is = others _ _ _ _ _ _ _ name is

named : (word : List ℕ) (name : CommandName) → command_named word ≡ Some name → is_daemon name ≡ bytes_eq word (codes "daemon")
unfolding command_named
named word name is = named_by word name (bytes_eq word (codes "replay")) (bytes_eq word (codes "daemon")) refl refl is

asked : (name : CommandName) (gs : List Given) → by_threads (asked_by name gs) ≡ is_daemon name
asked Replay gs = refl
asked Daemon gs = refl
asked Query gs = refl
asked Check gs = refl
asked Collect gs = refl
asked Generate gs = refl
asked SelfTest gs = refl
asked Report gs = refl
asked Fleet gs = refl

by_named : (gs : List Given) (word : List ℕ) (found : Option CommandName) → command_named word ≡ found → (command : CommandWords) → option_and_then (command_with gs) found ≡ Some command
    → by_threads command ≡ bytes_eq word (codes "daemon")
by_named gs word None e command is = absurd cc
by_named gs word (Some name) e command is =
    let right = cond_some (are_options name gs) (asked_by name gs) command is in
    sym (ap by_threads right.1) ∙ asked name gs ∙ named word name e

not_refused : (refused : Bool) (found : Option CommandWords) (command : CommandWords) → cond refused None found ≡ Some command → found ≡ Some command
not_refused true found command is = absurd cc
not_refused false found command is = is

pub threads_by_word : (words : List (List ℕ)) (command : CommandWords) → words_of words ≡ Some command → by_threads command ≡ is_by_threads words
unfolding words_of
threads_by_word [] command is = absurd cc
threads_by_word (word ∷ words) command is = by_named (options_of words) word (command_named word) refl command (not_refused (has_refused (word ∷ words)) _ command is)

abbrev pub is_daemon_word : Option (Bor (List ℕ)) → Bool
is_daemon_word first = option_map_or (λ word. bytes_eq word.now (codes "daemon")) first false

pub by_first : (words : List (Bor (List ℕ))) → is_by_threads (map (λ word. word.now) words) ≡ is_daemon_word (slice_get words 0)
by_first [] = refl
by_first (word ∷ words) = refl
