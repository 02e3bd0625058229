-- Two options of different names change places.
use Rattle.std.proofs.Common.{◌≡◌, ℕ, ◌&&◌, ◌||◌, not, Bool, true, false, cond, nat_eq, nat_le, List, [], ◌∷◌, ◌++◌, Option, Some, None, refl, ap, sym, ◌∙◌, arith, map, unwrap_or}
use Rattle.std.specs.Prelude.{bytes_eq, option_and_then}
use Rattle.std.specs.List.{list_any}
use Rattle.std.proofs.lemmas.Bool.Decides.{nat_tests, same_from_decides}
use Rattle.std.proofs.lemmas.Slice.Eq.{bytes_eq-Decides}
use Rattle.program_words.specs.declared.name.Name.{Name}
use Rattle.program_words.specs.declared.name.Name.TheVariants.{Config, Host, Platform, Agent, Text, Audit, Changes, Tables, Start, Step, Ticks, Records, Explain, Frames, Ledger, Store, From, Count, Workers, FramesOut, AnswersIn}
use Rattle.program_words.specs.declared.command.CommandName.{CommandName}
use Rattle.program_words.specs.declared.command.CommandName.TheVariants.{Replay, Daemon, Query, Check, Collect, Generate, SelfTest, Report, Fleet}
use Rattle.program_words.specs.declared.command.CommandWords.TheVariants.{Replay as AsReplay, Daemon as AsDaemon, Query as AsQuery, Check as AsCheck, Collect as AsCollect, Generate as AsGenerate, SelfTest as AsSelfTest, Report as AsReport, Fleet as AsFleet}
use Rattle.osq_value.specs.declared.source.SourceKind.{SourceKind}
use Rattle.osq_value.specs.declared.source.SourceKind.TheVariants.{Audit as AuditLog, Changes as ChangeList, Tables as TableLines}
use Rattle.program_words.specs.Names.{is_source, place, same_name, takes}
use Rattle.program_words.specs.Given.{Given, is_named, none_repeats, number_of, number_or, number_taken, repeats, same_value, stands, value_of, value_or}
use Rattle.program_words.specs.Commands.{are_options, asked_by, check_of, collect_of, daemon_of, command_with, default_agent, default_platform, fleet_of, generate_of, has_few_sources, has_required, has_whole_link, is_right, link_by, link_of, query_of, replay_of, report_of, required, sources_named, sources_of}
use Rattle.program_words.specs.Laws.{AnyOrder}
use Rattle.program_words.proofs.Swaps.{count_by-swap, filter-swap, find-swap, list_all-same, list_all-swap, list_any-swap}

apart : (n a b : ℕ) → nat_eq a b ≡ false → nat_eq n a && nat_eq n b ≡ false
apart n a b different = grind (arith, nat_tests)

-- no name is that of both
named_apart : (name : Name) (g h : Given) → same_name g.name h.name ≡ false → is_named name g && is_named name h ≡ false
unfolding is_named
named_apart name g h different = apart (place name) (place g.name) (place h.name) different

pub same_bytes : (xs ys : List ℕ) → bytes_eq xs ys ≡ bytes_eq ys xs
same_bytes xs ys =
    let there = bytes_eq-Decides xs ys in
    let back = bytes_eq-Decides ys xs in
    same_from_decides (bytes_eq xs ys) (bytes_eq ys xs) there (λ t. sym (back.0 t), λ e. back.1 (sym e))

same_value-sym : (a b : Option (List ℕ)) → same_value a b ≡ same_value b a
same_value-sym None None = refl
same_value-sym None (Some y) = refl
same_value-sym (Some x) None = refl
same_value-sym (Some x) (Some y) = same_bytes x y

nat_eq-sym : (a b : ℕ) → nat_eq a b ≡ nat_eq b a
nat_eq-sym a b = grind (arith, nat_tests)

both : (a b s t m n : Bool) → s ≡ t → m ≡ false → n ≡ false → cond a (b && s) m ≡ cond b (a && t) n
both true true s t m n same first second = same
both true false s t m n same first second = sym second
both false true s t m n same first second = first
both false false s t m n same first second = first ∙ sym second

repeats-sym : (g h : Given) → same_name g.name h.name ≡ false → repeats g h ≡ repeats h g
unfolding repeats
repeats-sym g h different =
    both (is_source g.name) (is_source h.name) (same_value g.value h.value) (same_value h.value g.value) (same_name g.name h.name) (same_name h.name g.name) (same_value-sym g.value h.value) different (nat_eq-sym (place h.name) (place g.name) ∙ different)

none-swap : (s t a b n : Bool) → s ≡ t → not (s || a) && (not b && n) ≡ not (t || b) && (not a && n)
none-swap true t a b n same = elim t as (λ v. true ≡ v → not (true || a) && (not b && n) ≡ not (v || b) && (not a && n)) [ true ↦ λ _. refl | false ↦ λ e. absurd cc ] same
none-swap false t a b n same = elim t as (λ v. false ≡ v → not (false || a) && (not b && n) ≡ not (v || b) && (not a && n)) [ true ↦ λ e. absurd cc | false ↦ λ _. nor-swap a b n ] same
  where
    nor-swap : (a b n : Bool) → not a && (not b && n) ≡ not b && (not a && n)
    nor-swap true true n = refl
    nor-swap true false n = refl
    nor-swap false true n = refl
    nor-swap false false n = refl

none_repeats-swap : (front : List Given) (g h : Given) (behind : List Given) → same_name g.name h.name ≡ false → none_repeats (front ++ g ∷ h ∷ behind) ≡ none_repeats (front ++ h ∷ g ∷ behind)
unfolding none_repeats
none_repeats-swap [] g h behind different =
    none-swap (repeats g h) (repeats h g) (list_any (repeats g) behind) (list_any (repeats h) behind) (none_repeats behind) (repeats-sym g h different)
none_repeats-swap (z ∷ zs) g h behind different =
    ap (λ b. not b && none_repeats (zs ++ g ∷ h ∷ behind)) (list_any-swap (repeats z) zs g h behind) ∙ ap (λ b. not (list_any (repeats z) (zs ++ h ∷ g ∷ behind)) && b) (none_repeats-swap zs g h behind different)

module _ (front : List Given) (g h : Given) (behind : List Given) (different : same_name g.name h.name ≡ false) where
  stands-swap : (name : Name) → stands name (front ++ g ∷ h ∷ behind) ≡ stands name (front ++ h ∷ g ∷ behind)
  unfolding stands
  stands-swap name = list_any-swap (is_named name) front g h behind

  value_of-swap : (name : Name) → value_of name (front ++ g ∷ h ∷ behind) ≡ value_of name (front ++ h ∷ g ∷ behind)
  unfolding value_of
  value_of-swap name = ap (option_and_then (λ o. o.value)) (find-swap (is_named name) front g h behind (named_apart name g h different))

  value_or-swap : (default : List ℕ) (name : Name) → value_or default name (front ++ g ∷ h ∷ behind) ≡ value_or default name (front ++ h ∷ g ∷ behind)
  unfolding value_or
  value_or-swap default name = ap (λ value. unwrap_or value default) (value_of-swap name)

  number_of-swap : (name : Name) → number_of name (front ++ g ∷ h ∷ behind) ≡ number_of name (front ++ h ∷ g ∷ behind)
  unfolding number_of
  number_of-swap name = ap (option_and_then (number_taken (takes name))) (value_of-swap name)

  number_or-swap : (default : ℕ) (name : Name) → number_or default name (front ++ g ∷ h ∷ behind) ≡ number_or default name (front ++ h ∷ g ∷ behind)
  unfolding number_or
  number_or-swap default name = ap (λ number. unwrap_or number default) (number_of-swap name)

  sources_named-swap : (name : Name) (kind : SourceKind) → sources_named name kind (front ++ g ∷ h ∷ behind) ≡ sources_named name kind (front ++ h ∷ g ∷ behind)
  unfolding sources_named
  sources_named-swap name kind = ap (map _) (filter-swap (is_named name) front g h behind (named_apart name g h different))

  sources_of-swap : sources_of (front ++ g ∷ h ∷ behind) ≡ sources_of (front ++ h ∷ g ∷ behind)
  unfolding sources_of
  sources_of-swap =
      let audit = sources_named-swap Audit AuditLog in
      let changes = sources_named-swap Changes ChangeList in
      let tables = sources_named-swap Tables TableLines in
      cc

  link_of-swap : link_of (front ++ g ∷ h ∷ behind) ≡ link_of (front ++ h ∷ g ∷ behind)
  unfolding link_of
  link_of-swap =
      ap (λ frames. link_by frames (value_of AnswersIn (front ++ g ∷ h ∷ behind))) (value_of-swap FramesOut)
      ∙ ap (link_by (value_of FramesOut (front ++ h ∷ g ∷ behind))) (value_of-swap AnswersIn)

  replay_of-swap : replay_of (front ++ g ∷ h ∷ behind) ≡ replay_of (front ++ h ∷ g ∷ behind)
  unfolding replay_of
  replay_of-swap =
      cc (value_or-swap [] Config, value_or-swap [] Host, value_or-swap default_platform Platform, value_or-swap default_agent Agent, sources_of-swap, value_of-swap Store, number_of-swap Start, number_or-swap 60 Step, number_or-swap 60 Ticks, number_or-swap 10000 Records, link_of-swap)

  daemon_of-swap : daemon_of (front ++ g ∷ h ∷ behind) ≡ daemon_of (front ++ h ∷ g ∷ behind)
  unfolding daemon_of
  daemon_of-swap = cc (replay_of-swap, number_or-swap 4 Workers)

  query_of-swap : query_of (front ++ g ∷ h ∷ behind) ≡ query_of (front ++ h ∷ g ∷ behind)
  unfolding query_of
  query_of-swap =
      cc (value_or-swap [] Text, value_of-swap Config, sources_of-swap, value_of-swap Store, number_of-swap Start, number_or-swap 60 Step, number_or-swap 1000000 Ticks, number_or-swap 10000 Records, stands-swap Explain)

  check_of-swap : check_of (front ++ g ∷ h ∷ behind) ≡ check_of (front ++ h ∷ g ∷ behind)
  unfolding check_of
  check_of-swap =
      cc (value_or-swap [] Config, value_or-swap [] Host, value_or-swap default_platform Platform, value_or-swap default_agent Agent)

  collect_of-swap : collect_of (front ++ g ∷ h ∷ behind) ≡ collect_of (front ++ h ∷ g ∷ behind)
  unfolding collect_of
  collect_of-swap = cc (value_or-swap [] Frames, value_or-swap [] Ledger, number_or-swap 1000000 Ticks)

  generate_of-swap : generate_of (front ++ g ∷ h ∷ behind) ≡ generate_of (front ++ h ∷ g ∷ behind)
  unfolding generate_of
  generate_of-swap = cc (number_or-swap 0 From, number_or-swap 1 Count)

  report_of-swap : report_of (front ++ g ∷ h ∷ behind) ≡ report_of (front ++ h ∷ g ∷ behind)
  unfolding report_of
  report_of-swap = cc (value_or-swap [] Store)

  fleet_of-swap : fleet_of (front ++ g ∷ h ∷ behind) ≡ fleet_of (front ++ h ∷ g ∷ behind)
  unfolding fleet_of
  fleet_of-swap = cc (value_or-swap [] Ledger, value_or-swap [] Host, value_or-swap [] Text)

  asked_by-swap : (command : CommandName) → asked_by command (front ++ g ∷ h ∷ behind) ≡ asked_by command (front ++ h ∷ g ∷ behind)
  asked_by-swap Replay = ap AsReplay replay_of-swap
  asked_by-swap Daemon = ap AsDaemon daemon_of-swap
  asked_by-swap Query = ap AsQuery query_of-swap
  asked_by-swap Check = ap AsCheck check_of-swap
  asked_by-swap Collect = ap AsCollect collect_of-swap
  asked_by-swap Generate = ap AsGenerate generate_of-swap
  asked_by-swap SelfTest = ap AsSelfTest generate_of-swap
  asked_by-swap Report = ap AsReport report_of-swap
  asked_by-swap Fleet = ap AsFleet fleet_of-swap

  has_required-swap : (command : CommandName) → has_required command (front ++ g ∷ h ∷ behind) ≡ has_required command (front ++ h ∷ g ∷ behind)
  unfolding has_required
  has_required-swap command =
      list_all-same (λ name. stands name (front ++ g ∷ h ∷ behind)) (λ name. stands name (front ++ h ∷ g ∷ behind)) stands-swap (required command)

  has_few_sources-swap : has_few_sources (front ++ g ∷ h ∷ behind) ≡ has_few_sources (front ++ h ∷ g ∷ behind)
  unfolding has_few_sources
  has_few_sources-swap = ap (λ count. nat_le count 1000) (count_by-swap (λ o. is_source o.name) front g h behind)

  has_whole_link-swap : has_whole_link (front ++ g ∷ h ∷ behind) ≡ has_whole_link (front ++ h ∷ g ∷ behind)
  unfolding has_whole_link
  has_whole_link-swap = cc (stands-swap FramesOut, stands-swap AnswersIn)

  are_options-swap : (command : CommandName) → are_options command (front ++ g ∷ h ∷ behind) ≡ are_options command (front ++ h ∷ g ∷ behind)
  unfolding are_options
  are_options-swap command =
      cc (list_all-swap (is_right command) front g h behind, has_required-swap command, has_few_sources-swap, none_repeats-swap front g h behind different, stands-swap Start, stands-swap Step, has_whole_link-swap)

  command_with-swap : (command : CommandName) → command_with (front ++ g ∷ h ∷ behind) command ≡ command_with (front ++ h ∷ g ∷ behind) command
  command_with-swap command = cc (are_options-swap command, asked_by-swap command)

pub any_order : AnyOrder
any_order command front behind g h different = command_with-swap front g h behind different command
