-- The `clap` command that a command's options make.
use Rattle.std.specs.Prelude.{ℕ, Bool, true, false, codes, if◌then◌else◌, List, [], ◌∷◌, Some}
use Rattle.std.specs.List.{find}
use Rattle.std.specs.Option.{option_map_or}
use Rattle.clap.specs.Words.{App, Rule, new_app, new_rule, with_rule}
use Rattle.clap.specs.Simple.{on_top}
use Rattle.clap.specs.declared.builder.action.ArgAction.{ArgAction}
use Rattle.clap.specs.declared.builder.action.ArgAction.TheVariants.{Set, Append, SetTrue}
use Rattle.program_words.specs.declared.command.CommandName.{CommandName}
use Rattle.program_words.specs.declared.name.Name.{Name}
use Rattle.program_words.specs.declared.name.Takes.{Takes}
use Rattle.program_words.specs.declared.name.Takes.TheVariants.{Nothing, AnyText, ShortText, Number, Unknown}
use Rattle.program_words.specs.Names.{is_source, names, same_name, takes}
use Rattle.program_words.specs.Commands.{optional, required}

-- how a name is spelled behind its dashes
unfoldable pub spelling : Name → List ℕ
spelling name = option_map_or (λ entry. entry.0) (find (λ entry. same_name name entry.1) names) []

-- a flag stands alone, a source may stand again, and any other option has one value
abbrev pub action_by : Takes → Bool → ArgAction
action_by Nothing source = SetTrue
action_by AnyText source = if source then Append else Set
action_by ShortText source = if source then Append else Set
action_by (Number least most) source = if source then Append else Set
action_by Unknown source = if source then Append else Set

abbrev pub action_for : Name → ArgAction
action_for name = action_by (takes name) (is_source name)

abbrev pub rule_for : Bool → Name → Rule
rule_for must name = record (new_rule (spelling name)) {
  long = Some (spelling name);
  action = Some (action_for name);
  required = must;
}

-- the command with no option, and no flag for help
abbrev pub bare : App
bare = on_top (λ s. record s { disable_help_flag = true }) (new_app (codes "osqd"))

abbrev pub with_options : App → Bool → List Name → App
with_options app must [] = app
with_options app must (name ∷ names) = with_options (with_rule app (rule_for must name)) must names

abbrev pub app_for : CommandName → App
app_for command = with_options (with_options bare true (required command)) false (optional command)
