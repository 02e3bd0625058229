-- What a run of each command does.
use Rattle.std.specs.Prelude.{Bool, true, false}
use Rattle.program_words.specs.declared.command.CommandWords.{CommandWords}
use Rattle.program_words.specs.declared.command.CommandWords.TheVariants.{Replay as AsksReplay, Daemon as AsksDaemon, Query as AsksQuery, Check as AsksCheck, Collect as AsksCollect, Generate as AsksGenerate, SelfTest as AsksSelfTest, Report as AsksReport, Fleet as AsksFleet}
use Rattle.program_words.specs.declared.command.QueryWords.{QueryWords}
use Rattle.session_model.specs.Orders.{in_turn, at_once}
use Rattle.osq_program.specs.declared.status.Status.{Status}
use Rattle.osq_program.specs.Checking.{IsCheck}
use Rattle.osq_program.specs.Collecting.{IsCollect}
use Rattle.osq_program.specs.Explaining.{IsExplain}
use Rattle.osq_program.specs.Fleets.{IsFleet}
use Rattle.osq_program.specs.Generating.{IsGenerate}
use Rattle.osq_program.specs.Querying.{IsQuery}
use Rattle.osq_program.specs.Replaying.{IsReplay}
use Rattle.osq_program.specs.Reporting.{IsShown}
use Rattle.osq_program.specs.Observed.{Observed}
use Rattle.osq_program.specs.SelfTesting.{IsSelfTest}
use Rattle.osq_program.specs.Telling.{TellsAlone, TellsCheck, TellsCollect, TellsFleet, TellsQuery, TellsReplay}

abbrev pub QueriesBy : Bool → QueryWords → Observed → Status → Type 0
QueriesBy true words seen status = IsExplain (record { text = words.text }) seen status
QueriesBy false words seen status = IsQuery words seen status

abbrev pub DoesQuery : QueryWords → Observed → Status → Type 0
DoesQuery words seen status = QueriesBy words.explain words seen status

abbrev pub MeetsCommand : CommandWords → Observed → Status → Type 0
MeetsCommand (AsksReplay words) seen status = IsReplay in_turn words seen status
MeetsCommand (AsksDaemon words) seen status = IsReplay at_once words.run seen status
MeetsCommand (AsksQuery words) seen status = DoesQuery words seen status
MeetsCommand (AsksCheck words) seen status = IsCheck words seen status
MeetsCommand (AsksCollect words) seen status = IsCollect words seen status
MeetsCommand (AsksGenerate words) seen status = IsGenerate words seen status
MeetsCommand (AsksSelfTest words) seen status = IsSelfTest words seen status
MeetsCommand (AsksReport words) seen status = IsShown seen status
MeetsCommand (AsksFleet words) seen status = IsFleet words seen status

abbrev pub TellsQueryBy : Bool → QueryWords → Observed → Status → Type 0
TellsQueryBy true words seen status = TellsAlone seen status
TellsQueryBy false words seen status = TellsQuery words seen status

abbrev pub TellsOfQuery : QueryWords → Observed → Status → Type 0
TellsOfQuery words seen status = TellsQueryBy words.explain words seen status

-- and what it tells where it doesn't end with Ok
abbrev pub TellsCommand : CommandWords → Observed → Status → Type 0
TellsCommand (AsksReplay words) seen status = TellsReplay in_turn words seen status
TellsCommand (AsksDaemon words) seen status = TellsReplay at_once words.run seen status
TellsCommand (AsksQuery words) seen status = TellsOfQuery words seen status
TellsCommand (AsksCheck words) seen status = TellsCheck words seen status
TellsCommand (AsksCollect words) seen status = TellsCollect words seen status
TellsCommand (AsksGenerate words) seen status = TellsAlone seen status
TellsCommand (AsksSelfTest words) seen status = TellsAlone seen status
TellsCommand (AsksReport words) seen status = TellsAlone seen status
TellsCommand (AsksFleet words) seen status = TellsFleet words seen status
