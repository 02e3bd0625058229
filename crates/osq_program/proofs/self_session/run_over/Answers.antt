use Rattle.std.proofs.Common.{◌∙◌, sym, ap}
use Rattle.batch_keeper.specs.Counted.{calls_of}
use Rattle.program_words.specs.Commands.{forwards}
use Rattle.osq_program.proofs.SelfTests.{grown_over, kept_over, ran_over, sealed_over, self_bounded, self_count, self_given, self_linked, stopped_over}
use Rattle.osq_program.proofs.self_session.run_over.Goals as goal

pub run_in_turn-status-requires-clause-sources : goal.run_in_turn-status-requires-clause-sources
run_in_turn-status-requires-clause-sources c κs = c.in_ok-inside.ensures.one ∙ sym (self_count c.args.count c.args.start c.in_ok-words.words c.in_ok-words.ensures)

pub run_in_turn-status-requires-clause-bounded : goal.run_in_turn-status-requires-clause-bounded
run_in_turn-status-requires-clause-bounded c κs = self_bounded c.args.count c.args.start c.in_ok-words.words c.requires.count c.requires.start c.in_ok-words.ensures

pub returns-clause-done : goal.returns-clause-done
returns-clause-done c = λ done.
    let (ran, told) = c.run_in_turn-status.ensures.does.done done in
    let is = c.in_ok-words.ensures in
    ran_over c.args.lines c.args.count c.args.start _ _ _ c.in_ok-words.words _ _ _ _ ran.given ran.ended
    (self_given c.args.lines c.args.count c.args.start c.in_ok-words.words _ ran.given is tt c.in_ok-inside.ensures.file c.in_ok-inside.ensures.bytes ran.is)
    ran.end_is is c.in_ok-inside.ensures.kept c.in_ok-inside.ensures.clock
    (self_linked c.args.count c.args.start c.in_ok-words.words _ is c.in_ok-inside.ensures.link) ran.run

pub returns-clause-kept : goal.returns-clause-kept
returns-clause-kept c =
    let is = c.in_ok-words.ensures in
    grown_over c.args.lines c.args.count c.args.start _ c.in_ok-words.words _ _ c.run_in_turn-status.ensures.does tt c.in_ok-inside.ensures.kept
    (λ given given_is grown. kept_over c.args.lines c.args.count c.args.start _ _ _ _ _ _ given
    (self_given c.args.lines c.args.count c.args.start c.in_ok-words.words _ given is tt c.in_ok-inside.ensures.file c.in_ok-inside.ensures.bytes given_is)
    c.in_ok-inside.ensures.kept c.in_ok-inside.ensures.clock (self_linked c.args.count c.args.start c.in_ok-words.words _ is c.in_ok-inside.ensures.link) grown)

pub returns-clause-sealed : goal.returns-clause-sealed
returns-clause-sealed c = λ done.
    let is = c.in_ok-words.ensures in
    sealed_over c.args.count c.args.start c.in_ok-words.words _ _ _ _ _ _ is (ap calls_of c.in_ok-inside.ensures.keeper) c.in_ok-inside.ensures.kept (c.run_in_turn-status.ensures.sealed tt (ap forwards is) done)

pub returns-clause-stopped : goal.returns-clause-stopped
returns-clause-stopped c = λ failed.
    let is = c.in_ok-words.ensures in
    stopped_over c.args.count c.args.start c.in_ok-words.words _ _ _ _ _ _ is (ap calls_of c.in_ok-inside.ensures.keeper) c.in_ok-inside.ensures.kept (c.run_in_turn-status.ensures.stopped tt (ap forwards is) failed)
