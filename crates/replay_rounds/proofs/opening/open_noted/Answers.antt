use Rattle.std.proofs.Common.{◌≡◌, Err, refl, inl, sym, ap, ◌∙◌}
use Rattle.replay_rounds.specs.declared.refused.Refused.{Refused}
use Rattle.replay_rounds.proofs.Causes.{same_refusal, unnoted_fault, unnoted_keeper, unnoted_late, unnoted_refused, unnoted_shrank, unnoted_spent, unopened_fault, unopened_keeper, unopened_late, unopened_refused, unopened_shrank, unopened_sink, unopened_spent}
use Rattle.replay_rounds.proofs.Grown.{grown_then}
use Rattle.replay_rounds.proofs.Noted.{skipped_behind, told_opened, untold_by}
use Rattle.replay_rounds.proofs.opening.open_noted.Goals as goal

pub returns-in-Err-clause-moment : goal.returns-in-Err-clause-moment
returns-in-Err-clause-moment g c refused moment is error =
    let same : c.unopened.result ≡ refused = same_refusal _ _ is in
    let why = unopened_late c.in-Err.error moment (sym c.unopened.ensures.error ∙ ap (λ (r : Refused). r.error) same ∙ error) in
    c.open_session.ensures.moment moment (c.in-Err.is ∙ ap Err why)

pub returns-in-Err-clause-spent : goal.returns-in-Err-clause-spent
returns-in-Err-clause-spent g c refused is error =
    let same : c.unopened.result ≡ refused = same_refusal _ _ is in
    let why = unopened_spent c.in-Err.error (sym c.unopened.ensures.error ∙ ap (λ (r : Refused). r.error) same ∙ error) in
    c.open_session.ensures.spent (c.in-Err.is ∙ ap Err why)

pub returns-in-Err-write_notes-clause-grown : goal.returns-in-Err-write_notes-clause-grown
returns-in-Err-write_notes-clause-grown g c tells =
    grown_then _ _ _ (c.write_notes.ensures.grown tells) (c.unwritten.ensures.grown tells)

pub returns-in-Err-clause-untold : goal.returns-in-Err-clause-untold
returns-in-Err-clause-untold g c tells = inl (inl refl)

pub returns-in-Err-write_notes-clause-untold : goal.returns-in-Err-write_notes-clause-untold
returns-in-Err-write_notes-clause-untold g c tells =
    told_opened _ c.in-Ok.session.feeds.items (g.O.Sink.written c.args.status.now) (g.O.Sink.written c.unwritten.new.status) (g.O.Sink.faults c.args.status.now) (g.O.Sink.faults c.unwritten.new.status)
    (skipped_behind c.in-Ok.session.feeds.items (g.O.Sink.written c.args.status.now) (g.O.Sink.written c.write_notes.new.status) (g.O.Sink.written c.unwritten.new.status) (g.O.Sink.faults c.args.status.now) (g.O.Sink.faults c.write_notes.new.status) (g.O.Sink.faults c.unwritten.new.status)
    (untold_by _ _ _ _ c.in-Err-write_notes.error c.write_notes.result c.in-Err-write_notes.is (λ is. ap g.O.Sink.written (c.write_notes.ensures.unmade is)) c.write_notes.ensures.cause) (c.unwritten.ensures.skipped tells) c.write_notes.ensures.cause.later c.unwritten.ensures.later)
    (λ is. (c.in-Ok.session.configured_at, c.in-Ok.session.feeds.items, c.in-Ok.session.state, c.in-Ok.ensures.opened, is))

pub returns-in-Err-clause-loaded : goal.returns-in-Err-clause-loaded
returns-in-Err-clause-loaded g c =
    (λ is. unopened_keeper c.in-Err.error (sym c.unopened.ensures.error ∙ is), λ is. unopened_refused c.in-Err.error (sym c.unopened.ensures.error ∙ is))

pub returns-in-Err-clause-fault : goal.returns-in-Err-clause-fault
returns-in-Err-clause-fault g c refused place is error =
    let same : c.unopened.result ≡ refused = same_refusal _ _ is in
    let why = unopened_fault c.in-Err.error place (sym c.unopened.ensures.error ∙ ap (λ (r : Refused). r.error) same ∙ error) in
    c.open_session.ensures.fault place (c.in-Err.is ∙ ap Err why)

pub returns-in-Err-clause-shrank : goal.returns-in-Err-clause-shrank
returns-in-Err-clause-shrank g c refused place kept found is error =
    let same : c.unopened.result ≡ refused = same_refusal _ _ is in
    let why = unopened_shrank c.in-Err.error place kept found (sym c.unopened.ensures.error ∙ ap (λ (r : Refused). r.error) same ∙ error) in
    c.open_session.ensures.shrank place kept found (c.in-Err.is ∙ ap Err why)

pub returns-in-Err-clause-sink_cause : goal.returns-in-Err-clause-sink_cause
returns-in-Err-clause-sink_cause g c refused is error =
    let same : c.unopened.result ≡ refused = same_refusal _ _ is in
    absurd (unopened_sink c.in-Err.error (sym c.unopened.ensures.error ∙ ap (λ (r : Refused). r.error) same ∙ error))

pub returns-in-Err-write_notes-clause-loaded : goal.returns-in-Err-write_notes-clause-loaded
returns-in-Err-write_notes-clause-loaded g c =
    let why = sym c.unnoted.ensures.error ∙ ap (λ (r : Refused). r.error) (sym c.unwritten.ensures.same) in
    (λ is. unnoted_keeper c.in-Err-write_notes.error (why ∙ is), λ is. unnoted_refused c.in-Err-write_notes.error (why ∙ is))

pub returns-in-Err-write_notes-clause-moment : goal.returns-in-Err-write_notes-clause-moment
returns-in-Err-write_notes-clause-moment g c refused moment is error =
    let same : c.unnoted.result ≡ refused = sym c.unwritten.ensures.same ∙ same_refusal _ _ is in
    absurd (unnoted_late c.in-Err-write_notes.error moment (sym c.unnoted.ensures.error ∙ ap (λ (r : Refused). r.error) same ∙ error))

pub returns-in-Err-write_notes-clause-fault : goal.returns-in-Err-write_notes-clause-fault
returns-in-Err-write_notes-clause-fault g c refused place is error =
    let same : c.unnoted.result ≡ refused = sym c.unwritten.ensures.same ∙ same_refusal _ _ is in
    absurd (unnoted_fault c.in-Err-write_notes.error place (sym c.unnoted.ensures.error ∙ ap (λ (r : Refused). r.error) same ∙ error))

pub returns-in-Err-write_notes-clause-shrank : goal.returns-in-Err-write_notes-clause-shrank
returns-in-Err-write_notes-clause-shrank g c refused place kept found is error =
    let same : c.unnoted.result ≡ refused = sym c.unwritten.ensures.same ∙ same_refusal _ _ is in
    absurd (unnoted_shrank c.in-Err-write_notes.error place kept found (sym c.unnoted.ensures.error ∙ ap (λ (r : Refused). r.error) same ∙ error))

pub returns-in-Err-write_notes-clause-spent : goal.returns-in-Err-write_notes-clause-spent
returns-in-Err-write_notes-clause-spent g c refused is error =
    let same : c.unnoted.result ≡ refused = sym c.unwritten.ensures.same ∙ same_refusal _ _ is in
    absurd (unnoted_spent c.in-Err-write_notes.error (sym c.unnoted.ensures.error ∙ ap (λ (r : Refused). r.error) same ∙ error))
