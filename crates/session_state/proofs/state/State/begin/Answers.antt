use Rattle.std.proofs.Common.{rules, arith, ◌∙◌, ◌+◌, ap, refl, [], ◌∷◌, ◌++◌}
use Rattle.entry_model.specs.declared.entry.Entry.TheVariants.{Opened}
use Rattle.pack_rules.specs.declared.schedule.Form.TheVariants as form
use Rattle.session_state.specs.Tails.{EntriesAndRoom}
use Rattle.session_state.proofs.Added.{begins}
use Rattle.session_state.proofs.state.State.begin.Goals as goal

pub returns : goal.returns
returns c =
    let r = c.args.restored in
    let tail = ap (λ (t : EntriesAndRoom). t.entries) c.in_ok-push.ensures.ok ∙ ap (λ (t : EntriesAndRoom). t.entries ++ Opened (r.sessions + 1) 2 ∷ []) c.new-tail.ensures in
    begins r _ (λ i. record { position = r.position + 1; sessions = r.sessions + 1; moment = r.moment; taken = r.taken; runs = (c.restore-2.ensures i).runs; batches = r.batches; acked = r.acked }) c.in_ok-image.ensures (λ i. record { queries = c.new.ensures i; events_expiry = 3600; events_max = 50000; form = form.Event }) refl c.new-2.ensures.items c.new-3.ensures.items tail

pub invariant_of-result : goal.invariant_of-result
invariant_of-result c =
    record {
      state = record {
        image = search rules;
        position = search rules;
        sessions = search rules;
        moment = search rules;
        runs = search rules;
        batches = search rules;
        acked = search rules;
        schedule = search rules;
        claims = search rules;
        room = search rules;
        run_room = search rules;
        places = search rules;
        rising = search rules;
        past = search rules;
      };
      listed = search rules;
      readers = search rules;
      slices = search rules;
      passed = λ place scheduled lt. absurd (omega (arith, lt));
    }
