use Rattle.std.proofs.Common.{refl, ap}
use Rattle.session_state.specs.Inside.{kept}
use Rattle.session_state.specs.Tails.{EntriesAndRoom}
use Rattle.session_state.proofs.Expiring.{all_counted, all_expire, stays_from}
use Rattle.session_state.proofs.state.State.expire.Goals as goal

pub returns-clause-expired : goal.returns-clause-expired
returns-clause-expired c =
    let s = kept c.self.inside in
    let roomy = kept (record c.self.inside { tail = c.reserve_more.new.self }) in
    let first = c.expire_table-first in
    let second = c.expire_table-second in
    let third = c.expire_table-third in
    rw (← c.self.view_is) (all_expire s roomy first.new.self second.new.self third.new.self _ (record {
      counts = refl;
      image = refl;
      schedule = refl;
      ticked = refl;
      marks = refl;
      tail = ap (λ (t : EntriesAndRoom). t.entries) c.in_ok-reserve_more.ensures.ok;
    }) first.ensures.expired second.ensures.expired third.ensures.expired (stays_from third.new.self (kept c.self-2.inside) _ c.self-2.view_is (record {
      counts = refl;
      image = refl;
      schedule = refl;
      ticked = refl;
      marks = refl;
      tail = c.give_back.ensures.entries;
    })))

pub returns-clause-count : goal.returns-clause-count
returns-clause-count c =
    let s = kept c.self.inside in
    let roomy = kept (record c.self.inside { tail = c.reserve_more.new.self }) in
    let first = c.expire_table-first in
    let second = c.expire_table-second in
    let third = c.expire_table-third in
    rw (← c.self.view_is) (all_counted s roomy first.new.self second.new.self third.new.self third.new.self (record {
      counts = refl;
      image = refl;
      schedule = refl;
      ticked = refl;
      marks = refl;
      tail = ap (λ (t : EntriesAndRoom). t.entries) c.in_ok-reserve_more.ensures.ok;
    }) first.ensures.expired second.ensures.expired third.ensures.expired first.result second.result third.result first.ensures.count second.ensures.count third.ensures.count)
