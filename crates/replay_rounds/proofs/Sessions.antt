-- A session with one tick more is a session.
use Rattle.std.proofs.Common.{◌≡◌, ℕ, List, [], ◌∷◌, ◌++◌, Option, refl, sym, ap, ◌∙◌, subst, append_assoc}
use Rattle.std.specs.Prelude.{max}
use Rattle.std.proofs.lemmas.List.{append-nil}
use Rattle.entry_model.specs.declared.entry.Entry.{Entry}
use Rattle.entry_model.specs.Values.{moment_of}
use Rattle.session_model.specs.Given.{Given}
use Rattle.session_model.specs.Orders.{Order, TicksIn}
use Rattle.session_model.specs.Sessions.{Beat, TicksAt}
use Rattle.session_model.specs.Working.{acks_of}

-- a tick behind this list at a reading of the clock
abbrev pub TicksBy : Order → Type 0 → Given → List Entry → ℕ → List Entry → Type 0
TicksBy order tells given kept reading own = TicksIn order tells given kept (max reading (moment_of kept)) own

abbrev pub at_beat : ℕ → List (Option ℕ) → Beat
at_beat reading polled = record { reading = reading; polled = polled }

-- a tick's entries, and behind them what is acknowledged
abbrev pub with_acks : List Entry → List Entry → List (Option ℕ) → List Entry
with_acks kept own polled = own ++ acks_of (kept ++ own) polled

ticks_one : (order : Order) (tells : Type 0) (given : Given) (kept : List Entry) (reading : ℕ) (polled : List (Option ℕ)) (own : List Entry) → TicksBy order tells given kept reading own → TicksAt order tells given kept (at_beat reading polled ∷ []) (with_acks kept own polled)
ticks_one order tells given kept reading polled own tick = (own, [], tick, refl, sym (append-nil (with_acks kept own polled)))

pub ticks_more : (order : Order) (tells : Type 0) (given : Given) (kept : List Entry) (beats : List Beat) (before own : List Entry) (reading : ℕ) (polled : List (Option ℕ)) → TicksAt order tells given kept beats before → TicksBy order tells given (kept ++ before) reading own
    → TicksAt order tells given kept (beats ++ at_beat reading polled ∷ []) (before ++ with_acks (kept ++ before) own polled)
ticks_more order tells given kept [] before own reading polled at tick =
    let none : before ≡ [] = at in
    let list : kept ++ before ≡ kept = ap (λ (es : List Entry). kept ++ es) none ∙ append-nil kept in
    let one = ticks_one order tells given kept reading polled own (subst (λ (list : List Entry). TicksBy order tells given list reading own) list tick) in
    subst (TicksAt order tells given kept (at_beat reading polled ∷ [])) (ap (λ (list : List Entry). with_acks list own polled) (sym list) ∙ ap (λ (es : List Entry). es ++ with_acks (kept ++ before) own polled) (sym none)) one
ticks_more order tells given kept (beat ∷ beats) before own reading polled (first, others, t, rest, are) tick =
    let mine = with_acks kept first beat.polled in
    let whole : kept ++ before ≡ (kept ++ mine) ++ others = ap (λ (es : List Entry). kept ++ es) are ∙ sym (append_assoc kept mine others) in
    let later = ticks_more order tells given (kept ++ mine) beats others own reading polled rest (subst (λ (list : List Entry). TicksBy order tells given list reading own) whole tick) in
    let last = with_acks ((kept ++ mine) ++ others) own polled in
    (first, others ++ last, t, later, ap (λ (list : List Entry). before ++ with_acks list own polled) whole ∙ ap (λ (es : List Entry). es ++ last) are ∙ append_assoc mine others last)
