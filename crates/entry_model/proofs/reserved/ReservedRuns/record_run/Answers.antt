use Rattle.std.proofs.Common.{◌≡◌, ◌<◌, ◌-◌, ◌∙◌, ℕ, Bool, Some, None, if◌then◌else◌, List, [], ◌∷◌, ◌++◌, length, get_or, set, true, false, sym, ap, subst, arith}
use Rattle.std.specs.Prelude.{slice_get}
use Rattle.std.proofs.lemmas.Option.{slice_get-get_or}
use Rattle.entry_model.specs.declared.restored.Run.{Run}
use Rattle.pack_rules.specs.Keys.{same_key}
use Rattle.entry_model.specs.Runs.{changed_run, with_batch}
use Rattle.entry_model.specs.Reserved.{HaveOwnKeys, RunsAndRoom, has_run, place_of}
use Rattle.entry_model.proofs.Changes.{written}
use Rattle.entry_model.proofs.Placed.{found_within, none_found, changed_in_place, own_after, new_at_end}
use Rattle.entry_model.proofs.reserved.ReservedRuns.record_run.Goals as goal

pub change_at-requires-clause-within : goal.change_at-requires-clause-within
change_at-requires-clause-within c =
    let a = c.args in
    let test = λ (run : Run). same_key run.key a.key in
    let items = c.self.inside.runs.items in
    let here : items ≡ a.self.now.runs = ap (λ (r : RunsAndRoom). r.runs) c.self.view_is in
    let found : place_of items a.key ≡ Some c.in-Some.place = ap (λ (runs : List Run). place_of runs a.key) here ∙ sym c.requires.place ∙ c.in-Some.is in
    let within = (found_within test 0 items c.in-Some.place found).1 in
    omega (arith, within, ap (λ (runs : List Run). length runs) c.as_mut_slice.ensures.value)

pub invariant_of-self : goal.invariant_of-self
invariant_of-self c =
    let a = c.args in
    let test = λ (run : Run). same_key run.key a.key in
    let items = c.self.inside.runs.items in
    let fresh : Run = record { key = a.key; number = a.number; hi = a.hi; moment = a.moment; count = 1 } in
    let here : items ≡ a.self.now.runs = ap (λ (r : RunsAndRoom). r.runs) c.self.view_is in
    let found : place_of items a.key ≡ Some c.in-Some.place = ap (λ (runs : List Run). place_of runs a.key) here ∙ sym c.requires.place ∙ c.in-Some.is in
    let within = (found_within test 0 items c.in-Some.place found).1 in
    let value = c.as_mut_slice.ensures.value in
    let run = get_or items c.in-Some.place fresh in
    let stands : slice_get items c.in-Some.place ≡ Some run = slice_get-get_or items c.in-Some.place fresh (omega (arith, within)) in
    let changed = c.change_at.ensures run (ap (λ (runs : List Run). slice_get runs c.in-Some.place) value ∙ stands) ∙ ap (λ (runs : List Run). set runs c.in-Some.place (changed_run a.number a.hi a.moment run)) value ∙ changed_in_place a.key a.number a.hi a.moment items c.in-Some.place run c.self.invariant.1 found stands in
    let whole = written items c.change_at.new.runs c.self.inside.runs.len c.self.inside.runs.ok.0 (c.change_at.auto.runs ∙ ap (λ (runs : List Run). length runs) value) in
    (c.self.invariant.0, subst HaveOwnKeys (sym (whole ∙ changed)) (own_after a.key a.number a.hi a.moment items c.self.invariant.1))

pub returns-in-Some : goal.returns-in-Some
returns-in-Some c =
    let a = c.args in
    let test = λ (run : Run). same_key run.key a.key in
    let items = c.self.inside.runs.items in
    let fresh : Run = record { key = a.key; number = a.number; hi = a.hi; moment = a.moment; count = 1 } in
    let here : items ≡ a.self.now.runs = ap (λ (r : RunsAndRoom). r.runs) c.self.view_is in
    let room : c.self.inside.room ≡ a.self.now.room = ap (λ (r : RunsAndRoom). r.room) c.self.view_is in
    let found : place_of items a.key ≡ Some c.in-Some.place = ap (λ (runs : List Run). place_of runs a.key) here ∙ sym c.requires.place ∙ c.in-Some.is in
    let at = found_within test 0 items c.in-Some.place found in
    let within = at.1 in
    let value = c.as_mut_slice.ensures.value in
    let run = get_or items c.in-Some.place fresh in
    let stands : slice_get items c.in-Some.place ≡ Some run = slice_get-get_or items c.in-Some.place fresh (omega (arith, within)) in
    let changed = c.change_at.ensures run (ap (λ (runs : List Run). slice_get runs c.in-Some.place) value ∙ stands) ∙ ap (λ (runs : List Run). set runs c.in-Some.place (changed_run a.number a.hi a.moment run)) value ∙ changed_in_place a.key a.number a.hi a.moment items c.in-Some.place run c.self.invariant.1 found stands in
    let whole = written items c.change_at.new.runs c.self.inside.runs.len c.self.inside.runs.ok.0 (c.change_at.auto.runs ∙ ap (λ (runs : List Run). length runs) value) in
    let some : has_run a.self.now.runs a.key ≡ true = ap (λ (runs : List Run). has_run runs a.key) (sym here) ∙ at.2 in
    let runs = whole ∙ changed ∙ ap (λ (runs : List Run). with_batch runs a.key a.number a.hi a.moment) here in
    let left : c.self.inside.room ≡ (if has_run a.self.now.runs a.key then a.self.now.room else a.self.now.room - 1) = room ∙ sym (ap (λ (b : Bool). if b then a.self.now.room else a.self.now.room - 1) some) in
    λ i. record { runs = runs i; room = left i }

pub push_reserved-requires : goal.push_reserved-requires
push_reserved-requires c =
    let a = c.args in
    let test = λ (run : Run). same_key run.key a.key in
    let room : c.self.inside.room ≡ a.self.now.room = ap (λ (r : RunsAndRoom). r.room) c.self.view_is in
    let none : has_run a.self.now.runs a.key ≡ false = none_found test 0 a.self.now.runs (sym c.requires.place ∙ c.in-None.is) in
    let some : 0 < a.self.now.room = c.requires.room none in
    omega (arith, c.self.invariant.0, room, some)

pub overflow_sub-self : goal.overflow_sub-self
overflow_sub-self c =
    let a = c.args in
    let test = λ (run : Run). same_key run.key a.key in
    let room : c.self.inside.room ≡ a.self.now.room = ap (λ (r : RunsAndRoom). r.room) c.self.view_is in
    let none : has_run a.self.now.runs a.key ≡ false = none_found test 0 a.self.now.runs (sym c.requires.place ∙ c.in-None.is) in
    let some : 0 < a.self.now.room = c.requires.room none in
    omega (arith, room, some)

pub invariant_of-self-2 : goal.invariant_of-self-2
invariant_of-self-2 c =
    let a = c.args in
    let test = λ (run : Run). same_key run.key a.key in
    let items = c.self.inside.runs.items in
    let here : items ≡ a.self.now.runs = ap (λ (r : RunsAndRoom). r.runs) c.self.view_is in
    let room : c.self.inside.room ≡ a.self.now.room = ap (λ (r : RunsAndRoom). r.room) c.self.view_is in
    let new : place_of items a.key ≡ None = ap (λ (runs : List Run). place_of runs a.key) here ∙ sym c.requires.place ∙ c.in-None.is in
    let none : has_run a.self.now.runs a.key ≡ false = none_found test 0 a.self.now.runs (sym c.requires.place ∙ c.in-None.is) in
    let some : 0 < a.self.now.room = c.requires.room none in
    let runs = c.push_reserved.ensures.items ∙ new_at_end a.key a.number a.hi a.moment items new in
    (omega (arith, c.self.invariant.0, room, some, c.push_reserved.ensures.len, c.push_reserved.ensures.capacity), subst HaveOwnKeys (sym runs) (own_after a.key a.number a.hi a.moment items c.self.invariant.1))

pub returns : goal.returns
returns c =
    let a = c.args in
    let test = λ (run : Run). same_key run.key a.key in
    let items = c.self.inside.runs.items in
    let here : items ≡ a.self.now.runs = ap (λ (r : RunsAndRoom). r.runs) c.self.view_is in
    let room : c.self.inside.room ≡ a.self.now.room = ap (λ (r : RunsAndRoom). r.room) c.self.view_is in
    let new : place_of items a.key ≡ None = ap (λ (runs : List Run). place_of runs a.key) here ∙ sym c.requires.place ∙ c.in-None.is in
    let none : has_run a.self.now.runs a.key ≡ false = none_found test 0 a.self.now.runs (sym c.requires.place ∙ c.in-None.is) in
    let runs = c.push_reserved.ensures.items ∙ new_at_end a.key a.number a.hi a.moment items new ∙ ap (λ (runs : List Run). with_batch runs a.key a.number a.hi a.moment) here in
    let left : c.self.inside.room - 1 ≡ (if has_run a.self.now.runs a.key then a.self.now.room else a.self.now.room - 1) = ap (λ (n : ℕ). n - 1) room ∙ sym (ap (λ (b : Bool). if b then a.self.now.room else a.self.now.room - 1) none) in
    λ i. record { runs = runs i; room = left i }
