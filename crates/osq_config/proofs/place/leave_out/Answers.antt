use Rattle.std.proofs.Common.{List, length, sym, ap, ◌∙◌, arith}
use Rattle.std.specs.Prelude.{remove}
use Rattle.std.specs.List.{position_from}
use Rattle.osq_config.specs.declared.config.Pack.{Pack}
use Rattle.osq_config.proofs.Places.{found, named, nowhere, remove_place, within_packs}
use Rattle.osq_config.proofs.place.leave_out.Goals as goal

pub remove-requires : goal.remove-requires
remove-requires c =
    let name = c.args.name.now in
    let stands = found name c.args.packs.now c.in-Some.at (ap (position_from (named name) 0) (sym c.as_slice.ensures) ∙ sym c.place_of.ensures ∙ c.in-Some.is) in
    let within = within_packs name c.args.packs.now c.in-Some.at stands in
    let size = ap (λ (xs : List Pack). length xs) (c.into_vec-others.ensures ∙ c.replace.ensures.value) in
    let ok = c.into_vec-others.result.ok in
    omega arith

pub returns-in-Some : goal.returns-in-Some
returns-in-Some c =
    let name = c.args.name.now in
    let stands = found name c.args.packs.now c.in-Some.at (ap (position_from (named name) 0) (sym c.as_slice.ensures) ∙ sym c.place_of.ensures ∙ c.in-Some.is) in
    c.from_vec.ensures ∙ c.remove.ensures.items ∙ ap (λ (xs : List Pack). remove xs c.in-Some.at) (c.into_vec-others.ensures ∙ c.replace.ensures.value)
    ∙ remove_place name c.args.packs.now c.in-Some.at stands

pub returns-in_default : goal.returns-in_default
returns-in_default c =
    let name = c.args.name.now in
    sym (nowhere name c.args.packs.now 0 (ap (position_from (named name) 0) (sym c.as_slice.ensures) ∙ sym c.place_of.ensures ∙ c.in_default.is)).0
