use Rattle.std.proofs.Common.{◌≡◌, ◌<◌, List, length, sym, ap, ◌∙◌, subst}
use Rattle.std.specs.Prelude.{slice_get, slice_set}
use Rattle.std.specs.List.{position_from}
use Rattle.std.proofs.lemmas.List.{length-set}
use Rattle.osq_config.specs.declared.config.Pack.{Pack}
use Rattle.osq_config.specs.Files.{refilled}
use Rattle.osq_config.proofs.Places.{found, get_place, named, nowhere, set_place, within_packs, written_back}
use Rattle.osq_config.proofs.place.fill.Goals as goal

pub refill-requires : goal.refill-requires
refill-requires c =
    let name = c.args.name.now in
    let stands = found name c.args.packs.now c.in-Some.at (ap (position_from (named name) 0) (sym c.as_slice.ensures) ∙ sym c.place_of.ensures ∙ c.in-Some.is) in
    subst (λ (xs : List Pack). c.in-Some.at < length xs) (sym c.as_mut_slice.ensures.value) (within_packs name c.args.packs.now c.in-Some.at stands)

pub returns-in-Some : goal.returns-in-Some
returns-in-Some c =
    let name = c.args.name.now in
    let packs = c.args.packs.now in
    let at = c.in-Some.at in
    let read = c.args.read in
    let stands = found name packs at (ap (position_from (named name) 0) (sym c.as_slice.ensures) ∙ sym c.place_of.ensures ∙ c.in-Some.is) in
    let given = c.as_mut_slice.ensures.value in
    let made : c.refill.new.packs ≡ slice_set packs at (refilled stands.pack read) =
    c.refill.ensures stands.pack (ap (λ (xs : List Pack). slice_get xs at) given ∙ get_place name packs at stands)
    ∙ ap (λ (xs : List Pack). slice_set xs at (refilled stands.pack read)) given in
    written_back c.refill.new.packs packs (ap (λ (xs : List Pack). length xs) made ∙ length-set packs at (refilled stands.pack read))
    ∙ made ∙ set_place name packs at read stands

pub returns-in_default : goal.returns-in_default
returns-in_default c =
    let name = c.args.name.now in
    sym ((nowhere name c.args.packs.now 0 (ap (position_from (named name) 0) (sym c.as_slice.ensures) ∙ sym c.place_of.ensures ∙ c.in_default.is)).1 c.args.read)
