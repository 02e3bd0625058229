use Rattle.std.proofs.Common.{List, refl, sym, ap, ◌∙◌, subst, Ok, Err}
use Rattle.osq_config.specs.declared.config.Pack.{Pack}
use Rattle.osq_config.specs.Bounds.{IsBounded}
use Rattle.osq_config.specs.Files.{fault_of_file, file_pack, filled}
use Rattle.osq_config.specs.Names.{NamesRise}
use Rattle.osq_config.proofs.Beside.{answers_beside, refused_alike}
use Rattle.osq_config.proofs.Bounded.{filled_bounded, left_bounded}
use Rattle.osq_config.proofs.Names.{filled_rises, left_rises}
use Rattle.osq_config.proofs.file.add_pack.Goals as goal

pub returns-in-Ok : goal.returns-in-Ok
returns-in-Ok c =
    let config = c.args.config.now in
    let name = c.args.name.now in
    let held = c.held_queries-count.ensures in
    let (d, has, none, is) = answers_beside c.held_queries-count.result config held.exact held.over c.args.document.now (Ok c.in-Ok.pack) c.in-Ok.ensures.answer in
    let put = c.fill.ensures ∙ ap (λ (read : Pack). filled name read config.packs) is in
    record {
      answer = (d, has, none, refl);
      ok = (d, has, ap (λ (packs : List Pack). record config { packs = packs }) put);
      err = tt;
      bounded = λ old. subst (λ (packs : List Pack). IsBounded (record config { packs = packs })) (sym put) (filled_bounded config name d none old);
      named = λ old. subst (λ (packs : List Pack). NamesRise (record config { packs = packs })) (sym put) (filled_rises config name c.args.document.now d has old);
    }

pub returns-in-Err : goal.returns-in-Err
returns-in-Err c =
    let config = c.args.config.now in
    let name = c.args.name.now in
    let held = c.held_queries-count.ensures in
    let answer = answers_beside c.held_queries-count.result config held.exact held.over c.args.document.now (Err c.in-Err.error) c.in-Err.ensures.answer in
    let left = c.leave_out.ensures in
    record {
      answer = refused_alike {Y = Unit {0}} (fault_of_file config) file_pack (λ _. tt) c.args.document.now c.in-Err.error answer;
      ok = tt;
      err = ap (λ (packs : List Pack). record config { packs = packs }) left;
      bounded = λ old. subst (λ (packs : List Pack). IsBounded (record config { packs = packs })) (sym left) (left_bounded config name old);
      named = λ old. subst (λ (packs : List Pack). NamesRise (record config { packs = packs })) (sym left) (left_rises config name old);
    }
