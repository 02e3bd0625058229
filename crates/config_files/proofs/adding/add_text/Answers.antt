use Rattle.std.proofs.Common.{rules, ◌-◌, ◌≡◌, ◌≢◌, ◌++◌, ◌+◌, ◌∷◌, ℕ, List, [], length, refl, sym, ap, ◌∙◌, subst, append-nil, arith, Result, Ok, Err, OnOk}
use Rattle.osq_config.specs.declared.config.Pack.{Pack}
use Rattle.osq_config.specs.declared.error.ConfigError.TheVariants.{NoMemory}
use Rattle.osq_config.specs.Files.{fault_beside, file_pack, refilled}
use Rattle.osq_config.specs.Reads.{Answers}
use Rattle.config_files.specs.Naming.{kind_of_error, left_out_line}
use Rattle.config_files.proofs.Walk.{added_by, left_by}
use Rattle.config_files.proofs.adding.add_text.Goals as goal

when_ok : {T E : Type 0} {P Q : Type 0} (r : Result T E) → (P → Q) → OnOk r P → OnOk r Q
when_ok (Ok x) more holds = more holds
when_ok (Err error) more holds = holds

pub returns-in-Ok-clause-adds : goal.returns-in-Ok-clause-adds
returns-in-Ok-clause-adds c =
    let old = c.args.made.now.config in
    let count = c.args.count.now in
    let text = c.args.text.now in
    let pack = c.args.pack in
    let read = c.in-Ok.read in
    let answer = subst (λ (bytes : List ℕ). Answers (fault_beside count) file_pack bytes (Ok read)) c.as_bytes.ensures.value c.in-Ok.ensures.answer in
    when_ok c.push.result
    (λ put. (
      [],
      λ rest holds.
          let within = c.requires in
          let before = c.len.ensures in
          let more = c.len-in-Ok.ensures in
          added_by text old pack read count (count - c.len.result + c.len-in-Ok.result) _ answer (omega arith) (put ∙ ap (λ (p : Pack). old.packs ++ p ∷ []) c.refill.ensures) rest holds,
      sym (append-nil c.args.made.now.notes),
    ))
    c.push.ensures.ok

pub returns : goal.returns
returns c =
    let old = c.args.made.now.config in
    let count = c.args.count.now in
    let text = c.args.text.now in
    let pack = c.args.pack in
    let error = c.in-Err.error in
    let answer = subst (λ (bytes : List ℕ). Answers (fault_beside count) file_pack bytes (Err error)) c.as_bytes.ensures.value c.in-Err.ensures.answer in
    let whole : error ≢ NoMemory = search rules in
    record {
      adds = when_ok c.push_note.result
          (λ noted. (
            left_out_line pack.name (kind_of_error error),
            λ rest holds.
                let within = c.requires in
                let before = c.len-in-Err.ensures in
                left_by text old pack count (count - c.len-in-Err.result) error whole answer (omega arith) rest holds,
            noted ∙ ap (λ (name : List ℕ). c.args.made.now.notes ++ left_out_line name (kind_of_error error)) c.as_str.ensures,
          ))
          c.push_note.ensures;
      documents = when_ok c.push_note.result (λ noted. refl) c.push_note.ensures;
    }
