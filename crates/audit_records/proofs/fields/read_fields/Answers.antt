use Rattle.std.proofs.Common.{◌≡◌, ◌<◌, ℕ, List, Bool, true, false, length, get_or, sym, ap, ◌∙◌, subst, arith, rules}
use Rattle.std.specs.Prelude.{slice_index}
use Rattle.audit_records.specs.Lines.{is_blank}
use Rattle.audit_records.proofs.Steps.{all_read, blank_read, refused, shorter_rest, word_read}
use Rattle.audit_records.proofs.fields.read_fields.Goals as goal

-- what the first byte of the rest's bytes says of the rest
first_blank : (bytes rest : List ℕ) (first : ℕ) (blank : Bool) → bytes ≡ rest → first ≡ get_or bytes 0 0 → is_blank first ≡ blank → is_blank (slice_index rest 0) ≡ blank
first_blank bytes rest first blank same first_is is = sym (ap is_blank (first_is ∙ ap (λ (b : List ℕ). get_or b 0 0) same)) ∙ is

pub loop-first-preserved-then-is_blank : goal.loop-first-preserved-then-is_blank
loop-first-preserved-then-is_blank c =
    let same = c.as_bytes.ensures.value in
    let some : 0 < length c.loop-first.rest.now = subst (λ (b : List ℕ). 0 < length b) same c.in-Some.ensures.item.3.0 in
    let is = first_blank _ c.loop-first.rest.now c.in-Some.first.now true same (c.in-Some.ensures.item.3.1 0) (sym c.is_blank.ensures ∙ c.if-is_blank.true) in
    record {
      read = blank_read c.loop-first.fields c.args.text.now c.loop-first.rest.now _ some is c.behind_first-rest.ensures c.loop-first.invariant.read;
      utf8 = c.behind_first-rest.utf8;
    }

pub returns-in-Err : goal.returns-in-Err
returns-in-Err c =
    let same = c.as_bytes.ensures.value in
    let some : 0 < length c.loop-first.rest.now = subst (λ (b : List ℕ). 0 < length b) same c.in-Some.ensures.item.3.0 in
    let is = first_blank _ c.loop-first.rest.now c.in-Some.first.now false same (c.in-Some.ensures.item.3.1 0) (sym c.is_blank.ensures ∙ c.if-is_blank.false) in
    refused c.loop-first.fields c.args.text.now c.loop-first.rest.now c.in-Err.fault some is c.loop-first.invariant.read c.in-Err.ensures

pub loop-first-smaller : goal.loop-first-smaller
loop-first-smaller c =
    let same = c.as_bytes.ensures.value in
    let some : 0 < length c.loop-first.rest.now = subst (λ (b : List ℕ). 0 < length b) same c.in-Some.ensures.item.3.0 in
    let is = first_blank _ c.loop-first.rest.now c.in-Some.first.now false same (c.in-Some.ensures.item.3.1 0) (sym c.is_blank.ensures ∙ c.if-is_blank.false) in
    shorter_rest c.loop-first.rest.now _ some is c.in-Ok.ensures

pub loop-first-preserved : goal.loop-first-preserved
loop-first-preserved c =
    let same = c.as_bytes.ensures.value in
    let some : 0 < length c.loop-first.rest.now = subst (λ (b : List ℕ). 0 < length b) same c.in-Some.ensures.item.3.0 in
    let is = first_blank _ c.loop-first.rest.now c.in-Some.first.now false same (c.in-Some.ensures.item.3.1 0) (sym c.is_blank.ensures ∙ c.if-is_blank.false) in
    let a = c.in_ok-add.ensures in
    record {
      read = word_read c.loop-first.fields _ c.args.text.now c.loop-first.rest.now _ some is c.in-Ok.ensures a c.loop-first.invariant.read;
      utf8 = search rules;
    }

pub returns : goal.returns
returns c =
    let none : length c.loop-first.rest.now ≡ 0 = (let bytes = c.in_default.ensures.item.3 in let size = ap (λ (b : List ℕ). length b) c.as_bytes.ensures.value in omega arith) in
    all_read c.loop-first.fields c.args.text.now c.loop-first.rest.now none c.loop-first.invariant.read
