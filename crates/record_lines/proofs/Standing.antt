-- What a cutter stands for, as its stream grows and its lines are taken.
use Rattle.std.proofs.Common.{◌≡◌, ℕ, ◌+◌, ◌⊎◌, inl, inr, true, false, cond, nat_le, List, [], ◌∷◌, ◌++◌, length, drop, refl, sym, ap, ◌∙◌, subst, arith, append_assoc, length-append, Option, Some, None, IfNone, IfSome, Result, Ok, Err, OnOk}
use Rattle.std.specs.Option.{option_to_list}
use Rattle.record_lines.specs.declared.line.Cut.{Cut}
use Rattle.record_lines.specs.declared.partial.Partial.{Partial}
use Rattle.record_lines.specs.Lines.{lines_of, rest_of, HasNoFeed, cut_of, cuts_of}
use Rattle.record_lines.specs.Rests.{kept, IsRest}
use Rattle.record_lines.specs.Cutting.{Cutter, HasCut, TakesLine}
use Rattle.record_lines.proofs.Cuts.{lines_of-nil, rest_of-nil, lines_of-plain, rest_of-plain, lines_of-ended, rest_of-ended, span, span_of, cuts_of-append, first_line, no_cuts, lines_of-first, rest_of-first}

kept-nil : (limit : ℕ) → kept limit [] ≡ []
kept-nil limit = elim (nat_le 0 limit) as (λ t. cond {A = List ℕ} t [] [] ≡ []) [ true ↦ refl | false ↦ refl ]

pub new_rest : (limit : ℕ) (partial : Partial) → partial.size ≡ 0 → partial.bytes ≡ [] → IsRest limit [] partial
new_rest limit partial size bytes = record { size = size; bytes = bytes ∙ sym (kept-nil limit) }

pub stands_new : (cutter : Cutter) → cutter.ready ≡ [] → IsRest cutter.limit [] cutter.partial → HasCut cutter cutter.begun []
stands_new cutter ready rest = record {
  ready = ready ∙ sym (ap (cuts_of cutter.limit cutter.begun) lines_of-nil);
  begun = ap (λ (r : List ℕ). cutter.begun + length r) rest_of-nil;
  rest = subst (λ (r : List ℕ). IsRest cutter.limit r cutter.partial) (sym rest_of-nil) rest;
}

-- the stream goes on without a line feed
pub stands_plain : (old new : Cutter) (start : ℕ) (stream piece : List ℕ) → HasCut old start stream → HasNoFeed piece → new.limit ≡ old.limit → new.ready ≡ old.ready → new.begun ≡ old.begun → IsRest old.limit (rest_of stream ++ piece) new.partial → HasCut new start (stream ++ piece)
stands_plain old new start stream piece stands plain limit ready begun rest =
    let more = rest_of-plain stream piece plain in
    let longer = length-append (rest_of stream) piece in
    let sizes = length-append stream piece in
    let size = ap (λ (r : List ℕ). length r) more in
    let before = stands.begun in
    record {
      ready = ready ∙ stands.ready ∙ ap (λ n. cuts_of n start (lines_of stream)) (sym limit) ∙ ap (cuts_of new.limit start) (sym (lines_of-plain stream piece plain));
      begun = omega arith;
      rest = subst (λ n. IsRest n (rest_of (stream ++ piece)) new.partial) (sym limit) (subst (λ r. IsRest old.limit r new.partial) (sym more) rest);
    }

-- the line that was begun ends, and more comes behind its line feed
pub stands_ended : (old new : Cutter) (start end : ℕ) (stream front behind : List ℕ) (cut : Cut) (later : List Cut) → HasCut old start stream → HasNoFeed front → end ≡ old.begun + old.partial.size + length front + 1 → cut ≡ cut_of old.limit end (rest_of stream ++ front) → later ≡ cuts_of old.limit end (lines_of behind) → new.limit ≡ old.limit → new.ready ≡ old.ready ++ cut ∷ [] ++ later → new.begun + length (rest_of behind) ≡ end + length behind → IsRest old.limit (rest_of behind) new.partial → HasCut new start (stream ++ front ++ 10 ∷ behind)
stands_ended old new start end stream front behind cut later stands plain end_is cut_is later_is limit ready begun rest =
    let lines = lines_of-ended stream front behind plain in
    let rests = rest_of-ended stream front behind plain in
    let longer = length-append (rest_of stream) front in
    let size = length-append stream front in
    let whole = length-append (stream ++ front) (10 ∷ behind) in
    let rests_size = ap (λ (r : List ℕ). length r) rests in
    let before = stands.begun in
    let old_size = stands.rest.size in
    let spans = span_of stream in
    let first : start + span (lines_of stream) + length (rest_of stream ++ front) + 1 ≡ end = omega arith in
    let tail : cuts_of old.limit (start + span (lines_of stream)) ((rest_of stream ++ front) ∷ lines_of behind) ≡ cut ∷ later =
    ap (λ n. cut_of old.limit n (rest_of stream ++ front) ∷ cuts_of old.limit n (lines_of behind)) first ∙ ap (λ c. c ∷ cuts_of old.limit end (lines_of behind)) (sym cut_is) ∙ ap (λ cs. cut ∷ cs) (sym later_is) in
    let all : cuts_of old.limit start (lines_of (stream ++ front ++ 10 ∷ behind)) ≡ old.ready ++ (cut ∷ later) =
    ap (cuts_of old.limit start) lines ∙ cuts_of-append old.limit start (lines_of stream) ((rest_of stream ++ front) ∷ lines_of behind)
    ∙ ap (λ cs. cs ++ cuts_of old.limit (start + span (lines_of stream)) ((rest_of stream ++ front) ∷ lines_of behind)) (sym stands.ready) ∙ ap (λ cs. old.ready ++ cs) tail in
    record {
      ready = ready ∙ append_assoc old.ready (cut ∷ []) later ∙ sym all ∙ ap (λ n. cuts_of n start (lines_of (stream ++ front ++ 10 ∷ behind))) (sym limit);
      begun = omega arith;
      rest = subst (λ n. IsRest n (rest_of (stream ++ front ++ 10 ∷ behind)) new.partial) (sym limit) (subst (λ r. IsRest old.limit r new.partial) (sym rests) rest);
    }

no_longer : {X : Type 0} → (x : X) (xs ys : List X) → x ∷ xs ≡ ys → ys ≡ xs → ⊥
no_longer x xs ys longer same = let sizes = ap length (longer ∙ same) in omega arith

-- the first of the ready lines is taken, or there is none
pub taken : (old new : Cutter) (start : ℕ) (stream : List ℕ) (result : Option Cut) → HasCut old start stream → old.ready ≡ option_to_list result ++ new.ready → new.ready ≡ drop 1 old.ready → new.limit ≡ old.limit → new.begun ≡ old.begun → new.partial ≡ old.partial → IfNone result (HasNoFeed stream) × IfSome result (λ cut. TakesLine old new start stream cut)
taken old new start stream result stands items rest limit begun partial = by_line (first_line stream) result items where
  by_plain : HasNoFeed stream → (r : Option Cut) → old.ready ≡ option_to_list r ++ new.ready → IfNone r (HasNoFeed stream) × IfSome r (λ cut. TakesLine old new start stream cut)
  by_plain plain None is = (plain, tt)
  by_plain plain (Some cut) is =
      let none : old.ready ≡ [] = stands.ready ∙ ap (cuts_of old.limit start) (no_cuts stream plain) in
      absurd (let no : ⊥ = cc in no)

  by_first : (line behind : List ℕ) → stream ≡ line ++ 10 ∷ behind → HasNoFeed line → old.ready ≡ cut_of old.limit (start + length line + 1) line ∷ cuts_of old.limit (start + length line + 1) (lines_of behind) → (r : Option Cut) → old.ready ≡ option_to_list r ++ new.ready → IfNone r (HasNoFeed stream) × IfSome r (λ cut. TakesLine old new start stream cut)
  by_first line behind e plain ready None is = absurd (no_longer _ _ new.ready (sym ready ∙ is) (rest ∙ ap (drop 1) ready))
  by_first line behind e plain ready (Some cut) is =
      let first : cut ≡ cut_of old.limit (start + length line + 1) line = cc in
      let others : new.ready ≡ cuts_of old.limit (start + length line + 1) (lines_of behind) = rest ∙ ap (drop 1) ready in
      let rests : rest_of stream ≡ rest_of behind = ap rest_of e ∙ rest_of-first line behind plain in
      let sizes = ap (λ (r : List ℕ). length r) rests in
      let whole = ap (λ (r : List ℕ). length r) e ∙ length-append line (10 ∷ behind) in
      let before = stands.begun in
      let stands_behind : HasCut new (start + length line + 1) behind = record {
        ready = others ∙ ap (λ n. cuts_of n (start + length line + 1) (lines_of behind)) (sym limit);
        begun = omega arith;
        rest = subst (λ n. IsRest n (rest_of behind) new.partial) (sym limit) (subst (λ (p : Partial). IsRest old.limit (rest_of behind) p) (sym partial) (subst (λ r. IsRest old.limit r old.partial) rests stands.rest));
      } in
      (tt, record { line = line; behind = behind; stream_is = e; plain = plain; cut_is = first; limit = limit; stands = stands_behind })

  by_line : HasNoFeed stream ⊎ ((line : List ℕ) × (behind : List ℕ) × (stream ≡ line ++ 10 ∷ behind) × HasNoFeed line) → (r : Option Cut) → old.ready ≡ option_to_list r ++ new.ready → IfNone r (HasNoFeed stream) × IfSome r (λ cut. TakesLine old new start stream cut)
  by_line (inl plain) r is = by_plain plain r is
  by_line (inr (line, behind, e, plain)) r is = by_first line behind e plain (stands.ready ∙ ap (cuts_of old.limit start) (ap lines_of e ∙ lines_of-first line behind plain)) r is

pub on_ok : {T E P Q : Type 0} → (r : Result T E) → (P → Q) → OnOk r P → OnOk r Q
on_ok (Ok v) f p = f p
on_ok (Err e) f p = tt
