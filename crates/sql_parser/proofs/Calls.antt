-- Columns and calls.
use Rattle.std.proofs.Common.{◌≡◌, ◌≢◌, ◌<◌, ◌≤◌, ◌+◌, ℕ, List, [], ◌∷◌, ◌++◌, Option, Some, None, Bool, true, false, cond, Result, Ok, Err, refl, sym, ap, subst, ◌∙◌, append_assoc}
use Rattle.sql_tokens.specs.declared.token.Token.{Token}
use Rattle.sql_tokens.specs.declared.token.Kind.{Kind}
use Rattle.sql_tokens.specs.declared.token.Kind.TheVariants as kind
use Rattle.sql_tokens.specs.declared.token.Word.{Word}
use Rattle.sql_tokens.specs.declared.token.Word.TheVariants as word
use Rattle.sql_tree.specs.declared.functions.Function.TheVariants as function
use Rattle.sql_tokens.specs.declared.level.Level.TheVariants as level
use Rattle.sql_faults.specs.declared.part.Part.{Part}
use Rattle.sql_faults.specs.declared.part.Part.TheVariants.{One, Must, May}
use Rattle.sql_faults.specs.declared.part.Expected.TheVariants as expected
use Rattle.sql_faults.specs.declared.part.Rule.TheVariants as rule
use Rattle.sql_faults.specs.declared.part.Optional.TheVariants as optional
use Rattle.sql_parser.specs.declared.stop.Stop.{Stop}
use Rattle.sql_parser.specs.declared.stop.Stop.TheVariants.{Refused, NoMemory}
use Rattle.sql_tree.specs.declared.tree.Node.{Node}
use Rattle.sql_tokens.specs.Tokens.{next, after}
use Rattle.sql_tree.specs.Tree.{Tree, Trees, no_trees, and_tree}
use Rattle.sql_tree.specs.Tree as tree
use Rattle.sql_tree.specs.View.{tree_of}
use Rattle.sql_faults.specs.Calls.{IsNamed, name_of, call_of, is_known, is_allowed, takes_shape, folds, folded_of, type_of}
use Rattle.sql_faults.specs.declared.arguments.Shape.{Shape}
use Rattle.sql_faults.specs.declared.arguments.Shape.TheVariants as shape
use Rattle.sql_parser.specs.Grammar.{chain, atom, Spells, SpellsArguments, FurtherArguments, a_column, a_table_column, a_call, a_cast, all_rows, distinct_arguments, plain_arguments, SpellsCounted, first_argument, last_argument, one_argument}
use Rattle.sql_faults.specs.Reading.{settled, deeper, one_longer, untyped, type_fault, type_parts, fits, found, at_limit, name_fault, atom_by, name_by, arguments_by, after_argument_by, or_by, cast_parts}
use Rattle.sql_parser.specs.Descent.{Leads, Fails, Stopped, IsRead, Descends, MemberRead, call_parts, CallDescends, counted_parts, CountedDescends, IsClosed, CloseDescends, CallAllowed, TypeNamed, IsType, IsCast, CastDescends}
use Rattle.sql_parser.proofs.Laws.{leads_on, leads_with, fails_with, fails_later, leads_rule, leads_in, leads_past, fails_one, fails_found, same_settled}
use Rattle.sql_parser.proofs.Arms.{stopped_later, stopped_with, leads_take, below_limit, past_limit, deeper_is, leads_close, fails_close, open_misfit}
use Rattle.sql_parser.proofs.Shorter.{named_no_end}

-- ---- a name

name_alternative : (d : ℕ) (t : Token) (k : Kind) (w : Word) → IsNamed k w → atom_by d t k ≡ One expected.Chosen ∷ May (optional.AfterName d t.span.start w) ∷ []
unfolding atom_by
name_alternative d t (kind.Name v) w h = ap (λ (x : Word). One expected.Chosen ∷ May (optional.AfterName d t.span.start x) ∷ []) h
name_alternative d t (kind.QuotedName v) w h = ap (λ (x : Word). One expected.Chosen ∷ May (optional.AfterName d t.span.start x) ∷ []) h
name_alternative d t other w h = absurd h

pub leads_name : (d : ℕ) (w : Word) (ts mid : List Token) → IsNamed (next ts).kind w → mid ≡ after ts → Leads (Must (rule.Atom d) ∷ []) (May (optional.AfterName d (next ts).span.start w) ∷ []) ts mid
unfolding fits found
leads_name d w ts mid n m =
    leads_on (leads_rule (rule.Atom d) expected.Chosen _ ts (name_alternative d (next ts) (next ts).kind w n))
    (leads_with (May (optional.AfterName d (next ts).span.start w) ∷ []) (leads_take expected.Chosen ts mid refl refl (named_no_end (next ts).kind w n) m))

no_more_name : (d p : ℕ) (w : Word) (k : Kind) → k ≢ kind.Dot → k ≢ kind.Open → name_by d p w k ≡ None
unfolding name_by
no_more_name d p w kind.Dot f g = absurd (f refl)
no_more_name d p w kind.Open f g = absurd (g refl)
no_more_name d p w other f g = refl

pub read_column : (d : ℕ) (w : Word) (ts mid : List Token) (whole : Tree) → IsNamed (next ts).kind w → mid ≡ after ts → (next mid).kind ≢ kind.Dot → (next mid).kind ≢ kind.Open → whole ≡ tree.column None (name_of (next ts)) → IsRead atom (rule.Atom d) ts whole mid
read_column d w ts mid whole n m f g e = subst (λ (x : Tree). IsRead atom (rule.Atom d) ts x mid) (sym e) (record {
  spelled = subst (λ (x : List Token). Spells atom ts (tree.column None (name_of (next ts))) x) (sym m) (a_column w n (subst (λ (x : List Token). (next x).kind ≢ kind.Dot) m f) (subst (λ (x : List Token). (next x).kind ≢ kind.Open) m g));
  reads = leads_on (leads_name d w ts mid n m) (leads_past (optional.AfterName d (next ts).span.start w) mid (no_more_name d (next ts).span.start w (next mid).kind f g));
})

pub leads_dot : (d p : ℕ) (w : Word) (ts mid : List Token) → (next ts).kind ≡ kind.Dot → mid ≡ after ts → Leads (May (optional.AfterName d p w) ∷ []) (One expected.Name ∷ []) ts mid
unfolding name_by fits found
leads_dot d p w ts mid k m = leads_on (leads_in (optional.AfterName d p w) expected.Chosen (One expected.Name ∷ []) ts (ap (name_by d p w) k)) (leads_with (One expected.Name ∷ []) (leads_take expected.Chosen ts mid refl refl (λ e. cc) m))

pub name_fits : (k : Kind) (w : Word) → IsNamed k w → fits expected.Name k ≡ true
unfolding fits
name_fits (kind.Name v) w h = refl
name_fits (kind.QuotedName v) w h = refl
name_fits other w h = absurd h

pub name_misfit : (k : Kind) → ((w : Word) → IsNamed k w → ⊥) → fits expected.Name k ≡ false
unfolding fits
name_misfit (kind.Name v) h = absurd (h v refl)
name_misfit (kind.QuotedName v) h = absurd (h v refl)
name_misfit other h = refl

-- a table's name, a dot and a column's name
pub member_descent : (d : ℕ) (w : Word) (ts mid here new : List Token) (result : Result Node Stop) → IsNamed (next ts).kind w → mid ≡ after ts → (next mid).kind ≡ kind.Dot → here ≡ after mid → MemberRead (name_of (next ts)) here result new
    → Descends atom (rule.Atom d) ts result new
unfolding found
member_descent d w ts mid here new (Ok node) n m k g h = subst (λ (x : Tree). IsRead atom (rule.Atom d) ts x new) (sym h.2) (record {
  spelled = subst (λ (x : List Token). Spells atom ts (tree.column (Some (name_of (next ts))) (name_of (next here))) x) (sym h.3)
      (subst (λ (x : List Token). Spells atom ts (tree.column (Some (name_of (next ts))) (name_of (next x))) (after x)) (sym (g ∙ ap after m))
      (a_table_column w h.0 n (subst (λ (x : List Token). (next x).kind ≡ kind.Dot) m k) (subst (λ (x : List Token). IsNamed (next x).kind h.0) (g ∙ ap after m) h.1)));
  reads = leads_on (leads_name d w ts mid n m) (leads_on (leads_dot d (next ts).span.start w mid here k g) (leads_take expected.Name here new (name_fits (next here).kind h.0 h.1) refl (named_no_end (next here).kind h.0 h.1) h.3));
})
member_descent d w ts mid here new (Err Refused) n m k g h = fails_later (leads_on (leads_name d w ts mid n m) (leads_dot d (next ts).span.start w mid here k g)) (fails_one expected.Name here (name_misfit (next here).kind h))
member_descent d w ts mid here new (Err NoMemory) n m k g h = absurd h

-- ---- a call

pub leads_call : (d p : ℕ) (w : Word) (ts : List Token) → (next ts).kind ≡ kind.Open → Leads (May (optional.AfterName d p w) ∷ []) (call_parts d p w) ts ts
unfolding name_by
leads_call d p w ts k = leads_in (optional.AfterName d p w) (expected.Call d p w) (Must (rule.Arguments (deeper d) p w) ∷ []) ts (ap (name_by d p w) k)

pub call_descent : (d p : ℕ) (w : Word) (ts mid new : List Token) (result : Result Node Stop) → IsNamed (next ts).kind w → mid ≡ after ts → (next mid).kind ≡ kind.Open → p ≡ (next ts).span.start → CallDescends d p w mid result new → Descends atom (rule.Atom d) ts result new
call_descent d p w ts mid new (Ok node) n m k e h = record {
  spelled = a_call w n (subst (λ (x : List Token). SpellsArguments x h.has h.items new) m h.spelled) (subst (λ (x : ℕ). call_of x w h.has h.items ≡ Some (tree_of node)) e h.allowed);
  reads = leads_on (leads_name d w ts mid n m) (leads_on (leads_call d (next ts).span.start w mid k) (subst (λ (x : ℕ). Leads (call_parts d x w) [] mid new) e h.reads));
}
call_descent d p w ts mid new (Err s) n m k e h =
    stopped_later s (leads_on (leads_name d w ts mid n m) (leads_call d (next ts).span.start w mid k)) (subst (λ (x : ℕ). Stopped (call_parts d x w) mid s) e h)

found_call : (b : Bool) (d p : ℕ) (t : Token) → b ≡ false → cond b (at_limit d 64 t) (name_fault p ∷ []) ≢ []
found_call true d p t h = absurd (cc)
found_call false d p t h = λ e. cc

pub fails_unknown : (d p : ℕ) (w : Word) (ts : List Token) → is_known w ≡ false → Fails (call_parts d p w) ts
unfolding fits found
fails_unknown d p w ts h = fails_with (Must (rule.Arguments (deeper d) p w) ∷ []) (fails_found (expected.Call d p w) ts refl (found_call (is_known w) d p (next ts) h))

found_deep_call : (b : Bool) (d p : ℕ) (t : Token) → 64 ≤ d → cond b (at_limit d 64 t) (name_fault p ∷ []) ≢ []
found_deep_call true d p t h = past_limit d 64 t h
found_deep_call false d p t h = λ e. cc

pub fails_deep_call : (d p : ℕ) (w : Word) (ts : List Token) → 64 ≤ d → Fails (call_parts d p w) ts
unfolding fits found
fails_deep_call d p w ts h = fails_with (Must (rule.Arguments (deeper d) p w) ∷ []) (fails_found (expected.Call d p w) ts refl (found_deep_call (is_known w) d p (next ts) h))

found_known : (b : Bool) (d p : ℕ) (t : Token) → b ≡ true → d < 64 → cond b (at_limit d 64 t) (name_fault p ∷ []) ≡ []
found_known true d p t h lt = below_limit d 64 t lt
found_known false d p t h lt = absurd (cc)

-- the parenthesis of a call whose name is known, inside fewer nestings than may be open
pub record IsOpening (d p : ℕ) (w : Word) (ts mid : List Token) : Type 0 where
  pub known : is_known w ≡ true
  pub opened : (next ts).kind ≡ kind.Open
  pub room : d < 64
  pub takes : mid ≡ after ts

pub leads_arguments : (d p : ℕ) (w : Word) (ts mid : List Token) → IsOpening d p w ts mid → Leads (call_parts d p w) (Must (rule.Arguments (d + 1) p w) ∷ []) ts mid
unfolding fits found
leads_arguments d p w ts mid o =
    let k = o.opened in
    subst (λ (n : ℕ). Leads (call_parts d p w) (Must (rule.Arguments n p w) ∷ []) ts mid) (deeper_is d o.room) (leads_with (Must (rule.Arguments (deeper d) p w) ∷ []) (leads_take (expected.Call d p w) ts mid refl (found_known (is_known w) d p (next ts) o.known o.room) (λ e. cc) o.takes))

none_allowed : (w : Word) → is_allowed w (shape.Plain 0) ≡ false
none_allowed word.Plain = refl
none_allowed (word.Scalar function.Length) = refl
none_allowed (word.Scalar function.Lower) = refl
none_allowed (word.Scalar function.Upper) = refl
none_allowed (word.Scalar function.Trim) = refl
none_allowed (word.Scalar function.Substr) = refl
none_allowed (word.Scalar function.Instr) = refl
none_allowed (word.Scalar function.Replace) = refl
none_allowed (word.Scalar function.Abs) = refl
none_allowed (word.Scalar function.Typeof) = refl
none_allowed (word.Scalar function.Coalesce) = refl
none_allowed (word.Scalar function.Ifnull) = refl
none_allowed (word.Scalar function.Nullif) = refl
none_allowed (word.Aggregate f) = refl
none_allowed word.IntegerType = refl
none_allowed word.TextType = refl

-- ---- the parenthesis that closes a call

end_fault : (b : Bool) (p : ℕ) → b ≡ false → cond b [] (name_fault p ∷ []) ≢ []
end_fault true p h = absurd (cc)
end_fault false p h = λ e. cc

pub fails_end : (p : ℕ) (w : Word) (s : Shape) (ts : List Token) → (next ts).kind ≡ kind.Close → is_allowed w s ≡ false → Fails (One (expected.EndOfCall p w s) ∷ []) ts
unfolding fits found
fails_end p w s ts k h = fails_found (expected.EndOfCall p w s) ts (ap (fits (expected.EndOfCall p w s)) k) (end_fault (is_allowed w s) p h)

end_misfit : (p : ℕ) (w : Word) (s : Shape) (k : Kind) → k ≢ kind.Close → fits (expected.EndOfCall p w s) k ≡ false
unfolding fits
end_misfit p w s kind.Close h = absurd (h refl)
end_misfit p w s other h = refl

pub call_unclosed : (p : ℕ) (w : Word) (s : Shape) (ts : List Token) → (next ts).kind ≢ kind.Close → Fails (One (expected.EndOfCall p w s) ∷ []) ts
call_unclosed p w s ts h = fails_one (expected.EndOfCall p w s) ts (end_misfit p w s (next ts).kind h)

pub call_refused : (p : ℕ) (w : Word) (s : Shape) (items : Trees) (ts : List Token) (e : Stop) → (next ts).kind ≡ kind.Close → CallAllowed p w s items (Err e) → Stopped (One (expected.EndOfCall p w s) ∷ []) ts e
call_refused p w s items ts Refused k h = fails_end p w s ts k h
call_refused p w s items ts NoMemory k h = tt

permitted : (b : Bool) (x t : Tree) → cond b (Some x) None ≡ Some t → b ≡ true
permitted true x t h = refl
permitted false x t h = absurd (cc)

is_permitted : (p : ℕ) (w : Word) (s : Shape) (items : Trees) (t : Tree) → call_of p w s items ≡ Some t → is_allowed w s ≡ true
is_permitted p word.Plain s items t h = absurd (cc)
is_permitted p (word.Scalar f) s items t h = permitted (takes_shape f s) (tree.call f items) t h
is_permitted p (word.Aggregate f) s items t h = permitted (folds f s) (folded_of p f s items) t h
is_permitted p word.IntegerType s items t h = absurd (cc)
is_permitted p word.TextType s items t h = absurd (cc)

found_allowed : (b : Bool) (p : ℕ) → b ≡ true → cond b [] (name_fault p ∷ []) ≡ []
found_allowed true p h = refl
found_allowed false p h = absurd (cc)

pub leads_end : (p : ℕ) (w : Word) (s : Shape) (items : Trees) (tree : Tree) (ts mid : List Token) → IsClosed p w s items ts tree mid → Leads (One (expected.EndOfCall p w s) ∷ []) [] ts mid
unfolding fits found
leads_end p w s items t ts mid h =
    let k = h.closed in
    leads_take (expected.EndOfCall p w s) ts mid (ap (fits (expected.EndOfCall p w s)) h.closed) (found_allowed (is_allowed w s) p (is_permitted p w s items t h.allowed)) (λ e. cc) h.takes

-- no argument
pub fails_empty_call : (d p : ℕ) (w : Word) (ts mid : List Token) → IsOpening d p w ts mid → (next mid).kind ≡ kind.Close → Fails (call_parts d p w) ts
unfolding arguments_by
fails_empty_call d p w ts mid o c =
    fails_later (leads_on (leads_arguments d p w ts mid o) (leads_rule (rule.Arguments (d + 1) p w) (expected.EndOfCall p w (shape.Plain 0)) [] mid (ap (arguments_by (d + 1) p w (next mid)) c))) (fails_end p w (shape.Plain 0) mid c (none_allowed w))

-- ---- all rows

pub leads_all : (d p : ℕ) (w : Word) (ts mid here : List Token) → IsOpening d p w ts mid → (next mid).kind ≡ kind.Star → here ≡ after mid → Leads (call_parts d p w) (One (expected.EndOfCall p w shape.All) ∷ []) ts here
unfolding arguments_by fits found
leads_all d p w ts mid here o k m =
    leads_on (leads_arguments d p w ts mid o)
    (leads_on (leads_rule (rule.Arguments (d + 1) p w) expected.Chosen (One (expected.EndOfCall p w shape.All) ∷ []) mid (ap (arguments_by (d + 1) p w (next mid)) k))
    (leads_with (One (expected.EndOfCall p w shape.All) ∷ []) (leads_take expected.Chosen mid here refl refl (λ e. cc) m)))

pub all_spelled : (ts mid here new : List Token) → (next ts).kind ≡ kind.Open → mid ≡ after ts → (next mid).kind ≡ kind.Star → here ≡ after mid → (next here).kind ≡ kind.Close → new ≡ after here → SpellsArguments ts shape.All no_trees new
all_spelled ts mid here new o m k g c e =
    subst (λ (x : List Token). SpellsArguments ts shape.All no_trees x) (sym (e ∙ ap after (g ∙ ap after m)))
    (all_rows o (subst (λ (x : List Token). (next x).kind ≡ kind.Star) m k) (subst (λ (x : List Token). (next x).kind ≡ kind.Close) (g ∙ ap after m) c))

pub all_descent : (d p : ℕ) (w : Word) (ts mid here new : List Token) (items : Trees) (result : Result Node Stop) → IsOpening d p w ts mid → (next mid).kind ≡ kind.Star → here ≡ after mid → items ≡ no_trees → CloseDescends p w shape.All items here result new
    → CallDescends d p w ts result new
all_descent d p w ts mid here new items (Ok node) o k g e h = record {
  items = no_trees;
  has = shape.All;
  spelled = all_spelled ts mid here new o.opened o.takes k g h.closed h.takes;
  allowed = subst (λ (x : Trees). call_of p w shape.All x ≡ Some (tree_of node)) e h.allowed;
  reads = leads_on (leads_all d p w ts mid here o k g) (leads_end p w shape.All items (tree_of node) here new h);
}
all_descent d p w ts mid here new items (Err s) o k g e h = stopped_later s (leads_all d p w ts mid here o k g) h

-- ---- counted arguments

pub leads_distinct : (d p : ℕ) (w : Word) (ts mid here : List Token) → IsOpening d p w ts mid → (next mid).kind ≡ kind.Distinct → here ≡ after mid → Leads (call_parts d p w) (counted_parts (d + 1) p w (shape.Distinct 1)) ts here
unfolding arguments_by fits found
leads_distinct d p w ts mid here o k m =
    leads_on (leads_arguments d p w ts mid o)
    (leads_on (leads_rule (rule.Arguments (d + 1) p w) expected.Chosen (counted_parts (d + 1) p w (shape.Distinct 1)) mid (ap (arguments_by (d + 1) p w (next mid)) k))
    (leads_with (counted_parts (d + 1) p w (shape.Distinct 1)) (leads_take expected.Chosen mid here refl refl (λ e. cc) m)))

pub distinct_descent : (d p : ℕ) (w : Word) (ts mid here new : List Token) (result : Result Node Stop) → IsOpening d p w ts mid → (next mid).kind ≡ kind.Distinct → here ≡ after mid → CountedDescends (d + 1) p w (shape.Distinct 1) here result new → CallDescends d p w ts result new
distinct_descent d p w ts mid here new (Ok node) o k g h = record {
  items = h.items;
  has = h.has;
  spelled = distinct_arguments o.opened (subst (λ (x : List Token). (next x).kind ≡ kind.Distinct) o.takes k) (subst (λ (x : List Token). SpellsCounted x (shape.Distinct 1) h.has h.items new) (g ∙ ap after o.takes) h.spelled);
  allowed = h.allowed;
  reads = leads_on (leads_distinct d p w ts mid here o k g) h.reads;
}
distinct_descent d p w ts mid here new (Err s) o k g h = stopped_later s (leads_distinct d p w ts mid here o k g) h

plain_alternative : (d p : ℕ) (w : Word) (t : Token) (k : Kind) → k ≢ kind.Close → k ≢ kind.Star → k ≢ kind.Distinct → arguments_by d p w t k ≡ or_by d t k ++ Must (rule.AfterArgument d p w (shape.Plain 1)) ∷ []
unfolding arguments_by
plain_alternative d p w t kind.Close h i j = absurd (h refl)
plain_alternative d p w t kind.Star h i j = absurd (i refl)
plain_alternative d p w t kind.Distinct h i j = absurd (j refl)
plain_alternative d p w t other h i j = refl

pub leads_plain : (d p : ℕ) (w : Word) (ts : List Token) → (next ts).kind ≢ kind.Close → (next ts).kind ≢ kind.Star → (next ts).kind ≢ kind.Distinct → Leads (Must (rule.Arguments d p w) ∷ []) (counted_parts d p w (shape.Plain 1)) ts ts
unfolding settled
leads_plain d p w ts h i j = record {
  holds = λ parts. same_settled (Must (rule.Arguments d p w) ∷ parts) (Must (rule.Chain level.Or d) ∷ Must (rule.AfterArgument d p w (shape.Plain 1)) ∷ parts) ts
      (ap (λ (x : List Part). x ++ parts) (plain_alternative d p w (next ts) (next ts).kind h i j) ∙ append_assoc (or_by d (next ts) (next ts).kind) (Must (rule.AfterArgument d p w (shape.Plain 1)) ∷ []) parts);
}

pub plain_descent : (d p : ℕ) (w : Word) (ts mid new : List Token) (result : Result Node Stop) → IsOpening d p w ts mid → (next mid).kind ≢ kind.Close → (next mid).kind ≢ kind.Star → (next mid).kind ≢ kind.Distinct → CountedDescends (d + 1) p w (shape.Plain 1) mid result new
    → CallDescends d p w ts result new
plain_descent d p w ts mid new (Ok node) o c s t h = record {
  items = h.items;
  has = h.has;
  spelled = plain_arguments o.opened (subst (λ (x : List Token). (next x).kind ≢ kind.Close) o.takes c) (subst (λ (x : List Token). (next x).kind ≢ kind.Star) o.takes s) (subst (λ (x : List Token). (next x).kind ≢ kind.Distinct) o.takes t)
      (subst (λ (x : List Token). SpellsCounted x (shape.Plain 1) h.has h.items new) o.takes h.spelled);
  allowed = h.allowed;
  reads = leads_on (leads_on (leads_arguments d p w ts mid o) (leads_plain (d + 1) p w mid c s t)) h.reads;
}
plain_descent d p w ts mid new (Err e) o c s t h = stopped_later e (leads_on (leads_arguments d p w ts mid o) (leads_plain (d + 1) p w mid c s t)) h

pub record IsCountedSoFar (d p : ℕ) (w : Word) (one : Shape) (ts : List Token) (items : Trees) (s : Shape) (here : List Token) : Type 0 where
  pub spelled : (total : Shape) (all : Trees) (rest : List Token) → FurtherArguments here s items total all rest → SpellsCounted ts one total all rest
  pub reads : Leads (counted_parts d p w one) (Must (rule.AfterArgument d p w s) ∷ []) ts here

pub counted_start : (d p : ℕ) (w : Word) (one : Shape) (ts here : List Token) (item : Tree) (items : Trees) → IsRead (chain level.Or) (rule.Chain level.Or d) ts item here → items ≡ and_tree no_trees item → IsCountedSoFar d p w one ts items one here
counted_start d p w one ts here item items h e = subst (λ (x : Trees). IsCountedSoFar d p w one ts x one here) (sym e) (record {
  spelled = λ total all rest f. first_argument h.spelled f;
  reads = leads_with (Must (rule.AfterArgument d p w one) ∷ []) h.reads;
})

leads_next_argument : (d p : ℕ) (w : Word) (s : Shape) (ts mid : List Token) → (next ts).kind ≡ kind.Comma → mid ≡ after ts → Leads (Must (rule.AfterArgument d p w s) ∷ []) (counted_parts d p w (one_longer s)) ts mid
unfolding after_argument_by fits found
leads_next_argument d p w s ts mid k m =
    leads_on (leads_rule (rule.AfterArgument d p w s) expected.Chosen _ ts (ap (after_argument_by d p w s) k))
    (leads_with (counted_parts d p w (one_longer s)) (leads_take expected.Chosen ts mid refl refl (λ e. cc) m))

pub stopped_argument : (d p : ℕ) (w : Word) (one : Shape) (ts here mid : List Token) (items : Trees) (s : Shape) (e : Stop) → IsCountedSoFar d p w one ts items s here → (next here).kind ≡ kind.Comma → mid ≡ after here → Stopped (Must (rule.Chain level.Or d) ∷ []) mid e → Stopped (counted_parts d p w one) ts e
stopped_argument d p w one ts here mid items s e h k m g =
    stopped_later e (leads_on h.reads (leads_next_argument d p w s here mid k m)) (stopped_with (Must (rule.Chain level.Or d) ∷ []) (Must (rule.AfterArgument d p w (one_longer s)) ∷ []) mid e g)

pub counted_more : (d p : ℕ) (w : Word) (one : Shape) (ts here mid new : List Token) (items whole : Trees) (item : Tree) (s more : Shape) → IsCountedSoFar d p w one ts items s here → (next here).kind ≡ kind.Comma → mid ≡ after here → IsRead (chain level.Or) (rule.Chain level.Or d) mid item new
    → whole ≡ and_tree items item → more ≡ one_longer s → IsCountedSoFar d p w one ts whole more new
counted_more d p w one ts here mid new items whole item s more h k m g e c = subst (λ (n : Shape). IsCountedSoFar d p w one ts whole n new) (sym c) (subst (λ (x : Trees). IsCountedSoFar d p w one ts x (one_longer s) new) (sym e) (record {
  spelled = λ total all rest f. h.spelled total all rest (one_argument k (subst (λ (x : List Token). Spells (chain level.Or) x item new) m g.spelled) f);
  reads = leads_on h.reads (leads_on (leads_next_argument d p w s here mid k m) (leads_with (Must (rule.AfterArgument d p w (one_longer s)) ∷ []) g.reads));
}))

last_of : (d p : ℕ) (w : Word) (s : Shape) (k : Kind) → k ≢ kind.Comma → after_argument_by d p w s k ≡ One (expected.EndOfCall p w s) ∷ []
unfolding after_argument_by
last_of d p w s kind.Comma h = absurd (h refl)
last_of d p w s other h = refl

pub leads_last : (d p : ℕ) (w : Word) (s : Shape) (ts : List Token) → (next ts).kind ≢ kind.Comma → Leads (Must (rule.AfterArgument d p w s) ∷ []) (One (expected.EndOfCall p w s) ∷ []) ts ts
leads_last d p w s ts h = leads_rule (rule.AfterArgument d p w s) (expected.EndOfCall p w s) [] ts (last_of d p w s (next ts).kind h)

pub counted_end : (d p : ℕ) (w : Word) (one : Shape) (ts here new : List Token) (items : Trees) (s : Shape) (result : Result Node Stop) → IsCountedSoFar d p w one ts items s here → (next here).kind ≢ kind.Comma → CloseDescends p w s items here result new → CountedDescends d p w one ts result new
counted_end d p w one ts here new items s (Ok node) h n k = record {
  items = items;
  has = s;
  spelled = subst (λ (x : List Token). SpellsCounted ts one s items x) (sym k.takes) (h.spelled s items (after here) (last_argument k.closed));
  allowed = k.allowed;
  reads = leads_on h.reads (leads_on (leads_last d p w s here n) (leads_end p w s items (tree_of node) here new k));
}
counted_end d p w one ts here new items s (Err e) h n k = stopped_later e (leads_on h.reads (leads_last d p w s here n)) k

-- ---- casts

as_misfit : (k : Kind) → k ≢ kind.As → fits expected.As k ≡ false
unfolding fits
as_misfit kind.As h = absurd (h refl)
as_misfit other h = refl

pub fails_as : (ts : List Token) → (next ts).kind ≢ kind.As → Fails type_parts ts
fails_as ts h = fails_with (One expected.Type ∷ One expected.Close ∷ []) (fails_one expected.As ts (as_misfit (next ts).kind h))

pub leads_as : (ts mid : List Token) → (next ts).kind ≡ kind.As → mid ≡ after ts → Leads type_parts (One expected.Type ∷ One expected.Close ∷ []) ts mid
unfolding fits found
leads_as ts mid k m = leads_with (One expected.Type ∷ One expected.Close ∷ []) (leads_take expected.As ts mid (ap (fits expected.As) k) refl (λ e. cc) m)

type_fits : (k : Kind) (w : Word) → IsNamed k w → fits expected.Type k ≡ true
unfolding fits
type_fits (kind.Name v) w h = refl
type_fits (kind.QuotedName v) w h = refl
type_fits other w h = absurd h

type_known : (t : Token) (k : Kind) (w : Word) (is_text : Bool) → IsNamed k w → type_of w ≡ Some is_text → type_fault t k ≡ []
unfolding type_fault
type_known t (kind.Name v) w is_text n h = rw (n, h) refl
type_known t (kind.QuotedName v) w is_text n h = rw (n, h) refl
type_known t other w is_text n h = absurd n

pub leads_type : (ts mid : List Token) (w : Word) (is_text : Bool) → IsNamed (next ts).kind w → type_of w ≡ Some is_text → mid ≡ after ts → Leads (One expected.Type ∷ []) [] ts mid
unfolding found
leads_type ts mid w is_text n h m = leads_take expected.Type ts mid (type_fits (next ts).kind w n) (type_known (next ts) (next ts).kind w is_text n h) (named_no_end (next ts).kind w n) m

untyped_some : (t : Token) (o : Option Bool) → o ≡ None → untyped t o ≢ []
untyped_some t None h = λ e. cc
untyped_some t (Some is_text) h = absurd (cc)

pub fails_type : (ts : List Token) (k : Kind) → (next ts).kind ≡ k → ((w : Word) → IsNamed k w → type_of w ≡ None) → Fails (One expected.Type ∷ []) ts
unfolding fits found type_fault
fails_type ts (kind.Name v) e h = fails_found expected.Type ts (ap (fits expected.Type) e) (subst (λ (x : Kind). type_fault (next ts) x ≢ []) (sym e) (untyped_some (next ts) (type_of v) (h v refl)))
fails_type ts (kind.QuotedName v) e h = fails_found expected.Type ts (ap (fits expected.Type) e) (subst (λ (x : Kind). type_fault (next ts) x ≢ []) (sym e) (untyped_some (next ts) (type_of v) (h v refl)))
fails_type ts other e h = fails_one expected.Type ts (ap (fits expected.Type) e)

pub type_refused : (ts mid : List Token) (k : Kind) (e : Stop) → (next ts).kind ≡ kind.As → mid ≡ after ts → k ≡ (next mid).kind → TypeNamed k (Err e) → Stopped type_parts ts e
type_refused ts mid k Refused a m g h = fails_later (leads_as ts mid a m) (fails_with (One expected.Close ∷ []) (fails_type mid k (sym g) h))
type_refused ts mid k NoMemory a m g h = tt

leads_named_type : (ts mid here : List Token) (k : Kind) (is_text : Bool) → (next ts).kind ≡ kind.As → mid ≡ after ts → k ≡ (next mid).kind → TypeNamed k (Ok is_text) → here ≡ after mid → Leads type_parts (One expected.Close ∷ []) ts here
leads_named_type ts mid here k is_text a m g h n = leads_on (leads_as ts mid a m) (leads_with (One expected.Close ∷ []) (leads_type mid here h.0 is_text (subst (λ (x : Kind). IsNamed x h.0) g h.1) h.2 n))

pub type_unclosed : (ts mid here : List Token) (k : Kind) (is_text : Bool) → (next ts).kind ≡ kind.As → mid ≡ after ts → k ≡ (next mid).kind → TypeNamed k (Ok is_text) → here ≡ after mid → (next here).kind ≢ kind.Close → Fails type_parts ts
type_unclosed ts mid here k is_text a m g h n c = fails_later (leads_named_type ts mid here k is_text a m g h n) (fails_close here c)

pub type_read : (ts mid here new : List Token) (k : Kind) (is_text : Bool) → (next ts).kind ≡ kind.As → mid ≡ after ts → k ≡ (next mid).kind → TypeNamed k (Ok is_text) → here ≡ after mid → (next here).kind ≡ kind.Close → new ≡ after here → IsType ts is_text new
type_read ts mid here new k is_text a m g h n c e = record {
  spelled = record {
    word = h.0;
    begins = a;
    named = subst (λ (x : List Token). IsNamed (next x).kind h.0) m (subst (λ (x : Kind). IsNamed x h.0) g h.1);
    typed = h.2;
    closed = subst (λ (x : List Token). (next x).kind ≡ kind.Close) (n ∙ ap after m) c;
    ends = e ∙ ap after (n ∙ ap after m);
  };
  reads = leads_on (leads_named_type ts mid here k is_text a m g h n) (leads_close here new c e);
}

pub fails_cast_open : (d : ℕ) (ts : List Token) → (next ts).kind ≢ kind.Open → Fails (cast_parts d) ts
fails_cast_open d ts h = fails_with (Must (rule.Chain level.Or (deeper d)) ∷ type_parts) (fails_one (expected.Parenthesis d) ts (open_misfit d (next ts).kind h))

pub fails_deep_cast : (d : ℕ) (ts : List Token) → (next ts).kind ≡ kind.Open → 64 ≤ d → Fails (cast_parts d) ts
unfolding fits found
fails_deep_cast d ts k le = fails_with (Must (rule.Chain level.Or (deeper d)) ∷ type_parts) (fails_found (expected.Parenthesis d) ts (ap (fits (expected.Parenthesis d)) k) (past_limit d 64 (next ts) le))

pub leads_cast : (d : ℕ) (ts mid : List Token) → (next ts).kind ≡ kind.Open → d < 64 → mid ≡ after ts → Leads (cast_parts d) (Must (rule.Chain level.Or (d + 1)) ∷ type_parts) ts mid
unfolding fits found
leads_cast d ts mid k lt m =
    subst (λ (n : ℕ). Leads (cast_parts d) (Must (rule.Chain level.Or n) ∷ type_parts) ts mid) (deeper_is d lt)
    (leads_with (Must (rule.Chain level.Or (deeper d)) ∷ type_parts) (leads_take (expected.Parenthesis d) ts mid (ap (fits (expected.Parenthesis d)) k) (below_limit d 64 (next ts) lt) (λ e. cc) m))

pub stopped_inner : (d : ℕ) (ts mid : List Token) (e : Stop) → (next ts).kind ≡ kind.Open → d < 64 → mid ≡ after ts → Stopped (Must (rule.Chain level.Or (d + 1)) ∷ []) mid e → Stopped (cast_parts d) ts e
stopped_inner d ts mid e k lt m h = stopped_later e (leads_cast d ts mid k lt m) (stopped_with (Must (rule.Chain level.Or (d + 1)) ∷ []) type_parts mid e h)

pub stopped_type : (d : ℕ) (ts mid here : List Token) (inner : Tree) (e : Stop) → (next ts).kind ≡ kind.Open → d < 64 → mid ≡ after ts → IsRead (chain level.Or) (rule.Chain level.Or (d + 1)) mid inner here → Stopped type_parts here e → Stopped (cast_parts d) ts e
stopped_type d ts mid here inner e k lt m h g = stopped_later e (leads_on (leads_cast d ts mid k lt m) (leads_with type_parts h.reads)) g

pub cast_read : (d : ℕ) (ts mid here new : List Token) (inner whole : Tree) (is_text : Bool) → (next ts).kind ≡ kind.Open → d < 64 → mid ≡ after ts → IsRead (chain level.Or) (rule.Chain level.Or (d + 1)) mid inner here → IsType here is_text new → whole ≡ tree.cast inner is_text
    → IsCast d ts whole new
cast_read d ts mid here new inner whole is_text k lt m h g e = record {
  inner = inner;
  middle = here;
  is_text = is_text;
  opened = k;
  spelled = subst (λ (x : List Token). Spells (chain level.Or) x inner here) m h.spelled;
  typed = g.spelled;
  is = e;
  reads = leads_on (leads_cast d ts mid k lt m) (leads_on (leads_with type_parts h.reads) g.reads);
}

pub leads_cast_word : (d : ℕ) (ts mid : List Token) → (next ts).kind ≡ kind.Cast → mid ≡ after ts → Leads (Must (rule.Atom d) ∷ []) (cast_parts d) ts mid
unfolding atom_by fits found
leads_cast_word d ts mid k m = leads_on (leads_rule (rule.Atom d) expected.Chosen (cast_parts d) ts (ap (atom_by d (next ts)) k)) (leads_with (cast_parts d) (leads_take expected.Chosen ts mid refl refl (λ e. cc) m))

pub cast_descent : (d : ℕ) (ts mid new : List Token) (result : Result Node Stop) → (next ts).kind ≡ kind.Cast → mid ≡ after ts → CastDescends d mid result new → Descends atom (rule.Atom d) ts result new
cast_descent d ts mid new (Ok node) k m h = record {
  spelled = subst (λ (x : Tree). Spells atom ts x new) (sym h.is) (a_cast k (subst (λ (x : List Token). (next x).kind ≡ kind.Open) m h.opened) (subst (λ (x : List Token). Spells (chain level.Or) (after x) h.inner h.middle) m h.spelled) h.typed);
  reads = leads_on (leads_cast_word d ts mid k m) h.reads;
}
cast_descent d ts mid new (Err e) k m h = stopped_later e (leads_cast_word d ts mid k m) h
