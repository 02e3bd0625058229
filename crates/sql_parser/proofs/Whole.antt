-- A whole expression, and the end behind it.
use Rattle.std.proofs.Common.{◌≡◌, ◌≢◌, List, [], ◌∷◌, Bool, true, false, cond, ltb, Option, Some, None, Err, refl, sym, subst, ◌∙◌}
use Rattle.sql_tokens.specs.declared.token.Token.{Token}
use Rattle.sql_faults.specs.declared.error.ParseError.{ParseError}
use Rattle.sql_tokens.specs.declared.token.Kind.{Kind}
use Rattle.sql_tokens.specs.declared.token.Kind.TheVariants as kind
use Rattle.sql_tokens.specs.declared.level.Level.TheVariants as level
use Rattle.sql_faults.specs.declared.part.Part.TheVariants.{One, Must, May}
use Rattle.sql_faults.specs.declared.part.Expected.TheVariants as expected
use Rattle.sql_faults.specs.declared.part.Rule.TheVariants as rule
use Rattle.sql_tokens.specs.Tokens.{next}
use Rattle.sql_tree.specs.Tree.{Tree}
use Rattle.sql_parser.specs.Grammar.{chain}
use Rattle.sql_faults.specs.Reading.{faults, settled, fits, found, whole, least_from}
use Rattle.sql_parser.specs.declared.stop.Stop.{Stop}
use Rattle.sql_parser.specs.declared.stop.Stop.TheVariants.{Refused, NoMemory}
use Rattle.sql_parser.specs.Descent.{Fails, Stopped, IsRead, Leads}
use Rattle.sql_parser.specs.Whole.{IsWhole, WholeDescends}
use Rattle.sql_faults.specs.declared.part.Optional.TheVariants as optional
use Rattle.sql_tokens.specs.Tokens.{after, is_end}
use Rattle.sql_tree.specs.Select.{SelectTree}
use Rattle.sql_parser.specs.SelectGrammar.{SpellsSelect, at_end, behind_semicolon, IsSelect}
use Rattle.sql_parser.specs.SelectDescent.{IsFound, EndTold, SelectDescends, select_parts, end_parts}
use Rattle.sql_faults.specs.Reading.{whole_select, semicolon_by}
use Rattle.sql_parser.proofs.SelectArms.{leads_word}
use Rattle.sql_parser.proofs.Laws.{leads_with, leads_past, fails_later, fails_one}

nothing_more : (ts : List Token) → faults [] ts ≡ []
unfolding faults settled
nothing_more [] = refl
nothing_more (t ∷ ts) = refl

ends : (ts : List Token) → (next ts).kind ≡ kind.End → faults (One expected.End ∷ []) ts ≡ []
unfolding faults settled fits found
ends [] k = refl
ends (t ∷ ts) k = rw k (nothing_more ts)

end_misfit : (k : Kind) → k ≢ kind.End → fits expected.End k ≡ false
unfolding fits
end_misfit kind.End h = absurd (h refl)
end_misfit other h = refl

pub whole_read : (tokens rest : List Token) (tree : Tree) → IsRead (chain level.Or) (rule.Chain level.Or 0) tokens tree rest → (next rest).kind ≡ kind.End → IsWhole tokens tree
whole_read tokens rest tree h k = record {
  is_tree = record { rest = rest; spelled = h.spelled; ended = k };
  faultless = h.reads.holds (One expected.End ∷ []) ∙ ends rest k;
}

pub whole_unended : (tokens rest : List Token) (tree : Tree) → IsRead (chain level.Or) (rule.Chain level.Or 0) tokens tree rest → (next rest).kind ≢ kind.End → faults whole tokens ≢ []
whole_unended tokens rest tree h k = (fails_later (leads_with (One expected.End ∷ []) h.reads) (fails_one expected.End rest (end_misfit (next rest).kind k))).holds []

pub whole_stopped : (tokens : List Token) → Fails (Must (rule.Chain level.Or 0) ∷ []) tokens → faults whole tokens ≢ []
whole_stopped tokens h = h.holds (One expected.End ∷ [])

pub whole_stops : (tokens : List Token) (e : Stop) → Stopped (Must (rule.Chain level.Or 0) ∷ []) tokens e → WholeDescends tokens (Err e)
whole_stops tokens Refused h = whole_stopped tokens h
whole_stops tokens NoMemory h = tt

is_lesser : (b : Bool) (f g : ParseError) → (h : ParseError) × (cond b (Some g) (Some f) ≡ Some h)
is_lesser true f g = (g, refl)
is_lesser false f g = (f, refl)

some_least : (f : ParseError) (fs : List ParseError) → least_from (Some f) fs ≢ None
some_least f [] = λ e. cc
some_least f (g ∷ gs) = let p = is_lesser (ltb g.place f.place) f g in subst (λ (x : Option ParseError). least_from x gs ≢ None) (sym p.1) (some_least p.0 gs)

pub no_least : (fs : List ParseError) → least_from None fs ≡ None → fs ≡ []
no_least [] e = refl
no_least (f ∷ fs) e = absurd (some_least f fs e)

-- ---- a whole select

pub is_end_yes : (k : Kind) → is_end k ≡ true → k ≡ kind.End
is_end_yes kind.End h = refl
is_end_yes other h = absurd (cc)

pub is_end_no : (k : Kind) → is_end k ≡ false → k ≢ kind.End
is_end_no k h e = let p : is_end kind.End ≡ false = subst (λ (x : Kind). is_end x ≡ false) e h in cc

unclosed_out : (k : Kind) → k ≢ kind.Semicolon → semicolon_by k ≡ None
unfolding semicolon_by
unclosed_out kind.Semicolon h = absurd (h refl)
unclosed_out other h = refl

leads_semicolon : (ts mid : List Token) → (next ts).kind ≡ kind.Semicolon → mid ≡ after ts → Leads (May optional.Semicolon ∷ []) [] ts mid
unfolding semicolon_by
leads_semicolon ts mid h m = leads_word optional.Semicolon kind.Semicolon [] ts mid h (λ j. cc) refl m

no_semicolon : (ts : List Token) → (next ts).kind ≢ kind.Semicolon → Leads (May optional.Semicolon ∷ []) [] ts ts
no_semicolon ts h = leads_past optional.Semicolon ts (unclosed_out (next ts).kind h)

no_end : (ts : List Token) → (next ts).kind ≢ kind.End → faults (One expected.End ∷ []) ts ≢ []
no_end ts h = (fails_one expected.End ts (end_misfit (next ts).kind h)).holds []

pub told_behind : (b : Bool) (ts mid : List Token) → (next ts).kind ≡ kind.Semicolon → mid ≡ after ts → b ≡ is_end (next mid).kind → EndTold ts b
told_behind true ts mid h m e = (
  behind_semicolon h (subst (λ (x : List Token). (next x).kind ≡ kind.End) m (is_end_yes (next mid).kind (sym e))),
  (leads_with (One expected.End ∷ []) (leads_semicolon ts mid h m)).holds [] ∙ ends mid (is_end_yes (next mid).kind (sym e)),
)
told_behind false ts mid h m e = λ f. no_end mid (is_end_no (next mid).kind (sym e)) (sym ((leads_with (One expected.End ∷ []) (leads_semicolon ts mid h m)).holds []) ∙ f)

pub told_here : (b : Bool) (ts : List Token) → (next ts).kind ≢ kind.Semicolon → b ≡ is_end (next ts).kind → EndTold ts b
told_here true ts h e = (
  at_end (is_end_yes (next ts).kind (sym e)),
  (leads_with (One expected.End ∷ []) (no_semicolon ts h)).holds [] ∙ ends ts (is_end_yes (next ts).kind (sym e)),
)
told_here false ts h e = λ f. no_end ts (is_end_no (next ts).kind (sym e)) (sym ((leads_with (One expected.End ∷ []) (no_semicolon ts h)).holds []) ∙ f)

pub whole_select_read : (tokens rest : List Token) (tree : SelectTree) (b : Bool) → IsFound SpellsSelect select_parts [] tokens tree rest → EndTold rest b → b ≡ true → IsSelect tokens tree × (faults whole_select tokens ≡ [])
whole_select_read tokens rest tree true h t e = (record { rest = rest; spelled = h.spelled; ended = t.0 }, h.leads.holds end_parts ∙ t.1)
whole_select_read tokens rest tree false h t e = absurd (cc)

pub whole_select_unended : (tokens rest : List Token) (tree : SelectTree) (b : Bool) → IsFound SpellsSelect select_parts [] tokens tree rest → EndTold rest b → b ≡ false → faults whole_select tokens ≢ []
whole_select_unended tokens rest tree true h t e = absurd (cc)
whole_select_unended tokens rest tree false h t e = λ f. t (sym (h.leads.holds end_parts) ∙ f)

pub whole_select_stopped : (tokens : List Token) → Fails select_parts tokens → faults whole_select tokens ≢ []
whole_select_stopped tokens h = h.holds end_parts

pub whole_select_stops : (tokens : List Token) (e : Stop) → Stopped select_parts tokens e → SelectDescends tokens (Err e)
whole_select_stops tokens Refused h = whole_select_stopped tokens h
whole_select_stops tokens NoMemory h = tt

-- a text within its bound that has no fault has none among its tokens
pub no_fault : (b : Bool) (f : ParseError) (fs : List ParseError) → cond b (Some f) (least_from None fs) ≡ None → fs ≡ []
no_fault true f fs e = absurd (cc)
no_fault false f fs e = no_least fs e
