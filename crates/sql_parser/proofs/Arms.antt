-- The arms of the descent, over plain values.
use Rattle.std.proofs.Common.{◌≡◌, ◌≢◌, ◌<◌, ◌≤◌, ◌+◌, ℕ, List, [], ◌∷◌, ◌++◌, true, false, Option, Some, None, Result, Ok, Err, refl, sym, ap, subst, ◌∙◌, append_assoc, inl, inr}
use Rattle.std.proofs.lemmas.Bool.{le-ltb, lt-ltb, cases_lt}
use Rattle.sql_tokens.specs.declared.token.Token.{Token}
use Rattle.sql_tokens.specs.declared.token.Kind.{Kind}
use Rattle.sql_tokens.specs.declared.token.Kind.TheVariants as kind
use Rattle.sql_tokens.specs.declared.level.Level.{Level}
use Rattle.sql_tokens.specs.declared.level.Level.TheVariants as level
use Rattle.sql_tokens.specs.declared.level.Sign.{Sign}
use Rattle.sql_faults.specs.declared.part.Part.{Part}
use Rattle.sql_faults.specs.declared.part.Part.TheVariants.{One, Must, May}
use Rattle.sql_faults.specs.declared.part.Expected.{Expected}
use Rattle.sql_faults.specs.declared.part.Expected.TheVariants as expected
use Rattle.sql_faults.specs.declared.part.Rule.{Rule}
use Rattle.sql_faults.specs.declared.part.Rule.TheVariants as rule
use Rattle.sql_faults.specs.declared.part.Optional.TheVariants as optional
use Rattle.sql_parser.specs.declared.stop.Stop.{Stop}
use Rattle.sql_parser.specs.declared.stop.Stop.TheVariants.{Refused, NoMemory}
use Rattle.sql_tree.specs.declared.tree.Node.{Node}
use Rattle.sql_tokens.specs.Tokens.{next, after, is_all_of}
use Rattle.sql_tree.specs.Tree.{Tree}
use Rattle.sql_tokens.specs.Levels.{sign_at}
use Rattle.sql_parser.specs.Grammar.{Class, Spells}
use Rattle.sql_faults.specs.Reading.{settled, deeper, later, alternative, fits, found, at_limit, operand_rule, further, step_by, behind, negated_by, signed_by, atom_by, equal_by, negatable_by, not_by, item_by, items_by, or_by, list_parts, between_parts, wide}
use Rattle.sql_parser.specs.Descent.{Leads, Fails, Reads, Refuses, Stopped, StoppedStep, Descends, ReadsStep, RefusesStep}
use Rattle.sql_parser.proofs.Laws.{leads_on, leads_with, fails_with, fails_later, leads_rule, leads_same, leads_in, leads_past, leads_one, fails_one, fails_found, same_settled}

-- ---- stops

pub stopped_later : {p q : List Part} {a b : List Token} (e : Stop) → Leads p q a b → Stopped q b e → Stopped p a e
stopped_later Refused h k = fails_later h k
stopped_later NoMemory h k = tt

pub stopped_with : (p r : List Part) (a : List Token) (e : Stop) → Stopped p a e → Stopped (p ++ r) a e
stopped_with p r a Refused h = fails_with r h
stopped_with p r a NoMemory h = tt

-- where these parts are expected next and stop, all that was expected stops
pub stops_behind : {p : List Part} {ts a : List Token} (parts later : List Part) (e : Stop) → Leads p (parts ++ later) ts a → Stopped parts a e → Stopped p ts e
stops_behind parts later e l s = stopped_later e l (stopped_with parts later _ e s)

-- what another class and rule stand for here
pub same_descent : (c c' : Class) (r r' : Rule) (ts : List Token) (result : Result Node Stop) (new : List Token)
    → ((tree : Tree) → Spells c' ts tree new → Spells c ts tree new) → Leads (Must r ∷ []) (Must r' ∷ []) ts ts
    → Descends c' r' ts result new → Descends c r ts result new
same_descent c c' r r' ts (Ok node) new s h k = record { spelled = s _ k.spelled; reads = leads_on h k.reads }
same_descent c c' r r' ts (Err e) new s h k = stopped_later e h k

pub kind_at : {t : Token} {k : Kind} (ts : List Token) → t ≡ next ts → t.kind ≡ k → (next ts).kind ≡ k
kind_at {t} {k} ts e h = subst (λ (x : Token). x.kind ≡ k) e h

pub kind_not : {t : Token} {k : Kind} (ts : List Token) → t ≡ next ts → t.kind ≢ k → (next ts).kind ≢ k
kind_not {t} {k} ts e h = subst (λ (x : Token). x.kind ≢ k) e h

-- what sign the next token is
pub sign_is : {t : Token} {found : Option Sign} (ts : List Token) (l : Level) (s : Sign) → t ≡ next ts → found ≡ sign_at l t.kind → found ≡ Some s → sign_at l (next ts).kind ≡ Some s
sign_is {t} {found} ts l s e f h = subst (λ (x : Token). sign_at l x.kind ≡ Some s) e (sym f ∙ h)

-- ---- limits

pub below_limit : (n limit : ℕ) (t : Token) → n < limit → at_limit n limit t ≡ []
below_limit n limit t h = rw (lt-ltb n limit h) refl

pub past_limit : (n limit : ℕ) (t : Token) → limit ≤ n → at_limit n limit t ≢ []
past_limit n limit t h = rw (le-ltb n limit h) (λ e. cc)

leads_nesting : (r : Rule) (d : ℕ) (xs : List Part) (ts mid : List Token) → alternative r (next ts) (is_all_of ts) ≡ One (expected.Nesting d) ∷ xs → d < 64 → (next ts).kind ≢ kind.End → mid ≡ after ts
    → Leads (Must r ∷ []) xs ts mid
unfolding fits found
leads_nesting r d xs ts mid h lt ne m =
    subst (λ (x : List Token). Leads (Must r ∷ []) xs ts x) (sym m) (leads_on (leads_rule r (expected.Nesting d) xs ts h) (leads_with xs (leads_one (expected.Nesting d) ts refl (below_limit d 64 (next ts) lt) ne)))

fails_nesting : (r : Rule) (d : ℕ) (xs : List Part) (ts : List Token) → alternative r (next ts) (is_all_of ts) ≡ One (expected.Nesting d) ∷ xs → 64 ≤ d → Refuses r ts
unfolding fits found
fails_nesting r d xs ts h le =
    fails_later (leads_rule r (expected.Nesting d) xs ts h) (fails_with xs (fails_found (expected.Nesting d) ts refl (past_limit d 64 (next ts) le)))

pub deeper_is : (d : ℕ) → d < 64 → deeper d ≡ d + 1
deeper_is d h = rw (lt-ltb d 64 h) refl

later_is : (count : ℕ) → count < 1000 → later count ≡ count + 1
later_is count h = rw (lt-ltb count 1000 h) refl

-- ---- NOT

not_alternative : (d : ℕ) (ts : List Token) → (next ts).kind ≡ kind.Not → alternative (rule.Negated d) (next ts) (is_all_of ts) ≡ One (expected.Nesting d) ∷ Must (rule.Negated (deeper d)) ∷ []
unfolding negated_by
not_alternative d ts k = ap (negated_by d (next ts)) k

pub leads_not : (d : ℕ) (ts mid : List Token) → (next ts).kind ≡ kind.Not → d < 64 → mid ≡ after ts → Leads (Must (rule.Negated d) ∷ []) (Must (rule.Negated (d + 1)) ∷ []) ts mid
leads_not d ts mid k lt m = rw (← deeper_is d lt) (leads_nesting (rule.Negated d) d _ ts mid (not_alternative d ts k) lt (λ e. cc) m)

pub fails_not : (d : ℕ) (ts : List Token) → (next ts).kind ≡ kind.Not → 64 ≤ d → Refuses (rule.Negated d) ts
fails_not d ts k le = fails_nesting (rule.Negated d) d _ ts (not_alternative d ts k) le

plain_negated : (d : ℕ) (t : Token) (k : Kind) → k ≢ kind.Not → negated_by d t k ≡ equal_by d t k
unfolding negated_by
plain_negated d t kind.Not h = absurd (h refl)
plain_negated d t other h = refl

pub leads_no_not : (d : ℕ) (ts : List Token) → (next ts).kind ≢ kind.Not → Leads (Must (rule.Negated d) ∷ []) (Must (rule.Chain level.Equal d) ∷ []) ts ts
leads_no_not d ts h = leads_same (rule.Negated d) (rule.Chain level.Equal d) ts (plain_negated d (next ts) (next ts).kind h)

-- ---- signs

minus_alternative : (d : ℕ) (ts : List Token) → (next ts).kind ≡ kind.Minus → alternative (rule.Signed d) (next ts) (is_all_of ts) ≡ One (expected.Nesting d) ∷ Must (rule.Signed (deeper d)) ∷ []
unfolding signed_by
minus_alternative d ts k = ap (signed_by d (next ts)) k

plus_alternative : (d : ℕ) (ts : List Token) → (next ts).kind ≡ kind.Plus → alternative (rule.Signed d) (next ts) (is_all_of ts) ≡ One (expected.Nesting d) ∷ Must (rule.Signed (deeper d)) ∷ []
unfolding signed_by
plus_alternative d ts k = ap (signed_by d (next ts)) k

pub leads_minus : (d : ℕ) (ts mid : List Token) → (next ts).kind ≡ kind.Minus → d < 64 → mid ≡ after ts → Leads (Must (rule.Signed d) ∷ []) (Must (rule.Signed (d + 1)) ∷ []) ts mid
leads_minus d ts mid k lt m = rw (← deeper_is d lt) (leads_nesting (rule.Signed d) d _ ts mid (minus_alternative d ts k) lt (λ e. cc) m)

pub fails_minus : (d : ℕ) (ts : List Token) → (next ts).kind ≡ kind.Minus → 64 ≤ d → Refuses (rule.Signed d) ts
fails_minus d ts k le = fails_nesting (rule.Signed d) d _ ts (minus_alternative d ts k) le

pub leads_plus : (d : ℕ) (ts mid : List Token) → (next ts).kind ≡ kind.Plus → d < 64 → mid ≡ after ts → Leads (Must (rule.Signed d) ∷ []) (Must (rule.Signed (d + 1)) ∷ []) ts mid
leads_plus d ts mid k lt m = rw (← deeper_is d lt) (leads_nesting (rule.Signed d) d _ ts mid (plus_alternative d ts k) lt (λ e. cc) m)

pub fails_plus : (d : ℕ) (ts : List Token) → (next ts).kind ≡ kind.Plus → 64 ≤ d → Refuses (rule.Signed d) ts
fails_plus d ts k le = fails_nesting (rule.Signed d) d _ ts (plus_alternative d ts k) le

plain_signed : (d : ℕ) (t : Token) (k : Kind) → k ≢ kind.Minus → k ≢ kind.Plus → signed_by d t k ≡ atom_by d t k
unfolding signed_by
plain_signed d t kind.Minus h g = absurd (h refl)
plain_signed d t kind.Plus h g = absurd (g refl)
plain_signed d t other h g = refl

pub leads_no_sign : (d : ℕ) (ts : List Token) → (next ts).kind ≢ kind.Minus → (next ts).kind ≢ kind.Plus → Leads (Must (rule.Signed d) ∷ []) (Must (rule.Atom d) ∷ []) ts ts
leads_no_sign d ts h g = leads_same (rule.Signed d) (rule.Atom d) ts (plain_signed d (next ts) (next ts).kind h g)

-- ---- steps

leads_later : (l : Level) (d count : ℕ) (s : Sign) (ts mid : List Token) → sign_at l (next ts).kind ≡ Some s → count < 1000 → (next ts).kind ≢ kind.End → mid ≡ after ts
    → Leads (further l d count ∷ []) (behind s l d ++ further l d (later count) ∷ []) ts mid
unfolding fits found
leads_later l d count s ts mid h lt ne m =
    subst (λ (x : List Token). Leads (further l d count ∷ []) (behind s l d ++ further l d (later count) ∷ []) ts x) (sym m)
    (leads_on (leads_in (optional.Step l d count) (expected.Operator count) (behind s l d ++ further l d (later count) ∷ []) ts (ap (step_by l d count) h))
    (leads_with (behind s l d ++ further l d (later count) ∷ []) (leads_one (expected.Operator count) ts refl (below_limit count 1000 (next ts) lt) ne)))

pub leads_operator : (l : Level) (d count : ℕ) (s : Sign) (ts mid : List Token) → sign_at l (next ts).kind ≡ Some s → count < 1000 → (next ts).kind ≢ kind.End → mid ≡ after ts
    → Leads (further l d count ∷ []) (behind s l d ++ further l d (count + 1) ∷ []) ts mid
leads_operator l d count s ts mid h lt ne m =
    subst (λ (n : ℕ). Leads (further l d count ∷ []) (behind s l d ++ further l d n ∷ []) ts mid) (later_is count lt) (leads_later l d count s ts mid h lt ne m)

-- an operator past the limit
pub fails_operator : (l : Level) (d count : ℕ) (s : Sign) (ts : List Token) → sign_at l (next ts).kind ≡ Some s → 1000 ≤ count → Fails (further l d count ∷ []) ts
unfolding fits found
fails_operator l d count s ts h le =
    fails_later (leads_in (optional.Step l d count) (expected.Operator count) (behind s l d ++ further l d (later count) ∷ []) ts (ap (step_by l d count) h))
    (fails_with (behind s l d ++ further l d (later count) ∷ []) (fails_found (expected.Operator count) ts refl (past_limit count 1000 (next ts) le)))

pub leads_no_operator : (l : Level) (d count : ℕ) (ts : List Token) → sign_at l (next ts).kind ≡ None → Leads (further l d count ∷ []) [] ts ts
leads_no_operator l d count ts h = leads_past (optional.Step l d count) ts (ap (step_by l d count) h)

pub sign_no_end : (l : Level) (s : Sign) (k : Kind) → sign_at l k ≡ Some s → k ≢ kind.End
sign_no_end l s k h e = let n : sign_at l kind.End ≡ Some s = subst (λ (x : Kind). sign_at l x ≡ Some s) e h in cc

-- where the right side fails, the step is refused however many came before
pub refuses_step : (l : Level) (d : ℕ) (s : Sign) (ts mid : List Token) → sign_at l (next ts).kind ≡ Some s → mid ≡ after ts → Fails (behind s l d) mid → RefusesStep l d ts
refuses_step l d s ts mid h m f = record {
  holds = λ count. elim (cases_lt count 1000) [
    | inl lt ↦ fails_later (leads_operator l d count s ts mid h lt (sign_no_end l s (next ts).kind h) m) (fails_with (further l d (count + 1) ∷ []) f)
    | inr le ↦ fails_operator l d count s ts h le
  ];
}

pub stopped_step : (l : Level) (d : ℕ) (s : Sign) (ts mid : List Token) (e : Stop) → sign_at l (next ts).kind ≡ Some s → mid ≡ after ts → Stopped (behind s l d) mid e → StoppedStep l d ts e
stopped_step l d s ts mid Refused h m f = refuses_step l d s ts mid h m f
stopped_step l d s ts mid NoMemory h m f = tt

pub reads_step : (l : Level) (d : ℕ) (s : Sign) (ts mid rest : List Token) → sign_at l (next ts).kind ≡ Some s → mid ≡ after ts → Leads (behind s l d) [] mid rest → ReadsStep l d ts rest
reads_step l d s ts mid rest h m k = record {
  holds = λ count lt. leads_on (leads_operator l d count s ts mid h lt (sign_no_end l s (next ts).kind h) m) (leads_with (further l d (count + 1) ∷ []) k);
}

-- ---- tokens

pub leads_take : (e : Expected) (ts mid : List Token) → fits e (next ts).kind ≡ true → found e (next ts) ≡ [] → (next ts).kind ≢ kind.End → mid ≡ after ts → Leads (One e ∷ []) [] ts mid
leads_take e ts mid f g ne m = subst (λ (x : List Token). Leads (One e ∷ []) [] ts x) (sym m) (leads_one e ts f g ne)

pub leads_close : (ts mid : List Token) → (next ts).kind ≡ kind.Close → mid ≡ after ts → Leads (One expected.Close ∷ []) [] ts mid
unfolding fits found
leads_close ts mid k m = leads_take expected.Close ts mid (ap (fits expected.Close) k) refl (λ e. cc) m

close_misfit : (k : Kind) → k ≢ kind.Close → fits expected.Close k ≡ false
unfolding fits
close_misfit kind.Close h = absurd (h refl)
close_misfit other h = refl

pub fails_close : (ts : List Token) → (next ts).kind ≢ kind.Close → Fails (One expected.Close ∷ []) ts
fails_close ts h = fails_one expected.Close ts (close_misfit (next ts).kind h)

pub leads_and : (ts mid : List Token) → (next ts).kind ≡ kind.And → mid ≡ after ts → Leads (One expected.And ∷ []) [] ts mid
unfolding fits found
leads_and ts mid k m = leads_take expected.And ts mid (ap (fits expected.And) k) refl (λ e. cc) m

and_misfit : (k : Kind) → k ≢ kind.And → fits expected.And k ≡ false
unfolding fits
and_misfit kind.And h = absurd (h refl)
and_misfit other h = refl

pub fails_and : (ts : List Token) → (next ts).kind ≢ kind.And → Fails (One expected.And ∷ []) ts
fails_and ts h = fails_one expected.And ts (and_misfit (next ts).kind h)

pub open_misfit : (d : ℕ) (k : Kind) → k ≢ kind.Open → fits (expected.Parenthesis d) k ≡ false
unfolding fits
open_misfit d kind.Open h = absurd (h refl)
open_misfit d other h = refl

pub fails_open : (d : ℕ) (ts : List Token) → (next ts).kind ≢ kind.Open → Fails (list_parts d) ts
fails_open d ts h = fails_with (Must (rule.Items (deeper d)) ∷ []) (fails_one (expected.Parenthesis d) ts (open_misfit d (next ts).kind h))

pub fails_deep_open : (d : ℕ) (ts : List Token) → (next ts).kind ≡ kind.Open → 64 ≤ d → Fails (list_parts d) ts
unfolding fits found
fails_deep_open d ts k le = fails_with (Must (rule.Items (deeper d)) ∷ []) (fails_found (expected.Parenthesis d) ts (ap (fits (expected.Parenthesis d)) k) (past_limit d 64 (next ts) le))

pub leads_open : (d : ℕ) (ts mid : List Token) → (next ts).kind ≡ kind.Open → d < 64 → mid ≡ after ts → Leads (list_parts d) (Must (rule.Items (d + 1)) ∷ []) ts mid
unfolding fits found
leads_open d ts mid k lt m = subst (λ (n : ℕ). Leads (list_parts d) (Must (rule.Items n) ∷ []) ts mid) (deeper_is d lt) (leads_with (Must (rule.Items (deeper d)) ∷ []) (leads_take (expected.Parenthesis d) ts mid (ap (fits (expected.Parenthesis d)) k) (below_limit d 64 (next ts) lt) (λ e. cc) m))

-- ---- lists

close_items : (d : ℕ) (ts mid : List Token) → (next ts).kind ≡ kind.Close → mid ≡ after ts → Leads (Must (rule.Items d) ∷ []) [] ts mid
unfolding items_by
close_items d ts mid k m = leads_on (leads_rule (rule.Items d) expected.Close [] ts (ap (items_by d (next ts)) k)) (leads_close ts mid k m)

other_items : (d : ℕ) (t : Token) (k : Kind) → k ≢ kind.Close → items_by d t k ≡ or_by d t k ++ May (optional.Item d) ∷ One expected.Close ∷ []
unfolding items_by
other_items d t kind.Close h = absurd (h refl)
other_items d t other h = refl

pub leads_items : (d : ℕ) (ts : List Token) → (next ts).kind ≢ kind.Close → Leads (Must (rule.Items d) ∷ []) (Must (rule.Chain level.Or d) ∷ May (optional.Item d) ∷ One expected.Close ∷ []) ts ts
unfolding settled
leads_items d ts h = record {
  holds = λ parts. same_settled (Must (rule.Items d) ∷ parts) (Must (rule.Chain level.Or d) ∷ May (optional.Item d) ∷ One expected.Close ∷ parts) ts
      (ap (λ (x : List Part). x ++ parts) (other_items d (next ts) (next ts).kind h) ∙ append_assoc (or_by d (next ts) (next ts).kind) (May (optional.Item d) ∷ One expected.Close ∷ []) parts);
}

pub leads_comma : (d : ℕ) (ts mid : List Token) → (next ts).kind ≡ kind.Comma → mid ≡ after ts
    → Leads (May (optional.Item d) ∷ One expected.Close ∷ []) (Must (rule.Chain level.Or d) ∷ May (optional.Item d) ∷ One expected.Close ∷ []) ts mid
unfolding item_by fits found
leads_comma d ts mid k m =
    leads_on (leads_with (One expected.Close ∷ []) (leads_in (optional.Item d) expected.Chosen (Must (rule.Chain level.Or d) ∷ May (optional.Item d) ∷ []) ts (ap (item_by d) k)))
    (leads_with (Must (rule.Chain level.Or d) ∷ May (optional.Item d) ∷ One expected.Close ∷ []) (leads_take expected.Chosen ts mid refl refl (λ e. cc) m))

no_item : (d : ℕ) (k : Kind) → k ≢ kind.Comma → item_by d k ≡ None
unfolding item_by
no_item d kind.Comma h = absurd (h refl)
no_item d other h = refl

pub leads_no_comma : (d : ℕ) (ts : List Token) → (next ts).kind ≢ kind.Comma → Leads (May (optional.Item d) ∷ One expected.Close ∷ []) (One expected.Close ∷ []) ts ts
leads_no_comma d ts h = leads_with (One expected.Close ∷ []) (leads_past (optional.Item d) ts (no_item d (next ts).kind h))

-- the empty list, and one that ends
pub empty_list : (d : ℕ) (ts mid rest : List Token) → (next ts).kind ≡ kind.Open → d < 64 → mid ≡ after ts → (next mid).kind ≡ kind.Close → rest ≡ after mid → Leads (list_parts d) [] ts rest
empty_list d ts mid rest o lt m k r = leads_on (leads_open d ts mid o lt m) (close_items (d + 1) mid rest k r)

-- ---- atoms

pub reads_token : (d : ℕ) (e : Expected) (ts mid : List Token) → atom_by d (next ts) (next ts).kind ≡ One e ∷ [] → fits e (next ts).kind ≡ true → found e (next ts) ≡ [] → (next ts).kind ≢ kind.End → mid ≡ after ts → Reads (rule.Atom d) ts mid
reads_token d e ts mid a f g ne m = leads_on (leads_rule (rule.Atom d) e [] ts a) (leads_take e ts mid f g ne m)

pub reads_number : (d : ℕ) (value : _) (ts mid : List Token) → (next ts).kind ≡ kind.Number (Some value) → mid ≡ after ts → Reads (rule.Atom d) ts mid
unfolding atom_by fits found wide
reads_number d value ts mid k m = reads_token d expected.Number ts mid (ap (atom_by d (next ts)) k) (ap (fits expected.Number) k) (ap (wide (next ts)) k) (λ e. cc) m

pub reads_text : (d : ℕ) (ts mid : List Token) → (next ts).kind ≡ kind.Text → mid ≡ after ts → Reads (rule.Atom d) ts mid
unfolding atom_by fits found
reads_text d ts mid k m = reads_token d expected.Chosen ts mid (ap (atom_by d (next ts)) k) refl refl (λ e. cc) m

pub reads_null : (d : ℕ) (ts mid : List Token) → (next ts).kind ≡ kind.Null → mid ≡ after ts → Reads (rule.Atom d) ts mid
unfolding atom_by fits found
reads_null d ts mid k m = reads_token d expected.Chosen ts mid (ap (atom_by d (next ts)) k) refl refl (λ e. cc) m

pub leads_parenthesis : (d : ℕ) (ts mid : List Token) → (next ts).kind ≡ kind.Open → d < 64 → mid ≡ after ts → Leads (Must (rule.Atom d) ∷ []) (Must (rule.Chain level.Or (d + 1)) ∷ One expected.Close ∷ []) ts mid
unfolding atom_by
leads_parenthesis d ts mid k lt m = rw (← deeper_is d lt) (leads_nesting (rule.Atom d) d _ ts mid (ap (atom_by d (next ts)) k) lt (λ e. cc) m)

pub fails_parenthesis : (d : ℕ) (ts : List Token) → (next ts).kind ≡ kind.Open → 64 ≤ d → Refuses (rule.Atom d) ts
unfolding atom_by
fails_parenthesis d ts k le = fails_nesting (rule.Atom d) d (Must (rule.Chain level.Or (deeper d)) ∷ One expected.Close ∷ []) ts (ap (atom_by d (next ts)) k) le

fails_token : (d : ℕ) (e : Expected) (ts : List Token) → atom_by d (next ts) (next ts).kind ≡ One e ∷ [] → Fails (One e ∷ []) ts → Refuses (rule.Atom d) ts
fails_token d e ts a f = fails_later (leads_rule (rule.Atom d) e [] ts a) f

pub fails_wide : (d : ℕ) (ts : List Token) → (next ts).kind ≡ kind.Number None → Refuses (rule.Atom d) ts
unfolding atom_by fits found wide
fails_wide d ts k = fails_token d expected.Number ts (ap (atom_by d (next ts)) k) (fails_found expected.Number ts (ap (fits expected.Number) k) (rw k (λ e. cc)))

-- a token that begins no atom
abbrev pub BeginsNone : Kind → Type 0
BeginsNone (kind.Number value) = ⊥
BeginsNone kind.Text = ⊥
BeginsNone kind.Null = ⊥
BeginsNone kind.Open = ⊥
BeginsNone (kind.Name w) = ⊥
BeginsNone (kind.QuotedName w) = ⊥
BeginsNone kind.Cast = ⊥
BeginsNone other = Unit {0}

no_atom : (d : ℕ) (t : Token) (k : Kind) → BeginsNone k → atom_by d t k ≡ One expected.Nothing ∷ []
unfolding atom_by
no_atom d t (kind.Number value) h = absurd h
no_atom d t kind.Text h = absurd h
no_atom d t kind.Null h = absurd h
no_atom d t kind.Open h = absurd h
no_atom d t (kind.Name w) h = absurd h
no_atom d t (kind.QuotedName w) h = absurd h
no_atom d t kind.Cast h = absurd h
no_atom d t other h = refl

pub fails_atom : (d : ℕ) (ts : List Token) → BeginsNone (next ts).kind → Refuses (rule.Atom d) ts
unfolding fits
fails_atom d ts h = fails_token d expected.Nothing ts (no_atom d (next ts) (next ts).kind h) (fails_one expected.Nothing ts refl)

-- ---- behind NOT, and IS

like_parts : (l : Level) (d : ℕ) (ts mid : List Token) → (next ts).kind ≡ kind.Like → mid ≡ after ts → Leads (Must (rule.Negatable l d) ∷ []) (Must (operand_rule l d) ∷ []) ts mid
unfolding negatable_by fits found
like_parts l d ts mid k m = leads_on (leads_rule (rule.Negatable l d) expected.Chosen (Must (operand_rule l d) ∷ []) ts (ap (negatable_by l d) k)) (leads_with (Must (operand_rule l d) ∷ []) (leads_take expected.Chosen ts mid refl refl (λ e. cc) m))

pub leads_like : (l : Level) (d : ℕ) (ts mid : List Token) → (next ts).kind ≡ kind.Like → mid ≡ after ts → Leads (Must (rule.Negatable l d) ∷ []) (Must (operand_rule l d) ∷ []) ts mid
leads_like = like_parts

pub leads_not_in : (l : Level) (d : ℕ) (ts mid : List Token) → (next ts).kind ≡ kind.In → mid ≡ after ts → Leads (Must (rule.Negatable l d) ∷ []) (list_parts d) ts mid
unfolding negatable_by fits found
leads_not_in l d ts mid k m = leads_on (leads_rule (rule.Negatable l d) expected.Chosen (list_parts d) ts (ap (negatable_by l d) k)) (leads_with (list_parts d) (leads_take expected.Chosen ts mid refl refl (λ e. cc) m))

pub leads_not_between : (l : Level) (d : ℕ) (ts mid : List Token) → (next ts).kind ≡ kind.Between → mid ≡ after ts → Leads (Must (rule.Negatable l d) ∷ []) (between_parts l d) ts mid
unfolding negatable_by fits found
leads_not_between l d ts mid k m = leads_on (leads_rule (rule.Negatable l d) expected.Chosen (between_parts l d) ts (ap (negatable_by l d) k)) (leads_with (between_parts l d) (leads_take expected.Chosen ts mid refl refl (λ e. cc) m))

not_negatable : (l : Level) (d : ℕ) (k : Kind) → k ≢ kind.Like → k ≢ kind.In → k ≢ kind.Between → negatable_by l d k ≡ One expected.Nothing ∷ []
unfolding negatable_by
not_negatable l d kind.Like f g h = absurd (f refl)
not_negatable l d kind.In f g h = absurd (g refl)
not_negatable l d kind.Between f g h = absurd (h refl)
not_negatable l d other f g h = refl

pub fails_negatable : (l : Level) (d : ℕ) (ts : List Token) → (next ts).kind ≢ kind.Like → (next ts).kind ≢ kind.In → (next ts).kind ≢ kind.Between → Refuses (rule.Negatable l d) ts
unfolding fits
fails_negatable l d ts f g h = fails_later (leads_rule (rule.Negatable l d) expected.Nothing [] ts (not_negatable l d (next ts).kind f g h)) (fails_one expected.Nothing ts refl)

pub leads_is_not : (ts mid : List Token) → (next ts).kind ≡ kind.Not → mid ≡ after ts → Leads (May optional.Not ∷ []) [] ts mid
unfolding not_by fits found
leads_is_not ts mid k m = leads_on (leads_in optional.Not expected.Chosen [] ts (ap not_by k)) (leads_take expected.Chosen ts mid refl refl (λ e. cc) m)

no_not : (k : Kind) → k ≢ kind.Not → not_by k ≡ None
unfolding not_by
no_not kind.Not h = absurd (h refl)
no_not other h = refl

pub leads_is : (ts : List Token) → (next ts).kind ≢ kind.Not → Leads (May optional.Not ∷ []) [] ts ts
leads_is ts h = leads_past optional.Not ts (no_not (next ts).kind h)

no_atom_at : (k : Kind) → ((value : _) → k ≢ kind.Number value) → k ≢ kind.Text → k ≢ kind.Null → k ≢ kind.Open → ((w : _) → k ≢ kind.Name w) → ((w : _) → k ≢ kind.QuotedName w) → k ≢ kind.Cast → BeginsNone k
no_atom_at (kind.Number value) n t u o w q c = n value refl
no_atom_at kind.Text n t u o w q c = t refl
no_atom_at kind.Null n t u o w q c = u refl
no_atom_at kind.Open n t u o w q c = o refl
no_atom_at (kind.Name v) n t u o w q c = w v refl
no_atom_at (kind.QuotedName v) n t u o w q c = q v refl
no_atom_at kind.Cast n t u o w q c = c refl
no_atom_at other n t u o w q c = tt

pub refuses_atom : (d : ℕ) (t : Token) (ts : List Token) → t ≡ next ts → ((value : _) → t.kind ≢ kind.Number value) → t.kind ≢ kind.Text → t.kind ≢ kind.Null → t.kind ≢ kind.Open → ((w : _) → t.kind ≢ kind.Name w) → ((w : _) → t.kind ≢ kind.QuotedName w) → t.kind ≢ kind.Cast → Refuses (rule.Atom d) ts
refuses_atom d t ts e n x u o w q c = fails_atom d ts (subst (λ (y : Token). BeginsNone y.kind) e (no_atom_at t.kind n x u o w q c))
