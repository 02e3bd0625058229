-- What stands behind the tokens, from the last one to the first.
use Rattle.std.proofs.Common.{◌≡◌, ◌<◌, ◌≤◌, ◌+◌, ◌-◌, ℕ, Bool, false, List, [], ◌∷◌, ap, sym, subst, ◌∙◌, arith, length, drop, slice_index_or}
use Rattle.std.proofs.lemmas.List.{drop_more}
use Rattle.sql_tokens.specs.declared.token.Token.{Token}
use Rattle.sql_nested.specs.declared.role.Role.{Role}
use Rattle.sql_nested.specs.declared.outlook.Outlook.{Outlook}
use Rattle.sql_nested.specs.declared.outlook.Look.{Look}
use Rattle.sql_nested.specs.Roles.{role_of, cuts}
use Rattle.sql_nested.specs.Outlook.{behind, passed, look_of, looks}

pub looks_none : (text : List ℕ) (rest : List Token) → rest ≡ [] → looks text rest ≡ []
unfolding looks
looks_none text rest e = ap (looks text) e

pub behind_none : (text : List ℕ) (rest : List Token) (around : List Bool) → rest ≡ [] → around ≡ [] → behind text rest ≡ record { is_cut = false; around = around }
unfolding behind
behind_none text rest around e k = rw k (ap (behind text) e)

drop_before : (tokens : List Token) (at : ℕ) (d : Token) → 0 < at → at ≤ length tokens → drop (at - 1) tokens ≡ slice_index_or tokens (at - 1) d ∷ drop at tokens
drop_before tokens at d above within =
    let e : at - 1 + 1 ≡ at = omega arith in
    subst (λ (n : ℕ). drop (at - 1) tokens ≡ slice_index_or tokens (at - 1) d ∷ drop n tokens) e (drop_more tokens (at - 1) d (omega arith))

pub looks_before : (text : List ℕ) (tokens : List Token) (at : ℕ) (d : Token) (before after : List Look) (o : Outlook) (l : Look) → 0 < at → at ≤ length tokens
    → before ≡ looks text (drop at tokens) → o ≡ behind text (drop at tokens) → l ≡ look_of o → after ≡ l ∷ before → after ≡ looks text (drop (at - 1) tokens)
unfolding looks
looks_before text tokens at d before after o l above within looked known is_look is_after =
    is_after ∙ ap (λ (x : Look). x ∷ before) (is_look ∙ ap look_of known) ∙ ap (λ (xs : List Look). look_of (behind text (drop at tokens)) ∷ xs) looked ∙ sym (ap (looks text) (drop_before tokens at d above within))

pub behind_before : (text : List ℕ) (tokens rest : List Token) (at : ℕ) (d t : Token) (before after : Outlook) (role : Role) (cut : Bool) → 0 < at → at ≤ length tokens
    → cut ≡ cuts text t rest → t ≡ slice_index_or tokens (at - 1) d → rest ≡ drop at tokens → before ≡ behind text (drop at tokens) → role ≡ role_of t.kind → after ≡ passed role cut before
    → after ≡ behind text (drop (at - 1) tokens)
unfolding behind
behind_before text tokens rest at d t before after role cut above within is_cut is_token is_rest known is_role is_after =
    is_after ∙ ap (λ (r : Role). passed r cut before) is_role
    ∙ ap (λ (b : Bool). passed (role_of t.kind) b before) (is_cut ∙ ap (cuts text t) is_rest)
    ∙ ap (passed (role_of t.kind) (cuts text t (drop at tokens))) known
    ∙ ap (λ (x : Token). passed (role_of x.kind) (cuts text x (drop at tokens)) (behind text (drop at tokens))) is_token
    ∙ sym (ap (behind text) (drop_before tokens at d above within))
