-- The lines of entries, one after another.
use Rattle.std.proofs.Common.{◌≡◌, ℕ, List, [], ◌∷◌, ◌++◌, Option, Some, None, refl, sym, ap, ◌∙◌, subst, append_assoc}
use Rattle.std.specs.Prelude.{unwrap_or}
use Rattle.pack_rules.specs.declared.schedule.Form.{Form}
use Rattle.pack_rules.specs.declared.schedule.Schedule.{Schedule}
use Rattle.entry_model.specs.declared.entry.Entry.{Entry}
use Rattle.entry_model.specs.Values.{last_of, schedule_in}
use Rattle.daemon_rounds.specs.Telling.{AreLinesOf, form_after, form_by}

-- the form of lines that runs behind these entries, where this one ran before them
abbrev pub form_behind : Form → List Entry → Form
form_behind form [] = form
form_behind form (entry ∷ rest) = form_behind (form_after form entry) rest

pub told_more : (host : List ℕ) (form : Form) (xs ys : List Entry) (a b : List ℕ) → AreLinesOf host form xs a → AreLinesOf host (form_behind form xs) ys b → AreLinesOf host form (xs ++ ys) (a ++ b)
told_more host form [] ys a b none rest = subst (λ (text : List ℕ). AreLinesOf host form ys (text ++ b)) (sym none) rest
told_more host form (x ∷ xs) ys a b (lines, others, tells, told, are) rest =
    (lines, others ++ b, tells, told_more host (form_after form x) xs ys others b told rest, ap (λ (text : List ℕ). text ++ b) are ∙ append_assoc lines others b)

form_by_is : (schedule : Schedule) (next : Option Schedule) → form_by schedule.form next ≡ (unwrap_or next schedule).form
form_by_is schedule None = refl
form_by_is schedule (Some next) = refl

-- it is the form of the schedule that runs there
pub form_is : (schedule : Schedule) (xs : List Entry) → form_behind schedule.form xs ≡ (last_of schedule_in schedule xs).form
form_is schedule [] = refl
form_is schedule (x ∷ xs) =
    ap (λ (form : Form). form_behind form xs) (form_by_is schedule (schedule_in x)) ∙ form_is (unwrap_or (schedule_in x) schedule) xs
