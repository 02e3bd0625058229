-- What answers acknowledge may follow a legal list.
use Rattle.std.proofs.Common.{◌≡◌, ℕ, ◌<◌, ◌≤◌, Bool, true, false, cond, List, [], ◌∷◌, ◌++◌, length, map, refl, sym, ◌∙◌, subst, arith, append_assoc, Option, Some, None}
use Rattle.std.specs.Prelude.{nat_lt, nat_le, ◌&&◌}
use Rattle.std.proofs.lemmas.Bool.Decides.{nat_tests}
use Rattle.std.proofs.lemmas.List.{append-nil}
use Rattle.entry_model.specs.declared.entry.Entry.{Entry}
use Rattle.entry_model.specs.declared.entry.Entry.TheVariants.{Acked}
use Rattle.entry_model.specs.Legal.{Legal}
use Rattle.entry_model.specs.Values.{acked_in, acked_upto, commits}
use Rattle.entry_model.proofs.Follows.{Legal-push}
use Rattle.entry_model.proofs.Lasts.{commits-append, last_of-append}
use Rattle.session_model.specs.Working.{marks_beyond}
use Rattle.batch_forwarder.specs.Laws.{AcksMayFollow}

-- behind the mark that an entry sets
goes_on : (entries : List Entry) (upto : ℕ) (rest : List (Option ℕ)) → Legal ((entries ++ Acked upto ∷ []) ++ map Acked (marks_beyond (acked_upto (entries ++ Acked upto ∷ [])) (length (commits (entries ++ Acked upto ∷ []))) rest))
    → Legal (entries ++ map Acked (upto ∷ marks_beyond upto (length (commits entries)) rest))
goes_on entries upto rest legal =
    let mark : acked_upto (entries ++ Acked upto ∷ []) ≡ upto = last_of-append acked_in 0 entries (Acked upto ∷ []) in
    let same : commits (entries ++ Acked upto ∷ []) ≡ commits entries = commits-append entries (Acked upto ∷ []) ∙ append-nil (commits entries) in
    let marks : marks_beyond (acked_upto (entries ++ Acked upto ∷ [])) (length (commits (entries ++ Acked upto ∷ []))) rest ≡ marks_beyond upto (length (commits entries)) rest =
    λ i. marks_beyond (mark i) (length (same i)) rest in
    subst Legal (append_assoc entries (Acked upto ∷ []) (map Acked (marks_beyond upto (length (commits entries)) rest)))
    (subst (λ (xs : List ℕ). Legal ((entries ++ Acked upto ∷ []) ++ map Acked xs)) marks legal)

by_move : (entries : List Entry) (upto : ℕ) (rest : List (Option ℕ)) (moves : Bool) → (nat_lt (acked_upto entries) upto && nat_le upto (length (commits entries))) ≡ moves → Legal entries
    → (Legal (entries ++ Acked upto ∷ []) → Legal ((entries ++ Acked upto ∷ []) ++ map Acked (marks_beyond (acked_upto (entries ++ Acked upto ∷ [])) (length (commits (entries ++ Acked upto ∷ []))) rest)))
    → Legal (entries ++ map Acked (marks_beyond (acked_upto entries) (length (commits entries)) rest))
    → Legal (entries ++ map Acked (cond moves (upto ∷ marks_beyond upto (length (commits entries)) rest) (marks_beyond (acked_upto entries) (length (commits entries)) rest)))
by_move entries upto rest true is legal further stays =
    let above : acked_upto entries < upto = grind (arith, nat_tests, is) in
    let within : upto ≤ length (commits entries) = grind (arith, nat_tests, is) in
    goes_on entries upto rest (further (Legal-push entries (Acked upto) legal (above, within)))
by_move entries upto rest false is legal further stays = stays

pub acks_may_follow : AcksMayFollow
acks_may_follow entries [] legal = subst Legal (sym (append-nil entries)) legal
acks_may_follow entries (None ∷ rest) legal = acks_may_follow entries rest legal
acks_may_follow entries (Some upto ∷ rest) legal =
    by_move entries upto rest (nat_lt (acked_upto entries) upto && nat_le upto (length (commits entries))) refl legal (acks_may_follow (entries ++ Acked upto ∷ []) rest) (acks_may_follow entries rest legal)
