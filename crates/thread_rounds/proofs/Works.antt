-- What publishers and workers add, whatever comes of them.
use Rattle.std.proofs.Common.{◌≡◌, ℕ, ◌||◌, true, false, List, ◌∷◌, ◌++◌, map, get_or, refl, sym, ap, ◌∙◌, subst, true≢false}
use Rattle.std.specs.Prelude.{All}
use Rattle.std.specs.List.{list_any}
use Rattle.std.proofs.lemmas.List.Elements.{All-append, All-map, All-weaker}
use Rattle.entry_model.specs.declared.entry.Entry.{Entry}
use Rattle.entry_model.specs.declared.entry.Entry.TheVariants.{Opened, Configured, Ticked, Appended, TableSet, Expired, Committed, Acked}
use Rattle.session_state.specs.Sealing.{IsSealable, IsSendable}
use Rattle.session_model.specs.Taking.{is_from}
use Rattle.session_model.specs.Working.{is_batch}
use Rattle.turn_lock.specs.Own.{own}
use Rattle.shared_store.specs.declared.noted.Noted.{Noted}
use Rattle.shared_store.specs.declared.noted.Noted.TheVariants.{Added, Given, Taken}
use Rattle.daemon_rounds.specs.AtOnce.{is_work}
use Rattle.thread_laws.specs.Jobs.{IsAnswer, IsAnswerNote, Stamped, is_noted_from}
use Rattle.thread_laws.specs.Joining.{AreApart}
use Rattle.thread_laws.proofs.Adding.{any_at, or_right}
use Rattle.thread_laws.proofs.Seats.{each_note}
use Rattle.thread_rounds.specs.Stepping.{AreWorkOf, IsWorkOf}
use Rattle.thread_rounds.proofs.Seated.{all_unmapped}

abbrev name_of : ℕ × List ℕ → List ℕ
name_of one = one.1

abbrev number_of : ℕ × List ℕ → ℕ
number_of one = one.0

-- what a worker adds
answer_work : (names : List (List ℕ)) (entry : Entry) → IsAnswer entry → (is_work names entry ≡ true) × IsSealable entry
answer_work names (Committed batch) is = (refl, λ other e. let same : batch ≡ other = cc in subst IsSendable same is)
answer_work names (Opened session rules) is = absurd is
answer_work names (Configured document schedule moment) is = absurd is
answer_work names (Ticked moment) is = absurd is
answer_work names (Appended source taken events skipped moment) is = absurd is
answer_work names (TableSet source table rows taken) is = absurd is
answer_work names (Expired table floor moment) is = absurd is
answer_work names (Acked upto) is = absurd is

note_answered : (names : List (List ℕ)) (note : Noted) → IsAnswerNote note → IsWorkOf names note
note_answered names (Added entry) is = answer_work names entry is
note_answered names Taken is = absurd is
note_answered names (Given cut) is = tt

-- and a publisher
reading_sealable : (name : List ℕ) (entry : Entry) → is_from name entry ≡ true → IsSealable entry
reading_sealable name entry is = λ batch e. absurd (true≢false (sym is ∙ ap (is_from name) e))

note_read : (names : List (List ℕ)) (name : List ℕ) → ((entry : Entry) → is_from name entry ≡ true → list_any (λ (other : List ℕ). is_from other entry) names ≡ true) → (note : Noted) → is_noted_from name note ≡ true → IsWorkOf names note
note_read names name any (Added entry) is = (or_right (is_batch entry) (list_any (λ (other : List ℕ). is_from other entry) names) (any entry is), reading_sealable name entry is)
note_read names name any Taken is = absurd (true≢false (sym is))
note_read names name any (Given cut) is = tt

pub apart_works : (publishers : List (ℕ × List ℕ)) (workers : List ℕ) (more : Stamped) → AreApart publishers workers more → AreWorkOf (map name_of publishers) more
apart_works publishers workers more apart =
    each_note (λ (number : ℕ). IsWorkOf names) (workers ++ map number_of publishers) more
    (All-append (λ (number : ℕ). All (IsWorkOf names) (own number more)) workers (map number_of publishers)
    (λ k d h. All-weaker IsAnswerNote (IsWorkOf names) (note_answered names) (own (get_or workers k d) more) (apart.answered k d h))
    (All-map (λ (number : ℕ). All (IsWorkOf names) (own number more)) number_of publishers
    (λ k d h. of_one (get_or publishers k d) (any k d h) (apart.published k d h))))
    apart.numbered
  where
    names : List (List ℕ)
    names = map name_of publishers

    any : All (λ (one : ℕ × List ℕ). (entry : Entry) → is_from one.1 entry ≡ true → list_any (λ (other : List ℕ). is_from other entry) names ≡ true) publishers
    any = λ k d h entry. all_unmapped (λ (name : List ℕ). is_from name entry ≡ true → list_any (λ (other : List ℕ). is_from other entry) names ≡ true) name_of publishers (any_at (λ (name : List ℕ). is_from name entry) names) k d h

    of_one : (one : ℕ × List ℕ) → ((entry : Entry) → is_from one.1 entry ≡ true → list_any (λ (other : List ℕ). is_from other entry) names ≡ true) → All (λ (note : Noted). is_noted_from one.1 note ≡ true) (own one.0 more) → All (IsWorkOf names) (own one.0 more)
    of_one one any noted = All-weaker (λ (note : Noted). is_noted_from one.1 note ≡ true) (IsWorkOf names) (note_read names one.1 any) (own one.0 more) noted
