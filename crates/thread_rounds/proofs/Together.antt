-- What publishers and workers hand on together.
use Rattle.std.proofs.Common.{◌≡◌, ◌≢◌, ℕ, ◌+◌, ◌==◌, true, List, [], ◌∷◌, ◌++◌, map, get_or, refl, sym, ap, ◌∙◌, subst, append_assoc, Ok, Err}
use Rattle.std.specs.Prelude.{All, OnOk, bytes_eq, Contains, Result}
use Rattle.std.specs.List.{AllZip}
use Rattle.std.proofs.lemmas.List.Elements.{All-cons, All-head, All-nil, All-tail}
use Rattle.std.proofs.lemmas.List.{append_cancel_left}
use mathlib.Core.List.{map-append}
use Rattle.entry_model.specs.Fits.{IsDistinct}
use Rattle.entry_model.specs.Next.{offset_at}
use Rattle.entry_model.specs.declared.entry.Entry.{Entry}
use Rattle.session_state.specs.Kept.{Counts, Kept, counts_next}
use Rattle.source_feeds.specs.Feeding.{Feeding}
use Rattle.turn_lock.specs.Own.{own}
use Rattle.turn_lock.specs.Turns.{Grows, entries}
use Rattle.turn_lock.specs.Words.{number, seen}
use Rattle.turn_lock.proofs.Lists.{all_head, all_left, all_right}
use Rattle.shared_store.specs.declared.noted.Noted.{Noted}
use Rattle.shared_store.specs.declared.store.Store.{Store}
use Rattle.shared_store.specs.Notes.{entries_in}
use Rattle.shared_store.specs.Values.{counts_after}
use Rattle.shared_store.specs.Words.{IsSeatOf, start_of}
use Rattle.shared_store.proofs.Lists.{entries_in-append}
use Rattle.daemon_rounds.specs.Appending.{end_behind}
use Rattle.daemon_rounds.specs.Turns.{IsTurn, Turn}
use Rattle.daemon_rounds.specs.declared.turning.Which.TheVariants as which
use Rattle.daemon_rounds.proofs.Turned.{rising}
use Rattle.thread_laws.specs.Jobs.{IsAnswerNote, Stamped, is_noted_from}
use Rattle.thread_laws.specs.Joining.{AreApart, HasEnded, HasPublished, Part}
use Rattle.thread_laws.specs.Timely.{AreTimely}
use Rattle.thread_laws.proofs.Agreed.{none_intrudes}
use Rattle.thread_jobs.specs.declared.error.JobError.TheVariants as job
use Rattle.thread_jobs.specs.declared.forking.Job.{Job}
use Rattle.thread_jobs.specs.Forking.{IsWorkerDone}
use Rattle.thread_jobs.specs.Publishing.{IsGoingFrom, IsTaken, counts_at, offset_after}
use Rattle.thread_rounds.specs.Stepping.{AreWorkOf, IsPartOf}
use Rattle.thread_rounds.proofs.Handed.{answered_own, has_ended, noted_own, offset_own, part_of, published_part, readings_own, timely_own, turn_taken}
use Rattle.thread_rounds.proofs.Seated.{all_mapped, all_unmapped, map_twice}
use Rattle.thread_rounds.proofs.Taken.{IsDone, IsRefusedOne, One, all_at}
use Rattle.thread_rounds.proofs.Works.{apart_works}

-- what holds of the elements of one list by those beside them in another
pub zip_all : {A B : Type 0} (Z : A → B → Type 0) (P : A → Type 0) (Q : B → Type 0) (R : A → Type 0) → ((a : A) (b : B) → Z a b → P a → Q b → R a) → (xs : List A) (ys : List B) → AllZip Z xs ys → All P xs → All Q ys → All R xs
zip_all Z P Q R each [] [] zip ps qs = All-nil R
zip_all Z P Q R each [] (y ∷ ys) zip ps qs = absurd zip
zip_all Z P Q R each (x ∷ xs) [] zip ps qs = absurd zip
zip_all Z P Q R each (x ∷ xs) (y ∷ ys) zip ps qs =
    All-cons R x xs (each x y zip.0 (All-head P x xs ps) (All-head Q y ys qs)) (zip_all Z P Q R each xs ys zip.1 (All-tail P x xs ps) (All-tail Q y ys qs))

abbrev pub worker_number : Job → ℕ
worker_number job = number job.seat

abbrev pub one_number : {S : Type 0} → One S → ℕ
one_number one = number one.old.seat

abbrev pub one_name : {S : Type 0} → One S → List ℕ
one_name one = one.feed.name

abbrev pub one_pair : {S : Type 0} → One S → ℕ × List ℕ
one_pair one = (number one.old.seat, one.feed.name)

abbrev pub SeenBefore : Stamped → Job → Type 0
SeenBefore before job = seen job.seat ≡ before

abbrev pub StandsIn : Stamped → Job → Type 0
StandsIn all job = Grows (λ (n : ℕ). n ≢ number job.seat) (seen job.seat) all

abbrev pub IsOk : Job → Type 0
IsOk job = job.end ≡ Ok tt

counts_after-append : (c : Counts) (xs ys : List Entry) → counts_after c (xs ++ ys) ≡ counts_after (counts_after c xs) ys
counts_after-append c [] ys = refl
counts_after-append c (x ∷ xs) ys = counts_after-append (counts_next c x) xs ys

-- the counts behind notes more
counts_more : (start : Kept) (before more : Stamped) → counts_at start (entries (before ++ more)) ≡ counts_after (counts_at start (entries before)) (entries_in (entries more))
counts_more start before more =
    ap (λ (notes : List Noted). counts_at start notes) (map-append (λ (x : ℕ × Noted). x.1) before more)
    ∙ ap (counts_after start.counts) (entries_in-append (entries before) (entries more))
    ∙ counts_after-append start.counts (entries_in (entries before)) (entries_in (entries more))

module _ {S : Type 0} (tells : Type 0) (left : S → List ℕ) (faults : S → ℕ) (most : ℕ) (before more : Stamped) where
  ok_taken : (one : One S) → IsDone tells left faults most one → IsOk one.new → IsTaken tells (left one.source) (left one.rest) most (number one.old.seat) (seen one.old.seat) (seen one.new.seat) one.feed one.next
  ok_taken one done ok =
      subst (λ (end : Result (Unit {0}) _). OnOk end (IsTaken tells (left one.source) (left one.rest) most (number one.old.seat) (seen one.old.seat) (seen one.new.seat) one.feed one.next)) ok done.taken

  -- the turns of the sources, and the parts of their seats
  pub record Parts (ones : List (One S)) : Type 0 where
    pub turns : List (Turn S)
    pub parts : List Part
    pub are : AllZip IsPartOf turns parts
    pub published : All (HasPublished before (before ++ more)) parts
    pub each : All (IsTurn tells left faults which.Every most) turns
    pub numbers : map (λ (part : Part). part.number) parts ≡ map one_number ones
    pub feeds : map (λ (turn : Turn S). turn.feed) turns ≡ map (λ (one : One S). one.feed) ones
    pub nexts : map (λ (turn : Turn S). turn.next) turns ≡ map (λ (one : One S). one.next) ones
    pub sources : map (λ (turn : Turn S). turn.source) turns ≡ map (λ (one : One S). one.source) ones
    pub rests : map (λ (turn : Turn S). turn.rest) turns ≡ map (λ (one : One S). one.rest) ones

  pub parts_of : (ones : List (One S)) → All (IsDone tells left faults most) ones → All (λ (one : One S). SeenBefore before one.old) ones → All (λ (one : One S). StandsIn (before ++ more) one.new) ones → All (λ (one : One S). IsOk one.new) ones → Parts ones
  parts_of [] done sees stands ok = record {
    turns = [];
    parts = [];
    are = tt;
    published = All-nil (HasPublished before (before ++ more));
    each = All-nil (IsTurn tells left faults which.Every most);
    numbers = refl;
    feeds = refl;
    nexts = refl;
    sources = refl;
    rests = refl;
  }
  parts_of (one ∷ ones) done sees stands ok =
      let is = All-head (IsDone tells left faults most) one ones done in
      let saw = All-head (λ (one : One S). SeenBefore before one.old) one ones sees in
      let stood = All-head (λ (one : One S). StandsIn (before ++ more) one.new) one ones stands in
      let taken = ok_taken one is (All-head (λ (one : One S). IsOk one.new) one ones ok) in
      let part = part_of tells left faults most before more one is saw stood taken in
      let turn = turn_taken tells left faults most before more one is saw stood taken in
      let rest = parts_of ones (All-tail (IsDone tells left faults most) one ones done) (All-tail (λ (one : One S). SeenBefore before one.old) one ones sees) (All-tail (λ (one : One S). StandsIn (before ++ more) one.new) one ones stands) (All-tail (λ (one : One S). IsOk one.new) one ones ok) in
      record {
        turns = turn ∷ rest.turns;
        parts = part ∷ rest.parts;
        are = (record { name = refl; readings = refl }, rest.are);
        published = All-cons (HasPublished before (before ++ more)) part rest.parts (published_part tells left faults most before more one is saw stood taken) rest.published;
        each = All-cons (IsTurn tells left faults which.Every most) turn rest.turns (record { plays = taken.gave; later = is.cause.later }) rest.each;
        numbers = ap (λ (l : List ℕ). number one.old.seat ∷ l) rest.numbers;
        feeds = ap (λ (l : List Feeding). one.feed ∷ l) rest.feeds;
        nexts = ap (λ (l : List Feeding). one.next ∷ l) rest.nexts;
        sources = ap (λ (l : List S). one.source ∷ l) rest.sources;
        rests = ap (λ (l : List S). one.rest ∷ l) rest.rests;
      }

  module _ (ones : List (One S)) (done : All (IsDone tells left faults most) ones) (sees : All (λ (one : One S). SeenBefore before one.old) ones) (stands : All (λ (one : One S). StandsIn (before ++ more) one.new) ones)
      (store : Store) (olds news : List Job) (worked : AllZip IsWorkerDone olds news) (of : All (λ (job : Job). IsSeatOf store job.seat) olds) (saw : All (SeenBefore before) olds) (stood : All (StandsIn (before ++ more)) news)
      (names : IsDistinct bytes_eq (map one_name ones)) (distinct : IsDistinct ◌==◌ (map worker_number olds ++ map one_number ones)) (numbered : All (λ (note : ℕ × Noted). Contains (map worker_number olds ++ map one_number ones) note.0) more) where
    abbrev Good : Job → Type 0
    Good job = IsSeatOf store job.seat × SeenBefore before job

    good : All Good olds
    good = λ k d h. (of k d h, saw k d h)

    -- the notes of each publisher are of its source, and those of each worker are answers
    apart : AreApart (map one_pair ones) (map worker_number olds) more
    apart =
        let same = map_twice (λ (pair : ℕ × List ℕ). pair.0) one_pair ones in
        let named = map_twice (λ (pair : ℕ × List ℕ). pair.1) one_pair ones in
        record {
          published =
              all_mapped (λ (pair : ℕ × List ℕ). All (λ (note : Noted). is_noted_from pair.1 note ≡ true) (own pair.0 more)) one_pair ones
              (λ k d h. noted_own tells left faults most before more (get_or ones k d) (done k d h) (sees k d h) (stands k d h));
          answered =
              all_mapped (λ (worker : ℕ). All IsAnswerNote (own worker more)) worker_number olds
              (zip_all IsWorkerDone Good (StandsIn (before ++ more)) (λ (job : Job). All IsAnswerNote (own (worker_number job) more)) (λ old new is so there. answered_own store before more old new is so.0 so.1 there) olds news worked good stood);
          names = subst (IsDistinct bytes_eq) (sym named) names;
          distinct = subst (λ (l : List ℕ). IsDistinct ◌==◌ (map worker_number olds ++ l)) (sym same) distinct;
          numbered = subst (λ (l : List ℕ). All (λ (note : ℕ × Noted). Contains (map worker_number olds ++ l) note.0) more) (sym same) numbered;
        }

    -- what was added is work of theirs
    pub works_each : AreWorkOf (map one_name ones) more
    works_each =
        subst (λ (names : List (List ℕ)). AreWorkOf names more) (map_twice (λ (pair : ℕ × List ℕ). pair.1) one_pair ones)
        (apart_works (map one_pair ones) (map worker_number olds) more apart)

    -- no other seat has added a reading of a publisher's source
    only : All (λ (one : One S). All (λ (note : ℕ × Noted). is_noted_from one.feed.name note.1 ≡ true → note.0 ≡ number one.old.seat) more) ones
    only = all_unmapped (λ (pair : ℕ × List ℕ). All (λ (note : ℕ × Noted). is_noted_from pair.1 note.1 ≡ true → note.0 ≡ pair.0) more) one_pair ones (none_intrudes (map one_pair ones) (map worker_number olds) more apart)

    pub timely_each : (start : Kept) → start_of store ≡ start → All (λ (worker : ℕ). AreTimely start worker before more) (map worker_number olds)
    timely_each start is =
        all_mapped (λ (worker : ℕ). AreTimely start worker before more) worker_number olds
        (zip_all IsWorkerDone Good (StandsIn (before ++ more)) (λ (job : Job). AreTimely start (worker_number job) before more)
        (λ old new is_done so there. subst (λ (s : Kept). AreTimely s (worker_number old) before more) is (timely_own store before more old new is_done so.0 so.1 there)) olds news worked good stood)

    pub ended_each : All IsOk news → All (HasEnded (start_of store) before (before ++ more)) (map worker_number olds)
    ended_each ok =
        all_mapped (HasEnded (start_of store) before (before ++ more)) worker_number olds
        (zip_all IsWorkerDone Good (λ (job : Job). StandsIn (before ++ more) job × IsOk job) (λ (job : Job). HasEnded (start_of store) before (before ++ more) (worker_number job))
        (λ old new is so there. has_ended store before more old new is so.0 so.1 there.0 there.1) olds news worked good (λ k d h. (stood k d h, ok k d h)))

    -- each feed goes on from where the joined list has its source
    pub going_each : (start : Kept) → All (λ (one : One S). IsOk one.new) ones → All (λ (one : One S). IsGoingFrom start (entries before) one.feed) ones → All (λ (one : One S). IsGoingFrom start (entries (before ++ more)) one.next) ones
    going_each start ok going = λ k d h. goes (get_or ones k d) (done k d h) (sees k d h) (stands k d h) (ok k d h) (going k d h) (only k d h)
      where
        goes : (one : One S) → IsDone tells left faults most one → SeenBefore before one.old → StandsIn (before ++ more) one.new → IsOk one.new → IsGoingFrom start (entries before) one.feed
            → All (λ (note : ℕ × Noted). is_noted_from one.feed.name note.1 ≡ true → note.0 ≡ number one.old.seat) more → IsGoingFrom start (entries (before ++ more)) one.next
        goes one is saw_it stood_there ok_here was others =
            let taken = ok_taken one is ok_here in
            let same = taken.gave.same in
            let name = one.feed.name in
            let moved : offset_after start (entries (before ++ more)) name ≡ end_behind (offset_after start (entries before) name) taken.readings =
            ap (λ (c : Counts). offset_at c.taken name) (counts_more start before more)
            ∙ offset_own (number one.old.seat) name more (counts_at start (entries before)) taken.readings others (readings_own tells left faults most before more one is saw_it stood_there taken) in
            record {
              begun = same.is_begun ∙ was.begun;
              unspent = same.is_spent ∙ was.unspent;
              place =
                  sym (rising one.feed.reader.taken one.next.reader.taken taken.readings taken.gave.rise).1 ∙ ap (λ (offset : ℕ). end_behind offset taken.readings) was.place
                  ∙ sym moved
                  ∙ ap (offset_after start (entries (before ++ more))) (sym same.name);
            }

    -- no publisher was intruded on
    pub not_intruded : (place : ℕ) → IsRefusedOne ones place job.Intruded → ⊥
    not_intruded place refused =
        found refused.one (all_at (IsDone tells left faults most) ones place refused.one refused.there done) (all_at (λ (one : One S). SeenBefore before one.old) ones place refused.one refused.there sees)
        (all_at (λ (one : One S). StandsIn (before ++ more) one.new) ones place refused.one refused.there stands)
        (all_at (λ (one : One S). All (λ (note : ℕ × Noted). is_noted_from one.feed.name note.1 ≡ true → note.0 ≡ number one.old.seat) more) ones place refused.one refused.there only) refused.is
      where
        found : (one : One S) → IsDone tells left faults most one → SeenBefore before one.old → StandsIn (before ++ more) one.new → All (λ (note : ℕ × Noted). is_noted_from one.feed.name note.1 ≡ true → note.0 ≡ number one.old.seat) more
            → one.new.end ≡ Err job.Intruded → ⊥
        found one is saw_it stood_there others error =
            let i = is.intruded error in
            let whole : before ++ more ≡ before ++ ((i.front ++ i.stamped ∷ i.rest) ++ stood_there.0) =
            stood_there.1 ∙ ap (λ (l : Stamped). l ++ stood_there.0) (i.are ∙ ap (λ (l : Stamped). l ++ (i.front ++ i.stamped ∷ i.rest)) saw_it) ∙ append_assoc before (i.front ++ i.stamped ∷ i.rest) stood_there.0 in
            let parts : more ≡ (i.front ++ i.stamped ∷ i.rest) ++ stood_there.0 = append_cancel_left before more ((i.front ++ i.stamped ∷ i.rest) ++ stood_there.0) whole in
            let Only : ℕ × Noted → Type 0 = λ (note : ℕ × Noted). is_noted_from one.feed.name note.1 ≡ true → note.0 ≡ number one.old.seat in
            let there = all_head Only i.stamped i.rest (all_right Only i.front (i.stamped ∷ i.rest) (all_left Only (i.front ++ i.stamped ∷ i.rest) stood_there.0 (subst (All Only) parts others))) in
            i.other (there i.of)
