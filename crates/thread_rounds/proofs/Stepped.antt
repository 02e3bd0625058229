-- A step of threads is done, or what refuses it.
use Rattle.std.proofs.Common.{◌≡◌, ◌≢◌, ◌⊎◌, inl, inr, ℕ, zero, suc, ◌+◌, ◌<◌, ◌==◌, List, [], ◌∷◌, ◌++◌, map, length, refl, sym, ap, ap₂, ◌∙◌, subst, arith, append_assoc, length-append, Option, None, Some, Result, Err}
use Rattle.std.specs.Prelude.{All, Contains, IfSome, OnOk, bytes_eq, slice_get}
use Rattle.std.specs.List.{AllZip, range_with_len}
use Rattle.std.proofs.lemmas.List.{length-map}
use Rattle.std.proofs.lemmas.List.Elements.{All-append, All-cons, All-head, All-nil, All-tail, All-weaker, length_all_zip}
use mathlib.Core.List.{map-append}
use Rattle.entry_model.specs.Fits.{IsDistinct}
use Rattle.session_state.specs.Kept.{Kept}
use Rattle.source_feeds.specs.Feeding.{Feeding}
use Rattle.turn_lock.specs.declared.board.Stands.{Ghosts}
use Rattle.turn_lock.specs.declared.lock.TurnSeat.{TurnSeat}
use Rattle.turn_lock.specs.Turns.{Grows, entries}
use Rattle.turn_lock.specs.Words.{number, seen}
use Rattle.turn_lock.proofs.Lists.{all_left, all_right}
use Rattle.shared_store.specs.declared.noted.Noted.{Noted}
use Rattle.shared_store.specs.declared.shared.Shared.{Shared}
use Rattle.shared_store.specs.declared.store.Store.{Store}
use Rattle.shared_store.specs.Words.{IsSeatOf, start_of}
use Rattle.daemon_rounds.specs.Rounding.{AllCount, FailsAt, names_of}
use Rattle.thread_laws.specs.Jobs.{Stamped}
use Rattle.thread_laws.specs.Joining.{HasEnded, HasPublished}
use Rattle.thread_laws.specs.Laws.{AreNumbered}
use Rattle.thread_laws.proofs.Numbers.{numbers}
use Rattle.thread_jobs.specs.declared.error.JobError.{JobError}
use Rattle.thread_jobs.specs.declared.error.JobError.TheVariants as job
use Rattle.thread_jobs.specs.declared.forking.Job.{Job}
use Rattle.thread_jobs.specs.Forking.{ComesBack, IsWorkerDone, MayPublish, MayPublishAll, MayWork, MayWorkAll, PublishersDone, WorkersDone}
use Rattle.thread_jobs.specs.Publishing.{HasTooMuch, IsGoingFrom}
use Rattle.thread_rounds.specs.declared.error.StepRefusal.{StepRefusal}
use Rattle.thread_rounds.specs.declared.error.StepRefusal.TheVariants as step
use Rattle.thread_rounds.specs.Ends.{ended_by, first_refused}
use Rattle.thread_rounds.specs.Seats.{AreSplit, IsLater}
use Rattle.thread_rounds.specs.Stepping.{AreWorkOf, IsStepDone, SpendsStep}
use Rattle.thread_rounds.proofs.Ended.{all_done}
use Rattle.thread_rounds.proofs.Numbered.{contains_turned, distinct_turned}
use Rattle.thread_rounds.proofs.Seated.{AreBack, all_mapped, all_unmapped, later_split, map_twice}
use Rattle.thread_rounds.proofs.Taken.{IsDone, IsRefusedOne, IsRefusedWorker, One, Ones, all_at, mapped_at, ones_of, refused_one_of}
use Rattle.thread_rounds.proofs.Together.{IsOk, Parts, SeenBefore, StandsIn, ended_each, going_each, not_intruded, one_name, one_number, parts_of, timely_each, worker_number, works_each}

-- ---- jobs before they work
module _ {g : Ghosts Shared Kept Noted} where
  pub later_seats : (store : Store) (old new : TurnSeat Shared Kept Noted g) (seats : List (TurnSeat Shared Kept Noted g)) → AreSplit store old new seats → All (IsLater store) seats
  later_seats store old new seats so = λ k d h. later_split store old _ (so.each k d h)

  pub seen_seats : (store : Store) (old new : TurnSeat Shared Kept Noted g) (seats : List (TurnSeat Shared Kept Noted g)) → AreSplit store old new seats → All (λ seat. seen seat ≡ seen old) seats
  seen_seats store old new seats so = λ k d h. (so.each k d h).sees

may_work_each : (store : Store) (jobs : List Job) → All (λ (job : Job). IsLater store job.seat) jobs → All (MayWork store) jobs
may_work_each store jobs later = All-weaker (λ (job : Job). IsLater store job.seat) (MayWork store) (λ job is. record { of = is.of; rest = is.rest }) jobs later

may_publish_each : (store : Store) (before : Stamped) (jobs : List Job) (feeds : List Feeding) → All (λ (job : Job). IsLater store job.seat) jobs → All (SeenBefore before) jobs → All (IsGoingFrom (start_of store) (entries before)) feeds → length feeds ≡ length jobs → AllZip (MayPublish store) jobs feeds
may_publish_each store before [] [] later sees going long = tt
may_publish_each store before [] (f ∷ fs) later sees going long = absurd (omega (arith, long))
may_publish_each store before (j ∷ js) [] later sees going long = absurd (omega (arith, long))
may_publish_each store before (j ∷ js) (f ∷ fs) later sees going long =
    let is = All-head (λ (job : Job). IsLater store job.seat) j js later in
    let saw = All-head (SeenBefore before) j js sees in (
      record {
        may = record { of = is.of; rest = is.rest };
        going = subst (λ (l : Stamped). IsGoingFrom (start_of store) (entries l) f) (sym saw) (All-head (IsGoingFrom (start_of store) (entries before)) f fs going);
      },
      may_publish_each store before js fs (All-tail (λ (job : Job). IsLater store job.seat) j js later) (All-tail (SeenBefore before) j js sees) (All-tail (IsGoingFrom (start_of store) (entries before)) f fs going) (omega (arith, long)),
    )

-- the first of these are publishers, as many as there are feeds, and the others workers
module _ (store : Store) (before : Stamped) (jobs ps ws : List Job) (feeds : List Feeding) (are : jobs ≡ ps ++ ws) (later : All (λ (job : Job). IsLater store job.seat) jobs) where
  pub may_publish_all : All (SeenBefore before) jobs → All (IsGoingFrom (start_of store) (entries before)) feeds → length feeds ≡ length ps → MayPublishAll store ps feeds
  may_publish_all sees going long = record {
    each = may_publish_each store before ps feeds (all_left (λ (job : Job). IsLater store job.seat) ps ws (subst (All (λ (job : Job). IsLater store job.seat)) are later)) (all_left (SeenBefore before) ps ws (subst (All (SeenBefore before)) are sees)) going long;
  }

  pub may_work_all : MayWorkAll store ws
  may_work_all = record { each = may_work_each store ws (all_right (λ (job : Job). IsLater store job.seat) ps ws (subst (All (λ (job : Job). IsLater store job.seat)) are later)) }

-- ---- jobs that came back
came_back : (store : Store) (old new : Job) → IsLater store old.seat → ComesBack old new → IsLater store new.seat
came_back store old new was back = record {
  of = (back.same.table ∙ was.of.0, back.same.start ∙ was.of.1);
  rest = back.rest;
  later = λ e. was.later (sym back.same.number ∙ e);
}

workers_later : (store : Store) (olds news : List Job) → AllZip IsWorkerDone olds news → All (λ (job : Job). IsLater store job.seat) olds → All (λ (job : Job). IsLater store job.seat) news
workers_later store [] [] zip later = All-nil (λ (job : Job). IsLater store job.seat)
workers_later store [] (y ∷ ys) zip later = absurd zip
workers_later store (x ∷ xs) [] zip later = absurd zip
workers_later store (x ∷ xs) (y ∷ ys) zip later =
    All-cons (λ (job : Job). IsLater store job.seat) y ys (came_back store x y (All-head (λ (job : Job). IsLater store job.seat) x xs later) zip.0.back) (workers_later store xs ys zip.1 (All-tail (λ (job : Job). IsLater store job.seat) x xs later))

workers_same : (olds news : List Job) → AllZip IsWorkerDone olds news → map worker_number news ≡ map worker_number olds
workers_same [] [] zip = refl
workers_same [] (y ∷ ys) zip = absurd zip
workers_same (x ∷ xs) [] zip = absurd zip
workers_same (x ∷ xs) (y ∷ ys) zip = ap₂ (λ (n : ℕ) (l : List ℕ). n ∷ l) zip.0.back.same.number (workers_same xs ys zip.1)

map_same : {X Y : Type 0} (f h : X → Y) (xs : List X) → All (λ (x : X). f x ≡ h x) xs → map f xs ≡ map h xs
map_same f h [] same = refl
map_same f h (x ∷ xs) same = ap₂ (λ (y : _) (l : List _). y ∷ l) (All-head (λ x. f x ≡ h x) x xs same) (map_same f h xs (All-tail (λ x. f x ≡ h x) x xs same))

module _ {S : Type 0} (tells : Type 0) (left : S → List ℕ) (faults : S → ℕ) (most : ℕ) (jobs backs ps ws qs vs : List Job) (feeds nexts : List Feeding) (sources rests : List S) (jobs_are : jobs ≡ ps ++ ws) (backs_are : backs ≡ qs ++ vs)
    (published : PublishersDone tells left faults most ps qs feeds nexts sources rests) (worked : WorkersDone ws vs) where
  abbrev so : Ones tells left faults most ps qs feeds nexts sources rests
  so = ones_of tells left faults most ps qs feeds nexts sources rests published.each

  abbrev ones : List (One S)
  ones = so.ones

  -- each feed goes on counting
  counts_each : (ones : List (One S)) → All (IsDone tells left faults most) ones → AllCount tells left (map (λ (one : One S). one.feed) ones) (map (λ (one : One S). one.next) ones) (map (λ (one : One S). one.source) ones)
  counts_each [] done = tt
  counts_each (one ∷ ones) done = ((All-head (IsDone tells left faults most) one ones done).counts, counts_each ones (All-tail (IsDone tells left faults most) one ones done))

  pub counts_all : AllCount tells left feeds nexts sources
  counts_all =
      subst (λ (l : List Feeding). AllCount tells left l nexts sources) (sym so.are.feeds_are)
      (subst (λ (l : List Feeding). AllCount tells left (map (λ (one : One S). one.feed) ones) l sources) (sym so.are.nexts_are)
      (subst (λ (l : List S). AllCount tells left (map (λ (one : One S). one.feed) ones) (map (λ (one : One S). one.next) ones) l) (sym so.are.sources_are) (counts_each ones so.each)))

  -- each seat comes back under its number, and can be joined
  pub same_numbers : map worker_number backs ≡ map worker_number jobs
  same_numbers =
      ap (map worker_number) backs_are ∙ map-append worker_number qs vs
      ∙ ap₂ (λ (x y : List ℕ). x ++ y) publishers_same (workers_same ws vs worked.each)
      ∙ sym (map-append worker_number ps ws)
      ∙ sym (ap (map worker_number) jobs_are)
    where
      publishers_same : map worker_number qs ≡ map worker_number ps
      publishers_same =
          ap (map worker_number) so.are.news_are ∙ map_twice worker_number (λ (one : One S). one.new) ones
          ∙ map_same (λ (one : One S). worker_number one.new) (λ (one : One S). worker_number one.old) ones (λ k d h. (so.each k d h).back.same.number)
          ∙ sym (map_twice worker_number (λ (one : One S). one.old) ones)
          ∙ sym (ap (map worker_number) so.are.olds_are)

  pub later_backs : (store : Store) → All (λ (job : Job). IsLater store job.seat) jobs → All (λ (job : Job). IsLater store job.seat) backs
  later_backs store later =
      let Later : Job → Type 0 = λ (job : Job). IsLater store job.seat in
      let both = subst (All Later) jobs_are later in
      let olds = all_unmapped Later (λ (one : One S). one.old) ones (subst (All Later) so.are.olds_are (all_left Later ps ws both)) in
      let news : All (λ (one : One S). Later one.new) ones = λ k d h. came_back store _ _ (olds k d h) (so.each k d h).back in
      subst (All Later) (sym backs_are) (All-append Later qs vs (subst (All Later) (sym so.are.news_are) (all_mapped Later (λ (one : One S). one.new) ones news)) (workers_later store ws vs worked.each (all_right Later ps ws both)))

  workers_long : length ws ≡ length vs
  workers_long = length_all_zip IsWorkerDone ws vs worked.each

  -- the first refused job is one of these
  refused_in : (place : ℕ) (error : JobError) → first_refused 0 backs ≡ Some (place, error) → ((k : ℕ) × (place ≡ 0 + k) × IsRefusedOne ones k error) ⊎ IsRefusedWorker ws vs error
  refused_in place error is =
      refused_one_of 0 ones ws vs place error workers_long
      (ap (first_refused 0) (sym (backs_are ∙ ap (λ (l : List Job). l ++ vs) so.are.news_are)) ∙ is)

  zip_at : (place : ℕ) (xs ys : List Job) (x y : Job) → slice_get xs place ≡ Some x → slice_get ys place ≡ Some y → AllZip IsWorkerDone xs ys → IsWorkerDone x y
  zip_at place [] ys x y is also zip = absurd (let none : None ≡ Some x = is in cc)
  zip_at place (a ∷ xs) [] x y is also zip = absurd zip
  zip_at zero (a ∷ xs) (b ∷ ys) x y is also zip =
      let first : Some a ≡ Some x = is in
      let second : Some b ≡ Some y = also in
      let one : a ≡ x = cc in
      let other : b ≡ y = cc in
      subst (λ (j : Job). IsWorkerDone j y) one (subst (λ (j : Job). IsWorkerDone a j) other zip.0)
  zip_at (suc place) (a ∷ xs) (b ∷ ys) x y is also zip = zip_at place xs ys x y is also zip.1

  worker_at : (error : JobError) (refused : IsRefusedWorker ws vs error) → IsWorkerDone refused.old refused.new
  worker_at error refused = zip_at refused.place ws vs refused.old refused.new refused.old_there refused.new_there worked.each

  there : {X : Type 0} (f : One S → X) (whole : List X) (place : ℕ) (one : One S) → whole ≡ map f ones → slice_get ones place ≡ Some one → slice_get whole place ≡ Some (f one)
  there f whole place one are is = ap (λ (l : List _). slice_get l place) are ∙ mapped_at f ones place one is

  -- a source's fault is the first one's
  pub fails_first : (place : ℕ) → first_refused 0 backs ≡ Some (place, job.SourceFault) → FailsAt faults place sources rests
  fails_first place is = elim (refused_in place job.SourceFault is) [
    | inl at ↦
        let one = at.2.one in
        let place_is = at.1 in
        let here : at.0 ≡ place = omega (arith, place_is) in
        subst (λ (k : ℕ). FailsAt faults k sources rests) here (record {
          source = one.source;
          rest = one.rest;
          was = there (λ (o : One S). o.source) sources at.0 one so.are.sources_are at.2.there;
          is = there (λ (o : One S). o.rest) rests at.0 one so.are.rests_are at.2.there;
          rose = (all_at (IsDone tells left faults most) ones at.0 one at.2.there so.each).cause.failed at.2.is;
        })
    | inr worker ↦ absurd ((worker_at job.SourceFault worker).only.0 worker.is)
  ]

  module _ (store : Store) (before all : Stamped) (given : ℕ) (gone : List ℕ) (back : AreBack store before all given gone (map (λ (job : Job). job.seat) jobs) (map (λ (job : Job). job.seat) backs)) (some : 0 < length ws)
      (names : IsDistinct bytes_eq (map (λ (feed : Feeding). feed.name) feeds)) where
    abbrev count : ℕ
    count = length (map (λ (job : Job). job.seat) jobs)

    some_back : 0 < length (map (λ (job : Job). job.seat) backs)
    some_back =
        let long = length-map backs (λ (job : Job). job.seat) in
        let parts : length backs ≡ length qs + length vs = ap (λ (l : List Job). length l) backs_are ∙ length-append qs vs in
        let same = workers_long in
        omega (arith, some, long, parts, same)

    nums : AreNumbered given count gone before all
    nums = numbers given count gone before all back.each back.grows (back.most some_back)

    abbrev more : Stamped
    more = nums.more

    sees_jobs : All (SeenBefore before) (ps ++ ws)
    sees_jobs = subst (All (SeenBefore before)) jobs_are (all_unmapped (λ seat. seen seat ≡ before) (λ (job : Job). job.seat) jobs back.sees)

    of_jobs : All (λ (job : Job). IsSeatOf store job.seat) (ps ++ ws)
    of_jobs = subst (All (λ (job : Job). IsSeatOf store job.seat)) jobs_are (all_unmapped (IsSeatOf store) (λ (job : Job). job.seat) jobs back.of)

    stands_backs : All (StandsIn (before ++ more)) (qs ++ vs)
    stands_backs =
        subst (All (StandsIn (before ++ more))) backs_are
        (subst (λ (l : Stamped). All (StandsIn l) backs) nums.are (all_unmapped (λ seat. Grows (λ (n : ℕ). n ≢ number seat) (seen seat) all) (λ (job : Job). job.seat) backs back.stands))

    sees_ones : All (λ (one : One S). SeenBefore before one.old) ones
    sees_ones = all_unmapped (SeenBefore before) (λ (one : One S). one.old) ones (subst (All (SeenBefore before)) so.are.olds_are (all_left (SeenBefore before) ps ws sees_jobs))

    stands_ones : All (λ (one : One S). StandsIn (before ++ more) one.new) ones
    stands_ones = all_unmapped (StandsIn (before ++ more)) (λ (one : One S). one.new) ones (subst (All (StandsIn (before ++ more))) so.are.news_are (all_left (StandsIn (before ++ more)) qs vs stands_backs))

    sees_ws : All (SeenBefore before) ws
    sees_ws = all_right (SeenBefore before) ps ws sees_jobs

    of_ws : All (λ (job : Job). IsSeatOf store job.seat) ws
    of_ws = all_right (λ (job : Job). IsSeatOf store job.seat) ps ws of_jobs

    stands_vs : All (StandsIn (before ++ more)) vs
    stands_vs = all_right (StandsIn (before ++ more)) qs vs stands_backs

    -- the numbers of publishers, and behind them those of workers
    range_is : range_with_len (given + 1) count ≡ map one_number ones ++ map worker_number ws
    range_is =
        sym back.numbers ∙ map_twice number (λ (job : Job). job.seat) jobs ∙ ap (map worker_number) jobs_are ∙ map-append worker_number ps ws
        ∙ ap (λ (l : List ℕ). l ++ map worker_number ws) (ap (map worker_number) so.are.olds_are ∙ map_twice worker_number (λ (one : One S). one.old) ones)

    distinct_is : IsDistinct ◌==◌ (map worker_number ws ++ map one_number ones)
    distinct_is = distinct_turned (map one_number ones) (map worker_number ws) (subst (IsDistinct ◌==◌) range_is nums.distinct)

    numbered_is : All (λ (note : ℕ × Noted). Contains (map worker_number ws ++ map one_number ones) note.0) more
    numbered_is =
        All-weaker (λ (note : ℕ × Noted). Contains (range_with_len (given + 1) count) note.0) (λ (note : ℕ × Noted). Contains (map worker_number ws ++ map one_number ones) note.0)
        (λ note at. contains_turned (map one_number ones) (map worker_number ws) note.0 (subst (λ (l : List ℕ). Contains l note.0) range_is at)) more nums.numbered

    named : names_of feeds ≡ map one_name ones
    named = ap (map (λ (feed : Feeding). feed.name)) so.are.feeds_are ∙ map_twice (λ (feed : Feeding). feed.name) (λ (one : One S). one.feed) ones

    names_ones : IsDistinct bytes_eq (map one_name ones)
    names_ones = subst (IsDistinct bytes_eq) named names

    works_is : AreWorkOf (names_of feeds) more
    works_is = subst (λ (names : List (List ℕ)). AreWorkOf names more) (sym named) (works_each tells left faults most before more ones so.each sees_ones stands_ones store ws vs worked.each of_ws sees_ws stands_vs names_ones distinct_is numbered_is)

    ok_backs : first_refused 0 backs ≡ None → All IsOk (qs ++ vs)
    ok_backs none = subst (All IsOk) backs_are (all_done 0 backs none)

    ok_ones : first_refused 0 backs ≡ None → All (λ (one : One S). IsOk one.new) ones
    ok_ones none = all_unmapped IsOk (λ (one : One S). one.new) ones (subst (All IsOk) so.are.news_are (all_left IsOk qs vs (ok_backs none)))

    pub step_done : first_refused 0 backs ≡ None → IsStepDone tells left faults most (start_of store) before all feeds nexts sources rests
    step_done none = record {
      turns = parts.turns;
      whole = record {
        feeds_are = so.are.feeds_are ∙ sym parts.feeds;
        nexts_are = so.are.nexts_are ∙ sym parts.nexts;
        sources_are = so.are.sources_are ∙ sym parts.sources;
        rests_are = so.are.rests_are ∙ sym parts.rests;
      };
      each = parts.each;
      parts = parts.parts;
      are = parts.are;
      workers = map worker_number ws;
      more = more;
      grown = nums.are;
      published = subst (λ (l : Stamped). All (HasPublished before l) parts.parts) (sym nums.are) parts.published;
      ended =
          subst (λ (l : Stamped). All (HasEnded (start_of store) before l) (map worker_number ws)) (sym nums.are)
          (ended_each tells left faults most before more ones so.each sees_ones stands_ones store ws vs worked.each of_ws sees_ws stands_vs names_ones distinct_is numbered_is (all_right IsOk qs vs (ok_backs none)));
      timely = timely_each tells left faults most before more ones so.each sees_ones stands_ones store ws vs worked.each of_ws sees_ws stands_vs names_ones distinct_is numbered_is (start_of store) refl;
      some = let long = length-map ws worker_number in omega (arith, some, long);
      distinct = subst (λ (l : List ℕ). IsDistinct ◌==◌ (map worker_number ws ++ l)) (sym parts.numbers) distinct_is;
      numbered = subst (λ (l : List ℕ). All (λ (note : ℕ × Noted). Contains (map worker_number ws ++ l) note.0) more) (sym parts.numbers) numbered_is;
      works = works_is;
    }
      where
        parts : Parts tells left faults most before more ones
        parts = parts_of tells left faults most before more ones so.each sees_ones stands_ones (ok_ones none)

    pub going_done : first_refused 0 backs ≡ None → All (IsGoingFrom (start_of store) (entries before)) feeds → All (IsGoingFrom (start_of store) (entries all)) nexts
    going_done none going =
        let was = all_unmapped (IsGoingFrom (start_of store) (entries before)) (λ (one : One S). one.feed) ones (subst (All (IsGoingFrom (start_of store) (entries before))) so.are.feeds_are going) in
        let goes = going_each tells left faults most before more ones so.each sees_ones stands_ones store ws vs worked.each of_ws sees_ws stands_vs names_ones distinct_is numbered_is (start_of store) (ok_ones none) was in
        subst (All (IsGoingFrom (start_of store) (entries all))) (sym so.are.nexts_are)
        (all_mapped (IsGoingFrom (start_of store) (entries all)) (λ (one : One S). one.next) ones
        (subst (λ (l : Stamped). All (λ (one : One S). IsGoingFrom (start_of store) (entries l) one.next) ones) (sym nums.are) goes))

    pub none_intruded : (refused : Option (ℕ × JobError)) → refused ≡ first_refused 0 backs → IfSome refused (λ at. at.1 ≢ job.Intruded)
    none_intruded None is = tt
    none_intruded (Some at) is = λ e. intruded (refused_in at.0 job.Intruded (sym is ∙ ap (λ (error : JobError). Some (at.0, error)) e))
      where
        intruded : ((k : ℕ) × (at.0 ≡ 0 + k) × IsRefusedOne ones k job.Intruded) ⊎ IsRefusedWorker ws vs job.Intruded → ⊥
        intruded (inl one) = not_intruded tells left faults most before more ones so.each sees_ones stands_ones store ws vs worked.each of_ws sees_ws stands_vs names_ones distinct_is numbered_is one.0 one.2
        intruded (inr worker) = (worker_at job.Intruded worker).only.1 worker.is

    -- what a seat had seen begins the joined list
    pub spent_first : (place : ℕ) → first_refused 0 backs ≡ Some (place, job.NumbersSpent) → SpendsStep tells left most (start_of store) before all feeds nexts sources rests
    spent_first place is = elim (refused_in place job.NumbersSpent is) [
      | inl at ↦
          let one = at.2.one in
          let stood = all_at (λ (one : One S). StandsIn (before ++ more) one.new) ones at.0 one at.2.there stands_ones in
          let saw = all_at (λ (one : One S). SeenBefore before one.old) ones at.0 one at.2.there sees_ones in
          let of = all_at (λ (one : One S). IsSeatOf store one.old.seat) ones at.0 one at.2.there (all_unmapped (λ (job : Job). IsSeatOf store job.seat) (λ (one : One S). one.old) ones (subst (All (λ (job : Job). IsSeatOf store job.seat)) so.are.olds_are (all_left (λ (job : Job). IsSeatOf store job.seat) ps ws of_jobs))) in
          let done = all_at (IsDone tells left faults most) ones at.0 one at.2.there so.each in
          record {
            more = more;
            grown = nums.are;
            works = works_is;
            spent =
                inl (record {
                  place = at.0;
                  feed = one.feed;
                  next = one.next;
                  source = one.source;
                  rest = one.rest;
                  feed_there = there (λ (o : One S). o.feed) feeds at.0 one so.are.feeds_are at.2.there;
                  next_there = there (λ (o : One S). o.next) nexts at.0 one so.are.nexts_are at.2.there;
                  source_there = there (λ (o : One S). o.source) sources at.0 one so.are.sources_are at.2.there;
                  rest_there = there (λ (o : One S). o.rest) rests at.0 one so.are.rests_are at.2.there;
                  number = number one.old.seat;
                  front = seen one.new.seat;
                  more = stood.0;
                  are = nums.are ∙ stood.1;
                  too_much = subst (λ (l : Stamped). HasTooMuch tells (left one.source) (left one.rest) most (start_of store) (number one.old.seat) l (seen one.new.seat) one.feed one.next) saw (done.spent store of at.2.is);
                });
          }
      | inr worker ↦
          let done = worker_at job.NumbersSpent worker in
          let stood = all_at (StandsIn (before ++ more)) vs worker.place worker.new worker.new_there stands_vs in
          let of = all_at (λ (job : Job). IsSeatOf store job.seat) ws worker.place worker.old worker.old_there of_ws in
          let spent = done.spent store of worker.is in
          record {
            more = more;
            grown = nums.are;
            works = works_is;
            spent =
                inr (record {
                  front = spent.front;
                  rest = spent.rest ++ entries stood.0;
                  are =
                      ap (λ (l : Stamped). entries l) (nums.are ∙ stood.1) ∙ map-append (λ (x : ℕ × Noted). x.1) (seen worker.new.seat) stood.0 ∙ ap (λ (l : List Noted). l ++ entries stood.0) spent.are
                      ∙ append_assoc spent.front spent.rest (entries stood.0);
                  state = spent.state;
                  is = spent.is;
                  stands = spent.stands;
                  beyond = spent.beyond;
                });
          }
    ]

-- ---- how the step ends
pub ended_ok : {X : Type 0} (refused first : Option (ℕ × JobError)) (result : Result (Unit {0}) StepRefusal) → result ≡ ended_by refused → refused ≡ first → (first ≡ None → X) → OnOk result X
ended_ok {X} None first result is same each = subst (λ (r : Result (Unit {0}) StepRefusal). OnOk r X) (sym is) (each (sym same))
ended_ok {X} (Some (place, job.SourceFault)) first result is same each = subst (λ (r : Result (Unit {0}) StepRefusal). OnOk r X) (sym is) tt
ended_ok {X} (Some (place, job.NumbersSpent)) first result is same each = subst (λ (r : Result (Unit {0}) StepRefusal). OnOk r X) (sym is) tt
ended_ok {X} (Some (place, job.Intruded)) first result is same each = subst (λ (r : Result (Unit {0}) StepRefusal). OnOk r X) (sym is) tt
ended_ok {X} (Some (place, job.NoMemory)) first result is same each = subst (λ (r : Result (Unit {0}) StepRefusal). OnOk r X) (sym is) tt

pub ended_fault : (refused first : Option (ℕ × JobError)) (result : Result (Unit {0}) StepRefusal) (place : ℕ) → result ≡ ended_by refused → refused ≡ first → result ≡ Err (step.SourceFault place) → first ≡ Some (place, job.SourceFault)
ended_fault None first result place is same error = absurd (cc)
ended_fault (Some (at, job.SourceFault)) first result place is same error = let here : at ≡ place = cc in sym same ∙ ap (λ (k : ℕ). Some (k, job.SourceFault)) here
ended_fault (Some (at, job.NumbersSpent)) first result place is same error = absurd (cc)
ended_fault (Some (at, job.Intruded)) first result place is same error = absurd (cc)
ended_fault (Some (at, job.NoMemory)) first result place is same error = absurd (cc)

pub ended_spent : (refused first : Option (ℕ × JobError)) (result : Result (Unit {0}) StepRefusal) → result ≡ ended_by refused → refused ≡ first → result ≡ Err step.NumbersSpent → (place : ℕ) × (first ≡ Some (place, job.NumbersSpent))
ended_spent None first result is same error = absurd (cc)
ended_spent (Some (at, job.SourceFault)) first result is same error = absurd (cc)
ended_spent (Some (at, job.NumbersSpent)) first result is same error = (at, sym same)
ended_spent (Some (at, job.Intruded)) first result is same error = absurd (cc)
ended_spent (Some (at, job.NoMemory)) first result is same error = absurd (cc)
