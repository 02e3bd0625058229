-- Publishers, each beside its feed and its source, before their jobs and behind them.
use Rattle.std.proofs.Common.{◌≡◌, ◌⊎◌, inl, inr, ℕ, zero, suc, ◌+◌, List, [], ◌∷◌, ◌++◌, map, length, refl, ap, ◌∙◌, subst, arith, None, Some, Result, Ok, Err}
use Rattle.std.specs.Prelude.{All, slice_get}
use Rattle.std.proofs.lemmas.List.Elements.{All-cons, All-head, All-nil, All-tail}
use Rattle.source_feeds.specs.Feeding.{Feeding}
use Rattle.thread_jobs.specs.declared.error.JobError.{JobError}
use Rattle.thread_jobs.specs.declared.forking.Job.{Job}
use Rattle.thread_jobs.specs.Forking.{ArePublishersDone, IsPublisherDone}
use Rattle.thread_rounds.specs.Ends.{first_refused, refused_at}

pub record One (S : Type 0) : Type 0 where
  pub old : Job
  pub new : Job
  pub feed : Feeding
  pub next : Feeding
  pub source : S
  pub rest : S

module _ {S : Type 0} where
  pub record AreOnes (olds news : List Job) (feeds nexts : List Feeding) (sources rests : List S) (ones : List (One S)) : Type 0 where
    pub olds_are : olds ≡ map (λ (one : One S). one.old) ones
    pub news_are : news ≡ map (λ (one : One S). one.new) ones
    pub feeds_are : feeds ≡ map (λ (one : One S). one.feed) ones
    pub nexts_are : nexts ≡ map (λ (one : One S). one.next) ones
    pub sources_are : sources ≡ map (λ (one : One S). one.source) ones
    pub rests_are : rests ≡ map (λ (one : One S). one.rest) ones

  module _ (tells : Type 0) (left : S → List ℕ) (faults : S → ℕ) (most : ℕ) where
    abbrev pub IsDone : One S → Type 0
    IsDone one = IsPublisherDone tells left faults most one.old one.new one.feed one.next one.source one.rest

    pub record Ones (olds news : List Job) (feeds nexts : List Feeding) (sources rests : List S) : Type 0 where
      pub ones : List (One S)
      pub are : AreOnes olds news feeds nexts sources rests ones
      pub each : All IsDone ones

    one_more : (old new : Job) (olds news : List Job) (feed next : Feeding) (feeds nexts : List Feeding) (source rest : S) (sources rests : List S) → IsPublisherDone tells left faults most old new feed next source rest → Ones olds news feeds nexts sources rests
        → Ones (old ∷ olds) (new ∷ news) (feed ∷ feeds) (next ∷ nexts) (source ∷ sources) (rest ∷ rests)
    one_more old new olds news feed next feeds nexts source rest sources rests done so =
        let one : One S = record { old = old; new = new; feed = feed; next = next; source = source; rest = rest } in
        record {
          ones = one ∷ so.ones;
          are = record {
            olds_are = ap (λ (l : List Job). old ∷ l) so.are.olds_are;
            news_are = ap (λ (l : List Job). new ∷ l) so.are.news_are;
            feeds_are = ap (λ (l : List Feeding). feed ∷ l) so.are.feeds_are;
            nexts_are = ap (λ (l : List Feeding). next ∷ l) so.are.nexts_are;
            sources_are = ap (λ (l : List S). source ∷ l) so.are.sources_are;
            rests_are = ap (λ (l : List S). rest ∷ l) so.are.rests_are;
          };
          each = All-cons IsDone one so.ones done so.each;
        }

    pub ones_of : (olds news : List Job) (feeds nexts : List Feeding) (sources rests : List S) → ArePublishersDone tells left faults most olds news feeds nexts sources rests → Ones olds news feeds nexts sources rests
    ones_of [] [] [] [] [] [] done = record { ones = []; are = record { olds_are = refl; news_are = refl; feeds_are = refl; nexts_are = refl; sources_are = refl; rests_are = refl }; each = All-nil IsDone }
    ones_of [] (y ∷ ys) fs gs os ps done = absurd done
    ones_of [] [] (f ∷ fs) gs os ps done = absurd done
    ones_of [] [] [] (g ∷ gs) os ps done = absurd done
    ones_of [] [] [] [] (o ∷ os) ps done = absurd done
    ones_of [] [] [] [] [] (p ∷ ps) done = absurd done
    ones_of (x ∷ xs) [] fs gs os ps done = absurd done
    ones_of (x ∷ xs) (y ∷ ys) [] gs os ps done = absurd done
    ones_of (x ∷ xs) (y ∷ ys) (f ∷ fs) [] os ps done = absurd done
    ones_of (x ∷ xs) (y ∷ ys) (f ∷ fs) (g ∷ gs) [] ps done = absurd done
    ones_of (x ∷ xs) (y ∷ ys) (f ∷ fs) (g ∷ gs) (o ∷ os) [] done = absurd done
    ones_of (x ∷ xs) (y ∷ ys) (f ∷ fs) (g ∷ gs) (o ∷ os) (p ∷ ps) done = one_more x y xs ys f g fs gs o p os ps done.0 (ones_of xs ys fs gs os ps done.1)

-- of a list made from another one, the element at a place
pub mapped_at : {X Y : Type 0} (f : X → Y) (xs : List X) (place : ℕ) (x : X) → slice_get xs place ≡ Some x → slice_get (map f xs) place ≡ Some (f x)
mapped_at f [] place x is = absurd (let none : None ≡ Some x = is in cc)
mapped_at f (y ∷ ys) zero x is = let both : Some y ≡ Some x = is in let same : y ≡ x = cc in ap (λ (z : _). Some (f z)) same
mapped_at f (y ∷ ys) (suc place) x is = mapped_at f ys place x is

-- what holds of each element holds of that at a place
pub all_at : {X : Type 0} (P : X → Type 0) (xs : List X) (place : ℕ) (x : X) → slice_get xs place ≡ Some x → All P xs → P x
all_at P [] place x is all = absurd (let none : None ≡ Some x = is in cc)
all_at P (y ∷ ys) zero x is all = let both : Some y ≡ Some x = is in let same : y ≡ x = cc in subst P same (All-head P y ys all)
all_at P (y ∷ ys) (suc place) x is all = all_at P ys place x is (All-tail P y ys all)

-- the publisher at this place is refused
pub record IsRefusedOne {S : Type 0} (ones : List (One S)) (place : ℕ) (error : JobError) : Type 0 where
  pub one : One S
  pub there : slice_get ones place ≡ Some one
  pub is : one.new.end ≡ Err error

-- one of the workers is refused
pub record IsRefusedWorker (olds news : List Job) (error : JobError) : Type 0 where
  pub place : ℕ
  pub old : Job
  pub new : Job
  pub old_there : slice_get olds place ≡ Some old
  pub new_there : slice_get news place ≡ Some new
  pub is : new.end ≡ Err error

worker_more : (old new : Job) (olds news : List Job) (error : JobError) → IsRefusedWorker olds news error → IsRefusedWorker (old ∷ olds) (new ∷ news) error
worker_more old new olds news error so = record { place = suc so.place; old = so.old; new = so.new; old_there = so.old_there; new_there = so.new_there; is = so.is }

refused_worker : (at : ℕ) (olds news : List Job) (place : ℕ) (error : JobError) → length olds ≡ length news → first_refused at news ≡ Some (place, error) → IsRefusedWorker olds news error
refused_worker at [] [] place error long is = absurd (let none : None ≡ Some (place, error) = is in cc)
refused_worker at [] (new ∷ news) place error long is = absurd (omega (arith, long))
refused_worker at (old ∷ olds) [] place error long is = absurd (omega (arith, long))
refused_worker at (old ∷ olds) (new ∷ news) place error long is = by new.end refl is (λ later. refused_worker (at + 1) olds news place error (omega (arith, long)) later)
  where
    by : (end : Result (Unit {0}) JobError) → new.end ≡ end → refused_at at end (first_refused (at + 1) news) ≡ Some (place, error) → (first_refused (at + 1) news ≡ Some (place, error) → IsRefusedWorker olds news error)
        → IsRefusedWorker (old ∷ olds) (new ∷ news) error
    by (Ok done) ends is rest = worker_more old new olds news error (rest is)
    by (Err other) ends is rest =
        let both : Some (at, other) ≡ Some (place, error) = is in
        let pairs : (at, other) ≡ (place, error) = cc in
        record { place = 0; old = old; new = new; old_there = refl; new_there = refl; is = ends ∙ ap (λ (at : ℕ × JobError). Err at.1) pairs }

first_place : (at place : ℕ) → at ≡ place → place ≡ at + 0
first_place at place here = omega (arith, here)

-- the first refused job is that of the publisher at its place, or that of a worker
pub refused_one_of : {S : Type 0} (at : ℕ) (ones : List (One S)) (olds news : List Job) (place : ℕ) (error : JobError) → length olds ≡ length news → first_refused at (map (λ (one : One S). one.new) ones ++ news) ≡ Some (place, error)
    → ((k : ℕ) × (place ≡ at + k) × IsRefusedOne ones k error) ⊎ IsRefusedWorker olds news error
refused_one_of at [] olds news place error long is = inr (refused_worker at olds news place error long is)
refused_one_of {S} at (one ∷ ones) olds news place error long is = by one.new.end refl is (λ later. refused_one_of (at + 1) ones olds news place error long later)
  where
    by : (end : Result (Unit {0}) JobError) → one.new.end ≡ end → refused_at at end (first_refused (at + 1) (map (λ (other : One S). other.new) ones ++ news)) ≡ Some (place, error)
        → (first_refused (at + 1) (map (λ (other : One S). other.new) ones ++ news) ≡ Some (place, error) → ((k : ℕ) × (place ≡ (at + 1) + k) × IsRefusedOne ones k error) ⊎ IsRefusedWorker olds news error)
        → ((k : ℕ) × (place ≡ at + k) × IsRefusedOne (one ∷ ones) k error) ⊎ IsRefusedWorker olds news error
    by (Ok done) ends is rest = elim (rest is) [
      | inl later ↦
          let place_is = later.1 in
          inl (suc later.0, omega (arith, place_is), record { one = later.2.one; there = later.2.there; is = later.2.is })
      | inr worker ↦ inr worker
    ]
    by (Err other) ends is rest =
        let both : Some (at, other) ≡ Some (place, error) = is in
        let pairs : (at, other) ≡ (place, error) = cc in
        let here : at ≡ place = ap (λ (at : ℕ × JobError). at.0) pairs in
        inl (0, first_place at place here, record { one = one; there = refl; is = ends ∙ ap (λ (at : ℕ × JobError). Err at.1) pairs })
