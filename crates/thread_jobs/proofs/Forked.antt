-- Jobs that were done, in halves.
use Rattle.std.proofs.Common.{◌≡◌, ℕ, ◌+◌, List, [], ◌∷◌, ◌++◌, length, get_or, set, All, Some, sym, ◌∙◌, subst, arith}
use Rattle.std.specs.List.{AllZip}
use Rattle.source_feeds.specs.Feeding.{Feeding}
use Rattle.session_state.specs.Kept.{Kept}
use Rattle.turn_lock.specs.declared.board.Stands.{Ghosts}
use Rattle.turn_lock.specs.declared.lock.TurnSeat.{TurnSeat}
use Rattle.turn_lock.proofs.Lists.{all_head, all_left, all_right}
use Rattle.shared_store.specs.declared.noted.Noted.{Noted}
use Rattle.shared_store.specs.declared.shared.Shared.{Shared}
use Rattle.shared_store.specs.declared.store.Store.{Store}
use Rattle.shared_store.specs.Words.{IsSeatOf, start_of}
use Rattle.thread_jobs.specs.declared.forking.Job.{Job}
use Rattle.thread_jobs.specs.Forking.{ArePaired, ArePublishersDone, IsPublisherDone, IsWorkerDone, MayPublish, MayPublishAll, MayWork, MayWorkAll, PublishersDone, WorkersDone}
use Rattle.thread_jobs.proofs.Halves.{halves, zip_apart}

module _ {g : Ghosts Shared Kept Noted} where
  -- the stores of one seat began from the same values
  pub same_start : (store other : Store) (seat : TurnSeat Shared Kept Noted g) → IsSeatOf store seat → IsSeatOf other seat → start_of store ≡ start_of other
  same_start store other seat of also =
      let both : Some (start_of store) ≡ Some (start_of other) = sym of.1 ∙ also.1 in cc

-- ---- workers
pub workers_none : (jobs : List Job) → length jobs ≡ 0 → WorkersDone jobs jobs
workers_none [] none = record { each = tt }
workers_none (job ∷ jobs) none = absurd (omega (arith, none))

pub workers_one : (jobs : List Job) (old new : Job) → length jobs ≡ 1 → old ≡ get_or jobs 0 old → IsWorkerDone old new → WorkersDone jobs (set jobs 0 new)
workers_one [] old new one is done = absurd (omega (arith, one))
workers_one (job ∷ []) old new one is done = record { each = (subst (λ (j : Job). IsWorkerDone j new) is done, tt) }
workers_one (job ∷ other ∷ jobs) old new one is done = absurd (omega (arith, one))

pub may_work_one : (store : Store) (jobs : List Job) (job : Job) → length jobs ≡ 1 → job ≡ get_or jobs 0 job → MayWorkAll store jobs → MayWork store job
may_work_one store [] job one is may = absurd (omega (arith, one))
may_work_one store (first ∷ jobs) job one is may = subst (MayWork store) (sym is) (all_head (MayWork store) first jobs may.each)

pub workers_halves : (whole xs zs ys ws : List Job) → whole ≡ xs ++ zs → WorkersDone xs ys → WorkersDone zs ws → WorkersDone whole (ys ++ ws)
workers_halves whole xs zs ys ws is one other = record { each = halves IsWorkerDone whole xs zs ys ws is one.each other.each }

pub may_work_front : (store : Store) (whole xs zs : List Job) → whole ≡ xs ++ zs → MayWorkAll store whole → MayWorkAll store xs
may_work_front store whole xs zs is may = record { each = all_left (MayWork store) xs zs (subst (All (MayWork store)) is may.each) }

pub may_work_back : (store : Store) (whole xs zs : List Job) → whole ≡ xs ++ zs → MayWorkAll store whole → MayWorkAll store zs
may_work_back store whole xs zs is may = record { each = all_right (MayWork store) xs zs (subst (All (MayWork store)) is may.each) }

-- ---- publishers
both_zip : (store : Store) (whole xs zs : List Job) (feeds fs gs : List Feeding) → whole ≡ xs ++ zs → feeds ≡ fs ++ gs → length xs ≡ length fs → MayPublishAll store whole feeds → AllZip (MayPublish store) xs fs × AllZip (MayPublish store) zs gs
both_zip store whole xs zs feeds fs gs is feeds_are long may =
    zip_apart (MayPublish store) xs zs fs gs long
    (subst (λ (l : List Feeding). AllZip (MayPublish store) (xs ++ zs) l) feeds_are (subst (λ (l : List Job). AllZip (MayPublish store) l feeds) is may.each))

pub may_publish_front : (store : Store) (whole xs zs : List Job) (feeds fs gs : List Feeding) (half : ℕ) → whole ≡ xs ++ zs → feeds ≡ fs ++ gs → length xs ≡ half → length fs ≡ half → MayPublishAll store whole feeds → MayPublishAll store xs fs
may_publish_front store whole xs zs feeds fs gs half is feeds_are long feeds_long may = record { each = (both_zip store whole xs zs feeds fs gs is feeds_are (long ∙ sym feeds_long) may).0 }

pub may_publish_back : (store : Store) (whole xs zs : List Job) (feeds fs gs : List Feeding) (half : ℕ) → whole ≡ xs ++ zs → feeds ≡ fs ++ gs → length xs ≡ half → length fs ≡ half → MayPublishAll store whole feeds → MayPublishAll store zs gs
may_publish_back store whole xs zs feeds fs gs half is feeds_are long feeds_long may = record { each = (both_zip store whole xs zs feeds fs gs is feeds_are (long ∙ sym feeds_long) may).1 }

pub paired_front : {S : Type 0} (jobs : List Job) (feeds : List Feeding) (sources : List S) (half : ℕ) → length jobs ≡ half → length feeds ≡ half → length sources ≡ half → ArePaired jobs feeds sources
paired_front jobs feeds sources half long feeds_long sources_long = record { feeds_long = feeds_long ∙ sym long; sources_long = sources_long ∙ sym long }

pub paired_back : {S : Type 0} (whole jobs : List Job) (all feeds : List Feeding) (every sources : List S) (half : ℕ) → length jobs + half ≡ length whole → length feeds + half ≡ length all → length sources + half ≡ length every → ArePaired whole all every → ArePaired jobs feeds sources
paired_back whole jobs all feeds every sources half long feeds_long sources_long paired =
    let a = paired.feeds_long in
    let b = paired.sources_long in
    record { feeds_long = omega (arith, long, feeds_long, a); sources_long = omega (arith, long, sources_long, b) }

pub may_publish_one : (store : Store) (jobs : List Job) (feeds : List Feeding) (job : Job) (feed : Feeding) → length jobs ≡ 1 → job ≡ get_or jobs 0 job → feed ≡ get_or feeds 0 feed → MayPublishAll store jobs feeds → MayPublish store job feed
may_publish_one store [] fs job feed one is feed_is may = absurd (omega (arith, one))
may_publish_one store (j ∷ js) [] job feed one is feed_is may = absurd may.each
may_publish_one store (j ∷ js) (f ∷ fs) job feed one is feed_is may =
    subst (λ (x : Job). MayPublish store x feed) (sym is) (subst (MayPublish store j) (sym feed_is) may.each.0)

module _ {S : Type 0} (tells : Type 0) (left : S → List ℕ) (faults : S → ℕ) (most : ℕ) where
  pub publishers_none : (jobs : List Job) (feeds : List Feeding) (sources : List S) → length jobs ≡ 0 → ArePaired jobs feeds sources → PublishersDone tells left faults most jobs jobs feeds feeds sources sources
  publishers_none [] [] [] none paired = record { each = tt }
  publishers_none [] [] (s ∷ ss) none paired = absurd (omega (arith, paired.sources_long))
  publishers_none [] (f ∷ fs) ss none paired = absurd (omega (arith, paired.feeds_long))
  publishers_none (j ∷ js) fs ss none paired = absurd (omega (arith, none))

  pub publishers_one : (jobs : List Job) (feeds : List Feeding) (sources : List S) (old new : Job) (feed next : Feeding) (source rest : S) → length jobs ≡ 1 → ArePaired jobs feeds sources → old ≡ get_or jobs 0 old → feed ≡ get_or feeds 0 feed → source ≡ get_or sources 0 source
      → IsPublisherDone tells left faults most old new feed next source rest → PublishersDone tells left faults most jobs (set jobs 0 new) feeds (set feeds 0 next) sources (set sources 0 rest)
  publishers_one [] fs ss old new feed next source rest one paired is feed_is source_is done = absurd (omega (arith, one))
  publishers_one (j ∷ k ∷ js) fs ss old new feed next source rest one paired is feed_is source_is done = absurd (omega (arith, one))
  publishers_one (j ∷ []) [] ss old new feed next source rest one paired is feed_is source_is done = absurd (omega (arith, paired.feeds_long))
  publishers_one (j ∷ []) (f ∷ g ∷ fs) ss old new feed next source rest one paired is feed_is source_is done = absurd (omega (arith, paired.feeds_long))
  publishers_one (j ∷ []) (f ∷ []) [] old new feed next source rest one paired is feed_is source_is done = absurd (omega (arith, paired.sources_long))
  publishers_one (j ∷ []) (f ∷ []) (s ∷ t ∷ ss) old new feed next source rest one paired is feed_is source_is done = absurd (omega (arith, paired.sources_long))
  publishers_one (j ∷ []) (f ∷ []) (s ∷ []) old new feed next source rest one paired is feed_is source_is done = record {
    each = (
      subst (λ (x : Job). IsPublisherDone tells left faults most x new f next s rest) is
          (subst (λ (x : Feeding). IsPublisherDone tells left faults most old new x next s rest) feed_is
          (subst (λ (x : S). IsPublisherDone tells left faults most old new feed next x rest) source_is done)),
      tt,
    );
  }

  publishers_append : (xs ys : List Job) (fs gs : List Feeding) (os ps : List S) (zs ws : List Job) (hs is : List Feeding) (qs rs : List S) → ArePublishersDone tells left faults most xs ys fs gs os ps → ArePublishersDone tells left faults most zs ws hs is qs rs
      → ArePublishersDone tells left faults most (xs ++ zs) (ys ++ ws) (fs ++ hs) (gs ++ is) (os ++ qs) (ps ++ rs)
  publishers_append [] [] [] [] [] [] zs ws hs is qs rs front back = back
  publishers_append [] (y ∷ ys) fs gs os ps zs ws hs is qs rs front back = absurd front
  publishers_append [] [] (f ∷ fs) gs os ps zs ws hs is qs rs front back = absurd front
  publishers_append [] [] [] (g ∷ gs) os ps zs ws hs is qs rs front back = absurd front
  publishers_append [] [] [] [] (o ∷ os) ps zs ws hs is qs rs front back = absurd front
  publishers_append [] [] [] [] [] (p ∷ ps) zs ws hs is qs rs front back = absurd front
  publishers_append (x ∷ xs) [] fs gs os ps zs ws hs is qs rs front back = absurd front
  publishers_append (x ∷ xs) (y ∷ ys) [] gs os ps zs ws hs is qs rs front back = absurd front
  publishers_append (x ∷ xs) (y ∷ ys) (f ∷ fs) [] os ps zs ws hs is qs rs front back = absurd front
  publishers_append (x ∷ xs) (y ∷ ys) (f ∷ fs) (g ∷ gs) [] ps zs ws hs is qs rs front back = absurd front
  publishers_append (x ∷ xs) (y ∷ ys) (f ∷ fs) (g ∷ gs) (o ∷ os) [] zs ws hs is qs rs front back = absurd front
  publishers_append (x ∷ xs) (y ∷ ys) (f ∷ fs) (g ∷ gs) (o ∷ os) (p ∷ ps) zs ws hs is qs rs front back = (front.0, publishers_append xs ys fs gs os ps zs ws hs is qs rs front.1 back)

  -- the first lists are those that were cut in two
  rejoined : (olds xs zs news : List Job) (feeds fs hs nexts : List Feeding) (sources os qs rests : List S) → olds ≡ xs ++ zs → feeds ≡ fs ++ hs → sources ≡ os ++ qs → ArePublishersDone tells left faults most (xs ++ zs) news (fs ++ hs) nexts (os ++ qs) rests
      → ArePublishersDone tells left faults most olds news feeds nexts sources rests
  rejoined olds xs zs news feeds fs hs nexts sources os qs rests is feeds_are sources_are all =
      subst (λ (l : List Job). ArePublishersDone tells left faults most l news feeds nexts sources rests) (sym is)
      (subst (λ (l : List Feeding). ArePublishersDone tells left faults most (xs ++ zs) news l nexts sources rests) (sym feeds_are)
      (subst (λ (l : List S). ArePublishersDone tells left faults most (xs ++ zs) news (fs ++ hs) nexts l rests) (sym sources_are) all))

  pub publishers_halves : (olds xs zs ys ws : List Job) (feeds fs hs gs is : List Feeding) (sources os qs ps rs : List S) → olds ≡ xs ++ zs → feeds ≡ fs ++ hs → sources ≡ os ++ qs → PublishersDone tells left faults most xs ys fs gs os ps → PublishersDone tells left faults most zs ws hs is qs rs
      → PublishersDone tells left faults most olds (ys ++ ws) feeds (gs ++ is) sources (ps ++ rs)
  publishers_halves olds xs zs ys ws feeds fs hs gs is sources os qs ps rs jobs_are feeds_are sources_are one other = record {
    each = rejoined olds xs zs (ys ++ ws) feeds fs hs (gs ++ is) sources os qs (ps ++ rs) jobs_are feeds_are sources_are (publishers_append xs ys fs gs os ps zs ws hs is qs rs one.each other.each);
  }
