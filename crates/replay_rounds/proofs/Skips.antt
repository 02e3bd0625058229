-- What the feeds of a session that ends early have counted.
use Rattle.std.proofs.Common.{◌≡◌, ◌⊎◌, inl, inr, ℕ, List, [], ◌∷◌, ◌++◌, refl, sym, ap, ◌∙◌, subst, arith}
use Rattle.std.specs.Prelude.{bytes_eq}
use Rattle.std.proofs.lemmas.List.{append-nil}
use Rattle.osq_config.specs.declared.config.Config.{Config}
use Rattle.osq_outside.specs.Causes.{Rose}
use Rattle.osq_value.specs.declared.reading.Category.{Category}
use Rattle.source_feeds.specs.Feeding.{Feeding}
use Rattle.source_feeds.specs.Stepping.{Counts}
use Rattle.entry_model.specs.declared.entry.Entry.{Entry}
use Rattle.entry_model.specs.declared.restored.Restored.{Restored}
use Rattle.entry_model.specs.Fits.{IsDistinct}
use Rattle.entry_model.specs.Summary.{summary}
use Rattle.entry_model.specs.Values.{taken_from}
use Rattle.session_model.specs.Given.{Source}
use Rattle.session_state.specs.Kept.{Kept}
use Rattle.daemon_rounds.specs.Rounding.{AllCount}
use Rattle.daemon_rounds.specs.Session.{IsOpen}
use Rattle.daemon_rounds.specs.Starting.{source_names}
use Rattle.daemon_rounds.specs.Turns.{StillCounts}
use Rattle.daemon_rounds.specs.declared.setup.Setup.{Setup}
use Rattle.daemon_rounds.proofs.Counting.{all_count}
use Rattle.replay_rounds.specs.Fixed.{Fixed, Linked, fixed_with}
use Rattle.replay_rounds.specs.Noting.{CountsTo, HasCounted, HasToldSome, HaveCounted, skipped_lines}
use Rattle.replay_rounds.specs.Sources.{AreFed, IsFed}
use Rattle.replay_rounds.proofs.Feeds.{fed_lengths}
use Rattle.replay_rounds.proofs.Looping.{opens_here}
use Rattle.replay_rounds.proofs.Noted.{noted_none, told_none, told_some}
use Rattle.replay_rounds.proofs.Places.{places_still}
use Rattle.replay_rounds.proofs.Ran.{HasRest, no_tick}
use Rattle.session_model.specs.Orders.{Order}

module _ {S : Type 0} (tells : Type 0) (left : S → List ℕ) (paths : List Category) (start now : List Entry) where
  -- the feed of a source that went on counting
  one_counted : (source : Source) (feed next : Feeding) (object : S) → IsFed tells left paths start now source feed object → StillCounts tells (left object) feed next → HasCounted tells paths start now source next
  one_counted source feed next object is still = record {
    name = still.name ∙ is.name;
    kind = still.kind ∙ is.kind;
    counts = subst (λ (from : ℕ). Counts tells source.bytes paths (taken_from start source.name) from next) is.place
        (subst (λ (ps : List Category). Counts tells source.bytes ps (taken_from start source.name) feed.reader.taken next) is.paths_are (still.counts source.bytes (taken_from start source.name) is.pieces is.fed));
  }

  pub all_counted : (sources : List Source) (feeds nexts : List Feeding) (objects : List S) → AreFed tells left paths start now sources feeds objects → AllCount tells left feeds nexts objects → HaveCounted tells paths start now sources nexts
  all_counted [] [] [] [] are still = tt
  all_counted [] [] (next ∷ nexts) [] are still = absurd still
  all_counted [] [] nexts (object ∷ objects) are still = absurd are
  all_counted [] (feed ∷ feeds) nexts objects are still = absurd are
  all_counted (source ∷ sources) [] nexts objects are still = absurd are
  all_counted (source ∷ sources) (feed ∷ feeds) nexts [] are still = absurd are
  all_counted (source ∷ sources) (feed ∷ feeds) [] (object ∷ objects) are still = absurd still
  all_counted (source ∷ sources) (feed ∷ feeds) (next ∷ nexts) (object ∷ objects) are still =
      (one_counted source feed next object are.0 still.0, all_counted sources feeds nexts objects are.1 still.1)

  pub same_counted : (sources : List Source) (feeds : List Feeding) (objects : List S) → AreFed tells left paths start now sources feeds objects → HaveCounted tells paths start now sources feeds
  same_counted sources feeds objects are =
      let (many, as_many) = fed_lengths tells left paths start now sources feeds objects are in
      all_counted sources feeds feeds objects are (all_count tells left feeds objects (as_many ∙ sym many))

-- at least up to what earlier sessions had
module _ (tells : Type 0) (paths : List Category) (start now : List Entry) where
  one_begun : (source : Source) (feed : Feeding) → HasCounted tells paths start now source feed → HasCounted tells paths start (start ++ []) source feed
  one_begun source feed has = record {
    name = has.name;
    kind = has.kind;
    counts = record {
      pieces = has.counts.pieces;
      to = has.counts.to;
      behind = λ told.
          let place = (has.counts.reads told).place in
          let same : taken_from (start ++ []) source.name ≡ taken_from start source.name = ap (λ (es : List Entry). taken_from es source.name) (append-nil start) in
          omega (arith, place, same);
      reads = has.counts.reads;
      skipped = has.counts.skipped;
    };
  }

  pub all_begun : (sources : List Source) (feeds : List Feeding) → HaveCounted tells paths start now sources feeds → HaveCounted tells paths start (start ++ []) sources feeds
  all_begun [] [] have = tt
  all_begun [] (feed ∷ feeds) have = absurd have
  all_begun (source ∷ sources) [] have = absurd have
  all_begun (source ∷ sources) (feed ∷ feeds) have = (one_begun source feed have.0, all_begun sources feeds have.1)

-- of a session in its first tick, or before it
pub counts_first : {S : Type 0} (left : S → List ℕ) (x : Fixed) (now list : List Entry) (feeds nexts : List Feeding) (objects : List S) → (x.keeper_tells → HasRest x list []) → (x.keeper_tells → AreFed x.source_tells left x.given.config.categories x.start now x.given.sources feeds objects) → AllCount x.source_tells left feeds nexts objects → CountsTo x list nexts
counts_first left x now list feeds nexts objects rest fed still = record {
  front = [];
  kept_are = rest;
  counted = λ told. all_begun x.source_tells x.given.config.categories x.start now x.given.sources nexts (all_counted x.source_tells left x.given.config.categories x.start now x.given.sources feeds nexts objects (fed told) still);
}

-- of one that opened
pub counts_opened : {S : Type 0} (left : S → List ℕ) (x : Fixed) (now list : List Entry) (feeds : List Feeding) (objects : List S) → (x.keeper_tells → list ≡ x.start) → (x.keeper_tells → AreFed x.source_tells left x.given.config.categories x.start now x.given.sources feeds objects) → CountsTo x list feeds
counts_opened left x now list feeds objects same fed = record {
  front = [];
  kept_are = λ told. ([], no_tick, same told ∙ sym (append-nil x.start));
  counted = λ told. all_begun x.source_tells x.given.config.categories x.start now x.given.sources feeds (same_counted x.source_tells left x.given.config.categories x.start now x.given.sources feeds objects (fed told));
}

-- of one that had so many entries behind a tick
pub counts_on : {S : Type 0} (left : S → List ℕ) (x : Fixed) (entries list : List Entry) (feeds nexts : List Feeding) (objects : List S) → (x.keeper_tells → HasRest x list entries) → (x.keeper_tells → AreFed x.source_tells left x.given.config.categories x.start (x.start ++ entries) x.given.sources feeds objects) → AllCount x.source_tells left feeds nexts objects → CountsTo x list nexts
counts_on left x entries list feeds nexts objects rest fed still = record {
  front = entries;
  kept_are = rest;
  counted = λ told. all_counted x.source_tells left x.given.config.categories x.start (x.start ++ entries) x.given.sources feeds nexts objects (fed told) still;
}

-- and the feeds are as they were
pub counts_over : {S : Type 0} (left : S → List ℕ) (x : Fixed) (entries list : List Entry) (feeds : List Feeding) (objects : List S) → (x.keeper_tells → HasRest x list entries) → (x.keeper_tells → AreFed x.source_tells left x.given.config.categories x.start (x.start ++ entries) x.given.sources feeds objects) → CountsTo x list feeds
counts_over left x entries list feeds objects rest fed = record {
  front = entries;
  kept_are = rest;
  counted = λ told. same_counted x.source_tells left x.given.config.categories x.start (x.start ++ entries) x.given.sources feeds objects (fed told);
}

-- and no more of it was kept
pub counts_now : {S : Type 0} (left : S → List ℕ) (x : Fixed) (entries list : List Entry) (feeds : List Feeding) (objects : List S) → (x.keeper_tells → list ≡ x.start ++ entries) → (x.keeper_tells → AreFed x.source_tells left x.given.config.categories x.start (x.start ++ entries) x.given.sources feeds objects) → CountsTo x list feeds
counts_now left x entries list feeds objects is fed = record {
  front = entries;
  kept_are = λ told. ([], no_tick, is told ∙ ap (λ (es : List Entry). x.start ++ es) (sym (append-nil entries)));
  counted = λ told. same_counted x.source_tells left x.given.config.categories x.start (x.start ++ entries) x.given.sources feeds objects (fed told);
}

-- what a session told that ends before its first tick
pub told_opening : {S C : Type 0} (order : Order) (keeper_tells sink_tells tells : Type 0) (left : S → List ℕ) (faults : S → ℕ) (setup : Setup) (config : Config) (documents : List (List ℕ)) (sources : List S) (start : List Entry) (before : List ℕ) (link : Linked) (reads : C → ℕ → C → Type 0) (clock now : C) (restored : Restored) (kept : List Entry) (rests : List S)
    → (keeper_tells → restored ≡ summary start) → (keeper_tells → kept ≡ start) → IsDistinct bytes_eq (source_names setup.sources) → (left_out was is : List ℕ) (first second : ℕ)
    → ((is ≡ was) ⊎ ((moment : ℕ) × (feeds : List Feeding) × (state : Kept) × IsOpen tells left faults reads setup config documents restored clock now sources rests moment feeds state × (is ≡ was ++ skipped_lines feeds))) ⊎ Rose first second
    → HasToldSome (fixed_with order keeper_tells sink_tells tells left setup config documents sources start before link) kept left_out was is ⊎ Rose first second
told_opening order keeper_tells sink_tells tells left faults setup config documents sources start before link reads clock now restored kept rests same kept_is distinct left_out was is first second (inl (inl none)) =
    told_none (fixed_with order keeper_tells sink_tells tells left setup config documents sources start before link) kept left_out was was is first first second [] (λ told. places_still start kept (kept_is told)) (noted_none (fixed_with order keeper_tells sink_tells tells left setup config documents sources start before link) left_out was) (inl none) (omega arith)
told_opening order keeper_tells sink_tells tells left faults setup config documents sources start before link reads clock now restored kept rests same kept_is distinct left_out was is first second (inl (inr (moment, feeds, state, opened, skipped))) =
    let o = (opens_here order keeper_tells sink_tells tells left faults setup config documents sources start before link reads clock now restored kept feeds feeds rests moment state same kept_is distinct opened refl).0 in
    told_some (fixed_with order keeper_tells sink_tells tells left setup config documents sources start before link) kept left_out was was is first first second [] feeds
    (counts_opened left (fixed_with order keeper_tells sink_tells tells left setup config documents sources start before link) _ kept feeds rests kept_is o.standing.fed) (λ told. places_still start kept (kept_is told)) (noted_none (fixed_with order keeper_tells sink_tells tells left setup config documents sources start before link) left_out was) (inl (inr skipped)) (omega arith)
told_opening order keeper_tells sink_tells tells left faults setup config documents sources start before link reads clock now restored kept rests same kept_is distinct left_out was is first second (inr rose) = inr rose
