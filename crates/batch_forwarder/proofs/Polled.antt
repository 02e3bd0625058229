-- Answers polled one after another.
use Rattle.std.proofs.Common.{◌≡◌, ◌⊎◌, ℕ, ◌+◌, ◌<◌, Bool, true, false, cond, List, [], ◌∷◌, ◌++◌, length, length-append, refl, sym, ap, ◌∙◌, subst, inl, inr, arith, append_assoc, Option, Some, None}
use Rattle.std.specs.Prelude.{nat_lt, nat_le, ◌&&◌}
use Rattle.std.proofs.lemmas.List.{append-nil}
use Rattle.entry_model.specs.Values.{last_of}
use Rattle.entry_model.proofs.Lasts.{last_of-append}
use Rattle.session_model.specs.Working.{marks_beyond}
use Rattle.batch_forwarder.specs.declared.forwarder.Forwarder.{Forwarder}
use Rattle.batch_forwarder.specs.Polling.{AreMarks, IsMark, Marks, Polls, PollsAll, PollsPart, moved}

by_move : (moves : Bool) (mark upto sealed : ℕ) (further staying more : List ℕ) (rest : List (Option ℕ)) (going : List ℕ)
    → going ≡ further ++ marks_beyond (last_of Some upto further) sealed rest → more ≡ staying ++ marks_beyond (last_of Some mark staying) sealed rest
    → cond moves (upto ∷ going) more ≡ cond moves (upto ∷ further) staying ++ marks_beyond (last_of Some mark (cond moves (upto ∷ further) staying)) sealed rest
by_move true mark upto sealed further staying more rest going goes stays = ap (λ marks. upto ∷ marks) goes
by_move false mark upto sealed further staying more rest going goes stays = stays

-- the marks of more answers go on from the last mark
pub marks-append : (mark sealed : ℕ) (found rest : List (Option ℕ)) → marks_beyond mark sealed (found ++ rest) ≡ marks_beyond mark sealed found ++ marks_beyond (last_of Some mark (marks_beyond mark sealed found)) sealed rest
marks-append mark sealed [] rest = refl
marks-append mark sealed (None ∷ found) rest = marks-append mark sealed found rest
marks-append mark sealed (Some upto ∷ found) rest =
    by_move (nat_lt mark upto && nat_le upto sealed) mark upto sealed (marks_beyond upto sealed found) (marks_beyond mark sealed found) (marks_beyond mark sealed (found ++ rest)) rest (marks_beyond upto sealed (found ++ rest))
    (marks-append upto sealed found rest) (marks-append mark sealed found rest)

marks_none : (forwarder : Forwarder) (marks : List ℕ) → Marks [] forwarder forwarder marks marks
marks_none forwarder marks = record { added = sym (append-nil marks); moves = refl }

marks_join : (found rest : List (Option ℕ)) (old mid new : Forwarder) (before between after : List ℕ) → Marks found old mid before between → Marks rest mid new between after → Marks (found ++ rest) old new before after
marks_join found rest old mid new before between after first second =
    let marks = marks_beyond old.acked old.sealed found in
    let on : Marks rest (moved old marks) new between after = subst (λ (f : Forwarder). Marks rest f new between after) first.moves second in
    let more = marks_beyond (last_of Some old.acked marks) old.sealed rest in
    let all : marks_beyond old.acked old.sealed (found ++ rest) ≡ marks ++ more = marks-append old.acked old.sealed found rest in
    record {
      added = on.added ∙ ap (λ xs. xs ++ more) first.added ∙ append_assoc before marks more ∙ ap (λ xs. before ++ xs) (sym all);
      moves = on.moves ∙ ap (λ acked. record old { acked = acked }) (sym (last_of-append Some old.acked marks more)) ∙ ap (moved old) (sym all);
    }

are_more : (host : List ℕ) (lines : List (List ℕ)) (marks : List (Option ℕ)) (line : List ℕ) (mark : Option ℕ) → AreMarks host lines marks → IsMark host line mark → AreMarks host (lines ++ line ∷ []) (marks ++ mark ∷ [])
are_more host [] [] line mark are is = (is, tt)
are_more host [] (other ∷ marks) line mark are is = absurd are
are_more host (other ∷ lines) [] line mark are is = absurd are
are_more host (other ∷ lines) (found ∷ marks) line mark are is = (are.0, are_more host lines marks line mark are.1 is)

-- so many answers were polled
pub record HasPolled (tells : Type 0) (host : List ℕ) (waiting left : List (List ℕ)) (old new : Forwarder) (before after : List ℕ) (count : ℕ) : Type 0 where
  pub polls : Polls tells host [] waiting left old new before after
  pub count_is : length polls.polled ≡ count

pub polled_none : (tells : Type 0) (host : List ℕ) (waiting : List (List ℕ)) (old : Forwarder) (before : List ℕ) → HasPolled tells host waiting waiting old old before before 0
polled_none tells host waiting old before = record {
  polls = record {
    polled = [];
    found = [];
    waits = λ told. refl;
    most = omega arith;
    are = tt;
    marks = marks_none old before;
  };
  count_is = refl;
}

module _ (tells : Type 0) (host : List ℕ) (waiting left : List (List ℕ)) (old mid : Forwarder) (before between : List ℕ) (count : ℕ) (has : HasPolled tells host waiting left old mid before between count) (rest : List (List ℕ)) where
  abbrev lines : List (List ℕ)
  lines = has.polls.polled

  -- one more was polled, which gives this mark
  pub polled_more : count < 1000 → (line : List ℕ) → (tells → left ≡ line ∷ rest) → (mark : Option ℕ) → IsMark host line mark → (new : Forwarder) (after : List ℕ) → Marks (mark ∷ []) mid new between after
      → HasPolled tells host waiting rest old new before after (count + 1)
  polled_more few line first mark is new after marks =
      let size : length (lines ++ line ∷ []) ≡ count + 1 = (let all = length-append lines (line ∷ []) in let so_far : length lines ≡ count = has.count_is in omega (arith, all, so_far)) in
      record {
        polls = record {
          polled = lines ++ line ∷ [];
          found = has.polls.found ++ mark ∷ [];
          waits = λ told. has.polls.waits told ∙ ap (λ xs. lines ++ xs) (first told) ∙ sym (append_assoc lines (line ∷ []) rest);
          most = omega (arith, size, few);
          are = are_more host lines has.polls.found line mark has.polls.are is;
          marks = marks_join has.polls.found (mark ∷ []) old mid new before between after has.polls.marks marks;
        };
        count_is = size;
      }

  -- one more was polled, and is lost
  pub polled_lost : (line : List ℕ) → (tells → left ≡ line ∷ rest) → PollsPart tells host waiting rest old mid before between
  polled_lost line first = (
    Some line,
    record {
      polled = lines;
      found = has.polls.found;
      waits = λ told. has.polls.waits told ∙ ap (λ xs. lines ++ xs) (first told);
      most = has.polls.most;
      are = has.polls.are;
      marks = has.polls.marks;
    },
  )

  -- none more was polled
  abbrev stands : (tells → rest ≡ left) → Polls tells host [] waiting rest old mid before between
  stands same = record {
    polled = lines;
    found = has.polls.found;
    waits = λ told. has.polls.waits told ∙ ap (λ xs. lines ++ xs) (sym (same told));
    most = has.polls.most;
    are = has.polls.are;
    marks = has.polls.marks;
  }

  pub polled_part : (tells → rest ≡ left) → PollsPart tells host waiting rest old mid before between
  polled_part same = (None, stands same)

  pub polled_out : (failed : Type 0) → (tells → rest ≡ left) → (tells → left ≡ []) ⊎ failed → PollsAll tells failed host waiting rest old mid before between
  polled_out failed same (inl none) = record { polls = stands same; whole = inr (inl (λ told. same told ∙ none told)) }
  polled_out failed same (inr fails) = record { polls = stands same; whole = inr (inr fails) }

  pub polled_most : (failed : Type 0) → (tells → rest ≡ left) → count ≡ 1000 → PollsAll tells failed host waiting rest old mid before between
  polled_most failed same most = record { polls = stands same; whole = inl (has.count_is ∙ most) }
