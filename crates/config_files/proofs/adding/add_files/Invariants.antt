use Rattle.std.proofs.Common.{◌≡◌, ◌≤◌, ◌++◌, ℕ, List, length}
use Rattle.std.specs.Vec.Iter.{into_iter_items, into_iter_len}
use Rattle.config_files.proofs.Walk.{IsWalked}
use Rattle.config_files.proofs.adding.add_files.Given as goal

abbrev pub invariant-loop-pack : goal.invariant-loop-pack
invariant-loop-pack g l =
    let rest = l.pack-iterator in
    record {
      can_next : (goal.iterator-loop-pack g).can_next rest;
      is_finite : (goal.iterator-loop-pack g).is_finite rest;
      size : into_iter_len rest ≡ length (into_iter_items rest);
      whole : l.fn.made.config.packs ≡ l.yielded ++ into_iter_items rest;
      walked : IsWalked g.F.Files.tells (g.F.Files.file l.fn.files) l.fn.made.config l.made.config l.yielded (into_iter_items rest) l.count l.fn.made.documents l.made.documents l.fn.made.notes l.made.notes;
      same : g.F.Files.tells → (path : List ℕ) → g.F.Files.file l.files path ≡ g.F.Files.file l.fn.files path;
      later : g.F.Files.faults l.fn.files ≤ g.F.Files.faults l.files;
    }
