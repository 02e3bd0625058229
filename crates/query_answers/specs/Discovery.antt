-- Which packs find something.
use Rattle.std.specs.Prelude.{ℕ, ◌&&◌, nat_lt, Bool, List, length}
use Rattle.std.specs.List.{list_all}
use Rattle.osq_config.specs.declared.config.Pack.{Pack}
use Rattle.sql_meaning.specs.Meaning.{View}
use Rattle.sql_texts.specs.Meaning.{is_accepted, meaning}

-- the text is accepted and means at least one row over the view
abbrev pub gives_rows : View → List ℕ → Bool
gives_rows view text = is_accepted text && nat_lt 0 (length (meaning text view))

-- each discovery text does; so a pack without one is found
abbrev pub is_found : View → Pack → Bool
is_found view pack = list_all (λ (text : List ℕ). gives_rows view text) pack.discovery
