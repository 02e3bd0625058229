-- The keys of a configuration, with what each holds.
use Rattle.std.specs.Prelude.{ℕ, List, [], ◌∷◌, codes}

mutual
  pub data Kind : Type 0 where
    -- a whole number from the first to the second
    whole : ℕ → ℕ → Kind
    truth : Kind
    text : Kind
    -- one of these texts
    word : List (List ℕ) → Kind
    -- an array of texts
    texts : Kind
    -- an object with these keys; every other key is ignored
    fields : Keys → Kind
    -- an object whose members are all of this kind
    each : Kind → Kind
    -- a text, or a value of this kind
    text_or : Kind → Kind

  -- keys in byte order: one that may be missing, and one that must be there
  pub data Keys : Type 0 where
    no_keys : Keys
    may : List ℕ → Kind → Keys → Keys
    must : List ℕ → Kind → Keys → Keys

abbrev pub entry_kind : Kind
entry_kind =
    fields (
    may (codes "denylist") truth (may (codes "interval") (whole 1 604800) (may (codes "platform") text (must (codes "query") text (
    may (codes "removed") truth (may (codes "shard") (whole 1 100) (may (codes "snapshot") truth (may (codes "version") text no_keys)))
    ))))
    )

abbrev pub pack_kind : Kind
pack_kind =
    fields (
    may (codes "discovery") texts (may (codes "platform") text (may (codes "queries") (each entry_kind) (
    may (codes "shard") (whole 1 100) (may (codes "version") text no_keys)
    )))
    )

abbrev pub options_kind : Kind
options_kind =
    fields (
    may (codes "events_expiry") (whole 1 4294967295) (may (codes "events_max") (whole 1 1000000) (
    may (codes "result_form") (word (codes "event" ∷ codes "batch" ∷ [])) no_keys
    ))
    )

abbrev pub config_kind : Kind
config_kind =
    fields (
    may (codes "exclude_paths") (each texts) (may (codes "file_paths") (each texts) (may (codes "options") options_kind (
    may (codes "packs") (each (text_or pack_kind)) (may (codes "schedule") (each entry_kind) no_keys)
    )))
    )
