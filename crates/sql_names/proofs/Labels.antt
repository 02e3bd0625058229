-- The name of a table, by what tells it apart.
use Rattle.std.proofs.Common.{◌≡◌, ℕ, [], Option, Some, None, ap, refl}
use Rattle.std.specs.Option.{option_map, option_map_or}
use Rattle.osq_value.specs.Catalogue.{Table, Heading, table_at, table_name, heading_at, heading_of}

label_by : (found : Option Table) (h : Heading) → Some h ≡ option_map heading_of found → h.name ≡ option_map_or (λ (t : Table). t.name) found []
label_by None h e = absurd (let no : ⊥ = cc in no)
label_by (Some t) h e = let same : h ≡ heading_of t = cc in ap (λ (x : Heading). x.name) same

no_label_by : (found : Option Table) → None ≡ option_map heading_of found → [] ≡ option_map_or (λ (t : Table). t.name) found []
no_label_by None e = refl
no_label_by (Some t) e = absurd (let no : ⊥ = cc in no)

pub label : (id : ℕ) (h : Heading) → Some h ≡ heading_at id → h.name ≡ table_name id
unfolding heading_at table_name
label id h e = label_by (table_at id) h e

pub no_label : (id : ℕ) → None ≡ heading_at id → [] ≡ table_name id
unfolding heading_at table_name
no_label id e = no_label_by (table_at id) e
