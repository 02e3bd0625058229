-- One more member of an object, behind those that were walked over.
use Rattle.std.proofs.Common.{◌≡◌, ℕ, List, Bool, true, false, bytes_eq, refl, sym, ap, ◌∙◌, subst, if◌then◌else◌, Option, Some, option_map}
use Rattle.std.proofs.lemmas.Bool.{false≢true}
use Rattle.std.proofs.lemmas.Slice.Eq.{bytes_eq-Decides}
use Rattle.serde_json.specs.Data.{Data, Members, put}
use Rattle.serde_json.specs.Find.{get_member}
use Rattle.serde_json.proofs.Views.{get_member-put, get_member-put_other}
use Rattle.change_records.specs.Members.{found_with}
use Rattle.change_records.specs.Tokens.{surface}

chosen : (key name : List ℕ) (found : Option Data) (d : Data) (ms : Members) (same : Bool) → bytes_eq key name ≡ same → found ≡ option_map surface (get_member key ms)
    → (if same then Some (surface d) else found) ≡ option_map surface (get_member key (put name d ms))
chosen key name found d ms true e so_far =
    subst (λ (k : List ℕ). Some (surface d) ≡ option_map surface (get_member k (put name d ms))) (sym ((bytes_eq-Decides key name).0 e)) (ap (option_map surface) (sym (get_member-put name d ms)))
chosen key name found d ms false e so_far =
    so_far ∙ ap (option_map surface) (sym (get_member-put_other key name d ms (λ same. false≢true (sym e ∙ (bytes_eq-Decides key name).1 same))))

-- what is found of a key is what the object has of it, also with one more member
pub walked : (key name : List ℕ) (old new : Option Data) (v d : Data) (ms : Members) → v ≡ surface d → new ≡ found_with key old name v → old ≡ option_map surface (get_member key ms)
    → new ≡ option_map surface (get_member key (put name d ms))
walked key name old new v d ms shown next so_far = next ∙ ap (λ (w : Data). found_with key old name w) shown ∙ chosen key name old d ms (bytes_eq key name) refl so_far
