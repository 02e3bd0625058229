-- What the tokens behind a place say of the level on which it stands, and of those around it.
use Rattle.std.specs.Prelude.{ℕ, ◌||◌, ◌==◌, length, not, Bool, false, List, [], ◌∷◌}
use Rattle.sql_tokens.specs.declared.token.Token.{Token}
use Rattle.sql_nested.specs.declared.role.Role.{Role}
use Rattle.sql_nested.specs.declared.role.Role.TheVariants as role
use Rattle.sql_nested.specs.declared.outlook.Outlook.{Outlook}
use Rattle.sql_nested.specs.declared.outlook.Look.{Look}
use Rattle.sql_nested.specs.Roles.{role_of, cuts}

-- the levels around, as a place before the parenthesis sees them that opens the innermost level
abbrev pub outside : List Bool → Outlook
outside [] = record { is_cut = false; around = [] }
outside (cut ∷ around) = record { is_cut = cut; around = around }

-- before a token of that role, which cuts or not, given what stands behind it
abbrev pub passed : Role → Bool → Outlook → Outlook
passed role.Close cut o = record { is_cut = false; around = o.is_cut ∷ o.around }
passed role.Open cut o = outside o.around
passed _ cut o = record { is_cut = o.is_cut || cut; around = o.around }

unfoldable pub behind : List ℕ → List Token → Outlook
behind text [] = record { is_cut = false; around = [] }
behind text (t ∷ ts) = passed (role_of t.kind) (cuts text t ts) (behind text ts)

-- whether the level is closed, and whether UNION ALL follows on it
abbrev pub look_of : Outlook → Look
look_of o = record { is_closed = not (length o.around == 0); is_cut = o.is_cut }

-- what stands behind each of the tokens
unfoldable pub looks : List ℕ → List Token → List Look
looks text [] = []
looks text (t ∷ ts) = look_of (behind text ts) ∷ looks text ts
