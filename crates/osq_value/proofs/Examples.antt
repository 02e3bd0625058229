-- The catalogue, the spellings and the casts on known values.
use Rattle.std.proofs.Common.{◌≡◌, ℕ, ◌+◌, ◌-◌, ◌*◌, ◌/◌, Bool, true, false, List, [], ◌∷◌, map, refl, codes, pos, negsuc, Some, None}
use Rattle.osq_value.specs.declared.catalogue.TableKind.{TableKind}
use Rattle.osq_value.specs.declared.catalogue.TableKind.TheVariants.{Evented, Recorded, Computed}
use Rattle.osq_value.specs.declared.moment.TheConstants.{LAST_MOMENT}
use Rattle.osq_value.specs.declared.value.TableId.{TableId}
use Rattle.osq_value.specs.declared.value.TheConstants.TableId.{PROCESS_EVENTS, SOCKET_EVENTS, FILE_EVENTS, USERS, GROUPS, USER_GROUPS, PROCESSES, LISTENING_PORTS, SYSTEM_INFO, OS_VERSION, DEB_PACKAGES, LOGGED_IN_USERS, TIME, OSQUERY_SCHEDULE, OSQUERY_EVENTS, NONE}
use Rattle.osq_value.specs.Casts.{number_of}
use Rattle.osq_value.specs.Catalogue.{Table, tables, columns_of, table_name, width_of, id_of, is_evented_id, is_recorded_id, is_computed_id}
use Rattle.osq_value.specs.Spelling.{int_of}

-- the constants, in the order of the catalogue
constants : List TableId
constants =
    PROCESS_EVENTS ∷ SOCKET_EVENTS ∷ FILE_EVENTS ∷ USERS ∷ GROUPS ∷ USER_GROUPS ∷ PROCESSES ∷ LISTENING_PORTS ∷ SYSTEM_INFO ∷ OS_VERSION ∷ DEB_PACKAGES ∷ LOGGED_IN_USERS ∷ TIME ∷ OSQUERY_SCHEDULE ∷ OSQUERY_EVENTS ∷ []

named_by_constants : map (λ (table : TableId). table_name table.0) constants ≡ map (λ (table : Table). table.name) tables
unfolding table_name tables constants
named_by_constants = refl

none-width : width_of NONE.0 ≡ 0
unfolding width_of columns_of tables
none-width = refl

file_events-width : width_of 2 ≡ 10
unfolding width_of columns_of tables
file_events-width = refl

no_table-width : width_of 15 ≡ 0
unfolding width_of columns_of tables
no_table-width = refl

users-id : id_of (codes "Users") ≡ Some 3
unfolding id_of tables
users-id = refl

plus-seven : int_of (codes "+007") ≡ Some (pos 7)
unfolding int_of
plus-seven = refl

least : int_of (codes "-9223372036854775808") ≡ Some (negsuc 9223372036854775807)
unfolding int_of
least = refl

too_large : int_of (codes "9223372036854775808") ≡ None
unfolding int_of
too_large = refl

evented : TableKind → Bool
evented Evented = true
evented Recorded = false
evented Computed = false

recorded : TableKind → Bool
recorded Evented = false
recorded Recorded = true
recorded Computed = false

computed : TableKind → Bool
computed Evented = false
computed Recorded = false
computed Computed = true

numbers : List ℕ
numbers = 0 ∷ 1 ∷ 2 ∷ 3 ∷ 4 ∷ 5 ∷ 6 ∷ 7 ∷ 8 ∷ 9 ∷ 10 ∷ 11 ∷ 12 ∷ 13 ∷ 14 ∷ []

evented_by_number : map (λ (table : Table). evented table.kind) tables ≡ map is_evented_id numbers
unfolding tables evented numbers
evented_by_number = refl

recorded_by_number : map (λ (table : Table). recorded table.kind) tables ≡ map is_recorded_id numbers
unfolding tables recorded numbers
recorded_by_number = refl

computed_by_number : map (λ (table : Table). computed table.kind) tables ≡ map is_computed_id numbers
unfolding tables computed numbers
computed_by_number = refl

blanks_before : number_of (codes " \t-12 apples") ≡ negsuc 11
unfolding number_of
blanks_before = refl

no_digit : number_of (codes "- 1") ≡ pos 0
unfolding number_of
no_digit = refl

far_below : number_of (codes "-99999999999999999999") ≡ negsuc 9223372036854775807
unfolding number_of
far_below = refl

leap_years_to : ℕ → ℕ
leap_years_to year = year / 4 - year / 100 + year / 400

-- the year 9999 ends with it: 8030 years from 1970 on, with a day more in each leap year
last_moment : LAST_MOMENT + 1 ≡ (365 * 8030 + (leap_years_to 9999 - leap_years_to 1969)) * 86400
unfolding leap_years_to
last_moment = refl
