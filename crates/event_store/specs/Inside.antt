-- What images and views keep beside what contracts see.
use Rattle.std.specs.Prelude.{◌≡◌, ℕ, Bool, true, List, ◌++◌, length, map}
use Rattle.osq_value.specs.declared.value.Value.{Value}
use Rattle.entry_model.specs.declared.restored.Live.{Live}
use Rattle.event_store.specs.Contents.{Contents, Shown, IsImage, IsView, HasFloors}
use Rattle.event_store.specs.Orders.{AreInOrder}

-- what is known of an image that keeps whether its events came in order, and the last moment
pub record IsKept (in_order : Bool) (latest : ℕ) (contents : Contents) : Type 0 where
  pub image : IsImage contents
  pub floors : HasFloors contents
  pub order : in_order ≡ true → AreInOrder latest contents.live

-- the rows of events, and then those of tables
abbrev pub shown_by : List (List Live) → List (List (List Value)) → Shown
shown_by live tables = map (map (λ (event : Live). event.row)) live ++ tables

-- what is known of a view's events and tables
pub record AreShown (live : List (List Live)) (tables : List (List (List Value))) : Type 0 where
  pub three : length live ≡ 3
  pub view : IsView (shown_by live tables)
