-- 01's words on a list of SVIDs: what `is_in` and `sound_list` ask, by places.
use Rattle.std.specs.Prelude.{◌≡◌, ℕ, ◌<◌, List, length, get_or}

-- the value stands at a place of the list
pub record Stands (value : ℕ) (list : List ℕ) : Type 0 where
  pub place : ℕ
  pub within : place < length list
  pub is_there : get_or list place 0 ≡ value

-- two at different places are equal
pub record Twice (list : List ℕ) : Type 0 where
  pub earlier : ℕ
  pub later : ℕ
  pub in_order : earlier < later
  pub within : later < length list
  pub equal : get_or list earlier 0 ≡ get_or list later 0
