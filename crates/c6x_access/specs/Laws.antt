-- The rights, said byte by byte.
use Rattle.std.specs.Prelude.{◌≡◌, ◌↔◌, ℕ, ◌+◌, ◌<◌, ◌≤◌, ◌^◌, List, slice_get, Some, true}
use Rattle.c6x_access.specs.declared.area.Area.{Area}
use Rattle.c6x_access.specs.declared.right.Right.{Right}
use Rattle.c6x_access.specs.Rights.{has_right, may_access}

-- the byte lies in an area with the right
pub record IsGiven (areas : List Area) (right : Right) (x : ℕ) : Type 0 where
  pub place : ℕ
  pub area : Area
  pub is_area : slice_get areas place ≡ Some area
  pub given : has_right area right ≡ true
  pub above : area.lo ≤ x
  pub below : x < area.lo + area.len

-- no byte of the access lies past the last address, and each may be used so
pub record IsAccess (areas : List Area) (right : Right) (at len : ℕ) : Type 0 where
  pub within : at + len ≤ 2 ^ 32
  pub each : (x : ℕ) → at ≤ x → x < at + len → IsGiven areas right x

abbrev pub AccessIsOfEachByte : Type 0
AccessIsOfEachByte = (areas : List Area) (right : Right) (at len : ℕ) → (may_access areas right at len ≡ true) ↔ IsAccess areas right at len
