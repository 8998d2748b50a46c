-- A board lent with the areas of a process.
use Rattle.std.specs.Prelude.{◌≡◌, ℕ, ◌+◌, ◌<◌, ◌≤◌, List, ◌||◌, true}
use Rattle.c6x_spec.specs.Memory.{Memory, IsOnMemory}
use Rattle.c6x_access.specs.declared.area.Area.{Area}
use Rattle.c6x_access.specs.declared.right.Right.TheVariants.{Read, Run}
use Rattle.c6x_access.specs.Rights.{allowed, is_own}

-- the areas lie on the memory
abbrev pub LieOn : Memory → List Area → Type 0
LieOn m areas = (x : ℕ) → is_own areas x ≡ true → IsOnMemory m x 1

-- each of these bytes may be loaded or run
abbrev pub MayLook : List Area → ℕ → ℕ → Type 0
MayLook areas at size = (x : ℕ) → at ≤ x → x < at + size → (allowed areas Read x || allowed areas Run x) ≡ true
