-- The exports of a module by the hash of their names (gABI chapter 5, "Hash Table").
use Rattle.std.specs.Prelude.{◌≡◌, ℕ, ◌+◌, ◌%◌, ◌<◌, ◌≤◌, ◌==◌, ◌&&◌, Bool, false, List, [], ◌∷◌, length, slice_get, slice_index_or, Option, None, Some, if◌then◌else◌}
use Rattle.std.specs.Str.{bytes_eq}
use Rattle.c6x_elf.specs.Names.{hash_of}
use Rattle.c6x_module.specs.Lookups.{is_export}
use Rattle.c6x_module.specs.declared.module.Module.{Module}
use Rattle.c6x_module.specs.declared.symbol.DynSymbol.{DynSymbol}
use Rattle.c6x_modules.specs.Owned.{AreModules}
use Rattle.c6x_modules.specs.declared.name_index.NameIndex.{NameIndex}

-- The numbers of the exports whose names fall into one of so many buckets, where the first symbol has the number `from`.
unfoldable pub is_in : ℕ → ℕ → DynSymbol → Bool
is_in count bucket symbol = is_export symbol && hash_of 0 symbol.name % count == bucket

abbrev pub numbers_in : ℕ → ℕ → ℕ → List DynSymbol → List ℕ
numbers_in count bucket from [] = []
numbers_in count bucket from (y ∷ ys) =
    if is_in count bucket y then from ∷ numbers_in count bucket (from + 1) ys else numbers_in count bucket (from + 1) ys

-- An index has these numbers in every bucket.
pub record IsIndex (buckets : List (List ℕ)) (symbols : List DynSymbol) : Type 0 where
  pub some : 1 ≤ length buckets
  pub rows : (b : ℕ) (d : List ℕ) → b < length buckets → slice_index_or buckets b d ≡ numbers_in (length buckets) b 0 symbols

-- The first of these symbols that has the name.
abbrev pub is_named : List ℕ → Option DynSymbol → Bool
is_named name None = false
is_named name (Some y) = bytes_eq y.name name

abbrev pub first_named : List DynSymbol → List ℕ → List ℕ → Option ℕ
first_named symbols name [] = None
first_named symbols name (n ∷ ns) = if is_named name (slice_get symbols n) then Some n else first_named symbols name ns

-- Each module has an index of its own.
pub record AreIndexed (modules : List Module) (indexes : List NameIndex) : Type 0 where
  pub count : length indexes ≡ length modules
  pub each : (k : ℕ) (m : Module) (d : NameIndex) → k < length modules → IsIndex (slice_index_or indexes k d).buckets.items (slice_index_or modules k m).symbols

-- What one owner keeps of its modules and their indexes.
pub record IsOwner (modules : List Module) (indexes : List NameIndex) : Type 0 where
  pub kept : AreModules modules
  pub indexed : AreIndexed modules indexes
