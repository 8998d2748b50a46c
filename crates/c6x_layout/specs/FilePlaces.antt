-- Where the tables of a linked module stand, in bytes from the start of its text: behind the sections and stubs, at the
-- next multiple of 4, the hash table, the dynamic symbols and the strings; at the next multiple of 4 the relocation
-- entries of DT_RELA, those of DT_JMPREL and the dynamic entries (this project's layout of SPRAB89's tables).
use Rattle.std.specs.Prelude.{ℕ, ◌+◌, ◌*◌, ◌≤◌, ◌==◌, if◌then◌else◌}
use Rattle.c6x_spec.specs.Rounded.{rounded}
use Rattle.c6x_layout.specs.declared.counts.Counts.{Counts}
use Rattle.c6x_layout.specs.declared.places.Places.{Places}

unfoldable pub hash_at : Counts → ℕ
hash_at c = rounded c.code 4

-- Two words, and a bucket and a chain word for each symbol.
unfoldable pub symbols_at : Counts → ℕ
symbols_at c = hash_at c + 4 * (2 + 2 * c.symbols)

unfoldable pub strings_at : Counts → ℕ
strings_at c = symbols_at c + 16 * c.symbols

unfoldable pub relas_at : Counts → ℕ
relas_at c = rounded (strings_at c + c.strings) 4

unfoldable pub jumps_at : Counts → ℕ
jumps_at c = relas_at c + 12 * c.relas

unfoldable pub dynamic_at : Counts → ℕ
dynamic_at c = jumps_at c + 12 * c.jumps

-- Three entries each for the tables of relocation entries that there are, and nine others.
unfoldable pub entry_count : Counts → ℕ
entry_count c = c.named + 5 + (if c.relas == 0 then 0 else 3) + (if c.jumps == 0 then 0 else 3) + 4

unfoldable pub text_size : Counts → ℕ
text_size c = dynamic_at c + 8 * entry_count c

unfoldable pub places_of : Counts → Places
places_of c = record {
  hash = hash_at c;
  symbols = symbols_at c;
  strings = strings_at c;
  relas = relas_at c;
  jumps = jumps_at c;
  dynamic = dynamic_at c;
  end = text_size c;
}

-- Each table stands behind the one in front of it.
pub record AreInOrder (p : Places) : Type 0 where
  pub hash : p.hash ≤ p.symbols
  pub symbols : p.symbols ≤ p.strings
  pub strings : p.strings ≤ p.relas
  pub relas : p.relas ≤ p.jumps
  pub jumps : p.jumps ≤ p.dynamic
  pub dynamic : p.dynamic ≤ p.end
