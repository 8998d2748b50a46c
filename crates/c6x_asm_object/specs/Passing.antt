-- Whether the object of sections passes a limit, by their sums and the place where they end.
use Rattle.std.specs.Prelude.{ℕ, ◌+◌, ◌*◌, nat_lt, Bool, ◌||◌}
use Rattle.c6x_base.specs.declared.limits.TheConstants.{MOST_FILE_BYTES, MOST_SECTIONS}
use Rattle.c6x_spec.specs.Rounded.{rounded}
use Rattle.c6x_asm_object.specs.declared.summary.Summary.{Summary}
use Rattle.c6x_asm_object.specs.Sums.{is_past}

-- the bytes of `.symtab`: the null symbol, the sections and the names
abbrev pub symbol_bytes : ℕ → ℕ → ℕ
symbol_bytes sections symbols = 16 * (1 + sections + symbols)

-- the bytes of `.shstrtab`: a zero byte, the names, and those of the last three sections
abbrev pub name_bytes : ℕ → ℕ
name_bytes names = names + 27

-- all sections: the null section, the named ones, their relocation tables, and the last three
abbrev pub section_count : ℕ → ℕ → ℕ
section_count sections tables = sections + tables + 4

-- the bytes of the written form, where the sections of the text end at `at`
abbrev pub whole_size : ℕ → ℕ → ℕ → ℕ → Summary → ℕ
whole_size at sections symbols names s =
    rounded (rounded at 4 + s.rows + symbol_bytes sections symbols + (1 + names) + name_bytes s.names) 4
    + 40 * section_count sections s.tables

-- a section is too long
abbrev pub has_long : ℕ → ℕ → ℕ → Summary → Bool
has_long sections symbols names s =
    s.heavy || (is_past (symbol_bytes sections symbols) || (is_past (1 + names) || is_past (name_bytes s.names)))

unfoldable pub passes : ℕ → ℕ → ℕ → ℕ → Summary → Bool
passes at sections symbols names s =
    nat_lt MOST_SECTIONS (section_count sections s.tables)
    || (has_long sections symbols names s || nat_lt MOST_FILE_BYTES (whole_size at sections symbols names s))
