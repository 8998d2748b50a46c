-- The entries for the loader of the value words and of the stubs' words (SPRAB89, "Dynamic Relocation").
use Rattle.std.specs.Prelude.{ℕ, ◌+◌, ◌*◌, List, [], ◌∷◌, pos, length, if◌then◌else◌}
use Rattle.std.specs.Int.{cast_signed, w32}
use Rattle.std.specs.List.{enumerate_from, flat_map, range_with_len}
use Rattle.c6x_symbols.specs.Bindings.{BoundName}
use Rattle.std.specs.Prelude.{map}
use Rattle.c6x_dsbt.specs.declared.wanted.Wanted.{Wanted}
use Rattle.c6x_elf.specs.Attributes.{rela_info}
use Rattle.c6x_elf.specs.Types.{Rela}
use Rattle.c6x_layout.specs.Dynamics.{is_filled_word}
use Rattle.c6x_reloc.specs.Table.{row_of}
use Rattle.c6x_reloc.specs.Value.{less}
use Rattle.c6x_reloc.specs.declared.reloc_kind.RelocKind.TheVariants.{ABS32, JUMP_SLOT}
use Rattle.c6x_link.specs.Targets.{import_symbol, target_of}
use Rattle.c6x_link.specs.Working.{Working}
use Rattle.c6x_link.specs.declared.target.Target.{Target}

-- The value word at this place, counted from the first one, on a symbol that moves.
abbrev pub rela_on : Working → ℕ → Target → Rela
rela_on w place target = record {
  offset = w.layout.words + 4 * place;
  info = rela_info target.symbol (row_of ABS32).number;
  addend = cast_signed w32 (less target.address target.start);
}

unfoldable pub word_rela : Working → ℕ × Wanted → List Rela
word_rela w x =
    if is_filled_word w.objects w.bindings x.1 then rela_on w x.0 (target_of w x.1) ∷ [] else []

unfoldable pub word_relas : Working → List Rela
word_relas w = flat_map (word_rela w) (enumerate_from 0 w.words)

-- The word of the stub at this place, which has this import's address.
unfoldable pub stub_rela : Working → ℕ × ℕ → Rela
stub_rela w x = record {
  offset = w.layout.words + 4 * (length w.words + x.0);
  info = rela_info (import_symbol w.bindings x.1) (row_of JUMP_SLOT).number;
  addend = pos 0;
}

unfoldable pub stub_relas : Working → List Rela
stub_relas w = map (stub_rela w) (enumerate_from 0 w.stubs)

-- For each name, and behind the last one, the number that the next import has among the dynamic symbols.
abbrev pub import_symbols : List BoundName → List ℕ
import_symbols bindings = map (import_symbol bindings) (range_with_len 0 (length bindings + 1))
