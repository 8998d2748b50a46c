-- The file of a linked module.
use Rattle.std.specs.Prelude.{ℕ, ◌+◌, false, List, [], ◌∷◌, ◌++◌, length, if◌then◌else◌}
use Rattle.c6x_elf.specs.Abi.{DT_NULL, ET_DYN, ET_EXEC, PF_R, PF_W, PF_X, PT_DYNAMIC, PT_LOAD}
use Rattle.c6x_elf.specs.EntryRows.{dynamic_rows, rela_rows, symbol_rows}
use Rattle.c6x_elf.specs.Laid.{Part, laid}
use Rattle.c6x_elf.specs.Rows.{word_row}
use Rattle.c6x_elf.specs.declared.file.File.{File}
use Rattle.c6x_elf.specs.declared.segment.Segment.{Segment}
use Rattle.c6x_layout.specs.Hash.{hash_words}
use Rattle.c6x_layout.specs.FilePlaces.{dynamic_at, hash_at, jumps_at, relas_at, strings_at, symbols_at}
use Rattle.c6x_layout.specs.Tables.{counts_of, entries_of, entry, shared_names, strings_of, symbols_of}
use Rattle.c6x_layout.specs.declared.file_limits.TheConstants.{TEXT_START}
use Rattle.c6x_layout.specs.declared.parts.Parts.{Parts}

unfoldable pub dynamic_bytes : Parts → List ℕ
dynamic_bytes p = dynamic_rows false (entries_of p ++ entry DT_NULL 0 ∷ [])

-- The text's parts, each in its place.
unfoldable pub text_parts : Parts → List Part
text_parts p =
    record { at = 0; bytes = p.code }
    ∷ record { at = hash_at (counts_of p); bytes = word_row false (hash_words (shared_names p.shared)) }
    ∷ record { at = symbols_at (counts_of p); bytes = symbol_rows false (symbols_of p) }
    ∷ record { at = strings_at (counts_of p); bytes = strings_of p }
    ∷ record { at = relas_at (counts_of p); bytes = rela_rows false p.relas }
    ∷ record { at = jumps_at (counts_of p); bytes = rela_rows false p.jumps }
    ∷ record { at = dynamic_at (counts_of p); bytes = dynamic_bytes p } ∷ []

-- Their bytes, with zeros in the gaps.
unfoldable pub text_bytes : Parts → List ℕ
text_bytes p = laid 0 (text_parts p)

abbrev pub text_segment : Parts → Segment
text_segment p = record {
  kind = PT_LOAD;
  vaddr = TEXT_START;
  memsz = length (text_bytes p);
  flags = PF_R + PF_X;
  align = p.align;
  bytes = text_bytes p;
}

abbrev pub data_segment : Parts → Segment
data_segment p = record {
  kind = PT_LOAD;
  vaddr = p.table;
  memsz = p.memory;
  flags = PF_R + PF_W;
  align = p.data_align;
  bytes = p.content;
}

-- The dynamic entries, which lie in the text.
abbrev pub dynamic_segment : Parts → Segment
dynamic_segment p = record {
  kind = PT_DYNAMIC;
  vaddr = TEXT_START + dynamic_at (counts_of p);
  memsz = length (dynamic_bytes p);
  flags = PF_R;
  align = 4;
  bytes = dynamic_bytes p;
}

-- The file: no sections, and three segments.
unfoldable pub linked_file : Parts → File
linked_file p = record {
  kind = if p.library then ET_DYN else ET_EXEC;
  entry = p.entry;
  flags = 0;
  names = 0;
  segments = text_segment p ∷ data_segment p ∷ dynamic_segment p ∷ [];
  sections = [];
}
