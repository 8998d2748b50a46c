-- The sections, relocations and names of the generated sources (C6000 EABI, DSBT model).
use Rattle.std.specs.Prelude.{ℕ, ◌+◌, ◌*◌, ◌%◌, min, false, true, List, [], ◌∷◌, ◌++◌, length, Option, Some, None}
use Rattle.std.specs.Int.{to_le_bytes, w32}
use Rattle.std.specs.List.{flat_map}
use Rattle.c6x_reloc.specs.declared.reloc_kind.RelocKind.TheVariants.{DSBT_INDEX, PCR_S21, SBR_U15_W}
use Rattle.c6x_elf.specs.declared.file.File.{File}
use Rattle.c6x_asm_object.specs.Filing.{file_of}
use Rattle.c6x_asm_object.specs.declared.asm_section.AsmSection.{AsmSection}
use Rattle.c6x_asm_object.specs.declared.definition.Definition.{Definition}
use Rattle.c6x_asm_object.specs.declared.instr_word.InstrWord.{InstrWord}
use Rattle.c6x_asm_object.specs.declared.reloc_entry.RelocEntry.{RelocEntry}
use Rattle.c6x_asm_object.specs.declared.section_kind.SectionKind.TheVariants.{Text, Data}
use Rattle.c6x_asm_object.specs.declared.symbol.Symbol.{Symbol}
use Rattle.c6x_gen.specs.Lists.{each_below}
use Rattle.c6x_gen.specs.Sources.{app_source, call_line, called, calls, counter, library_name, library_source, opening}
use Rattle.c6x_gen.specs.Words.{ADD_COUNT, CALL, GO_BACK, LOAD_COUNT, LOAD_TABLE, POP_B14, POP_B3, PUSH_B14, PUSH_B3, STORE_COUNT, WAIT}

-- the word of a line
abbrev pub instruction : ℕ → ℕ → InstrWord
instruction line word = record { line = line; chained = false; word = word }

-- `.text`, which the first line names, with these words and relocations
abbrev pub code_of : List InstrWord → List RelocEntry → AsmSection
code_of instructions entries = record {
  at = 15;
  len = 5;
  kind = Text;
  align = 32;
  size = 4 * length instructions;
  bytes = flat_map (λ i. to_le_bytes w32 i.word) instructions;
  entries = entries;
  instructions = instructions;
  last = Some (4 * length instructions);
}

-- a name of this length at this place of the text, for other modules
abbrev pub exported : ℕ → ℕ → Option Definition → Symbol
exported at len definition = record { at = at; len = len; definition = definition; global = true; weak = false; hidden = false }

-- a name for this module alone, or for one of another
abbrev pub plain : ℕ → ℕ → Option Definition → Symbol
plain at len definition = record { at = at; len = len; definition = definition; global = false; weak = false; hidden = false }

-- the first byte of a section
abbrev pub start_of : ℕ → Option Definition
start_of section = Some (record { section = section; value = 0; size = 0 })

-- A library adds its counter, which stands in near data, to what it is given. It finds its data by the table's slot for it.
abbrev pub library_instructions : List InstrWord
library_instructions =
    instruction 3 PUSH_B14 ∷ instruction 4 LOAD_TABLE ∷ instruction 5 WAIT ∷ instruction 6 LOAD_COUNT ∷ instruction 7 WAIT
    ∷ instruction 8 ADD_COUNT ∷ instruction 9 STORE_COUNT ∷ instruction 10 POP_B14 ∷ instruction 11 GO_BACK ∷ []

-- the offset of the counter from the start of the data, at this offset of the code
abbrev pub count_entry : ℕ → RelocEntry
count_entry offset = record { offset = offset; kind = SBR_U15_W; symbol = Some 1; addend = 0 }

abbrev pub library_entries : List RelocEntry
library_entries = record { offset = 4; kind = DSBT_INDEX; symbol = None; addend = 0 } ∷ count_entry 12 ∷ count_entry 24 ∷ []

-- the section of this counter, in the source of a library with this name
abbrev pub counter_section : List ℕ → ℕ → AsmSection
counter_section name count = record {
  at = 297 + 2 * length name;
  len = 9;
  kind = Data;
  align = 8;
  size = 4;
  bytes = to_le_bytes w32 count;
  entries = [];
  instructions = [];
  last = None;
}

abbrev pub library_sections : List ℕ → ℕ → List AsmSection
library_sections name count = code_of library_instructions library_entries ∷ counter_section name count ∷ []

-- the function, and the counter
abbrev pub library_symbols : List ℕ → List Symbol
library_symbols name = exported 38 (length name) (start_of 1) ∷ plain (145 + 2 * length name) 5 (start_of 2) ∷ []

-- the object of a library
unfoldable pub library_object : ℕ → ℕ → File
library_object n library =
    file_of (library_source n library) (library_sections (library_name library) (counter n library)) (library_symbols (library_name library))

-- The executable calls a library on each line.
abbrev pub call_instructions : ℕ → List InstrWord
call_instructions count = instruction 3 PUSH_B3 ∷ each_below count (λ line. instruction (line + 4) CALL ∷ [])

abbrev pub app_instructions : ℕ → List InstrWord
app_instructions n =
    call_instructions (calls n) ++ (instruction (calls n + 4) POP_B3 ∷ instruction (calls n + 5) WAIT ∷ instruction (calls n + 6) GO_BACK ∷ [])

-- the call of a line is to the library that the line names: the first eleven lines name all of them
abbrev pub call_entry : ℕ → RelocEntry
call_entry line = record { offset = 4 + 4 * line; kind = PCR_S21; symbol = Some (1 + line % 11); addend = 0 }

abbrev pub call_entries : ℕ → List RelocEntry
call_entries count = each_below count (λ line. call_entry line ∷ [])

-- where a line that calls names its library
abbrev pub callee_place : ℕ → ℕ → ℕ
callee_place n line = length (opening ++ each_below line (call_line n)) + 18

-- its own function, and those that its lines call
abbrev pub callee : ℕ → ℕ → Symbol
callee n line = plain (callee_place n line) (length (library_name (called n line))) None

abbrev pub call_symbols : ℕ → ℕ → List Symbol
call_symbols n count = exported 38 5 (start_of 1) ∷ each_below (min count 11) (λ line. callee n line ∷ [])

abbrev pub app_sections : ℕ → List AsmSection
app_sections n = code_of (app_instructions n) (call_entries (calls n)) ∷ []

abbrev pub app_symbols : ℕ → List Symbol
app_symbols n = call_symbols n (calls n)

-- its object
unfoldable pub app_object : ℕ → File
app_object n = file_of (app_source n) (app_sections n) (app_symbols n)
