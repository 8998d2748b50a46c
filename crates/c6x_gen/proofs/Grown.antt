-- A section of so many instructions, and the names beside it.
use Rattle.std.proofs.Common.{◌≡◌, ℕ, ◌+◌, ◌*◌, ◌%◌, ◌≤◌, Bool, true, false, cond, List, [], ◌∷◌, ◌++◌, length, Option, Some, None, Ok, refl, arith}
use Rattle.std.specs.Int.{to_le_bytes, w32}
use Rattle.std.proofs.lemmas.Bool.{le-leb, le-ltb}
use Rattle.std.proofs.lemmas.List.{length-append}
use Rattle.c6x_asm_lines.specs.Bytes.{bytes_at}
use Rattle.c6x_asm_lines.specs.Grammar.{line_of}
use Rattle.c6x_asm_lines.specs.declared.lexeme.Lexeme.{Lexeme}
use Rattle.c6x_asm_lines.specs.declared.word.Word.{Word}
use Rattle.c6x_asm_lines.specs.declared.relocation.Relocation.{Relocation}
use Rattle.c6x_asm_object.specs.Filing.{has_entries}
use Rattle.c6x_asm_object.specs.Limits.{is_large}
use Rattle.c6x_asm_object.specs.Places.{place_behind, section_end}
use Rattle.c6x_asm_object.specs.Sums.{is_heavy, names_of_section}
use Rattle.c6x_asm_object.specs.Sections.{with_bytes, with_instruction, with_number, with_parallel}
use Rattle.c6x_asm_object.specs.Symbols.{fresh, interned, or_added, symbol_at}
use Rattle.c6x_asm_object.specs.declared.asm_section.AsmSection.{AsmSection}
use Rattle.c6x_asm_object.specs.declared.reloc_entry.RelocEntry.{RelocEntry}
use Rattle.c6x_asm_object.specs.declared.section_kind.SectionKind.TheVariants.{Text as Code}
use Rattle.c6x_asm_object.specs.declared.symbol.Symbol.{Symbol}
use Rattle.c6x_asm.specs.Instructions.{instr_word_of}
use Rattle.c6x_asm.specs.States.{named_entry, relocated, State}
use Rattle.c6x_asm.specs.Lines.{lined, read_line}
use Rattle.c6x_asm.specs.Packets.{is_packet}
use Rattle.c6x_gen.proofs.Alone.{AreAlone, one_alone}
use Rattle.c6x_gen.proofs.Small.{AreShort, bytes_most, few_small, names_most, not_past}
use Rattle.c6x_gen.proofs.Steps.{in_code, IsCode}

-- a section of code with so many instructions, each a packet of its own
pub record IsGrown (count : ℕ) (p : AsmSection) : Type 0 where
  pub at : p.at ≡ 15
  pub kind : p.kind ≡ Code
  pub align : p.align ≡ 32
  pub len : p.len ≡ 5
  pub size : p.size ≡ 4 * count
  pub bytes : length p.bytes ≡ 4 * count
  pub entries : length p.entries ≤ count
  pub alone : AreAlone p.instructions

abbrev pub with_word : ℕ → ℕ → Option RelocEntry → AsmSection → AsmSection
with_word line word entry p = with_instruction (instr_word_of line false word) entry p

pub one_grown : (count line word : ℕ) (entry : Option RelocEntry) (p : AsmSection) → IsGrown count p → is_packet (word ∷ []) ≡ true → IsGrown (count + 1) (with_word line word entry p)
unfolding with_instruction with_number with_bytes with_parallel
one_grown count line word None p grown alone = record {
  at = grown.at;
  kind = grown.kind;
  align = grown.align;
  len = grown.len;
  size = omega (arith, grown.size);
  bytes = omega (arith, grown.bytes, length-append p.bytes (to_le_bytes w32 word));
  entries = omega (arith, grown.entries);
  alone = one_alone p.instructions (instr_word_of line false word) grown.alone refl alone;
}
one_grown count line word (Some entry) p grown alone = record {
  at = grown.at;
  kind = grown.kind;
  align = grown.align;
  len = grown.len;
  size = omega (arith, grown.size);
  bytes = omega (arith, grown.bytes, length-append p.bytes (to_le_bytes w32 word));
  entries = omega (arith, grown.entries, length-append p.entries (entry ∷ []));
  alone = one_alone p.instructions (instr_word_of line false word) grown.alone refl alone;
}

-- an instruction may stand in it
pub grown_code : (count : ℕ) (p : AsmSection) → IsGrown count p → count ≤ 2000 → IsCode p
grown_code count p grown most =
    let even : p.size % 4 ≡ 0 = omega (arith, grown.size) in
    record {
      kind = rw grown.kind refl;
      even = rw even refl;
      room = le-leb (p.size + 4) 1048576 (omega (arith, grown.size, most));
    }

-- the names beside it
pub record AreNames (count : ℕ) (symbols : List Symbol) : Type 0 where
  pub short : AreShort symbols
  pub few : length symbols ≤ count

-- one more name, where it is new
short_added : (symbols : List Symbol) (s : Symbol) → AreShort symbols → s.len ≤ 64 → AreShort (symbols ++ s ∷ [])
short_added [] s short len = (len, tt)
short_added (first ∷ symbols) s short len = (short.0, short_added symbols s short.1 len)

or_one : (place : Option ℕ) (count : ℕ) (symbols : List Symbol) (word : Word) → AreNames count symbols → word.len ≤ 64 → AreNames (count + 1) (or_added place symbols word).0
unfolding fresh
or_one (Some i) count symbols word names len = record { short = names.short; few = omega (arith, names.few) }
or_one None count symbols word names len = record {
  short = short_added symbols (fresh word) names.short len;
  few = omega (arith, names.few, length-append symbols (fresh word ∷ []));
}

-- the name of a relocation is short
abbrev pub IsShort : Option Word → Type 0
IsShort None = Unit {0}
IsShort (Some word) = word.len ≤ 64

abbrev pub HasShort : Option Relocation → Type 0
HasShort None = Unit {0}
HasShort (Some r) = IsShort r.symbol

named_one : (text : List ℕ) (count : ℕ) (symbols : List Symbol) (r : Relocation) (offset : ℕ) (symbol : Option Word) → AreNames count symbols → IsShort symbol → AreNames (count + 1) (named_entry text symbols r offset symbol).0
unfolding interned
named_one text count symbols r offset None names short = record { short = names.short; few = omega (arith, names.few) }
named_one text count symbols r offset (Some word) names short = or_one (symbol_at text symbols (bytes_at text word.at word.len)) count symbols word names short

pub names_one : (text : List ℕ) (count : ℕ) (symbols : List Symbol) (offset : ℕ) (r : Option Relocation) → AreNames count symbols → HasShort r → AreNames (count + 1) (relocated text symbols offset r).0
unfolding relocated
names_one text count symbols offset None names short = record { short = names.short; few = omega (arith, names.few) }
names_one text count symbols offset (Some r) names short = named_one text count symbols r offset r.symbol names short

-- a section that is far within the limits
pub record IsLight (p : AsmSection) : Type 0 where
  pub size : p.size ≤ 10000
  pub bytes : length p.bytes ≤ 10000
  pub entries : length p.entries ≤ 2000
  pub len : p.len ≤ 64
  pub end : (at : ℕ) → section_end at p ≤ at + 10100

pub grown_light : (count : ℕ) (p : AsmSection) → IsGrown count p → count ≤ 2000 → IsLight p
unfolding place_behind
grown_light count p grown most = record {
  size = omega (arith, grown.size, most);
  bytes = omega (arith, grown.bytes, most);
  entries = omega (arith, grown.entries, most);
  len = omega (arith, grown.len);
  end = λ at. rw (grown.kind, grown.align) (omega (arith, grown.bytes, most));
}

not_heavy : (p : AsmSection) → IsLight p → is_heavy p ≡ false
not_heavy p light =
    rw (
      not_past p.size (omega (arith, light.size)),
      not_past (length p.bytes) (omega (arith, light.bytes)),
      not_past (12 * length p.entries) (omega (arith, light.entries)),
    ) refl

either_most : (b : Bool) (m n : ℕ) → cond b m n ≤ m + n
either_most true m n = omega arith
either_most false m n = omega arith

names_of_most : (text : List ℕ) (p : AsmSection) → IsLight p → names_of_section text p ≤ 140
names_of_most text p light =
    let len = bytes_most text p.at p.len in
    omega (arith, len, light.len, either_most (has_entries p) (length (bytes_at text p.at p.len) + 6) 0)

pub one_small : (text : List ℕ) (p : AsmSection) (symbols : List Symbol) (count : ℕ) → IsLight p → AreNames count symbols → count ≤ 2000 → is_large text (p ∷ []) symbols ≡ false
one_small text p symbols count light names most =
    few_small text (p ∷ []) symbols (record {
      light = rw (not_heavy p light) refl;
      tables = omega (arith, either_most (has_entries p) 1 0);
      rows = omega (arith, light.entries);
      section_names = omega (arith, names_of_most text p light);
      end = omega (arith, light.end 52);
      sections_few = omega arith;
      symbols_few = omega (arith, names.few, most);
      names = omega (arith, names.few, most, names_most text symbols names.short);
    })

pub two_small : (text : List ℕ) (p q : AsmSection) (symbols : List Symbol) (count : ℕ) → IsLight p → IsLight q → AreNames count symbols → count ≤ 2000 → is_large text (p ∷ q ∷ []) symbols ≡ false
two_small text p q symbols count light other names most =
    few_small text (p ∷ q ∷ []) symbols (record {
      light = rw (not_heavy p light, not_heavy q other) refl;
      tables = omega (arith, either_most (has_entries p) 1 0, either_most (has_entries q) 1 0);
      rows = omega (arith, light.entries, other.entries);
      section_names = omega (arith, names_of_most text p light, names_of_most text q other);
      end = omega (arith, light.end 52, other.end (section_end 52 p));
      sections_few = omega arith;
      symbols_few = omega (arith, names.few, most);
      names = omega (arith, names.few, most, names_most text symbols names.short);
    })

-- a section of code and the names beside it
pub record Made : Type 0 where
  pub section : AsmSection
  pub names : List Symbol

-- behind one more instruction
abbrev pub next : List ℕ → ℕ → ℕ → Option Relocation → Made → Made
next text line word r made = record {
  section = with_word line word (relocated text made.names made.section.size r).1 made.section;
  names = (relocated text made.names made.section.size r).0;
}

abbrev pub state_of : Made → State
state_of made = in_code made.section made.names

-- so many instructions, and a name more at most
pub record IsMade (count : ℕ) (made : Made) : Type 0 where
  pub grown : IsGrown count made.section
  pub names : AreNames (count + 1) made.names

pub next_made : (text : List ℕ) (line word : ℕ) (r : Option Relocation) (count : ℕ) (made : Made) → IsMade count made → HasShort r → is_packet (word ∷ []) ≡ true → IsMade (count + 1) (next text line word r made)
next_made text line word r count made is short alone = record {
  grown = one_grown count line word (relocated text made.names made.section.size r).1 made.section is.grown alone;
  names = names_one text (count + 1) made.names made.section.size r is.names short;
}

pub made_code : (count : ℕ) (made : Made) → IsMade count made → count ≤ 1999 → IsCode made.section
made_code count made is most = grown_code count made.section is.grown (omega (arith, most))

-- a line is taken where the object behind it is within the limits
pub lined_so : (text : List ℕ) (number : ℕ) (lexemes : List Lexeme) (s t : State) → read_line text number (line_of lexemes) s ≡ Ok t → is_large text t.sections t.symbols ≡ false → number ≤ 65536 → lined text number lexemes s ≡ Ok t
unfolding lined
lined_so text number lexemes s t read small most = rw (read, small, le-ltb 65536 number most) refl

pub made_lined : (text : List ℕ) (number : ℕ) (lexemes : List Lexeme) (s : State) (count : ℕ) (made : Made) → read_line text number (line_of lexemes) s ≡ Ok (state_of made) → IsMade count made → count ≤ 1999 → number ≤ 65536 → lined text number lexemes s ≡ Ok (state_of made)
made_lined text number lexemes s count made read is most low =
    lined_so text number lexemes s (state_of made) read
    (one_small text made.section made.names (count + 1) (grown_light count made.section is.grown (omega (arith, most))) is.names (omega (arith, most)))
    low
