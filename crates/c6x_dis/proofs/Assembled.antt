-- The text of one instruction is assembled to its word.
use Rattle.std.proofs.Common.{◌≡◌, ℕ, ◌-◌, ◌%◌, false, List, [], ◌∷◌, ◌++◌, Some, None, Ok, codes, refl}
use Rattle.c6x_encoding.specs.Decoded.{decoded}
use Rattle.c6x_encoding.specs.Spelling.{Spells}
use Rattle.c6x_encoding.specs.declared.instr.Instr.{Instr}
use Rattle.c6x_encoding.proofs.Facts.{decoded-spelled, encoded-spelled}
use Rattle.c6x_elf.specs.declared.file.File.{File}
use Rattle.c6x_packet.specs.Packets.{split_of, tested}
use Rattle.c6x_asm_lines.specs.Bytes.{bytes_at}
use Rattle.c6x_asm_lines.specs.declared.mode.Mode.{Mode}
use Rattle.c6x_asm_lines.specs.declared.offset.Offset.{Offset}
use Rattle.c6x_asm_lines.specs.declared.offset.Offset.TheVariants.{Missing, Bracket, Parenthesis}
use Rattle.c6x_asm_lines.specs.declared.operand.Operand.{Operand}
use Rattle.c6x_asm_lines.specs.declared.operand.Operand.TheVariants.{Text as TextOperand, Address as AddressOperand, Value as ValueOperand}
use Rattle.c6x_asm_lines.specs.declared.value.Value.{Value}
use Rattle.c6x_asm_lines.specs.declared.value.Value.TheVariants.{Primary as PrimaryValue, Kind as KindValue}
use Rattle.c6x_asm_instr.specs.Kinds.{kinds_from, offset_fault, operand_fault, value_fault}
use Rattle.c6x_asm_object.specs.Filing.{file_of}
use Rattle.c6x_asm_object.specs.Sections.{empty_section, with_bytes, with_instruction, with_number, with_parallel}
use Rattle.c6x_asm.specs.Instructions.{instr_word_of, word_of}
use Rattle.c6x_asm.specs.Objects.{assembled}
use Rattle.c6x_asm.specs.Packets.{closed, first_bad, is_packet}
use Rattle.c6x_asm.specs.Reading.{bad_line, read_lines, read_of}
use Rattle.c6x_dis.specs.Pieces.{lexemes_at}
use Rattle.c6x_dis.specs.Lines.{IsLineRead, shown_head}
use Rattle.c6x_dis.proofs.Lexed.{bytes_seam}
use Rattle.c6x_dis.proofs.ShownOperands.{AreShown, IsShown, IsShownOffset, IsShownValue}
use Rattle.c6x_dis.proofs.Spelled.{plain_name, some_bytes}
use Rattle.c6x_dis.specs.Words.{first_line, IsOneWord, text_of}
use Rattle.c6x_dis.proofs.Even.{cleared, even_spells, even_twice}
use Rattle.c6x_dis.proofs.First.{text_cut, two_lines}
use Rattle.c6x_dis.proofs.Sections.{one_word, word_section}
use Rattle.c6x_dis.proofs.Steps.{done, first_lined, second_lined}
use Rattle.c6x_dis.specs.Shown.{mnemonic_for, operands_for, shown, shown_atoms}

-- the words of the first line
keyword_is : (rest : List ℕ) → bytes_at (first_line ++ rest) 0 5 ≡ codes ".sect"
keyword_is rest = bytes_seam (first_line ++ rest) [] (codes ".sect") (32 ∷ 34 ∷ codes ".text\"" ++ 10 ∷ rest) 0 refl refl

name_is : (rest : List ℕ) → bytes_at (first_line ++ rest) 7 5 ≡ codes ".text"
name_is rest = bytes_seam (first_line ++ rest) (codes ".sect \"") (codes ".text") (34 ∷ 10 ∷ rest) 7 refl refl

-- one valid word with bit 0 clear may stand alone in a packet
alone : (i : Instr) (word : ℕ) → word - word % 2 ≡ word → decoded word ≡ Some i → first_bad (instr_word_of 2 false word ∷ []) ≡ None
unfolding first_bad is_packet closed split_of tested
alone i word even is = rw (even, is) refl

no_bad_line : (i : Instr) (word : ℕ) → word - word % 2 ≡ word → decoded word ≡ Some i → bad_line None (word_section word ∷ []) ≡ None
unfolding with_instruction with_number with_bytes with_parallel empty_section
no_bad_line i word even is = rw (alone i word even is) refl

-- the operands of an instruction name no kinds
value_kindless : (text : List ℕ) (v : Value) → IsShownValue v → value_fault text v ≡ None
value_kindless text (PrimaryValue p) shown = refl
value_kindless text (KindValue kind inner) shown = absurd shown

offset_kindless : (text : List ℕ) (mode : Mode) (offset : Offset) → IsShownOffset mode offset → offset_fault text offset ≡ None
offset_kindless text mode Missing shown = refl
offset_kindless text mode (Bracket v) shown = value_kindless text v shown
offset_kindless text mode (Parenthesis v) shown = value_kindless text v shown.1

operand_kindless : (text : List ℕ) (o : Operand) → IsShown o → operand_fault text o ≡ None
unfolding operand_fault
operand_kindless text (TextOperand at len) shown = refl
operand_kindless text (AddressOperand a) shown = offset_kindless text a.mode a.offset shown.1
operand_kindless text (ValueOperand v) shown = value_kindless text v shown

kindless : (text : List ℕ) (operands : List Operand) → AreShown operands → kinds_from text None operands ≡ None
kindless text [] shown = refl
kindless text (o ∷ operands) shown = rw (operand_kindless text o shown.0) (kindless text operands shown.1)

lines_make : (i : Instr) (word : ℕ) → AreShown (operands_for i.op) → IsLineRead i → Spells (cleared i) word → word - word % 2 ≡ word → read_of (text_of i) ≡ Ok (done word)
unfolding read_of read_lines word_of
lines_make i word operands line spells even =
    rw (
      text_cut (shown_atoms i) line.apart,
      two_lines (shown_atoms i) line.apart (some_bytes i),
      first_lined (text_of i) (keyword_is (shown i)) (name_is (shown i)),
      second_lined (text_of i) (lexemes_at 14 (shown_atoms i)) (shown_head 14 i) (operands_for i.op) i.op word (name_is (shown i)) (line.read 14) refl (plain_name (mnemonic_for i.op)) (kindless (text_of i) (operands_for i.op) operands) (line.means first_line) (encoded-spelled (cleared i) word spells),
      no_bad_line (cleared i) word even (decoded-spelled (cleared i) word spells),
    ) refl

text_assembled : (i : Instr) (word : ℕ) → AreShown (operands_for i.op) → IsLineRead i → Spells (cleared i) word → word - word % 2 ≡ word → assembled (text_of i) ≡ Ok (file_of (text_of i) (word_section word ∷ []) [])
unfolding assembled
text_assembled i word operands line spells even = rw (lines_make i word operands line spells even) refl

-- what is left to know of the instruction: its operands, and what its line is read as
pub line_assembled : (i : Instr) (word : ℕ) → AreShown (operands_for i.op) → IsLineRead i → Spells i word → (file : File) × (assembled (text_of i) ≡ Ok file) × IsOneWord file (word - word % 2)
line_assembled i word operands line spells = (
  file_of (text_of i) (word_section (word - word % 2) ∷ []) [],
  text_assembled i (word - word % 2) operands line (even_spells i word spells) (even_twice word),
  one_word (text_of i) (word - word % 2) (name_is (shown i)),
)
