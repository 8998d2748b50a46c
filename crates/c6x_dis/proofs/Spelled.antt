-- A shown line stands apart, spells its statement, and means its instruction.
use Rattle.std.proofs.Common.{◌≡◌, ◌≢◌, ℕ, ◌+◌, ◌≤◌, Bool, true, false, List, [], ◌∷◌, ◌++◌, length, Option, Some, None, Ok, refl, sym, ◌∙◌, ap, subst, arith}
use Rattle.std.proofs.lemmas.Bool.{true≢false}
use Rattle.std.proofs.lemmas.List.{append_assoc, length-append}
use Rattle.c6x_base.specs.declared.side.Side.TheVariants.{B}
use Rattle.c6x_encoding.specs.declared.cond.Cond.{Cond}
use Rattle.c6x_encoding.specs.declared.cond.Cond.TheVariants.{Always, If}
use Rattle.c6x_encoding.specs.declared.instr.Instr.{Instr}
use Rattle.c6x_encoding.specs.declared.op.Op.{Op}
use Rattle.c6x_encoding.specs.declared.op.Op.TheVariants.{Two as TwoOp, Move as MoveOp, Branch as BranchOp, Callp as CallpOp, BranchNop as BranchNopOp, BranchReg as BranchRegOp, BranchRegNop as BranchRegNopOp, AddKpc as AddKpcOp, Nop as NopOp, Short as ShortOp, Long as LongOp}
use Rattle.c6x_encoding.specs.declared.unit_kind.UnitKind.TheVariants.{S, D}
use Rattle.c6x_asm_lines.specs.Bytes.{bytes_at}
use Rattle.c6x_asm_lines.specs.Grammar.{is_dotted, line_of}
use Rattle.c6x_asm_lines.specs.Lexemes.{class_of, punctuator_of}
use Rattle.c6x_asm_lines.specs.declared.lexeme.Lexeme.TheVariants.{Word as Worded}
use Rattle.c6x_asm_lines.specs.declared.operand.Operand.{Operand}
use Rattle.c6x_asm_lines.specs.declared.word.WordClass.{WordClass}
use Rattle.c6x_asm_lines.specs.declared.word.WordClass.TheVariants.{Dotted, Nop as NopClass, Other}
use Rattle.c6x_asm_lines.specs.Spelling.{no_label, no_bars, SpellsCondition, no_condition, not_zero, is_zero, no_operation, instruction, statement_spelled, SpellsLine, a_statement}
use Rattle.c6x_asm_lines.proofs.SpelledLines.{spelled_line}
use Rattle.c6x_asm_lines.specs.OperandNames.{mnemonic_name, mnemonic_of, unit_of}
use Rattle.c6x_asm_lines.specs.declared.data_path.DataPath.TheVariants.{Own, Value as ValuePath}
use Rattle.c6x_asm_lines.specs.declared.mnemonic.Mnemonic.{Mnemonic}
use Rattle.c6x_asm_lines.specs.declared.mnemonic.Mnemonic.TheVariants.{Two, Move, B as BranchTo, Bnop, Callp, AddKpc, Nop, Memory}
use Rattle.c6x_asm_lines.specs.declared.unit.Unit.{Unit as AsmUnit}
use Rattle.c6x_asm_instr.specs.Instructions.{instruction_of, is_nop, plain_made, unit_named}
use Rattle.c6x_dis.specs.Lines.{head_at, IsLineRead, line_with, name_place, shown_head, unit_at}
use Rattle.c6x_dis.specs.Pieces.{AreApart, is_word, lexemes_at, word_at}
use Rattle.c6x_dis.proofs.Lexed.{bytes_seam}
use Rattle.c6x_dis.proofs.Names.{mnemonic_named, nop_class, nop_named, tested_class, tested_token, unit_class, unit_token}
use Rattle.c6x_dis.proofs.ShownOperands.{AreShown, bytes_joined, lexemes_joined, operands_apart, operands_spelled}
use Rattle.c6x_dis.specs.Atoms.{Atom, word, space, bytes_of}
use Rattle.c6x_dis.specs.Shown.{condition_atoms, mnemonic_for, operands_atoms, operands_for, path_for, shown, shown_atoms, unit_atoms, unit_for, unit_word}
use Rattle.c6x_dis.specs.Reads.{IsReadBack, unit_read}

-- the line stands apart
condition_apart : (c : Cond) (atoms : List Atom) → AreApart atoms → AreApart (condition_atoms c ++ atoms)
condition_apart Always atoms apart = apart
condition_apart (If register false) atoms apart = (refl, refl, (tested_token register, refl, (refl, refl, (refl, refl, apart))))
condition_apart (If register true) atoms apart = (refl, refl, (refl, refl, (tested_token register, refl, (refl, refl, (refl, refl, apart)))))

unit_apart : (unit : Option AsmUnit) (atoms : List Atom) → AreApart atoms → AreApart (unit_atoms unit ++ atoms)
unit_apart None atoms apart = apart
unit_apart (Some unit) atoms apart = (unit_token unit, refl, (refl, refl, apart))

line_apart : (i : Instr) → AreShown (operands_for i.op) → AreApart (shown_atoms i)
unfolding shown_atoms
line_apart i operands =
    condition_apart i.condition (word (mnemonic_name (mnemonic_for i.op)) ∷ space ∷ unit_atoms (unit_for i.op) ++ operands_atoms (operands_for i.op))
    ((mnemonic_named (mnemonic_for i.op)).token, refl, (refl, refl, unit_apart (unit_for i.op) (operands_atoms (operands_for i.op)) (operands_apart (operands_for i.op) operands)))

-- the line spells its statement
condition_spelled : (c : Cond) (at : ℕ) → SpellsCondition c (lexemes_at at (condition_atoms c))
unfolding punctuator_of
condition_spelled Always at = no_condition
condition_spelled (If register false) at = not_zero (tested_class register)
condition_spelled (If register true) at = is_zero (tested_class register)

is_not : (class wanted : WordClass) → class ≡ Other → wanted ≢ Other → class ≢ wanted
is_not class wanted is other same = other (sym same ∙ is)

dotted_differs : Dotted ≢ Other
dotted_differs e = cc

nop_differs : NopClass ≢ Other
nop_differs e = cc

-- the lexemes of the head and the operands, behind those of the condition
unit_line : (c : Cond) (m : Mnemonic) (unit : AsmUnit) (operands : List Operand) (at : ℕ) → is_nop m ≡ false → AreShown operands → line_of (lexemes_at at (condition_atoms c ++ (word (mnemonic_name m) ∷ space ∷ unit_atoms (Some unit) ++ operands_atoms operands))) ≡ Some (line_with (head_at at c m (Some unit)) operands)
unit_line c m unit operands at some shown =
    let other = (mnemonic_named m).other some in
    let name = word_at (name_place at c) (mnemonic_name m) in
    let unit_word_at = word_at (name_place at c + length (mnemonic_name m) + 1) (unit_word unit) in
    let last = name_place at c + length (mnemonic_name m) + 1 + length (unit_word unit) + 1 in
    rw (lexemes_joined at (condition_atoms c) (word (mnemonic_name m) ∷ space ∷ unit_atoms (Some unit) ++ operands_atoms operands))
    (spelled_line _ _
    (subst (λ xs. SpellsLine (line_with (head_at at c m (Some unit)) operands) xs) (append_assoc (lexemes_at at (condition_atoms c)) (Worded name ∷ Worded unit_word_at ∷ []) (lexemes_at last (operands_atoms operands)))
    (a_statement no_label (statement_spelled
    (instruction no_bars (condition_spelled c at) (is_not (class_of (mnemonic_name m)) Dotted other dotted_differs) (is_not (class_of (mnemonic_name m)) NopClass other nop_differs) (unit_class unit))
    (operands_spelled operands last shown)))))

nop_line : (c : Cond) (operands : List Operand) (at : ℕ) → AreShown operands → line_of (lexemes_at at (condition_atoms c ++ (word (mnemonic_name Nop) ∷ space ∷ unit_atoms None ++ operands_atoms operands))) ≡ Some (line_with (head_at at c Nop None) operands)
nop_line c operands at shown =
    let name = word_at (name_place at c) (mnemonic_name Nop) in
    let last = name_place at c + length (mnemonic_name Nop) + 1 in
    rw (lexemes_joined at (condition_atoms c) (word (mnemonic_name Nop) ∷ space ∷ unit_atoms None ++ operands_atoms operands))
    (spelled_line _ _
    (subst (λ xs. SpellsLine (line_with (head_at at c Nop None) operands) xs) (append_assoc (lexemes_at at (condition_atoms c)) (Worded name ∷ []) (lexemes_at last (operands_atoms operands)))
    (a_statement no_label (statement_spelled (no_operation no_bars (condition_spelled c at) nop_class) (operands_spelled operands last shown)))))

op_line : (c : Cond) (op : Op) (at : ℕ) → AreShown (operands_for op) → line_of (lexemes_at at (condition_atoms c ++ (word (mnemonic_name (mnemonic_for op)) ∷ space ∷ unit_atoms (unit_for op) ++ operands_atoms (operands_for op)))) ≡ Some (line_with (head_at at c (mnemonic_for op) (unit_for op)) (operands_for op))
op_line c (TwoOp unit arith side cross first second dst) at shown =
    unit_line c (Two arith) (record { kind = unit; side = side; path = path_for cross }) (operands_for (TwoOp unit arith side cross first second dst)) at refl shown
op_line c (MoveOp kind side bits dst) at shown =
    unit_line c (Move kind) (record { kind = S; side = side; path = Own }) (operands_for (MoveOp kind side bits dst)) at refl shown
op_line c (BranchOp side field) at shown =
    unit_line c BranchTo (record { kind = S; side = side; path = Own }) (operands_for (BranchOp side field)) at refl shown
op_line c (CallpOp side field) at shown =
    unit_line c Callp (record { kind = S; side = side; path = Own }) (operands_for (CallpOp side field)) at refl shown
op_line c (BranchNopOp side field wait) at shown =
    unit_line c Bnop (record { kind = S; side = side; path = Own }) (operands_for (BranchNopOp side field wait)) at refl shown
op_line c (BranchRegOp cross source) at shown =
    unit_line c BranchTo (record { kind = S; side = B; path = path_for cross }) (operands_for (BranchRegOp cross source)) at refl shown
op_line c (BranchRegNopOp cross source wait) at shown =
    unit_line c Bnop (record { kind = S; side = B; path = path_for cross }) (operands_for (BranchRegNopOp cross source wait)) at refl shown
op_line c (AddKpcOp field wait dst) at shown =
    unit_line c AddKpc (record { kind = S; side = B; path = Own }) (operands_for (AddKpcOp field wait dst)) at refl shown
op_line c (NopOp cycles) at shown = nop_line c (operands_for (NopOp cycles)) at shown
op_line c (ShortOp access unit_side value_side mode offset base register) at shown =
    unit_line c (Memory access) (record { kind = D; side = unit_side; path = ValuePath value_side }) (operands_for (ShortOp access unit_side value_side mode offset base register)) at refl shown
op_line c (LongOp access value_side base15 offset register) at shown =
    unit_line c (Memory access) (record { kind = D; side = B; path = ValuePath value_side }) (operands_for (LongOp access value_side base15 offset register)) at refl shown

line_read : (i : Instr) (at : ℕ) → AreShown (operands_for i.op) → line_of (lexemes_at at (shown_atoms i)) ≡ Some (line_with (shown_head at i) (operands_for i.op))
unfolding shown_atoms
line_read i at shown = op_line i.condition i.op at shown

-- the words of the line are those of the text
parts : (c : Cond) (m : Mnemonic) (atoms : List Atom) → bytes_of (condition_atoms c ++ (word (mnemonic_name m) ∷ atoms)) ≡ bytes_of (condition_atoms c) ++ (mnemonic_name m ++ bytes_of atoms)
parts c m atoms = bytes_joined (condition_atoms c) (word (mnemonic_name m) ∷ atoms)

name_bytes : (front : List ℕ) (c : Cond) (m : Mnemonic) (atoms : List Atom) → bytes_at (front ++ bytes_of (condition_atoms c ++ (word (mnemonic_name m) ∷ atoms))) (name_place (length front) c) (length (mnemonic_name m)) ≡ mnemonic_name m
name_bytes front c m atoms =
    bytes_seam _ (front ++ bytes_of (condition_atoms c)) (mnemonic_name m) (bytes_of atoms) (name_place (length front) c)
    (ap (λ bs. front ++ bs) (parts c m atoms) ∙ sym (append_assoc front (bytes_of (condition_atoms c)) (mnemonic_name m ++ bytes_of atoms)))
    (sym (length-append front (bytes_of (condition_atoms c))))

-- a space parts the mnemonic from the unit
spaced : (before name unit rest : List ℕ) → before ++ (name ++ 32 ∷ (unit ++ rest)) ≡ (before ++ (name ++ 32 ∷ [])) ++ (unit ++ rest)
spaced before name unit rest =
    let behind : name ++ 32 ∷ (unit ++ rest) ≡ (name ++ 32 ∷ []) ++ (unit ++ rest) = sym (append_assoc name (32 ∷ []) (unit ++ rest)) in
    rw behind (sym (append_assoc before (name ++ 32 ∷ []) (unit ++ rest)))

unit_bytes : (front : List ℕ) (c : Cond) (m : Mnemonic) (unit : AsmUnit) (atoms : List Atom) → bytes_at (front ++ bytes_of (condition_atoms c ++ (word (mnemonic_name m) ∷ space ∷ word (unit_word unit) ∷ atoms))) (name_place (length front) c + length (mnemonic_name m) + 1) (length (unit_word unit)) ≡ unit_word unit
unit_bytes front c m unit atoms =
    let before = front ++ bytes_of (condition_atoms c) in
    let name = mnemonic_name m in
    let rest = unit_word unit ++ bytes_of atoms in
    let all : front ++ bytes_of (condition_atoms c ++ (word name ∷ space ∷ word (unit_word unit) ∷ atoms)) ≡ front ++ (bytes_of (condition_atoms c) ++ (name ++ 32 ∷ rest)) = ap (λ bs. front ++ bs) (parts c m (space ∷ word (unit_word unit) ∷ atoms)) in
    let parted : front ++ (bytes_of (condition_atoms c) ++ (name ++ 32 ∷ rest)) ≡ before ++ (name ++ 32 ∷ rest) = sym (append_assoc front (bytes_of (condition_atoms c)) (name ++ 32 ∷ rest)) in
    bytes_seam _ (before ++ (name ++ 32 ∷ [])) (unit_word unit) (bytes_of atoms) (name_place (length front) c + length name + 1)
    (all ∙ parted ∙ spaced before name (unit_word unit) (bytes_of atoms))
    (omega (arith, length-append before (name ++ 32 ∷ []), length-append front (bytes_of (condition_atoms c)), length-append name (32 ∷ [])))

unit_again : (front : List ℕ) (c : Cond) (m : Mnemonic) (unit : Option AsmUnit) (atoms : List Atom) → unit_named (front ++ bytes_of (condition_atoms c ++ (word (mnemonic_name m) ∷ space ∷ unit_atoms unit ++ atoms))) (unit_at (name_place (length front) c + length (mnemonic_name m) + 1) unit) ≡ unit_read unit
unit_again front c m None atoms = refl
unit_again front c m (Some unit) atoms = ap unit_of (unit_bytes front c m unit (space ∷ atoms))

line_means : (i : Instr) (front : List ℕ) → IsReadBack i → instruction_of (front ++ shown i) (shown_head (length front) i) (operands_for i.op) ≡ Ok (plain_made i.op)
unfolding shown_atoms
line_means i front back =
    back.operands (front ++ shown i) (shown_head (length front) i) refl
    (ap mnemonic_of (name_bytes front i.condition (mnemonic_for i.op) (space ∷ unit_atoms (unit_for i.op) ++ operands_atoms (operands_for i.op))) ∙ back.mnemonic)
    (unit_again front i.condition (mnemonic_for i.op) (unit_for i.op) (operands_atoms (operands_for i.op)) ∙ back.unit)

-- a line has bytes, and its mnemonic is no directive
some_name : (bs : List ℕ) → is_word bs ≡ true → 1 ≤ length bs
some_name [] is = absurd (true≢false (sym is))
some_name (b ∷ bs) is = omega arith

pub some_bytes : (i : Instr) → 1 ≤ length (shown i)
unfolding shown_atoms
some_bytes i =
    let atoms = space ∷ unit_atoms (unit_for i.op) ++ operands_atoms (operands_for i.op) in
    let name = mnemonic_name (mnemonic_for i.op) in
    rw (parts i.condition (mnemonic_for i.op) atoms)
    (omega (arith, some_name name (mnemonic_named (mnemonic_for i.op)).token, length-append (bytes_of (condition_atoms i.condition)) (name ++ bytes_of atoms), length-append name (bytes_of atoms)))

pub plain_name : (m : Mnemonic) → is_dotted (class_of (mnemonic_name m)) ≡ false
plain_name m = either (is_nop m) refl
  where
    either : (b : Bool) → is_nop m ≡ b → is_dotted (class_of (mnemonic_name m)) ≡ false
    either true is = rw (nop_named m is, nop_class) refl
    either false is = rw ((mnemonic_named m).other is) refl

-- what is left to know of the instruction: its operands, and what a statement with them means
pub line_is_read : (i : Instr) → AreShown (operands_for i.op) → IsReadBack i → IsLineRead i
line_is_read i operands back = record {
  apart = line_apart i operands;
  read = λ at. line_read i at operands;
  means = λ front. line_means i front back;
}
