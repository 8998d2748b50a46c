-- The operands of a shown line are read as the operation that they are shown for.
use Rattle.std.proofs.Common.{◌≡◌, ℕ, ◌+◌, ◌*◌, ◌/◌, ◌%◌, ◌<◌, ◌≤◌, Bool, true, false, ◌&&◌, not, IsTrue, List, length, Some, None, Result, Ok, refl, sym, ◌∙◌, ap, arith, if◌then◌else◌}
use Rattle.std.proofs.lemmas.Bool.{le-leb, and_right}
use Rattle.c6x_base.specs.declared.side.Side.{Side}
use Rattle.c6x_base.specs.declared.side.Side.TheVariants.{A, B}
use Rattle.c6x_encoding.specs.declared.access.Access.{Access}
use Rattle.c6x_encoding.specs.declared.access.Access.TheVariants.{Ldhu, Ldbu, Ldb, Stb, Ldh, Sth, Ldw, Stw}
use Rattle.c6x_encoding.specs.declared.arith.Arith.{Arith}
use Rattle.c6x_encoding.specs.declared.cond.Cond.{Cond}
use Rattle.c6x_encoding.specs.declared.cond.Cond.TheVariants.{Always}
use Rattle.c6x_encoding.specs.declared.first.First.{First}
use Rattle.c6x_encoding.specs.declared.first.First.TheVariants.{Register as FirstRegister, Constant as FirstConstant}
use Rattle.c6x_encoding.specs.declared.move_kind.MoveKind.{MoveKind}
use Rattle.c6x_encoding.specs.declared.move_kind.MoveKind.TheVariants.{Mvk, Mvkh, Addk}
use Rattle.c6x_encoding.specs.declared.op.Op.{Op}
use Rattle.c6x_encoding.specs.declared.op.Op.TheVariants.{Two as TwoOp, Move as MoveOp, Branch as BranchOp, Callp as CallpOp, BranchNop as BranchNopOp, BranchReg as BranchRegOp, BranchRegNop as BranchRegNopOp, AddKpc as AddKpcOp, Nop as NopOp, Short as ShortOp, Long as LongOp}
use Rattle.c6x_encoding.specs.declared.unit_kind.UnitKind.{UnitKind}
use Rattle.c6x_encoding.specs.declared.unit_kind.UnitKind.TheVariants.{S, D}
use Rattle.c6x_encoding.specs.Bounds.{FitsOp}
use Rattle.c6x_encoding.specs.Spelling.{Mode, first_bits, is_constant, is_part, IsValid}
use Rattle.c6x_encoding.specs.Values.{size_of, takes_register}
use Rattle.c6x_reloc.specs.declared.reloc_kind.RelocKind.{RelocKind}
use Rattle.c6x_asm_lines.specs.Bytes.{bytes_at}
use Rattle.c6x_asm_lines.specs.declared.number.Number.{Number}
use Rattle.c6x_asm_lines.specs.declared.operand.Operand.{Operand}
use Rattle.c6x_asm_lines.specs.declared.rule.AsmRule.{AsmRule}
use Rattle.c6x_asm_lines.specs.declared.statement_head.StatementHead.{StatementHead}
use Rattle.c6x_asm_lines.specs.Addresses.{place_of, long_range, mode_number}
use Rattle.c6x_asm_lines.specs.OperandNames.{mnemonic_of}
use Rattle.c6x_asm_lines.specs.Numbers.{number_in, range_of}
use Rattle.c6x_asm_lines.specs.OperandValues.{same_side, register_operand, constant_operand, field_operand, value_field}
use Rattle.c6x_asm_lines.specs.declared.data_path.DataPath.TheVariants.{Own, Value as ValuePath}
use Rattle.c6x_asm_lines.specs.declared.mnemonic.Mnemonic.{Mnemonic}
use Rattle.c6x_asm_lines.specs.declared.mnemonic.Mnemonic.TheVariants.{Two, Move, B as BranchTo, Bnop, Callp, AddKpc, Nop, Memory}
use Rattle.c6x_asm_lines.specs.declared.place.Place.TheVariants.{Short, Long}
use Rattle.c6x_asm_lines.specs.declared.range.Range.{Range}
use Rattle.c6x_asm_lines.specs.declared.relocatable.RelocatableOp.{RelocatableOp}
use Rattle.c6x_asm_lines.specs.declared.unit.Unit.{Unit}
use Rattle.c6x_asm_instr.specs.Instructions.{first_of, has_count, has_form, has_unit, instruction_of, is_conditional, is_nop, is_store, is_swapped, made_by, may_be_conditional, memory_with, move_field, other_side, plain_made, two_with, unit_named}
use Rattle.c6x_dis.specs.Shown.{access_operands, branch_operands, constant, first_operand, long_address, memory_operands, mnemonic_for, mode_of_number, natural, operands_for, path_for, register_at, short_address, unit_for}
use Rattle.c6x_dis.proofs.Numbers.{natural_again, signed_again}
use Rattle.c6x_dis.proofs.Valid.{callp_always, mode_again, mode_valid, move_fits, nop_always, register_form, two_valid}

same_side_self : (side : Side) → same_side side side ≡ true
same_side_self A = refl
same_side_self B = refl

register_again : (side : Side) (n : ℕ) → register_operand side (register_at side n) ≡ Ok n
unfolding register_operand
register_again side n = rw (same_side_self side) refl

constant_again : (range : Range) (n : Number) (bits : ℕ) → number_in range n ≡ Ok bits → constant_operand range (constant n) ≡ Ok bits
unfolding constant_operand
constant_again range n bits is = is

field_again : (text : List ℕ) (kind : RelocKind) (range : Range) (n : Number) (bits : ℕ) → number_in range n ≡ Ok bits → field_operand text kind range (constant n) ≡ Ok (record { bits = bits; relocation = None })
unfolding field_operand value_field
field_again text kind range n bits is = rw is refl

first_again : (unit : UnitKind) (operation : Arith) (side : Side) (first : First) → has_form unit operation (is_constant first) ≡ true → first_bits first < 32 → first_of unit operation side (first_operand unit operation side first) ≡ Ok first
unfolding first_of
first_again unit operation side (FirstRegister n) has fits = rw (same_side_self side) refl
first_again unit operation side (FirstConstant bits) has fits = either (is_swapped unit operation) refl
  where
    either : (b : Bool) → is_swapped unit operation ≡ b → first_of unit operation side (first_operand unit operation side (FirstConstant bits)) ≡ Ok (FirstConstant bits)
    either true is = rw (has, is, natural_again 0 31 32 bits (omega arith) (omega (arith, fits))) refl
    either false is = rw (has, is, signed_again 16 bits fits) refl

two_again : (text : List ℕ) (unit : UnitKind) (arith : Arith) (side : Side) (cross : Bool) (first : First) (second dst : ℕ) → has_form unit arith (is_constant first) ≡ true → first_bits first < 32 → made_by text (Two arith) (record { kind = unit; side = side; path = path_for cross }) (operands_for (TwoOp unit arith side cross first second dst)) ≡ Ok (plain_made (TwoOp unit arith side cross first second dst))
unfolding made_by operands_for two_with
two_again text unit arith side cross first second dst has fits = either cross (is_swapped unit arith) refl
  where
    either : (x b : Bool) → is_swapped unit arith ≡ b → made_by text (Two arith) (record { kind = unit; side = side; path = path_for x }) (operands_for (TwoOp unit arith side x first second dst)) ≡ Ok (plain_made (TwoOp unit arith side x first second dst))
    either true true is = rw is (rw (is, first_again unit arith side first has fits, register_again (other_side side) second, register_again side dst) refl)
    either true false is = rw is (rw (is, first_again unit arith side first has fits, register_again (other_side side) second, register_again side dst) refl)
    either false true is = rw is (rw (is, first_again unit arith side first has fits, register_again side second, register_again side dst) refl)
    either false false is = rw is (rw (is, first_again unit arith side first has fits, register_again side second, register_again side dst) refl)

move_again : (text : List ℕ) (kind : MoveKind) (side : Side) (bits dst : ℕ) → bits < 65536 → made_by text (Move kind) (record { kind = S; side = side; path = Own }) (operands_for (MoveOp kind side bits dst)) ≡ Ok (plain_made (MoveOp kind side bits dst))
unfolding made_by operands_for move_field constant_operand field_operand value_field
move_again text Mvk side bits dst fits = rw (signed_again 32768 bits fits, register_again side dst) refl
move_again text Mvkh side bits dst fits = rw (natural_again 0 65535 65536 bits (omega arith) (omega (arith, fits)), register_again side dst) refl
move_again text Addk side bits dst fits = rw (signed_again 32768 bits fits, register_again side dst) refl

branch_again : (text : List ℕ) (side : Side) (field : ℕ) → field < 2097152 → made_by text BranchTo (record { kind = S; side = side; path = Own }) (branch_operands (BranchOp side field)) ≡ Ok (plain_made (BranchOp side field))
unfolding made_by branch_operands field_operand value_field
branch_again text side field fits = rw (signed_again 1048576 field fits) refl

callp_again : (text : List ℕ) (side : Side) (field : ℕ) → field < 2097152 → made_by text Callp (record { kind = S; side = side; path = Own }) (branch_operands (CallpOp side field)) ≡ Ok (plain_made (CallpOp side field))
unfolding made_by branch_operands field_operand value_field
callp_again text side field fits = rw (signed_again 1048576 field fits, register_again side 3) refl

wait_again : (wait : ℕ) → wait < 8 → constant_operand (range_of 0 0 7 8) (constant (natural wait)) ≡ Ok wait
wait_again wait fits = constant_again (range_of 0 0 7 8) (natural wait) wait (natural_again 0 7 8 wait (omega arith) (omega (arith, fits)))

branch_nop_again : (text : List ℕ) (side : Side) (field wait : ℕ) → field < 4096 → wait < 8 → made_by text Bnop (record { kind = S; side = side; path = Own }) (branch_operands (BranchNopOp side field wait)) ≡ Ok (plain_made (BranchNopOp side field wait))
unfolding made_by branch_operands field_operand value_field
branch_nop_again text side field wait fits few = rw (signed_again 2048 field fits, wait_again wait few) refl

branch_reg_again : (text : List ℕ) (cross : Bool) (source : ℕ) → made_by text BranchTo (record { kind = S; side = B; path = path_for cross }) (branch_operands (BranchRegOp cross source)) ≡ Ok (plain_made (BranchRegOp cross source))
unfolding made_by branch_operands register_operand
branch_reg_again text true source = refl
branch_reg_again text false source = refl

branch_reg_nop_again : (text : List ℕ) (cross : Bool) (source wait : ℕ) → wait < 8 → made_by text Bnop (record { kind = S; side = B; path = path_for cross }) (branch_operands (BranchRegNopOp cross source wait)) ≡ Ok (plain_made (BranchRegNopOp cross source wait))
unfolding made_by branch_operands register_operand
branch_reg_nop_again text true source wait few = rw (wait_again wait few) refl
branch_reg_nop_again text false source wait few = rw (wait_again wait few) refl

add_kpc_again : (text : List ℕ) (unit : Unit) (field wait dst : ℕ) → field < 128 → wait < 8 → made_by text AddKpc unit (branch_operands (AddKpcOp field wait dst)) ≡ Ok (plain_made (AddKpcOp field wait dst))
unfolding made_by branch_operands field_operand value_field
add_kpc_again text unit field wait dst fits few = rw (signed_again 64 field fits, register_again B dst, wait_again wait few) refl

short_again : (text : List ℕ) (size : ℕ) (side : Side) (mode offset base : ℕ) → mode < 16 → IsTrue (is_part Mode mode) → offset < 32 → place_of text size side (short_address side mode offset base) ≡ Ok (Short mode offset base)
unfolding place_of
short_again text size side mode offset base fits is few = either (takes_register mode) refl
  where
    either : (b : Bool) → takes_register mode ≡ b → place_of text size side (short_address side mode offset base) ≡ Ok (Short mode offset base)
    either true takes =
        let kept : mode_number (mode_of_number mode) + 4 ≡ mode = ap (λ b. if b then mode_number (mode_of_number mode) + 4 else mode_number (mode_of_number mode)) (sym takes) ∙ mode_again mode fits is in
        rw (takes, same_side_self side) (ap (λ n. Ok (Short n offset base)) kept)
    either false takes =
        let kept : mode_number (mode_of_number mode) ≡ mode = ap (λ b. if b then mode_number (mode_of_number mode) + 4 else mode_number (mode_of_number mode)) (sym takes) ∙ mode_again mode fits is in
        rw (takes, same_side_self side, natural_again 0 31 32 offset (omega arith) (omega (arith, few))) (ap (λ n. Ok (Short n offset base)) kept)

long_number : (size offset : ℕ) → size * offset ≤ 32767 * size → size * offset % size ≡ 0 → number_in (long_range size) (natural (size * offset)) ≡ Ok (size * offset)
unfolding number_in
long_number size offset small whole = rw (le-leb 0 (size * offset) (omega arith), le-leb (size * offset) (32767 * size) small, whole) refl

long_again : (text : List ℕ) (access : Access) (size : ℕ) (base15 : Bool) (offset : ℕ) → size_of access ≡ size → number_in (long_range size) (natural (size * offset)) ≡ Ok (size * offset) → size * offset / size ≡ offset → place_of text size B (long_address access base15 offset) ≡ Ok (Long base15 offset None)
unfolding place_of value_field
long_again text access size true offset is number whole = rw (is, number) (ap (λ n. Ok (Long true n None)) whole)
long_again text access size false offset is number whole = rw (is, number) (ap (λ n. Ok (Long false n None)) whole)

one_byte : (text : List ℕ) (access : Access) (base15 : Bool) (offset : ℕ) → offset < 32768 → size_of access ≡ 1 → place_of text 1 B (long_address access base15 offset) ≡ Ok (Long base15 offset None)
one_byte text access base15 offset fits is =
    long_again text access 1 base15 offset is (long_number 1 offset (omega (arith, fits)) (omega arith)) (omega arith)

two_bytes : (text : List ℕ) (access : Access) (base15 : Bool) (offset : ℕ) → offset < 32768 → size_of access ≡ 2 → place_of text 2 B (long_address access base15 offset) ≡ Ok (Long base15 offset None)
two_bytes text access base15 offset fits is =
    long_again text access 2 base15 offset is (long_number 2 offset (omega (arith, fits)) (omega arith)) (omega arith)

four_bytes : (text : List ℕ) (access : Access) (base15 : Bool) (offset : ℕ) → offset < 32768 → size_of access ≡ 4 → place_of text 4 B (long_address access base15 offset) ≡ Ok (Long base15 offset None)
four_bytes text access base15 offset fits is =
    long_again text access 4 base15 offset is (long_number 4 offset (omega (arith, fits)) (omega arith)) (omega arith)

far_again : (text : List ℕ) (access : Access) (base15 : Bool) (offset : ℕ) → offset < 32768 → place_of text (size_of access) B (long_address access base15 offset) ≡ Ok (Long base15 offset None)
far_again text Ldhu base15 offset fits = two_bytes text Ldhu base15 offset fits refl
far_again text Ldbu base15 offset fits = one_byte text Ldbu base15 offset fits refl
far_again text Ldb base15 offset fits = one_byte text Ldb base15 offset fits refl
far_again text Stb base15 offset fits = one_byte text Stb base15 offset fits refl
far_again text Ldh base15 offset fits = two_bytes text Ldh base15 offset fits refl
far_again text Sth base15 offset fits = two_bytes text Sth base15 offset fits refl
far_again text Ldw base15 offset fits = four_bytes text Ldw base15 offset fits refl
far_again text Stw base15 offset fits = four_bytes text Stw base15 offset fits refl

-- a load or a store by the place of its address
memory_again : (text : List ℕ) (access : Access) (unit_side value_side : Side) (register : ℕ) (address : Operand) (made : Result RelocatableOp AsmRule) → memory_with text access unit_side value_side address (register_at value_side register) ≡ made → made_by text (Memory access) (record { kind = D; side = unit_side; path = ValuePath value_side }) (memory_operands access address (register_at value_side register)) ≡ made
unfolding made_by
memory_again text access unit_side value_side register address made is = either (is_store access) refl
  where
    either : (b : Bool) → is_store access ≡ b → made_by text (Memory access) (record { kind = D; side = unit_side; path = ValuePath value_side }) (memory_operands access address (register_at value_side register)) ≡ made
    either true store = rw store (rw store is)
    either false load = rw load (rw load is)

short_made : (text : List ℕ) (access : Access) (unit_side value_side : Side) (mode offset base register : ℕ) → mode < 16 → IsTrue (is_part Mode mode) → offset < 32 → memory_with text access unit_side value_side (short_address unit_side mode offset base) (register_at value_side register) ≡ Ok (plain_made (ShortOp access unit_side value_side mode offset base register))
unfolding memory_with
short_made text access unit_side value_side mode offset base register fits is few = rw (short_again text (size_of access) unit_side mode offset base fits is few, register_again value_side register) refl

long_made : (text : List ℕ) (access : Access) (value_side : Side) (base15 : Bool) (offset register : ℕ) → offset < 32768 → memory_with text access B value_side (long_address access base15 offset) (register_at value_side register) ≡ Ok (plain_made (LongOp access value_side base15 offset register))
unfolding memory_with
long_made text access value_side base15 offset register fits = rw (far_again text access base15 offset fits, register_again value_side register) refl

nop_again : (text : List ℕ) (head : StatementHead) (cycles : ℕ) → 1 ≤ cycles → cycles ≤ 9 → Always ≡ head.condition → mnemonic_of (bytes_at text head.word.at head.word.len) ≡ Some Nop → instruction_of text head (operands_for (NopOp cycles)) ≡ Ok (plain_made (NopOp cycles))
unfolding instruction_of operands_for constant_operand
nop_again text head cycles some few free word = rw (word, sym free, natural_again 1 9 16 cycles some few) refl

with_unit_again : (text : List ℕ) (head : StatementHead) (m : Mnemonic) (unit : Unit) (operands : List Operand) (made : Result RelocatableOp AsmRule) → mnemonic_of (bytes_at text head.word.at head.word.len) ≡ Some m → unit_named text head.unit ≡ Some unit → has_count m (length operands) ≡ true → (is_conditional head.condition && not (may_be_conditional m)) ≡ false → is_nop m ≡ false → has_unit m unit ≡ true → made_by text m unit operands ≡ made → instruction_of text head operands ≡ made
unfolding instruction_of
with_unit_again text head m unit operands made word named count free some has is = rw (word, count, free, some, named, has) is

-- an instruction that may be conditional
free_again : (text : List ℕ) (head : StatementHead) (m : Mnemonic) (unit : Unit) (operands : List Operand) (made : Result RelocatableOp AsmRule) → may_be_conditional m ≡ true → mnemonic_of (bytes_at text head.word.at head.word.len) ≡ Some m → unit_named text head.unit ≡ Some unit → has_count m (length operands) ≡ true → is_nop m ≡ false → has_unit m unit ≡ true → made_by text m unit operands ≡ made → instruction_of text head operands ≡ made
free_again text head m unit operands made may word named count some has is =
    with_unit_again text head m unit operands made word named count (and_right (is_conditional head.condition) (not (may_be_conditional m)) (ap not may)) some has is

two_count : (unit : UnitKind) (arith : Arith) (side : Side) (cross : Bool) (first : First) (second dst : ℕ) → has_count (Two arith) (length (operands_for (TwoOp unit arith side cross first second dst))) ≡ true
unfolding operands_for
two_count unit arith side cross first second dst = either (is_swapped unit arith) refl
  where
    either : (b : Bool) → is_swapped unit arith ≡ b → has_count (Two arith) (length (operands_for (TwoOp unit arith side cross first second dst))) ≡ true
    either true is = rw is refl
    either false is = rw is refl

memory_count : (access : Access) (address register : Operand) → has_count (Memory access) (length (memory_operands access address register)) ≡ true
memory_count access address register = either (is_store access) refl
  where
    either : (b : Bool) → is_store access ≡ b → has_count (Memory access) (length (memory_operands access address register)) ≡ true
    either true is = rw is refl
    either false is = rw is refl

two_unit : (unit : UnitKind) (arith : Arith) (side : Side) (cross : Bool) → has_form unit arith false ≡ true → has_unit (Two arith) (record { kind = unit; side = side; path = path_for cross }) ≡ true
two_unit unit arith side true has = rw has refl
two_unit unit arith side false has = rw has refl

branch_unit : (cross : Bool) → has_unit BranchTo (record { kind = S; side = B; path = path_for cross }) ≡ true
branch_unit true = refl
branch_unit false = refl

pub operands_read : (text : List ℕ) (head : StatementHead) (condition : Cond) (op : Op) (chained : Bool) → IsValid (record { condition = condition; op = op; chained = chained }) → FitsOp op → head.condition ≡ condition → mnemonic_of (bytes_at text head.word.at head.word.len) ≡ Some (mnemonic_for op) → unit_named text head.unit ≡ unit_for op → instruction_of text head (operands_for op) ≡ Ok (plain_made op)
unfolding operands_for branch_operands access_operands
operands_read text head c (TwoOp unit arith side cross first second dst) chained valid fits same word named =
    let has = two_valid c unit arith side cross first second dst chained valid in
    free_again text head (Two arith) _ _ _ refl word named (two_count unit arith side cross first second dst) refl (two_unit unit arith side cross (register_form unit arith (is_constant first) has)) (two_again text unit arith side cross first second dst has fits.0)
operands_read text head c (MoveOp kind side bits dst) chained valid fits same word named =
    free_again text head (Move kind) _ _ _ refl word named refl refl refl (move_again text kind side bits dst (move_fits c kind side bits dst chained valid))
operands_read text head c (BranchOp side field) chained valid fits same word named =
    free_again text head BranchTo _ _ _ refl word named refl refl refl (branch_again text side field fits)
operands_read text head c (CallpOp side field) chained valid fits same word named =
    let free : (is_conditional head.condition && not (may_be_conditional Callp)) ≡ false = ap (λ x. is_conditional x && true) (same ∙ sym (callp_always c side field chained valid)) in
    with_unit_again text head Callp _ _ _ word named refl free refl refl (callp_again text side field fits)
operands_read text head c (BranchNopOp side field wait) chained valid fits same word named =
    free_again text head Bnop _ _ _ refl word named refl refl refl (branch_nop_again text side field wait fits.0 fits.1)
operands_read text head c (BranchRegOp cross source) chained valid fits same word named =
    free_again text head BranchTo _ _ _ refl word named refl refl (branch_unit cross) (branch_reg_again text cross source)
operands_read text head c (BranchRegNopOp cross source wait) chained valid fits same word named =
    free_again text head Bnop _ _ _ refl word named refl refl (branch_unit cross) (branch_reg_nop_again text cross source wait fits.1)
operands_read text head c (AddKpcOp field wait dst) chained valid fits same word named =
    free_again text head AddKpc _ _ _ refl word named refl refl refl (add_kpc_again text _ field wait dst fits.0 fits.1)
operands_read text head c (NopOp cycles) chained valid fits same word named =
    nop_again text head cycles fits.0 fits.1 (nop_always c cycles chained valid ∙ sym same) word
operands_read text head c (ShortOp access unit_side value_side mode offset base register) chained valid fits same word named =
    let allowed = mode_valid c access unit_side value_side mode offset base register chained valid in
    free_again text head (Memory access) _ _ _ refl word named (memory_count access _ _) refl refl
    (memory_again text access unit_side value_side register (short_address unit_side mode offset base) _ (short_made text access unit_side value_side mode offset base register fits.0 allowed fits.1))
operands_read text head c (LongOp access value_side base15 offset register) chained valid fits same word named =
    free_again text head (Memory access) _ _ _ refl word named (memory_count access _ _) refl refl
    (memory_again text access B value_side register (long_address access base15 offset) _ (long_made text access value_side base15 offset register fits.0))
