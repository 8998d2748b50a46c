-- The words of the instructions.
use Rattle.std.proofs.Common.{◌≡◌, false, Some, refl}
use Rattle.c6x_base.specs.declared.side.Side.TheVariants.{A, B}
use Rattle.c6x_encoding.specs.declared.access.Access.TheVariants.{Ldw, Stw}
use Rattle.c6x_encoding.specs.declared.arith.Arith.TheVariants.{Add}
use Rattle.c6x_encoding.specs.declared.cond.Cond.TheVariants.{Always}
use Rattle.c6x_encoding.specs.declared.first.First.TheVariants.{Register as FirstRegister}
use Rattle.c6x_encoding.specs.declared.op.Op.TheVariants.{Two as TwoOp, Callp as CallpOp, BranchRegNop as BranchRegNopOp, Nop as NopOp, Short as ShortOp, Long as LongOp}
use Rattle.c6x_encoding.specs.declared.unit_kind.UnitKind.TheVariants.{L}
use Rattle.c6x_encoding.specs.Encoded.{encoded, joined_fields, l_code}
use Rattle.c6x_asm.specs.Instructions.{word_of}
use Rattle.c6x_gen.specs.Words.{CALL, PUSH_B3, POP_B3, PUSH_B14, POP_B14, WAIT, GO_BACK, LOAD_TABLE, LOAD_COUNT, ADD_COUNT, STORE_COUNT}

pub call_word : word_of Always (CallpOp B 0) ≡ Some CALL
unfolding word_of encoded joined_fields
call_word = refl

pub push_b3_word : word_of Always (ShortOp Stw B B 10 2 15 3) ≡ Some PUSH_B3
unfolding word_of encoded joined_fields
push_b3_word = refl

pub pop_b3_word : word_of Always (ShortOp Ldw B B 9 2 15 3) ≡ Some POP_B3
unfolding word_of encoded joined_fields
pop_b3_word = refl

pub push_b14_word : word_of Always (ShortOp Stw B B 10 2 15 14) ≡ Some PUSH_B14
unfolding word_of encoded joined_fields
push_b14_word = refl

pub pop_b14_word : word_of Always (ShortOp Ldw B B 9 2 15 14) ≡ Some POP_B14
unfolding word_of encoded joined_fields
pop_b14_word = refl

pub wait_word : word_of Always (NopOp 4) ≡ Some WAIT
unfolding word_of encoded joined_fields
wait_word = refl

pub go_back_word : word_of Always (BranchRegNopOp false 3 5) ≡ Some GO_BACK
unfolding word_of encoded joined_fields
go_back_word = refl

pub load_table_word : word_of Always (LongOp Ldw B false 0 14) ≡ Some LOAD_TABLE
unfolding word_of encoded joined_fields
load_table_word = refl

pub load_count_word : word_of Always (LongOp Ldw A false 0 5) ≡ Some LOAD_COUNT
unfolding word_of encoded joined_fields
load_count_word = refl

pub add_count_word : word_of Always (TwoOp L Add A false (FirstRegister 4) 5 4) ≡ Some ADD_COUNT
unfolding word_of encoded joined_fields l_code
add_count_word = refl

pub store_count_word : word_of Always (LongOp Stw A false 0 4) ≡ Some STORE_COUNT
unfolding word_of encoded joined_fields
store_count_word = refl
