-- The rows of a packet, one by one.
use Rattle.std.proofs.Common.{◌≡◌, ℕ, ◌+◌, ◌<◌, ◌≤◌, List, [], ◌∷◌, ◌++◌, length, take, drop, get_or, set, refl, sym, ◌∙◌, ap, arith, add-one, drop-cons, append_assoc, length-set}
use Rattle.std.specs.List.{All}
use Rattle.std.proofs.lemmas.List.{take_more_set}
use Rattle.std.proofs.lemmas.List.Elements.{All-same, All-push}
use Rattle.c6x_encoding.specs.declared.instr.Instr.{Instr}
use Rattle.c6x_encoding.specs.declared.effect.Effects.{Effects}
use Rattle.c6x_encoding.specs.Rows.{effects_of, FitsEffects}
use Rattle.c6x_machine.specs.Packet.{past, rows_of}

-- the rows so far and those of the rest are the rows
pub record Walk (instrs : List Instr) (at next : ℕ) (registers : List ℕ) (rows : List Effects) (from place : ℕ) : Type 0 where
  pub room : length rows ≡ 8
  pub fits : All FitsEffects (take place rows)
  pub given : take place rows ++ rows_of (drop place instrs) from next registers ≡ rows_of instrs at next registers

rows_rest : (instrs : List Instr) (from next : ℕ) (registers : List ℕ) (place : ℕ) (d : Instr) → place < length instrs → rows_of (drop place instrs) from next registers ≡ effects_of (get_or instrs place d) from next registers ∷ rows_of (drop (place + 1) instrs) (past from 4) next registers
rows_rest instrs from next registers place d within = ap (λ (all : List Instr). rows_of all from next registers) (drop-cons instrs place d within) ∙ rw add-one refl

pub row_next : (instrs : List Instr) (at next : ℕ) (registers : List ℕ) (rows : List Effects) (from place : ℕ) (row : Effects) (d : Instr) → place < length instrs → length instrs ≤ 8 → Walk instrs at next registers rows from place → row ≡ effects_of (get_or instrs place d) from next registers → FitsEffects row → Walk instrs at next registers (set rows place row) (past from 4) (place + 1)
row_next instrs at next registers rows from place row d within few k is fits = record {
  room = length-set rows place row ∙ k.room;
  fits = All-same FitsEffects _ _ (take_more_set rows place row (omega (arith, k.room))) (All-push FitsEffects (take place rows) row k.fits fits);
  given =
      ap (λ (front : List Effects). front ++ rows_of (drop (place + 1) instrs) (past from 4) next registers) (take_more_set rows place row (omega (arith, k.room)))
      ∙ append_assoc (take place rows) (row ∷ []) (rows_of (drop (place + 1) instrs) (past from 4) next registers)
      ∙ ap (λ (one : Effects). take place rows ++ (one ∷ rows_of (drop (place + 1) instrs) (past from 4) next registers)) is
      ∙ ap (λ (all : List Effects). take place rows ++ all) (sym (rows_rest instrs from next registers place d within))
      ∙ k.given;
}
