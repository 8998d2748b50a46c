-- The outline of the sections behind a line.
use Rattle.std.proofs.Common.{◌≡◌, ℕ, ◌<◌, inl, inr, List, length, Option, Some, None, Result, Ok, Err, ap, arith}
use Rattle.std.specs.Prelude.{IfSome}
use Rattle.std.proofs.lemmas.List.{length-set, length_push}
use Rattle.std.proofs.lemmas.Option.{IfSome_then}
use Rattle.c6x_asm_lines.specs.declared.line.Line.{Line}
use Rattle.c6x_asm_lines.specs.declared.rule.AsmRule.{AsmRule}
use Rattle.c6x_asm_object.specs.declared.object.Object.{Object}
use Rattle.c6x_asm_object.specs.declared.asm_section.AsmSection.{AsmSection}
use Rattle.c6x_asm_object.specs.declared.summary.Summary.{Summary}
use Rattle.c6x_asm_object.specs.Sums.{AreBlocks, behind_line}
use Rattle.c6x_asm_object.proofs.Blocks.{blocks_pushed, blocks_same, blocks_set}
use Rattle.c6x_asm.specs.States.{Becomes, State, state_of}
use Rattle.c6x_asm.specs.Touching.{Touches}
use Rattle.c6x_asm.proofs.Touched.{stepped_touches}
use Rattle.c6x_asm.specs.Lines.{read_line}

-- a line that breaks no rule touches one section at most
pub read_touches : (text : List ℕ) (number : ℕ) (line : Option Line) (s t : State) → read_line text number line s ≡ Ok t → Touches s.sections s.now t.sections
read_touches text number None s t is = absurd (cc)
read_touches text number (Some l) s t is = stepped_touches text number l s t is

-- the section that lines go to stays
pub inside_behind : (before : List AsmSection) (current : Option ℕ) (after : List AsmSection) → IfSome current (λ i. i < length before) → Touches before current after → IfSome current (λ i. i < length after)
inside_behind before current after inside (inl same) = IfSome_then current inside (λ i below. omega (arith, ap length same))
inside_behind before current after inside (inr (inl added)) = IfSome_then current inside (λ i below. omega (arith, ap length added.is, length_push before added.section))
inside_behind before current after inside (inr (inr grown)) = IfSome_then current inside (λ i below. omega (arith, ap length grown.replaced.is, length-set before grown.place grown.replaced.section))

at_some : (current : Option ℕ) (i n : ℕ) → current ≡ Some i → IfSome current (λ k. k < n) → i < n
at_some None i n is inside = absurd (cc)
at_some (Some k) i n is inside = let same : k ≡ i = cc in omega (arith, same)

-- the blocks behind a line are those of its sections
pub blocks_behind : (text : List ℕ) (before : List AsmSection) (blocks : List Summary) (current : Option ℕ) (after : List AsmSection) → IfSome current (λ i. i < length before) → Touches before current after → AreBlocks text before blocks → AreBlocks text after (behind_line text after blocks (length before) current)
blocks_behind text before blocks current after inside (inl same) are = rw same (blocks_same text before blocks current inside are)
blocks_behind text before blocks current after inside (inr (inl added)) are = rw added.is (blocks_pushed text before blocks current added.section are)
blocks_behind text before blocks current after inside (inr (inr grown)) are =
    rw (grown.replaced.is, grown.goes) (blocks_set text before blocks grown.place grown.replaced.section (at_some current grown.place (length before) grown.goes inside) are)

-- what a line that breaks no rule was told to become
pub told_touches : (text : List ℕ) (number : ℕ) (line : Option Line) (s : State) (done : Result (Unit {0}) AsmRule) (u : Unit {0}) (o : Object) → done ≡ Ok u → Becomes done o (read_line text number line s) → Touches s.sections s.now o.sections.items
told_touches text number line s (Ok v) u o is told = read_touches text number line s (state_of o) told
told_touches text number line s (Err rule) u o is told = absurd (cc)

pub inside_items : (current : Option ℕ) (n m : ℕ) → n ≡ m → IfSome current (λ i. i < n) → IfSome current (λ i. i < m)
inside_items current n m same inside = IfSome_then current inside (λ i below. omega (arith, same))
