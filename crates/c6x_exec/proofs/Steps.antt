-- What a cycle comes to, from the words to the address.
use Rattle.std.proofs.Common.{Bool, Err, List, Ok, Option, Result, Some, ap, arith, false, length, refl, subst, suc, sym, true, zero, ℕ, ◌%◌, ◌*◌, ◌+◌, ◌<◌, ◌∙◌, ◌≡◌}
use Rattle.std.specs.Prelude.{◌==◌, if◌then◌else◌, nat_le, is_some, slice_index}
use Rattle.std.specs.List.{All, slice_get}
use Rattle.std.proofs.lemmas.Bool.Decides.{nat_tests}
use Rattle.std.proofs.lemmas.Option.{slice_get-get_or}
use Rattle.c6x_spec.specs.Memory.{Memory, byte_in}
use Rattle.c6x_access.specs.declared.area.Area.{Area}
use Rattle.c6x_access.specs.declared.right.Right.TheVariants.{Run}
use Rattle.c6x_access.proofs.Bytes.{may_own}
use Rattle.c6x_encoding.specs.declared.instr.Instr.{Instr}
use Rattle.c6x_encoding.specs.declared.effect.Effects.{Effects}
use Rattle.c6x_encoding.specs.Spelling.{IsValid}
use Rattle.c6x_exec.specs.Fetched.{number_in, words_in}
use Rattle.c6x_machine.specs.History.{Effect, issue_at, target_at, output_of, register_at, registers_at, byte_at, number_of, number_at}
use Rattle.c6x_machine.specs.Machine.{Outcome, Goes, Stops, executed, instructed, fetched, packet_of, with_put, put_of, issued, issued_if, outcome_of}
use Rattle.c6x_machine.specs.Origin.{Origin, most_output, exit_gate, put_gate}
use Rattle.c6x_machine.specs.Packet.{past, may_run, with_word, chain_by, words_by, words_of, rows_of, longest, ends_if}
use Rattle.c6x_exec.specs.Pending.{target_due}
use Rattle.c6x_exec.specs.Stands.{Tracks, Comes, HoldsAt}
use Rattle.c6x_machine.specs.declared.fault_kind.FaultKind.TheVariants.{TwoBranches, OutputFull}
use Rattle.c6x_machine.specs.declared.end.End.{End}
use Rattle.c6x_machine.specs.declared.end.End.TheVariants.{Exit, Fault}
use Rattle.c6x_exec.specs.declared.context.Context.{Context}
use Rattle.c6x_exec.proofs.Bytes.{number_same}
use Rattle.c6x_exec.proofs.Registers.{register_in}

pub rows_come : (answer : Option End) (p : Context) (b : Memory) (s : Origin) (h : List Effect) (n at next : ℕ) (instrs : List Instr) (rows : List Effects) (registers : List ℕ) → next ≡ past at (4 * length instrs) → registers ≡ registers_at s.registers h n → rows ≡ rows_of instrs at next registers → Comes answer (executed s h n at next rows) p b s h n → Comes answer (instructed s h n at (Ok instrs)) p b s h n
rows_come answer p b s h n at next instrs rows registers next_is registers_are rows_are comes =
    let found : executed s h n at next rows ≡ instructed s h n at (Ok instrs) = rw (rows_are, registers_are, next_is) refl in
    let P : Outcome → Type 0 = λ o. Comes answer o p b s h n in
    subst P found comes

pub all_valid : (instrs : List Instr) → ((k : ℕ) (i : Instr) → slice_get instrs k ≡ Some i → IsValid i) → All IsValid instrs
all_valid instrs valid = λ k d within. valid k _ (slice_get-get_or instrs k d within)

-- the words of the board are those of the history
by_test : (may : ℕ → Bool) (f g : ℕ → ℕ) (at left : ℕ) (test : Bool) → (test ≡ true → f at ≡ g at) → chain_by may f (past at 4) left ≡ chain_by may g (past at 4) left → (if test then with_word (f at) (chain_by may f (past at 4) left) else Err at) ≡ (if test then with_word (g at) (chain_by may g (past at 4) left) else Err at)
by_test may f g at left true same more = rw (same refl, more) refl
by_test may f g at left false same more = refl

chains_same : (may : ℕ → Bool) (f g : ℕ → ℕ) → ((x : ℕ) → may x ≡ true → f x ≡ g x) → (at left : ℕ) → chain_by may f at left ≡ chain_by may g at left
chains_same may f g same at zero = refl
chains_same may f g same at (suc left) = by_test may f g at left (may at) (λ is. same at is) (chains_same may f g same (past at 4) left)

pub words_agree : (b : Memory) (s : Origin) (h : List Effect) (n at : ℕ) (areas : List Area) → s.areas ≡ areas → HoldsAt b s h n → words_in areas b at ≡ words_of s h n at
unfolding words_by
words_agree b s h n at areas areas_are holds =
    rw (← areas_are)
    (ap (λ (words : Result (List ℕ) ℕ). if at % 4 == 0 then words else Err at)
    (chains_same (may_run s.areas) (λ x. number_in b x 4) (λ x. number_at s.big s.bytes h n x 4)
    (λ x may.
    number_same false (λ y. byte_in b y) (λ y. byte_at s.bytes h n y) x 4 (λ y from to. holds.bytes y (may_own s.areas Run x 4 y may from to))
    ∙ ap (λ (big : Bool). number_of big (λ y. byte_at s.bytes h n y) x 4) (sym holds.order))
    at longest))

pub words_found : (s : Origin) (h : List Effect) (n at : ℕ) (words : Result (List ℕ) ℕ) → words_of s h n at ≡ words → packet_of s h n at ≡ fetched s h n at words
unfolding packet_of
words_found s h n at words is = ap (λ (all : Result (List ℕ) ℕ). fetched s h n at all) is

pub exit_issued : (s : Origin) (h : List Effect) (n at : ℕ) → at ≡ exit_gate → issued s h n at ≡ Stops (Exit (register_at s.registers h n 4))
unfolding issued
exit_issued s h n at is = let test : (at == exit_gate) ≡ true = grind (arith, nat_tests) in rw test refl

pub put_issued : (s : Origin) (h : List Effect) (n at : ℕ) → at ≡ put_gate → issued s h n at ≡ put_of s h n
unfolding issued
put_issued s h n at is =
    let test : (at == exit_gate) ≡ false = grind (arith, nat_tests) in
    let other : (at == put_gate) ≡ true = grind (arith, nat_tests) in
    rw (test, other) refl

pub packet_issued : (s : Origin) (h : List Effect) (n at : ℕ) → (at ≡ exit_gate → ⊥) → (at ≡ put_gate → ⊥) → issued s h n at ≡ packet_of s h n at
unfolding issued
packet_issued s h n at apart other =
    let test : (at == exit_gate) ≡ false = grind (arith, nat_tests) in
    let second : (at == put_gate) ≡ false = grind (arith, nat_tests) in
    rw (test, second) refl

-- the put gate
pub put_branches : (s : Origin) (h : List Effect) (n : ℕ) → is_some (target_at h (n + 1)) ≡ true → put_of s h n ≡ Stops (Fault TwoBranches put_gate)
unfolding put_of ends_if
put_branches s h n is = rw is refl

pub put_full : (s : Origin) (h : List Effect) (n : ℕ) → is_some (target_at h (n + 1)) ≡ false → nat_le most_output (length (output_of h)) ≡ true → put_of s h n ≡ Stops (Fault OutputFull put_gate)
unfolding put_of ends_if
put_full s h n is full = rw (is, full) refl

pub put_goes : (s : Origin) (h : List Effect) (n byte target : ℕ) → is_some (target_at h (n + 1)) ≡ false → nat_le most_output (length (output_of h)) ≡ false → byte ≡ register_at s.registers h n 4 % 256 → target ≡ register_at s.registers h n 35 → put_of s h n ≡ Goes (with_put h n byte target)
unfolding put_of ends_if
put_goes s h n byte target is full byte_is target_is = rw (is, full, byte_is, target_is) refl

-- the slot of the next cycle tells whether a target lands there
pub next_target : (p : Context) (b : Memory) (s : Origin) (h : List Effect) (n : ℕ) (found : Bool) → Tracks p b s h n n → found ≡ is_some (target_due p.targets.stamps p.targets.addresses (p.cycles + 1)) → is_some (target_at h (n + 1)) ≡ found
next_target p b s h n found k is =
    ap is_some (k.targets (n + 1) (omega arith))
    ∙ ap (λ (t : ℕ). is_some (target_due p.targets.stamps p.targets.addresses (t + 1))) (sym k.cycles)
    ∙ sym is

pub full_output : (p : Context) (b : Memory) (s : Origin) (h : List Effect) (n : ℕ) (found : Bool) → Tracks p b s h n n → found ≡ nat_le most_output (length p.output.items) → nat_le most_output (length (output_of h)) ≡ found
full_output p b s h n found k is = ap (λ (all : List ℕ). nat_le most_output (length all)) (sym k.output) ∙ sym is

-- a register that is read
pub register_read : (s : Origin) (h : List Effect) (n place : ℕ) (registers : List ℕ) → place < 64 → registers ≡ registers_at s.registers h n → slice_index registers place ≡ register_at s.registers h n place
register_read s h n place registers within is = ap (λ (all : List ℕ). slice_index all place) is ∙ register_in s.registers h n place within

pub address_found : (s : Origin) (h : List Effect) (n : ℕ) (found : Option ℕ) → found ≡ issue_at s.entry h n → outcome_of s h n ≡ issued_if s h n found
unfolding outcome_of
address_found s h n found is = ap (λ (one : Option ℕ). issued_if s h n one) (sym is)
