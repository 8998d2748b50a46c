-- Loads and stores of a packet.
use Rattle.std.proofs.Common.{◌≡◌, ℕ, ◌+◌, ◌-◌, ◌≤◌, List, length, refl, sym, ◌∙◌, ap, arith, rules, subst, Option, None, Some, Bool, true, false, ◌⊎◌, inl, inr, suc}
use Rattle.std.specs.Prelude.{IfSome}
use Rattle.std.specs.List.{All}
use Rattle.c6x_spec.specs.Memory.{Memory, IsOnMemory, byte_in}
use Rattle.c6x_encoding.specs.declared.effect.Effects.{Effects}
use Rattle.c6x_encoding.specs.declared.mem_op.MemOp.{MemOp}
use Rattle.c6x_encoding.specs.declared.job.Job.{Job}
use Rattle.c6x_encoding.specs.declared.job.Job.TheVariants.{Load, Store}
use Rattle.c6x_encoding.specs.Rows.{write_of_access, written_by_job, FitsAccess, FitsEffects}
use Rattle.c6x_access.specs.declared.area.Area.{Area}
use Rattle.c6x_access.specs.declared.right.Right.{Right}
use Rattle.c6x_access.specs.declared.right.Right.TheVariants.{Read, Write as MayWrite}
use Rattle.c6x_access.specs.Rights.{may_access}
use Rattle.c6x_access.proofs.Bytes.{may_own}
use Rattle.c6x_exec.specs.Fetched.{number_in}
use Rattle.c6x_board.specs.Lane.{LieOn}
use Rattle.c6x_exec.specs.Fits.{IsAccessOn, IsClean, AreClean, AreOn, IsFramed, IsSized}
use Rattle.c6x_machine.specs.History.{Effect, byte_at, number_of, number_at}
use Rattle.c6x_machine.specs.Origin.{Origin}
use Rattle.c6x_machine.specs.Packet.{bad_read_by, bad_write_by}
use Rattle.c6x_exec.specs.Stands.{HoldsAt}
use Rattle.c6x_exec.proofs.Bytes.{access_on, number_same, passes}

pub framed_on : (areas : List Area) (a b c : Memory) → IsFramed areas a b → IsFramed areas b c → IsFramed areas a c
framed_on areas a b c k l =
    let same : b.base ≡ a.base = k.base in
    record { base = l.base ∙ k.base; size = l.size ∙ k.size; others = λ x above kept. l.others x (omega arith) kept ∙ k.others x above kept }

pub framed_same : (areas : List Area) (a : Memory) → IsFramed areas a a
framed_same areas a = record { base = refl; size = refl; others = λ x above kept. refl }

pub sized_on : (a b c : Memory) → IsSized a b → IsSized b c → IsSized a c
sized_on a b c k l = record { base = l.base ∙ k.base; size = l.size ∙ k.size }

pub lie_sized : (a b : Memory) (areas : List Area) → IsSized a b → LieOn a areas → LieOn b areas
lie_sized a b areas k lie x own =
    let on : IsOnMemory a x 1 = lie x own in
    let above : a.base ≤ x = on.above in
    let within : x + 1 ≤ a.base + length a.bytes = on.within in
    let base : b.base ≡ a.base = k.base in
    let size : length b.bytes ≡ length a.bytes = k.size in
    record { above = omega arith; within = omega arith }

-- an access of one, two or four bytes that may be made
sized_access : (m : Memory) (areas : List Area) (right : Right) (at size : ℕ) → (size ≡ 1) ⊎ (size ≡ 2) ⊎ (size ≡ 4) → LieOn m areas → may_access areas right at size ≡ true → IsOnMemory m at size
sized_access m areas right at size sizes lie may =
    let one : size ≡ suc (size - 1) = elim sizes [ inl a ↦ omega arith | inr (inl b) ↦ omega arith | inr (inr d) ↦ omega arith ] in
    let P : ℕ → Type 0 = λ k. IsOnMemory m at k in
    subst P (sym one) (access_on m areas right at (size - 1) lie (ap (λ (k : ℕ). may_access areas right at k) (sym one) ∙ may))

by_job : (m : Memory) (areas : List Area) (access : MemOp) (job : Job) → (access.size ≡ 1) ⊎ (access.size ≡ 2) ⊎ (access.size ≡ 4) → LieOn m areas → bad_read_by areas access job ≡ None → bad_write_by areas access job ≡ None → IsOnMemory m access.address access.size
by_job m areas access (Load signed side register) sizes lie read write = sized_access m areas Read access.address access.size sizes lie (passes _ _ _ read)
by_job m areas access (Store value) sizes lie read write = sized_access m areas MayWrite access.address access.size sizes lie (passes _ _ _ write)

on_memory : (m : Memory) (areas : List Area) (access : Option MemOp) → IfSome access FitsAccess → LieOn m areas → IsClean areas access → IsAccessOn m access
on_memory m areas None fits lie clean = search rules
on_memory m areas (Some access) fits lie clean = by_job m areas access access.job fits.size lie clean.read clean.write

pub rows_on : (m : Memory) (areas : List Area) (rows : List Effects) → All FitsEffects rows → LieOn m areas → AreClean areas rows → AreOn m rows
rows_on m areas rows fits lie clean = λ k d within. on_memory m areas _ (fits k d within).access lie (clean k d within)

-- a load reads the number of the history
number_read : (b : Memory) (s : Origin) (g : List Effect) (n : ℕ) (right : Right) (at size : ℕ) → HoldsAt b s g n → may_access s.areas right at size ≡ true → number_in b at size ≡ number_at s.big s.bytes g n at size
number_read b s g n right at size holds may =
    number_same false (λ x. byte_in b x) (λ x. byte_at s.bytes g n x) at size (λ x from to. holds.bytes x (may_own s.areas right at size x may from to))
    ∙ ap (λ (big : Bool). number_of big (λ x. byte_at s.bytes g n x) at size) (sym holds.order)

written_read : (b : Memory) (s : Origin) (g : List Effect) (n : ℕ) (access : MemOp) (job : Job) → HoldsAt b s g n → bad_read_by s.areas access job ≡ None → written_by_job job access.size (number_in b access.address access.size) ≡ written_by_job job access.size (number_at s.big s.bytes g n access.address access.size)
written_read b s g n access (Load signed side register) holds read =
    ap (λ (number : ℕ). written_by_job (Load signed side register) access.size number) (number_read b s g n Read access.address access.size holds (passes _ _ _ read))
written_read b s g n access (Store value) holds read = refl

pub write_read : (b : Memory) (s : Origin) (g : List Effect) (n : ℕ) (access : MemOp) → HoldsAt b s g n → IsClean s.areas (Some access) → write_of_access access (number_in b access.address access.size) ≡ write_of_access access (number_at s.big s.bytes g n access.address access.size)
write_read b s g n access holds clean = written_read b s g n access access.job holds clean.read
