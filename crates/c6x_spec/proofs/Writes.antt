use Rattle.std.proofs.Common.{◌≡◌, ℕ, ◌+◌, ◌-◌, ◌≤◌, List, [], ◌++◌, length, take, drop, sym, ◌∙◌, ap, arith, rules, append-nil}
use Rattle.std.proofs.lemmas.List.{places, same_lists, take-append-drop}
use Rattle.std.proofs.lemmas.Bool.Decides.{nat_tests}
use Rattle.c6x_spec.specs.Memory.{Memory, IsOnMemory, spliced, written}
use Rattle.c6x_spec.proofs.Splices.{length_spliced}

-- bytes written right behind others are one write
pub spliced_behind : (bytes : List ℕ) (at place : ℕ) (front back : List ℕ) → place ≡ at + length front → at + length front + length back ≤ length bytes → spliced (spliced bytes at front) place back ≡ spliced bytes at (front ++ back)
unfolding spliced
spliced_behind bytes at place front back is within = same_lists _ _ (search (rules, places)) (λ k d h. grind (arith, places, nat_tests))

-- bytes written over a part of others are one write
pub spliced_within : (bytes : List ℕ) (at place offset : ℕ) (outer inner : List ℕ) → place ≡ at + offset → at + length outer ≤ length bytes → offset + length inner ≤ length outer → spliced (spliced bytes at outer) place inner ≡ spliced bytes at (spliced outer offset inner)
unfolding spliced
spliced_within bytes at place offset outer inner is within inside = same_lists _ _ (search (rules, places)) (λ k d h. grind (arith, places, nat_tests))

-- the same of a memory, over the memory between the two writes
pub written_behind : (before middle after : Memory) (at place : ℕ) (front back : List ℕ) → middle ≡ written before at front → after ≡ written middle place back → place ≡ at + length front → before.base ≤ at → at + length front + length back ≤ before.base + length before.bytes → after ≡ written before at (front ++ back)
written_behind before middle after at place front back first second is above within =
    second ∙ ap (λ (m : Memory). written m place back) first
    ∙ ap (λ (bytes : List ℕ). record { base = before.base; bytes = bytes })
    (spliced_behind before.bytes (at - before.base) (place - before.base) front back (omega arith) (omega arith))

pub written_within : (before middle after : Memory) (at place offset : ℕ) (outer inner : List ℕ) → middle ≡ written before at outer → after ≡ written middle place inner → place ≡ at + offset → before.base ≤ at → at + length outer ≤ before.base + length before.bytes → offset + length inner ≤ length outer → after ≡ written before at (spliced outer offset inner)
written_within before middle after at place offset outer inner first second is above within inside =
    second ∙ ap (λ (m : Memory). written m place inner) first
    ∙ ap (λ (bytes : List ℕ). record { base = before.base; bytes = bytes })
    (spliced_within before.bytes (at - before.base) (place - before.base) offset outer inner (omega arith) (omega arith) inside)

-- a write keeps the base and the size, so what lay on the memory still does
pub on_written : (before after : Memory) (at : ℕ) (new : List ℕ) → after ≡ written before at new → IsOnMemory before at (length new) → (place len : ℕ) → IsOnMemory before place len → IsOnMemory after place len
on_written before after at new is room place len has =
    let base : after.base ≡ before.base = ap (λ (m : Memory). m.base) is in
    let size : length after.bytes ≡ length before.bytes =
    ap (λ (m : Memory). length m.bytes) is ∙ length_spliced before.bytes (at - before.base) new (let a = room.above in let b = room.within in omega arith) in
    let above = has.above in
    let within = has.within in
    record { above = omega arith; within = omega arith }

-- writing nothing changes nothing
spliced_nothing : (bytes : List ℕ) (at : ℕ) → bytes ≡ spliced bytes at []
unfolding spliced
spliced_nothing bytes at =
    let e : at + 0 ≡ at = omega arith in
    rw e (sym (take-append-drop at bytes) ∙ ap (λ (l : List ℕ). l ++ drop at bytes) (sym (append-nil (take at bytes))))

pub written_nothing : (m : Memory) (at : ℕ) → m ≡ written m at []
written_nothing m at = ap (λ (bytes : List ℕ). record { base = m.base; bytes = bytes }) (spliced_nothing m.bytes (at - m.base))
