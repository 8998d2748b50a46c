use Rattle.std.proofs.Common.{ℕ, ◌+◌, ◌≤◌, inl, List, [], ◌∷◌, ◌++◌, length, arith}
use Rattle.c6x_spec.specs.Memory.{Memory}
use Rattle.c6x_spec.specs.Parts.{Part, IsApartFrom, AreApart, AreOn, InOrder}

-- parts in order, one list behind another
pub order_append : (ps qs : List Part) (from amid end : ℕ) → InOrder from amid ps → InOrder amid end qs → InOrder from end (ps ++ qs)
order_append [] [] from amid end a b = omega (arith, a, b)
order_append [] (q ∷ qs) from amid end a b = let c = b.0 in (omega arith, b.1)
order_append (p ∷ ps) qs from amid end a b = (a.0, order_append ps qs (p.at + length p.bytes) amid end a.1 b)

lower : (ps : List Part) (from lower end : ℕ) → lower ≤ from → InOrder from end ps → InOrder lower end ps
lower [] from low end less order = omega (arith, less, order)
lower (p ∷ ps) from low end less order = let c = order.0 in (omega arith, order.1)

-- they share no address
order_apart : (p : Part) (ps : List Part) (end : ℕ) → InOrder (p.at + length p.bytes) end ps → IsApartFrom p ps
order_apart p [] end order = tt
order_apart p (q ∷ qs) end order =
    let c = order.0 in (inl order.0, order_apart p qs end (lower qs (q.at + length q.bytes) (p.at + length p.bytes) end (omega arith) order.1))

pub all_apart : (ps : List Part) (from end : ℕ) → InOrder from end ps → AreApart ps
all_apart [] from end order = tt
all_apart (p ∷ ps) from end order = (order_apart p ps end order.1, all_apart ps (p.at + length p.bytes) end order.1)

-- and lie on a memory that has the room
pub ends_behind : (ps : List Part) (from end : ℕ) → InOrder from end ps → from ≤ end
ends_behind [] from end order = order
ends_behind (p ∷ ps) from end order = let a = ends_behind ps (p.at + length p.bytes) end order.1 in let c = order.0 in omega arith

pub all_on : (ps : List Part) (m : Memory) (from end : ℕ) → m.base ≤ from → end ≤ m.base + length m.bytes → InOrder from end ps → AreOn m ps
all_on [] m from end low high order = tt
all_on (p ∷ ps) m from end low high order =
    let a = ends_behind ps (p.at + length p.bytes) end order.1 in
    let c = order.0 in
    (record { above = omega arith; within = omega arith }, all_on ps m (p.at + length p.bytes) end (omega arith) high order.1)
