-- Commons laid one behind the other, one name on.
use Rattle.std.proofs.Common.{◌≡◌, ℕ, ◌+◌, ◌^◌, ◌<◌, ◌≤◌, Bool, true, false, List, [], ◌∷◌, ◌++◌, Option, None, Some, length, drop, get_or, sym, ap, ◌∙◌, append_assoc, arith}
use Rattle.std.proofs.lemmas.List.{append-nil, drop_all, drop_more}
use Rattle.c6x_symbols.specs.Bindings.{BoundName, binding_in, no_name}
use Rattle.c6x_symbols.specs.declared.binding.Binding.{Binding}
use Rattle.c6x_symbols.specs.declared.binding.Binding.TheVariants.{Common, Import, Strong, Table, Weak}
use Rattle.c6x_layout.specs.Places.{CommonRoom, added, address_or, common_room, commons_end, commons_from, end_or, room_of}
use Rattle.c6x_layout.proofs.Laid.{start_above}

pub commons_drop : (near : Bool) (at : ℕ) (bs : List BoundName) (i : ℕ) → i < length bs → commons_end near at (drop i bs) ≡ commons_end near (end_or at (room_of near (binding_in (get_or bs i no_name)))) (drop (i + 1) bs)
unfolding common_room
commons_drop near at bs i below = ap (commons_end near at) (drop_more bs i no_name below)

pub commons_all : (near : Bool) (at : ℕ) (bs : List BoundName) (i : ℕ) → length bs ≤ i → commons_end near at (drop i bs) ≡ at
commons_all near at bs i past = ap (commons_end near at) (drop_all i bs past)

pub addresses_drop : (had : List ℕ) (near far : ℕ) (bs : List BoundName) (i : ℕ) → i < length bs → had ++ added (commons_from true near (drop i bs)) (commons_from false far (drop i bs)) ≡ (had ++ (address_or near (room_of true (binding_in (get_or bs i no_name))) + address_or far (room_of false (binding_in (get_or bs i no_name)))) ∷ []) ++ added (commons_from true (end_or near (room_of true (binding_in (get_or bs i no_name)))) (drop (i + 1) bs)) (commons_from false (end_or far (room_of false (binding_in (get_or bs i no_name)))) (drop (i + 1) bs))
unfolding common_room
addresses_drop had near far bs i below =
    ap (λ xs. had ++ added (commons_from true near xs) (commons_from false far xs)) (drop_more bs i no_name below)
    ∙ sym
    (append_assoc had ((address_or near (room_of true (binding_in (get_or bs i no_name))) + address_or far (room_of false (binding_in (get_or bs i no_name)))) ∷ [])
    (added (commons_from true (end_or near (room_of true (binding_in (get_or bs i no_name)))) (drop (i + 1) bs)) (commons_from false (end_or far (room_of false (binding_in (get_or bs i no_name)))) (drop (i + 1) bs))))

pub addresses_all : (had : List ℕ) (near far : ℕ) (bs : List BoundName) (i : ℕ) → length bs ≤ i → had ++ added (commons_from true near (drop i bs)) (commons_from false far (drop i bs)) ≡ had
addresses_all had near far bs i past =
    ap (λ xs. had ++ added (commons_from true near xs) (commons_from false far xs)) (drop_all i bs past) ∙ append-nil had

-- the end behind a common, and behind all, is not before the place from which they are laid
end_or_above : (at : ℕ) (room : Option CommonRoom) → at ≤ end_or at room
end_or_above at None = omega arith
end_or_above at (Some room) = omega (arith, start_above at room.align)

pub commons_above : (near : Bool) (at : ℕ) (bs : List BoundName) → at ≤ commons_end near at bs
commons_above near at [] = omega arith
commons_above near at (b ∷ bs) =
    omega (arith, end_or_above at (common_room near b), commons_above near (end_or at (common_room near b)) bs)

-- a common that is laid ends at or before the end behind all
pub common_below : (near : Bool) (at : ℕ) (bs : List BoundName) (i end limit : ℕ) → i < length bs → commons_end near at (drop i bs) ≡ end → end < limit → end_or at (room_of near (binding_in (get_or bs i no_name))) < limit
common_below near at bs i end limit below is small =
    omega (arith, commons_above near (end_or at (room_of near (binding_in (get_or bs i no_name)))) (drop (i + 1) bs), commons_drop near at bs i below, is)

-- one of the two addresses is 0
pub address_small : (near far : ℕ) (binding : Binding) → end_or near (room_of true binding) < 2 ^ 32 → end_or far (room_of false binding) < 2 ^ 32 → address_or near (room_of true binding) + address_or far (room_of false binding) < 2 ^ 32
address_small near far (Common size align true) a b = omega arith
address_small near far (Common size align false) a b = omega arith
address_small near far (Strong object symbol) a b = omega arith
address_small near far (Weak object symbol) a b = omega arith
address_small near far (Import weak) a b = omega arith
address_small near far Table a b = omega arith

pub common_here : (near : Bool) (at : ℕ) (bs : List BoundName) (i count : ℕ) (binding : Binding) (end limit : ℕ) → binding ≡ binding_in (get_or bs i no_name) → count ≡ length bs → i < count → commons_end near at (drop i bs) ≡ end → end < limit → end_or at (room_of near binding) < limit
common_here near at bs i count binding end limit same all below is small =
    rw same (common_below near at bs i end limit (omega arith) is small)
