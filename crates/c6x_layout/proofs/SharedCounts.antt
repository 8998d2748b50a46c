-- Names counted, one name on.
use Rattle.std.proofs.Common.{◌≡◌, ℕ, ◌+◌, ◌<◌, ◌≤◌, Bool, true, false, List, [], ◌∷◌, ◌++◌, length, take, drop, get_or, map, ap, ◌∙◌, arith, length-append}
use Rattle.std.proofs.lemmas.List.{append-nil, drop_all, take_more}
use Rattle.std.proofs.lemmas.List.Elements.{All-get_or}
use Rattle.std.proofs.lemmas.Grind.{flat_map-append}
use Rattle.std.specs.List.{flat_map}
use Rattle.std.specs.Prelude.{All}
use Rattle.c6x_base.specs.declared.limits.TheConstants.{MOST_HELD_BYTES}
use Rattle.c6x_elf.specs.Names.{name_row}
use Rattle.c6x_symbols.proofs.Bound.{numbers_here, numbers_past}
use Rattle.c6x_symbols.specs.Bindings.{BoundName, bound_at, no_name, numbers_where}
use Rattle.c6x_layout.specs.Dynamics.{bound_name_at}
use Rattle.c6x_layout.specs.Shared.{IsHeldName, is_shared, numbers_of, rows_size, shared_with}
use Rattle.c6x_layout.specs.declared.shared_names.SharedNames.{SharedNames}

pub rows_size_append : (xs ys : List (List ℕ)) → rows_size (xs ++ ys) ≡ rows_size xs + rows_size ys
rows_size_append xs ys = ap length (flat_map-append name_row xs ys) ∙ length-append (flat_map name_row xs) (flat_map name_row ys)

pub rows_more : (xs : List (List ℕ)) (i : ℕ) (d : List ℕ) → i < length xs → rows_size (take (i + 1) xs) ≡ rows_size (take i xs) + length (name_row (get_or xs i d))
rows_more xs i d below =
    ap rows_size (take_more xs i d below) ∙ rows_size_append (take i xs) (get_or xs i d ∷ [])
    ∙ ap (λ n. rows_size (take i xs) + n) (ap length (append-nil (name_row (get_or xs i d))))

pub held_here : (bs : List BoundName) (i : ℕ) → i < length bs → All IsHeldName bs → length (bound_at bs i).name ≤ MOST_HELD_BYTES
held_here bs i below held = (All-get_or IsHeldName bs i no_name below held).bytes

-- What is counted so far, with what is still to come, is all.
pub record CountsTo (exported : Bool) (bs : List BoundName) (i : ℕ) (had : SharedNames) : Type 0 where
  pub count : had.count + length (numbers_where (is_shared exported) i (drop i bs)) ≡ length (numbers_of exported bs)
  pub bytes : had.bytes + rows_size (map (bound_name_at bs) (numbers_where (is_shared exported) i (drop i bs))) ≡ rows_size (map (bound_name_at bs) (numbers_of exported bs))

pub shared_start : (exported : Bool) (bs : List BoundName) → CountsTo exported bs 0 (record { count = 0; bytes = 0 })
shared_start exported bs = record { count = omega arith; bytes = omega arith }

pub shared_end : (exported : Bool) (bs : List BoundName) (i : ℕ) (had : SharedNames) → length bs ≤ i → CountsTo exported bs i had → had ≡ record { count = length (numbers_of exported bs); bytes = rows_size (map (bound_name_at bs) (numbers_of exported bs)) }
shared_end exported bs i had past to =
    let none : drop i bs ≡ [] = drop_all i bs past in
    let count : had.count ≡ length (numbers_of exported bs) = omega (arith, rw none at to.count) in
    let bytes : had.bytes ≡ rows_size (map (bound_name_at bs) (numbers_of exported bs)) = omega (arith, rw none at to.bytes) in
    λ k. record { count = count k; bytes = bytes k }

row_size : (name : List ℕ) (rest : List (List ℕ)) → rows_size (name ∷ rest) ≡ (length name + 1) + rows_size rest
row_size name rest =
    length-append (name_row name) (flat_map name_row rest)
    ∙ ap (λ n. n + rows_size rest) (length-append name (0 ∷ []))

pub shared_next : (exported : Bool) (bs : List BoundName) (i : ℕ) (had : SharedNames) (b : Bool) → i < length bs → is_shared exported (bound_at bs i) ≡ b → CountsTo exported bs i had → CountsTo exported bs (i + 1) (shared_with b had (bound_at bs i))
shared_next exported bs i had true below is to =
    let here : numbers_where (is_shared exported) i (drop i bs) ≡ i ∷ numbers_where (is_shared exported) (i + 1) (drop (i + 1) bs) = numbers_here (is_shared exported) bs i below is in
    let size = row_size (bound_name_at bs i) (map (bound_name_at bs) (numbers_where (is_shared exported) (i + 1) (drop (i + 1) bs))) in
    record { count = omega (arith, rw here at to.count); bytes = omega (arith, size, rw here at to.bytes) }
shared_next exported bs i had false below is to =
    let here : numbers_where (is_shared exported) i (drop i bs) ≡ numbers_where (is_shared exported) (i + 1) (drop (i + 1) bs) = numbers_past (is_shared exported) bs i below is in
    record { count = rw here at to.count; bytes = rw here at to.bytes }
