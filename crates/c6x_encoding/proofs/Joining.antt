-- Fields put together one after another.

use Rattle.std.proofs.Common.{◌≡◌, ℕ, ◌+◌, ◌*◌, ◌^◌, ◌≤◌, ◌<◌, ◌&&◌, nat_lt, if◌then◌else◌, Some, None, false, subst, List, drop, get_or, length, refl, sym, ◌∙◌, ap, add-one, arith, drop-cons}
use Rattle.std.proofs.lemmas.Nat.{pow-add, pow_pos, mul-le}
use Rattle.std.proofs.lemmas.Option.{cond_some}
use Rattle.std.proofs.lemmas.Bool.{ltb-true, cond-true, false_from_ne_true}
use Rattle.c6x_encoding.specs.Encoded.{joined, all_fit, widths}

pub joined_rest : (word : ℕ) (fields : List (ℕ × ℕ)) (i : ℕ) (d : ℕ × ℕ) → i < length fields → joined word (drop i fields) ≡ joined (word * 2 ^ (get_or fields i d).0 + (get_or fields i d).1) (drop (i + 1) fields)
joined_rest word fields i d within = ap (joined word) (drop-cons fields i d within) ∙ rw add-one refl

pub fit_rest : (fields : List (ℕ × ℕ)) (i : ℕ) (d : ℕ × ℕ) → i < length fields → all_fit (drop i fields) ≡ (nat_lt (get_or fields i d).1 (2 ^ (get_or fields i d).0) && all_fit (drop (i + 1) fields))
fit_rest fields i d within = ap all_fit (drop-cons fields i d within) ∙ rw add-one refl

pub widths_rest : (fields : List (ℕ × ℕ)) (i : ℕ) (d : ℕ × ℕ) → i < length fields → widths (drop i fields) ≡ (get_or fields i d).0 + widths (drop (i + 1) fields)
widths_rest fields i d within = ap widths (drop-cons fields i d within) ∙ rw add-one refl

-- A field fits below the number where it fits with what follows it.
pub room_here : (number count rest : ℕ) → (number + 1) * 2 ^ (count + rest) ≤ 2 ^ 32 → (number + 1) * 2 ^ count ≤ 2 ^ 32
room_here number count rest room =
    let more : 1 ≤ 2 ^ rest = pow_pos rest in
    let least : (number + 1) * 2 ^ count * 1 ≤ (number + 1) * 2 ^ count * 2 ^ rest = mul-le ((number + 1) * 2 ^ count) 1 ((number + 1) * 2 ^ count) (2 ^ rest) (omega arith) more in
    let e : (number + 1) * 2 ^ (count + rest) ≡ (number + 1) * 2 ^ count * 2 ^ rest = rw (pow-add 2 count rest) (omega arith) in
    omega arith

-- What follows fits below the number with the field.
pub room_next : (number count value rest : ℕ) → value < 2 ^ count → (number + 1) * 2 ^ (count + rest) ≤ 2 ^ 32 → (number * 2 ^ count + value + 1) * 2 ^ rest ≤ 2 ^ 32
room_next number count value rest small room =
    let least : (number * 2 ^ count + value + 1) * 2 ^ rest ≤ (number + 1) * 2 ^ count * 2 ^ rest = mul-le (number * 2 ^ count + value + 1) (2 ^ rest) ((number + 1) * 2 ^ count) (2 ^ rest) (omega arith) (omega arith) in
    let e : (number + 1) * 2 ^ (count + rest) ≡ (number + 1) * 2 ^ count * 2 ^ rest = rw (pow-add 2 count rest) (omega arith) in
    omega arith

pub room_at : (number : ℕ) (fields : List (ℕ × ℕ)) (i : ℕ) (d : ℕ × ℕ) → i < length fields → (number + 1) * 2 ^ widths (drop i fields) ≤ 2 ^ 32 → (number + 1) * 2 ^ (get_or fields i d).0 ≤ 2 ^ 32
room_at number fields i d within room =
    room_here number _ (widths (drop (i + 1) fields)) (subst (λ n. (number + 1) * 2 ^ n ≤ 2 ^ 32) (widths_rest fields i d within) room)

-- One field more.
pub record Joins (number : ℕ) (fields : List (ℕ × ℕ)) (i : ℕ) : Type 0 where
  pub together : joined number (drop i fields) ≡ joined 0 fields
  pub fit : all_fit (drop i fields) ≡ all_fit fields
  pub narrow : widths (drop i fields) ≤ 32
  pub below : (number + 1) * 2 ^ widths (drop i fields) ≤ 2 ^ 32

pub Joins-next : (number next : ℕ) (fields : List (ℕ × ℕ)) (i : ℕ) (d : ℕ × ℕ) → i < length fields → Joins number fields i → (if nat_lt (get_or fields i d).1 (2 ^ (get_or fields i d).0) then Some (number * 2 ^ (get_or fields i d).0 + (get_or fields i d).1) else None) ≡ Some next → Joins next fields (i + 1)
Joins-next number next fields i d within j put =
    let both = cond_some (nat_lt (get_or fields i d).1 (2 ^ (get_or fields i d).0)) (number * 2 ^ (get_or fields i d).0 + (get_or fields i d).1) next put in
    let e = both.1 in
    let w = widths_rest fields i d within in
    let narrow : widths (drop i fields) ≤ 32 = j.narrow in
    let room : (number + 1) * 2 ^ ((get_or fields i d).0 + widths (drop (i + 1) fields)) ≤ 2 ^ 32 = subst (λ n. (number + 1) * 2 ^ n ≤ 2 ^ 32) w j.below in
    record {
      together = sym (joined_rest number fields i d within ∙ ap (λ n. joined n (drop (i + 1) fields)) e) ∙ j.together;
      fit = sym (fit_rest fields i d within ∙ ap (λ b. b && all_fit (drop (i + 1) fields)) both.0) ∙ j.fit;
      narrow = omega (arith, w);
      below = subst (λ n. (n + 1) * 2 ^ widths (drop (i + 1) fields) ≤ 2 ^ 32) e (room_next number _ _ _ (ltb-true _ _ both.0) room);
    }

-- A field that does not fit.
pub none_fits : (number : ℕ) (fields : List (ℕ × ℕ)) (i : ℕ) (d : ℕ × ℕ) → i < length fields → Joins number fields i → (if nat_lt (get_or fields i d).1 (2 ^ (get_or fields i d).0) then Some (number * 2 ^ (get_or fields i d).0 + (get_or fields i d).1) else None) ≡ None → all_fit fields ≡ false
none_fits number fields i d within j put =
    let no_room : nat_lt (get_or fields i d).1 (2 ^ (get_or fields i d).0) ≡ false = false_from_ne_true _ (λ is. let s : Some (number * 2 ^ (get_or fields i d).0 + (get_or fields i d).1) ≡ None = sym (cond-true _ _ _ is) ∙ put in cc) in
    sym j.fit ∙ fit_rest fields i d within ∙ ap (λ b. b && all_fit (drop (i + 1) fields)) no_room
