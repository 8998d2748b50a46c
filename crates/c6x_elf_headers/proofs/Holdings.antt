use Rattle.std.proofs.Common.{◌≡◌, ℕ, ◌+◌, ◌<◌, ◌≤◌, List, [], ◌++◌, length, take, drop, get_or, refl, sym, ap, ◌∙◌, append_assoc, length-append, subst, arith}
use Rattle.std.proofs.lemmas.List.{append-nil, drop_at, take_at, get_or-append-add, get_or_append_left, take-append-drop, length-take-le}
use Rattle.c6x_elf_headers.specs.Held.{Holds}

-- bytes hold themselves
pub holds_all : (bytes : List ℕ) → Holds bytes 0 bytes
holds_all bytes = record { front = []; back = []; split = sym (append-nil bytes); place = refl }

-- the parts of what is held
pub holds_left : (bytes : List ℕ) (at : ℕ) (a b : List ℕ) → Holds bytes at (a ++ b) → Holds bytes at a
holds_left bytes at a b h = record {
  front = h.front;
  back = b ++ h.back;
  split = h.split ∙ ap (λ xs. h.front ++ xs) (append_assoc a b h.back);
  place = h.place;
}

pub holds_right : (bytes : List ℕ) (at : ℕ) (a b : List ℕ) (place : ℕ) → Holds bytes at (a ++ b) → at + length a ≡ place → Holds bytes place b
holds_right bytes at a b place h is = record {
  front = h.front ++ a;
  back = h.back;
  split = h.split ∙ ap (λ xs. h.front ++ xs) (append_assoc a b h.back) ∙ sym (append_assoc h.front a (b ++ h.back));
  place = length-append h.front a ∙ ap (λ n. n + length a) h.place ∙ is;
}

-- what is held is a slice
pub holds_slice : (bytes : List ℕ) (at : ℕ) (part : List ℕ) → Holds bytes at part → take (length part) (drop at bytes) ≡ part
holds_slice bytes at part h =
    ap (λ xs. take (length part) (drop at xs)) h.split
    ∙ ap (take (length part)) (drop_at h.front (part ++ h.back) at h.place)
    ∙ take_at part h.back (length part) refl

pub holds_within : (bytes : List ℕ) (at : ℕ) (part : List ℕ) → Holds bytes at part → at + length part ≤ length bytes
holds_within bytes at part h =
    omega (arith, ap length h.split, length-append h.front (part ++ h.back), length-append part h.back, h.place)

-- a byte of what is held
pub holds_byte : (bytes : List ℕ) (at : ℕ) (part : List ℕ) (i place : ℕ) → Holds bytes at part → i < length part → at + i ≡ place → get_or bytes place 0 ≡ get_or part i 0
holds_byte bytes at part i place h below is =
    let where_at : length h.front + i ≡ place = ap (λ n. n + i) h.place ∙ is in
    ap (λ n. get_or bytes n 0) (sym where_at)
    ∙ ap (λ xs. get_or xs (length h.front + i) 0) h.split
    ∙ get_or-append-add h.front (part ++ h.back) i 0
    ∙ get_or_append_left part h.back 0 i below

-- a slice of what is held is held
pub holds_inner : (bytes : List ℕ) (at : ℕ) (part : List ℕ) (k n place : ℕ) → Holds bytes at part → k + n ≤ length part → at + k ≡ place → Holds bytes place (take n (drop k part))
holds_inner bytes at part k n place h within is =
    let front : take k part ++ drop k part ≡ part = take-append-drop k part in
    let back : take n (drop k part) ++ drop n (drop k part) ≡ drop k part = take-append-drop n (drop k part) in
    let P : List ℕ → Type 0 = λ xs. Holds bytes at xs in
    let Q : List ℕ → Type 0 = λ xs. Holds bytes place xs in
    let len : at + length (take k part) ≡ place = ap (λ m. at + m) (length-take-le k part (omega arith)) ∙ is in
    holds_left bytes place (take n (drop k part)) (drop n (drop k part))
    (subst Q (sym back) (holds_right bytes at (take k part) (drop k part) place (subst P (sym front) h) len))

-- what is put behind other bytes is held
pub holds_behind : (old part new : List ℕ) (at : ℕ) → new ≡ old ++ part → length old ≡ at → Holds new at part
holds_behind old part new at is place = record {
  front = old;
  back = [];
  split = is ∙ ap (λ xs. old ++ xs) (sym (append-nil part));
  place = place;
}
