-- What stands in the front of a text stands in the whole.
use Rattle.std.proofs.Common.{◌≡◌, ℕ, ◌+◌, ◌≤◌, List, [], ◌++◌, length, sym, ap, ◌∙◌, subst, take, drop, arith}
use Rattle.std.proofs.lemmas.List.{append-nil, append_assoc, length-drop, length-take-le, take-append-drop}
use Rattle.c6x_asm_lines.specs.Bytes.{bytes_at}
use Rattle.c6x_dis.proofs.Lexed.{bytes_seam}

-- the front, cut at these bytes
cut : (front : List ℕ) (at len : ℕ) → front ≡ take at front ++ (take len (drop at front) ++ drop len (drop at front))
cut front at len = sym (ap (λ bs. take at front ++ bs) (take-append-drop len (drop at front)) ∙ take-append-drop at front)

held : (front rest : List ℕ) (at len : ℕ) → at + len ≤ length front → bytes_at (front ++ rest) at len ≡ take len (drop at front)
held front rest at len within =
    let before = take at front in
    let bytes = take len (drop at front) in
    let behind = drop len (drop at front) in
    let size : length bytes ≡ len = length-take-le len (drop at front) (omega (arith, within, length-drop at front)) in
    let place : at ≡ length before = sym (length-take-le at front (omega (arith, within))) in
    let is : front ++ rest ≡ before ++ (bytes ++ (behind ++ rest)) =
    ap (λ bs. bs ++ rest) (cut front at len) ∙ (append_assoc before (bytes ++ behind) rest ∙ ap (λ bs. before ++ bs) (append_assoc bytes behind rest)) in
    subst (λ k. bytes_at (front ++ rest) at k ≡ bytes) size (bytes_seam (front ++ rest) before bytes (behind ++ rest) at is place)

pub in_front : (front rest : List ℕ) (at len : ℕ) → at + len ≤ length front → bytes_at (front ++ rest) at len ≡ bytes_at front at len
in_front front rest at len within =
    held front rest at len within ∙ sym (subst (λ text. bytes_at text at len ≡ take len (drop at front)) (append-nil front) (held front [] at len within))
