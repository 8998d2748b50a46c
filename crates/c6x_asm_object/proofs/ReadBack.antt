-- One number read back from the bytes that spell it.
use Rattle.std.proofs.Common.{◌≡◌, ℕ, ◌+◌, ◌^◌, ◌<◌, false, List, [], ◌∷◌, sym, ap, ◌∙◌, subst, add-zero, append-nil}
use Rattle.c6x_spec.specs.Numbers.{word_at}
use Rattle.c6x_elf.specs.Held.{Holds}
use Rattle.c6x_elf.specs.Rows.{word_bytes, word_row}
use Rattle.c6x_elf.proofs.NumberRows.{words_held}

pub word_read : (bytes : List ℕ) (at n : ℕ) → n < 2 ^ 32 → Holds bytes at (word_bytes false n) → word_at false bytes at ≡ n
word_read bytes at n fits h =
    let P : List ℕ → Type 0 = λ part. Holds bytes at part in
    let Q : ℕ → Type 0 = λ place. Holds bytes place (word_row false (n ∷ [])) in
    let row : Holds bytes at (word_row false (n ∷ [])) = subst P (sym (append-nil (word_bytes false n))) h in
    let first : Holds bytes (at + 0) (word_row false (n ∷ [])) = subst Q (sym (add-zero at)) row in
    ap (word_at false bytes) (sym (add-zero at)) ∙ (words_held false bytes at 0 (n ∷ []) (fits, tt) first).0
