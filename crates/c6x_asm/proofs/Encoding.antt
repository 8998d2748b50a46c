-- The word of an instruction as the encoder answers it.
use Rattle.std.proofs.Common.{◌≡◌, ℕ, Option, Some, None, refl, sym}
use Rattle.c6x_encoding.specs.declared.instr.Instr.{Instr}
use Rattle.c6x_encoding.specs.Spelling.{Spells, IsValid}
use Rattle.c6x_encoding.specs.Encoded.{encoded}
use Rattle.c6x_encoding.proofs.Facts.{encoded-spelled, spells-encoded}

pub encoded_valid : (i : Instr) (word : ℕ) → Spells i word → Some word ≡ encoded i
encoded_valid i word spells = sym (encoded-spelled i word spells)

pub encoded_invalid : (i : Instr) → (IsValid i → ⊥) → None ≡ encoded i
encoded_invalid i invalid = either (encoded i) refl
  where
    either : (o : Option ℕ) → encoded i ≡ o → None ≡ o
    either None is = refl
    either (Some word) is = absurd (invalid (word, spells-encoded i word is))
