use Rattle.std.proofs.Common.{◌≡◌, ℕ, ◌+◌, ◌-◌, ◌≤◌, List, [], ◌∷◌, ◌++◌, length, replicate, refl, ap, ◌∙◌, append_assoc, arith}
use Rattle.std.proofs.lemmas.List.{length-replicate, replicate_more}
use Rattle.c6x_elf_headers.specs.Held.{Holds}
use Rattle.c6x_elf_headers.specs.Laid.{AllHeld, InOrder, Part, laid}
use Rattle.c6x_elf_headers.proofs.Holdings.{holds_left, holds_right}

-- a part put behind the old bytes, whatever follows
pub laid_more : (old : List ℕ) (from at : ℕ) (bytes : List ℕ) (rest : List Part) → ((old ++ replicate (at - from) 0) ++ bytes) ++ laid (at + length bytes) rest ≡ old ++ laid from (record { at = at; bytes = bytes } ∷ rest)
laid_more old from at bytes rest = simp append_assoc

-- parts in order are all held
pub laid_held : (bytes : List ℕ) (from : ℕ) (parts : List Part) → Holds bytes from (laid from parts) → InOrder from parts → AllHeld bytes parts
laid_held bytes from [] holds order = tt
laid_held bytes from (part ∷ parts) holds order =
    let later : from ≤ part.at = order.0 in
    let place : from + length (replicate (part.at - from) 0) ≡ part.at =
    ap (λ n. from + n) (length-replicate (part.at - from) 0) ∙ omega arith in
    let here = holds_right bytes from (replicate (part.at - from) 0) (part.bytes ++ laid (part.at + length part.bytes) parts) part.at holds place in (
      holds_left bytes part.at part.bytes (laid (part.at + length part.bytes) parts) here,
      laid_held bytes (part.at + length part.bytes) parts
          (holds_right bytes part.at part.bytes (laid (part.at + length part.bytes) parts) (part.at + length part.bytes) here refl)
          order.1,
    )

-- one zero more
pub zeros_more : (old out new : List ℕ) (k from : ℕ) → from ≤ k → out ≡ old ++ replicate (k - from) 0 → new ≡ out ++ 0 ∷ [] → new ≡ old ++ replicate (k + 1 - from) 0
zeros_more old out new k from below was is =
    let more : k - from + 1 ≡ k + 1 - from = omega arith in
    is ∙ ap (λ ys. ys ++ 0 ∷ []) was ∙ append_assoc old (replicate (k - from) 0) (0 ∷ [])
    ∙ ap (λ ys. old ++ ys) (replicate_more (k - from) 0 ∙ ap (λ n. replicate n 0) more)
