use Rattle.std.specs.Prelude.{◌≡◌, ℕ, ◌+◌, Bool, List, [], ◌∷◌, Option, None, Some, Result, Ok, Err, length, nat_le, if◌then◌else◌}
use Rattle.c6x_elf_headers.specs.declared.elf_error.ElfError.{ElfError}
use Rattle.c6x_elf_headers.specs.declared.elf_error.ElfError.TheVariants.{Rule, NoMemory}
use Rattle.c6x_elf_headers.specs.declared.elf_rule.ElfRule.{ElfRule}
use Rattle.c6x_elf_headers.specs.declared.elf_rule.ElfRule.TheVariants.{Short}

-- A broken rule and the place in the file where it stands.
abbrev pub Refusal : Type 0
Refusal = ElfRule × ℕ

-- The first refusal in reading order.
infixr 5 ◌<|>◌
abbrev pub ◌<|>◌ : Option Refusal → Option Refusal → Option Refusal
None <|> later = later
(Some refusal) <|> later = Some refusal

-- A rule with its place, broken exactly where the test fails.
unfoldable pub must : Bool → ElfRule → ℕ → Option Refusal
must holds rule place = if holds then None else Some (rule, place)

-- The file has the count bytes from this place on.
unfoldable pub whole : List ℕ → ℕ → ℕ → Option Refusal
whole bytes at count = must (nat_le (at + count) (length bytes)) Short at

-- A list of rules, each with the bytes that the parts in front of it have together.
abbrev pub along_parts : {A : Type 0} → (A → ℕ) → (ℕ → A → Option Refusal) → ℕ → List A → Option Refusal
along_parts size test before [] = None
along_parts size test before (x ∷ xs) = test before x <|> along_parts size test (before + size x) xs

-- A list of rules over two lists of one length.
abbrev pub along_both : {A B : Type 0} → (A → B → Option Refusal) → List A → List B → Option Refusal
along_both test [] ys = None
along_both test (x ∷ xs) [] = None
along_both test (x ∷ xs) (y ∷ ys) = test x y <|> along_both test xs ys

-- A list of rules.
abbrev pub first_along : {A : Type 0} → (A → Option Refusal) → List A → Option Refusal
first_along test [] = None
first_along test (x ∷ xs) = test x <|> first_along test xs

-- An answer is Ok exactly where no rule is broken, and else tells the first broken rule and its place;
-- want of memory may come in their stead.
abbrev pub Passes : {T : Type 0} → Result T ElfError → Option Refusal → Type 0
Passes (Ok x) refusal = refusal ≡ None
Passes (Err (Rule rule place)) refusal = refusal ≡ Some (rule, place)
Passes (Err NoMemory) refusal = Unit {0}
