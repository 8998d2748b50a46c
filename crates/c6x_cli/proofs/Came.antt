-- Steps that came to a value.
use Rattle.std.proofs.Common.{◌≡◌, ℕ, zero, suc, ◌+◌, ◌<◌, ◌≤◌, Bool, true, false, List, [], ◌∷◌, length, take, refl}
use Rattle.std.proofs.Common.{sym, ap, ◌∙◌, arith, nat_le}
use Rattle.std.specs.Prelude.{Option, None, Some, Result, Ok, Err}
use Rattle.std.specs.Option.{option_map}
use Rattle.std.proofs.lemmas.Bool.Decides.{nat_tests}
use Rattle.c6x_spec.specs.Files.{Files, file_at, front_at}
use Rattle.c6x_elf.specs.Reading.{file_of, refusal_of}
use Rattle.c6x_elf.specs.Rules.{Refusal as ElfRefusal}
use Rattle.c6x_elf.specs.declared.file.File.{File}
use Rattle.c6x_cli_steps.specs.Elf.{elf_steps, unless_broken}
use Rattle.c6x_cli_steps.specs.declared.cause.Cause.{Cause}
use Rattle.c6x_cli_steps.specs.Lines.{whole_file, within_most}
use Rattle.c6x_cli_steps.specs.Steps.{Steps, ◌>>=◌, fetched, followed, front_of, most_bytes, own}

-- they came to one in between
pub record Came {A B : Type 0} (first : Steps A) (next : A → Steps B) (value : B) : Type 0 where
  pub middle : A
  pub first_is : first.result ≡ Ok middle
  pub next_is : (next middle).result ≡ Ok value

pub came :
    {A B : Type 0} (first : Steps A) (next : A → Steps B) (value : B)
    → (first >>= next).result ≡ Ok value
    → Came first next value
unfolding ◌>>=◌
came {A} first next value is = by first.result refl is
  where
    by :
        (r : Result A Cause)
        → first.result ≡ r
        → (followed first.fetches r next).result ≡ Ok value
        → Came first next value
    by (Ok middle) here e = record { middle = middle; first_is = here; next_is = e }
    by (Err cause) here e = absurd (cc e)

-- a front that is shorter than it might be is the whole
short_front : (n : ℕ) (bytes : List ℕ) → length (take n bytes) < n → take n bytes ≡ bytes
short_front zero bytes short = absurd (omega (arith, short))
short_front (suc n) [] short = refl
short_front (suc n) (b ∷ bytes) short = ap (λ xs. b ∷ xs) (short_front n bytes (omega (arith, short)))

-- a file that is fetched whole is the file on the shelf
kept_bytes :
    (name found bytes : List ℕ)
    → within_most name found ≡ Ok bytes
    → (found ≡ bytes) × (length found ≤ most_bytes)
unfolding within_most
kept_bytes name found bytes is = by (nat_le (length found) most_bytes) refl
  where
    by : (t : Bool) → nat_le (length found) most_bytes ≡ t → (found ≡ bytes) × (length found ≤ most_bytes)
    by true here = let e = rw here at is in (cc e, grind (arith, nat_tests))
    by false here = let e = rw here at is in absurd (cc e)

front_is :
    (files : Files) (name stored : List ℕ) (most : ℕ)
    → file_at files name ≡ Some stored
    → front_at files name most ≡ Some (take (most + 1) stored)
unfolding front_at
front_is files name stored most at = ap (option_map (take (most + 1))) at

fetched_front :
    (files : Files) (name stored found : List ℕ)
    → file_at files name ≡ Some stored
    → front_of files name ≡ Ok found
    → found ≡ take (most_bytes + 1) stored
unfolding front_of
fetched_front files name stored found at is =
    let here = front_is files name stored most_bytes at in
    let e = rw (front_of, here) at is in
    sym (cc e)

whole_is :
    (files : Files) (name stored bytes : List ℕ)
    → file_at files name ≡ Some stored
    → (whole_file files name).result ≡ Ok bytes
    → bytes ≡ stored
unfolding whole_file
whole_is files name stored bytes at is =
    let c = came (fetched files name) (λ found. own (within_most name found)) bytes is in
    let kept = kept_bytes name c.middle bytes c.next_is in
    let front = fetched_front files name stored c.middle at c.first_is in
    let few = kept.1 in
    let size : length c.middle ≡ length (take (most_bytes + 1) stored) = ap length front in
    let short : length (take (most_bytes + 1) stored) < most_bytes + 1 = omega (arith, size, few) in
    sym kept.0 ∙ front ∙ short_front (most_bytes + 1) stored short

-- so an ELF file that is read is that of the bytes on the shelf
unbroken :
    (name : List ℕ) (file read : File) (o : Option ElfRefusal)
    → unless_broken name file o ≡ Ok read
    → file ≡ read
unbroken name file read None is = cc is
unbroken name file read (Some x) is = absurd (cc is)

pub elf_is :
    (files : Files) (name stored : List ℕ) (file : File)
    → file_at files name ≡ Some stored
    → (elf_steps files name).result ≡ Ok file
    → file_of stored ≡ file
unfolding elf_steps
elf_is files name stored file at is =
    let c = came (whole_file files name) (λ bytes. own (unless_broken name (file_of bytes) (refusal_of bytes))) file
    is in
    ap file_of (sym (whole_is files name stored c.middle at c.first_is))
    ∙ unbroken name (file_of c.middle) file (refusal_of c.middle) c.next_is
