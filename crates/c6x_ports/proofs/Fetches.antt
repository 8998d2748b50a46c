use Rattle.std.proofs.Common.{◌≡◌, ℕ, ◌+◌, true, false, List, take, None, Some, Ok, Err, Result, Vec, Global, IfOk, MatchResult, refl}
use Rattle.std.specs.Prelude.{IfErr}
use Rattle.c6x_spec.specs.Files.{file_at, front_at}
use Rattle.c6x_ports.specs.Numbered.{fails_next}
use Rattle.c6x_ports.specs.MemoryShelf.{ShelfInMemory, IsErrorOf, fetched}
use Rattle.c6x_ports.specs.declared.shelf.ShelfError.{ShelfError}
use Rattle.c6x_ports.specs.declared.shelf.ShelfError.TheVariants.{Missing, Failed, NoMemory}

-- a call whose number fails
pub fetched-failed : (s : ShelfInMemory) (name : List ℕ) (most : ℕ) → fails_next s.failing s.calls ≡ true → fetched s name most ≡ Err Failed
fetched-failed s name most fails = rw fails refl

-- a name that the files lack
pub fetched-None : (s : ShelfInMemory) (name : List ℕ) (most : ℕ) → fails_next s.failing s.calls ≡ false → file_at s.files name ≡ None → fetched s name most ≡ Err Missing
unfolding front_at
fetched-None s name most works lacks = rw (works, lacks) refl

-- a file
pub fetched-Some : (s : ShelfInMemory) (name : List ℕ) (most : ℕ) (bytes : List ℕ) → fails_next s.failing s.calls ≡ false → file_at s.files name ≡ Some bytes → fetched s name most ≡ Ok (take (most + 1) bytes)
unfolding front_at
fetched-Some s name most bytes works has = rw (works, has) refl

-- a copy of a file's front answers a fetch, or want of memory does
pub front_answers : (s : ShelfInMemory) (name : List ℕ) (most : ℕ) (bytes : List ℕ) (copied : Result (Vec ℕ Global) ShelfError) → fetched s name most ≡ Ok (take (most + 1) bytes) → IfOk copied (λ front. front.items ≡ take (most + 1) bytes) → IfErr copied (λ e. e ≡ NoMemory) → MatchResult copied (λ front. fetched s name most ≡ Ok front.items) (IsErrorOf (fetched s name most))
front_answers s name most bytes (Ok front) wanted is memory = cc
front_answers s name most bytes (Err Missing) wanted is memory = absurd (cc)
front_answers s name most bytes (Err Failed) wanted is memory = absurd (cc)
front_answers s name most bytes (Err NoMemory) wanted is memory = rw wanted refl
