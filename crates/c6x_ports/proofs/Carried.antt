use Rattle.std.proofs.Common.{◌≡◌, ℕ, ◌+◌, ◌≤◌, List, [], ◌++◌, length, take, drop, Option, Some, None, refl, sym, ◌∙◌, ap, append_assoc, append-nil}
use Rattle.std.proofs.Math.Seq.{take-add, take-append_seam, drop-append_seam}
use Rattle.std.proofs.lemmas.List.{take_all}
use Rattle.c6x_ports.specs.Streams.{GivesFront}
use Rattle.std.specs.Io.KnownBytes.{Appends, Consumes, Keeps, IsAtEnd}

-- A reader has given these bytes of those that it had left, and has the rest.
pub record HasGiven (left given : List ℕ) (now : Option (List ℕ)) : Type 0 where
  pub rest : List ℕ
  pub told : now ≡ Some rest
  pub whole : left ≡ given ++ rest

-- one more read gives the next bytes
pub HasGiven-read : (left given more : List ℕ) (before now : Option (List ℕ)) → HasGiven left given before → Consumes before now more → HasGiven left (given ++ more) now
HasGiven-read left given more None now had consumed = cc
HasGiven-read left given more (Some rest) None had consumed = absurd consumed
HasGiven-read left given more (Some rest) (Some now) had consumed =
    record { rest = now; told = refl; whole = had.whole ∙ ap (λ r. given ++ r) (cc) ∙ sym (append_assoc given more now) }

-- a read that failed gave nothing
pub HasGiven-kept : (left given : List ℕ) (before now : Option (List ℕ)) → HasGiven left given before → Keeps before now → HasGiven left given now
HasGiven-kept left given None now had kept = cc
HasGiven-kept left given (Some rest) None had kept = absurd kept
HasGiven-kept left given (Some rest) (Some now) had kept = record { rest = had.rest; told = cc; whole = had.whole }

-- what was given is a first part of what was left
pub given_front : (left given : List ℕ) (most : ℕ) (now : Option (List ℕ)) → length given ≤ most → HasGiven left given now → GivesFront left most now
given_front left given most now within had =
    record { count = length given; within = within; rest = rw (had.told, had.whole) (ap Some (sym (drop-append_seam given had.rest))) }

-- at the end of its bytes it has given all of them
pub given_all : (left given : List ℕ) (now : Option (List ℕ)) → HasGiven left given now → IsAtEnd now → left ≡ given
given_all left given None had end = cc had.told
given_all left given (Some rest) had end =
    let none : had.rest ≡ [] = cc in
    had.whole ∙ ap (λ r. given ++ r) none ∙ append-nil given

-- known bytes that are kept
pub Keeps-Some : (known : List ℕ) (before now : Option (List ℕ)) → before ≡ Some known → Keeps before now → now ≡ Some known
Keeps-Some known None now is kept = cc
Keeps-Some known (Some bytes) None is kept = absurd kept
Keeps-Some known (Some bytes) (Some after) is kept = cc

-- known bytes that grow
pub Appends-Some : (known more : List ℕ) (before now : Option (List ℕ)) → before ≡ Some known → Appends before now more → now ≡ Some (known ++ more)
Appends-Some known more None now is grown = cc
Appends-Some known more (Some bytes) None is grown = absurd grown
Appends-Some known more (Some bytes) (Some after) is grown = cc

-- a write that took `count` bytes of the part behind the first `done` has put that many more
pub wrote : (had bytes part : List ℕ) (done count : ℕ) (before now : Option (List ℕ)) → before ≡ Some (had ++ take done bytes) → part ≡ drop done bytes → Appends before now (take count part) → now ≡ Some (had ++ take (done + count) bytes)
wrote had bytes part done count before now is behind grown =
    Appends-Some _ _ before now is grown
    ∙ ap Some (append_assoc had (take done bytes) (take count part) ∙ ap (λ p. had ++ (take done bytes ++ take count p)) behind ∙ ap (λ t. had ++ t) (sym (take-add done count bytes)))

-- a reader that stops where fewer bytes than the limit were given has given the first of them
pub front_at_stop : (left given chunk : List ℕ) (limit count : ℕ) (before now : Option (List ℕ)) → length given ≤ limit → HasGiven left given before → count ≡ 0 → Consumes before now (take count chunk) → IsAtEnd now → given ≡ take limit left
front_at_stop left given chunk limit count before now within had none consumed end =
    let empty : take count chunk ≡ [] = rw none refl in
    let had_now : HasGiven left (given ++ []) now = rw (← empty) (HasGiven-read left given _ before now had consumed) in
    let all : left ≡ given = given_all left _ now had_now end ∙ append-nil given in
    rw all (sym (take_all limit given within))

-- and so has one that gave as many bytes as the limit
pub front_at_limit : (left given : List ℕ) (limit : ℕ) (now : Option (List ℕ)) → length given ≡ limit → HasGiven left given now → given ≡ take limit left
front_at_limit left given limit now full had = rw (had.whole, ← full) (sym (take-append_seam given had.rest))
