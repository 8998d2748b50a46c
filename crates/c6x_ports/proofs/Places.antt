use Rattle.std.proofs.Common.{◌≡◌, ℕ, ◌+◌, ◌<◌, ◌≤◌, Bool, true, false, not, cond, List, [], ◌∷◌, ◌++◌, length, Some, None, get_or, refl, sym, ap, arith, suc, set, ltb-true, ltb-false}
use Rattle.std.specs.List.{position, position_or_len}
use Rattle.std.specs.Str.{bytes_eq}
use Rattle.std.proofs.lemmas.Slice.Eq.{bytes_eq-Decides}
use Rattle.c6x_spec.specs.Files.{file_at, stored}
use Rattle.c6x_ports.specs.Told.{pairs_of, has_name}
use Rattle.c6x_ports.specs.declared.stored.Stored.{Stored}

-- where a choice between a place and none is a place, the test holds and it is that place
place_of : (test : Bool) (place at : ℕ) → cond test (Some place) None ≡ Some at → (test ≡ true) × (place ≡ at)
place_of true place at is = (refl, cc)
place_of false place at is = absurd (cc)

-- where it is none, the test fails
no_place : (test : Bool) (place : ℕ) → cond test (Some place) None ≡ None → test ≡ false
no_place true place is = absurd (cc)
no_place false place is = refl

-- the place of the first file of this name, or the number of files
abbrev place : List Stored → List ℕ → ℕ
place files name = position_or_len (has_name name) files

-- where no file has the name, none is found
file_at-past : (files : List Stored) (name : List ℕ) → length files ≤ place files name → file_at (pairs_of files) name ≡ None
file_at-past [] name past = refl
file_at-past (f ∷ fs) name past =
    elim (bytes_eq f.name name) as (λ b. length (f ∷ fs) ≤ cond (not b) (1 + place fs name) 0 → cond b (Some f.bytes) (file_at (pairs_of fs) name) ≡ None)
    [ true ↦ λ past. absurd (omega arith) | false ↦ λ past. file_at-past fs name (omega arith) ] past

-- the file at that place is the one that is found
file_at-within : (files : List Stored) (name : List ℕ) (d : Stored) → place files name < length files → file_at (pairs_of files) name ≡ Some (get_or files (place files name) d).bytes
file_at-within [] name d within = absurd (omega arith)
file_at-within (f ∷ fs) name d within =
    elim (bytes_eq f.name name) as (λ b. cond (not b) (1 + place fs name) 0 < length (f ∷ fs) → cond b (Some f.bytes) (file_at (pairs_of fs) name) ≡ Some (get_or (f ∷ fs) (cond (not b) (1 + place fs name) 0) d).bytes) [
      | true ↦ λ within. refl
      | false ↦ λ within.
          let more : suc (place fs name) ≡ 1 + place fs name = omega arith in
          rw (← more) (file_at-within fs name d (omega arith))
    ] within

-- where no file has the name, a store puts one last
stored-past : (files : List Stored) (name bytes : List ℕ) → length files ≤ place files name → stored (pairs_of files) name bytes ≡ pairs_of (files ++ record { name = name; bytes = bytes } ∷ [])
stored-past [] name bytes past = refl
stored-past (f ∷ fs) name bytes past =
    elim (bytes_eq f.name name) as (λ b. length (f ∷ fs) ≤ cond (not b) (1 + place fs name) 0 → cond b ((name, bytes) ∷ pairs_of fs) ((f.name, f.bytes) ∷ stored (pairs_of fs) name bytes) ≡ (f.name, f.bytes) ∷ pairs_of (fs ++ record { name = name; bytes = bytes } ∷ []))
    [ true ↦ λ past. absurd (omega arith) | false ↦ λ past. ap (λ rest. (f.name, f.bytes) ∷ rest) (stored-past fs name bytes (omega arith)) ] past

-- else it puts its bytes into the file at that place
stored-within : (files : List Stored) (name bytes : List ℕ) (d : Stored) → place files name < length files → stored (pairs_of files) name bytes ≡ pairs_of (set files (place files name) (record { name = (get_or files (place files name) d).name; bytes = bytes }))
stored-within [] name bytes d within = absurd (omega arith)
stored-within (f ∷ fs) name bytes d within =
    elim (bytes_eq f.name name) as (λ b. bytes_eq f.name name ≡ b → cond (not b) (1 + place fs name) 0 < length (f ∷ fs) → cond b ((name, bytes) ∷ pairs_of fs) ((f.name, f.bytes) ∷ stored (pairs_of fs) name bytes) ≡ pairs_of (set (f ∷ fs) (cond (not b) (1 + place fs name) 0) (record { name = (get_or (f ∷ fs) (cond (not b) (1 + place fs name) 0) d).name; bytes = bytes }))) [
      | true ↦ λ same within. ap (λ n. (n, bytes) ∷ pairs_of fs) (sym ((bytes_eq-Decides f.name name).0 same))
      | false ↦ λ same within.
          let more : suc (place fs name) ≡ 1 + place fs name = omega arith in
          rw (← more) (ap (λ rest. (f.name, f.bytes) ∷ rest) (stored-within fs name bytes d (omega arith)))
    ] refl within

-- no file of this name is placed: none is found, and a store puts one last
pub file_at-None : (files : List Stored) (name : List ℕ) → position (has_name name) files ≡ None → file_at (pairs_of files) name ≡ None
file_at-None files name is = file_at-past files name (ltb-false _ _ (no_place _ _ is))

pub stored-None : (files : List Stored) (name bytes : List ℕ) → position (has_name name) files ≡ None → stored (pairs_of files) name bytes ≡ pairs_of (files ++ record { name = name; bytes = bytes } ∷ [])
stored-None files name bytes is = stored-past files name bytes (ltb-false _ _ (no_place _ _ is))

-- a file is placed: it is found, and a store puts its bytes there
pub file_at-Some : (files : List Stored) (name : List ℕ) (at : ℕ) (d : Stored) → position (has_name name) files ≡ Some at → file_at (pairs_of files) name ≡ Some (get_or files at d).bytes
file_at-Some files name at d is =
    let found = place_of _ _ _ is in rw (← found.1) (file_at-within files name d (ltb-true _ _ found.0))

pub stored-Some : (files : List Stored) (name bytes : List ℕ) (at : ℕ) (d : Stored) → position (has_name name) files ≡ Some at → stored (pairs_of files) name bytes ≡ pairs_of (set files at (record { name = (get_or files at d).name; bytes = bytes }))
stored-Some files name bytes at d is =
    let found = place_of _ _ _ is in rw (← found.1) (stored-within files name bytes d (ltb-true _ _ found.0))
