-- The search list of a number's executable, and the rules that ask for nothing of its fields but how many there are.
use Rattle.std.proofs.Common.{◌≡◌, ℕ, ◌+◌, ◌≤◌, nat_le, true, List, [], ◌∷◌, length, None, refl, arith, le-leb}
use Rattle.std.specs.Fmt.{digits}
use Rattle.c6x_place.specs.Binding.{counts_refusal, exec_refusal, fields_refusal, index_refusal, indices_refusal, missing_refusal, must, name_refusal, slots_refusal, table_refusal, unassigned_refusal}
use Rattle.c6x_place.specs.Needs.{needs_of}
use Rattle.c6x_place.specs.declared.limits.TheConstants.{MOST_FIELDS}
use Rattle.c6x_gen.specs.Lists.{each_below}
use Rattle.c6x_gen.proofs.Shapes.{Rest, shapes}
use Rattle.c6x_module.specs.declared.field.Field.{Field}
use Rattle.c6x_base.specs.Search.{search_of}
use Rattle.c6x_spec.specs.Firsts.{first_along}

-- the executable and the libraries, in order
abbrev pub members : List ℕ
members = 0 ∷ 1 ∷ 2 ∷ 3 ∷ 4 ∷ 5 ∷ 6 ∷ 7 ∷ 8 ∷ 9 ∷ 10 ∷ 11 ∷ []

pub search_is : (rest : Rest) (rests : ℕ → Rest) (imports : List (List ℕ)) (fields : List Field) → search_of (needs_of (shapes rest rests imports fields)) 0 ≡ members
unfolding shapes each_below digits search_of needs_of
search_is rest rests imports fields = refl

pub exec_passes : (rest : Rest) (rests : ℕ → Rest) (imports : List (List ℕ)) (fields : List Field) (process : ℕ) (called : List ℕ) → exec_refusal (shapes rest rests imports fields) process called 0 ≡ None
unfolding shapes each_below exec_refusal must
exec_passes rest rests imports fields process called = refl

pub none_missing : (rest : Rest) (rests : ℕ → Rest) (imports : List (List ℕ)) (fields : List Field) (process : ℕ) → first_along (missing_refusal (shapes rest rests imports fields) process) members ≡ None
unfolding shapes each_below digits name_refusal must
none_missing rest rests imports fields process = refl

pub indices_pass : (rest : Rest) (rests : ℕ → Rest) (imports : List (List ℕ)) (fields : List Field) (process : ℕ) (called : List ℕ) → indices_refusal (shapes rest rests imports fields) process called members ≡ None
unfolding shapes each_below indices_refusal unassigned_refusal index_refusal slots_refusal must
indices_pass rest rests imports fields process called = refl

few_pass : (count : ℕ) → count ≤ 11 → nat_le (count + 0) MOST_FIELDS ≡ true
few_pass count few = le-leb (count + 0) MOST_FIELDS (omega (arith, few))

pub counts_pass : (rest : Rest) (rests : ℕ → Rest) (imports : List (List ℕ)) (fields : List Field) (process : ℕ) (called : List ℕ) → length fields ≤ 11 → counts_refusal (shapes rest rests imports fields) process called members ≡ None
unfolding shapes each_below counts_refusal table_refusal fields_refusal must
counts_pass rest rests imports fields process called few = rw (few_pass (length fields) few) refl
