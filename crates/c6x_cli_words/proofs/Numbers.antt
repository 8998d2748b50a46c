-- The number that `gen` takes.
use Rattle.std.proofs.Common.{◌≡◌, ℕ, ◌≤◌, Bool, true, false, List, refl, subst, arith}
use Rattle.std.specs.Prelude.{◌&&◌, Option, None, Some, nat_le, if◌then◌else◌}
use Rattle.std.proofs.lemmas.Bool.Decides.{nat_tests}
use Rattle.c6x_plan.specs.Words.{is_number, number_in, value_of}
use Rattle.c6x_cli_words.specs.Arguments.{generator_number}
use Rattle.c6x_cli_words.specs.Requests.{HasSmallNumber, IsReading}
use Rattle.c6x_cli_words.specs.declared.request.Request.{Request}
use Rattle.c6x_cli_words.specs.declared.request.Request.TheVariants.{Assemble, Dis, Generate, Link, Map, Run, Show}

kept : (value number : ℕ) (form least most : Bool) → nat_le value 999999 ≡ most → (if form && least && most then Some value else None) ≡ Some number → number ≤ 999999
kept value number true true true below is =
    let same : value ≡ number = cc in subst (λ (n : ℕ). n ≤ 999999) same (grind (arith, nat_tests))
kept value number true true false below is = absurd (cc)
kept value number true false most below is = absurd (cc)
kept value number false least most below is = absurd (cc)

small_number : (digits : List ℕ) (number : ℕ) → generator_number digits ≡ Some number → number ≤ 999999
unfolding generator_number number_in
small_number digits number is =
    kept (value_of digits) number (is_number digits) (nat_le 0 (value_of digits)) (nat_le (value_of digits) 999999) refl is

-- it has at most six digits
pub small_reading : (words : List (List ℕ)) (read : Option Request) → IsReading words read → HasSmallNumber read
small_reading words (Some (Generate number)) s = small_number s.digits number s.spelled
small_reading words (Some (Assemble input output)) s = tt
small_reading words (Some (Link plan output)) s = tt
small_reading words (Some (Dis input)) s = tt
small_reading words (Some (Show input)) s = tt
small_reading words (Some (Map plan)) s = tt
small_reading words (Some (Run plan policy seed turns)) s = tt
small_reading words None s = tt
