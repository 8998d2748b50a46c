-- What is generated is within the limits of plans.
use Rattle.std.proofs.Common.{◌≡◌, ◌≢◌, ℕ, ◌+◌, ◌*◌, ◌<◌, ◌≤◌, List, [], ◌∷◌, ◌++◌, length, zero, suc, refl, sym, ap, subst, get_or, arith, lit<, lit≤, length-append}
use Rattle.std.specs.Prelude.{All, AllPairs, codes, decimal}
use Rattle.std.proofs.lemmas.Fmt.{decimal_injective, length-decimal-le}
use Rattle.std.proofs.lemmas.List.Elements.{All-nil, All-cons, All-push}
use Rattle.std.proofs.lemmas.List.Kept.{AllPairs-cons}
use Rattle.std.proofs.lemmas.List.Quantifiers.{all_pairs_push}
use Rattle.c6x_plan.specs.Limits.{HaveOtherNames, IsLinkPlan, IsProcess, IsRunPlan, IsShortName}
use Rattle.c6x_plan.specs.declared.module_plan.ModulePlan.{ModulePlan}
use Rattle.c6x_gen.specs.Generated.{generated}
use Rattle.c6x_gen.specs.Limits.{IsText, IsWithin}
use Rattle.c6x_gen.specs.Links.{app_link, app_name, library_link}
use Rattle.c6x_gen.specs.Lists.{each_below, each_library, each_process}
use Rattle.c6x_gen.specs.Plans.{module_named, plan_numbered, process_numbered}
use Rattle.c6x_gen.specs.Sources.{app_source, call_line, called, calls, closing, counter, function_code, library_name, library_source}

-- what holds of each holds of all
all_below : {X : Type 0} (P : X → Type 0) (f : ℕ → X) (n : ℕ) → ((i : ℕ) → i < n → P (f i)) → All P (each_below n (λ i. f i ∷ []))
unfolding each_below
all_below P f zero each = All-nil P
all_below P f (suc n) each =
    All-push P (each_below n (λ i. f i ∷ [])) (f n) (all_below P f n (λ i below. each i (omega (arith, below)))) (each n (omega arith))

pairs_below : {X : Type 0} (R : X → X → Type 0) (f : ℕ → X) (n : ℕ) → ((i j : ℕ) → i < j → j < n → R (f i) (f j)) → AllPairs R (each_below n (λ i. f i ∷ []))
unfolding each_below
pairs_below R f zero each = λ i j d before inside. absurd (omega (arith, inside))
pairs_below R f (suc n) each =
    all_pairs_push R (each_below n (λ i. f i ∷ [])) (f n)
    (pairs_below R f n (λ i j before inside. each i j before (omega (arith, inside))))
    (all_below (λ x. R x (f n)) f n (λ i below. each i n below (omega arith)))

count_below : {X : Type 0} (f : ℕ → X) (n : ℕ) → length (each_below n (λ i. f i ∷ [])) ≡ n
unfolding each_below
count_below f zero = refl
count_below f (suc n) =
    omega (arith, length-append (each_below n (λ i. f i ∷ [])) (f n ∷ []), count_below f n)

-- names are short, and no two are one
digits_short : (n : ℕ) → n < 100 → length (decimal n) ≤ 2
digits_short n small = length-decimal-le 2 n (lit< tt) small (omega (arith, small))

library_short : (k : ℕ) → k < 11 → IsShortName (library_name (k + 1))
library_short k few = omega (arith, digits_short (k + 1) (omega (arith, few)))

libraries_differ : (i j : ℕ) → i < j → j < 11 → library_name (i + 1) ≢ library_name (j + 1)
libraries_differ i j before inside same =
    let digits : decimal (i + 1) ≡ decimal (j + 1) = cc in
    omega (arith, decimal_injective (i + 1) (j + 1) (omega (arith, before, inside)) (omega (arith, inside)) digits)

library_is_within : (k : ℕ) → k < 11 → IsLinkPlan (library_link (k + 1))
library_is_within k few = record {
  needed = lit≤ tt;
  objects = lit≤ tt;
  names = All-nil IsShortName;
  soname = library_short k few;
  entry = tt;
}

app_is_within : IsLinkPlan app_link
app_is_within = record {
  needed = omega (arith, count_below (λ k. library_name (k + 1)) 11);
  objects = lit≤ tt;
  names = all_below IsShortName (λ k. library_name (k + 1)) 11 library_short;
  soname = tt;
  entry = lit≤ tt;
}

process_is_within : (number i : ℕ) → IsProcess 12 (process_numbered number i)
process_is_within number i = record {
  known = lit< tt;
  sizes = record { some = lit≤ tt; few = lit≤ tt; least = lit≤ tt; most = lit≤ tt; even = refl };
}

modules_differ : (i j : ℕ) → i < j → j < 11 → HaveOtherNames (module_named (library_name (i + 1))) (module_named (library_name (j + 1)))
modules_differ i j before inside = libraries_differ i j before inside

app_differs : (k : ℕ) → HaveOtherNames (module_named app_name) (module_named (library_name (k + 1)))
app_differs k same = let first : 97 ≡ 102 = ap (λ (word : List ℕ). get_or word 0 0) same in omega (arith, first)

plan_is_within : (number : ℕ) → IsRunPlan (plan_numbered number)
unfolding plan_numbered
plan_is_within number =
    let rest : List ModulePlan = each_library (λ k. module_named (library_name k)) in
    let count : length rest ≡ 11 = count_below (λ k. module_named (library_name (k + 1))) 11 in
    let processes : length (each_process (process_numbered number)) ≡ 8 = count_below (process_numbered number) 8 in
    record {
      quantum = (omega arith, omega arith);
      modules = omega (arith, count);
      distinct = AllPairs-cons HaveOtherNames (module_named app_name) rest
          (all_below (HaveOtherNames (module_named app_name)) (λ k. module_named (library_name (k + 1))) 11 (λ k few. app_differs k))
          (pairs_below HaveOtherNames (λ k. module_named (library_name (k + 1))) 11 modules_differ);
      some = omega (arith, processes);
      processes = omega (arith, processes);
      each = all_below (IsProcess (length (module_named app_name ∷ rest))) (process_numbered number) 8
          (λ i few. let twelve : length (module_named app_name ∷ rest) ≡ 12 = omega (arith, count) in subst (λ (n : ℕ). IsProcess n (process_numbered number i)) (sym twelve) (process_is_within number i));
    }

-- texts are not long
call_short : (number line : ℕ) → length (call_line number line) ≤ 60
call_short number line =
    omega (arith, length-append (library_name (called number line)) (codes ",B3\n"), digits_short (called number line) (omega arith))

calls_short : (number n : ℕ) → length (each_below n (call_line number)) ≤ 60 * n
unfolding each_below
calls_short number zero = lit≤ tt
calls_short number (suc n) =
    omega (arith, length-append (each_below n (call_line number)) (call_line number n), calls_short number n, call_short number n)

app_short : (number : ℕ) → IsText (app_source number)
unfolding app_source
app_short number =
    omega (arith, length-append (each_below (calls number) (call_line number)) closing, calls_short number (calls number))

seven : (a b c d e f g : List ℕ) → length (a ++ b ++ c ++ d ++ e ++ f ++ g) ≡ length a + length b + length c + length d + length e + length f + length g
seven a b c d e f g =
    omega (arith, length-append a b, length-append (a ++ b) c, length-append (a ++ b ++ c) d, length-append (a ++ b ++ c ++ d) e, length-append (a ++ b ++ c ++ d ++ e) f, length-append (a ++ b ++ c ++ d ++ e ++ f) g)

library_text : (number k : ℕ) → k < 11 → IsText (library_source number (k + 1))
unfolding library_source
library_text number k few =
    omega (arith, seven (codes "        .sect \".text\"\n        .global ") (library_name (k + 1)) (codes "\n") (library_name (k + 1)) function_code (decimal (counter number (k + 1))) (codes "\n"), digits_short (k + 1) (omega (arith, few)), length-decimal-le 3 (counter number (k + 1)) (lit< tt) (omega arith) (omega arith))

pub generated_within : (number : ℕ) → IsWithin (generated number)
unfolding generated plan_numbered
generated_within number = record {
  plan = plan_is_within number;
  links = All-cons IsLinkPlan app_link (each_library library_link) app_is_within (all_below IsLinkPlan (λ k. library_link (k + 1)) 11 library_is_within);
  texts = All-cons IsText (app_source number) (each_library (library_source number)) (app_short number) (all_below IsText (λ k. library_source number (k + 1)) 11 (library_text number));
  sourced = omega (arith, count_below (λ k. library_source number (k + 1)) 11, count_below (λ k. module_named (library_name (k + 1))) 11);
  linked = omega (arith, count_below (λ k. library_link (k + 1)) 11, count_below (λ k. module_named (library_name (k + 1))) 11);
}
