use Rattle.std.proofs.Common.{◌≡◌, ◌≢◌, ℕ, ◌≤◌, ◌<◌, ◌%◌, Bool, true, false, List, ◌++◌, ◌∷◌, [], length, refl, sym, ◌∙◌, subst, arith, lit≤, length-append, get_or}
use Rattle.std.specs.Prelude.{Option, None, Some, Result, Ok, Err, All, AllPairs, IfOk, IfSome, unwrap_or, codes, not, ◌||◌, ◌&&◌, ◌==◌, nat_le, map, if◌then◌else◌}
use Rattle.std.specs.List.{list_any, position_or_len}
use Rattle.std.specs.Option.{option_map}
use Rattle.std.specs.Str.{bytes_eq}
use Rattle.std.proofs.lemmas.Bool.Decides.{nat_tests}
use Rattle.std.proofs.lemmas.List.{length-map}
use Rattle.std.proofs.lemmas.List.Elements.{All-nil, All-push, All-map}
use Rattle.std.proofs.lemmas.List.Folds.{list_any-append, list_any_at}
use Rattle.std.proofs.lemmas.List.Quantifiers.{all_pairs_push}
use Rattle.std.proofs.lemmas.Slice.Eq.{bytes_eq-Decides}
use Rattle.c6x_spec.specs.Options.{◌>>=◌}
use Rattle.c6x_plan.specs.declared.limits.TheConstants.{MOST_MODULES, MOST_PROCESSES, MOST_CYCLES, MOST_QUANTUM, QUANTUM, LEAST_STACK, MOST_STACK}
use Rattle.c6x_plan.specs.declared.sizes.Sizes.{Sizes}
use Rattle.c6x_plan.specs.declared.module_plan.ModulePlan.{ModulePlan}
use Rattle.c6x_plan.specs.declared.run_draft.RunDraft.{RunDraft}
use Rattle.c6x_plan.specs.declared.run_line.ProcessLine.{ProcessLine}
use Rattle.c6x_plan.specs.declared.run_line.RunLine.{RunLine}
use Rattle.c6x_plan.specs.declared.run_line.RunLine.TheVariants.{Quantum, Module, Process}
use Rattle.c6x_plan.specs.declared.run_plan.RunPlan.{RunPlan}
use Rattle.c6x_plan.specs.Limits.{AreSizes, HaveOtherNames, IsProcess, IsQuantum, IsRunPlan}
use Rattle.c6x_plan.specs.Lines.{Said}
use Rattle.c6x_plan.specs.RunDrafts.{draft_rule, draft_with, plan_drafted, run_draft_of}
use Rattle.c6x_plan.specs.RunLines.{has_module, module_line, name_or_count, number_behind, process_line, quantum_line, run_line, sizes_in}
use Rattle.c6x_plan.specs.RunPlans.{process_of}
use Rattle.c6x_plan.specs.Rules.{drafted}
use Rattle.c6x_plan.specs.Words.{is_number, number_in, value_of}
use Rattle.c6x_plan.proofs.Drafting.{drafted_keeps}

abbrev HasSizes : ProcessLine → Type 0
HasSizes process = AreSizes process.sizes.limit process.sizes.stack

abbrev IsNamed : List ModulePlan → ProcessLine → Type 0
IsNamed modules process = has_module modules process.image ≡ true

-- a draft within the limits of a plan
record IsWithin (draft : RunDraft) : Type 0 where
  pub quantum : IfSome draft.quantum IsQuantum
  pub modules : length draft.modules ≤ 32
  pub distinct : AllPairs HaveOtherNames draft.modules
  pub processes : length draft.processes ≤ 16
  pub named : All (IsNamed draft.modules) draft.processes
  pub sizes : All HasSizes draft.processes

-- the numbers of a line are within their limits
abbrev IsSizedLine : RunLine → Type 0
IsSizedLine (Quantum quantum) = IsQuantum quantum
IsSizedLine (Module image) = Unit {0}
IsSizedLine (Process process) = HasSizes process

number_kept : (least most value : ℕ) (form a b : Bool) (n : ℕ) → nat_le least value ≡ a → nat_le value most ≡ b → (if form && a && b then Some value else None) ≡ Some n → (least ≤ n) × (n ≤ most)
number_kept least most value true true true n low high is =
    let same : value ≡ n = cc in
    subst (λ (k : ℕ). (least ≤ k) × (k ≤ most)) same (grind (arith, nat_tests), grind (arith, nat_tests))
number_kept least most value true true false n low high is = absurd (cc)
number_kept least most value true false b n low high is = absurd (cc)
number_kept least most value false a b n low high is = absurd (cc)

number_within : (least most : ℕ) (digits : List ℕ) (n : ℕ) → number_in least most digits ≡ Some n → (least ≤ n) × (n ≤ most)
unfolding number_in
number_within least most digits n is = number_kept least most (value_of digits) (is_number digits) _ _ n refl refl is

behind_kept : (least most : ℕ) (found : Option ℕ) (rest : List (List ℕ)) (r : ℕ × List (List ℕ)) → ((n : ℕ) → found ≡ Some n → (least ≤ n) × (n ≤ most)) → option_map (λ number. (number, rest)) found ≡ Some r → (least ≤ r.0) × (r.0 ≤ most)
behind_kept least most None rest r all is = absurd (cc)
behind_kept least most (Some n) rest r all is = let same : n ≡ r.0 = cc in subst (λ (k : ℕ). (least ≤ k) × (k ≤ most)) same (all n refl)

behind_if : (test : Bool) (least most : ℕ) (found : Option ℕ) (rest : List (List ℕ)) (r : ℕ × List (List ℕ)) → ((n : ℕ) → found ≡ Some n → (least ≤ n) × (n ≤ most)) → (if test then option_map (λ number. (number, rest)) found else None) ≡ Some r → (least ≤ r.0) × (r.0 ≤ most)
behind_if true least most found rest r all is = behind_kept least most found rest r all is
behind_if false least most found rest r all is = absurd (cc)

behind_within : (key : List ℕ) (least most : ℕ) (words : List (List ℕ)) (r : ℕ × List (List ℕ)) → number_behind key least most words ≡ Some r → (least ≤ r.0) × (r.0 ≤ most)
unfolding number_behind
behind_within key least most [] r is = absurd (cc)
behind_within key least most (word ∷ []) r is = absurd (cc)
behind_within key least most (word ∷ digits ∷ rest) r is = behind_if (bytes_eq word key) least most (number_in least most digits) rest r (number_within least most digits) is

sizes_end : (limit stack arg : ℕ) (over : Bool) (even : Bool) (sizes : Sizes) → (stack % 8 == 0) ≡ even → (1 ≤ limit) × (limit ≤ MOST_CYCLES) → (LEAST_STACK ≤ stack) × (stack ≤ MOST_STACK) → (if over && even then Some (record { limit = limit; stack = stack; arg = arg }) else None) ≡ Some sizes → AreSizes sizes.limit sizes.stack
sizes_end limit stack arg true true sizes even l s is =
    let a : limit ≡ sizes.limit = cc in
    let b : stack ≡ sizes.stack = cc in
    let zero : stack % 8 ≡ 0 = grind (arith, nat_tests) in
    subst (λ (n : ℕ). AreSizes n sizes.stack) a (subst (λ (n : ℕ). AreSizes limit n) b (record { some = l.0; few = l.1; least = s.0; most = s.1; even = zero }))
sizes_end limit stack arg true false sizes even l s is = absurd (cc)
sizes_end limit stack arg false even sizes is_even l s is = absurd (cc)

sizes_arg : (limit stack : ℕ) (found : Option (ℕ × List (List ℕ))) (sizes : Sizes) → (1 ≤ limit) × (limit ≤ MOST_CYCLES) → (LEAST_STACK ≤ stack) × (stack ≤ MOST_STACK) → (found >>= λ arg. if length arg.1 == 0 && stack % 8 == 0 then Some (record { limit = limit; stack = stack; arg = arg.0 }) else None) ≡ Some sizes → AreSizes sizes.limit sizes.stack
sizes_arg limit stack None sizes l s is = absurd (cc)
sizes_arg limit stack (Some arg) sizes l s is = sizes_end limit stack arg.0 (length arg.1 == 0) (stack % 8 == 0) sizes refl l s is

sizes_stack : (limit : ℕ) (found : Option (ℕ × List (List ℕ))) (sizes : Sizes) → (1 ≤ limit) × (limit ≤ MOST_CYCLES) → ((r : ℕ × List (List ℕ)) → found ≡ Some r → (LEAST_STACK ≤ r.0) × (r.0 ≤ MOST_STACK)) → (found >>= λ stack. number_behind (codes "arg") 0 4294967295 stack.1 >>= λ arg. if length arg.1 == 0 && stack.0 % 8 == 0 then Some (record { limit = limit; stack = stack.0; arg = arg.0 }) else None) ≡ Some sizes → AreSizes sizes.limit sizes.stack
sizes_stack limit None sizes l all is = absurd (cc)
sizes_stack limit (Some stack) sizes l all is = sizes_arg limit stack.0 (number_behind (codes "arg") 0 4294967295 stack.1) sizes l (all stack refl) is

sizes_limit : (found : Option (ℕ × List (List ℕ))) (sizes : Sizes) → ((r : ℕ × List (List ℕ)) → found ≡ Some r → (1 ≤ r.0) × (r.0 ≤ MOST_CYCLES)) → (found >>= λ limit. number_behind (codes "stack") LEAST_STACK MOST_STACK limit.1 >>= λ stack. number_behind (codes "arg") 0 4294967295 stack.1 >>= λ arg. if length arg.1 == 0 && stack.0 % 8 == 0 then Some (record { limit = limit.0; stack = stack.0; arg = arg.0 }) else None) ≡ Some sizes → AreSizes sizes.limit sizes.stack
sizes_limit None sizes all is = absurd (cc)
sizes_limit (Some limit) sizes all is = sizes_stack limit.0 (number_behind (codes "stack") LEAST_STACK MOST_STACK limit.1) sizes (all limit refl) (behind_within (codes "stack") LEAST_STACK MOST_STACK limit.1) is

sizes_within : (words : List (List ℕ)) (sizes : Sizes) → sizes_in words ≡ Some sizes → AreSizes sizes.limit sizes.stack
unfolding sizes_in
sizes_within words sizes is = sizes_limit (number_behind (codes "limit") 1 MOST_CYCLES words) sizes (behind_within (codes "limit") 1 MOST_CYCLES words) is

this : (line m : RunLine) → IsSizedLine line → Some line ≡ Some m → IsSizedLine m
this line m sized is = let same : line ≡ m = cc in subst IsSizedLine same sized

process_mapped : (name image : List ℕ) (found : Option Sizes) (m : RunLine) → ((sizes : Sizes) → found ≡ Some sizes → AreSizes sizes.limit sizes.stack) → option_map (λ numbers. Process (record { name = name; image = image; sizes = numbers })) found ≡ Some m → IsSizedLine m
process_mapped name image None m all is = absurd (cc)
process_mapped name image (Some sizes) m all is = this (Process (record { name = name; image = image; sizes = sizes })) m (all sizes refl) is

process_if : (test : Bool) (name image : List ℕ) (found : Option Sizes) (m : RunLine) → ((sizes : Sizes) → found ≡ Some sizes → AreSizes sizes.limit sizes.stack) → (if test then option_map (λ numbers. Process (record { name = name; image = image; sizes = numbers })) found else None) ≡ Some m → IsSizedLine m
process_if true name image found m all is = process_mapped name image found m all is
process_if false name image found m all is = absurd (cc)

process_sized : (key name image : List ℕ) (words : List (List ℕ)) (m : RunLine) → process_line key name image (sizes_in words) ≡ Some m → IsSizedLine m
unfolding process_line
process_sized key name image words m is = process_if _ name image (sizes_in words) m (sizes_within words) is

module_if : (test : Bool) (image : ModulePlan) (m : RunLine) → (if test then Some (Module image) else None) ≡ Some m → IsSizedLine m
module_if true image m is = this (Module image) m tt is
module_if false image m is = absurd (cc)

module_sized : (key name file : List ℕ) (m : RunLine) → module_line key name file ≡ Some m → IsSizedLine m
unfolding module_line
module_sized key name file m is = module_if _ (record { name = name; file = file }) m is

quantum_mapped : (found : Option ℕ) (m : RunLine) → ((n : ℕ) → found ≡ Some n → IsQuantum n) → option_map Quantum found ≡ Some m → IsSizedLine m
quantum_mapped None m all is = absurd (cc)
quantum_mapped (Some n) m all is = this (Quantum n) m (all n refl) is

quantum_if : (test : Bool) (found : Option ℕ) (m : RunLine) → ((n : ℕ) → found ≡ Some n → IsQuantum n) → (if test then option_map Quantum found else None) ≡ Some m → IsSizedLine m
quantum_if true found m all is = quantum_mapped found m all is
quantum_if false found m all is = absurd (cc)

quantum_sized : (key word : List ℕ) (m : RunLine) → quantum_line key word ≡ Some m → IsSizedLine m
unfolding quantum_line
quantum_sized key word m is =
    quantum_if (bytes_eq key (codes "quantum")) (number_in 1 MOST_QUANTUM word) m (number_within 1 MOST_QUANTUM word) is

line_sized : (words : List (List ℕ)) (m : RunLine) → run_line words ≡ Some m → IsSizedLine m
unfolding run_line
line_sized [] m is = absurd (cc)
line_sized (key ∷ []) m is = absurd (cc)
line_sized (key ∷ word ∷ []) m is = quantum_sized key word m is
line_sized (key ∷ name ∷ file ∷ []) m is = module_sized key name file m is
line_sized (key ∷ name ∷ image ∷ number ∷ numbers) m is = process_sized key name image (number ∷ numbers) m is

-- what a rule that is not broken tells
not_named : (named full : Bool) → name_or_count named full ≡ None → named ≡ false
not_named true full none = absurd (cc)
not_named false full none = refl

not_full : (named full : Bool) → name_or_count named full ≡ None → full ≡ false
not_full true full none = absurd (cc)
not_full false true none = absurd (cc)
not_full false false none = refl

one_more : {X : Type 0} (most : ℕ) (xs : List X) (x : X) → nat_le most (length xs) ≡ false → length (xs ++ x ∷ []) ≤ most
one_more most xs x below = let size = length-append xs (x ∷ []) in grind (arith, nat_tests)

is_known : (known named : Bool) → (not known || named) ≡ false → known ≡ true
is_known true named none = refl
is_known false named none = absurd (cc)

-- a name that no module has is another's
other_name : (modules : List ModulePlan) (image : ModulePlan) → has_module modules image.name ≡ false → (k : ℕ) (d : ModulePlan) → k < length modules → HaveOtherNames (get_or modules k d) image
other_name modules image none k d inside same =
    absurd (true≢none (sym (list_any_at (λ (m : ModulePlan). bytes_eq m.name image.name) modules k d inside ((bytes_eq-Decides (get_or modules k d).name image.name).1 same)) ∙ none))
  where
    true≢none : true ≢ false
    true≢none e = absurd (cc)

still_named : (modules : List ModulePlan) (image : ModulePlan) (name : List ℕ) → has_module modules name ≡ true → has_module (modules ++ image ∷ []) name ≡ true
still_named modules image name is = list_any-append (λ (m : ModulePlan). bytes_eq m.name name) modules (image ∷ []) ∙ rw is refl

by_line : (d : RunDraft) (m : RunLine) → IsSizedLine m → draft_rule d m ≡ None → IsWithin d → IsWithin (draft_with d m)
unfolding draft_rule draft_with
by_line d (Quantum quantum) sized is w = record { quantum = sized; modules = w.modules; distinct = w.distinct; processes = w.processes; named = w.named; sizes = w.sizes }
by_line d (Module image) sized is w = record {
  quantum = w.quantum;
  modules = one_more MOST_MODULES d.modules image (not_full _ _ is);
  distinct = all_pairs_push HaveOtherNames d.modules image w.distinct (other_name d.modules image (not_named _ _ is));
  processes = w.processes;
  named = λ k e inside. still_named d.modules image (get_or d.processes k e).image (w.named k e inside);
  sizes = w.sizes;
}
by_line d (Process process) sized is w = record {
  quantum = w.quantum;
  modules = w.modules;
  distinct = w.distinct;
  processes = one_more MOST_PROCESSES d.processes process (not_full _ _ is);
  named = All-push (IsNamed d.modules) d.processes process w.named (is_known _ _ (not_named _ _ is));
  sizes = All-push HasSizes d.processes process w.sizes sized;
}

none_within : IsWithin (run_draft_of [])
none_within = record {
  quantum = tt;
  modules = lit≤ tt;
  distinct = λ i j d before inside. absurd (grind (arith));
  processes = lit≤ tt;
  named = All-nil (IsNamed []);
  sizes = All-nil HasSizes;
}

-- the place of a module that is there
place_here : {X : Type 0} (p : X → Bool) (x : X) (xs : List X) (t : Bool) → p x ≡ t → (list_any p xs ≡ true → position_or_len p xs < length xs) → list_any p (x ∷ xs) ≡ true → position_or_len p (x ∷ xs) < length (x ∷ xs)
place_here p x xs true first later is = rw first (grind (arith))
place_here p x xs false first later is =
    let skip : list_any p (x ∷ xs) ≡ list_any p xs = rw first refl in
    let below = later (sym skip ∙ is) in
    rw first (grind (arith))

place_below : {X : Type 0} (p : X → Bool) (xs : List X) → list_any p xs ≡ true → position_or_len p xs < length xs
place_below p [] is = absurd (cc)
place_below p (x ∷ xs) is = place_here p x xs (p x) refl (place_below p xs) is

process_known : (modules : List ModulePlan) (line : ProcessLine) → IsNamed modules line → HasSizes line → IsProcess (length modules) (process_of modules line)
process_known modules line named sizes = record { known = place_below (λ (m : ModulePlan). bytes_eq m.name line.image) modules named; sizes = sizes }

each_known : (modules : List ModulePlan) (lines : List ProcessLine) → All (IsNamed modules) lines → All HasSizes lines → All (IsProcess (length modules)) (map (process_of modules) lines)
each_known modules lines named sizes =
    All-map (IsProcess (length modules)) (process_of modules) lines (λ k d inside. process_known modules (get_or lines k d) (named k d inside) (sizes k d inside))

quantum_or : (quantum : Option ℕ) → IfSome quantum IsQuantum → IsQuantum (unwrap_or quantum QUANTUM)
quantum_or None is = (lit≤ tt, lit≤ tt)
quantum_or (Some n) is = is

-- so a plan that was read is within its limits
pub draft_within : (lines : List Said) (draft : RunDraft) → drafted run_line draft_rule draft_with (run_draft_of []) lines ≡ Ok draft → 1 ≤ length (plan_drafted draft).processes → IsRunPlan (plan_drafted draft)
draft_within lines draft all some =
    let w = drafted_keeps run_line draft_rule draft_with IsWithin (λ d words m meant is within. by_line d m (line_sized words m meant) is within) lines (run_draft_of []) draft all none_within in
    record {
      quantum = quantum_or draft.quantum w.quantum;
      modules = w.modules;
      distinct = w.distinct;
      some = some;
      processes = rw length-map w.processes;
      each = each_known draft.modules draft.processes w.named w.sizes;
    }

pub all_within : {E : Type 0} (result : Result RunPlan E) (draft : RunDraft) → IfOk result (λ plan. plan ≡ plan_drafted draft) → IfOk result (λ plan. 1 ≤ length plan.processes) → (1 ≤ length (plan_drafted draft).processes → IsRunPlan (plan_drafted draft)) → IfOk result IsRunPlan
all_within (Ok plan) draft is some within =
    subst IsRunPlan (sym is) (within (subst (λ (p : RunPlan). 1 ≤ length p.processes) is some))
all_within (Err error) draft is some within = tt
