-- How each list is walked: what is left of it, one member further.
use Rattle.std.proofs.Common.{◌≡◌, ℕ, suc, ◌+◌, ◌<◌, List, [], ◌∷◌, length, drop, get_or, refl, ap, ◌∙◌}
use Rattle.std.proofs.lemmas.List.{drop_more}
use Rattle.c6x_spec.specs.Firsts.{◌<|>◌}
use Rattle.c6x_spec.specs.Options.{◌>>=◌}
use Rattle.c6x_module.specs.declared.module.Module.{Module}
use Rattle.c6x_plan.specs.declared.process_plan.ProcessPlan.{ProcessPlan}
use Rattle.c6x_place.specs.Binding.{process_refusal}
use Rattle.c6x_place.specs.declared.bound_process.BoundProcess.{BoundProcess}
use Rattle.c6x_place.specs.declared.seat.Seat.{Seat}
use Rattle.c6x_place.specs.Plans.{plans_refusal, is_used, used_from, one_seat, seats_from}

pub plans_more : (modules : List Module) (process : ℕ) (plans : List ProcessPlan) (i : ℕ) (d : ProcessPlan) → i < length plans → plans_refusal modules process (drop i plans) ≡ (process_refusal modules process (get_or plans i d).name (get_or plans i d).module <|> plans_refusal modules (process + 1) (drop (i + 1) plans))
plans_more modules process plans i d below = ap (plans_refusal modules process) (drop_more plans i d below)

pub used_more : (bounds : List BoundProcess) (from : ℕ) (modules : List Module) (i : ℕ) (d : Module) → i < length modules → used_from bounds from (drop i modules) ≡ (is_used bounds from ∷ used_from bounds (from + 1) (drop (i + 1) modules))
used_more bounds from modules i d below = ap (used_from bounds from) (drop_more modules i d below)

pub length_used : (bounds : List BoundProcess) (from : ℕ) (modules : List Module) → length (used_from bounds from modules) ≡ length modules
length_used bounds from [] = refl
length_used bounds from (m ∷ modules) = ap suc (length_used bounds (from + 1) modules)

pub seats_more : (modules : List Module) (front : List Seat) (cursor end : ℕ) (plans : List ProcessPlan) (bounds : List BoundProcess) (i : ℕ) (d : ProcessPlan) (e : BoundProcess) → i < length plans → i < length bounds → seats_from modules front cursor end (drop i plans) (drop i bounds) ≡ (one_seat front modules cursor end (get_or bounds i e).modules (get_or plans i d).stack >>= λ next. seats_from modules next.0 next.1 end (drop (i + 1) plans) (drop (i + 1) bounds))
seats_more modules front cursor end plans bounds i d e below within =
    ap (λ (xs : List ProcessPlan). seats_from modules front cursor end xs (drop i bounds)) (drop_more plans i d below)
    ∙ ap (λ (ys : List BoundProcess). seats_from modules front cursor end (get_or plans i d ∷ drop (i + 1) plans) ys) (drop_more bounds i e within)
