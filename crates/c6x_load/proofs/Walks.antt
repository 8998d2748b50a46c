-- The processes of a plan, one after the other.
use Rattle.std.proofs.Common.{◌≡◌, ℕ, ◌+◌, ◌<◌, ◌≤◌, List, [], ◌∷◌, ◌++◌, length, drop, get_or, sym, ap, ◌∙◌, subst, append_assoc, append-nil}
use Rattle.std.specs.Prelude.{Option}
use Rattle.std.proofs.lemmas.List.{drop_all, drop_more}
use Rattle.c6x_machine.specs.Origin.{Origin}
use Rattle.c6x_exec.specs.declared.process.Process.{Process}
use Rattle.c6x_module.specs.declared.module.Module.{Module}
use Rattle.c6x_plan.specs.declared.process_plan.ProcessPlan.{ProcessPlan}
use Rattle.c6x_place.specs.declared.bound_process.BoundProcess.{BoundProcess}
use Rattle.c6x_place.specs.declared.seat.Seat.{Seat}
use Rattle.c6x_load.specs.ProcessLaws.{AreAllBelow, IsBelow}
use Rattle.c6x_load.specs.Made.{AreMade, IsMade}
use Rattle.c6x_load.specs.Starts.{origins_of, process_origin}

origins_more : (modules : List Module) (texts : List (Option ℕ)) (bytes : ℕ → ℕ) (plans : List ProcessPlan) (bounds : List BoundProcess) (seats : List Seat) (i : ℕ) (d : ProcessPlan) (e : BoundProcess) (f : Seat) → i < length plans → i < length bounds → i < length seats → origins_of modules texts bytes (drop i plans) (drop i bounds) (drop i seats) ≡ (process_origin modules texts bytes (get_or plans i d) (get_or bounds i e) (get_or seats i f) ∷ origins_of modules texts bytes (drop (i + 1) plans) (drop (i + 1) bounds) (drop (i + 1) seats))
origins_more modules texts bytes plans bounds seats i d e f a b c =
    ap (λ (xs : List ProcessPlan). origins_of modules texts bytes xs (drop i bounds) (drop i seats)) (drop_more plans i d a)
    ∙ ap (λ (ys : List BoundProcess). origins_of modules texts bytes (get_or plans i d ∷ drop (i + 1) plans) ys (drop i seats)) (drop_more bounds i e b)
    ∙ ap (λ (zs : List Seat). origins_of modules texts bytes (get_or plans i d ∷ drop (i + 1) plans) (get_or bounds i e ∷ drop (i + 1) bounds) zs) (drop_more seats i f c)

-- one process more
pub made_more : (modules : List Module) (texts : List (Option ℕ)) (bytes : ℕ → ℕ) (plans : List ProcessPlan) (bounds : List BoundProcess) (seats : List Seat) (i : ℕ) (d : ProcessPlan) (e : BoundProcess) (f : Seat) (made next rest : List Process) (p : Process) (all : List Origin) → i < length plans → i < length bounds → i < length seats → d ≡ get_or plans i d → e ≡ get_or bounds i e → f ≡ get_or seats i f → next ≡ made ++ p ∷ [] → IsMade p (process_origin modules texts bytes d e f) → ((more : List Process) → AreMade more (origins_of modules texts bytes (drop i plans) (drop i bounds) (drop i seats)) → AreMade (made ++ more) all) → AreMade rest (origins_of modules texts bytes (drop (i + 1) plans) (drop (i + 1) bounds) (drop (i + 1) seats)) → AreMade (next ++ rest) all
made_more modules texts bytes plans bounds seats i d e f made next rest p all a b c one two three pushed is before left =
    let later = origins_of modules texts bytes (drop (i + 1) plans) (drop (i + 1) bounds) (drop (i + 1) seats) in
    let D : ProcessPlan → Type 0 = λ (x : ProcessPlan). IsMade p (process_origin modules texts bytes x e f) in
    let E : BoundProcess → Type 0 = λ (x : BoundProcess). IsMade p (process_origin modules texts bytes (get_or plans i d) x f) in
    let F : Seat → Type 0 = λ (x : Seat). IsMade p (process_origin modules texts bytes (get_or plans i d) (get_or bounds i e) x) in
    let here : IsMade p (process_origin modules texts bytes (get_or plans i d) (get_or bounds i e) (get_or seats i f)) = subst F three (subst E two (subst D one is)) in
    let O : List Origin → Type 0 = λ (os : List Origin). AreMade (p ∷ rest) os in
    let more : AreMade (p ∷ rest) (origins_of modules texts bytes (drop i plans) (drop i bounds) (drop i seats)) = subst O (sym (origins_more modules texts bytes plans bounds seats i d e f a b c)) (here, left) in
    let N : List Process → Type 0 = λ (ps : List Process). AreMade ps all in
    subst N (sym (append_assoc made (p ∷ []) rest) ∙ ap (λ (ps : List Process). ps ++ rest) (sym pushed)) (before (p ∷ rest) more)

pub below_more : (modules : List Module) (texts : List (Option ℕ)) (plans : List ProcessPlan) (bounds : List BoundProcess) (seats : List Seat) (i : ℕ) (d : ProcessPlan) (e : BoundProcess) (f : Seat) → i < length plans → i < length bounds → i < length seats → AreAllBelow modules texts (drop i plans) (drop i bounds) (drop i seats) → IsBelow modules (get_or plans i d) (get_or bounds i e) texts (get_or seats i f) × AreAllBelow modules texts (drop (i + 1) plans) (drop (i + 1) bounds) (drop (i + 1) seats)
below_more modules texts plans bounds seats i d e f a b c all =
    rw (drop_more plans i d a, drop_more bounds i e b, drop_more seats i f c) at all

-- where the members are named
pub here_below : (modules : List Module) (texts : List (Option ℕ)) (plans : List ProcessPlan) (bounds : List BoundProcess) (seats : List Seat) (i : ℕ) (d : ProcessPlan) (e : BoundProcess) (f : Seat) → i < length plans → i < length bounds → i < length seats → d ≡ get_or plans i d → e ≡ get_or bounds i e → f ≡ get_or seats i f → AreAllBelow modules texts (drop i plans) (drop i bounds) (drop i seats) → IsBelow modules d e texts f
here_below modules texts plans bounds seats i d e f a b c one two three all =
    let D : ProcessPlan → Type 0 = λ (x : ProcessPlan). IsBelow modules x e texts f in
    let E : BoundProcess → Type 0 = λ (x : BoundProcess). IsBelow modules (get_or plans i d) x texts f in
    let F : Seat → Type 0 = λ (x : Seat). IsBelow modules (get_or plans i d) (get_or bounds i e) texts x in
    subst D (sym one) (subst E (sym two) (subst F (sym three) (below_more modules texts plans bounds seats i d e f a b c all).0))

-- all processes
pub made_all : (modules : List Module) (texts : List (Option ℕ)) (bytes : ℕ → ℕ) (plans : List ProcessPlan) (bounds : List BoundProcess) (seats : List Seat) (i : ℕ) (made : List Process) (all : List Origin) → length plans ≤ i → ((more : List Process) → AreMade more (origins_of modules texts bytes (drop i plans) (drop i bounds) (drop i seats)) → AreMade (made ++ more) all) → AreMade made all
made_all modules texts bytes plans bounds seats i made all past before =
    let none : origins_of modules texts bytes (drop i plans) (drop i bounds) (drop i seats) ≡ [] = ap (λ (xs : List ProcessPlan). origins_of modules texts bytes xs (drop i bounds) (drop i seats)) (drop_all i plans past) in
    let O : List Origin → Type 0 = λ (os : List Origin). AreMade [] os in
    let N : List Process → Type 0 = λ (ps : List Process). AreMade ps all in
    subst N (append-nil made) (before [] (subst O (sym none) tt))
