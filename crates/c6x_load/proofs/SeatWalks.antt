-- The seats of the processes, one after the other.
use Rattle.std.proofs.Common.{◌≡◌, ℕ, ◌+◌, ◌<◌, Bool, List, ◌∷◌, ◌++◌, length, drop, get_or, sym, ap, ◌∙◌, subst}
use Rattle.std.specs.Prelude.{Option}
use Rattle.std.proofs.lemmas.List.{drop_more}
use Rattle.c6x_spec.specs.Memory.{Memory}
use Rattle.c6x_spec.specs.Parts.{AreOn, Part, filled_with}
use Rattle.c6x_spec.proofs.PartsHeld.{filled_append, filled_on, on_back, on_front}
use Rattle.c6x_module.specs.declared.module.Module.{Module}
use Rattle.c6x_plan.specs.declared.process_plan.ProcessPlan.{ProcessPlan}
use Rattle.c6x_place.specs.declared.bound_process.BoundProcess.{BoundProcess}
use Rattle.c6x_place.specs.declared.seat.Seat.{Seat}
use Rattle.c6x_load.specs.Loaded.{AreAllSeated, IsSeated, seat_parts, seats_parts}

pub seated_more : (modules : List Module) (bounds : List BoundProcess) (seats : List Seat) (i : ℕ) (d : BoundProcess) (e : Seat) → i < length bounds → i < length seats → AreAllSeated modules (drop i bounds) (drop i seats) → IsSeated modules (get_or bounds i d) (get_or seats i e) × AreAllSeated modules (drop (i + 1) bounds) (drop (i + 1) seats)
seated_more modules bounds seats i d e below within all = rw (drop_more bounds i d below, drop_more seats i e within) at all

parts_more : (big : Bool) (modules : List Module) (texts : List (Option ℕ)) (plans : List ProcessPlan) (bounds : List BoundProcess) (seats : List Seat) (i : ℕ) (d : ProcessPlan) (e : BoundProcess) (f : Seat) → i < length plans → i < length bounds → i < length seats → seats_parts big modules texts (drop i plans) (drop i bounds) (drop i seats) ≡ seat_parts big modules (get_or plans i d).stack (get_or bounds i e) texts (get_or seats i f) ++ seats_parts big modules texts (drop (i + 1) plans) (drop (i + 1) bounds) (drop (i + 1) seats)
parts_more big modules texts plans bounds seats i d e f a b c =
    ap (λ (xs : List ProcessPlan). seats_parts big modules texts xs (drop i bounds) (drop i seats)) (drop_more plans i d a)
    ∙ ap (λ (ys : List BoundProcess). seats_parts big modules texts (get_or plans i d ∷ drop (i + 1) plans) ys (drop i seats)) (drop_more bounds i e b)
    ∙ ap (λ (zs : List Seat). seats_parts big modules texts (get_or plans i d ∷ drop (i + 1) plans) (get_or bounds i e ∷ drop (i + 1) bounds) zs) (drop_more seats i f c)

-- one seat more
pub seats_step : (big : Bool) (modules : List Module) (texts : List (Option ℕ)) (plans : List ProcessPlan) (bounds : List BoundProcess) (seats : List Seat) (i : ℕ) (d : ProcessPlan) (e : BoundProcess) (f : Seat) (before after : Memory) → i < length plans → i < length bounds → i < length seats → after ≡ filled_with (seat_parts big modules (get_or plans i d).stack (get_or bounds i e) texts (get_or seats i f)) before → filled_with (seats_parts big modules texts (drop i plans) (drop i bounds) (drop i seats)) before ≡ filled_with (seats_parts big modules texts (drop (i + 1) plans) (drop (i + 1) bounds) (drop (i + 1) seats)) after
seats_step big modules texts plans bounds seats i d e f before after a b c is =
    let here = seat_parts big modules (get_or plans i d).stack (get_or bounds i e) texts (get_or seats i f) in
    let rest = seats_parts big modules texts (drop (i + 1) plans) (drop (i + 1) bounds) (drop (i + 1) seats) in
    ap (λ (ps : List Part). filled_with ps before) (parts_more big modules texts plans bounds seats i d e f a b c)
    ∙ filled_append here rest before ∙ ap (filled_with rest) (sym is)

pub seats_here : (big : Bool) (modules : List Module) (texts : List (Option ℕ)) (plans : List ProcessPlan) (bounds : List BoundProcess) (seats : List Seat) (i : ℕ) (d : ProcessPlan) (e : BoundProcess) (f : Seat) (before : Memory) → i < length plans → i < length bounds → i < length seats → AreOn before (seats_parts big modules texts (drop i plans) (drop i bounds) (drop i seats)) → AreOn before (seat_parts big modules (get_or plans i d).stack (get_or bounds i e) texts (get_or seats i f))
seats_here big modules texts plans bounds seats i d e f before a b c on =
    on_front _ _ before (subst (AreOn before) (parts_more big modules texts plans bounds seats i d e f a b c) on)

pub seats_left : (big : Bool) (modules : List Module) (texts : List (Option ℕ)) (plans : List ProcessPlan) (bounds : List BoundProcess) (seats : List Seat) (i : ℕ) (d : ProcessPlan) (e : BoundProcess) (f : Seat) (before after : Memory) → i < length plans → i < length bounds → i < length seats → after ≡ filled_with (seat_parts big modules (get_or plans i d).stack (get_or bounds i e) texts (get_or seats i f)) before → AreOn before (seats_parts big modules texts (drop i plans) (drop i bounds) (drop i seats)) → AreOn after (seats_parts big modules texts (drop (i + 1) plans) (drop (i + 1) bounds) (drop (i + 1) seats))
seats_left big modules texts plans bounds seats i d e f before after a b c is on =
    let here = seat_parts big modules (get_or plans i d).stack (get_or bounds i e) texts (get_or seats i f) in
    let rest = seats_parts big modules texts (drop (i + 1) plans) (drop (i + 1) bounds) (drop (i + 1) seats) in
    let all = subst (AreOn before) (parts_more big modules texts plans bounds seats i d e f a b c) on in
    rw is (filled_on here rest before (on_front here rest before all) (on_back here rest before all))

-- the same where the members are named
seat_same : (big : Bool) (modules : List Module) (texts : List (Option ℕ)) (p q : ProcessPlan) (b c : BoundProcess) (s t : Seat) → p ≡ q → b ≡ c → s ≡ t → seat_parts big modules p.stack b texts s ≡ seat_parts big modules q.stack c texts t
seat_same big modules texts p q b c s t one two three =
    ap (λ (x : ProcessPlan). seat_parts big modules x.stack b texts s) one
    ∙ ap (λ (x : BoundProcess). seat_parts big modules q.stack x texts s) two
    ∙ ap (λ (x : Seat). seat_parts big modules q.stack c texts x) three

pub one_seated : (modules : List Module) (bounds : List BoundProcess) (seats : List Seat) (i : ℕ) (b : BoundProcess) (s : Seat) → b ≡ get_or bounds i b → s ≡ get_or seats i s → i < length bounds → i < length seats → AreAllSeated modules (drop i bounds) (drop i seats) → IsSeated modules b s
one_seated modules bounds seats i b s two three below within all =
    let B : BoundProcess → Type 0 = λ (x : BoundProcess). IsSeated modules x s in
    let S : Seat → Type 0 = λ (x : Seat). IsSeated modules (get_or bounds i b) x in
    subst B (sym two) (subst S (sym three) (seated_more modules bounds seats i b s below within all).0)

pub one_room : (big : Bool) (modules : List Module) (texts : List (Option ℕ)) (plans : List ProcessPlan) (bounds : List BoundProcess) (seats : List Seat) (i : ℕ) (p : ProcessPlan) (b : BoundProcess) (s : Seat) (before : Memory) → p ≡ get_or plans i p → b ≡ get_or bounds i b → s ≡ get_or seats i s → i < length plans → i < length bounds → i < length seats → AreOn before (seats_parts big modules texts (drop i plans) (drop i bounds) (drop i seats)) → AreOn before (seat_parts big modules p.stack b texts s)
one_room big modules texts plans bounds seats i p b s before one two three x y z on =
    subst (AreOn before) (sym (seat_same big modules texts p (get_or plans i p) b (get_or bounds i b) s (get_or seats i s) one two three)) (seats_here big modules texts plans bounds seats i p b s before x y z on)

pub one_after : (big : Bool) (modules : List Module) (texts : List (Option ℕ)) (plans : List ProcessPlan) (bounds : List BoundProcess) (seats : List Seat) (i : ℕ) (p : ProcessPlan) (b : BoundProcess) (s : Seat) (before after : Memory) → p ≡ get_or plans i p → b ≡ get_or bounds i b → s ≡ get_or seats i s → after ≡ filled_with (seat_parts big modules p.stack b texts s) before → after ≡ filled_with (seat_parts big modules (get_or plans i p).stack (get_or bounds i b) texts (get_or seats i s)) before
one_after big modules texts plans bounds seats i p b s before after one two three is =
    is ∙ ap (λ (ps : List Part). filled_with ps before) (seat_same big modules texts p (get_or plans i p) b (get_or bounds i b) s (get_or seats i s) one two three)
