-- How each list of lines is walked: what is left of it, one member further.
use Rattle.std.proofs.Common.{◌≡◌, ℕ, zero, suc, ◌+◌, ◌<◌, List, [], ◌∷◌, ◌++◌, length, drop, get_or, sym, ap, ◌∙◌, subst, arith}
use Rattle.std.specs.Prelude.{Option, Some, slice_get}
use Rattle.std.proofs.lemmas.List.{drop_more}
use Rattle.c6x_spec.specs.Memory.{Memory}
use Rattle.c6x_machine.specs.Origin.{Origin}
use Rattle.c6x_base.specs.Search.{AreBelow}
use Rattle.c6x_module.specs.declared.field.Field.{Field}
use Rattle.c6x_module.specs.declared.module.Module.{Module}
use Rattle.c6x_plan.specs.declared.process_plan.ProcessPlan.{ProcessPlan}
use Rattle.c6x_place.specs.declared.bound_process.BoundProcess.{BoundProcess}
use Rattle.c6x_place.specs.declared.seat.Seat.{Seat}
use Rattle.c6x_cli_run.specs.Bases.{placed_text, range_line, range_lines, seat_lines, seats_lines, text_lines}
use Rattle.c6x_cli_run.specs.Ends.{ends_from, life_line}
use Rattle.c6x_cli_run.specs.Held.{AreRangesOn, AreSeatsOn, IsRangeOn, held_field, held_fields, held_member, held_members, held_processes}
use Rattle.c6x_cli_run.specs.Settled.{HasSeat, HaveSeats}

pub texts_rest : (ms : List Module) (ts : List (Option ℕ)) (k : ℕ) (m : Module) (t : Option ℕ) → m ≡ get_or ms k m → k < length ms → k < length ts → text_lines (drop k ms) (drop k ts) ≡ placed_text m (get_or ts k t) ++ text_lines (drop (k + 1) ms) (drop (k + 1) ts)
texts_rest ms ts k m t here below within =
    ap (λ (xs : List Module). text_lines xs (drop k ts)) (drop_more ms k m below)
    ∙ ap (λ (ys : List (Option ℕ)). text_lines (get_or ms k m ∷ drop (k + 1) ms) ys) (drop_more ts k t within)
    ∙ ap (λ (x : Module). placed_text x (get_or ts k t) ++ text_lines (drop (k + 1) ms) (drop (k + 1) ts)) (sym here)

pub seats_rest : (modules : List Module) (ps : List ProcessPlan) (bs : List BoundProcess) (ss : List Seat) (i : ℕ) (p : ProcessPlan) (b : BoundProcess) (s : Seat) → p ≡ get_or ps i p → b ≡ get_or bs i b → s ≡ get_or ss i s → i < length ps → i < length bs → i < length ss → seats_lines modules (drop i ps) (drop i bs) (drop i ss) ≡ seat_lines modules p b s ++ seats_lines modules (drop (i + 1) ps) (drop (i + 1) bs) (drop (i + 1) ss)
seats_rest modules ps bs ss i p b s one two three x y z =
    let rest = seats_lines modules (drop (i + 1) ps) (drop (i + 1) bs) (drop (i + 1) ss) in
    ap (λ (xs : List ProcessPlan). seats_lines modules xs (drop i bs) (drop i ss)) (drop_more ps i p x)
    ∙ ap (λ (ys : List BoundProcess). seats_lines modules (get_or ps i p ∷ drop (i + 1) ps) ys (drop i ss)) (drop_more bs i b y)
    ∙ ap (λ (zs : List Seat). seats_lines modules (get_or ps i p ∷ drop (i + 1) ps) (get_or bs i b ∷ drop (i + 1) bs) zs) (drop_more ss i s z)
    ∙ ap (λ (q : ProcessPlan). seat_lines modules q (get_or bs i b) (get_or ss i s) ++ rest) (sym one)
    ∙ ap (λ (c : BoundProcess). seat_lines modules p c (get_or ss i s) ++ rest) (sym two)
    ∙ ap (λ (t : Seat). seat_lines modules p b t ++ rest) (sym three)

pub ranges_rest : (process : List ℕ) (modules : List Module) (ks bs : List ℕ) (i : ℕ) (m : Module) → slice_get modules (get_or ks i 0) ≡ Some m → i < length ks → i < length bs → range_lines process modules (drop i ks) (drop i bs) ≡ range_line process (Some m) (get_or bs i 0) ++ range_lines process modules (drop (i + 1) ks) (drop (i + 1) bs)
ranges_rest process modules ks bs i m is x y =
    ap (λ (xs : List ℕ). range_lines process modules xs (drop i bs)) (drop_more ks i 0 x)
    ∙ ap (λ (ys : List ℕ). range_lines process modules (get_or ks i 0 ∷ drop (i + 1) ks) ys) (drop_more bs i 0 y)
    ∙ ap (λ (o : Option Module). range_line process o (get_or bs i 0) ++ range_lines process modules (drop (i + 1) ks) (drop (i + 1) bs)) is

pub members_rest : (board : Memory) (process : List ℕ) (modules : List Module) (ks bs : List ℕ) (i : ℕ) (m : Module) → slice_get modules (get_or ks i 0) ≡ Some m → i < length ks → i < length bs → held_members board process modules (drop i ks) (drop i bs) ≡ held_member board process (Some m) (get_or bs i 0) ++ held_members board process modules (drop (i + 1) ks) (drop (i + 1) bs)
members_rest board process modules ks bs i m is x y =
    ap (λ (xs : List ℕ). held_members board process modules xs (drop i bs)) (drop_more ks i 0 x)
    ∙ ap (λ (ys : List ℕ). held_members board process modules (get_or ks i 0 ∷ drop (i + 1) ks) ys) (drop_more bs i 0 y)
    ∙ ap (λ (o : Option Module). held_member board process o (get_or bs i 0) ++ held_members board process modules (drop (i + 1) ks) (drop (i + 1) bs)) is

pub fields_rest : (board : Memory) (process : List ℕ) (m : Module) (base : ℕ) (fs : List Field) (i : ℕ) (f : Field) → i < length fs → held_fields board process m base (drop i fs) ≡ held_field board process m base (get_or fs i f) ++ held_fields board process m base (drop (i + 1) fs)
fields_rest board process m base fs i f below = ap (held_fields board process m base) (drop_more fs i f below)

pub processes_rest : (board : Memory) (modules : List Module) (ps : List ProcessPlan) (bs : List BoundProcess) (ss : List Seat) (i : ℕ) (p : ProcessPlan) (b : BoundProcess) (s : Seat) → p ≡ get_or ps i p → b ≡ get_or bs i b → s ≡ get_or ss i s → i < length ps → i < length bs → i < length ss → held_processes board modules (drop i ps) (drop i bs) (drop i ss) ≡ held_members board p.name modules b.modules s.bases ++ held_processes board modules (drop (i + 1) ps) (drop (i + 1) bs) (drop (i + 1) ss)
processes_rest board modules ps bs ss i p b s one two three x y z =
    let rest = held_processes board modules (drop (i + 1) ps) (drop (i + 1) bs) (drop (i + 1) ss) in
    ap (λ (xs : List ProcessPlan). held_processes board modules xs (drop i bs) (drop i ss)) (drop_more ps i p x)
    ∙ ap (λ (ys : List BoundProcess). held_processes board modules (get_or ps i p ∷ drop (i + 1) ps) ys (drop i ss)) (drop_more bs i b y)
    ∙ ap (λ (zs : List Seat). held_processes board modules (get_or ps i p ∷ drop (i + 1) ps) (get_or bs i b ∷ drop (i + 1) bs) zs) (drop_more ss i s z)
    ∙ ap (λ (q : ProcessPlan). held_members board q.name modules (get_or bs i b).modules (get_or ss i s).bases ++ rest) (sym one)
    ∙ ap (λ (c : BoundProcess). held_members board p.name modules c.modules (get_or ss i s).bases ++ rest) (sym two)
    ∙ ap (λ (t : Seat). held_members board p.name modules b.modules t.bases ++ rest) (sym three)

pub ends_rest : (s : ℕ → Origin) (ps : List ProcessPlan) (i : ℕ) (p : ProcessPlan) → p ≡ get_or ps i p → i < length ps → ends_from s i (drop i ps) ≡ life_line p.name (s i) ++ ends_from s (i + 1) (drop (i + 1) ps)
ends_rest s ps i p here below =
    ap (ends_from s i) (drop_more ps i p below)
    ∙ ap (λ (q : ProcessPlan). life_line q.name (s i) ++ ends_from s (i + 1) (drop (i + 1) ps)) (sym here)

-- what is kept of a member
seat_in : (modules : List Module) (bs : List BoundProcess) (ss : List Seat) (i : ℕ) (b : BoundProcess) (s : Seat) → HaveSeats modules bs ss → i < length bs → i < length ss → HasSeat modules (get_or bs i b) (get_or ss i s)
seat_in modules [] ss i b s all x y = absurd (omega (arith, x))
seat_in modules (c ∷ bs) [] i b s all x y = absurd (omega (arith, y))
seat_in modules (c ∷ bs) (t ∷ ss) zero b s all x y = all.0
seat_in modules (c ∷ bs) (t ∷ ss) (suc i) b s all x y = seat_in modules bs ss i b s all.1 (omega (arith, x)) (omega (arith, y))

pub seat_at : (modules : List Module) (bs : List BoundProcess) (ss : List Seat) (i : ℕ) (b : BoundProcess) (s : Seat) → b ≡ get_or bs i b → s ≡ get_or ss i s → HaveSeats modules bs ss → i < length bs → i < length ss → HasSeat modules b s
seat_at modules bs ss i b s two three all x y =
    let B : BoundProcess → Type 0 = λ (c : BoundProcess). HasSeat modules c s in
    let S : Seat → Type 0 = λ (t : Seat). HasSeat modules (get_or bs i b) t in
    subst B (sym two) (subst S (sym three) (seat_in modules bs ss i b s all x y))

pub below_at : (count : ℕ) (ks : List ℕ) (i : ℕ) → AreBelow count ks → i < length ks → get_or ks i 0 < count
below_at count [] i all x = absurd (omega (arith, x))
below_at count (k ∷ ks) zero all x = all.0
below_at count (k ∷ ks) (suc i) all x = below_at count ks i all.1 (omega (arith, x))

pub range_at : (board : Memory) (modules : List Module) (ks bs : List ℕ) (i : ℕ) → AreRangesOn board modules ks bs → i < length ks → i < length bs → IsRangeOn board modules (get_or ks i 0) (get_or bs i 0)
range_at board modules [] bs i all x y = absurd (omega (arith, x))
range_at board modules (k ∷ ks) [] i all x y = absurd (omega (arith, y))
range_at board modules (k ∷ ks) (b ∷ bs) zero all x y = all.0
range_at board modules (k ∷ ks) (b ∷ bs) (suc i) all x y = range_at board modules ks bs i all.1 (omega (arith, x)) (omega (arith, y))

seats_in : (board : Memory) (modules : List Module) (bs : List BoundProcess) (ss : List Seat) (i : ℕ) (b : BoundProcess) (s : Seat) → AreSeatsOn board modules bs ss → i < length bs → i < length ss → AreRangesOn board modules (get_or bs i b).modules (get_or ss i s).bases
seats_in board modules [] ss i b s all x y = absurd (omega (arith, x))
seats_in board modules (c ∷ bs) [] i b s all x y = absurd (omega (arith, y))
seats_in board modules (c ∷ bs) (t ∷ ss) zero b s all x y = all.0
seats_in board modules (c ∷ bs) (t ∷ ss) (suc i) b s all x y = seats_in board modules bs ss i b s all.1 (omega (arith, x)) (omega (arith, y))

pub ranges_at : (board : Memory) (modules : List Module) (bs : List BoundProcess) (ss : List Seat) (i : ℕ) (b : BoundProcess) (s : Seat) → b ≡ get_or bs i b → s ≡ get_or ss i s → AreSeatsOn board modules bs ss → i < length bs → i < length ss → AreRangesOn board modules b.modules s.bases
ranges_at board modules bs ss i b s two three all x y =
    let B : BoundProcess → Type 0 = λ (c : BoundProcess). AreRangesOn board modules c.modules s.bases in
    let S : Seat → Type 0 = λ (t : Seat). AreRangesOn board modules (get_or bs i b).modules t.bases in
    subst B (sym two) (subst S (sym three) (seats_in board modules bs ss i b s all x y))
