-- What the relation says of a process between cycles.
use Rattle.std.proofs.Common.{◌≡◌, ℕ, ◌+◌, ◌-◌, ◌≤◌, List, refl, sym, ◌∙◌, ap, subst, arith, Option, Some, None, true, false, min, is_some}
use Rattle.std.specs.Prelude.{◌==◌}
use Rattle.std.proofs.lemmas.Bool.Decides.{nat_tests}
use Rattle.c6x_spec.specs.Memory.{Memory, byte_in}
use Rattle.c6x_access.specs.declared.area.Area.{Area}
use Rattle.c6x_access.specs.Rights.{is_own}
use Rattle.c6x_machine.specs.History.{Effect, issue_at}
use Rattle.c6x_machine.specs.Machine.{Life, limit_end, outcome_of, next_by, next_of, going_by, alone_by, alone, life_by, life}
use Rattle.c6x_machine.specs.Origin.{Origin}
use Rattle.c6x_machine.proofs.Going.{alone_more, alone_stays, next_count, count_grows}
use Rattle.c6x_exec.specs.Process.{StandsFor, HasRun, ended_of, areas_of}
use Rattle.c6x_exec.specs.Sound.{IsSound}
use Rattle.c6x_exec.specs.Stands.{Tracks, Keeps}
use Rattle.c6x_machine.specs.declared.end.End.{End}
use Rattle.c6x_exec.specs.declared.process.Process.{Process}
use Rattle.c6x_exec.specs.declared.context.Context.{Context}
use Rattle.c6x_exec.proofs.Amid.{amid}
use Rattle.c6x_exec.proofs.Steps.{address_found}

-- the relation at the count itself
pub stands_tracks : (p : Process) (b : Memory) (s : Origin) (n : ℕ) → StandsFor p b s n → Tracks p.context b s (alone s n).history n n
stands_tracks p b s n k =
    let P : ℕ → Type 0 = λ m. Tracks p.context b s (alone s n).history m m in
    subst P k.lives k.keeps.tracks

pub stands_more : (p q : Process) (b c : Memory) (s : Origin) (n : ℕ) → StandsFor p b s n → ended_of p ≡ None → areas_of q ≡ areas_of p → (s.areas ≡ areas_of p → Keeps p.context b s (alone s n) → Keeps q.context c s (next_of s (alone s n))) → StandsFor q c s (n + 1)
stands_more p q b c s n k running areas kept =
    let more : alone s (n + 1) ≡ next_of s (alone s n) = alone_more s n k.began (sym k.keeps.ended ∙ running) in
    let P : Life → Type 0 = λ l. Keeps q.context c s l in
    record {
      began = omega (arith, k.began);
      lives = ap (λ (l : Life). l.count) more ∙ next_count s (alone s n) ∙ ap (λ (m : ℕ). m + 1) k.lives;
      areas = areas ∙ k.areas;
      keeps = subst P (sym more) (kept (sym k.areas) k.keeps);
    }

pub stands_next : (p q : Process) (b : Memory) (s : Origin) (n done : ℕ) → StandsFor p b s (n + done) → ended_of p ≡ None → areas_of q ≡ areas_of p → (Keeps p.context b s (alone s (n + done)) → Keeps q.context b s (next_of s (alone s (n + done)))) → StandsFor q b s (n + (done + 1))
stands_next p q b s n done k running areas kept =
    let P : ℕ → Type 0 = λ m. StandsFor q b s m in
    let more : n + done + 1 ≡ n + (done + 1) = omega arith in
    subst P more (stands_more p q b b s (n + done) k running areas (λ same. kept))

-- what a process stands for is in its areas and in what it keeps of its run
pub stands_same : (p q : Process) (b : Memory) (s : Origin) (n : ℕ) → areas_of q ≡ areas_of p → q.context ≡ p.context → StandsFor p b s n → StandsFor q b s n
stands_same p q b s n areas same k =
    let P : Context → Type 0 = λ one. Keeps one b s (alone s n) in
    record { began = k.began; lives = k.lives; areas = areas ∙ k.areas; keeps = subst P (sym same) k.keeps }

-- a process stands for the same where the board has its bytes as before
retold : (p : Context) (b c : Memory) (s : Origin) (h : List Effect) (n m : ℕ) → ((x : ℕ) → is_own s.areas x ≡ true → byte_in c x ≡ byte_in b x) → Tracks p b s h n m → Tracks p c s h n m
retold p b c s h n m same k = record {
  order = k.order;
  limit = k.limit;
  cycles = k.cycles;
  output = k.output;
  registers = k.registers;
  writes = k.writes;
  late_writes = k.late_writes;
  arrivals = k.arrivals;
  groups = k.groups;
  targets = k.targets;
  late_targets = k.late_targets;
  behind = k.behind;
  bytes = λ t x own after. same x own ∙ k.bytes t x own after;
}

pub stands_elsewhere : (p : Process) (b c : Memory) (s : Origin) (n : ℕ) → ((x : ℕ) → is_own (areas_of p) x ≡ true → byte_in c x ≡ byte_in b x) → StandsFor p b s n → StandsFor p c s n
stands_elsewhere p b c s n same k =
    let P : List Area → Type 0 = λ areas. (x : ℕ) → is_own areas x ≡ true → byte_in c x ≡ byte_in b x in
    record {
      began = k.began;
      lives = k.lives;
      areas = k.areas;
      keeps = record { ended = k.keeps.ended; tracks = retold p.context b c s (alone s n).history (alone s n).count (alone s n).count (subst P k.areas same) k.keeps.tracks };
    }

pub stands_within : (p : Process) (b : Memory) (s : Origin) (n : ℕ) → StandsFor p b s n → IsSound p.context → n ≤ s.limit
stands_within p b s n k sound =
    let count : p.context.cycles ≡ n = (stands_tracks p b s n k).cycles in
    let limit : p.context.limit ≡ s.limit = (stands_tracks p b s n k).limit in
    let within : p.context.cycles ≤ p.context.limit = sound.cycles in
    omega arith

-- a process that has ended has lived as long as it does, if it is within its limit
pub has_run : (p : Process) (b : Memory) (s : Origin) (n : ℕ) (end : End) → StandsFor p b s n → n ≤ s.limit → ended_of p ≡ Some end → HasRun p b s end
unfolding life_by
has_run p b s n end k within ended =
    let over : (alone s n).ended ≡ Some end = sym k.keeps.ended ∙ ended in
    let last : alone s s.limit ≡ alone s n = alone_stays s n s.limit end k.began within over in
    let lived : (alone s s.limit).count ≡ n = ap (λ (l : Life). l.count) last ∙ k.lives in
    let P : ℕ → Type 0 = λ m. StandsFor p b s m in
    record {
      ended = ap (λ (l : Life). l.ended) last ∙ over;
      last = ap (λ (m : ℕ). alone s m) lived ∙ sym last;
      stands = subst P (sym lived) k;
    }

-- no process stands for a count past its life
pub stands_lives : (p : Process) (b : Memory) (s : Origin) (n : ℕ) → StandsFor p b s n → IsSound p.context → n ≤ life s
unfolding life_by alone_by
stands_lives p b s n k sound =
    let within : n ≤ s.limit = stands_within p b s n k sound in
    let grown : (going_by outcome_of s (n - s.count)).count ≤ (going_by outcome_of s ((n - s.count) + (s.limit - n))).count = count_grows s (n - s.count) (s.limit - n) in
    let far : s.limit - s.count ≡ (n - s.count) + (s.limit - n) = omega (arith, k.began) in
    let here : (going_by outcome_of s (n - s.count)).count ≡ n = k.lives in
    let P : ℕ → Type 0 = λ m. n ≤ (going_by outcome_of s m).count in
    subst P (sym far) (omega arith)

-- a process that has ended has done its life
pub life_done : (p : Process) (b : Memory) (s : Origin) (n : ℕ) (end : End) → StandsFor p b s n → IsSound p.context → ended_of p ≡ Some end → life s ≡ n
unfolding life_by
life_done p b s n end k sound ended =
    let over : (alone s n).ended ≡ Some end = sym k.keeps.ended ∙ ended in
    ap (λ (l : Life). l.count) (alone_stays s n s.limit end k.began (stands_within p b s n k sound) over) ∙ k.lives

-- a run goes on to its count or to the end of the process
pub count_ended : (p : Process) (b : Memory) (s : Origin) (n done steps : ℕ) (end : Option End) → StandsFor p b s (n + done) → IsSound p.context → end ≡ ended_of p → is_some end ≡ true → done ≤ steps → done ≡ min steps (life s - n)
count_ended p b s n done steps None k sound is ended within = cc
count_ended p b s n done steps (Some end) k sound is ended within =
    let lived : life s ≡ n + done = life_done p b s (n + done) end k sound (sym is) in
    rw lived (omega arith)

pub count_full : (p : Process) (b : Memory) (s : Origin) (n done steps : ℕ) → StandsFor p b s (n + done) → IsSound p.context → done ≡ steps → done ≡ min steps (life s - n)
count_full p b s n done steps k sound is =
    let lives : n + done ≤ life s = stands_lives p b s (n + done) k sound in
    omega arith

-- before its limit a process goes on without an end
open_limit : (limit count : ℕ) → (count ≡ limit → ⊥) → limit_end limit count ≡ None
unfolding limit_end
open_limit limit count apart = let test : (count == limit) ≡ false = grind (arith, nat_tests) in rw test refl

-- a cycle at which nothing is issued, before the last one
pub waited : (p q : Context) (b : Memory) (s : Origin) (l : Life) → p.ended ≡ None → q.ended ≡ p.ended → (p.cycles + 1 ≡ p.limit → ⊥) → None ≡ issue_at s.entry l.history l.count → (Tracks p b s l.history l.count (l.count + 1) → Tracks q b s l.history (l.count + 1) (l.count + 1)) → Keeps p b s l → Keeps q b s (next_of s l)
unfolding next_by
waited p q b s l running ended apart none ticked k =
    let count : p.cycles ≡ l.count = k.tracks.cycles in
    let limit : p.limit ≡ s.limit = k.tracks.limit in
    let still : limit_end s.limit (l.count + 1) ≡ None = open_limit s.limit (l.count + 1) (λ is. apart (omega arith)) in
    rw (address_found s l.history l.count None none)
    (record { ended = ended ∙ running ∙ sym still; tracks = ticked (amid p b s l.history l.count k.tracks) })
