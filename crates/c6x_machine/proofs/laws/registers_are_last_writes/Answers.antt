use Rattle.std.proofs.Common.{◌≡◌, ℕ, zero, suc, ◌≤◌, ◌⊎◌, inl, inr, List, refl, sym, ◌∙◌, ap, arith, Option, Some, None}
use Rattle.std.specs.Prelude.{unwrap_or}
use Rattle.std.proofs.lemmas.Bool.{cases_eq}
use Rattle.c6x_machine.specs.History.{Effect, write_at, register_at}
use Rattle.c6x_machine.specs.Laws.{IsLastWrite}
use Rattle.c6x_machine.proofs.laws.registers_are_last_writes.Goals as goal

abbrev IsSo : (ℕ → ℕ) → List Effect → ℕ → ℕ → Type 0
IsSo start h t r =
    ((at : ℕ) × IsLastWrite h t r at (register_at start h t r))
    ⊎ (((by : ℕ) → by ≤ t → write_at h by r ≡ None) × (register_at start h t r ≡ start r))

at_start : (start : ℕ → ℕ) (h : List Effect) (r : ℕ) (found : Option ℕ) → found ≡ write_at h 0 r → IsSo start h 0 r
at_start start h r None is =
    inr ((λ by landed. let now : by ≡ 0 = omega arith in rw now (sym is)), rw (← is) refl)
at_start start h r (Some value) is =
    inl (0, record { landed = omega arith; written = rw (← is) refl; last = λ later after by. absurd (omega arith) })

one_more : (start : ℕ → ℕ) (h : List Effect) (t r : ℕ) (found : Option ℕ) → found ≡ write_at h (suc t) r → IsSo start h t r → IsSo start h (suc t) r
one_more start h t r (Some value) is before =
    inl (suc t, record { landed = omega arith; written = rw (← is) refl; last = λ later after by. absurd (omega arith) })
one_more start h t r None is before =
    let same : register_at start h (suc t) r ≡ register_at start h t r = ap (λ (o : Option ℕ). unwrap_or o (register_at start h t r)) (sym is) in
    elim before [
      | inl found ↦
          inl (
            found.0,
            record {
              landed = omega (arith, found.1.landed);
              written = found.1.written ∙ ap Some (sym same);
              last = λ later after by. elim (cases_eq later (suc t)) [
                | inl now ↦ rw now (sym is)
                | inr earlier ↦ found.1.last later after (omega arith)
              ];
            },
          )
      | inr none ↦
          inr (
            (λ by landed. elim (cases_eq by (suc t)) [
              | inl now ↦ rw now (sym is)
              | inr earlier ↦ none.0 by (omega arith)
            ]),
            same ∙ none.1,
          )
    ]

all : (start : ℕ → ℕ) (h : List Effect) (t r : ℕ) → IsSo start h t r
all start h zero r = at_start start h r (write_at h 0 r) refl
all start h (suc t) r = one_more start h t r (write_at h (suc t) r) refl (all start h t r)

pub returns : goal.returns
returns c = all
