use Rattle.std.proofs.Common.{◌≡◌, ℕ, ◌+◌, ◌<◌, List, ◌++◌, sym, ◌∙◌, ap, suc, zero, [], ◌-◌, add-one, add-zero, add-suc, append-nil, arith, subst}
use Rattle.std.specs.Prelude.{Option}
use Rattle.std.proofs.lemmas.List.{append_assoc}
use Rattle.c6x_spec.specs.Sinks.{Takes, TakesFront}
use Rattle.c6x_spec.proofs.Puts.{takes_then, takes_then_front, front_of_more}
use Rattle.c6x_cli_run.specs.Lines.{lines_below}

-- one more line behind the lines below its number
pub takes_line : (line : ℕ → List ℕ) (count : ℕ) (before amid now : Option (List ℕ)) → Takes (lines_below line count) before amid → Takes (line count) amid now → Takes (lines_below line (count + 1)) before now
takes_line line count before amid now lines last =
    rw add-one (takes_then (lines_below line count) (line count) before amid now lines last)

-- the lines below a number begin with those below a smaller one
abbrev rest_of_lines : (ℕ → List ℕ) → ℕ → ℕ → List ℕ
rest_of_lines line count zero = []
rest_of_lines line count (suc more) = rest_of_lines line count more ++ line (count + more)

lines_split : (line : ℕ → List ℕ) (count more : ℕ) → lines_below line (count + more) ≡ lines_below line count ++ rest_of_lines line count more
lines_split line count zero = rw (add-zero count) (sym (append-nil (lines_below line count)))
lines_split line count (suc more) =
    rw (add-suc count more)
    (ap (λ lines. lines ++ line (count + more)) (lines_split line count more)
    ∙ append_assoc (lines_below line count) (rest_of_lines line count more) (line (count + more)))

-- a front of one line behind the lines before it is a front of all lines
pub front_of_lines : (line : ℕ → List ℕ) (count all : ℕ) (before amid now : Option (List ℕ)) → count < all → Takes (lines_below line count) before amid → TakesFront (line count) amid now → TakesFront (lines_below line all) before now
front_of_lines line count all before amid now inside lines front =
    let together : TakesFront (lines_below line (suc count)) before now = takes_then_front (lines_below line count) (line count) before amid now lines front in
    let whole : suc count + (all - suc count) ≡ all = omega (arith, inside) in
    subst (λ n. TakesFront (lines_below line n) before now) whole
    (rw (lines_split line (suc count) (all - suc count)) (front_of_more (lines_below line (suc count)) (rest_of_lines line (suc count) (all - suc count)) before now together))
