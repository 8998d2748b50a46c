-- One stretch behind another reaches where their sections end.
use Rattle.std.proofs.Common.{◌≡◌, ℕ, ◌+◌, ◌-◌, ◌*◌, ◌/◌, ◌%◌, ◌==◌, ◌≤◌, ◌<◌, ◌^◌, max, nat_lt, Bool, true, false, cond, List, [], ◌∷◌, ◌++◌, Option, Some, None, length, refl, sym, ap, ◌∙◌, arith}
use Rattle.std.specs.Prelude.{IfSome}
use Rattle.std.specs.Option.{option_and_then}
use Rattle.std.proofs.Math.Nat.{le_antisymm, mul-add-div_right, mod-eq-sub-div-mul, div-mul-le_self}
use Rattle.std.proofs.lemmas.Bool.Decides.{nat_tests}
use Rattle.std.proofs.lemmas.Option.{IfSome_then}
use Rattle.c6x_base.specs.declared.limits.TheConstants.{MOST_FILE_BYTES}
use Rattle.c6x_spec.specs.Rounded.{IsRounded, rounded}
use Rattle.c6x_spec.proofs.RoundedUp.{rounded_is_least}
use Rattle.c6x_asm_object.specs.declared.asm_section.AsmSection.{AsmSection}
use Rattle.c6x_asm_object.specs.declared.stretch.Stretch.{Stretch}
use Rattle.c6x_asm_object.specs.Places.{Ends, Reaches, both, empty_stretch, end_of, is_stored, kept, section_end, section_stretch, sections_end, place_behind, small, small_end}
use Rattle.c6x_asm_object.specs.Sums.{joined_stretch}

-- a multiple stays before what is rounded
rounded_behind : (k align v : ℕ) → 1 ≤ align → rounded (k * align + v) align ≡ k * align + rounded v align
rounded_behind k align v some =
    let whole : (k * align + v + (align - 1)) / align ≡ k + (v + (align - 1)) / align =
    ap (λ n. n / align) (omega arith) ∙ mul-add-div_right some k (v + (align - 1)) in
    ap (λ n. n * align) whole ∙ spread k ((v + (align - 1)) / align) align
  where
    spread : (a b c : ℕ) → (a + b) * c ≡ a * c + b * c
    spread a b c = grind arith

multiple_behind : (k align v multiple : ℕ) → 1 ≤ align → multiple ≡ k * align → rounded (multiple + v) align ≡ multiple + rounded v align
multiple_behind k align v multiple some is = rw is (rounded_behind k align v some)

regroup : (a b c : ℕ) → a * b * c ≡ a * (b * c)
regroup a b c = grind arith

-- a multiple of a multiple
rounded_twice : (x align times : ℕ) → 1 ≤ align → 1 ≤ times * align → rounded (rounded x align) (times * align) ≡ rounded x (times * align)
rounded_twice x align times some more =
    let big = times * align in
    let once : IsRounded x align (rounded x align) = rounded_is_least x align some in
    let whole : IsRounded x big (rounded x big) = rounded_is_least x big more in
    let twice : IsRounded (rounded x align) big (rounded (rounded x align) big) = rounded_is_least (rounded x align) big more in
    let same = regroup whole.count times align in
    let there : x ≤ whole.count * times * align = omega (arith, whole.not_below, whole.multiple_of, same) in
    let below : rounded x align ≤ whole.count * big = omega (arith, once.least (whole.count * times) there, same) in
    let less : rounded (rounded x align) big ≤ rounded x big = omega (arith, twice.least whole.count below, whole.multiple_of) in
    let reached : x ≤ twice.count * big = omega (arith, once.not_below, twice.not_below, twice.multiple_of) in
    let above : rounded x big ≤ rounded (rounded x align) big = omega (arith, whole.least twice.count reached, twice.multiple_of) in
    le_antisymm less above

-- both are the sum of two multiples
same_sum : (x t align : ℕ) → 1 ≤ align → rounded (rounded x align + t) align ≡ rounded (x + rounded t align) align
same_sum x t align some =
    let at = rounded_is_least x align some in
    let gap = rounded_is_least t align some in
    multiple_behind at.count align t (rounded x align) some at.multiple_of
    ∙ (omega arith
    ∙ (sym (multiple_behind gap.count align x (rounded t align) some gap.multiple_of)
    ∙ ap (λ n. rounded n align) (omega arith)))

-- the next alignment is a multiple of the one before
coarser : (x align times t : ℕ) → 1 ≤ align → 1 ≤ times * align → rounded (rounded x align + t) (times * align) ≡ rounded (x + rounded t align) (times * align)
coarser x align times t some more =
    sym (rounded_twice (rounded x align + t) align times some more)
    ∙ (ap (λ n. rounded n (times * align)) (same_sum x t align some)
    ∙ rounded_twice (x + rounded t align) align times some more)

-- it divides the one before
finer : (x align times t : ℕ) → 1 ≤ align → 1 ≤ times * align → rounded (rounded x (times * align) + t) align ≡ rounded x (times * align) + rounded t align
finer x align times t some more =
    let at = rounded_is_least x (times * align) more in
    multiple_behind (at.count * times) align t (rounded x (times * align)) some (at.multiple_of ∙ sym (regroup at.count times align))

-- what leaves no rest is a multiple
no_rest : (n align : ℕ) → (n % align == 0) ≡ true → n ≡ n / align * align
no_rest n align is =
    let zero_rest : n % align ≡ 0 = grind (arith, nat_tests) in
    omega (arith, zero_rest, mod-eq-sub-div-mul n align, div-mul-le_self n align)

-- numbers that are kept are those of the stretch
kept_if : (P : Stretch → Type 0) (s : Stretch) (first second : Bool) → P s → IfSome (cond first (cond second (Some s) None) None) P
kept_if P s true true holds = holds
kept_if P s true false holds = tt
kept_if P s false second holds = tt

kept_ends : (ahead align behind : ℕ) (f : ℕ → ℕ) → ((at : ℕ) → f at ≡ rounded (at + ahead) (max align 1) + behind) → IfSome (kept ahead align behind) (λ s. (at : ℕ) → f at ≡ end_of s at)
unfolding end_of
kept_ends ahead align behind f ends =
    kept_if (λ s. (at : ℕ) → f at ≡ rounded (at + s.ahead) (max s.align 1) + s.behind) (record { ahead = ahead; align = align; behind = behind }) (nat_lt ahead (2 ^ 32)) (nat_lt behind (2 ^ 32)) ends

either_if : (P : Stretch → Type 0) (first second : Bool) (o u : Option Stretch) → (first ≡ true → IfSome o P) → (second ≡ true → IfSome u P) → IfSome (cond first o (cond second u None)) P
either_if P true second o u coarse fine = coarse refl
either_if P false true o u coarse fine = fine refl
either_if P false false o u coarse fine = tt

-- behind one stretch, then another
coarse_end : (x t u align big times : ℕ) → big ≡ times * align → 1 ≤ align → 1 ≤ big → rounded (rounded x align + t + u) big ≡ rounded (x + rounded (t + u) align) big
coarse_end x t u align big times is some more =
    let flat : rounded x align + t + u ≡ rounded x align + (t + u) = omega arith in
    ap (λ n. rounded n big) flat ∙ rw is (coarser x align times (t + u) some (omega (arith, is, more)))

fine_end : (x t u align big times : ℕ) → big ≡ times * align → 1 ≤ align → 1 ≤ big → rounded (rounded x big + t + u) align ≡ rounded x big + rounded (t + u) align
fine_end x t u align big times is some more =
    let flat : rounded x big + t + u ≡ rounded x big + (t + u) = omega arith in
    ap (λ n. rounded n align) flat ∙ rw is (finer x align times (t + u) some (omega (arith, is, more)))

both_ends : (a b : Stretch) → IfSome (both a b) (λ s. (at : ℕ) → end_of b (end_of a at) ≡ end_of s at)
unfolding both end_of
both_ends a b =
    let first = max a.align 1 in
    let second = max b.align 1 in
    let gap = a.behind + b.ahead in
    let f : ℕ → ℕ = λ at. rounded (rounded (at + a.ahead) first + a.behind + b.ahead) second + b.behind in
    either_if (λ s. (at : ℕ) → f at ≡ rounded (at + s.ahead) (max s.align 1) + s.behind)
    (second % first == 0) (first % second == 0)
    (kept (a.ahead + rounded gap first) b.align b.behind) (kept a.ahead a.align (rounded gap second + b.behind))
    (λ is. kept_ends (a.ahead + rounded gap first) b.align b.behind f
    (λ at. ap (λ n. n + b.behind) (coarse_end (at + a.ahead) a.behind b.ahead first second (second / first) (no_rest second first is) (omega arith) (omega arith) ∙ ap (λ n. rounded n second) (omega arith))))
    (λ is. kept_ends a.ahead a.align (rounded gap second + b.behind) f
    (λ at. ap (λ n. n + b.behind) (fine_end (at + a.ahead) a.behind b.ahead second first (first / second) (no_rest first second is) (omega arith) (omega arith)) ∙ omega arith))

-- sections behind sections
sections_end-append : (at : ℕ) (first second : List AsmSection) → sections_end at (first ++ second) ≡ sections_end (sections_end at first) second
sections_end-append at [] second = refl
sections_end-append at (p ∷ first) second = sections_end-append (section_end at p) first second

pub joined_reaches : (a b : Option Stretch) (first second : List AsmSection) → Reaches a first → Reaches b second → Reaches (joined_stretch a b) (first ++ second)
joined_reaches None b first second here there = tt
joined_reaches (Some a) None first second here there = tt
joined_reaches (Some a) (Some b) first second here there =
    IfSome_then (both a b) (both_ends a b)
    (λ s ends at. sections_end-append at first second ∙ (ap (λ n. sections_end n second) (here at) ∙ (there (end_of a at) ∙ ends at)))

-- one section
one_if : (stored : Bool) (align size : ℕ) → IfSome (cond stored (kept 0 align size) (Some empty_stretch)) (λ s. (at : ℕ) → place_behind at stored align size ≡ end_of s at)
unfolding end_of place_behind
one_if true align size = kept_ends 0 align size (λ at. rounded at (max align 1) + size) (λ at. ap (λ n. rounded n (max align 1) + size) (omega arith))
one_if false align size = λ at. omega arith

pub section_reaches : (p : AsmSection) → Reaches (section_stretch p) (p ∷ [])
unfolding section_stretch
section_reaches p = one_if (is_stored p.kind) p.align (length p.bytes)

pub none_reaches : Reaches (Some empty_stretch) []
unfolding end_of
none_reaches = λ at. omega arith

-- a walk that ends early is past the most bytes of a file
end_above : (at : ℕ) (stored : Bool) (align size : ℕ) → at ≤ place_behind at stored align size
unfolding place_behind
end_above at true align size = omega (arith, (rounded_is_least at (max align 1) (omega arith)).not_below)
end_above at false align size = omega arith

sections_above : (at : ℕ) (sections : List AsmSection) → at ≤ sections_end at sections
sections_above at [] = omega arith
sections_above at (p ∷ sections) = omega (arith, end_above at (is_stored p.kind) p.align (length p.bytes), sections_above (section_end at p) sections)

is_past_then : (m n : ℕ) → nat_lt MOST_FILE_BYTES m ≡ true → m ≤ n → MOST_FILE_BYTES < n
is_past_then m n past less = grind (arith, nat_tests)

small_if : (past : Bool) (end : ℕ) (sections : List AsmSection) → nat_lt MOST_FILE_BYTES end ≡ past → Ends end (small_end end sections) sections → Ends end (option_and_then (λ e. small_end e sections) (cond past None (Some end))) sections
small_if true end sections is ends = is_past_then end (sections_end end sections) is (sections_above end sections)
small_if false end sections is ends = ends

pub small_ends : (at : ℕ) (sections : List AsmSection) → Ends at (small_end at sections) sections
small_ends at [] = refl
small_ends at (p ∷ sections) =
    then_ends at p sections (option_and_then (λ e. small_end e sections) (small (section_end at p)))
    (small_if (nat_lt MOST_FILE_BYTES (section_end at p)) (section_end at p) sections refl (small_ends (section_end at p) sections))
  where
    then_ends : (from : ℕ) (q : AsmSection) (rest : List AsmSection) (o : Option ℕ) → Ends (section_end from q) o rest → Ends from o (q ∷ rest)
    then_ends from q rest None ends = ends
    then_ends from q rest (Some end) ends = ends
