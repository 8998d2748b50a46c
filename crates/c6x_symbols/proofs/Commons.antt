-- The commons of a name together, with one more.
use Rattle.std.proofs.Common.{◌≡◌, ℕ, ◌+◌, ◌<◌, ◌≤◌, ◌⊎◌, ◌||◌, Bool, true, false, List, [], ◌∷◌, ◌++◌, max, nat_lt, nat_eq, filter, Option, Some, None, option_map, inl, inr, refl, sym, ap, subst, ◌∙◌, if◌then◌else◌, arith}
use Rattle.std.proofs.lemmas.Bool.Decides.{nat_tests}
use Rattle.std.proofs.lemmas.List.{append-nil}
use Rattle.std.proofs.lemmas.List.Elements.{filter-append}
use Rattle.std.specs.List.{list_any}
use Rattle.c6x_symbols.specs.Groups.{common_of, common_with, first_where, greatest_size, greatest_value, has_size, is_common, is_near, source_of}
use Rattle.c6x_symbols.specs.Growth.{common_more, first_or, with_common}
use Rattle.c6x_symbols.specs.declared.common.Common.{Common}
use Rattle.c6x_symbols.specs.declared.mention.Mention.{Mention}
use Rattle.c6x_symbols.specs.declared.source.Source.{Source}
use Rattle.c6x_symbols.proofs.Firsts.{first_more}

size_push : (cs : List Mention) (m : Mention) → greatest_size (cs ++ m ∷ []) ≡ max (greatest_size cs) m.symbol.size
size_push [] m = omega arith
size_push (c ∷ cs) m = omega (arith, size_push cs m)

value_push : (cs : List Mention) (m : Mention) → greatest_value (cs ++ m ∷ []) ≡ max (greatest_value cs) m.symbol.value
value_push [] m = omega arith
value_push (c ∷ cs) m = omega (arith, value_push cs m)

or_false : (b : Bool) → (b || false) ≡ b
or_false true = refl
or_false false = refl

near_push : (cs : List Mention) (m : Mention) → list_any is_near (cs ++ m ∷ []) ≡ (list_any is_near cs || is_near m)
near_push [] m = or_false (is_near m)
near_push (c ∷ cs) m = either (is_near c) (near_push cs m)
  where
    either : (b : Bool) → list_any is_near (cs ++ m ∷ []) ≡ (list_any is_near cs || is_near m) → (b || list_any is_near (cs ++ m ∷ [])) ≡ ((b || list_any is_near cs) || is_near m)
    either true rest = refl
    either false rest = rest

none_above : (cs : List Mention) (x : ℕ) → greatest_size cs < x → first_where (has_size x) cs ≡ None
none_above [] x above = refl
none_above (c ∷ cs) x above =
    let differ : nat_eq c.symbol.size x ≡ false = grind (arith, nat_tests) in
    let rest : greatest_size cs < x = omega arith in
    rw differ (none_above cs x rest)

record IsFound (o : Option Mention) : Type 0 where
  pub found : Mention
  pub is : o ≡ Some found

-- one of them has the greatest size
some_greatest : (cs : List Mention) → (cs ≡ []) ⊎ IsFound (first_where (has_size (greatest_size cs)) cs)
some_greatest [] = inl refl
some_greatest (c ∷ cs) = inr (either (some_greatest cs) (nat_eq c.symbol.size (max c.symbol.size (greatest_size cs))) refl)
  where
    rest : nat_eq c.symbol.size (max c.symbol.size (greatest_size cs)) ≡ false → (cs ≡ []) ⊎ IsFound (first_where (has_size (greatest_size cs)) cs) → IsFound (first_where (has_size (greatest_size (c ∷ cs))) (c ∷ cs))
    rest differ (inl none) =
        let zero : greatest_size cs ≡ 0 = ap greatest_size none in
        let same : nat_eq c.symbol.size (max c.symbol.size (greatest_size cs)) ≡ true = grind (arith, nat_tests) in
        absurd (cc (same, differ))
    rest differ (inr of_rest) =
        let later : max c.symbol.size (greatest_size cs) ≡ greatest_size cs = grind (arith, nat_tests) in
        record { found = of_rest.found; is = rw differ (ap (λ g. first_where (has_size g) cs) later ∙ of_rest.is) }

    either : (cs ≡ []) ⊎ IsFound (first_where (has_size (greatest_size cs)) cs) → (b : Bool) → nat_eq c.symbol.size (max c.symbol.size (greatest_size cs)) ≡ b → IsFound (first_where (has_size (greatest_size (c ∷ cs))) (c ∷ cs))
    either later true same = record { found = c; is = rw same refl }
    either later false differ = rest differ later

-- the first one of the greatest size
first_greatest : (cs : List Mention) (m f : Mention) → first_where (has_size (greatest_size cs)) cs ≡ Some f
    → first_where (has_size (greatest_size (cs ++ m ∷ []))) (cs ++ m ∷ []) ≡ Some (if nat_lt (greatest_size cs) m.symbol.size then m else f)
first_greatest cs m f is = rw (size_push cs m) (first_more (has_size (max (greatest_size cs) m.symbol.size)) cs m ∙ either (nat_lt (greatest_size cs) m.symbol.size) refl)
  where
    either : (b : Bool) → nat_lt (greatest_size cs) m.symbol.size ≡ b → first_or (first_where (has_size (max (greatest_size cs) m.symbol.size)) cs) (has_size (max (greatest_size cs) m.symbol.size) m) m ≡ Some (if nat_lt (greatest_size cs) m.symbol.size then m else f)
    either true above =
        let more : greatest_size cs < m.symbol.size = grind (arith, nat_tests) in
        let e : max (greatest_size cs) m.symbol.size ≡ m.symbol.size = omega arith in
        let same : nat_eq m.symbol.size m.symbol.size ≡ true = grind (arith, nat_tests) in
        rw (e, none_above cs m.symbol.size more, above, same) refl
    either false below =
        let e : max (greatest_size cs) m.symbol.size ≡ greatest_size cs = grind (arith, nat_tests) in
        rw (e, is, below) refl

common_push : (cs : List Mention) (m : Mention) → common_of (cs ++ m ∷ []) ≡ Some (with_common (common_of cs) m)
unfolding common_of
common_push cs m = either (some_greatest cs)
  where
    source : (b : Bool) (f : Mention) → source_of (if b then m else f) ≡ (if b then source_of m else source_of f)
    source true f = refl
    source false f = refl

    either : (cs ≡ []) ⊎ IsFound (first_where (has_size (greatest_size cs)) cs) → option_map (common_with (cs ++ m ∷ [])) (first_where (has_size (greatest_size (cs ++ m ∷ []))) (cs ++ m ∷ [])) ≡ Some (with_common (option_map (common_with cs) (first_where (has_size (greatest_size cs)) cs)) m)
    either (inl none) =
        let P : List Mention → Type 0 = λ xs. option_map (common_with (xs ++ m ∷ [])) (first_where (has_size (greatest_size (xs ++ m ∷ []))) (xs ++ m ∷ [])) ≡ Some (with_common (option_map (common_with xs) (first_where (has_size (greatest_size xs)) xs)) m) in
        let size : max m.symbol.size 0 ≡ m.symbol.size = omega arith in
        let value : max m.symbol.value 0 ≡ m.symbol.value = omega arith in
        let same : nat_eq m.symbol.size (max m.symbol.size 0) ≡ true = grind (arith, nat_tests) in
        subst P (sym none) (rw same (ap Some (λ i. record { size = size i; align = value i; near = or_false (is_near m) i; source = source_of m })))
    either (inr found) =
        let f = found.found in
        let src = source (nat_lt (greatest_size cs) m.symbol.size) f in
        rw (first_greatest cs m f found.is, found.is) (ap Some (λ i. record { size = size_push cs m i; align = value_push cs m i; near = near_push cs m i; source = src i }))

pub commons_more : (ms : List Mention) (m : Mention) → common_of (filter is_common (ms ++ m ∷ [])) ≡ common_more (common_of (filter is_common ms)) m
unfolding common_more
commons_more ms m = ap common_of (filter-append is_common ms (m ∷ [])) ∙ either (is_common m) refl
  where
    either : (b : Bool) → is_common m ≡ b → common_of (filter is_common ms ++ filter is_common (m ∷ [])) ≡ (if is_common m then Some (with_common (common_of (filter is_common ms)) m) else common_of (filter is_common ms))
    either true is = rw is (common_push (filter is_common ms) m)
    either false is = rw is (ap common_of (append-nil (filter is_common ms)))
