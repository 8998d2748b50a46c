-- The bytes of a section's lines with one more line behind them.
use Rattle.std.proofs.Common.{◌≡◌, ℕ, ◌+◌, ◌-◌, ◌/◌, ◌%◌, ◌≤◌, ◌==◌, Bool, true, false, ◌&&◌, List, [], ◌∷◌, ◌++◌, length, Option, Some, None, refl, sym, ◌∙◌, ap, arith, append_assoc, append-nil}
use Rattle.std.specs.Prelude.{if◌then◌else◌, slice_index, slice_set}
use Rattle.std.specs.Int.{to_le_bytes, w32}
use Rattle.std.proofs.lemmas.Bool.{eqb-true}
use Rattle.std.proofs.lemmas.List.{length-append, set-append_right, get_or-append_right}
use Rattle.c6x_asm_lines.specs.declared.word.Word.{Word}
use Rattle.c6x_asm_lines.specs.declared.relocation.Relocation.{Relocation}
use Rattle.c6x_asm_object.specs.Sections.{odd}
use Rattle.c6x_asm.specs.Said.{Saying, says_nothing, says_directive, says_instruction, Said}
use Rattle.c6x_asm.specs.Sections.{chained_or, contents, contribution, end_at, is_joined, last_end, later_or, size_at}

-- the p bit of the last word set
abbrev pub joined_bytes : List ℕ → List ℕ
joined_bytes bytes = slice_set bytes (length bytes - 4) (odd (slice_index bytes (length bytes - 4)))

-- an instruction with `||`
abbrev pub joining : ℕ → Option Word → ℕ → Option Relocation → Said
joining number label word relocation = record { number = number; label = label; saying = says_instruction true word relocation }

pub length_put : (place : ℕ) (joined : Bool) (s : Saying) → length (contribution place joined s) ≡ size_at place s
length_put place joined says_nothing = refl
length_put place joined (says_directive directive) = refl
length_put place joined (says_instruction chained word relocation) = refl

nothing_long : (xs : List ℕ) → length xs ≡ 0 → xs ≡ []
nothing_long [] is = refl
nothing_long (x ∷ xs) is = absurd (omega arith)

and_false : (b : Bool) → (b && false) ≡ false
and_false true = refl
and_false false = refl

-- a line without `||` joins nothing
joined_plain : (place : ℕ) (lines : List Said) (l : Said) → chained_or l.saying false ≡ false → is_joined place (lines ++ l ∷ []) ≡ is_joined place lines
joined_plain place [] l plain = by l.saying plain
  where
    by : (s : Saying) → chained_or s false ≡ false → chained_or s (size_at place s == 0 && false) ≡ false
    by says_nothing is = refl
    by (says_directive directive) is = and_false (size_at place (says_directive directive) == 0)
    by (says_instruction chained word relocation) is = is
joined_plain place (x ∷ lines) l plain =
    ap (λ b. chained_or x.saying (size_at place x.saying == 0 && b)) (joined_plain (place + size_at place x.saying) lines l plain)

-- a line behind an instruction joins none before that one
joined_some : (place : ℕ) (lines : List Said) (l : Said) (end : ℕ) → last_end place lines ≡ Some end → is_joined place (lines ++ l ∷ []) ≡ is_joined place lines
joined_some place [] l end is = absurd (cc)
joined_some place (x ∷ lines) l end is = by (last_end (place + size_at place x.saying) lines) refl is (λ other here. joined_some (place + size_at place x.saying) lines l other here)
  where
    first : (s : Saying) (a b : Bool) → end_at place s ≡ Some end → chained_or s a ≡ chained_or s b
    first says_nothing a b is = absurd (cc)
    first (says_directive directive) a b is = absurd (cc)
    first (says_instruction chained word relocation) a b is = refl

    by : (o : Option ℕ) → last_end (place + size_at place x.saying) lines ≡ o → later_or o (end_at place x.saying) ≡ Some end → ((other : ℕ) → last_end (place + size_at place x.saying) lines ≡ Some other → is_joined (place + size_at place x.saying) (lines ++ l ∷ []) ≡ is_joined (place + size_at place x.saying) lines) → is_joined place ((x ∷ lines) ++ l ∷ []) ≡ is_joined place (x ∷ lines)
    by (Some other) here is rest = ap (λ b. chained_or x.saying (size_at place x.saying == 0 && b)) (rest other here)
    by None here is rest = first x.saying (size_at place x.saying == 0 && is_joined (place + size_at place x.saying) (lines ++ l ∷ [])) (size_at place x.saying == 0 && is_joined (place + size_at place x.saying) lines) is

-- neither here nor behind
none_later : (a b : Option ℕ) → later_or a b ≡ None → (a ≡ None) × (b ≡ None)
none_later (Some end) b is = absurd (cc)
none_later None b is = (refl, is)

-- what is no instruction
plain_put : (place : ℕ) (s : Saying) → end_at place s ≡ None → (a b : Bool) → contribution place a s ≡ contribution place b s
plain_put place says_nothing is a b = refl
plain_put place (says_directive directive) is a b = refl
plain_put place (says_instruction chained word relocation) is a b = absurd (cc)

plain_joined : (place : ℕ) (s : Saying) → end_at place s ≡ None → (b : Bool) → chained_or s b ≡ b
plain_joined place says_nothing is b = refl
plain_joined place (says_directive directive) is b = refl
plain_joined place (says_instruction chained word relocation) is b = absurd (cc)

zero_sum : (a b : ℕ) → a + b ≡ 0 → (a ≡ 0) × (b ≡ 0)
zero_sum a b is = (omega arith, omega arith)

zero_test : (n : ℕ) → n ≡ 0 → (n == 0) ≡ true
zero_test n is = rw is refl

none_joined : (place : ℕ) (lines : List Said) → last_end place lines ≡ None → is_joined place lines ≡ false
none_joined place [] is = refl
none_joined place (x ∷ lines) is =
    let both = none_later (last_end (place + size_at place x.saying) lines) (end_at place x.saying) is in
    plain_joined place x.saying both.1 (size_at place x.saying == 0 && is_joined (place + size_at place x.saying) lines)
    ∙ ap (λ b. size_at place x.saying == 0 && b) (none_joined (place + size_at place x.saying) lines both.0)
    ∙ and_false (size_at place x.saying == 0)

-- `||` stands right there behind lines that put nothing
joined_here : (place : ℕ) (lines : List Said) (number : ℕ) (label : Option Word) (word : ℕ) (relocation : Option Relocation) → last_end place lines ≡ None → length (contents place lines) ≡ 0 → is_joined place (lines ++ joining number label word relocation ∷ []) ≡ true
joined_here place [] number label word relocation none empty = refl
joined_here place (x ∷ lines) number label word relocation none empty =
    let behind = place + size_at place x.saying in
    let both = none_later (last_end behind lines) (end_at place x.saying) none in
    let put = contribution place (is_joined behind lines) x.saying in
    let parts = zero_sum (length put) (length (contents behind lines)) (sym (length-append put (contents behind lines)) ∙ empty) in
    plain_joined place x.saying both.1 (size_at place x.saying == 0 && is_joined behind (lines ++ joining number label word relocation ∷ []))
    ∙ ap (λ b. size_at place x.saying == 0 && b) (joined_here behind lines number label word relocation both.0 parts.1)
    ∙ ap (λ b. b && true) (zero_test (size_at place x.saying) (sym (length_put place (is_joined behind lines) x.saying) ∙ parts.0))

-- the first line's bytes and those behind it, with one line more
put_more : (place : ℕ) (j k : Bool) (x s : Saying) (rest more : List ℕ) → contribution place j x ≡ contribution place k x → more ≡ rest ++ contribution (place + size_at place x + length rest) false s → contribution place j x ++ more ≡ (contribution place k x ++ rest) ++ contribution (place + length (contribution place k x ++ rest)) false s
put_more place j k x s rest more same is =
    let put = contribution place k x in
    let e : place + size_at place x + length rest ≡ place + length (put ++ rest) = omega (arith, length-append put rest, length_put place k x) in
    ap (λ bytes. bytes ++ more) same
    ∙ ap (λ bytes. put ++ bytes) is
    ∙ ap (λ n. put ++ (rest ++ contribution n false s)) e
    ∙ sym (append_assoc put rest (contribution (place + length (put ++ rest)) false s))

one_put : (place : ℕ) (s : Saying) → contribution place false s ++ [] ≡ contribution (place + 0) false s
one_put place s = let e : place ≡ place + 0 = omega arith in append-nil (contribution place false s) ∙ ap (λ n. contribution n false s) e

-- a line without `||`
pub contents_plain : (place : ℕ) (lines : List Said) (l : Said) → chained_or l.saying false ≡ false → contents place (lines ++ l ∷ []) ≡ contents place lines ++ contribution (place + length (contents place lines)) false l.saying
contents_plain place [] l plain = one_put place l.saying
contents_plain place (x ∷ lines) l plain =
    let behind = place + size_at place x.saying in
    put_more place (is_joined behind (lines ++ l ∷ [])) (is_joined behind lines) x.saying l.saying (contents behind lines) (contents behind (lines ++ l ∷ []))
    (ap (λ b. contribution place b x.saying) (joined_plain behind lines l plain))
    (contents_plain behind lines l plain)

-- a line behind lines without an instruction
contents_first : (place : ℕ) (lines : List Said) (l : Said) → last_end place lines ≡ None → contents place (lines ++ l ∷ []) ≡ contents place lines ++ contribution (place + length (contents place lines)) false l.saying
contents_first place [] l none = one_put place l.saying
contents_first place (x ∷ lines) l none =
    let behind = place + size_at place x.saying in
    let both = none_later (last_end behind lines) (end_at place x.saying) none in
    put_more place (is_joined behind (lines ++ l ∷ [])) (is_joined behind lines) x.saying l.saying (contents behind lines) (contents behind (lines ++ l ∷ []))
    (plain_put place x.saying both.1 (is_joined behind (lines ++ l ∷ [])) (is_joined behind lines))
    (contents_first behind lines l both.0)

-- an instruction lies within the bytes
pub end_within : (place : ℕ) (lines : List Said) (end : ℕ) → last_end place lines ≡ Some end → (place + 4 ≤ end) × (end ≤ place + length (contents place lines))
end_within place [] end is = absurd (cc)
end_within place (x ∷ lines) end is = by (last_end (place + size_at place x.saying) lines) refl is (λ other here. end_within (place + size_at place x.saying) lines other here)
  where
    first : (s : Saying) (rest : List ℕ) (j : Bool) → end_at place s ≡ Some end → (place + 4 ≤ end) × (end ≤ place + length (contribution place j s ++ rest))
    first says_nothing rest j is = absurd (cc)
    first (says_directive directive) rest j is = absurd (cc)
    first (says_instruction chained word relocation) rest j is =
        let e : place + 4 ≡ end = cc in
        (omega arith, omega (arith, length-append (contribution place j (says_instruction chained word relocation)) rest, length_put place j (says_instruction chained word relocation)))

    by : (o : Option ℕ) → last_end (place + size_at place x.saying) lines ≡ o → later_or o (end_at place x.saying) ≡ Some end → ((other : ℕ) → last_end (place + size_at place x.saying) lines ≡ Some other → (place + size_at place x.saying + 4 ≤ other) × (other ≤ place + size_at place x.saying + length (contents (place + size_at place x.saying) lines))) → (place + 4 ≤ end) × (end ≤ place + length (contents place (x ∷ lines)))
    by (Some other) here is rest =
        let same : other ≡ end = cc in
        let within = rest other here in
        let put = contribution place (is_joined (place + size_at place x.saying) lines) x.saying in
        (omega (arith, within.0), omega (arith, within.1, length-append put (contents (place + size_at place x.saying) lines), length_put place (is_joined (place + size_at place x.saying) lines) x.saying))
    by None here is rest = first x.saying (contents (place + size_at place x.saying) lines) (is_joined (place + size_at place x.saying) lines) is

-- the p bit is bit 0 of the word's first byte
odd_low : (w : ℕ) → odd (w % 256) ≡ odd w % 256
odd_low w =
    let e : w % 256 % 2 ≡ w % 2 = omega arith in
    ap (λ n. if n == 0 then w % 256 + 1 else w % 256) e ∙ by (w % 2 == 0) refl
  where
    by : (t : Bool) → (w % 2 == 0) ≡ t → (if t then w % 256 + 1 else w % 256) ≡ (if t then w + 1 else w) % 256
    by true is = let even : w % 2 ≡ 0 = eqb-true (w % 2) 0 is in omega arith
    by false is = refl

odd_second : (w : ℕ) → w / 256 % 256 ≡ odd w / 256 % 256
odd_second w = by (w % 2 == 0) refl
  where
    by : (t : Bool) → (w % 2 == 0) ≡ t → w / 256 % 256 ≡ (if t then w + 1 else w) / 256 % 256
    by true is = let even : w % 2 ≡ 0 = eqb-true (w % 2) 0 is in omega arith
    by false is = refl

odd_third : (w : ℕ) → w / 65536 % 256 ≡ odd w / 65536 % 256
odd_third w = by (w % 2 == 0) refl
  where
    by : (t : Bool) → (w % 2 == 0) ≡ t → w / 65536 % 256 ≡ (if t then w + 1 else w) / 65536 % 256
    by true is = let even : w % 2 ≡ 0 = eqb-true (w % 2) 0 is in omega arith
    by false is = refl

odd_fourth : (w : ℕ) → w / 16777216 % 256 ≡ odd w / 16777216 % 256
odd_fourth w = by (w % 2 == 0) refl
  where
    by : (t : Bool) → (w % 2 == 0) ≡ t → w / 16777216 % 256 ≡ (if t then w + 1 else w) / 16777216 % 256
    by true is = let even : w % 2 ≡ 0 = eqb-true (w % 2) 0 is in omega arith
    by false is = refl

odd_bytes : (w : ℕ) → joined_bytes (to_le_bytes w32 w) ≡ to_le_bytes w32 (odd w)
odd_bytes w =
    let a = odd_low w in
    let b = odd_second w in
    let c = odd_third w in
    let d = odd_fourth w in
    λ i. a i ∷ b i ∷ c i ∷ d i ∷ []

-- the bit is set in the last bytes
joined_behind : (before bytes : List ℕ) → 4 ≤ length bytes → joined_bytes (before ++ bytes) ≡ before ++ joined_bytes bytes
joined_behind before bytes long =
    let all = before ++ bytes in
    let at : length all - 4 - length before ≡ length bytes - 4 = omega (arith, length-append before bytes) in
    let low : length before ≤ length all - 4 = omega (arith, length-append before bytes) in
    let read : slice_index all (length all - 4) ≡ slice_index bytes (length bytes - 4) = get_or-append_right before bytes (length before) (length all - 4) 0 refl low ∙ ap (slice_index bytes) at in
    set-append_right before bytes (length before) (length all - 4) (odd (slice_index all (length all - 4))) refl low
    ∙ ap (λ n. before ++ slice_set bytes n (odd (slice_index all (length all - 4)))) at
    ∙ ap (λ b. before ++ slice_set bytes (length bytes - 4) (odd b)) read

-- the first line is the instruction that is joined
contents_second : (place : ℕ) (s : Saying) (lines : List Said) (number : ℕ) (label : Option Word) (word : ℕ) (relocation : Option Relocation) (end : ℕ) → last_end (place + size_at place s) lines ≡ None → end_at place s ≡ Some end → end ≡ place + length (contribution place (is_joined (place + size_at place s) lines) s ++ contents (place + size_at place s) lines) → contribution place (is_joined (place + size_at place s) (lines ++ joining number label word relocation ∷ [])) s ++ contents (place + size_at place s) (lines ++ joining number label word relocation ∷ []) ≡ joined_bytes (contribution place (is_joined (place + size_at place s) lines) s ++ contents (place + size_at place s) lines) ++ to_le_bytes w32 word
contents_second place says_nothing lines number label word relocation end none is last = absurd (cc)
contents_second place (says_directive directive) lines number label word relocation end none is last = absurd (cc)
contents_second place (says_instruction chained first other) lines number label word relocation end none is last =
    let s = says_instruction chained first other in
    let l = joining number label word relocation in
    let behind = place + 4 in
    let put = contribution place (is_joined behind lines) s in
    let e : place + 4 ≡ end = cc in
    let empty : length (contents behind lines) ≡ 0 = omega (arith, length-append put (contents behind lines), length_put place (is_joined behind lines) s) in
    let nil : contents behind lines ≡ [] = nothing_long (contents behind lines) empty in
    let yes : is_joined behind (lines ++ l ∷ []) ≡ true = joined_here behind lines number label word relocation none empty in
    let no : is_joined behind lines ≡ false = none_joined behind lines none in
    let more = contents_first behind lines l none in
    ap (λ b. contribution place b s ++ contents behind (lines ++ l ∷ [])) yes
    ∙ ap (λ bytes. to_le_bytes w32 (odd first) ++ bytes) (more ∙ ap (λ bytes. bytes ++ to_le_bytes w32 word) nil)
    ∙ ap (λ bytes. bytes ++ to_le_bytes w32 word) (sym (odd_bytes first))
    ∙ sym (ap (λ b. joined_bytes (contribution place b s ++ contents behind lines) ++ to_le_bytes w32 word) no
    ∙ ap (λ bytes. joined_bytes (to_le_bytes w32 first ++ bytes) ++ to_le_bytes w32 word) nil)

-- an instruction with `||` sets the p bit of the one that ends where it begins
pub contents_joined : (place : ℕ) (lines : List Said) (number : ℕ) (label : Option Word) (word : ℕ) (relocation : Option Relocation) (end : ℕ) → last_end place lines ≡ Some end → end ≡ place + length (contents place lines) → contents place (lines ++ joining number label word relocation ∷ []) ≡ joined_bytes (contents place lines) ++ to_le_bytes w32 word
contents_joined place [] number label word relocation end is last = absurd (cc)
contents_joined place (x ∷ lines) number label word relocation end is last =
    by (last_end (place + size_at place x.saying) lines) refl is (λ other here there. contents_joined (place + size_at place x.saying) lines number label word relocation other here there)
  where
    by : (o : Option ℕ) → last_end (place + size_at place x.saying) lines ≡ o → later_or o (end_at place x.saying) ≡ Some end → ((other : ℕ) → last_end (place + size_at place x.saying) lines ≡ Some other → other ≡ place + size_at place x.saying + length (contents (place + size_at place x.saying) lines) → contents (place + size_at place x.saying) (lines ++ joining number label word relocation ∷ []) ≡ joined_bytes (contents (place + size_at place x.saying) lines) ++ to_le_bytes w32 word) → contents place ((x ∷ lines) ++ joining number label word relocation ∷ []) ≡ joined_bytes (contents place (x ∷ lines)) ++ to_le_bytes w32 word
    by (Some other) here is rest =
        let b = place + size_at place x.saying in
        let l = joining number label word relocation in
        let same : other ≡ end = cc in
        let put = contribution place (is_joined b lines) x.saying in
        let within = end_within b lines other here in
        let there : other ≡ b + length (contents b lines) = omega (arith, length-append put (contents b lines), length_put place (is_joined b lines) x.saying) in
        let more = rest other here there in
        let long : 4 ≤ length (contents b lines) = omega (arith, within.0, within.1) in
        ap (λ j. contribution place j x.saying ++ contents b (lines ++ l ∷ [])) (joined_some b lines l other here)
        ∙ ap (λ bytes. put ++ bytes) more
        ∙ sym (append_assoc put (joined_bytes (contents b lines)) (to_le_bytes w32 word))
        ∙ ap (λ bytes. bytes ++ to_le_bytes w32 word) (sym (joined_behind put (contents b lines) long))
    by None here is rest = contents_second place x.saying lines number label word relocation end here is last

later_none : (o : Option ℕ) → later_or o None ≡ o
later_none (Some end) = refl
later_none None = refl

later_assoc : (a b c : Option ℕ) → later_or (later_or a b) c ≡ later_or a (later_or b c)
later_assoc (Some end) b c = refl
later_assoc None b c = refl

-- where the last instruction ends, with one line more
pub last_push : (place : ℕ) (lines : List Said) (l : Said) → last_end place (lines ++ l ∷ []) ≡ later_or (end_at (place + length (contents place lines)) l.saying) (last_end place lines)
last_push place [] l =
    let e : place ≡ place + 0 = omega arith in
    ap (λ n. end_at n l.saying) e ∙ sym (later_none (end_at (place + 0) l.saying))
last_push place (x ∷ lines) l =
    let behind = place + size_at place x.saying in
    let put = contribution place (is_joined behind lines) x.saying in
    let e : behind + length (contents behind lines) ≡ place + length (put ++ contents behind lines) = omega (arith, length-append put (contents behind lines), length_put place (is_joined behind lines) x.saying) in
    ap (λ o. later_or o (end_at place x.saying)) (last_push behind lines l)
    ∙ later_assoc (end_at (behind + length (contents behind lines)) l.saying) (last_end behind lines) (end_at place x.saying)
    ∙ ap (λ n. later_or (end_at n l.saying) (later_or (last_end behind lines) (end_at place x.saying))) e
