-- The blocks behind a line are those of the sections behind it.
use Rattle.std.proofs.Common.{◌≡◌, ◌≢◌, ℕ, ◌+◌, ◌-◌, ◌*◌, ◌/◌, ◌<◌, ◌≤◌, max, nat_lt, Bool, true, false, cond, inl, inr, List, [], ◌∷◌, ◌++◌, Option, Some, None, length, get_or, take, drop, refl, sym, ap, ◌∙◌, ◌⊎◌, arith}
use Rattle.std.specs.Prelude.{IfSome, slice_set}
use Rattle.std.proofs.lemmas.Bool.{cases_lt}
use Rattle.std.proofs.lemmas.Bool.Decides.{nat_tests}
use Rattle.std.proofs.lemmas.List.{drop-set-lt, drop-take, get_or-set_other, get_or-set_same, get_or_append_left, get_or_push, length-set, length-take-le, length_push, take-append-le, take_more, take-set-le}
use Rattle.c6x_asm_object.specs.declared.asm_section.AsmSection.{AsmSection}
use Rattle.c6x_asm_object.specs.Sections.{no_section}
use Rattle.c6x_asm_object.specs.declared.summary.Summary.{Summary}
use Rattle.c6x_asm_object.specs.Sums.{AreBlocks, behind_line, block_of, block_summary, empty_summary, refreshed, refreshed_at, summed}

-- a block of sections that are the same up to its end, or from its start on
same_front : (before after : List AsmSection) (block : ℕ) → take (64 * block + 64) before ≡ take (64 * block + 64) after → block_of before block ≡ block_of after block
same_front before after block is =
    sym (drop-take (64 * block) 64 before) ∙ (ap (drop (64 * block)) is ∙ drop-take (64 * block) 64 after)

same_summary : (text : List ℕ) (before after : List AsmSection) (block : ℕ) → block_of before block ≡ block_of after block → block_summary text before block ≡ block_summary text after block
same_summary text before after block is = ap (summed text empty_summary) is

-- one block anew, where the others tell the sections behind the line as those before it
record AreSame (before after : List AsmSection) (place : ℕ) : Type 0 where
  inside : place < length after
  others : (block : ℕ) → block ≢ place / 64 → 64 * block < length after → block_of before block ≡ block_of after block

set_if : (b : Bool) (xs ys : List Summary) → b ≡ true → cond b xs ys ≡ xs
set_if b xs ys is = rw is refl

push_if : (b : Bool) (xs ys : List Summary) → b ≡ false → cond b xs ys ≡ ys
push_if b xs ys is = rw is refl

is_below : (m n : ℕ) → m < n → nat_lt m n ≡ true
is_below m n less = grind (arith, nat_tests)

is_not_below : (m n : ℕ) → n ≤ m → nat_lt m n ≡ false
is_not_below m n more = grind (arith, nat_tests)

either_place : (m n : ℕ) → (m ≡ n) ⊎ (m ≢ n)
either_place m n = elim (cases_lt m n) [
  | inl less ↦ inr (λ same. absurd (omega (arith, less, same)))
  | inr more ↦ elim (cases_lt n m) [
    | inl above ↦ inr (λ same. absurd (omega (arith, above, same)))
    | inr below ↦ inl (omega (arith, more, below))
  ]
]

-- the block of a section that there was a block for
refreshed_set : (text : List ℕ) (before after : List AsmSection) (blocks : List Summary) (place : ℕ) → AreBlocks text before blocks → AreSame before after place → place / 64 < length blocks → length before ≤ length after → length after ≤ 64 * length blocks → AreBlocks text after (slice_set blocks (place / 64) (block_summary text after (place / 64)))
refreshed_set text before after blocks place are same there longer enough =
    let here = place / 64 in
    let new = block_summary text after here in
    let long = length-set blocks here new in
    record {
      enough = omega (arith, enough, long);
      needed = omega (arith, are.needed, longer, long);
      each = λ block inside. elim (either_place block here) [
        | inl is ↦ rw is (get_or-set_same blocks here new empty_summary there)
        | inr other ↦
            get_or-set_other blocks here block new empty_summary other
            ∙ (are.each block (omega (arith, inside, long))
            ∙ same_summary text before after block (same.others block other (omega (arith, inside, long, longer, are.needed))))
      ];
    }

-- the block of the first section of a new one
refreshed_push : (text : List ℕ) (before after : List AsmSection) (blocks : List Summary) (place : ℕ) → AreBlocks text before blocks → AreSame before after place → place ≡ 64 * length blocks → length after ≡ place + 1 → AreBlocks text after (blocks ++ block_summary text after (place / 64) ∷ [])
refreshed_push text before after blocks place are same last long =
    let here = place / 64 in
    let new = block_summary text after here in
    let more = length_push blocks new in
    record {
      enough = omega (arith, long, last, more);
      needed = omega (arith, long, last, more);
      each = λ block inside. elim (cases_lt block (length blocks)) [
        | inl less ↦
            get_or_append_left blocks (new ∷ []) empty_summary block less
            ∙ (are.each block less
            ∙ same_summary text before after block (same.others block (λ is. absurd (omega (arith, is, less, last))) (omega (arith, less, last, long))))
        | inr above ↦
            let at : block ≡ length blocks = omega (arith, inside, above, more) in
            get_or_push blocks new empty_summary block (sym at) ∙ ap (block_summary text after) (omega (arith, at, last))
      ];
    }

-- the block of any section
refreshed_blocks : (text : List ℕ) (before after : List AsmSection) (blocks : List Summary) (place : ℕ) → AreBlocks text before blocks → AreSame before after place → length before ≤ length after → length after ≤ length before + 1 → length after ≤ max (length before) (place + 1) → AreBlocks text after (refreshed text after blocks place)
refreshed_blocks text before after blocks place are same longer one grown =
    let new = block_summary text after (place / 64) in
    elim (cases_lt (place / 64) (length blocks)) [
      | inl there ↦
          rw (set_if (nat_lt (place / 64) (length blocks)) (slice_set blocks (place / 64) new) (blocks ++ new ∷ []) (is_below (place / 64) (length blocks) there))
          (refreshed_set text before after blocks place are same there longer (omega (arith, there, grown, are.enough)))
      | inr more ↦
          rw (push_if (nat_lt (place / 64) (length blocks)) (slice_set blocks (place / 64) new) (blocks ++ new ∷ []) (is_not_below (place / 64) (length blocks) more))
          (refreshed_push text before after blocks place are same (omega (arith, more, same.inside, one, are.enough)) (omega (arith, more, same.inside, grown, are.enough)))
    ]

-- what a line does to the sections
same_set : (sections : List AsmSection) (i : ℕ) (p : AsmSection) → i < length sections → AreSame sections (slice_set sections i p) i
same_set sections i p inside = record {
  inside = omega (arith, inside, length-set sections i p);
  others = λ block other some. elim (cases_lt block (i / 64)) [
    | inl less ↦ same_front sections (slice_set sections i p) block (sym (take-set-le (64 * block + 64) sections i p (omega (arith, less))))
    | inr more ↦ elim (cases_lt (i / 64) block) [
      | inl above ↦ sym (ap (take 64) (drop-set-lt (64 * block) sections i p (omega (arith, above))))
      | inr below ↦ absurd (other (omega (arith, more, below)))
    ]
  ];
}

same_push : (sections : List AsmSection) (p : AsmSection) → AreSame sections (sections ++ p ∷ []) (length sections)
same_push sections p = record {
  inside = omega (arith, length_push sections p);
  others = λ block other some. elim (cases_lt block (length sections / 64)) [
    | inl less ↦ same_front sections (sections ++ p ∷ []) block (sym (take-append-le (64 * block + 64) sections (p ∷ []) (omega (arith, less))))
    | inr more ↦ absurd (other (omega (arith, more, some, length_push sections p)))
  ];
}

-- no section
pub blocks_none : (text : List ℕ) → AreBlocks text [] []
blocks_none text = record { enough = omega arith; needed = omega arith; each = λ block inside. absurd (omega (arith, inside)) }

-- one more section
pub blocks_pushed : (text : List ℕ) (sections : List AsmSection) (blocks : List Summary) (current : Option ℕ) (p : AsmSection) → AreBlocks text sections blocks → AreBlocks text (sections ++ p ∷ []) (behind_line text (sections ++ p ∷ []) blocks (length sections) current)
unfolding behind_line
blocks_pushed text sections blocks current p are =
    let after = sections ++ p ∷ [] in
    let long = length_push sections p in
    let last : length after - 1 ≡ length sections = omega (arith, long) in
    rw (set_if (nat_lt (length sections) (length after)) (refreshed text after blocks (length after - 1)) (refreshed_at text after blocks current) (is_below (length sections) (length after) (omega (arith, long))), last)
    (refreshed_blocks text sections after blocks (length sections) are (same_push sections p) (omega (arith, long)) (omega (arith, long)) (omega (arith, long)))

-- the section that lines go to with another in its place
pub blocks_set : (text : List ℕ) (sections : List AsmSection) (blocks : List Summary) (i : ℕ) (p : AsmSection) → i < length sections → AreBlocks text sections blocks → AreBlocks text (slice_set sections i p) (behind_line text (slice_set sections i p) blocks (length sections) (Some i))
unfolding behind_line
blocks_set text sections blocks i p inside are =
    let after = slice_set sections i p in
    let long = length-set sections i p in
    rw (push_if (nat_lt (length sections) (length after)) (refreshed text after blocks (length after - 1)) (refreshed text after blocks i) (is_not_below (length sections) (length after) (omega (arith, long))))
    (refreshed_blocks text sections after blocks i are (same_set sections i p inside) (omega (arith, long)) (omega (arith, long)) (omega (arith, long)))

-- the sections one by one
blocks_one : (text : List ℕ) (sections : List AsmSection) (blocks : List Summary) (p : AsmSection) (i : ℕ) → length sections ≡ i → AreBlocks text sections blocks → AreBlocks text (sections ++ p ∷ []) (refreshed text (sections ++ p ∷ []) blocks i)
blocks_one text sections blocks p i is are =
    let push = length_push sections p in
    rw (sym is) (refreshed_blocks text sections (sections ++ p ∷ []) blocks (length sections) are (same_push sections p) (omega (arith, push)) (omega (arith, push)) (omega (arith, push)))

pub blocks_more : (text : List ℕ) (sections : List AsmSection) (blocks : List Summary) (i : ℕ) → i < length sections → AreBlocks text (take i sections) blocks → AreBlocks text (take (i + 1) sections) (refreshed text (take (i + 1) sections) blocks i)
blocks_more text sections blocks i inside are =
    let p = get_or sections i no_section in
    rw (take_more sections i no_section inside) (blocks_one text (take i sections) blocks p i (length-take-le i sections (omega (arith, inside))) are)

-- no section changed
same_at : (text : List ℕ) (sections : List AsmSection) (blocks : List Summary) (current : Option ℕ) → IfSome current (λ i. i < length sections) → AreBlocks text sections blocks → AreBlocks text sections (refreshed_at text sections blocks current)
same_at text sections blocks None inside are = are
same_at text sections blocks (Some i) inside are =
    refreshed_blocks text sections sections blocks i are (record { inside = inside; others = λ block other some. refl }) (omega arith) (omega arith) (omega arith)

pub blocks_same : (text : List ℕ) (sections : List AsmSection) (blocks : List Summary) (current : Option ℕ) → IfSome current (λ i. i < length sections) → AreBlocks text sections blocks → AreBlocks text sections (behind_line text sections blocks (length sections) current)
unfolding behind_line
blocks_same text sections blocks current inside are =
    rw (push_if (nat_lt (length sections) (length sections)) (refreshed text sections blocks (length sections - 1)) (refreshed_at text sections blocks current) (is_not_below (length sections) (length sections) (omega arith)))
    (same_at text sections blocks current inside are)
