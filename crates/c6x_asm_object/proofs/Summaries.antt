-- What the summary of sections tells of them.
use Rattle.std.proofs.Common.{◌≡◌, ℕ, suc, ◌+◌, ◌-◌, ◌*◌, ◌<◌, ◌^◌, min, Bool, true, false, ◌||◌, cond, List, [], ◌∷◌, ◌++◌, length, get_or, take, refl, sym, ap, ◌∙◌, arith}
use Rattle.std.specs.Prelude.{sum_by}
use Rattle.std.specs.List.{list_any}
use Rattle.std.proofs.Math.Seq.{take-add}
use Rattle.std.proofs.lemmas.List.{append-nil, append_assoc, take_all}
use Rattle.std.proofs.lemmas.List.Folds.{list_any-append}
use Rattle.std.proofs.lemmas.List.Sums.{sum_by-append}
use Rattle.c6x_asm_object.specs.declared.asm_section.AsmSection.{AsmSection}
use Rattle.c6x_asm_object.specs.Filing.{has_entries}
use Rattle.c6x_asm_object.specs.declared.summary.Summary.{Summary}
use Rattle.c6x_asm_object.specs.Places.{Reaches}
use Rattle.c6x_asm_object.specs.Sums.{AreBlocks, block_of, block_summary, clipped, empty_summary, is_heavy, joined, joined_all, names_of_section, rows_of_section, section_summary, section_tables, summed}
use Rattle.c6x_asm_object.proofs.Stretches.{joined_reaches, none_reaches, section_reaches}

pub record Tells (text : List ℕ) (s : Summary) (sections : List AsmSection) : Type 0 where
  pub stretch : Reaches s.stretch sections
  pub heavy : s.heavy ≡ list_any is_heavy sections
  pub tables : s.tables ≡ clipped (sum_by section_tables sections)
  pub rows : s.rows ≡ clipped (sum_by rows_of_section sections)
  pub names : s.names ≡ clipped (sum_by (names_of_section text) sections)

clipped_sum : {X : Type 0} (f : X → ℕ) (xs ys : List X) (m n : ℕ) → m ≡ clipped (sum_by f xs) → n ≡ clipped (sum_by f ys) → clipped (m + n) ≡ clipped (sum_by f (xs ++ ys))
clipped_sum f xs ys m n first second = omega (arith, first, second, sum_by-append f xs ys)

tells_joined : (text : List ℕ) (a b : Summary) (xs ys : List AsmSection) → Tells text a xs → Tells text b ys → Tells text (joined a b) (xs ++ ys)
unfolding joined
tells_joined text a b xs ys here there = record {
  stretch = joined_reaches a.stretch b.stretch xs ys here.stretch there.stretch;
  heavy = rw (here.heavy, there.heavy) (sym (list_any-append is_heavy xs ys));
  tables = clipped_sum section_tables xs ys a.tables b.tables here.tables there.tables;
  rows = clipped_sum rows_of_section xs ys a.rows b.rows here.rows there.rows;
  names = clipped_sum (names_of_section text) xs ys a.names b.names here.names there.names;
}

or_false : (b : Bool) → b ≡ (b || false)
or_false true = refl
or_false false = refl

one_table : (has : Bool) → cond has 1 0 ≡ min (0 + cond has 1 0) (2 ^ 64 - 1)
one_table true = refl
one_table false = refl

tells_section : (text : List ℕ) (p : AsmSection) → Tells text (section_summary text p) (p ∷ [])
unfolding section_summary
tells_section text p = record {
  stretch = section_reaches p;
  heavy = or_false (is_heavy p);
  tables = one_table (has_entries p);
  rows = omega arith;
  names = omega arith;
}

tells_none : (text : List ℕ) → Tells text empty_summary []
tells_none text = record { stretch = none_reaches; heavy = refl; tables = refl; rows = refl; names = refl }

same_sections : (text : List ℕ) (s : Summary) (xs ys : List AsmSection) → xs ≡ ys → Tells text s xs → Tells text s ys
same_sections text s xs ys is tells = rw (sym is) tells

tells_summed : (text : List ℕ) (s : Summary) (xs sections : List AsmSection) → Tells text s xs → Tells text (summed text s sections) (xs ++ sections)
tells_summed text s xs [] tells = same_sections text s xs (xs ++ []) (sym (append-nil xs)) tells
tells_summed text s xs (p ∷ sections) tells =
    same_sections text (summed text (joined s (section_summary text p)) sections) ((xs ++ p ∷ []) ++ sections) (xs ++ p ∷ sections) (append_assoc xs (p ∷ []) sections)
    (tells_summed text (joined s (section_summary text p)) (xs ++ p ∷ []) sections (tells_joined text s (section_summary text p) xs (p ∷ []) tells (tells_section text p)))

tells_block : (text : List ℕ) (sections : List AsmSection) (block : ℕ) → Tells text (block_summary text sections block) (block_of sections block)
tells_block text sections block = tells_summed text empty_summary [] (block_of sections block) (tells_none text)

-- block behind block
one_more : (sections : List AsmSection) (block : ℕ) → take (64 * block) sections ++ block_of sections block ≡ take (64 * (block + 1)) sections
one_more sections block = sym (ap (λ n. take n sections) (omega arith) ∙ take-add (64 * block) 64 sections)

tells_from : (text : List ℕ) (sections : List AsmSection) (s : Summary) (block : ℕ) (blocks : List Summary) → Tells text s (take (64 * block) sections) → ((k : ℕ) → k < length blocks → get_or blocks k empty_summary ≡ block_summary text sections (block + k)) → Tells text (joined_all s blocks) (take (64 * (block + length blocks)) sections)
tells_from text sections s block [] tells each = same_sections text s (take (64 * block) sections) (take (64 * (block + 0)) sections) (ap (λ n. take (64 * n) sections) (omega arith)) tells
tells_from text sections s block (first ∷ blocks) tells each =
    let is : first ≡ block_summary text sections block = each 0 (omega arith) ∙ ap (block_summary text sections) (omega arith) in
    let one : Tells text first (block_of sections block) = rw is (tells_block text sections block) in
    let both : Tells text (joined s first) (take (64 * (block + 1)) sections) = same_sections text (joined s first) (take (64 * block) sections ++ block_of sections block) (take (64 * (block + 1)) sections) (one_more sections block) (tells_joined text s first (take (64 * block) sections) (block_of sections block) tells one) in
    same_sections text (joined_all (joined s first) blocks) (take (64 * (block + 1 + length blocks)) sections) (take (64 * (block + suc (length blocks))) sections) (ap (λ n. take (64 * n) sections) (omega arith))
    (tells_from text sections (joined s first) (block + 1) blocks both
    (λ k inside. each (suc k) (omega (arith, inside)) ∙ ap (block_summary text sections) (omega arith)))

pub sum_tells : (text : List ℕ) (sections : List AsmSection) (blocks : List Summary) → AreBlocks text sections blocks → Tells text (joined_all empty_summary blocks) sections
sum_tells text sections blocks are =
    same_sections text (joined_all empty_summary blocks) (take (64 * (0 + length blocks)) sections) sections (take_all (64 * (0 + length blocks)) sections (omega (arith, are.enough)))
    (tells_from text sections empty_summary 0 blocks (tells_none text) (λ k inside. are.each k inside ∙ ap (block_summary text sections) (omega arith)))
