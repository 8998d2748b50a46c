use Rattle.std.proofs.Common.{◌≡◌, ℕ, zero, suc, ◌+◌, ◌-◌, ◌<◌, ◌≤◌, ◌==◌, ◌≢◌, Bool, true, false, List, [], ◌∷◌, ◌++◌, Option, None, Some, is_some, position, not, nat_le, length, take, drop, map, get_or, refl, sym, ap, ◌∙◌, add-one, nat_lt, cond, arith}
use Rattle.std.proofs.lemmas.List.{length-take-le, drop_more, drop_all, take_more, get_or_past, get_or-map, length-map}
use Rattle.std.proofs.lemmas.Bool.Decides.{nat_tests}
use Rattle.std.specs.List.{prefix_len, range_with_len}
use Rattle.std.specs.Option.{option_map}
use Rattle.c6x_elf_headers.specs.Names.{name_of}
use Rattle.c6x_elf_headers.specs.Rules.{◌<|>◌, along_both, first_along}
use Rattle.c6x_elf_headers.specs.declared.section_head.SectionHead.{SectionHead}
use Rattle.c6x_elf.specs.Entries.{ArePlaced, IsPlaced, end_behind, name_end, name_ends, named_refusal, rela_refusal, section_bytes, section_end, symbol_refusal, text_of}
use Rattle.c6x_elf.specs.declared.section.Section.{Section}

-- a walk along both lists, one section on
pub along_both_drop : (big : Bool) (names : ℕ) (all : List Section) (heads : List SectionHead) (sections : List Section) (k : ℕ) (h : SectionHead) (s : Section) → k < length heads → k < length sections → along_both (named_refusal big names all) (drop k heads) (drop k sections) ≡ (named_refusal big names all (get_or heads k h) (get_or sections k s) <|> along_both (named_refusal big names all) (drop (k + 1) heads) (drop (k + 1) sections))
along_both_drop big names all heads sections k h s below within =
    let test = named_refusal big names all in
    ap (λ (xs : List SectionHead). along_both test xs (drop k sections)) (drop_more heads k h below)
    ∙ ap (λ (ys : List Section). along_both test (get_or heads k h ∷ drop (k + 1) heads) ys) (drop_more sections k s within)

pub along_both_all : (big : Bool) (names : ℕ) (all : List Section) (heads : List SectionHead) (sections : List Section) (k : ℕ) → length heads ≤ k → along_both (named_refusal big names all) (drop k heads) (drop k sections) ≡ None
along_both_all big names all heads sections k past =
    ap (λ (xs : List SectionHead). along_both (named_refusal big names all) xs (drop k sections)) (drop_all k heads past)

-- what holds of both lists, one section on
pub placed_both : (heads : List SectionHead) (sections : List Section) (k : ℕ) (h : SectionHead) (s : Section) → k < length heads → k < length sections → ArePlaced (drop k heads) (drop k sections) → IsPlaced (get_or heads k h) (get_or sections k s) × ArePlaced (drop (k + 1) heads) (drop (k + 1) sections)
placed_both heads sections k h s below within placed =
    rw (drop_more heads k h below, drop_more sections k s within) at placed

pub placed_here : (heads : List SectionHead) (sections : List Section) (k : ℕ) (h : SectionHead) (s : Section) → k < length heads → k < length sections → ArePlaced (drop k heads) (drop k sections) → IsPlaced (get_or heads k h) (get_or sections k s)
placed_here heads sections k h s below within placed = (placed_both heads sections k h s below within placed).0

pub placed_drop : (heads : List SectionHead) (sections : List Section) (k : ℕ) (h : SectionHead) (s : Section) → k < length heads → k < length sections → ArePlaced (drop k heads) (drop k sections) → ArePlaced (drop (k + 1) heads) (drop (k + 1) sections)
placed_drop heads sections k h s below within placed = (placed_both heads sections k h s below within placed).1

-- a walk along the entries from number k on
range_more : (k n : ℕ) → k < n → range_with_len k (n - k) ≡ k ∷ range_with_len (k + 1) (n - (k + 1))
range_more k n below =
    let e : n - k ≡ suc (n - (k + 1)) = omega arith in
    ap (range_with_len k) e

pub symbols_more : (big : Bool) (sections : List Section) (head : SectionHead) (table : List ℕ) (k n : ℕ) → k < n → first_along (symbol_refusal big sections head table) (range_with_len k (n - k)) ≡ (symbol_refusal big sections head table k <|> first_along (symbol_refusal big sections head table) (range_with_len (k + 1) (n - (k + 1))))
symbols_more big sections head table k n below = ap (first_along (symbol_refusal big sections head table)) (range_more k n below)

pub relas_more : (big : Bool) (sections : List Section) (head : SectionHead) (table : List ℕ) (k n : ℕ) → k < n → first_along (rela_refusal big sections head table) (range_with_len k (n - k)) ≡ (rela_refusal big sections head table k <|> first_along (rela_refusal big sections head table) (range_with_len (k + 1) (n - (k + 1))))
relas_more big sections head table k n below = ap (first_along (rela_refusal big sections head table)) (range_more k n below)

-- the bytes of a section, and of none
pub text_here : (sections : List Section) (k : ℕ) (s : Section) → k < length sections → text_of sections k ≡ (get_or sections k s).bytes
unfolding text_of
text_here sections k s below = get_or-map section_bytes sections k s [] below

pub text_past : (sections : List Section) (k : ℕ) → length sections ≤ k → text_of sections k ≡ []
unfolding text_of
text_past sections k past = get_or_past (map section_bytes sections) k [] (rw (length-map sections section_bytes) past)

pub end_here : (sections : List Section) (k d : ℕ) → k < length (name_ends sections) → get_or (name_ends sections) k d ≡ name_end (text_of sections k)
unfolding name_ends text_of
end_here (s ∷ ss) zero d below = refl
end_here (s ∷ ss) (suc k) d below = end_here ss k d (omega arith)
end_here [] k d below = absurd (omega arith)

pub end_past : (sections : List Section) (k : ℕ) → length (name_ends sections) ≤ k → name_end (text_of sections k) ≡ 0
unfolding name_ends
end_past sections k past = ap name_end (text_past sections k (rw (length-map sections section_end) at past))

-- a name ends exactly where it begins before the last zero byte
none_ends : (k : ℕ) → false ≡ nat_lt k 0
none_ends k = grind (arith, nat_tests)

ends_behind : (b k rest : ℕ) → nat_lt k rest ≡ nat_lt (suc k) (end_behind b rest)
ends_behind b k zero = elim (b == 0) as (λ t. nat_lt k 0 ≡ nat_lt (suc k) (cond t 1 0)) [ true ↦ grind (arith, nat_tests) | false ↦ grind (arith, nat_tests) ]
ends_behind b k (suc n) = grind (arith, nat_tests)

ends_later : (b rest : ℕ) → (b == 0) ≡ false → nat_lt 0 rest ≡ nat_lt 0 (end_behind b rest)
ends_later b zero other = rw other refl
ends_later b (suc n) other = grind (arith, nat_tests)

-- the first byte ends a name, or a later one does
some_if : (t : Bool) (n : ℕ) → is_some (cond t (Some n) None) ≡ t
some_if true n = refl
some_if false n = refl

found_at : (xs : List ℕ) → is_some (position (λ b. b == 0) xs) ≡ nat_lt (prefix_len (λ b. not (b == 0)) xs) (length xs)
found_at xs = some_if (nat_lt (prefix_len (λ b. not (b == 0)) xs) (length xs)) (prefix_len (λ b. not (b == 0)) xs)

prefix_here : (b : ℕ) (bs : List ℕ) → (b == 0) ≡ true → prefix_len (λ c. not (c == 0)) (b ∷ bs) ≡ 0
prefix_here b bs is = rw is refl

prefix_later : (b : ℕ) (bs : List ℕ) → (b == 0) ≡ false → prefix_len (λ c. not (c == 0)) (b ∷ bs) ≡ suc (prefix_len (λ c. not (c == 0)) bs)
prefix_later b bs is = rw is (omega arith)

zero_below : (n : ℕ) → nat_lt 0 (suc n) ≡ true
zero_below n = grind (arith, nat_tests)

both_more : (m n : ℕ) → nat_lt (suc m) (suc n) ≡ nat_lt m n
both_more m n = grind (arith, nat_tests)

zero_ends : (b rest : ℕ) → (b == 0) ≡ true → nat_lt 0 (end_behind b rest) ≡ true
zero_ends b zero is = rw is refl
zero_ends b (suc n) is = zero_below (suc n)

first_byte : (b : ℕ) (bs : List ℕ) (rest : ℕ) (t : Bool) → (b == 0) ≡ t → is_some (position (λ c. c == 0) bs) ≡ nat_lt 0 rest → is_some (position (λ c. c == 0) (b ∷ bs)) ≡ nat_lt 0 (end_behind b rest)
first_byte b bs rest true is later =
    found_at (b ∷ bs) ∙ ap (λ n. nat_lt n (suc (length bs))) (prefix_here b bs is) ∙ zero_below (length bs)
    ∙ sym (zero_ends b rest is)
first_byte b bs rest false is later =
    found_at (b ∷ bs) ∙ ap (λ n. nat_lt n (suc (length bs))) (prefix_later b bs is)
    ∙ both_more (prefix_len (λ c. not (c == 0)) bs) (length bs) ∙ sym (found_at bs) ∙ later ∙ ends_later b rest is

has_end : (table : List ℕ) (k : ℕ) → is_some (position (λ b. b == 0) (drop k table)) ≡ nat_lt k (name_end table)
has_end [] zero = none_ends 0
has_end [] (suc k) = none_ends (suc k)
has_end (b ∷ bs) (suc k) = has_end bs k ∙ ends_behind b k (name_end bs)
has_end (b ∷ bs) zero = first_byte b bs (name_end bs) (b == 0) refl (has_end bs zero)

mapped : (o : Option ℕ) (f : ℕ → List ℕ) → is_some (option_map f o) ≡ is_some o
mapped None f = refl
mapped (Some n) f = refl

behind-le : (b rest n : ℕ) → rest ≤ n → end_behind b rest ≤ suc n
behind-le b zero n within = elim (b == 0) as (λ t. cond t 1 0 ≤ suc n) [ true ↦ omega arith | false ↦ omega arith ]
behind-le b (suc rest) n within = omega arith

pub name_end-le : (table : List ℕ) → name_end table ≤ length table
name_end-le [] = omega arith
name_end-le (b ∷ bs) = behind-le b (name_end bs) (length bs) (name_end-le bs)

within_table : (table : List ℕ) (name : ℕ) (t : Bool) → nat_le name (length table) ≡ t → is_some (name_of table name) ≡ nat_lt name (name_end table)
unfolding name_of
within_table table name true is =
    rw is (mapped (position (λ b. b == 0) (drop name table)) (λ len. take len (drop name table)) ∙ has_end table name)
within_table table name false is =
    let past : nat_lt name (name_end table) ≡ false = grind (arith, nat_tests, name_end-le) in
    rw (is, past) refl

pub has_end_before : (table : List ℕ) (name : ℕ) → is_some (name_of table name) ≡ nat_lt name (name_end table)
unfolding name_of
has_end_before table name = within_table table name (nat_le name (length table)) refl

-- one more byte
behind_more : (x n m : ℕ) (t : Bool) → end_behind x (cond t (n + 1) m) ≡ cond t (suc n + 1) (end_behind x m)
behind_more x n m true = rw (add-one, add-one) refl
behind_more x n m false = refl

end_push : (xs : List ℕ) (b : ℕ) → name_end (xs ++ b ∷ []) ≡ cond (b == 0) (length xs + 1) (name_end xs)
end_push [] b = refl
end_push (x ∷ xs) b = ap (end_behind x) (end_push xs b) ∙ behind_more x (length xs) (name_end xs) (b == 0)

pub end_zero : (text : List ℕ) (i : ℕ) → i < length text → get_or text i 0 ≡ 0 → name_end (take (i + 1) text) ≡ i + 1
end_zero text i below is =
    let len : length (take i text) ≡ i = length-take-le i text (omega arith) in
    ap name_end (take_more text i 0 below) ∙ end_push (take i text) (get_or text i 0) ∙ rw (is, len) refl

pub end_other : (text : List ℕ) (i : ℕ) → i < length text → get_or text i 0 ≢ 0 → name_end (take (i + 1) text) ≡ name_end (take i text)
end_other text i below other =
    let e : (get_or text i 0 == 0) ≡ false = grind (arith, nat_tests) in
    ap name_end (take_more text i 0 below) ∙ end_push (take i text) (get_or text i 0) ∙ rw e refl
