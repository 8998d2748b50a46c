-- The parts of the two images stand in order.
use Rattle.std.proofs.Common.{◌≡◌, ℕ, ◌+◌, ◌-◌, ◌≤◌, Bool, true, false, List, [], ◌∷◌, ◌++◌, length, map, filter, replicate, refl, sym, ap, subst, length-append, arith}
use Rattle.std.proofs.lemmas.List.{length-replicate}
use Rattle.c6x_elf.specs.Entries.{text_of}
use Rattle.c6x_elf.specs.Laid.{InOrder, Part, laid}
use Rattle.c6x_elf.specs.declared.file.File.{File}
use Rattle.c6x_layout.specs.Places.{AreApart, places_end, places_from, start_of}
use Rattle.c6x_layout.specs.Regions.{sections_at}
use Rattle.c6x_layout.specs.declared.place.Place.{Place}
use Rattle.c6x_layout.proofs.Laid.{start_above}
use Rattle.c6x_symbols.specs.declared.part.Part.{Part as Sect}
use Rattle.c6x_link.specs.Images.{filled_to, section_part}
use Rattle.c6x_link.proofs.SectionRows.{filled_length}

pub apart_places : (from : ℕ) (ps : List Sect) → AreApart from (places_from from ps) (places_end from ps)
apart_places from [] = omega arith
apart_places from (p ∷ ps) = (start_above from p.align, apart_places (start_of from p.align + p.size) ps)

pub apart_lower : (a b : ℕ) (ps : List Place) (c : ℕ) → a ≤ b → AreApart b ps c → AreApart a ps c
apart_lower a b [] c lower are = omega (arith, are)
apart_lower a b (p ∷ ps) c lower are = let first = are.0 in (omega (arith, first), are.1)

pub apart_append : (a b c : ℕ) (xs ys : List Place) → AreApart a xs b → AreApart b ys c → AreApart a (xs ++ ys) c
apart_append a b c [] ys first second = apart_lower a b ys c first second
apart_append a b c (x ∷ xs) ys first second = (first.0, apart_append (x.address + x.len) b c xs ys first.1 second)

pub apart_least : (a b : ℕ) (ps : List Place) → AreApart a ps b → a ≤ b
apart_least a b [] are = are
apart_least a b (p ∷ ps) are = let first = are.0 in let rest = apart_least (p.address + p.len) b ps are.1 in omega (arith, first, rest)

pub apart_wider : (a b c : ℕ) (ps : List Place) → b ≤ c → AreApart a ps b → AreApart a ps c
apart_wider a b c [] wider are = omega (arith, wider, are)
apart_wider a b c (p ∷ ps) wider are = (are.0, apart_wider (p.address + p.len) b c ps wider are.1)

pub apart_filter : (test : Place → Bool) (a b : ℕ) (ps : List Place) → AreApart a ps b → AreApart a (filter test ps) b
apart_filter test a b [] are = are
apart_filter test a b (p ∷ ps) are = either (test p) refl (apart_filter test (p.address + p.len) b ps are.1)
  where
    either : (t : Bool) → test p ≡ t → AreApart (p.address + p.len) (filter test ps) b → AreApart a (filter test (p ∷ ps)) b
    either true is rest = rw is (are.0, rest)
    either false is rest = let first = are.0 in rw is (apart_lower a (p.address + p.len) (filter test ps) b (omega (arith, first)) rest)

-- all places pass a test, or none
pub keep_all : (test : Place → Bool) (a b : ℕ) (ps : List Place) → ((p : Place) → a ≤ p.address → p.address ≤ b → test p ≡ true) → AreApart a ps b → filter test ps ≡ ps
keep_all test a b [] pass are = refl
keep_all test a b (p ∷ ps) pass are =
    let first = are.0 in
    let last = apart_least (p.address + p.len) b ps are.1 in
    let here : test p ≡ true = pass p (omega (arith, first)) (omega (arith, last)) in
    rw here (ap (λ xs. p ∷ xs) (keep_all test (p.address + p.len) b ps (λ q low high. pass q (omega (arith, first, low)) high) are.1))

pub drop_every : (test : Place → Bool) (a b : ℕ) (ps : List Place) → ((p : Place) → a ≤ p.address → p.address ≤ b → test p ≡ false) → AreApart a ps b → filter test ps ≡ []
drop_every test a b [] fail are = refl
drop_every test a b (p ∷ ps) fail are =
    let first = are.0 in
    let last = apart_least (p.address + p.len) b ps are.1 in
    let here : test p ≡ false = fail p (omega (arith, first)) (omega (arith, last)) in
    rw here (drop_every test (p.address + p.len) b ps (λ q low high. fail q (omega (arith, first, low)) high) are.1)

-- each section has no more bytes than its length
abbrev pub AreFilled : List File → List Place → Type 0
AreFilled objects [] = Unit {0}
AreFilled objects (p ∷ ps) = (length (text_of (sections_at objects p.object) p.section) ≤ p.len) × AreFilled objects ps

pub filled_filter : (objects : List File) (test : Place → Bool) (ps : List Place) → AreFilled objects ps → AreFilled objects (filter test ps)
filled_filter objects test [] are = are
filled_filter objects test (p ∷ ps) are = either (test p) refl (filled_filter objects test ps are.1)
  where
    either : (t : Bool) → test p ≡ t → AreFilled objects (filter test ps) → AreFilled objects (filter test (p ∷ ps))
    either true is rest = rw is (are.0, rest)
    either false is rest = rw is rest

pub order_lower : (a b : ℕ) (parts : List Part) → a ≤ b → InOrder b parts → InOrder a parts
order_lower a b [] lower order = order
order_lower a b (part ∷ parts) lower order = let first = order.0 in (omega (arith, first), order.1)

pub section_end : (objects : List File) (start : ℕ) (p : Place) → start ≤ p.address → length (text_of (sections_at objects p.object) p.section) ≤ p.len
    → (p.address - start) + length (filled_to p.len (text_of (sections_at objects p.object) p.section)) ≡ (p.address + p.len) - start
section_end objects start p behind filled = omega (arith, behind, filled, filled_length p.len (text_of (sections_at objects p.object) p.section))

pub order_parts : (objects : List File) (start a b : ℕ) (ps : List Place) (rest : List Part) → start ≤ a → AreApart a ps b → AreFilled objects ps → InOrder (b - start) rest
    → InOrder (a - start) (map (section_part objects start) ps ++ rest)
order_parts objects start a b [] rest behind are filled order = order_lower (a - start) (b - start) rest (omega (arith, are)) order
order_parts objects start a b (p ∷ ps) rest behind are filled order =
    let first = are.0 in
    let here : start ≤ p.address = omega (arith, first, behind) in
    let end = section_end objects start p here filled.0 in
    let P : ℕ → Type 0 = λ n. InOrder n (map (section_part objects start) ps ++ rest) in
    (omega (arith, first), subst P (sym end) (order_parts objects start (p.address + p.len) b ps rest (omega (arith, here)) are.1 filled.1 order))

-- the end of parts in order, and how many bytes they make
abbrev pub parts_end : ℕ → List Part → ℕ
parts_end from [] = from
parts_end from (part ∷ parts) = parts_end (part.at + length part.bytes) parts

end_behind : (from : ℕ) (parts : List Part) → InOrder from parts → from ≤ parts_end from parts
end_behind from [] order = omega arith
end_behind from (part ∷ parts) order =
    let later = end_behind (part.at + length part.bytes) parts order.1 in
    let front = order.0 in
    omega (arith, later, front)

pub laid_length : (from : ℕ) (parts : List Part) → InOrder from parts → length (laid from parts) ≡ parts_end from parts - from
laid_length from [] order = omega arith
laid_length from (part ∷ parts) order =
    let later = laid_length (part.at + length part.bytes) parts order.1 in
    let end = end_behind (part.at + length part.bytes) parts order.1 in
    let front = order.0 in
    let gap : length (replicate {A = ℕ} (part.at - from) 0) ≡ part.at - from = length-replicate (part.at - from) 0 in
    omega (arith, later, end, front, gap, length-append (replicate (part.at - from) 0) (part.bytes ++ laid (part.at + length part.bytes) parts), length-append part.bytes (laid (part.at + length part.bytes) parts))
