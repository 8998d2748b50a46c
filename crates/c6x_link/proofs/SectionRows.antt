-- Sections put in their places.
use Rattle.std.proofs.Common.{◌≡◌, ℕ, ◌+◌, ◌-◌, ◌<◌, ◌≤◌, Bool, true, false, List, [], ◌∷◌, ◌++◌, length, map, get_or, drop, drop-cons, add-one, replicate, refl, sym, ap, ◌∙◌, length-append, append_assoc, arith}
use Rattle.std.proofs.lemmas.List.{append-nil, drop_all, map-id, get_or-map, get_or_past, length-map, length-replicate}
use Rattle.std.proofs.lemmas.List.FromFn.{map-range_with_len_more}
use Rattle.std.specs.List.{flat_map, range_with_len}
use Rattle.c6x_elf.proofs.Layouts.{laid_more}
use Rattle.c6x_elf.specs.Entries.{text_of}
use Rattle.c6x_elf.specs.Laid.{Part, laid}
use Rattle.c6x_elf.specs.declared.file.File.{File}
use Rattle.c6x_layout.specs.Regions.{sections_at, sections_in}
use Rattle.c6x_layout.specs.declared.place.Place.{Place}
use Rattle.std.proofs.lemmas.List.Concat.{flat_map-append}
use Rattle.c6x_link.specs.Images.{filled_to, section_part, stub_row}
use Rattle.c6x_link.specs.Sections.{is_between, parts_between, stub_bytes}

pub sections_here : (objects : List File) (object : ℕ) (d : File) → object < length objects → sections_at objects object ≡ (get_or objects object d).sections
unfolding sections_at
sections_here objects object d below = get_or-map sections_in objects object d [] below

pub sections_past : (objects : List File) (object : ℕ) → length objects ≤ object → sections_at objects object ≡ []
unfolding sections_at
sections_past objects object past = get_or_past (map sections_in objects) object [] (omega (arith, length-map objects sections_in))

pub none_there : (section : ℕ) → text_of [] section ≡ []
unfolding text_of
none_there section = refl

pub none_more : (bytes : List ℕ) (end from : ℕ) → end ≤ from → bytes ≡ bytes ++ replicate {A = ℕ} (end - from) 0
none_more bytes end from past = let e : end - from ≡ 0 = omega arith in sym (rw e (append-nil bytes))

-- a section with zeros behind its bytes
pub filled_length : (len : ℕ) (bytes : List ℕ) → length (filled_to len bytes) ≡ length bytes + (len - length bytes)
unfolding filled_to
filled_length len bytes = length-append bytes (replicate (len - length bytes) 0) ∙ ap (λ n. length bytes + n) (length-replicate (len - length bytes) 0)

pub filled_more : (old new bytes : List ℕ) (from at len : ℕ) (rest : List Part) → new ≡ ((old ++ replicate {A = ℕ} (at - from) 0) ++ bytes) ++ replicate {A = ℕ} (len - length bytes) 0
    → new ++ laid (at + length (filled_to len bytes)) rest ≡ old ++ laid from (record { at = at; bytes = filled_to len bytes } ∷ rest)
unfolding filled_to
filled_more old new bytes from at len rest is =
    rw is
    (ap (λ xs. xs ++ laid (at + length (bytes ++ replicate {A = ℕ} (len - length bytes) 0)) rest) (append_assoc (old ++ replicate {A = ℕ} (at - from) 0) bytes (replicate (len - length bytes) 0))
    ∙ laid_more old from at (bytes ++ replicate (len - length bytes) 0) rest)

-- one section less
abbrev pub part_step : Bool → Part → List Part → List Part
part_step true part parts = part ∷ parts
part_step false part parts = parts

pub parts_drop : (objects : List File) (start low high : ℕ) (places : List Place) (i : ℕ) (d : Place) → i < length places
    → parts_between objects start low high (drop i places) ≡ part_step (is_between low high (get_or places i d)) (section_part objects start (get_or places i d)) (parts_between objects start low high (drop (i + 1) places))
parts_drop objects start low high places i d below =
    let cut : drop i places ≡ get_or places i d ∷ drop (i + 1) places = rw (add-one i) (drop-cons places i d below) in
    ap (parts_between objects start low high) cut ∙ either (is_between low high (get_or places i d)) refl
  where
    either : (b : Bool) → is_between low high (get_or places i d) ≡ b → parts_between objects start low high (get_or places i d ∷ drop (i + 1) places) ≡ part_step (is_between low high (get_or places i d)) (section_part objects start (get_or places i d)) (parts_between objects start low high (drop (i + 1) places))
    either true is = rw is refl
    either false is = rw is refl

pub parts_done : (objects : List File) (start low high : ℕ) (places : List Place) (i : ℕ) → length places ≤ i → parts_between objects start low high (drop i places) ≡ []
parts_done objects start low high places i past = ap (parts_between objects start low high) (drop_all i places past)

range_push : (first n : ℕ) → range_with_len first (n + 1) ≡ range_with_len first n ++ (first + n) ∷ []
range_push first n =
    sym (map-id (range_with_len first (n + 1))) ∙ map-range_with_len_more (λ (x : ℕ). x) first n (first + n) refl
    ∙ ap (λ ys. ys ++ (first + n) ∷ []) (map-id (range_with_len first n))

pub stubs_more : (first n : ℕ) → stub_bytes first (n + 1) ≡ stub_bytes first n ++ stub_row (first + n)
stubs_more first n =
    ap (flat_map stub_row) (range_push first n)
    ∙ flat_map-append stub_row (range_with_len first n) ((first + n) ∷ [])
    ∙ ap (λ ys. stub_bytes first n ++ ys) (append-nil (stub_row (first + n)))
