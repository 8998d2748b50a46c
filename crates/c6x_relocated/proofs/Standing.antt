-- The bytes of a linked module where it stands.
use Rattle.std.proofs.Common.{◌≡◌, ℕ, ◌+◌, ◌-◌, ◌/◌, ◌%◌, ◌<◌, ◌≤◌, inl, inr, List, [], ◌∷◌, ◌++◌, length, drop, get_or, refl, sym, ap, ◌∙◌, subst, append_assoc, length-append, lit<, arith}
use Rattle.std.specs.Prelude.{replicate}
use Rattle.std.specs.Int.{bit_at}
use Rattle.std.proofs.lemmas.Bool.Decides.{leb_tells}
use Rattle.std.proofs.lemmas.List.{places}
use Rattle.std.proofs.lemmas.Bool.Decides.{nat_tests}
use Rattle.std.proofs.Math.ListN.{get_or-append}
use Rattle.c6x_spec.specs.Memory.{IsOnMemory, Memory}
use Rattle.c6x_spec.specs.Numbers.{bit_in}
use Rattle.c6x_spec.specs.Parts.{HoldsPart}
use Rattle.c6x_elf.specs.Laid.{Part as Laid, laid}
use Rattle.c6x_elf.specs.declared.segment.Segment.{Segment}
use Rattle.c6x_reloc.specs.Fields.{HoldsValue, SetsField, first_bit}
use Rattle.c6x_reloc.specs.Table.{row_of}
use Rattle.c6x_reloc.specs.declared.reloc_kind.RelocKind.{RelocKind}
use Rattle.c6x_reloc.proofs.Bytes.{inside_is, patched_length}
use Rattle.c6x_reloc.proofs.Held.{field_held, last_is}
use Rattle.c6x_reloc.proofs.RowFacts.{row_within}
use Rattle.c6x_reloc.proofs.Steps.{last_both, one_set, or_bit_else}
use Rattle.c6x_reloc.specs.FieldBits.{AreBytes, IsLast, IsPatchedBy, last_bit, lowest, or_bit, patched, width}
use Rattle.c6x_reloc.specs.declared.field.Field.{Field}
use Rattle.c6x_layout.specs.File.{data_segment, text_bytes, text_parts, text_segment}
use Rattle.c6x_layout.specs.declared.parts.Parts.{Parts}
use Rattle.c6x_load.specs.Values.{filled}
use Rattle.c6x_relocated.proofs.Held.{on_board, same_held}

-- bytes with zeros behind them are bytes
pub with_zeros : (bytes : List ℕ) (n : ℕ) → AreBytes bytes → AreBytes (bytes ++ replicate n 0)
with_zeros bytes n small i =
    let P : ℕ → Type 0 = λ b. b < 256 in
    elim (leb_tells (length bytes) i) [
      | inr (_, inside) ↦ subst P (sym (get_or-append bytes (replicate n 0) 0 i inside)) (small i)
      | inl (_, past) ↦ subst P (sym (zero_past bytes n i past)) (lit< tt)
    ]
  where
    zero_past : (bytes : List ℕ) (n i : ℕ) → length bytes ≤ i → get_or (bytes ++ replicate n 0) i 0 ≡ 0
    zero_past bytes n i past = grind (arith, places, nat_tests)

-- bytes whose bits at a field are those of a value hold it
pub held_of_bits : (bytes : List ℕ) (f : Field) → AreBytes bytes → f.place + (row_of f.kind).size ≤ length bytes
    → ((i : ℕ) → i < width f → bit_in bytes (lowest f + i) ≡ bit_at f.value i)
    → HoldsValue bytes f.place f.kind f.value
held_of_bits bytes f small within bits =
    let sets : SetsField bytes f.place f.kind f.value bytes = record { len = refl; field = bits; others = λ i out. refl } in
    let last : IsLast (length bytes) (f ∷ []) f = record { before = []; after = []; split = refl; within = within; alone = λ i below. refl } in
    field_held bytes bytes (f ∷ []) f small (one_set f bytes bytes sets) last

-- the place of a bit of a field lies in the bytes of its number
bit_inside : (f : Field) (i len : ℕ) → i < width f → f.place + (row_of f.kind).size ≤ len → (lowest f + i) / 8 < len
unfolding first_bit
bit_inside f i len below within = let room = row_within f.kind in omega (arith, room, below, within)

-- where fields patched bytes, and others these with more behind them, the last field of all holds its value
pub loaded_held : (old : List ℕ) (links loaded : List Field) (more image : List ℕ) → AreBytes image
    → IsPatchedBy (patched old links ++ more) loaded image → (f : Field) → IsLast (length old) (links ++ loaded) f
    → HoldsValue image f.place f.kind f.value
loaded_held old links loaded more image small p f last =
    let len : length (patched old links) ≡ length old = patched_length old links in
    let size : length image ≡ length (patched old links ++ more) = p.size in
    let both = length-append (patched old links) more in
    let within = last.within in
    held_of_bits image f small (omega (arith, within, len, size, both)) (λ i below.
    let at : ℕ = lowest f + i in
    let inside : at / 8 < length old = bit_inside f i (length old) below within in
    let front : at / 8 < length (patched old links) = omega (arith, len, inside) in
    p.bits at
    ∙ ap (λ b. or_bit (last_bit loaded at) (bit_at b (at % 8))) (get_or-append (patched old links) more 0 (at / 8) front)
    ∙ ap (or_bit (last_bit loaded at)) (inside_is old links at inside)
    ∙ or_bit_else (last_bit loaded at) (last_bit links at) (bit_in old at)
    ∙ ap (λ o. or_bit o (bit_in old at)) (sym (last_both links loaded at))
    ∙ last_is (bit_in old at) (links ++ loaded) f i last below)

-- what bytes hold that stand in the memory, the memory holds
pub on_memory : (board : Memory) (at : ℕ) (bytes behind whole : List ℕ) → whole ≡ bytes ++ behind
    → IsOnMemory board at (length whole) → HoldsPart board (record { at = at; bytes = whole })
    → (kind : RelocKind) (place value : ℕ) → place + (row_of kind).size ≤ length bytes
    → HoldsValue bytes place kind value → HoldsValue board.bytes (at + place - board.base) kind value
on_memory board at bytes behind whole is on part kind place value within held =
    let P : List ℕ → Type 0 = λ xs. HoldsPart board (record { at = at; bytes = xs }) in
    let there = subst P is part in
    let above = on.above in
    let room = on.within in
    let size : length whole ≡ length (bytes ++ behind) = ap length is in
    let both = length-append bytes behind in
    same_held kind board.bytes bytes (at + place - board.base) place value (omega (arith, above, room, size, both, within)) (λ i below. on_board board at bytes behind place i above there (omega (arith, below, within))) held

-- the text in memory begins with the code
pub record Begins (whole front : List ℕ) : Type 0 where
  pub rest : List ℕ
  pub is : whole ≡ front ++ rest

parts_are : (p : Parts) → text_parts p ≡ record { at = 0; bytes = p.code } ∷ drop 1 (text_parts p)
unfolding text_parts
parts_are p = refl

laid_first : (bytes : List ℕ) (ps : List Laid)
    → laid 0 (record { at = 0; bytes = bytes } ∷ ps) ≡ bytes ++ laid (0 + length bytes) ps
laid_first bytes ps = refl

text_begins : (p : Parts) → Begins (text_bytes p) p.code
unfolding text_bytes
text_begins p = record {
  rest = laid (0 + length p.code) (drop 1 (text_parts p));
  is = ap (laid 0) (parts_are p) ∙ laid_first p.code (drop 1 (text_parts p));
}

filled_text : (p : Parts)
    → filled (text_segment p) ≡ text_bytes p ++ replicate (length (text_bytes p) - length (text_bytes p)) 0
unfolding filled
filled_text p = refl

pub filled_begins : (p : Parts) (s : Segment) → s ≡ text_segment p → Begins (filled s) p.code
filled_begins p s is =
    let b = text_begins p in
    let zeros : List ℕ = replicate (length (text_bytes p) - length (text_bytes p)) 0 in
    record {
      rest = b.rest ++ zeros;
      is = ap filled is ∙ filled_text p ∙ ap (λ xs. xs ++ zeros) b.is ∙ append_assoc p.code b.rest zeros;
    }

-- and the data range in memory, before it is loaded, with the data's bytes
filled_content : (p : Parts) → filled (data_segment p) ≡ p.content ++ replicate (p.memory - length p.content) 0
unfolding filled
filled_content p = refl

pub filled_range : (p : Parts) (s : Segment) → s ≡ data_segment p
    → filled s ≡ p.content ++ replicate (p.memory - length p.content) 0
filled_range p s is = ap filled is ∙ filled_content p
