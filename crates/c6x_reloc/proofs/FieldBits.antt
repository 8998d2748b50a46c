-- A field set in bytes, bit by bit.
use Rattle.std.proofs.Common.{◌≡◌, ℕ, ◌+◌, ◌-◌, ◌*◌, ◌/◌, ◌%◌, ◌^◌, ◌<◌, ◌≤◌, inl, inr, List, length, get_or, take, sym, ◌∙◌, ap, subst, arith}
use Rattle.std.specs.Int.{bit_at, to_le_bytes, w32}
use Rattle.std.proofs.lemmas.Bool.Decides.{leb_tells}
use Rattle.std.proofs.lemmas.List.{get_or-take, length-take-le}
use Rattle.std.proofs.lemmas.Nat.Bits.{same_from_bits_below}
use Rattle.c6x_spec.specs.Fields.{IsOutside, IsPatched}
use Rattle.c6x_spec.specs.Memory.{spliced}
use Rattle.c6x_spec.specs.Numbers.{bit_in, number_in}
use Rattle.c6x_spec.proofs.NumberBits.{HasBits, bit_at_below, bit_at_from, bit_in_byte, le_small, number_bits, rest_below, written_bits}
use Rattle.c6x_spec.proofs.Splices.{length_spliced, spliced_inside, spliced_outside}
use Rattle.c6x_reloc.specs.Table.{row_of}
use Rattle.c6x_reloc.specs.Fields.{HoldsValue, SetsField, first_bit}
use Rattle.c6x_reloc.specs.declared.reloc_kind.RelocKind.{RelocKind}

-- a bit of the field of a patched word
patched_inside : (w low n v u i j : ℕ) → IsPatched w low n v u → i ≡ low + j → j < n → bit_at u i ≡ bit_at v j
patched_inside w low n v u i j p is below =
    bit_at_from u low i (omega arith)
    ∙ ap (bit_at (u / 2 ^ low)) (omega arith)
    ∙ bit_at_below (u / 2 ^ low) n j below
    ∙ ap (λ x. bit_at x j) p.field

-- what the patching of a number at a place comes from
record Patching (old nb : List ℕ) (place low width value w u : ℕ) : Type 0 where
  within : place + length nb ≤ length old
  room : low + width ≤ 8 * length nb
  was : HasBits old place (length nb) w
  now : HasBits nb 0 (length nb) u
  patched : IsPatched w low width value u

-- a bit inside the new bytes is the patched number's
new_bit : (old nb : List ℕ) (place low width value w u byte bit : ℕ) → Patching old nb place low width value w u → place ≤ byte → byte < place + length nb → bit < 8 → bit_at (get_or (spliced old place nb) byte 0) bit ≡ bit_at u (8 * (byte - place) + bit)
new_bit old nb place low width value w u byte bit p above below few =
    let is : byte ≡ place + (byte - place) = omega arith in
    let inside : byte - place < length nb = omega arith in
    let first : byte - place ≡ 0 + (byte - place) = omega arith in
    ap (λ b. bit_at b bit) (spliced_inside old place nb byte (byte - place) is p.within inside)
    ∙ ap (λ i. bit_at (get_or nb i 0) bit) first
    ∙ p.now.bits (byte - place) bit inside few

-- a bit of the old bytes there is the number's that was there
old_bit : (old nb : List ℕ) (place low width value w u byte bit : ℕ) → Patching old nb place low width value w u → place ≤ byte → byte < place + length nb → bit < 8 → bit_at w (8 * (byte - place) + bit) ≡ bit_at (get_or old byte 0) bit
old_bit old nb place low width value w u byte bit p above below few =
    let is : place + (byte - place) ≡ byte = omega arith in
    let inside : byte - place < length nb = omega arith in
    sym (p.was.bits (byte - place) bit inside few) ∙ ap (λ i. bit_at (get_or old i 0) bit) is

-- a bit of the field is the value's
field_bit : (old nb : List ℕ) (place low width value w u i : ℕ) → Patching old nb place low width value w u → i < width → bit_in (spliced old place nb) (8 * place + low + i) ≡ bit_at value i
field_bit old nb place low width value w u i p below =
    let room = p.room in
    let byte : ℕ = place + (low + i) / 8 in
    let bit : ℕ = (low + i) % 8 in
    let above : place ≤ byte = omega arith in
    let within : byte < place + length nb = omega (arith, room) in
    let few : bit < 8 = omega arith in
    let is : 8 * place + low + i ≡ 8 * byte + bit = omega arith in
    let there : 8 * (byte - place) + bit ≡ low + i = omega arith in
    bit_in_byte (spliced old place nb) (8 * place + low + i) byte bit is few
    ∙ new_bit old nb place low width value w u byte bit p above within few
    ∙ patched_inside w low width value u (8 * (byte - place) + bit) i p.patched there below

-- every other bit is as it was
other_bit : (old nb : List ℕ) (place low width value w u i : ℕ) → Patching old nb place low width value w u → IsOutside (8 * place + low) width i → bit_in (spliced old place nb) i ≡ bit_in old i
other_bit old nb place low width value w u i p outside =
    let byte : ℕ = i / 8 in
    let bit : ℕ = i % 8 in
    let few : bit < 8 = omega arith in
    elim (leb_tells place byte) [
      | inr (_, front) ↦ ap (λ b. bit_at b bit) (spliced_outside old place nb byte p.within (inl front))
      | inl (_, above) ↦ elim (leb_tells (place + length nb) byte) [
        | inl (_, behind) ↦ ap (λ b. bit_at b bit) (spliced_outside old place nb byte p.within (inr behind))
        | inr (_, within) ↦
            let other : IsOutside low width (8 * (byte - place) + bit) = elim outside [
              | inl lower ↦ inl (omega arith)
              | inr higher ↦ inr (omega arith)
            ] in
            new_bit old nb place low width value w u byte bit p above within few
            ∙ p.patched.others (8 * (byte - place) + bit) other
            ∙ old_bit old nb place low width value w u byte bit p above within few
      ]
    ]

-- bytes with new bytes among them are bytes
spliced_small : (old nb : List ℕ) (place i : ℕ) → place + length nb ≤ length old → ((i : ℕ) → get_or old i 0 < 256) → ((i : ℕ) → i < length nb → get_or nb i 0 < 256) → get_or (spliced old place nb) i 0 < 256
spliced_small old nb place i within small new_small =
    let P : ℕ → Type 0 = λ b. b < 256 in
    elim (leb_tells place i) [
      | inr (_, front) ↦ subst P (sym (spliced_outside old place nb i within (inl front))) (small i)
      | inl (_, above) ↦ elim (leb_tells (place + length nb) i) [
        | inl (_, behind) ↦ subst P (sym (spliced_outside old place nb i within (inr behind))) (small i)
        | inr (_, inside) ↦
            let is : i ≡ place + (i - place) = omega arith in
            let below : i - place < length nb = omega arith in
            subst P (sym (spliced_inside old place nb i (i - place) is within below)) (new_small (i - place) below)
      ]
    ]

-- the number in the field
held_bits : (new : List ℕ) (place size low width value : ℕ) → ((i : ℕ) → get_or new i 0 < 256) → low + width ≤ 8 * size → ((i : ℕ) → i < width → bit_in new (8 * place + low + i) ≡ bit_at value i) → number_in size new place / 2 ^ low % 2 ^ width ≡ value % 2 ^ width
held_bits new place size low width value small room set =
    let n : ℕ = number_in size new place in
    same_from_bits_below width (n / 2 ^ low % 2 ^ width) (value % 2 ^ width) (rest_below (n / 2 ^ low) width) (rest_below value width)
    (λ i below.
    let m : ℕ = (low + i) / 8 in
    let k : ℕ = (low + i) % 8 in
    let back : low + i - low ≡ i = omega arith in
    let there : 8 * m + k ≡ low + i = omega arith in
    let few : k < 8 = omega arith in
    let byte : m < size = omega (arith, room, below) in
    let is : 8 * place + low + i ≡ 8 * (place + m) + k = omega arith in
    sym (bit_at_below (n / 2 ^ low) width i below)
    ∙ ap (bit_at (n / 2 ^ low)) (sym back)
    ∙ sym (bit_at_from n low (low + i) (omega arith))
    ∙ ap (bit_at n) (sym there)
    ∙ sym ((number_bits size new place small).bits m k byte few)
    ∙ sym (bit_in_byte new (8 * place + low + i) (place + m) k is few)
    ∙ set i below
    ∙ bit_at_below value width i below)

-- the first bytes of a number have its bits
front_bits : (bytes : List ℕ) (at size w : ℕ) → size ≤ 4 → HasBits bytes at 4 w → HasBits bytes at size w
front_bits bytes at size w few all = record { bits = λ byte bit below eight. all.bits byte bit (omega arith) eight }

-- the number that was at the place, its patched form, and the first bytes of that put back
patching : (old : List ℕ) (place size low width value w u : ℕ) → size ≤ 4 → place + size ≤ length old → low + width ≤ 8 * size → ((i : ℕ) → get_or old i 0 < 256) → w ≡ number_in 4 old place → u < 2 ^ 32 → IsPatched w low width value u → Patching old (take size (to_le_bytes w32 u)) place low width value w u
patching old place size low width value w u few within room small is fits p =
    let n : length (take size (to_le_bytes w32 u)) ≡ size = length-take-le size (to_le_bytes w32 u) few in
    let B : ℕ → Type 0 = λ k. HasBits old place k w in
    let N : ℕ → Type 0 = λ k. HasBits (take size (to_le_bytes w32 u)) 0 k u in
    let W : ℕ → Type 0 = λ k. HasBits old place 4 k in
    record {
      within = omega (arith, n, within);
      room = omega (arith, n, room);
      was = subst B (sym n) (front_bits old place size w few (subst W (sym is) (number_bits 4 old place small)));
      now = subst N (sym n) (written_bits u size fits few);
      patched = p;
    }

first_small : (u size i : ℕ) → i < size → get_or (take size (to_le_bytes w32 u)) i 0 < 256
first_small u size i below =
    let P : ℕ → Type 0 = λ b. b < 256 in
    subst P (sym (get_or-take size (to_le_bytes w32 u) i 0 below)) (le_small u i)

-- so the field is set
field_set : (old nb : List ℕ) (place value w u : ℕ) (kind : RelocKind) → Patching old nb place (row_of kind).low (row_of kind).width value w u → SetsField old place kind value (spliced old place nb)
unfolding first_bit
field_set old nb place value w u kind p = record {
  len = length_spliced old place nb p.within;
  field = λ i below. field_bit old nb place (row_of kind).low (row_of kind).width value w u i p below;
  others = λ i outside. other_bit old nb place (row_of kind).low (row_of kind).width value w u i p outside;
}

-- and the place holds the value
value_held : (old nb : List ℕ) (place value w u : ℕ) (kind : RelocKind) → Patching old nb place (row_of kind).low (row_of kind).width value w u → ((i : ℕ) → get_or old i 0 < 256) → ((i : ℕ) → i < length nb → get_or nb i 0 < 256) → length nb ≡ (row_of kind).size → HoldsValue (spliced old place nb) place kind value
value_held old nb place value w u kind p small new_small size =
    let low : ℕ = (row_of kind).low in
    let width : ℕ = (row_of kind).width in
    let len = length_spliced old place nb p.within in
    let within = p.within in
    let room = p.room in
    record {
      inside = λ some. omega (arith, len, within, size);
      field = held_bits (spliced old place nb) place (row_of kind).size low width value
          (λ i. spliced_small old nb place i p.within small new_small)
          (omega (arith, room, size))
          (λ i below. field_bit old nb place low width value w u i p below);
    }

-- both, for the number that is read, patched and put back
pub record PatchedAt (old new : List ℕ) (place value : ℕ) (kind : RelocKind) : Type 0 where
  pub sets : SetsField old place kind value new
  pub holds : HoldsValue new place kind value

pub patched_at : (old new : List ℕ) (place value w u size : ℕ) (kind : RelocKind) → size ≡ (row_of kind).size → size ≤ 4 → (row_of kind).low + (row_of kind).width ≤ 8 * size → place + (row_of kind).size ≤ length old → ((i : ℕ) → get_or old i 0 < 256) → w ≡ number_in 4 old place → u < 2 ^ 32 → IsPatched w (row_of kind).low (row_of kind).width value u → new ≡ spliced old place (take size (to_le_bytes w32 u)) → PatchedAt old new place value kind
patched_at old new place value w u size kind same few room within small is fits p put =
    let nb : List ℕ = take size (to_le_bytes w32 u) in
    let len : length nb ≡ size = length-take-le size (to_le_bytes w32 u) few in
    let all = patching old place size (row_of kind).low (row_of kind).width value w u few (omega (arith, within, same)) room small is fits p in
    let P : List ℕ → Type 0 = λ bytes. PatchedAt old bytes place value kind in
    subst P (sym put)
    (record {
      sets = field_set old nb place value w u kind all;
      holds = value_held old nb place value w u kind all small (λ i below. first_small u size i (omega (arith, below, len))) (len ∙ same);
    })
