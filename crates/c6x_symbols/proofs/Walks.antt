use Rattle.std.proofs.Common.{◌≡◌, ◌≢◌, ℕ, ◌+◌, ◌<◌, ◌≤◌, true, false, if◌then◌else◌, List, [], ◌∷◌, ◌++◌, length, take, drop, get_or, drop-cons, add-one, Some, Ok, refl, sym, subst, ap, ◌∙◌, arith}
use Rattle.std.proofs.lemmas.List.{take_more, flat_map_more, append-nil}
use Rattle.std.specs.List.{flat_map}
use Rattle.c6x_reloc.specs.FieldBits.{IsPatchedBy}
use Rattle.c6x_reloc.specs.declared.field.Field.{Field}
use Rattle.c6x_reloc.specs.Table.{row_of}
use Rattle.c6x_reloc.specs.Value.{value_of}
use Rattle.c6x_reloc.specs.declared.origin.Origin.{Origin}
use Rattle.c6x_reloc.specs.declared.origin.Origin.TheVariants.{Nothing, Absolute, Packet, Table, Got, Index, Slot}
use Rattle.c6x_reloc.specs.declared.reloc_kind.RelocKind.{RelocKind}
use Rattle.c6x_symbols.specs.LinkEntries.{data_field, data_fields, dynamic_relas, entries_error, error_at, field_at, field_in, field_of_kind, field_with, relas_at, text_field, text_fields}
use Rattle.c6x_symbols.specs.EntryRules.{◌<|>◌}
use Rattle.c6x_symbols.specs.declared.entry.Entry.{Entry}

pub errors_drop : (es : List Entry) (i : ℕ) (d : Entry) → i < length es → entries_error (drop i es) ≡ (error_at (get_or es i d) <|> entries_error (drop (i + 1) es))
errors_drop es i d within = ap entries_error (drop-cons es i d within) ∙ rw (add-one i) refl

pub text_more : (es : List Entry) (i : ℕ) (d : Entry) → i < length es → text_fields (take (i + 1) es) ≡ text_fields (take i es) ++ text_field (get_or es i d)
unfolding text_fields
text_more es i d within = ap (flat_map text_field) (take_more es i d within) ∙ sym (flat_map_more text_field [] (take i es) (get_or es i d))

pub data_more : (es : List Entry) (i : ℕ) (d : Entry) → i < length es → data_fields (take (i + 1) es) ≡ data_fields (take i es) ++ data_field (get_or es i d)
unfolding data_fields
data_more es i d within = ap (flat_map data_field) (take_more es i d within) ∙ sym (flat_map_more data_field [] (take i es) (get_or es i d))

pub relas_more : (es : List Entry) (i : ℕ) (d : Entry) → i < length es → dynamic_relas (take (i + 1) es) ≡ dynamic_relas (take i es) ++ relas_at (get_or es i d)
unfolding dynamic_relas
relas_more es i d within = ap (flat_map relas_at) (take_more es i d within) ∙ sym (flat_map_more relas_at [] (take i es) (get_or es i d))

-- nothing is set
pub unchanged : (old bytes : List ℕ) (fs : List Field) → IsPatchedBy old fs bytes → IsPatchedBy old (fs ++ []) bytes
unchanged old bytes fs p = let P : List Field → Type 0 = λ gs. IsPatchedBy old gs bytes in subst P (sym (append-nil fs)) p

with_is : (origin : Origin) (kind : RelocKind) (e : Entry) (v : ℕ) → origin ≢ Nothing → value_of kind e.reference.inputs ≡ Ok v → field_with origin kind e ≡ field_in e kind v ∷ []
with_is Nothing kind e v some is = absurd (some refl)
with_is Absolute kind e v some is = rw is refl
with_is Packet kind e v some is = rw is refl
with_is Table kind e v some is = rw is refl
with_is Got kind e v some is = rw is refl
with_is Index kind e v some is = rw is refl
with_is Slot kind e v some is = rw is refl

-- the field of an entry with a value
pub field_is : (e : Entry) (kind : RelocKind) (v : ℕ) → e.reference.kind ≡ Some kind → (row_of kind).origin ≢ Nothing → value_of kind e.reference.inputs ≡ Ok v → field_at e ≡ field_in e kind v ∷ []
unfolding field_at
field_is e kind v has some is = ap (λ o. field_of_kind o e) has ∙ with_is (row_of kind).origin kind e v some is

-- what lies in a section lies in the bytes
pub room_in : (at offset size room len : ℕ) → 1 ≤ size → offset + size ≤ room → (1 ≤ room → at + room ≤ len) → at + offset + size ≤ len
room_in at offset size room len some inside within = let w : at + room ≤ len = within (omega arith) in omega arith

-- an entry's field stands in its own segment
pub text_is : (e : Entry) → e.reference.in_text ≡ true → text_field e ≡ field_at e
text_is e is = ap (λ b. if b then field_at e else []) is

pub data_is : (e : Entry) → e.reference.in_text ≡ false → data_field e ≡ field_at e
data_is e is = ap (λ b. if b then [] else field_at e) is
