-- The fields of an executable are the words of its stubs, and share no byte with the table or with one another.
use Rattle.std.proofs.Common.{◌≡◌, ℕ, zero, suc, ◌+◌, ◌*◌, ◌/◌, ◌%◌, ◌<◌, ◌≤◌, pos, false, List, [], ◌∷◌, ◌++◌, map, None, refl, ap, ◌∙◌, arith}
use Rattle.std.specs.List.{enumerate_from, range_with_len}
use Rattle.std.proofs.lemmas.Bool.Decides.{nat_tests}
use Rattle.c6x_elf.specs.Types.{Rela}
use Rattle.c6x_link.specs.Words.{stub_rela}
use Rattle.c6x_link.specs.Targets.{import_symbol}
use Rattle.c6x_link.specs.Working.{Working}
use Rattle.c6x_module.specs.declared.field.Field.{Field}
use Rattle.c6x_module.specs.Fields.{field_of, fields_of, is_marked, is_shared, is_taken, is_within, overlap_refusal, overlaps_from}
use Rattle.c6x_module.specs.Refusals.{must}
use Rattle.c6x_reloc.specs.Table.{row_of}
use Rattle.c6x_gen.specs.Parts.{stub_field}
use Rattle.c6x_gen.proofs.AppStubs.{or_false}

-- the entry of a stub's word, and its field
abbrev slot_rela : ℕ → ℕ → Rela
slot_rela at place = record { offset = at + 4 * place; info = (4 + place) * 256 + 27; addend = pos 0 }

slot_kind : (place : ℕ) → ((4 + place) * 256 + 27) % 256 ≡ 27
slot_kind place = omega arith

slot_symbol : (place : ℕ) → ((4 + place) * 256 + 27) / 256 ≡ 4 + place
slot_symbol place = omega arith

slot_field : (at place : ℕ) (rs : List Rela) → fields_of (slot_rela at place ∷ rs) ≡ stub_field at place ∷ fields_of rs
unfolding field_of
slot_field at place rs = rw (slot_kind place, slot_symbol place) refl

-- Stubs of names that follow one another, where no value word is in front of them.
pub record AreInTurn (w : Working) (at count : ℕ) : Type 0 where
  pub words : w.words ≡ []
  pub at_words : w.layout.words ≡ at
  pub symbol : (place : ℕ) → place < count → import_symbol w.bindings (1 + place) ≡ 4 + place

rela_is : (w : Working) (at count place number : ℕ) → AreInTurn w at count → place < count → number ≡ 1 + place → stub_rela w (place, number) ≡ slot_rela at place
unfolding stub_rela row_of
rela_is w at count place number turn below is =
    let none : 0 + place ≡ place = omega arith in
    rw (is, turn.words, turn.at_words, turn.symbol place below)
    (ap (λ k. record { offset = at + 4 * k; info = (4 + place) * 256 + 27; addend = pos 0 }) none)

fields_along : (w : Working) (at count place number left : ℕ) → AreInTurn w at count → place + left ≤ count → number ≡ 1 + place → fields_of (map (stub_rela w) (enumerate_from place (range_with_len number left))) ≡ map (stub_field at) (range_with_len place left)
fields_along w at count place number zero turn within is = refl
fields_along w at count place number (suc left) turn within is =
    let rest = map (stub_rela w) (enumerate_from (place + 1) (range_with_len (number + 1) left)) in
    ap (λ r. fields_of (r ∷ rest)) (rela_is w at count place number turn (omega (arith, within)) is)
    ∙ (slot_field at place rest
    ∙ ap (λ fs. stub_field at place ∷ fs) (fields_along w at count (place + 1) (number + 1) left turn (omega (arith, within)) (omega (arith, is))))

pub stub_fields : (w : Working) (at count : ℕ) → AreInTurn w at count → fields_of (map (stub_rela w) (enumerate_from 0 (range_with_len 1 count))) ≡ map (stub_field at) (range_with_len 0 count)
stub_fields w at count turn = fields_along w at count 0 1 count turn (omega arith) (omega arith)

-- A byte is not marked that lies behind the table and behind the fields in front of a place.
within_not : (from count byte : ℕ) → from + count ≤ byte → is_within from count byte ≡ false
within_not from count byte behind = grind (arith, nat_tests)

abbrev AreBehind : List Field → ℕ → Type 0
AreBehind [] byte = Unit {0}
AreBehind (f ∷ fs) byte = (f.place + 4 ≤ byte) × AreBehind fs byte

taken_not : (fs : List Field) (at byte : ℕ) → AreBehind fs at → at ≤ byte → is_taken fs byte ≡ false
taken_not [] at byte behind above = refl
taken_not (f ∷ fs) at byte behind above =
    or_false (is_within f.place 4 byte) (is_taken fs byte) (within_not f.place 4 byte (omega (arith, behind.0, above))) (taken_not fs at byte behind.1 above)

more_behind : (fs : List Field) (f : Field) (at next : ℕ) → AreBehind fs at → at ≤ next → f.place + 4 ≤ next → AreBehind (fs ++ f ∷ []) next
more_behind [] f at next behind above last = (last, tt)
more_behind (first ∷ fs) f at next behind above last = (omega (arith, behind.0, above), more_behind fs f at next behind.1 above last)

marked_not : (table slots : ℕ) (earlier : List Field) (at byte : ℕ) → table + 4 * slots ≤ at → AreBehind earlier at → at ≤ byte → is_marked table slots earlier byte ≡ false
unfolding is_marked
marked_not table slots earlier at byte table_end behind above =
    or_false (is_within table (4 * slots) byte) (is_taken earlier byte) (within_not table (4 * slots) byte (omega (arith, table_end, above))) (taken_not earlier at byte behind above)

shared_not : (table slots : ℕ) (earlier : List Field) (at : ℕ) → table + 4 * slots ≤ at → AreBehind earlier at → is_shared table slots earlier at ≡ false
unfolding is_shared
shared_not table slots earlier at table_end behind =
    rw (
      marked_not table slots earlier at at table_end behind (omega arith),
      marked_not table slots earlier at (at + 1) table_end behind (omega arith),
      marked_not table slots earlier at (at + 2) table_end behind (omega arith),
      marked_not table slots earlier at (at + 3) table_end behind (omega arith),
    ) refl

none_overlaps : (table slots : ℕ) (earlier : List Field) (f : Field) → is_shared table slots earlier f.place ≡ false → overlap_refusal table slots earlier f ≡ None
unfolding overlap_refusal must
none_overlaps table slots earlier f is = rw is refl

overlaps_along : (table slots at : ℕ) (earlier : List Field) (place left : ℕ) → table + 4 * slots ≤ at → AreBehind earlier (at + 4 * place) → overlaps_from table slots earlier (map (stub_field at) (range_with_len place left)) ≡ None
overlaps_along table slots at earlier place zero table_end behind = refl
overlaps_along table slots at earlier place (suc left) table_end behind =
    let f = stub_field at place in
    rw (none_overlaps table slots earlier f (shared_not table slots earlier (at + 4 * place) (omega (arith, table_end)) behind))
    (overlaps_along table slots at (earlier ++ f ∷ []) (place + 1) left table_end
    (more_behind earlier f (at + 4 * place) (at + 4 * (place + 1)) behind (omega arith) (omega arith)))

pub none_overlap : (table slots at count : ℕ) → table + 4 * slots ≤ at → overlaps_from table slots [] (map (stub_field at) (range_with_len 0 count)) ≡ None
none_overlap table slots at count table_end = overlaps_along table slots at [] 0 count table_end tt
