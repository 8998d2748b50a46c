-- What a link has worked out lies where its layout says.
use Rattle.std.proofs.Common.{◌≡◌, ℕ, ◌+◌, ◌-◌, ◌*◌, ◌<◌, ◌≤◌, ◌^◌, Bool, true, false, if◌then◌else◌, length, refl, sym, ap, ◌∙◌, arith}
use Rattle.std.specs.Prelude.{All, None, nat_lt}
use Rattle.c6x_layout.proofs.Bounds.{bounds}
use Rattle.c6x_layout.proofs.Sized.{ordered}
use Rattle.c6x_layout.specs.Alignments.{alignments_refusal}
use Rattle.c6x_layout.specs.Layouts.{Laying, code_end, file_end, layout_of, layout_refusal, size_refusal, places_of, stubs_at, table_at, words_at, words_end}
use Rattle.c6x_layout.specs.declared.layout.Layout.{Layout}
use Rattle.c6x_layout.specs.declared.limits.TheConstants.{STUB_BYTES}
use Rattle.c6x_layout.specs.declared.file_limits.TheConstants.{TEXT_START}
use Rattle.c6x_link.specs.Worked.{HasFewSymbols, IsWorkedOut, laying_in}
use Rattle.c6x_dsbt.specs.Wanted.{wanted_at}
use Rattle.c6x_dsbt.specs.declared.wanted.Wanted.{Wanted}
use Rattle.c6x_dsbt.specs.declared.wanted.Wanted.TheVariants.{Bound, Local}
use Rattle.c6x_layout.specs.Regions.{wanted_region}
use Rattle.c6x_symbols.specs.LinkEntries.{IsIn, NamesSymbol}
use Rattle.c6x_link.proofs.FewSymbols.{first_none, import_small, later_none}
use Rattle.c6x_link.specs.LinkEntries.{entry_on, link_entries, link_entry}
use Rattle.c6x_link.specs.Rooms.{HasRoom}
use Rattle.c6x_link.specs.Targets.{import_symbol, number_of_bound, symbol_of_region, target_of}
use Rattle.c6x_symbols.specs.declared.region.Region.{Region}
use Rattle.c6x_symbols.specs.declared.region.Region.TheVariants.{Absolute, Data, Import, Text}
use Rattle.c6x_link.proofs.EachEntry.{all_entries}
use Rattle.c6x_link.specs.Working.{Working, worked_out}
use Rattle.c6x_symbols.specs.Objects.{IsObject}
use Rattle.c6x_link.proofs.EntriesInside.{IsPlaced, all_inside}

pub places_are : (l : Laying) → (layout_of l).places ≡ places_of l
unfolding layout_of
places_are l = refl

table_is : (l : Laying) → (layout_of l).table ≡ table_at l
unfolding layout_of
table_is l = refl

words_are : (l : Laying) → (layout_of l).words ≡ words_at l
unfolding layout_of
words_are l = refl

stubs_are : (l : Laying) → (layout_of l).stubs ≡ stubs_at l
unfolding layout_of
stubs_are l = refl

words_end_is : (l : Laying) → words_end l ≡ words_at l + 4 * (length l.words + length l.stubs)
unfolding words_end
words_end_is l = refl

pub placed : (w : Working) (text range : ℕ) → IsWorkedOut w → text ≡ code_end (laying_in w) - TEXT_START → range ≡ file_end (laying_in w) - table_at (laying_in w) → IsPlaced w text range
placed w text range worked text_is range_is =
    let o = ordered (laying_in w) in
    let b = bounds (laying_in w) worked.sized in
    record {
      places = ap (λ (l : Layout). l.places) worked.layout ∙ places_are (laying_in w);
      table = ap (λ (l : Layout). l.table) worked.layout ∙ table_is (laying_in w);
      text_is = text_is;
      range_is = range_is;
      small = omega (arith, o.text, b.text_below);
      small_range = omega (arith, b.data_below, b.file);
      objects = worked.objects;
    }

pub has_room : (w : Working) → IsWorkedOut w → HasRoom w
has_room w worked =
    let b = bounds (laying_in w) worked.sized in
    let words = ap (λ (l : Layout). l.words) worked.layout ∙ words_are (laying_in w) in
    let stubs = ap (λ (l : Layout). l.stubs) worked.layout ∙ stubs_are (laying_in w) in
    let end = words_end_is (laying_in w) in
    record { words = omega (arith, words, end, b.start); stubs = omega (arith, stubs, b.stubs_below) }

symbol_small : (w : Working) (region : Region) (import : ℕ) → import ≤ 65536 → symbol_of_region region import ≤ 65536
symbol_small w Text import few = omega arith
symbol_small w Data import few = omega arith
symbol_small w Import import few = few
symbol_small w Absolute import few = omega arith

bound_small : (b : Bool) (n : ℕ) → n ≤ 65536 → (if b then n else 0) ≤ 65536
bound_small true n few = few
bound_small false n few = omega arith

number_small : (w : Working) (wanted : Wanted) → IsWorkedOut w → number_of_bound w.bindings wanted ≤ 65536
number_small w (Bound number) worked = bound_small (nat_lt number (length w.bindings)) (import_symbol w.bindings number) (import_small (laying_in w) number worked.sized)
number_small w (Local object symbol) worked = omega arith

target_small : (w : Working) (wanted : Wanted) → IsWorkedOut w → (target_of w wanted).symbol ≤ 65536
unfolding target_of
target_small w wanted worked =
    symbol_small w (wanted_region w.objects w.bindings wanted) (number_of_bound w.bindings wanted) (number_small w wanted worked)

pub has_few_symbols : (w : Working) → IsWorkedOut w → HasFewSymbols w
has_few_symbols w worked = record {
  imports = λ number. let few = import_small (laying_in w) number worked.sized in omega (arith, few);
  targets = λ wanted. let few = target_small w wanted worked in omega (arith, few);
}

pub names_symbols : (w : Working) → IsWorkedOut w → All NamesSymbol (link_entries w)
unfolding link_entry entry_on
names_symbols w worked =
    all_entries NamesSymbol w
    (record {
      each = λ object wanted e below is. record { small = let few = target_small w (wanted_at wanted e.object e.symbol) worked in omega (arith, few) };
    })

pub entries_inside : (w : Working) (text range : ℕ) → IsWorkedOut w → text ≡ code_end (laying_in w) - TEXT_START → range ≡ file_end (laying_in w) - table_at (laying_in w) → All (IsIn text range) (link_entries w)
entries_inside w text range worked text_is range_is = all_inside w text range (placed w text range worked text_is range_is)

-- what is laid without a broken rule is worked out
pub worked_by : (l : Laying) → layout_refusal l ≡ None → All (IsObject false) l.objects → IsWorkedOut (worked_out l)
unfolding layout_refusal
worked_by l laid objects = record {
  layout = refl;
  sized = later_none (alignments_refusal l.objects) (size_refusal l) laid;
  objects = objects;
}

pub aligned_by : (l : Laying) → layout_refusal l ≡ None → alignments_refusal l.objects ≡ None
unfolding layout_refusal
aligned_by l laid = first_none (alignments_refusal l.objects) (size_refusal l) laid
