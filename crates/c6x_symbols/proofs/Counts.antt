-- How many symbols an object of read form has.
use Rattle.std.proofs.Common.{◌≡◌, ℕ, ◌+◌, ◌/◌, ◌^◌, ◌<◌, ◌≤◌, ◌⊎◌, true, false, List, [], Option, None, Some, length, map, get_or, inl, inr, ap, sum_by, leb, refl, sym, ◌∙◌, arith}
use Rattle.std.proofs.lemmas.Bool.Decides.{leb_tells}
use Rattle.std.proofs.lemmas.List.{get_or-map, length-map}
use Rattle.std.proofs.lemmas.List.FromFn.{length-range_with_len}
use Rattle.std.proofs.lemmas.List.Sums.{get_or-le-sum_by}
use Rattle.c6x_elf.proofs.EntryWalks.{text_here, text_past}
use Rattle.c6x_elf.specs.Entries.{text_of}
use Rattle.c6x_elf.specs.Form.{HasReadForm, section_length, segment_length}
use Rattle.c6x_elf.specs.Lists.{symbols_from, symbols_of, symtab_of}
use Rattle.c6x_elf.specs.declared.file.File.{File}
use Rattle.c6x_elf.specs.declared.section.Section.{Section}
use Rattle.c6x_elf.specs.TableEntries.{symbol_at, symbol_entries}
use Rattle.std.specs.List.{range_with_len}
use Rattle.c6x_symbols.specs.Objects.{IsObject}
use Rattle.c6x_symbols.specs.Mentions.{link_of}
use Rattle.c6x_base.specs.declared.limits.TheConstants.{MOST_HELD_BYTES}

-- a section is no longer than all bytes together
pub text_small : (file : File) → HasReadForm false file → (k : ℕ) → length (text_of file.sections k) ≤ MOST_HELD_BYTES
text_small file form k = either (leb_tells (length file.sections) k)
  where
    d : Section
    d = record { name = 0; kind = 0; flags = 0; addr = 0; size = 0; link = 0; info = 0; align = 0; entsize = 0; bytes = [] }

    either : ((leb (length file.sections) k ≡ true) × (length file.sections ≤ k)) ⊎ ((leb (length file.sections) k ≡ false) × (k < length file.sections)) → length (text_of file.sections k) ≤ MOST_HELD_BYTES
    either (inl (_, past)) = rw (text_past file.sections k past) (omega arith)
    either (inr (_, here)) =
        let one : length (get_or file.sections k d).bytes ≤ sum_by section_length file.sections = get_or-le-sum_by section_length file.sections k d here in
        let held : sum_by segment_length file.segments + sum_by section_length file.sections ≤ MOST_HELD_BYTES = form.held in
        rw (text_here file.sections k d here) (omega (arith, one, held))

entries_few : (table : List ℕ) → length table ≤ MOST_HELD_BYTES → length (symbol_entries false table) ≤ 2 ^ 20
unfolding symbol_entries
entries_few table small =
    let n : length (map (symbol_at false table) (range_with_len 0 (length table / 16))) ≡ length table / 16 = length-map (range_with_len 0 (length table / 16)) (symbol_at false table) ∙ length-range_with_len 0 (length table / 16) in
    omega (arith, n)

pub symbols_few : (file : File) → IsObject false file → length (symbols_of false file.sections) ≤ 2 ^ 20
unfolding symbols_of
symbols_few file is_object = either (symtab_of file.sections)
  where
    either : (o : Option ℕ) → length (symbols_from false file.sections o) ≤ 2 ^ 20
    either None = omega arith
    either (Some k) = entries_few (text_of file.sections k) (text_small file is_object.form k)

pub link_here : (sections : List Section) (k : ℕ) (s : Section) → k < length sections → get_or (map link_of sections) k 0 ≡ (get_or sections k s).link
link_here sections k s below = get_or-map link_of sections k s 0 below
