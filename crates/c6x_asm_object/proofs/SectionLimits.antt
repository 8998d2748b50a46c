-- What the sections of an object come to: their number, the place behind them, their names, and whether one is too long.
use Rattle.std.proofs.Common.{◌≡◌, ℕ, ◌+◌, ◌*◌, nat_le, Bool, true, false, ◌||◌, cond, max, List, [], ◌∷◌, ◌++◌, map, length, length-append, codes, refl, sym, ap, ◌∙◌, arith}
use Rattle.std.specs.Prelude.{sum_by}
use Rattle.std.specs.List.{list_any}
use Rattle.std.proofs.lemmas.Bool.Decides.{nat_tests}
use Rattle.std.proofs.lemmas.List.Sums.{sum_by-cons}
use Rattle.c6x_spec.specs.Rounded.{rounded}
use Rattle.c6x_elf.specs.Parts.{has_bytes}
use Rattle.c6x_elf.specs.Writing.{offset_end}
use Rattle.c6x_asm_object.specs.declared.asm_section.AsmSection.{AsmSection}
use Rattle.c6x_asm_object.specs.declared.section_kind.SectionKind.{SectionKind}
use Rattle.c6x_asm_object.specs.declared.section_kind.SectionKind.TheVariants.{Text, Constant, Zero, Data}
use Rattle.c6x_asm_object.specs.Named.{section_name}
use Rattle.c6x_asm_object.specs.Filing.{Named, has_entries, named_section, named_rela, named_relas, names_of}
use Rattle.c6x_asm_object.specs.Headers.{section_header, section_type, table_section}
use Rattle.c6x_asm_object.specs.Limits.{is_long}
use Rattle.c6x_asm_object.specs.Relocations.{relocation_rows}
use Rattle.c6x_asm_object.proofs.Lengths.{length-relocation_rows}
use Rattle.c6x_asm_object.specs.Places.{is_stored, section_end, sections_end, place_behind}
use Rattle.c6x_asm_object.specs.Sums.{is_heavy, is_past, names_of_section, rows_of_section, section_tables}

abbrev pub any_long : List Named → Bool
any_long named = list_any (λ n. is_long n.section) named

-- the place behind sections
abbrev pub ends_all : ℕ → List Named → ℕ
ends_all at [] = at
ends_all at (n ∷ named) = ends_all (offset_end at n.section) named

pub ends_all-append : (at : ℕ) (a b : List Named) → ends_all at (a ++ b) ≡ ends_all (ends_all at a) b
ends_all-append at [] b = refl
ends_all-append at (n ∷ a) b = ends_all-append (offset_end at n.section) a b

pub names_of-append : (a b : List Named) → length (names_of (a ++ b)) ≡ length (names_of a) + length (names_of b)
names_of-append [] b = omega arith
names_of-append (n ∷ a) b =
    omega (arith, length-append n.name (0 ∷ names_of (a ++ b)), length-append n.name (0 ∷ names_of a), names_of-append a b)

-- a table, whose size is the length of its bytes
either_same : (b : Bool) → (b || b) ≡ b
either_same true = refl
either_same false = refl

pub long_table : (kind link info align entsize : ℕ) (bytes : List ℕ) → is_long (table_section kind link info align entsize bytes) ≡ is_past (length bytes)
unfolding is_long is_past table_section
long_table kind link info align entsize bytes = either_same (is_past (length bytes))

pub end_table : (at kind link info align entsize : ℕ) (bytes : List ℕ) → has_bytes kind ≡ true → offset_end at (table_section kind link info align entsize bytes) ≡ rounded at (max align 1) + length bytes
unfolding offset_end table_section
end_table at kind link info align entsize bytes is = rw is refl

-- the sections of the text
stored_kind : (kind : SectionKind) → has_bytes (section_type kind) ≡ is_stored kind
unfolding has_bytes
stored_kind Text = refl
stored_kind Constant = refl
stored_kind Zero = refl
stored_kind Data = refl

end_section : (at : ℕ) (p : AsmSection) → offset_end at (section_header p) ≡ section_end at p
unfolding offset_end section_header place_behind
end_section at p = ap (λ (stored : Bool). cond stored (rounded at (max p.align 1) + length p.bytes) at) (stored_kind p.kind)

pub ends_named : (text : List ℕ) (at : ℕ) (sections : List AsmSection) → ends_all at (map (named_section text) sections) ≡ sections_end at sections
ends_named text at [] = refl
ends_named text at (p ∷ sections) = ap (λ end. ends_all end (map (named_section text) sections)) (end_section at p) ∙ ends_named text (section_end at p) sections

-- too long by itself, or by its relocation table
abbrev is_long_section : AsmSection → Bool
is_long_section p = is_past p.size || is_past (length p.bytes)

abbrev is_long_rela : AsmSection → Bool
is_long_rela p = is_past (12 * length p.entries)

long_section : (p : AsmSection) → is_long (section_header p) ≡ is_long_section p
unfolding is_long is_past section_header
long_section p = refl

long_sections : (text : List ℕ) (sections : List AsmSection) → any_long (map (named_section text) sections) ≡ list_any is_long_section sections
long_sections text [] = refl
long_sections text (p ∷ sections) = rw (long_section p, long_sections text sections) refl

-- the relocation tables: a section without relocations has none
stored_rela : has_bytes 4 ≡ true
unfolding has_bytes
stored_rela = refl

none_if : (n : ℕ) → nat_le 1 n ≡ false → n ≡ 0
none_if n is = grind (arith, nat_tests)

end_rela : (text numbers : List ℕ) (symtab number at : ℕ) (p : AsmSection) → offset_end at (named_rela text numbers symtab number p).section ≡ rounded at 4 + 12 * length p.entries
end_rela text numbers symtab number at p =
    end_table at 4 symtab number 4 12 (relocation_rows numbers p.entries) stored_rela
    ∙ ap (λ n. rounded at 4 + n) (length-relocation_rows numbers p.entries)

end_step : (has : Bool) (at : ℕ) (n : Named) (rest : List Named) (count sum : ℕ) → offset_end at n.section ≡ rounded at 4 + 12 * count → (has ≡ false → count ≡ 0) → ((from : ℕ) → rounded (ends_all from rest) 4 ≡ rounded from 4 + sum) → rounded (ends_all at (cond has (n ∷ rest) rest)) 4 ≡ rounded at 4 + (12 * count + sum)
end_step true at n rest count sum end none later =
    later (offset_end at n.section) ∙ (ap (λ from. rounded from 4 + sum) end ∙ omega arith)
end_step false at n rest count sum end none later = omega (arith, later at, none refl)

pub ends_relas : (text numbers : List ℕ) (symtab number at : ℕ) (sections : List AsmSection) → rounded (ends_all at (named_relas text numbers symtab number sections)) 4 ≡ rounded at 4 + sum_by rows_of_section sections
ends_relas text numbers symtab number at [] = omega arith
ends_relas text numbers symtab number at (p ∷ sections) =
    end_step (has_entries p) at (named_rela text numbers symtab number p) (named_relas text numbers symtab (number + 1) sections) (length p.entries) (sum_by rows_of_section sections)
    (end_rela text numbers symtab number at p) (none_if (length p.entries))
    (λ from. ends_relas text numbers symtab (number + 1) from sections)
    ∙ ap (λ n. rounded at 4 + n) (sym (sum_by-cons rows_of_section p sections))

long_step : (has : Bool) (n : Named) (rest : List Named) (count : ℕ) (later : Bool) → is_long n.section ≡ is_past (12 * count) → (has ≡ false → count ≡ 0) → any_long rest ≡ later → any_long (cond has (n ∷ rest) rest) ≡ (is_past (12 * count) || later)
unfolding is_past
long_step true n rest count later here none is = rw (here, is) refl
long_step false n rest count later here none is = rw (none refl, is) refl

long_relas : (text numbers : List ℕ) (symtab number : ℕ) (sections : List AsmSection) → any_long (named_relas text numbers symtab number sections) ≡ list_any is_long_rela sections
long_relas text numbers symtab number [] = refl
long_relas text numbers symtab number (p ∷ sections) =
    long_step (has_entries p) (named_rela text numbers symtab number p) (named_relas text numbers symtab (number + 1) sections) (length p.entries) (list_any is_long_rela sections)
    (long_table 4 symtab number 4 12 (relocation_rows numbers p.entries) ∙ ap is_past (length-relocation_rows numbers p.entries)) (none_if (length p.entries))
    (long_relas text numbers symtab (number + 1) sections)

both_any : (a b c d : Bool) → ((a || b) || (c || d)) ≡ ((a || c) || (b || d))
both_any true b c d = refl
both_any false true true d = refl
both_any false true false d = refl
both_any false false true d = refl
both_any false false false d = refl

any_heavy : (sections : List AsmSection) → (list_any is_long_section sections || list_any is_long_rela sections) ≡ list_any is_heavy sections
any_heavy [] = refl
any_heavy (p ∷ sections) =
    both_any (is_long_section p) (list_any is_long_section sections) (is_long_rela p) (list_any is_long_rela sections)
    ∙ ap (λ b. is_heavy p || b) (any_heavy sections)

pub long_heavy : (text numbers : List ℕ) (symtab number : ℕ) (sections : List AsmSection) → (any_long (map (named_section text) sections) || any_long (named_relas text numbers symtab number sections)) ≡ list_any is_heavy sections
long_heavy text numbers symtab number sections = rw (long_sections text sections, long_relas text numbers symtab number sections) (any_heavy sections)

-- their number and their names
count_step : (has : Bool) (n : Named) (rest : List Named) (later : ℕ) → length rest ≡ later → length (cond has (n ∷ rest) rest) ≡ cond has 1 0 + later
count_step true n rest later is = omega (arith, is)
count_step false n rest later is = omega (arith, is)

pub length_relas : (text numbers : List ℕ) (symtab number : ℕ) (sections : List AsmSection) → length (named_relas text numbers symtab number sections) ≡ sum_by section_tables sections
length_relas text numbers symtab number [] = refl
length_relas text numbers symtab number (p ∷ sections) =
    count_step (has_entries p) (named_rela text numbers symtab number p) (named_relas text numbers symtab (number + 1) sections) (sum_by section_tables sections) (length_relas text numbers symtab (number + 1) sections)
    ∙ sym (sum_by-cons section_tables p sections)

name_step : (has : Bool) (n : Named) (rest : List Named) (len sections relas sum : ℕ) → length n.name ≡ 5 + len → sections + length (names_of rest) ≡ sum → len + 1 + sections + length (names_of (cond has (n ∷ rest) rest)) ≡ len + 1 + cond has (len + 6) 0 + sum
name_step true n rest len sections relas sum name is = omega (arith, name, is, length-append n.name (0 ∷ names_of rest))
name_step false n rest len sections relas sum name is = omega (arith, is)

pub names_sections : (text numbers : List ℕ) (symtab number : ℕ) (sections : List AsmSection) → length (names_of (map (named_section text) sections)) + length (names_of (named_relas text numbers symtab number sections)) ≡ sum_by (names_of_section text) sections
names_sections text numbers symtab number [] = refl
names_sections text numbers symtab number (p ∷ sections) =
    let rest = named_relas text numbers symtab (number + 1) sections in
    let name = section_name text p in
    omega (
      arith,
      length-append name (0 ∷ names_of (map (named_section text) sections)),
      name_step (has_entries p) (named_rela text numbers symtab number p) rest (length name) (length (names_of (map (named_section text) sections))) 0 (sum_by (names_of_section text) sections) (length-append (codes ".rela") name) (names_sections text numbers symtab (number + 1) sections),
      sum_by-cons (names_of_section text) p sections,
    )
