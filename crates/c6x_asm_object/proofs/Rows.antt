-- Relocations, one at a time.
use Rattle.std.proofs.Common.{◌≡◌, ℕ, ◌+◌, ◌<◌, ◌≤◌, false, List, ◌++◌, length, drop, get_or, ap, sym, ◌∙◌, append_assoc, append-nil}
use Rattle.std.proofs.lemmas.List.{drop_more, drop_all}
use Rattle.c6x_elf.specs.EntryRows.{rela_row}
use Rattle.c6x_asm_object.specs.declared.reloc_entry.RelocEntry.{RelocEntry}
use Rattle.c6x_asm_object.specs.Relocations.{relocation, relocation_rows}

-- the bytes so far and the relocations that are left
pub rows_at : (bytes numbers : List ℕ) (entries : List RelocEntry) (i : ℕ) (d : RelocEntry) → i < length entries → bytes ++ relocation_rows numbers (drop i entries) ≡ bytes ++ rela_row false (relocation numbers (get_or entries i d)) ++ relocation_rows numbers (drop (i + 1) entries)
rows_at bytes numbers entries i d inside =
    ap (λ more. bytes ++ relocation_rows numbers more) (drop_more entries i d inside)
    ∙ sym (append_assoc bytes (rela_row false (relocation numbers (get_or entries i d))) (relocation_rows numbers (drop (i + 1) entries)))

pub rows_end : (bytes numbers : List ℕ) (entries : List RelocEntry) (i : ℕ) → length entries ≤ i → bytes ++ relocation_rows numbers (drop i entries) ≡ bytes
rows_end bytes numbers entries i past =
    ap (λ more. bytes ++ relocation_rows numbers more) (drop_all i entries past) ∙ append-nil bytes
