-- The third reading: the tables that the dynamic entries name, by slices of the two segments' bytes, with the first parts
-- of L11; and the rule's other parts, over what was read. The byte order comes first.
use Rattle.std.specs.Prelude.{ℕ, ◌+◌, ◌-◌, ◌*◌, ◌/◌, ◌%◌, ◌==◌, ◌&&◌, ◌||◌, not, nat_le, nat_lt, Bool, List, [], ◌∷◌, length, take, drop, map, filter, Option, None, Some, Result, Ok, is_some, if◌then◌else◌}
use Rattle.std.specs.List.{range_with_len}
use Rattle.c6x_spec.specs.Firsts.{◌<|>◌, first_along}
use Rattle.c6x_spec.specs.Numbers.{word_at}
use Rattle.c6x_spec.specs.Results.{◌>>=◌}
use Rattle.c6x_base.specs.declared.limits.TheConstants.{MOST_NAMES_BYTES}
use Rattle.c6x_elf.specs.Abi.{DT_NEEDED, DT_PLTRELSZ, DT_HASH, DT_STRTAB, DT_SYMTAB, DT_RELA, DT_RELASZ, DT_RELAENT, DT_STRSZ, DT_SYMENT, DT_JMPREL}
use Rattle.c6x_elf.specs.Attributes.{rela_symbol}
use Rattle.c6x_elf.specs.Names.{name_of}
use Rattle.c6x_elf.specs.TableEntries.{rela_at, rela_entries, symbol_entries}
use Rattle.c6x_elf.specs.Types.{Dyn, Rela, Symbol}
use Rattle.c6x_elf.specs.declared.segment.Segment.{Segment}
use Rattle.c6x_module.specs.declared.module_rule.ModuleRule.TheVariants.{DynamicOutside}
use Rattle.c6x_module.specs.declared.addresses.Addresses.{Addresses}
use Rattle.c6x_module.specs.Refusals.{Refusal, must, found}
use Rattle.c6x_module.specs.Entries.{tag_value, tag_or}

-- The value of a tag that has to be there.
abbrev pub tag_in : ℕ → List Dyn → Result ℕ Refusal
tag_in tag ds = found (tag_value tag ds) DynamicOutside tag

-- Where the tables stand that have to be there.
unfoldable pub addresses_in : List Dyn → Result Addresses Refusal
addresses_in ds =
    tag_in DT_HASH ds >>= λ hash.
    tag_in DT_STRTAB ds >>= λ strings.
    tag_in DT_SYMTAB ds >>= λ symbols.
    tag_in DT_STRSZ ds >>= λ size.
    Ok (record { hash = hash; strings = strings; symbols = symbols; size = size })

-- The file bytes at an address, where they lie wholly in those of the segment.
unfoldable pub slice_in : Segment → ℕ → ℕ → Option (List ℕ)
slice_in s at count =
    if nat_le s.vaddr at && nat_le (at + count) (s.vaddr + length s.bytes) then Some (take count (drop (at - s.vaddr) s.bytes))
    else None

abbrev pub or_slice : Option (List ℕ) → Option (List ℕ) → Option (List ℕ)
or_slice None other = other
or_slice (Some bytes) other = Some bytes

-- The same in one of the two segments. A table of no bytes is anywhere.
unfoldable pub bytes_at : Segment → Segment → ℕ → ℕ → Option (List ℕ)
bytes_at text range at count = if count == 0 then Some [] else or_slice (slice_in text at count) (slice_in range at count)

unfoldable pub bytes_in : Segment → Segment → ℕ → ℕ → ℕ → Result (List ℕ) Refusal
bytes_in text range tag at count = found (bytes_at text range at count) DynamicOutside tag

-- The number of symbols: the second word of the hash table, nchain. The whole table has the two words, the buckets and
-- the chains (gABI chapter 5, "Hash Table").
unfoldable pub count_in : Bool → Segment → Segment → ℕ → Result ℕ Refusal
count_in big text range hash =
    bytes_in text range DT_HASH hash 8 >>= λ head.
    bytes_in text range DT_HASH hash (4 * (2 + word_at big head 0 + word_at big head 4)) >>= λ whole.
    Ok (word_at big head 4)

-- A table of relocation entries: its address and its bytes. It is empty where its own tag or that of its size is missing.
abbrev pub placed_at : ℕ → Option (List ℕ) → Option (ℕ × List ℕ)
placed_at at None = None
placed_at at (Some bytes) = Some (at, bytes)

abbrev pub placed_of : Segment → Segment → Option ℕ → Option ℕ → Option (ℕ × List ℕ)
placed_of text range None size = Some (0, [])
placed_of text range (Some at) None = Some (0, [])
placed_of text range (Some at) (Some size) = placed_at at (bytes_at text range at size)

unfoldable pub placed_in : Segment → Segment → List Dyn → ℕ → ℕ → Result (ℕ × List ℕ) Refusal
placed_in text range ds tag size =
    found (placed_of text range (tag_value tag ds) (tag_value size ds)) DynamicOutside tag

-- An entry of a table at `at` does not lie wholly in the count bytes at `from`.
unfoldable pub is_outside : ℕ → ℕ → ℕ → ℕ → Bool
is_outside at from count number = not (nat_le from (at + 12 * number) && nat_le (at + 12 * number + 12) (from + count))

-- The entries of JMPREL without those that lie wholly inside RELA, which are RELA's.
unfoldable pub jumps_of : Bool → ℕ → List ℕ → ℕ → ℕ → List Rela
jumps_of big at bytes from count =
    map (rela_at big bytes) (filter (is_outside at from count) (range_with_len 0 (length bytes / 12)))

-- What the tables say.
pub record Tables : Type 0 where
  pub symbols : List Symbol
  pub strings : List ℕ
  pub relas : List Rela
  pub jumps : List Rela

unfoldable pub tables_of : Bool → List ℕ → List ℕ → ℕ × List ℕ → ℕ × List ℕ → Tables
tables_of big strings symbols rela jump = record {
  symbols = symbol_entries big symbols;
  strings = strings;
  relas = rela_entries big rela.1;
  jumps = jumps_of big jump.0 jump.1 rela.0 (length rela.1);
}

unfoldable pub tables_in : Bool → Segment → Segment → List Dyn → Result Tables Refusal
tables_in big text range ds =
    addresses_in ds >>= λ at.
    count_in big text range at.hash >>= λ count.
    bytes_in text range DT_STRTAB at.strings at.size >>= λ strings.
    bytes_in text range DT_SYMTAB at.symbols (16 * count) >>= λ symbols.
    placed_in text range ds DT_RELA DT_RELASZ >>= λ rela.
    placed_in text range ds DT_JMPREL DT_PLTRELSZ >>= λ jump.
    Ok (tables_of big strings symbols rela jump)

-- Sizes of entries, where they are told, and of the tables of relocation entries.
unfoldable pub sizes_refusal : List Dyn → Option Refusal
sizes_refusal ds =
    must (tag_or 16 DT_SYMENT ds == 16) DynamicOutside DT_SYMENT
    <|> must (tag_or 12 DT_RELAENT ds == 12) DynamicOutside DT_RELAENT
    <|> must (tag_or 0 DT_RELASZ ds % 12 == 0) DynamicOutside DT_RELASZ
    <|> must (tag_or 0 DT_PLTRELSZ ds % 12 == 0) DynamicOutside DT_PLTRELSZ

-- A name begins in the strings, and a zero byte ends it there.
unfoldable pub symbol_refusal : List ℕ → Symbol → Option Refusal
symbol_refusal strings s = must (is_some (name_of strings s.name)) DynamicOutside DT_SYMTAB

unfoldable pub needed_refusal : List ℕ → Dyn → Option Refusal
needed_refusal strings d = must (not (d.tag == DT_NEEDED) || is_some (name_of strings d.value)) DynamicOutside DT_NEEDED

-- The number of an entry's symbol: none, or one of the symbols.
unfoldable pub number_refusal : ℕ → ℕ → Rela → Option Refusal
number_refusal tag count r = must (rela_symbol r == 0 || nat_lt (rela_symbol r) count) DynamicOutside tag

-- The lengths of all names together.
abbrev pub name_or_none : Option (List ℕ) → List ℕ
name_or_none None = []
name_or_none (Some name) = name

unfoldable pub name_in : List ℕ → ℕ → List ℕ
name_in strings at = name_or_none (name_of strings at)

abbrev pub total : {A : Type 0} → (A → ℕ) → List A → ℕ
total size [] = 0
total size (x ∷ xs) = size x + total size xs

abbrev pub symbol_length : List ℕ → Symbol → ℕ
symbol_length strings s = length (name_in strings s.name)

abbrev pub needed_length : List ℕ → Dyn → ℕ
needed_length strings d = if d.tag == DT_NEEDED then length (name_in strings d.value) else 0

unfoldable pub sum_refusal : List Dyn → Tables → Option Refusal
sum_refusal ds t =
    must (nat_le (total (symbol_length t.strings) t.symbols + total (needed_length t.strings) ds) MOST_NAMES_BYTES) DynamicOutside DT_STRTAB

-- The other parts of L11.
unfoldable pub tables_refusal : List Dyn → Tables → Option Refusal
tables_refusal ds t =
    sizes_refusal ds
    <|> first_along (symbol_refusal t.strings) t.symbols
    <|> first_along (needed_refusal t.strings) ds
    <|> first_along (number_refusal DT_RELA (length t.symbols)) t.relas
    <|> first_along (number_refusal DT_JMPREL (length t.symbols)) t.jumps
    <|> sum_refusal ds t
