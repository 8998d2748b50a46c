-- The sections of an object one by one: sizes, fields and entries.
use Rattle.std.proofs.Common.{◌≡◌, ℕ, ◌+◌, ◌*◌, ◌%◌, ◌^◌, ◌<◌, ◌≤◌, ◌==◌, true, false, cond, List, [], None, length, nat_lt, refl, sym, ap, ◌∙◌, subst, arith}
use Rattle.std.proofs.lemmas.Bool.Decides.{nat_tests}
use Rattle.c6x_base.specs.declared.limits.TheConstants.{MOST_SECTIONS}
use Rattle.c6x_elf.specs.Rules.{must}
use Rattle.c6x_elf.specs.Entries.{entries_refusal, rela_refusal, relas_refusal, symbol_refusal, symbols_in, symbols_refusal, text_of}
use Rattle.c6x_elf.specs.Form.{IsSized, own_head}
use Rattle.c6x_elf.specs.Parts.{fields_refusal, has_bytes, has_entries, has_target, is_linked, is_relocation_table, is_symbol_table, section_size}
use Rattle.c6x_elf.specs.Writing.{section_head_at}
use Rattle.c6x_elf.specs.declared.section.Section.{Section}
use Rattle.c6x_asm_object.specs.Sections.{is_zero}
use Rattle.c6x_asm_object.specs.declared.reloc_entry.RelocEntry.{RelocEntry}
use Rattle.c6x_asm_object.specs.declared.asm_section.AsmSection.{AsmSection}
use Rattle.c6x_asm_object.specs.declared.section_kind.SectionKind.{SectionKind}
use Rattle.c6x_asm_object.specs.declared.section_kind.SectionKind.TheVariants.{Text, Constant, Zero, Data}
use Rattle.c6x_asm_object.specs.declared.symbol.Symbol.{Symbol}
use Rattle.c6x_asm_object.specs.Headers.{null_section, section_header, section_type, table_section}
use Rattle.c6x_asm_object.specs.Relocations.{number_at, relocation_rows}
use Rattle.c6x_asm_object.specs.Sound.{IsSectionSound, IsSymbolSound}
use Rattle.c6x_asm_object.specs.FormSymbols.{names_table, symbol_table}
use Rattle.c6x_asm_object.proofs.Lengths.{length-relocation_rows, length-symbol_table}
use Rattle.c6x_asm_object.proofs.Lists.{Each}
use Rattle.c6x_asm_object.proofs.RelocationEntries.{relocation_rows_pass}
use Rattle.c6x_asm_object.proofs.SymbolEntries.{symbol_table_passes}

-- What a section keeps but for its name, where there are so many sections.
pub record Keeps (count : ℕ) (all : List Section) (section : Section) : Type 0 where
  pub sized : IsSized section
  pub fields : fields_refusal count (own_head section) ≡ None
  pub entries : entries_refusal false all (own_head section) section.bytes ≡ None

-- a section under another name keeps the same
sized_renamed : (name : ℕ) (section : Section) → IsSized section → IsSized (record section { name = name })
unfolding section_size section_head_at
sized_renamed name section sized = record { size = sized.size }

fields_renamed : (count name : ℕ) (section : Section) → fields_refusal count (own_head section) ≡ None → fields_refusal count (own_head (record section { name = name })) ≡ None
unfolding fields_refusal section_head_at
fields_renamed count name section kept = kept

entries_renamed : (all : List Section) (name : ℕ) (section : Section) → entries_refusal false all (own_head section) section.bytes ≡ None → entries_refusal false all (own_head (record section { name = name })) section.bytes ≡ None
unfolding entries_refusal symbols_refusal relas_refusal symbol_refusal rela_refusal section_head_at
entries_renamed all name section kept = kept

pub keeps_renamed : (count : ℕ) (all : List Section) (name : ℕ) (section : Section) → Keeps count all section → Keeps count all (record section { name = name })
keeps_renamed count all name section keeps = record {
  sized = sized_renamed name section keeps.sized;
  fields = fields_renamed count name section keeps.fields;
  entries = entries_renamed all name section keeps.entries;
}

-- a section of the text
section_sized : (kind : SectionKind) (size : ℕ) (bytes : List ℕ) → (is_zero kind ≡ true → bytes ≡ []) → (is_zero kind ≡ false → length bytes ≡ size) → length bytes ≡ cond (has_bytes (section_type kind)) size 0
unfolding has_bytes
section_sized Text size bytes zeros full = full refl
section_sized Constant size bytes zeros full = full refl
section_sized Zero size bytes zeros full = ap length (zeros refl)
section_sized Data size bytes zeros full = full refl

plain_type : (kind : SectionKind) → (is_symbol_table (section_type kind) ≡ false) × (is_relocation_table (section_type kind) ≡ false)
unfolding is_symbol_table is_relocation_table
plain_type Text = (refl, refl)
plain_type Constant = (refl, refl)
plain_type Zero = (refl, refl)
plain_type Data = (refl, refl)

-- a section that is no table of symbols or relocations has no rules
plain_fields : (count : ℕ) (section : Section) → is_symbol_table section.kind ≡ false → is_relocation_table section.kind ≡ false → fields_refusal count (own_head section) ≡ None
unfolding fields_refusal section_head_at is_linked has_target has_entries must
plain_fields count section symbols relas = rw (symbols, relas) refl

plain_entries : (all : List Section) (section : Section) → is_symbol_table section.kind ≡ false → is_relocation_table section.kind ≡ false → entries_refusal false all (own_head section) section.bytes ≡ None
unfolding entries_refusal section_head_at
plain_entries all section symbols relas = rw (symbols, relas) refl

pub section_keeps : (count names : ℕ) (all : List Section) (p : AsmSection) → IsSectionSound names p → Keeps count all (section_header p)
unfolding section_header section_size section_head_at
section_keeps count names all p sound = record {
  sized = record { size = section_sized p.kind p.size p.bytes sound.zeros sound.full };
  fields = plain_fields count (section_header p) (plain_type p.kind).0 (plain_type p.kind).1;
  entries = plain_entries all (section_header p) (plain_type p.kind).0 (plain_type p.kind).1;
}

table_sized : (kind link info align entsize : ℕ) (bytes : List ℕ) → has_bytes kind ≡ true → IsSized (table_section kind link info align entsize bytes)
unfolding table_section section_size section_head_at
table_sized kind link info align entsize bytes has = record { size = rw has refl }

has_bytes_in : (kind : ℕ) → kind < 5 → 0 < kind → has_bytes kind ≡ true
unfolding has_bytes
has_bytes_in kind below above = grind (arith, nat_tests)

table_kind : (kind link info align entsize : ℕ) (bytes : List ℕ) → (table_section kind link info align entsize bytes).kind ≡ kind
unfolding table_section
table_kind kind link info align entsize bytes = refl

pub table_bytes : (kind link info align entsize : ℕ) (bytes : List ℕ) → (table_section kind link info align entsize bytes).bytes ≡ bytes
unfolding table_section
table_bytes kind link info align entsize bytes = refl

-- a table of names
pub strings_keep : (count : ℕ) (all : List Section) (bytes : List ℕ) → Keeps count all (table_section 3 0 0 1 0 bytes)
unfolding table_section is_symbol_table is_relocation_table has_bytes
strings_keep count all bytes = record {
  sized = table_sized 3 0 0 1 0 bytes refl;
  fields = plain_fields count (table_section 3 0 0 1 0 bytes) refl refl;
  entries = plain_entries all (table_section 3 0 0 1 0 bytes) refl refl;
}

pub null_keeps : (count : ℕ) (all : List Section) → Keeps count all null_section
unfolding null_section table_section is_symbol_table is_relocation_table has_bytes section_size section_head_at
null_keeps count all = record {
  sized = record { size = refl };
  fields = plain_fields count null_section refl refl;
  entries = plain_entries all null_section refl refl;
}

-- whole entries of a table
sixteens : (count size : ℕ) → size ≡ 16 * count → (size % 16 == 0) ≡ true
sixteens count size is =
    let whole : size % 16 ≡ 0 = omega arith in
    grind (arith, nat_tests)

twelves : (count size : ℕ) → size ≡ 12 * count → (size % 12 == 0) ≡ true
twelves count size is =
    let whole : size % 12 ≡ 0 = omega arith in
    grind (arith, nat_tests)

less : (n count : ℕ) → n < count → nat_lt n count ≡ true
less n count below = grind (arith, nat_tests)

symbols_fields : (count link info : ℕ) (bytes : List ℕ) → nat_lt link count ≡ true → (length bytes % 16 == 0) ≡ true → fields_refusal count (own_head (table_section 2 link info 4 16 bytes)) ≡ None
unfolding fields_refusal table_section section_head_at is_linked has_target has_entries is_symbol_table is_relocation_table must
symbols_fields count link info bytes linked whole = rw (linked, whole) refl

relas_fields : (count link info : ℕ) (bytes : List ℕ) → nat_lt link count ≡ true → nat_lt info count ≡ true → (length bytes % 12 == 0) ≡ true → fields_refusal count (own_head (table_section 4 link info 4 12 bytes)) ≡ None
unfolding fields_refusal table_section section_head_at is_linked has_target has_entries is_symbol_table is_relocation_table must
relas_fields count link info bytes linked target whole = rw (linked, target, whole) refl

symbols_entries : (all : List Section) (link info : ℕ) (bytes : List ℕ) → symbols_refusal false all (own_head (table_section 2 link info 4 16 bytes)) bytes ≡ None → entries_refusal false all (own_head (table_section 2 link info 4 16 bytes)) (table_section 2 link info 4 16 bytes).bytes ≡ None
unfolding entries_refusal table_section section_head_at is_symbol_table
symbols_entries all link info bytes kept = kept

relas_entries : (all : List Section) (link info : ℕ) (bytes : List ℕ) → relas_refusal false all (own_head (table_section 4 link info 4 12 bytes)) bytes ≡ None → entries_refusal false all (own_head (table_section 4 link info 4 12 bytes)) (table_section 4 link info 4 12 bytes).bytes ≡ None
unfolding entries_refusal table_section section_head_at is_symbol_table is_relocation_table
relas_entries all link info bytes kept = kept

table_link : (kind link info align entsize : ℕ) (bytes : List ℕ) → (own_head (table_section kind link info align entsize bytes)).link ≡ link
unfolding table_section section_head_at
table_link kind link info align entsize bytes = refl

-- the table of the symbols
pub symbols_keep : (all : List Section) (link info : ℕ) (text : List ℕ) (sections : ℕ) (symbols : List Symbol) → length all ≤ MOST_SECTIONS → link < length all → sections < length all → text_of all link ≡ names_table text symbols → length (names_table text symbols) < 2 ^ 32 → Each (IsSymbolSound sections) symbols → Keeps (length all) all (table_section 2 link info 4 16 (symbol_table text sections symbols))
symbols_keep all link info text sections symbols most below inside linked names sound =
    let bytes = symbol_table text sections symbols in
    let head = own_head (table_section 2 link info 4 16 bytes) in
    record {
      sized = table_sized 2 link info 4 16 bytes (has_bytes_in 2 (omega arith) (omega arith));
      fields = symbols_fields (length all) link info bytes (less link (length all) below)
          (sixteens (1 + sections + length symbols) (length bytes) (length-symbol_table text sections symbols));
      entries = symbols_entries all link info bytes
          (symbol_table_passes all head text sections symbols (ap (text_of all) (table_link 2 link info 4 16 bytes) ∙ linked) names inside most sound);
    }

-- the relocations of a section
pub relas_keep : (all : List Section) (link info : ℕ) (numbers : List ℕ) (entries : List RelocEntry) → link < length all → info < length all → symbols_in all link ≤ 2 ^ 24 → Each (λ (e : RelocEntry). number_at numbers e.symbol < symbols_in all link) entries → Keeps (length all) all (table_section 4 link info 4 12 (relocation_rows numbers entries))
relas_keep all link info numbers entries below inside numbered sound =
    let bytes = relocation_rows numbers entries in
    let head = own_head (table_section 4 link info 4 12 bytes) in
    let own = sym (table_link 4 link info 4 12 bytes) in
    let Q : ℕ → Type 0 = λ l. symbols_in all l ≤ 2 ^ 24 in
    let P : ℕ → Type 0 = λ l. Each (λ (e : RelocEntry). number_at numbers e.symbol < symbols_in all l) entries in
    record {
      sized = table_sized 4 link info 4 12 bytes (has_bytes_in 4 (omega arith) (omega arith));
      fields = relas_fields (length all) link info bytes (less link (length all) below) (less info (length all) inside)
          (twelves (length entries) (length bytes) (length-relocation_rows numbers entries));
      entries = relas_entries all link info bytes
          (relocation_rows_pass all head numbers entries (subst Q own numbered) (subst P own sound));
    }
