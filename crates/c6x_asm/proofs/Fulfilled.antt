-- A line adds the symbols and the relocation entries that it says.
use Rattle.std.proofs.Common.{◌≡◌, ℕ, ◌+◌, ◌<◌, Bool, true, false, List, [], ◌∷◌, ◌++◌, length, replicate, Option, Some, None, Result, Ok, Err, IfOk, refl, sym, ◌∙◌, ap, subst, arith, append_assoc, append-nil}
use Rattle.std.specs.Prelude.{if◌then◌else◌, slice_set}
use Rattle.std.proofs.lemmas.List.{get_or-set_same, length-append, length-replicate, length-set, set-get_or, set-set}
use Rattle.std.proofs.lemmas.Result.{IfOk-at_ok, IfOk-weaker}
use Rattle.c6x_elf.specs.Abi.{SHN_ABS}
use Rattle.c6x_spec.specs.Results.{◌>>=◌}
use Rattle.c6x_asm_lines.specs.declared.line.Line.{Line}
use Rattle.c6x_asm_lines.specs.declared.line.Statement.{Statement}
use Rattle.c6x_asm_lines.specs.declared.rule.AsmRule.{AsmRule}
use Rattle.c6x_asm_lines.specs.declared.rule.AsmRule.TheVariants.{Large}
use Rattle.c6x_asm_lines.specs.declared.word.Word.{Word}
use Rattle.c6x_asm_lines.specs.Bytes.{bytes_at}
use Rattle.c6x_asm_lines.specs.Grammar.{is_dotted}
use Rattle.c6x_asm_lines.specs.declared.relocatable.Field.{Field}
use Rattle.c6x_asm_lines.specs.declared.relocatable.RelocatableOp.{RelocatableOp}
use Rattle.c6x_asm_instr.specs.Instructions.{instruction_of}
use Rattle.c6x_asm_instr.specs.declared.directive.Directive.{Directive}
use Rattle.c6x_asm_instr.specs.declared.directive.Directive.TheVariants.{Section, Numbers, Space, Align, Attribute as SetAttribute, Common, Set}
use Rattle.c6x_asm_instr.specs.Directives.{directive_by}
use Rattle.c6x_asm_instr.specs.Keywords.{keyword_of}
use Rattle.c6x_asm_instr.specs.Kinds.{kinds_from}
use Rattle.c6x_asm_object.specs.declared.reloc_entry.RelocEntry.{RelocEntry}
use Rattle.c6x_asm_object.specs.declared.asm_section.AsmSection.{AsmSection}
use Rattle.c6x_asm_object.specs.declared.definition.Definition.{Definition}
use Rattle.c6x_asm_object.specs.declared.instr_word.InstrWord.{InstrWord}
use Rattle.c6x_asm_object.specs.declared.symbol.Symbol.{Symbol}
use Rattle.c6x_asm_object.specs.Kinds.{kind_named}
use Rattle.c6x_asm_object.specs.Named.{section_name}
use Rattle.c6x_asm_object.specs.Sections.{changed, empty_section, no_section, padding, section_at, with_align, with_bytes, with_instruction, with_number, with_parallel, with_zeros}
use Rattle.c6x_asm.specs.States.{State, entered, entered_or_new, labelled, name_changed, placed_at, placed_fault, relocated, section_index, with_attribute}
use Rattle.c6x_asm.specs.Directives.{applied, common_section, given_place, has_room, with_alignment, with_field, with_fields, with_space}
use Rattle.c6x_asm.specs.Instructions.{fails, instr_word_of, instructed, instruction_fault, with_made, with_word, word_of}
use Rattle.c6x_asm.specs.StepLines.{after_label, fault_of_label, numbers_fault, stated, stepped, with_keyword, with_statement}
use Rattle.c6x_asm.proofs.Results.{if_either, if_next, kept}
use Rattle.c6x_asm.specs.Said.{Saying, says_nothing, says_directive, says_instruction, Said, Says, nothing_said, directive_said, instruction_said, text_of_word}
use Rattle.c6x_asm.specs.Sections.{all_entered, is_among, lines_in, number_bytes, one_number}
use Rattle.c6x_asm.specs.Relocations.{AreEntriesOf, Placed, no_entries, number_relocations, relocation_at, relocations, relocations_of}
use Rattle.c6x_asm.specs.Symbols.{all_named, number_names, relocated_names, saying_names, word_names}
use Rattle.c6x_asm.proofs.Firsts.{among_all, not_among}
use Rattle.c6x_asm.proofs.Grown.{directing, has_word, number_grown}
use Rattle.c6x_asm.proofs.Lined.{IsMeant, name_of, unentered}
use Rattle.c6x_asm.proofs.Told.{AreTold, Told, grown_names, told_again}
use Rattle.c6x_asm.proofs.Entries.{HaveEntries, added_entries, entries_more, entries_then, entry_list, grown_entries, idle_entries, relocated_told, symbol_names, with_entry_list}
use Rattle.c6x_asm.proofs.Stepped.{align_name, in_section_meant, inside_here, label_meant, same_name, zeros_name}
use Rattle.c6x_asm.proofs.Telling.{IsPlain, attribute_told, common_told, label_told, line_told, named_push, plain_told, set_told_by, told_label, told_line, told_of}

-- a section with names and entries of relocations more
pub record IsAdded (text : List ℕ) (names : List (List ℕ)) (about : Told) (i : ℕ) (s : State) (new : List (List ℕ)) (placed : List Placed) (bytes : List ℕ) (t : State) : Type 0 where
  pub told : AreTold text (names ++ new) about t.symbols
  pub section : AsmSection
  pub sections : t.sections ≡ slice_set s.sections i section
  pub named : section_name text section ≡ name_of text s.sections i
  pub added : List RelocEntry
  pub entries : section.entries ≡ (section_at s.sections i).entries ++ added
  pub are : AreEntriesOf text (symbol_names text t.symbols) placed added
  pub size : section.size ≡ (section_at s.sections i).size + length bytes

number_entries : (size bits : ℕ) (entry : Option RelocEntry) (p : AsmSection) → (with_number size bits entry p).entries ≡ p.entries ++ entry_list entry
unfolding with_number with_bytes
number_entries size bits entry p = with_entry_list entry p

field_added : (text : List ℕ) (names : List (List ℕ)) (told : Told) (i size : ℕ) (s : State) (field : Field) → AreTold text names told s.symbols → IfOk (with_field text i size s field) (IsAdded text names told i s (relocated_names text field.relocation) (relocation_at (section_at s.sections i).size field.relocation) (one_number size field))
unfolding with_field
field_added text names told i size s field are =
    let p = section_at s.sections i in
    let entry = relocated text s.symbols p.size field.relocation in
    let there = relocated_told text names told s.symbols p.size field.relocation are in
    let grown = number_grown size field.bits entry.1 p in
    if_either (IsAdded text names told i s (relocated_names text field.relocation) (relocation_at p.size field.relocation) (one_number size field)) (has_room s i size) (Ok (record s { symbols = entry.0; sections = changed s.sections i (with_number size field.bits entry.1) })) (Err Large)
    (record {
      told = there.told;
      section = with_number size field.bits entry.1 p;
      sections = refl;
      named = same_name text p (with_number size field.bits entry.1 p) grown.at grown.len;
      added = entry_list entry.1;
      entries = number_entries size field.bits entry.1 p;
      are = there.entry;
      size = grown.size;
    }) tt

added_twice : (text : List ℕ) (names : List (List ℕ)) (told : Told) (i : ℕ) (s t u : State) (a b : List (List ℕ)) (first next : List Placed) (x y : List ℕ) → i < length s.sections → IsAdded text names told i s a first x t → IsAdded text (names ++ a) told i t b next y u → IsAdded text names told i s (a ++ b) (first ++ next) (x ++ y) u
added_twice text names told i s t u a b first next x y inside one two =
    let middle : section_at t.sections i ≡ one.section = ap (λ ps. section_at ps i) one.sections ∙ get_or-set_same s.sections i one.section no_section inside in
    let grown = grown_names text (names ++ a) b told told t.symbols u.symbols one.told two.told in
    record {
      told = subst (λ ns. AreTold text ns told u.symbols) (append_assoc names a b) two.told;
      section = two.section;
      sections = two.sections ∙ ap (λ ps. slice_set ps i two.section) one.sections ∙ set-set s.sections i one.section two.section;
      named = two.named ∙ ap (section_name text) middle ∙ one.named;
      added = one.added ++ two.added;
      entries = two.entries ∙ ap (λ (p : AsmSection). p.entries ++ two.added) middle ∙ ap (λ es. es ++ two.added) one.entries ∙ append_assoc (section_at s.sections i).entries one.added two.added;
      are =
          entries_then text (symbol_names text u.symbols) first next one.added two.added
          (subst (λ ns. AreEntriesOf text ns first one.added) (sym grown) (entries_more text (symbol_names text t.symbols) _ first one.added one.are))
          two.are;
      size = omega (arith, two.size, ap (λ (p : AsmSection). p.size) middle, one.size, length-append x y);
    }

fields_added : (text : List ℕ) (names : List (List ℕ)) (told : Told) (i size : ℕ) (s : State) (fields : List Field) → i < length s.sections → AreTold text names told s.symbols → IfOk (with_fields text i size s fields) (IsAdded text names told i s (number_names text fields) (number_relocations size (section_at s.sections i).size fields) (number_bytes size fields))
fields_added text names told i size s [] inside are = record {
  told = subst (λ ns. AreTold text ns told s.symbols) (sym (append-nil names)) are;
  section = section_at s.sections i;
  sections = sym (set-get_or s.sections i no_section);
  named = refl;
  added = [];
  entries = sym (append-nil (section_at s.sections i).entries);
  are = no_entries;
  size = omega arith;
}
fields_added text names told i size s (field ∷ fields) inside are =
    let p = section_at s.sections i in
    let a = relocated_names text field.relocation in
    let first = relocation_at p.size field.relocation in
    let x = one_number size field in
    let next = number_relocations size (p.size + length x) fields in
    if_next (IsAdded text names told i s (a ++ number_names text fields) (first ++ next) (x ++ number_bytes size fields)) (with_field text i size s field) (λ t. with_fields text i size t fields) (λ t is.
    let one : IsAdded text names told i s a first x t = IfOk-at_ok (IsAdded text names told i s a first x) is (field_added text names told i size s field are) in
    let within : i < length t.sections = subst (λ n. i < n) (sym (ap length one.sections ∙ length-set s.sections i one.section)) inside in
    let middle : section_at t.sections i ≡ one.section = ap (λ ps. section_at ps i) one.sections ∙ get_or-set_same s.sections i one.section no_section inside in
    let size' : (section_at t.sections i).size ≡ p.size + length x = ap (λ (q : AsmSection). q.size) middle ∙ one.size in
    IfOk-weaker (with_fields text i size t fields) (IsAdded text (names ++ a) told i t (number_names text fields) (number_relocations size (section_at t.sections i).size fields) (number_bytes size fields)) (IsAdded text names told i s (a ++ number_names text fields) (first ++ next) (x ++ number_bytes size fields))
    (λ u two. added_twice text names told i s t u a (number_names text fields) first next x (number_bytes size fields) inside one
    (subst (λ n. IsAdded text (names ++ a) told i t (number_names text fields) (number_relocations size n fields) (number_bytes size fields) u) size' two))
    (fields_added text (names ++ a) told i size t fields within one.told))

-- the symbols and the entries of lines with one line more
pub record IsFulfilled (text : List ℕ) (said : List Said) (number : ℕ) (label : Option Word) (saying : Saying) (t : State) : Type 0 where
  pub told : AreTold text ((all_named text said ++ word_names text label) ++ saying_names text saying) (told_line text said label saying) t.symbols
  pub entries : HaveEntries text (said ++ record { number = number; label = label; saying = saying } ∷ []) (symbol_names text t.symbols) t.sections

-- what holds behind the label of the line
pub record IsLabelled (text : List ℕ) (said : List Said) (label : Option Word) (s : State) : Type 0 where
  pub meant : IsMeant text said s.sections s.now
  pub told : AreTold text (all_named text said ++ word_names text label) (told_label text said label) s.symbols
  pub entries : HaveEntries text said (symbol_names text s.symbols) s.sections

plain_names : (text : List ℕ) (said : List Said) (label : Option Word) (saying : Saying) (new : List (List ℕ)) (symbols : List Symbol) → IsPlain text saying → AreTold text ((all_named text said ++ word_names text label) ++ new) (told_label text said label) symbols → AreTold text ((all_named text said ++ word_names text label) ++ new) (told_line text said label saying) symbols
plain_names text said label saying new symbols plain are = told_again text ((all_named text said ++ word_names text label) ++ new) (told_label text said label) (told_line text said label saying) symbols (plain_told text said label saying plain) are

-- a line that adds neither names nor entries
idle_fulfilled : (text : List ℕ) (said : List Said) (number : ℕ) (label : Option Word) (saying : Saying) (s t : State) → IsPlain text saying → saying_names text saying ≡ [] → ((place : ℕ) → relocations_of place saying ≡ []) → t.symbols ≡ s.symbols → t.sections ≡ s.sections → IsLabelled text said label s → IsFulfilled text said number label saying t
idle_fulfilled text said number label saying s t plain none idle symbols sections is =
    let names = all_named text said ++ word_names text label in
    let l : Said = record { number = number; label = label; saying = saying } in
    record {
      told =
          subst (AreTold text (names ++ saying_names text saying) (told_line text said label saying)) (sym symbols)
          (subst (λ ns. AreTold text ns (told_line text said label saying) s.symbols) (sym (ap (λ ns. names ++ ns) none ∙ append-nil names))
          (told_again text names (told_label text said label) (told_line text said label saying) s.symbols (plain_told text said label saying plain) is.told));
      entries =
          subst (λ ps. HaveEntries text (said ++ l ∷ []) (symbol_names text t.symbols) ps) (sym sections)
          (subst (λ ns. HaveEntries text (said ++ l ∷ []) ns s.sections) (append-nil (symbol_names text s.symbols) ∙ sym (ap (symbol_names text) symbols))
          (idle_entries text said l (symbol_names text s.symbols) [] s.sections idle is.entries));
    }

-- a line that adds to its section
added_fulfilled : (text : List ℕ) (said : List Said) (number : ℕ) (label : Option Word) (saying : Saying) (s t : State) (i : ℕ) (bytes : List ℕ) → IsPlain text saying → s.now ≡ Some i → IsLabelled text said label s → IsAdded text (all_named text said ++ word_names text label) (told_label text said label) i s (saying_names text saying) (relocations_of (section_at s.sections i).size saying) bytes t → IsFulfilled text said number label saying t
added_fulfilled text said number label saying s t i bytes plain at is added =
    let names = all_named text said ++ word_names text label in
    let l : Said = record { number = number; label = label; saying = saying } in
    let meant : IsMeant text said s.sections (Some i) = subst (IsMeant text said s.sections) at is.meant in
    let grown = grown_names text names (saying_names text saying) (told_label text said label) (told_label text said label) s.symbols t.symbols is.told added.told in
    record {
      told = plain_names text said label saying (saying_names text saying) t.symbols plain added.told;
      entries =
          subst (λ ps. HaveEntries text (said ++ l ∷ []) (symbol_names text t.symbols) ps) (sym added.sections)
          (subst (λ ns. HaveEntries text (said ++ l ∷ []) ns (slice_set s.sections i added.section)) (sym grown)
          (grown_entries text said l (symbol_names text s.symbols) _ s.sections i added.section added.added meant added.named added.entries
          (subst (λ ns. AreEntriesOf text ns (relocations_of (section_at s.sections i).size saying) added.added) grown added.are) is.entries));
    }

-- a line that gives a name a place or an attribute
named_fulfilled : (text : List ℕ) (said : List Said) (number : ℕ) (label : Option Word) (saying : Saying) (s : State) (symbols : List Symbol) → ((place : ℕ) → relocations_of place saying ≡ []) → IsLabelled text said label s → AreTold text ((all_named text said ++ word_names text label) ++ saying_names text saying) (told_line text said label saying) symbols → IsFulfilled text said number label saying (record s { symbols = symbols })
named_fulfilled text said number label saying s symbols idle is told =
    let names = all_named text said ++ word_names text label in
    let l : Said = record { number = number; label = label; saying = saying } in
    let grown = grown_names text names (saying_names text saying) (told_label text said label) (told_line text said label saying) s.symbols symbols is.told told in
    record {
      told = told;
      entries =
          subst (λ ns. HaveEntries text (said ++ l ∷ []) ns s.sections) (sym grown)
          (idle_entries text said l (symbol_names text s.symbols) _ s.sections idle is.entries);
    }

section_fulfilled : (text : List ℕ) (said : List Said) (number : ℕ) (label : Option Word) (at len : ℕ) (s : State) → IsLabelled text said label s → IsFulfilled text said number label (says_directive (Section at len)) (entered text at len s)
unfolding entered section_index empty_section
section_fulfilled text said number label at len s is = by (section_index text s.sections (bytes_at text at len)) refl
  where
    plain : IsPlain text (says_directive (Section at len))
    plain = record { places = λ n. refl; attributes = λ attribute n. refl }

    by : (o : Option ℕ) → section_index text s.sections (bytes_at text at len) ≡ o → IsFulfilled text said number label (says_directive (Section at len)) (entered_or_new text at len s o)
    by (Some i) found = idle_fulfilled text said number label (says_directive (Section at len)) s (record s { now = Some i }) plain refl (λ place. refl) refl refl is
    by None found =
        let n = bytes_at text at len in
        let p = empty_section at len (kind_named n) in
        let new = not_among (section_name text) s.sections n found in
        let none : is_among (all_entered text said) n ≡ false = sym (among_all (all_entered text said) n) ∙ ap (λ ns. is_among ns n) (sym is.meant.names) ∙ new in
        let names = all_named text said ++ word_names text label in
        record {
          told =
              subst (λ ns. AreTold text ns (told_line text said label (says_directive (Section at len))) s.symbols) (sym (append-nil names))
              (told_again text names (told_label text said label) (told_line text said label (says_directive (Section at len))) s.symbols (plain_told text said label (says_directive (Section at len)) plain) is.told);
          entries =
              added_entries text said (directing number label (Section at len)) (symbol_names text s.symbols) s.sections p (λ place. refl)
              (ap (relocations 0) (unentered text n None said refl none).0) refl is.entries;
        }

space_entries : (count : ℕ) (p : AsmSection) → (with_zeros count p).entries ≡ p.entries
unfolding with_zeros
space_entries count p = refl

space_size : (count : ℕ) (p : AsmSection) → (with_zeros count p).size ≡ p.size + count
unfolding with_zeros
space_size count p = refl

given_fulfilled : (text : List ℕ) (said : List Said) (number : ℕ) (label : Option Word) (saying : Saying) (s : State) (word : Word) (place : Definition) (fault : Option AsmRule) → (fault ≡ None → IsFulfilled text said number label saying (record s { symbols = name_changed text s.symbols word (placed_at place) })) → IfOk (given_place text s word place fault) (IsFulfilled text said number label saying)
given_fulfilled text said number label saying s word place None holds = holds refl
given_fulfilled text said number label saying s word place (Some rule) holds = tt

-- zeros, to a section that keeps its name and its entries
kept_added : (text : List ℕ) (said : List Said) (label : Option Word) (saying : Saying) (s : State) (i : ℕ) (q : AsmSection) (bytes : List ℕ) → saying_names text saying ≡ [] → ((place : ℕ) → relocations_of place saying ≡ []) → section_name text q ≡ name_of text s.sections i → q.entries ≡ (section_at s.sections i).entries → q.size ≡ (section_at s.sections i).size + length bytes → IsLabelled text said label s → IsAdded text (all_named text said ++ word_names text label) (told_label text said label) i s (saying_names text saying) (relocations_of (section_at s.sections i).size saying) bytes (record s { sections = slice_set s.sections i q })
kept_added text said label saying s i q bytes none idle named entries size is =
    let names = all_named text said ++ word_names text label in
    record {
      told = subst (λ ns. AreTold text ns (told_label text said label) s.symbols) (sym (ap (λ ns. names ++ ns) none ∙ append-nil names)) is.told;
      section = q;
      sections = refl;
      named = named;
      added = [];
      entries = entries ∙ sym (append-nil (section_at s.sections i).entries);
      are = subst (λ ps. AreEntriesOf text (symbol_names text s.symbols) ps []) (sym (idle (section_at s.sections i).size)) no_entries;
      size = size;
    }

align_entries : (align : ℕ) (p : AsmSection) → (with_align align p).entries ≡ p.entries
unfolding with_align with_zeros
align_entries align p = refl

abbrev zeros : ℕ → List ℕ
zeros n = replicate n 0

zeros_long : (n : ℕ) → length (zeros n) ≡ n
zeros_long n = length-replicate {A = ℕ} n 0

align_size : (align : ℕ) (p : AsmSection) → (with_align align p).size ≡ p.size + padding p.size align
unfolding with_align with_zeros
align_size align p = refl

space_fulfilled : (text : List ℕ) (said : List Said) (number : ℕ) (label : Option Word) (count : ℕ) (s : State) (i : ℕ) → s.now ≡ Some i → IsLabelled text said label s → IfOk (with_space count s i) (IsFulfilled text said number label (says_directive (Space count)))
space_fulfilled text said number label count s i at is =
    let p = section_at s.sections i in
    let saying = says_directive (Space count) in
    if_either (IsFulfilled text said number label saying) (has_room s i count) (Ok (record s { sections = changed s.sections i (with_zeros count) })) (Err Large)
    (added_fulfilled text said number label saying s (record s { sections = changed s.sections i (with_zeros count) }) i (zeros count) (record { places = λ n. refl; attributes = λ attribute n. refl }) at is
    (kept_added text said label saying s i (with_zeros count p) (zeros count) refl (λ place. refl) (zeros_name text count p) (space_entries count p) (space_size count p ∙ ap (λ n. p.size + n) (sym (zeros_long count))) is)) tt

alignment_fulfilled : (text : List ℕ) (said : List Said) (number : ℕ) (label : Option Word) (align : ℕ) (s : State) (i : ℕ) → s.now ≡ Some i → IsLabelled text said label s → IfOk (with_alignment align s i) (IsFulfilled text said number label (says_directive (Align align)))
alignment_fulfilled text said number label align s i at is =
    let p = section_at s.sections i in
    let saying = says_directive (Align align) in
    let count = padding p.size align in
    if_either (IsFulfilled text said number label saying) (has_room s i count) (Ok (record s { sections = changed s.sections i (with_align align) })) (Err Large)
    (added_fulfilled text said number label saying s (record s { sections = changed s.sections i (with_align align) }) i (zeros count) (record { places = λ n. refl; attributes = λ attribute n. refl }) at is
    (kept_added text said label saying s i (with_align align p) (zeros count) refl (λ place. refl) (align_name text align p) (align_entries align p) (align_size align p ∙ ap (λ n. p.size + n) (sym (zeros_long count))) is)) tt

-- a directive
applied_fulfilled : (text : List ℕ) (said : List Said) (number : ℕ) (label : Option Word) (directive : Directive) (s : State) → IsLabelled text said label s → IfOk (applied text s directive) (IsFulfilled text said number label (says_directive directive))
unfolding applied
applied_fulfilled text said number label (Section at len) s is = section_fulfilled text said number label at len s is
applied_fulfilled text said number label (Numbers size fields) s is =
    in_section_meant (IsFulfilled text said number label (says_directive (Numbers size fields))) s.now (λ i. with_fields text i size s fields) (λ i at.
    let names = all_named text said ++ word_names text label in
    IfOk-weaker (with_fields text i size s fields) (IsAdded text names (told_label text said label) i s (number_names text fields) (number_relocations size (section_at s.sections i).size fields) (number_bytes size fields)) (IsFulfilled text said number label (says_directive (Numbers size fields)))
    (λ t added. added_fulfilled text said number label (says_directive (Numbers size fields)) s t i (number_bytes size fields) (record { places = λ n. refl; attributes = λ attribute n. refl }) at is added)
    (fields_added text names (told_label text said label) i size s fields (inside_here text said s.sections s.now i at is.meant) is.told))
applied_fulfilled text said number label (Space count) s is =
    in_section_meant (IsFulfilled text said number label (says_directive (Space count))) s.now (with_space count s) (λ i at. space_fulfilled text said number label count s i at is)
applied_fulfilled text said number label (Align align) s is =
    in_section_meant (IsFulfilled text said number label (says_directive (Align align))) s.now (with_alignment align s) (λ i at. alignment_fulfilled text said number label align s i at is)
applied_fulfilled text said number label (SetAttribute attribute word) s is =
    named_fulfilled text said number label (says_directive (SetAttribute attribute word)) s (name_changed text s.symbols word (with_attribute attribute)) (λ place. refl) is
    (attribute_told text (all_named text said ++ word_names text label) said label attribute word s.symbols is.told)
applied_fulfilled text said number label (Common word size align near) s is =
    let place : Definition = record { section = common_section near; value = align; size = size } in
    given_fulfilled text said number label (says_directive (Common word size align near)) s word place (placed_fault text s.symbols word) (λ free.
    named_fulfilled text said number label (says_directive (Common word size align near)) s (name_changed text s.symbols word (placed_at place)) (λ place. refl) is
    (common_told text (all_named text said ++ word_names text label) said label word size align near s.symbols free is.told))
applied_fulfilled text said number label (Set word value) s is =
    let place : Definition = record { section = SHN_ABS; value = value; size = 0 } in
    given_fulfilled text said number label (says_directive (Set word value)) s word place (placed_fault text s.symbols word) (λ free.
    named_fulfilled text said number label (says_directive (Set word value)) s (name_changed text s.symbols word (placed_at place)) (λ place. refl) is
    (set_told_by text (all_named text said ++ word_names text label) said label word value s.symbols free is.told))

word_entries : (instruction : InstrWord) (entry : Option RelocEntry) (p : AsmSection) → (with_instruction instruction entry p).entries ≡ p.entries ++ entry_list entry
unfolding with_instruction with_number with_bytes with_parallel
word_entries instruction entry p = by instruction.chained entry
  where
    by : (chained : Bool) (entry : Option RelocEntry) → (with_instruction (record instruction { chained = chained }) entry p).entries ≡ p.entries ++ entry_list entry
    by true None = sym (append-nil p.entries)
    by true (Some entry) = refl
    by false None = sym (append-nil p.entries)
    by false (Some entry) = refl

-- an instruction
word_fulfilled : (text : List ℕ) (said : List Said) (number : ℕ) (label : Option Word) (chained : Bool) (made : RelocatableOp) (word : ℕ) (o : Option ℕ) (s : State) (i : ℕ) → s.now ≡ Some i → IsLabelled text said label s → IfOk (with_word text number chained made o s i) (IsFulfilled text said number label (says_instruction chained word made.relocation))
word_fulfilled text said number label chained made word None s i at is = tt
word_fulfilled text said number label chained made word (Some w) s i at is =
    let p = section_at s.sections i in
    let names = all_named text said ++ word_names text label in
    let saying = says_instruction chained word made.relocation in
    let entry = relocated text s.symbols p.size made.relocation in
    let there = relocated_told text names (told_label text said label) s.symbols p.size made.relocation is.told in
    let q = with_instruction (instr_word_of number chained w) entry.1 p in
    let grown = has_word (instr_word_of number chained w) entry.1 p in
    let t : State = record s { symbols = entry.0; sections = changed s.sections i (with_instruction (instr_word_of number chained w) entry.1) } in
    if_either (IsFulfilled text said number label saying) (has_room s i 4) (Ok t) (Err Large)
    (added_fulfilled text said number label saying s t i (zeros 4) (record { places = λ n. refl; attributes = λ attribute n. refl }) at is
    (record {
      told = there.told;
      section = q;
      sections = refl;
      named = same_name text p q grown.at grown.len;
      added = entry_list entry.1;
      entries = word_entries (instr_word_of number chained w) entry.1 p;
      are = there.entry;
      size = grown.size;
    })) tt

-- what a statement says, where it breaks no rule
if_true : {T : Type 0} (b : Bool) (x y r : T) → b ≡ true → (if b then x else y) ≡ r → x ≡ r
if_true true x y r is same = same
if_true false x y r is same = absurd (cc)

if_false : {T : Type 0} (b : Bool) (x y r : T) → b ≡ false → (if b then x else y) ≡ r → y ≡ r
if_false true x y r is same = absurd (cc)
if_false false x y r is same = same

after_fault : {T : Type 0} (fault : Option AsmRule) (r : Result T AsmRule) (x : T) (next : T → Result State AsmRule) (t : State) → r ≡ Ok x → (fails fault r >>= next) ≡ Ok t → next x ≡ Ok t
after_fault None r x next t read is = ap (λ r. r >>= next) (sym read) ∙ is
after_fault (Some rule) (Ok y) x next t read is = absurd (cc)
after_fault (Some rule) (Err other) x next t read is = absurd (cc)

statement_fulfilled : (text : List ℕ) (said : List Said) (number : ℕ) (label : Option Word) (statement : Option Statement) (saying : Saying) (s t : State) → IsLabelled text said label s → Says text statement saying → stated text number statement s ≡ Ok t → IsFulfilled text said number label saying t
unfolding stated instructed
statement_fulfilled text said number label statement saying s t behind nothing_said is =
    let same : s ≡ t = cc in
    subst (IsFulfilled text said number label says_nothing) same
    (idle_fulfilled text said number label says_nothing s s (record { places = λ n. refl; attributes = λ attribute n. refl }) refl (λ place. refl) refl refl behind)
statement_fulfilled text said number label whole saying s t behind (directive_said {statement} {keyword} {directive} dotted named read) is =
    let inner = kept (kinds_from text None statement.operands) (with_statement text number statement s) t is in
    let worded = if_true (is_dotted statement.head.word.class) (with_keyword text (keyword_of (text_of_word text statement.head.word)) statement.operands s) (instructed text number statement.head statement.operands s) (Ok t) dotted inner.1 in
    let keyed : with_keyword text (Some keyword) statement.operands s ≡ Ok t = ap (λ o. with_keyword text o statement.operands s) (sym named) ∙ worded in
    let done = after_fault (numbers_fault keyword s.sections s.now) (directive_by text keyword statement.operands) directive (λ d. applied text s d) t read keyed in
    IfOk-at_ok (IsFulfilled text said number label (says_directive directive)) done (applied_fulfilled text said number label directive s behind)
statement_fulfilled text said number label whole saying s t behind (instruction_said {statement} {made} {word} plain read spells) is =
    let head = statement.head in
    let inner = kept (kinds_from text None statement.operands) (with_statement text number statement s) t is in
    let worded = if_false (is_dotted head.word.class) (with_keyword text (keyword_of (text_of_word text head.word)) statement.operands s) (instructed text number head statement.operands s) (Ok t) plain inner.1 in
    let done = after_fault (instruction_fault s head) (instruction_of text head statement.operands) made (λ m. with_made text number head s m) t read worded in
    IfOk-at_ok (IsFulfilled text said number label (says_instruction head.chained word made.relocation)) done
    (in_section_meant (IsFulfilled text said number label (says_instruction head.chained word made.relocation)) s.now (λ i. with_word text number head.chained made (word_of head.condition made.op) s i) (λ i at.
    word_fulfilled text said number label head.chained made word (word_of head.condition made.op) s i at behind))

-- symbols and entries of lines
pub record IsWhole (text : List ℕ) (said : List Said) (s : State) : Type 0 where
  pub told : AreTold text (all_named text said) (told_of text said) s.symbols
  pub entries : HaveEntries text said (symbol_names text s.symbols) s.sections

label_whole : (text : List ℕ) (said : List Said) (label : Option Word) (s : State) → fault_of_label text s label ≡ None → IsMeant text said s.sections s.now → IsWhole text said s → IsLabelled text said label (after_label text s label)
unfolding labelled
label_whole text said label s none meant whole =
    let told = label_told text said label s none meant whole.told in
    let grown = grown_names text (all_named text said) (word_names text label) (told_of text said) (told_label text said label) s.symbols (after_label text s label).symbols whole.told told in
    record {
      meant = label_meant text said label s meant;
      told = told;
      entries =
          subst (λ ps. HaveEntries text said (symbol_names text (after_label text s label).symbols) ps) (sym (same_sections label))
          (λ j inside. subst (λ ns. AreEntriesOf text ns (relocations 0 (lines_in text (name_of text s.sections j) None said)) (section_at s.sections j).entries) (sym grown)
          (entries_more text (symbol_names text s.symbols) _ (relocations 0 (lines_in text (name_of text s.sections j) None said)) (section_at s.sections j).entries (whole.entries j inside)));
    }
  where
    same_sections : (label : Option Word) → (after_label text s label).sections ≡ s.sections
    same_sections None = refl
    same_sections (Some word) = refl

-- a line
pub stepped_whole : (text : List ℕ) (said : List Said) (number : ℕ) (line : Line) (saying : Saying) (s t : State) → IsMeant text said s.sections s.now → IsWhole text said s → Says text line.statement saying → stepped text number line s ≡ Ok t → IsWhole text (said ++ record { number = number; label = line.label; saying = saying } ∷ []) t
unfolding stepped
stepped_whole text said number line saying s t meant whole says is =
    let l : Said = record { number = number; label = line.label; saying = saying } in
    let both = kept (fault_of_label text s line.label) (stated text number line.statement (after_label text s line.label)) t is in
    let behind = label_whole text said line.label s both.0 meant whole in
    let done = statement_fulfilled text said number line.label line.statement saying (after_label text s line.label) t behind says both.1 in
    record {
      told =
          subst (λ ns. AreTold text ns (told_of text (said ++ l ∷ [])) t.symbols) (sym (named_push text said l))
          (told_again text ((all_named text said ++ word_names text line.label) ++ saying_names text saying) (told_line text said line.label saying) (told_of text (said ++ l ∷ [])) t.symbols (line_told text said l) done.told);
      entries = done.entries;
    }
