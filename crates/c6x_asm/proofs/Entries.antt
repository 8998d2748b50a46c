-- The relocation entries of a section with one more of its lines.
use Rattle.std.proofs.Common.{◌≡◌, ℕ, ◌+◌, ◌<◌, ◌⊎◌, inl, inr, Bool, true, false, List, [], ◌∷◌, ◌++◌, length, map, Option, Some, None, refl, sym, ◌∙◌, ap, subst, arith, append_assoc, append-nil}
use Rattle.std.specs.Prelude.{if◌then◌else◌, slice_set}
use Rattle.std.proofs.lemmas.Bool.{cases_eq}
use Rattle.std.proofs.lemmas.List.{get_or-map, get_or_append_left, get_or-set_other, get_or-set_same, get_or_push, length-append, length-map, length-set}
use Rattle.c6x_asm_lines.specs.declared.word.Word.{Word}
use Rattle.c6x_asm_lines.specs.declared.relocation.Relocation.{Relocation}
use Rattle.c6x_asm_object.specs.declared.reloc_entry.RelocEntry.{RelocEntry}
use Rattle.c6x_asm_object.specs.declared.asm_section.AsmSection.{AsmSection}
use Rattle.c6x_asm_object.specs.declared.symbol.Symbol.{Symbol}
use Rattle.c6x_asm_object.specs.Named.{section_name}
use Rattle.c6x_asm_object.specs.Sections.{no_section, section_at, with_entry}
use Rattle.c6x_asm_object.specs.Symbols.{interned, no_symbol, symbol_name}
use Rattle.c6x_asm.specs.States.{named_entry, relocated}
use Rattle.c6x_asm.specs.Said.{Said}
use Rattle.c6x_asm.specs.Sections.{behind_lines, contents, contribution, is_here, is_joined, lines_in, size_at}
use Rattle.c6x_asm.specs.Relocations.{AreEntriesOf, IsNumbered, Placed, an_entry, no_entries, relocation_at, relocations, relocations_of}
use Rattle.c6x_asm.specs.Symbols.{relocated_names, word_names}
use Rattle.c6x_asm.proofs.Contents.{length_put}
use Rattle.c6x_asm.proofs.Lined.{IsMeant, here_lines, here_name, lines_push, name_of, not_here, other_name, there, which}
use Rattle.c6x_asm.proofs.Told.{AreTold, Told, interned_told}

-- more names
number_more : (text : List ℕ) (names more : List (List ℕ)) (word : Option Word) (number : Option ℕ) → IsNumbered text names word number → IsNumbered text (names ++ more) word number
number_more text names more None None is = tt
number_more text names more None (Some number) is = absurd is
number_more text names more (Some word) None is = absurd is
number_more text names more (Some word) (Some number) is =
    (omega (arith, is.0, length-append names more), get_or_append_left names more [] number is.0 ∙ is.1)

pub entries_more : (text : List ℕ) (names more : List (List ℕ)) (placed : List Placed) (entries : List RelocEntry) → AreEntriesOf text names placed entries → AreEntriesOf text (names ++ more) placed entries
entries_more text names more all es no_entries = no_entries
entries_more text names more all es (an_entry {placed} {e} {rest} {entries} is are) =
    an_entry (record { offset = is.offset; kind = is.kind; addend = is.addend; symbol = number_more text names more placed.relocation.symbol e.symbol is.symbol })
    (entries_more text names more rest entries are)

-- more entries
pub entries_then : (text : List ℕ) (names : List (List ℕ)) (first next : List Placed) (a b : List RelocEntry) → AreEntriesOf text names first a → AreEntriesOf text names next b → AreEntriesOf text names (first ++ next) (a ++ b)
entries_then text names all more es b no_entries next = next
entries_then text names all more es b (an_entry {placed} {e} {rest} {entries} is are) next = an_entry is (entries_then text names rest more entries b are next)

-- those of one more line
pub relocations_push : (place : ℕ) (lines : List Said) (l : Said) → relocations place (lines ++ l ∷ []) ≡ relocations place lines ++ relocations_of (place + length (contents place lines)) l.saying
relocations_push place [] l = let e : place ≡ place + 0 = omega arith in append-nil (relocations_of place l.saying) ∙ ap (λ n. relocations_of n l.saying) e
relocations_push place (x ∷ lines) l =
    let behind = place + size_at place x.saying in
    let put = contribution place (is_joined behind lines) x.saying in
    let e : behind + length (contents behind lines) ≡ place + length (put ++ contents behind lines) = omega (arith, length-append put (contents behind lines), length_put place (is_joined behind lines) x.saying) in
    ap (λ ps. relocations_of place x.saying ++ ps) (relocations_push behind lines l ∙ ap (λ n. relocations behind lines ++ relocations_of n l.saying) e)
    ∙ sym (append_assoc (relocations_of place x.saying) (relocations behind lines) (relocations_of (place + length (put ++ contents behind lines)) l.saying))

abbrev pub entry_list : Option RelocEntry → List RelocEntry
entry_list None = []
entry_list (Some entry) = entry ∷ []

pub with_entry_list : (entry : Option RelocEntry) (p : AsmSection) → (with_entry entry p).entries ≡ p.entries ++ entry_list entry
with_entry_list None p = sym (append-nil p.entries)
with_entry_list (Some entry) p = refl

abbrev pub symbol_names : List ℕ → List Symbol → List (List ℕ)
symbol_names text symbols = map (symbol_name text) symbols

-- the names with that of a relocation, and its entry
pub record IsRelocated (text : List ℕ) (all : List (List ℕ)) (about : Told) (offset : ℕ) (relocation : Option Relocation) (after : List Symbol × Option RelocEntry) : Type 0 where
  pub told : AreTold text (all ++ relocated_names text relocation) about after.0
  pub entry : AreEntriesOf text (symbol_names text after.0) (relocation_at offset relocation) (entry_list after.1)

pub relocated_told : (text : List ℕ) (names : List (List ℕ)) (told : Told) (symbols : List Symbol) (offset : ℕ) (relocation : Option Relocation) → AreTold text names told symbols → IsRelocated text names told offset relocation (relocated text symbols offset relocation)
unfolding relocated
relocated_told text names told symbols offset None are =
    record { told = subst (λ ns. AreTold text ns told symbols) (sym (append-nil names)) are; entry = no_entries }
relocated_told text names told symbols offset (Some r) are = by r.symbol refl
  where
    by : (o : Option Word) → r.symbol ≡ o → IsRelocated text names told offset (Some r) (named_entry text symbols r offset o)
    by None is = record {
      told = subst (λ ns. AreTold text ns told symbols) (sym (ap (λ o. names ++ word_names text o) is ∙ append-nil names)) are;
      entry = an_entry (record { offset = refl; kind = refl; addend = refl; symbol = subst (λ o. IsNumbered text (symbol_names text symbols) o None) (sym is) tt }) no_entries;
    }
    by (Some word) is =
        let there = interned_told text names told symbols word are in
        let after = interned text symbols word in
        record {
          told = subst (λ o. AreTold text (names ++ word_names text o) told after.0) (sym is) there.told;
          entry =
              an_entry (record {
                offset = refl;
                kind = refl;
                addend = refl;
                symbol =
                    subst (λ o. IsNumbered text (symbol_names text after.0) o (Some after.1)) (sym is)
                    (omega (arith, there.inside, length-map after.0 (symbol_name text)), get_or-map (symbol_name text) after.0 after.1 no_symbol [] there.inside ∙ there.named);
              }) no_entries;
        }

-- the entries of all sections
abbrev pub HaveEntries : List ℕ → List Said → List (List ℕ) → List AsmSection → Type 0
HaveEntries text said names sections = (j : ℕ) → j < length sections → AreEntriesOf text names (relocations 0 (lines_in text (name_of text sections j) None said)) (section_at sections j).entries

-- a line without relocations, wherever it goes
idle_relocations : (text name : List ℕ) (said : List Said) (l : Said) → ((place : ℕ) → relocations_of place l.saying ≡ []) → relocations 0 (lines_in text name None (said ++ l ∷ [])) ≡ relocations 0 (lines_in text name None said)
idle_relocations text name said l none = ap (relocations 0) (lines_push text name None said l) ∙ by (is_here name (behind_lines text None said))
  where
    by : (b : Bool) → relocations 0 (lines_in text name None said ++ (if b then l ∷ [] else [])) ≡ relocations 0 (lines_in text name None said)
    by true =
        let lines = lines_in text name None said in
        relocations_push 0 lines l ∙ ap (λ ps. relocations 0 lines ++ ps) (none (0 + length (contents 0 lines))) ∙ append-nil (relocations 0 lines)
    by false = ap (relocations 0) (append-nil (lines_in text name None said))

pub idle_entries : (text : List ℕ) (said : List Said) (l : Said) (names more : List (List ℕ)) (sections : List AsmSection) → ((place : ℕ) → relocations_of place l.saying ≡ []) → HaveEntries text said names sections → HaveEntries text (said ++ l ∷ []) (names ++ more) sections
idle_entries text said l names more sections none have j inside =
    let name = name_of text sections j in
    subst (λ ps. AreEntriesOf text (names ++ more) ps (section_at sections j).entries) (sym (idle_relocations text name said l none))
    (entries_more text names more (relocations 0 (lines_in text name None said)) (section_at sections j).entries (have j inside))

-- a section more
pub added_entries : (text : List ℕ) (said : List Said) (l : Said) (names : List (List ℕ)) (sections : List AsmSection) (p : AsmSection) → ((place : ℕ) → relocations_of place l.saying ≡ []) → relocations 0 (lines_in text (section_name text p) None said) ≡ [] → p.entries ≡ [] → HaveEntries text said names sections → HaveEntries text (said ++ l ∷ []) names (sections ++ p ∷ [])
added_entries text said l names sections p none bare empty have j inside = by (which sections p j inside)
  where
    by : (j < length sections) ⊎ (j ≡ length sections) → AreEntriesOf text names (relocations 0 (lines_in text (name_of text (sections ++ p ∷ []) j) None (said ++ l ∷ []))) (section_at (sections ++ p ∷ []) j).entries
    by (inl below) =
        subst (λ (q : AsmSection). AreEntriesOf text names (relocations 0 (lines_in text (section_name text q) None (said ++ l ∷ []))) q.entries) (sym (get_or_append_left sections (p ∷ []) no_section j below))
        (subst (λ ps. AreEntriesOf text names ps (section_at sections j).entries) (sym (idle_relocations text (name_of text sections j) said l none)) (have j below))
    by (inr last) =
        let put : section_at (sections ++ p ∷ []) j ≡ p = ap (section_at (sections ++ p ∷ [])) last ∙ get_or_push sections p no_section (length sections) refl in
        subst (λ (q : AsmSection). AreEntriesOf text names (relocations 0 (lines_in text (section_name text q) None (said ++ l ∷ []))) q.entries) (sym put)
        (subst (λ ps. AreEntriesOf text names ps p.entries) (sym (idle_relocations text (section_name text p) said l none ∙ bare))
        (subst (AreEntriesOf text names []) (sym empty) no_entries))

-- the section that lines go to has grown by a line
pub grown_entries : (text : List ℕ) (said : List Said) (l : Said) (names more : List (List ℕ)) (sections : List AsmSection) (i : ℕ) (q : AsmSection) (added : List RelocEntry) → IsMeant text said sections (Some i) → section_name text q ≡ name_of text sections i → q.entries ≡ (section_at sections i).entries ++ added → AreEntriesOf text (names ++ more) (relocations_of (section_at sections i).size l.saying) added → HaveEntries text said names sections → HaveEntries text (said ++ l ∷ []) (names ++ more) (slice_set sections i q)
grown_entries text said l names more sections i q added meant same grown are have j inside =
    by (omega (arith, inside, length-set sections i q)) (cases_eq j i)
  where
    yes : is_here (name_of text sections i) (behind_lines text None said) ≡ true
    yes = here_name text said sections i meant

    by : j < length sections → (j ≡ i) ⊎ (j ≡ i → ⊥) → AreEntriesOf text (names ++ more) (relocations 0 (lines_in text (name_of text (slice_set sections i q) j) None (said ++ l ∷ []))) (section_at (slice_set sections i q) j).entries
    by within (inl is) =
        let at = there text sections i (behind_lines text None said) meant.here in
        let p = section_at sections i in
        let name = name_of text sections i in
        let lines = lines_in text name None said in
        let put : section_at (slice_set sections i q) j ≡ q = ap (section_at (slice_set sections i q)) is ∙ get_or-set_same sections i q no_section at.inside in
        let size : p.size ≡ 0 + length (contents 0 lines) = omega (arith, (meant.each i at.inside).is.size) in
        let placed : relocations 0 (lines_in text name None (said ++ l ∷ [])) ≡ relocations 0 lines ++ relocations_of p.size l.saying =
        ap (relocations 0) (here_lines text name said l yes) ∙ relocations_push 0 lines l ∙ ap (λ n. relocations 0 lines ++ relocations_of n l.saying) (sym size) in
        subst (λ (r : AsmSection). AreEntriesOf text (names ++ more) (relocations 0 (lines_in text (section_name text r) None (said ++ l ∷ []))) r.entries) (sym put)
        (subst (λ n. AreEntriesOf text (names ++ more) (relocations 0 (lines_in text n None (said ++ l ∷ []))) q.entries) (sym same)
        (subst (λ es. AreEntriesOf text (names ++ more) (relocations 0 (lines_in text name None (said ++ l ∷ []))) es) (sym grown)
        (subst (λ ps. AreEntriesOf text (names ++ more) ps (p.entries ++ added)) (sym placed)
        (entries_then text (names ++ more) (relocations 0 lines) (relocations_of p.size l.saying) p.entries added
        (entries_more text names more (relocations 0 lines) p.entries (have i at.inside)) are))))
    by within (inr other) =
        let name = name_of text sections j in
        subst (λ (r : AsmSection). AreEntriesOf text (names ++ more) (relocations 0 (lines_in text (section_name text r) None (said ++ l ∷ []))) r.entries) (sym (get_or-set_other sections i j q no_section other))
        (subst (λ lines. AreEntriesOf text (names ++ more) (relocations 0 lines) (section_at sections j).entries) (sym (not_here text name said l (other_name text said sections i j within other meant)))
        (entries_more text names more (relocations 0 (lines_in text name None said)) (section_at sections j).entries (have j within)))
