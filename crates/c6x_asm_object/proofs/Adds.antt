-- Sections behind sections.
use Rattle.std.proofs.Common.{◌≡◌, ℕ, suc, ◌+◌, ◌<◌, ◌≤◌, Bool, true, false, List, [], ◌∷◌, ◌++◌, length, drop, get_or, map, ap, sym, ◌∙◌, refl, arith, append_assoc, append-nil, length-append}
use Rattle.std.proofs.lemmas.List.{drop_more, drop_all}
use Rattle.c6x_elf.specs.Names.{name_row}
use Rattle.c6x_elf.specs.declared.section.Section.{Section}
use Rattle.c6x_asm_object.specs.declared.asm_section.AsmSection.{AsmSection}
use Rattle.c6x_asm_object.specs.declared.symbol.Symbol.{Symbol}
use Rattle.c6x_asm_object.specs.FormSymbols.{symbol_numbers}
use Rattle.c6x_asm_object.specs.Filing.{Named, names_of, sections_from, sections_of, named_section, named_relas, named_symtab, named_strtab, named_shstrtab, named_sections, has_entries, symtab_of}
use Rattle.c6x_asm_object.specs.Built.{Built, built}
use Rattle.c6x_asm_object.specs.Adding.{first_built, named, added, with_names}

pub names_append : (a b : List Named) → names_of (a ++ b) ≡ names_of a ++ names_of b
names_append [] b = refl
names_append (n ∷ a) b =
    ap (λ names. n.name ++ (0 ∷ names)) (names_append a b) ∙ sym (append_assoc n.name (0 ∷ names_of a) (names_of b))

pub sections_append : (at : ℕ) (a b : List Named) → sections_from at (a ++ b) ≡ sections_from at a ++ sections_from (at + length (names_of a)) b
sections_append at [] b = let e : at + 0 ≡ at = omega arith in rw e refl
sections_append at (n ∷ a) b =
    let place : at + (length n.name + 1) + length (names_of a) ≡ at + length (names_of (n ∷ a)) = grind (arith, length-append {A = ℕ}) in
    let more = sections_append (at + (length n.name + 1)) a b in
    rw (more, place) refl

pub added_append : (a b : List Named) (x : Built) → added (a ++ b) x ≡ added b (added a x)
unfolding added
added_append a b x =
    let s = sections_append (length x.names) a b in
    let n = names_append a b in
    let l : length (x.names ++ names_of a) ≡ length x.names + length (names_of a) = length-append x.names (names_of a) in
    rw (s, n, l, append_assoc x.sections (sections_from (length x.names) a) (sections_from (length x.names + length (names_of a)) b), append_assoc x.names (names_of a) (names_of b)) refl

pub added_none : (x : Built) → added [] x ≡ x
unfolding added
added_none x = rw (append-nil x.sections, append-nil x.names) refl

-- one section, whose name has two parts
pub added_one : (front name : List ℕ) (section : Section) (x : Built) → added (named front name section ∷ []) x ≡ built (x.sections ++ (record section { name = length x.names }) ∷ []) (x.names ++ name_row (front ++ name))
unfolding added
added_one front name section x = refl

pub added_at : (text : List ℕ) (sections : List AsmSection) (i : ℕ) (d : AsmSection) (x : Built) → i < length sections → added (map (named_section text) (drop i sections)) x ≡ added (map (named_section text) (drop (i + 1) sections)) (added (named_section text (get_or sections i d) ∷ []) x)
added_at text sections i d x inside =
    ap (λ more. added (map (named_section text) more) x) (drop_more sections i d inside)
    ∙ added_append (named_section text (get_or sections i d) ∷ []) (map (named_section text) (drop (i + 1) sections)) x

pub added_end : (text : List ℕ) (sections : List AsmSection) (i : ℕ) (x : Built) → length sections ≤ i → added (map (named_section text) (drop i sections)) x ≡ x
added_end text sections i x past = ap (λ more. added (map (named_section text) more) x) (drop_all i sections past) ∙ added_none x

pub relas_cons : (text numbers : List ℕ) (symtab number : ℕ) (p : AsmSection) (sections : List AsmSection) → named_relas text numbers symtab number (p ∷ sections) ≡ named_relas text numbers symtab number (p ∷ []) ++ named_relas text numbers symtab (number + 1) sections
relas_cons text numbers symtab number p sections = either (has_entries p) refl
  where
    either : (b : Bool) → has_entries p ≡ b → named_relas text numbers symtab number (p ∷ sections) ≡ named_relas text numbers symtab number (p ∷ []) ++ named_relas text numbers symtab (number + 1) sections
    either true is = rw is refl
    either false is = rw is refl

pub relas_at : (text numbers : List ℕ) (symtab number : ℕ) (sections : List AsmSection) (i : ℕ) (d : AsmSection) (x : Built) → i < length sections → added (named_relas text numbers symtab number (drop i sections)) x ≡ added (named_relas text numbers symtab (number + 1) (drop (i + 1) sections)) (added (named_relas text numbers symtab number (get_or sections i d ∷ [])) x)
relas_at text numbers symtab number sections i d x inside =
    ap (λ more. added (named_relas text numbers symtab number more) x) (drop_more sections i d inside)
    ∙ ap (λ more. added more x) (relas_cons text numbers symtab number (get_or sections i d) (drop (i + 1) sections))
    ∙ added_append (named_relas text numbers symtab number (get_or sections i d ∷ [])) (named_relas text numbers symtab (number + 1) (drop (i + 1) sections)) x

pub relas_end : (text numbers : List ℕ) (symtab number : ℕ) (sections : List AsmSection) (i : ℕ) (x : Built) → length sections ≤ i → added (named_relas text numbers symtab number (drop i sections)) x ≡ x
relas_end text numbers symtab number sections i x past =
    ap (λ more. added (named_relas text numbers symtab number more) x) (drop_all i sections past) ∙ added_none x

-- all sections, one group behind the other
pub added_all : (text : List ℕ) (sections : List AsmSection) (symbols : List Symbol) (x : Built) → added (named_sections text sections symbols) x ≡ added (named_strtab text symbols ∷ []) (added (named_symtab text sections symbols ∷ []) (added (named_relas text (symbol_numbers (length sections) symbols) (symtab_of sections) 1 sections) (added (map (named_section text) sections) x)))
unfolding named_sections
added_all text sections symbols x =
    let a = map (named_section text) sections in
    let b = named_relas text (symbol_numbers (length sections) symbols) (symtab_of sections) 1 sections in
    let c = named_symtab text sections symbols in
    let d = named_strtab text symbols in
    added_append a (b ++ (c ∷ d ∷ [])) x
    ∙ added_append b (c ∷ d ∷ []) (added a x)
    ∙ added_append (c ∷ []) (d ∷ []) (added b (added a x))

-- the names of the sections as the last section
pub sections_made : (more : List Named) → with_names (added more first_built) ≡ sections_of more
unfolding with_names added first_built sections_of named_shstrtab
sections_made more =
    let e : 1 + length (names_of more) ≡ suc (length (names_of more)) = omega arith in
    rw (sections_append 1 more (named_shstrtab more ∷ []), e) refl
