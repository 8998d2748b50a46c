use Rattle.std.proofs.Common.{◌≡◌, ℕ, ◌+◌, ◌==◌, Bool, true, false, cond, List, [], ◌∷◌, Option, None, refl}
use Rattle.c6x_elf_headers.specs.Rules.{Refusal, ◌<|>◌, first_along, must}
use Rattle.c6x_elf_headers.specs.declared.elf_rule.ElfRule.{ElfRule}
use Rattle.c6x_elf_headers.specs.declared.elf_rule.ElfRule.TheVariants.{EntrySize, Index, NoNul}
use Rattle.c6x_elf_headers.specs.declared.section_head.SectionHead.{SectionHead}
use Rattle.c6x_elf.specs.Entries.{entries_refusal, name_refusal, named_refusal, own_name_refusal, rela_refusal, relas_refusal, symbol_refusal, symbols_refusal, text_of}
use Rattle.c6x_elf.specs.Parts.{fields_refusal, has_entries, has_target, is_linked, is_relocation_table, is_symbol_table}
use Rattle.c6x_elf.specs.declared.section.Section.{Section}
use Rattle.c6x_elf.proofs.Placed.{none_first, none_later}

-- a header at another place and offset
abbrev pub moved : SectionHead → ℕ → ℕ → SectionHead
moved head at offset = record head { at = at; offset = offset }

-- two rules that are kept
pub both_none : (a b : Option Refusal) → a ≡ None → b ≡ None → (a <|> b) ≡ None
both_none a b first later = rw first later

-- whether a rule is kept does not depend on its place
pub must_moves : (holds : Bool) (rule : ElfRule) (p q : ℕ) → must holds rule p ≡ None → must holds rule q ≡ None
unfolding must
must_moves true rule p q kept = refl
must_moves false rule p q kept = cc

name_moves : (table : List ℕ) (name p q : ℕ) → name_refusal table name p ≡ None → name_refusal table name q ≡ None
unfolding name_refusal
name_moves table name p q kept =
    both_none (must _ Index q) (must _ NoNul q)
    (must_moves _ Index p q (none_first (must _ Index p) (must _ NoNul p) kept))
    (must_moves _ NoNul p q (none_later (must _ Index p) (must _ NoNul p) kept))

first_moves : (f g : ℕ → Option Refusal) (ks : List ℕ) → ((k : ℕ) → f k ≡ None → g k ≡ None) → first_along f ks ≡ None → first_along g ks ≡ None
first_moves f g [] moves kept = refl
first_moves f g (k ∷ ks) moves kept =
    both_none (g k) (first_along g ks) (moves k (none_first (f k) (first_along f ks) kept))
    (first_moves f g ks moves (none_later (f k) (first_along f ks) kept))

symbol_moves : (big : Bool) (all : List Section) (head : SectionHead) (table : List ℕ) (at offset k : ℕ) → symbol_refusal big all head table k ≡ None → symbol_refusal big all (moved head at offset) table k ≡ None
unfolding symbol_refusal
symbol_moves big all head table at offset k kept =
    both_none (name_refusal (text_of all head.link) _ _) (must _ Index _)
    (name_moves (text_of all head.link) _ _ _ (none_first (name_refusal (text_of all head.link) _ _) (must _ Index _) kept))
    (must_moves _ Index _ _ (none_later (name_refusal (text_of all head.link) _ _) (must _ Index _) kept))

rela_moves : (big : Bool) (all : List Section) (head : SectionHead) (table : List ℕ) (at offset k : ℕ) → rela_refusal big all head table k ≡ None → rela_refusal big all (moved head at offset) table k ≡ None
unfolding rela_refusal
rela_moves big all head table at offset k kept = must_moves _ Index _ _ kept

symbols_move : (big : Bool) (all : List Section) (head : SectionHead) (table : List ℕ) (at offset : ℕ) → symbols_refusal big all head table ≡ None → symbols_refusal big all (moved head at offset) table ≡ None
unfolding symbols_refusal
symbols_move big all head table at offset kept =
    first_moves (symbol_refusal big all head table) (symbol_refusal big all (moved head at offset) table) _
    (symbol_moves big all head table at offset) kept

relas_move : (big : Bool) (all : List Section) (head : SectionHead) (table : List ℕ) (at offset : ℕ) → relas_refusal big all head table ≡ None → relas_refusal big all (moved head at offset) table ≡ None
unfolding relas_refusal
relas_move big all head table at offset kept =
    first_moves (rela_refusal big all head table) (rela_refusal big all (moved head at offset) table) _
    (rela_moves big all head table at offset) kept

if_moves : (t : Bool) (a b c d : Option Refusal) → (a ≡ None → b ≡ None) → (c ≡ None → d ≡ None) → cond t a c ≡ None → cond t b d ≡ None
if_moves true a b c d left right kept = left kept
if_moves false a b c d left right kept = right kept

entries_move : (big : Bool) (all : List Section) (head : SectionHead) (table : List ℕ) (at offset : ℕ) → entries_refusal big all head table ≡ None → entries_refusal big all (moved head at offset) table ≡ None
unfolding entries_refusal
entries_move big all head table at offset kept =
    if_moves (is_symbol_table head.kind) _ _ _ _ (symbols_move big all head table at offset)
    (if_moves (is_relocation_table head.kind) _ _ None None (relas_move big all head table at offset) (λ none. none)) kept

own_moves : (names : ℕ) (all : List Section) (head : SectionHead) (at offset : ℕ) → own_name_refusal names all head ≡ None → own_name_refusal names all (moved head at offset) ≡ None
unfolding own_name_refusal
own_moves names all head at offset kept =
    if_moves (names == 0) None None _ _ (λ none. none) (name_moves (text_of all names) head.name head.at at) kept

pub named_moves : (big : Bool) (names : ℕ) (all : List Section) (head : SectionHead) (section : Section) (at offset : ℕ) → named_refusal big names all head section ≡ None → named_refusal big names all (moved head at offset) section ≡ None
unfolding named_refusal
named_moves big names all head section at offset kept =
    both_none (own_name_refusal names all (moved head at offset)) (entries_refusal big all (moved head at offset) section.bytes)
    (own_moves names all head at offset
    (none_first (own_name_refusal names all head) (entries_refusal big all head section.bytes) kept))
    (entries_move big all head section.bytes at offset
    (none_later (own_name_refusal names all head) (entries_refusal big all head section.bytes) kept))

pub fields_move : (count : ℕ) (head : SectionHead) (at offset : ℕ) → fields_refusal count head ≡ None → fields_refusal count (moved head at offset) ≡ None
unfolding fields_refusal
fields_move count head at offset kept =
    let linked = must (is_linked count head.kind head.link) Index (head.at + 24) in
    let target = must (has_target count head.kind head.info) Index (head.at + 28) in
    let entries = must (has_entries head.kind head.size head.entsize) EntrySize (head.at + 36) in
    let later : (target <|> entries) ≡ None = none_later linked (target <|> entries) kept in
    both_none (must (is_linked count head.kind head.link) Index (at + 24)) _
    (must_moves _ Index _ _ (none_first linked (target <|> entries) kept))
    (both_none (must (has_target count head.kind head.info) Index (at + 28)) (must (has_entries head.kind head.size head.entsize) EntrySize (at + 36))
    (must_moves _ Index _ _ (none_first target entries later))
    (must_moves _ EntrySize _ _ (none_later target entries later)))
