-- What is true of the sections and symbols of a text that breaks no rule.
use Rattle.std.proofs.Common.{◌≡◌, ℕ, ◌+◌, Bool, true, false, cond, List, [], ◌∷◌, Option, Some, None, Result, Ok, Err, refl, ◌∙◌, ap, subst}
use Rattle.c6x_lex.specs.declared.token.Token.{Token}
use Rattle.c6x_lex.specs.Tokens.{Position, tokens_of}
use Rattle.c6x_asm_lines.specs.declared.lexeme.Lexeme.{Lexeme}
use Rattle.c6x_asm_lines.specs.declared.line.Line.{Line}
use Rattle.c6x_asm_lines.specs.Grammar.{line_of}
use Rattle.c6x_asm_lines.specs.declared.rule.AsmRule.{AsmRule}
use Rattle.c6x_elf.specs.EntryRows.{symbol_row}
use Rattle.c6x_elf.specs.Names.{name_table}
use Rattle.c6x_elf.specs.Parts.{has_bytes}
use Rattle.c6x_elf.specs.Rows.{half_bytes, word_bytes}
use Rattle.c6x_elf.specs.Writing.{offset_end, written_size}
use Rattle.c6x_asm_object.specs.Filing.{file_of, named_sections, named_shstrtab, named_strtab, named_symtab, sections_of}
use Rattle.c6x_asm_object.specs.Headers.{null_section, table_section}
use Rattle.c6x_asm_object.specs.Limits.{is_large, is_long, passes_limit}
use Rattle.c6x_asm_object.specs.FormSymbols.{entries, names_table, ordered, symbol_numbers, symbol_table}
use Rattle.c6x_asm.specs.States.{State}
use Rattle.c6x_asm.specs.Keeping.{IsStateSound}
use Rattle.c6x_asm.proofs.Steps.{stepped_sound}
use Rattle.c6x_asm.proofs.Runs.{sound_begins}
use Rattle.c6x_asm.specs.declared.broken.Broken.{Broken}
use Rattle.c6x_asm.specs.Lines.{after_lines, counted, lined, lines_of, or_broken, read_line, sized}
use Rattle.c6x_asm.specs.Reading.{bad_line, before, ended, nothing, or_packet, read_lines, read_of, read_tokens, stopped}
use Rattle.c6x_asm.specs.Kept.{IsKept}

-- a result that some test lets through
passed : {T E : Type 0} (b : Bool) (e : E) (x y : T) → cond b (Err e) (Ok x) ≡ Ok y → (b ≡ false) × (x ≡ y)
passed true e x y is = absurd (cc)
passed false e x y is = (refl, cc)

pub counted_same : (line : ℕ) (r : Result State AsmRule) (t : State) → counted line r ≡ Ok t → r ≡ Ok t
counted_same line (Ok s) t is = ap Ok (passed _ _ s t is).1
counted_same line (Err rule) t is = absurd (cc)

pub sized_same : (text : List ℕ) (r : Result State AsmRule) (t : State) → sized text r ≡ Ok t → r ≡ Ok t
sized_same text (Ok s) t is = ap Ok (passed _ _ s t is).1
sized_same text (Err rule) t is = absurd (cc)

pub sized_small : (text : List ℕ) (r : Result State AsmRule) (t : State) → sized text r ≡ Ok t → is_large text t.sections t.symbols ≡ false
sized_small text (Ok s) t is = let p = passed _ _ s t is in subst (λ u. is_large text u.sections u.symbols ≡ false) p.1 p.0
sized_small text (Err rule) t is = absurd (cc)

read_sound : (text : List ℕ) (number : ℕ) (line : Option Line) (s t : State) → IsStateSound s → read_line text number line s ≡ Ok t → IsStateSound t
read_sound text number None s t sound is = absurd (cc)
read_sound text number (Some l) s t sound is = stepped_sound text number l s t sound is

lined_kept : (text : List ℕ) (number : ℕ) (lexemes : List Lexeme) (s t : State) → IsStateSound s → lined text number lexemes s ≡ Ok t → IsKept text t
unfolding lined
lined_kept text number lexemes s t sound is =
    let read = read_line text number (line_of lexemes) s in
    let here = counted_same number (sized text read) t is in
    record { sound = read_sound text number (line_of lexemes) s t sound (sized_same text read t here); small = sized_small text read t here }

same_state : (r : Result State Broken) (u t : State) → r ≡ Ok u → r ≡ Ok t → u ≡ t
same_state r u t first second = cc

-- no sections and no symbols
nothing_small : (text : List ℕ) → is_large text [] [] ≡ false
unfolding is_large passes_limit is_long file_of sections_of named_sections named_symtab named_strtab named_shstrtab null_section table_section symbol_table entries symbol_row word_bytes half_bytes names_table name_table symbol_numbers ordered written_size offset_end has_bytes
nothing_small text = refl

nothing_kept : (text : List ℕ) → IsKept text nothing
nothing_kept text = record { sound = sound_begins; small = nothing_small text }

after_kept : (text : List ℕ) (lines : List (List Lexeme)) (number : ℕ) (s t : State) → IsKept text s → after_lines text number s lines ≡ Ok t → IsKept text t
after_kept text [] number s t kept is = subst (IsKept text) (same_state (Ok s) s t refl is) kept
after_kept text (line ∷ lines) number s t kept is = by (lined text number line s) refl is (λ u. after_kept text lines (number + 1) u t)
  where
    by : (r : Result State AsmRule) → lined text number line s ≡ r → or_broken number r (λ u. after_lines text (number + 1) u lines) ≡ Ok t → ((u : State) → IsKept text u → after_lines text (number + 1) u lines ≡ Ok t → IsKept text t) → IsKept text t
    by (Ok u) here rest later = later u (lined_kept text number line s u kept.sound here) rest
    by (Err rule) here rest later = absurd (cc)

-- a text whose lines and packets break no rule is what its lines come to
pub lines_after : (text : List ℕ) (lines : List (List Lexeme)) (t : State) → read_lines text lines ≡ Ok t → after_lines text 1 nothing lines ≡ Ok t
unfolding read_lines
lines_after text lines t is = by (after_lines text 1 nothing lines) refl is
  where
    packets : (line : Option ℕ) (u : State) → or_packet line (Ok u) ≡ Ok t → u ≡ t
    packets None u here = cc
    packets (Some n) u here = absurd (cc)

    behind : (line : Option ℕ) (e : Broken) → or_packet line (Err e) ≡ Ok t → ⊥
    behind None e here = cc
    behind (Some n) e here = cc

    never : (broken : Broken) (r : Result State Broken) → stopped broken r ≡ Ok t → ⊥
    never broken (Ok u) here = behind (bad_line None u.sections) broken here
    never broken (Err other) here = cc

    by : (r : Result State Broken) → after_lines text 1 nothing lines ≡ r → ended text lines r ≡ Ok t → after_lines text 1 nothing lines ≡ Ok t
    by (Ok u) ran here = ran ∙ ap Ok (packets (bad_line None u.sections) u here)
    by (Err broken) ran here = absurd (never broken (after_lines text 1 nothing (before broken.line lines)) here)

lines_kept : (text : List ℕ) (lines : List (List Lexeme)) (t : State) → read_lines text lines ≡ Ok t → IsKept text t
lines_kept text lines t is = after_kept text lines 1 nothing t (nothing_kept text) (lines_after text lines t is)

-- the sections and symbols of an accepted text are sound and pass no limit
pub read_kept : (text : List ℕ) (t : State) → read_of text ≡ Ok t → IsKept text t
unfolding read_of
read_kept text t is = by (tokens_of text) is
  where
    by : (r : Result (List Token) Position) → read_tokens text r ≡ Ok t → IsKept text t
    by (Ok tokens) here = lines_kept text (lines_of text tokens) t here
    by (Err definition) here = absurd (cc)
