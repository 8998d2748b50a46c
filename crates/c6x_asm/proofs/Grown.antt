-- A section with one more of its lines.
use Rattle.std.proofs.Common.{◌≡◌, ℕ, ◌+◌, ◌-◌, max, Bool, true, false, List, [], ◌∷◌, ◌++◌, length, take, replicate, Option, Some, None, refl, sym, ◌∙◌, ap, arith, append_assoc, append-nil}
use Rattle.std.specs.Prelude.{if◌then◌else◌, slice_index, slice_set}
use Rattle.std.specs.Int.{to_le_bytes, w32}
use Rattle.std.proofs.lemmas.List.{length-append, length-replicate, length-set}
use Rattle.c6x_asm_lines.specs.declared.word.Word.{Word}
use Rattle.c6x_asm_lines.specs.declared.relocatable.Field.{Field}
use Rattle.c6x_asm_lines.specs.declared.relocation.Relocation.{Relocation}
use Rattle.c6x_asm_instr.specs.declared.directive.Directive.{Directive}
use Rattle.c6x_asm_instr.specs.declared.directive.Directive.TheVariants.{Numbers, Space, Align}
use Rattle.c6x_asm_object.specs.declared.reloc_entry.RelocEntry.{RelocEntry}
use Rattle.c6x_asm_object.specs.declared.asm_section.AsmSection.{AsmSection}
use Rattle.c6x_asm_object.specs.declared.instr_word.InstrWord.{InstrWord}
use Rattle.c6x_asm_object.specs.Kinds.{first_align, kind_named}
use Rattle.c6x_asm_object.specs.Sections.{is_zero, odd, padding, with_align, with_bytes, with_instruction, with_number, with_parallel, with_zeros}
use Rattle.c6x_asm.specs.Said.{Saying, says_directive, says_instruction, Said}
use Rattle.c6x_asm.specs.Sections.{IsSectionOf, aligned, chained_or, contents, contribution, end_at, last_end, later_or, number_bytes, raised, word_said, words_in}
use Rattle.c6x_asm.proofs.Contents.{contents_joined, contents_plain, last_push}

-- a section as the lines so far make it: what it is, where its last instruction ends, and its instructions
pub record IsSectionState (name : List ℕ) (lines : List Said) (p : AsmSection) : Type 0 where
  pub is : IsSectionOf name lines p
  pub last : p.last ≡ last_end 0 lines
  pub instructions : p.instructions ≡ words_in lines

aligned_push : (align : ℕ) (lines : List Said) (l : Said) → aligned align (lines ++ l ∷ []) ≡ raised (aligned align lines) l.saying
aligned_push align [] l = refl
aligned_push align (x ∷ lines) l = aligned_push (raised align x.saying) lines l

pub words_push : (lines : List Said) (l : Said) → words_in (lines ++ l ∷ []) ≡ words_in lines ++ word_said l.number l.saying
words_push [] l = append-nil (word_said l.number l.saying)
words_push (x ∷ lines) l = ap (λ ws. word_said x.number x.saying ++ ws) (words_push lines l) ∙ sym (append_assoc (word_said x.number x.saying) (words_in lines) (word_said l.number l.saying))

abbrev pub directing : ℕ → Option Word → Directive → Said
directing number label directive = record { number = number; label = label; saying = says_directive directive }

-- a line that puts nothing
pub record IsIdle (s : Saying) : Type 0 where
  pub puts : (place : ℕ) → contribution place false s ≡ []
  pub plain : chained_or s false ≡ false
  pub align : (align : ℕ) → raised align s ≡ align
  pub ends : (place : ℕ) → end_at place s ≡ None
  pub words : (number : ℕ) → word_said number s ≡ []

pub idle_state : (name : List ℕ) (lines : List Said) (l : Said) (p : AsmSection) → IsIdle l.saying → IsSectionState name lines p → IsSectionState name (lines ++ l ∷ []) p
idle_state name lines l p idle state =
    let place = 0 + length (contents 0 lines) in
    let same : contents 0 (lines ++ l ∷ []) ≡ contents 0 lines = contents_plain 0 lines l idle.plain ∙ ap (λ bytes. contents 0 lines ++ bytes) (idle.puts place) ∙ append-nil (contents 0 lines) in
    record {
      is = record {
        kind = state.is.kind;
        align = state.is.align ∙ sym (aligned_push (first_align (kind_named name)) lines l ∙ idle.align (aligned (first_align (kind_named name)) lines));
        size = state.is.size ∙ sym (ap length same);
        bytes = state.is.bytes ∙ sym (ap (λ bytes. if is_zero (kind_named name) then [] else bytes) same);
      };
      last = state.last ∙ sym (last_push 0 lines l ∙ ap (λ o. later_or o (last_end 0 lines)) (idle.ends place));
      instructions = state.instructions ∙ sym (words_push lines l ∙ ap (λ ws. words_in lines ++ ws) (idle.words l.number) ∙ append-nil (words_in lines));
    }

-- a section with bytes behind its own
pub record IsGrown (p : AsmSection) (put : List ℕ) (q : AsmSection) : Type 0 where
  pub at : q.at ≡ p.at
  pub len : q.len ≡ p.len
  pub kind : q.kind ≡ p.kind
  pub align : q.align ≡ p.align
  pub size : q.size ≡ p.size + length put
  pub bytes : q.bytes ≡ p.bytes ++ put
  pub last : q.last ≡ p.last
  pub instructions : q.instructions ≡ p.instructions

pub number_grown : (size bits : ℕ) (entry : Option RelocEntry) (p : AsmSection) → IsGrown p (take size (to_le_bytes w32 bits)) (with_number size bits entry p)
unfolding with_number with_bytes
number_grown size bits None p = record { at = refl; len = refl; kind = refl; align = refl; size = refl; bytes = refl; last = refl; instructions = refl }
number_grown size bits (Some entry) p = record { at = refl; len = refl; kind = refl; align = refl; size = refl; bytes = refl; last = refl; instructions = refl }

pub nothing_grown : (p : AsmSection) → IsGrown p [] p
nothing_grown p = record { at = refl; len = refl; kind = refl; align = refl; size = omega arith; bytes = sym (append-nil p.bytes); last = refl; instructions = refl }

pub grown_twice : (p q r : AsmSection) (a b : List ℕ) → IsGrown p a q → IsGrown q b r → IsGrown p (a ++ b) r
grown_twice p q r a b first next = record {
  at = next.at ∙ first.at;
  len = next.len ∙ first.len;
  kind = next.kind ∙ first.kind;
  align = next.align ∙ first.align;
  size = omega (arith, next.size, first.size, length-append a b);
  bytes = next.bytes ∙ ap (λ bytes. bytes ++ b) first.bytes ∙ append_assoc p.bytes a b;
  last = next.last ∙ first.last;
  instructions = next.instructions ∙ first.instructions;
}

second_of_two : (test : Bool) (xs ys : List ℕ) → test ≡ false → (if test then xs else ys) ≡ ys
second_of_two true xs ys is = absurd (cc)
second_of_two false xs ys is = refl

-- numbers
pub numbers_state : (name : List ℕ) (lines : List Said) (number : ℕ) (label : Option Word) (size : ℕ) (fields : List Field) (p q : AsmSection) → is_zero p.kind ≡ false → IsSectionState name lines p → IsGrown p (number_bytes size fields) q → IsSectionState name (lines ++ directing number label (Numbers size fields) ∷ []) q
numbers_state name lines number label size fields p q some state grown =
    let l = directing number label (Numbers size fields) in
    let put = number_bytes size fields in
    let more : contents 0 (lines ++ l ∷ []) ≡ contents 0 lines ++ put = contents_plain 0 lines l refl in
    let full : is_zero (kind_named name) ≡ false = ap is_zero (sym state.is.kind) ∙ some in
    record {
      is = record {
        kind = grown.kind ∙ state.is.kind;
        align = grown.align ∙ state.is.align ∙ sym (aligned_push (first_align (kind_named name)) lines l);
        size = grown.size ∙ ap (λ n. n + length put) state.is.size ∙ sym (length-append (contents 0 lines) put) ∙ sym (ap length more);
        bytes =
            grown.bytes
            ∙ ap (λ bytes. bytes ++ put) (state.is.bytes ∙ second_of_two (is_zero (kind_named name)) [] (contents 0 lines) full)
            ∙ sym more
            ∙ sym (second_of_two (is_zero (kind_named name)) [] (contents 0 (lines ++ l ∷ [])) full);
      };
      last = grown.last ∙ state.last ∙ sym (last_push 0 lines l);
      instructions = grown.instructions ∙ state.instructions ∙ sym (words_push lines l ∙ append-nil (words_in lines));
    }

zeros_bytes : (test : Bool) (bytes all put : List ℕ) → bytes ≡ (if test then [] else all) → (if test then bytes else bytes ++ put) ≡ (if test then [] else all ++ put)
zeros_bytes true bytes all put is = is
zeros_bytes false bytes all put is = ap (λ xs. xs ++ put) is

-- zeros
pub space_state : (name : List ℕ) (lines : List Said) (number : ℕ) (label : Option Word) (count : ℕ) (p : AsmSection) → IsSectionState name lines p → IsSectionState name (lines ++ directing number label (Space count) ∷ []) (with_zeros count p)
unfolding with_zeros
space_state name lines number label count p state =
    let l = directing number label (Space count) in
    let put = replicate count 0 in
    let more : contents 0 (lines ++ l ∷ []) ≡ contents 0 lines ++ put = contents_plain 0 lines l refl in
    record {
      is = record {
        kind = state.is.kind;
        align = state.is.align ∙ sym (aligned_push (first_align (kind_named name)) lines l);
        size = ap (λ n. n + count) state.is.size ∙ sym (ap length more ∙ length-append (contents 0 lines) put ∙ ap (λ n. length (contents 0 lines) + n) (length-replicate {A = ℕ} count 0));
        bytes =
            ap (λ k. if is_zero k then p.bytes else p.bytes ++ put) state.is.kind
            ∙ zeros_bytes (is_zero (kind_named name)) p.bytes (contents 0 lines) put state.is.bytes
            ∙ sym (ap (λ bytes. if is_zero (kind_named name) then [] else bytes) more);
      };
      last = state.last ∙ sym (last_push 0 lines l);
      instructions = state.instructions ∙ sym (words_push lines l ∙ append-nil (words_in lines));
    }

-- zeros up to a multiple
pub align_state : (name : List ℕ) (lines : List Said) (number : ℕ) (label : Option Word) (align : ℕ) (p : AsmSection) → IsSectionState name lines p → IsSectionState name (lines ++ directing number label (Align align) ∷ []) (with_align align p)
unfolding with_align with_zeros
align_state name lines number label align p state =
    let l = directing number label (Align align) in
    let place : 0 + length (contents 0 lines) ≡ p.size = omega (arith, state.is.size) in
    let put = replicate (padding p.size align) 0 in
    let more : contents 0 (lines ++ l ∷ []) ≡ contents 0 lines ++ put = contents_plain 0 lines l refl ∙ ap (λ n. contents 0 lines ++ replicate (padding n align) 0) place in
    record {
      is = record {
        kind = state.is.kind;
        align = ap (λ n. max n align) state.is.align ∙ sym (aligned_push (first_align (kind_named name)) lines l);
        size = ap (λ n. n + padding p.size align) state.is.size ∙ sym (ap length more ∙ length-append (contents 0 lines) put ∙ ap (λ n. length (contents 0 lines) + n) (length-replicate {A = ℕ} (padding p.size align) 0));
        bytes =
            ap (λ k. if is_zero k then p.bytes else p.bytes ++ put) state.is.kind
            ∙ zeros_bytes (is_zero (kind_named name)) p.bytes (contents 0 lines) put state.is.bytes
            ∙ sym (ap (λ bytes. if is_zero (kind_named name) then [] else bytes) more);
      };
      last = state.last ∙ sym (last_push 0 lines l);
      instructions = state.instructions ∙ sym (words_push lines l ∙ append-nil (words_in lines));
    }

-- a section with one more instruction
pub record HasWord (p : AsmSection) (instruction : InstrWord) (q : AsmSection) : Type 0 where
  pub at : q.at ≡ p.at
  pub len : q.len ≡ p.len
  pub kind : q.kind ≡ p.kind
  pub align : q.align ≡ p.align
  pub size : q.size ≡ p.size + 4
  pub bytes : q.bytes ≡ (with_parallel instruction.chained p).bytes ++ to_le_bytes w32 instruction.word
  pub last : q.last ≡ Some (p.size + 4)
  pub instructions : q.instructions ≡ p.instructions ++ instruction ∷ []

pub has_word : (instruction : InstrWord) (entry : Option RelocEntry) (p : AsmSection) → HasWord p instruction (with_instruction instruction entry p)
unfolding with_instruction with_number with_bytes with_parallel
has_word instruction entry p = by instruction.chained entry
  where
    by : (chained : Bool) (entry : Option RelocEntry) → HasWord p (record instruction { chained = chained }) (with_instruction (record instruction { chained = chained }) entry p)
    by true None = record { at = refl; len = refl; kind = refl; align = refl; size = refl; bytes = refl; last = refl; instructions = refl }
    by true (Some entry) = record { at = refl; len = refl; kind = refl; align = refl; size = refl; bytes = refl; last = refl; instructions = refl }
    by false None = record { at = refl; len = refl; kind = refl; align = refl; size = refl; bytes = refl; last = refl; instructions = refl }
    by false (Some entry) = record { at = refl; len = refl; kind = refl; align = refl; size = refl; bytes = refl; last = refl; instructions = refl }

abbrev pub instructing : ℕ → Option Word → Bool → ℕ → Option Relocation → Said
instructing number label chained word relocation = record { number = number; label = label; saying = says_instruction chained word relocation }

-- `||` stands where the last instruction ends
abbrev pub MayJoin : Bool → AsmSection → Type 0
MayJoin true p = p.last ≡ Some p.size
MayJoin false p = Unit {0}

word_bytes : (name : List ℕ) (lines : List Said) (number : ℕ) (label : Option Word) (chained : Bool) (word : ℕ) (relocation : Option Relocation) (p : AsmSection) → is_zero p.kind ≡ false → MayJoin chained p → IsSectionState name lines p → contents 0 (lines ++ instructing number label chained word relocation ∷ []) ≡ (with_parallel chained p).bytes ++ to_le_bytes w32 word
unfolding with_parallel
word_bytes name lines number label false word relocation p some may state =
    let full : is_zero (kind_named name) ≡ false = ap is_zero (sym state.is.kind) ∙ some in
    let same : contents 0 lines ≡ p.bytes = sym (state.is.bytes ∙ second_of_two (is_zero (kind_named name)) [] (contents 0 lines) full) in
    contents_plain 0 lines (instructing number label false word relocation) refl ∙ ap (λ bytes. bytes ++ to_le_bytes w32 word) same
word_bytes name lines number label true word relocation p some may state =
    let full : is_zero (kind_named name) ≡ false = ap is_zero (sym state.is.kind) ∙ some in
    let same : contents 0 lines ≡ p.bytes = sym (state.is.bytes ∙ second_of_two (is_zero (kind_named name)) [] (contents 0 lines) full) in
    let there : p.size ≡ 0 + length (contents 0 lines) = omega (arith, state.is.size) in
    contents_joined 0 lines number label word relocation p.size (sym state.last ∙ may) there
    ∙ ap (λ n. slice_set (contents 0 lines) (n - 4) (odd (slice_index (contents 0 lines) (n - 4))) ++ to_le_bytes w32 word) (sym state.is.size)
    ∙ ap (λ bytes. slice_set bytes (p.size - 4) (odd (slice_index bytes (p.size - 4))) ++ to_le_bytes w32 word) same

length_joined : (chained : Bool) (p : AsmSection) → length (with_parallel chained p).bytes ≡ length p.bytes
unfolding with_parallel
length_joined true p = length-set p.bytes (p.size - 4) (odd (slice_index p.bytes (p.size - 4)))
length_joined false p = refl

-- an instruction
pub instruction_state : (name : List ℕ) (lines : List Said) (number : ℕ) (label : Option Word) (chained : Bool) (word : ℕ) (relocation : Option Relocation) (p q : AsmSection) → is_zero p.kind ≡ false → MayJoin chained p → IsSectionState name lines p → HasWord p (record { line = number; chained = chained; word = word }) q → IsSectionState name (lines ++ instructing number label chained word relocation ∷ []) q
instruction_state name lines number label chained word relocation p q some may state grown =
    let l = instructing number label chained word relocation in
    let full : is_zero (kind_named name) ≡ false = ap is_zero (sym state.is.kind) ∙ some in
    let held : p.bytes ≡ contents 0 lines = state.is.bytes ∙ second_of_two (is_zero (kind_named name)) [] (contents 0 lines) full in
    let all = word_bytes name lines number label chained word relocation p some may state in
    let long : length ((with_parallel chained p).bytes ++ to_le_bytes w32 word) ≡ p.size + 4 = omega (arith, length-append (with_parallel chained p).bytes (to_le_bytes w32 word), length_joined chained p, ap length held, state.is.size) in
    let place : 0 + length (contents 0 lines) ≡ p.size = omega (arith, state.is.size) in
    record {
      is = record {
        kind = grown.kind ∙ state.is.kind;
        align = grown.align ∙ state.is.align ∙ sym (aligned_push (first_align (kind_named name)) lines l);
        size = grown.size ∙ sym long ∙ sym (ap length all);
        bytes = grown.bytes ∙ sym all ∙ sym (second_of_two (is_zero (kind_named name)) [] (contents 0 (lines ++ l ∷ [])) full);
      };
      last = grown.last ∙ sym (last_push 0 lines l ∙ ap (λ n. Some (n + 4)) place);
      instructions = grown.instructions ∙ ap (λ ws. ws ++ record { line = number; chained = chained; word = word } ∷ []) state.instructions ∙ sym (words_push lines l);
    }
