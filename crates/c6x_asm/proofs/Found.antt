-- The lowest line of a broken packet is found by going through the sections.
use Rattle.std.proofs.Common.{◌≡◌, ℕ, zero, suc, ◌+◌, ◌<◌, ◌≤◌, ◌⊎◌, inl, inr, Bool, true, false, ◌||◌, List, [], ◌∷◌, ◌++◌, length, min, Option, Some, None, refl, sym, ◌∙◌, ap, subst, arith, append_assoc, append-nil}
use Rattle.std.specs.Prelude.{if◌then◌else◌}
use Rattle.std.specs.Str.{bytes_eq}
use Rattle.std.proofs.lemmas.Bool.{cases_lt, true≢false}
use Rattle.std.proofs.lemmas.Slice.Eq.{bytes_eq-Decides}
use Rattle.c6x_asm_lines.specs.declared.lexeme.Lexeme.{Lexeme}
use Rattle.c6x_asm_lines.specs.declared.line.Line.{Line}
use Rattle.c6x_asm_lines.specs.declared.line.Statement.{Statement}
use Rattle.c6x_asm_lines.specs.declared.rule.AsmRule.{AsmRule}
use Rattle.c6x_asm_lines.specs.declared.rule.AsmRule.TheVariants.{Syntax}
use Rattle.c6x_asm_lines.specs.Spelling.{SpellsLine}
use Rattle.c6x_asm_object.specs.declared.asm_section.AsmSection.{AsmSection}
use Rattle.c6x_asm_object.specs.declared.instr_word.InstrWord.{InstrWord}
use Rattle.c6x_asm_object.specs.Named.{section_name, section_names}
use Rattle.c6x_asm_object.specs.Sections.{no_section, section_at}
use Rattle.c6x_asm.specs.Breaking.{BreakNone, one_passes, none_left, BreaksLine, by_statement, by_instruction, wrong_place, joins_nothing, EndsHere, GoesTo, MisplacesInstruction}
use Rattle.c6x_asm.specs.Said.{Saying, says_nothing, says_directive, says_instruction, Said, Says, nothing_said, directive_said, instruction_said, TheySay, no_lines, a_line}
use Rattle.c6x_asm.specs.Sections.{behind_line, behind_lines, end_at, is_among, is_here, last_end, later_or, lines_in, size_at, word_said, words_in}
use Rattle.c6x_asm.proofs.Firsts.{found_among}
use Rattle.c6x_asm.proofs.Grown.{words_push}
use Rattle.c6x_asm.proofs.Lined.{IsMeant, lines_push, name_of}
use Rattle.c6x_asm.specs.Groups.{BreaksPacket, IsApart, IsPacketOf}
use Rattle.c6x_asm.specs.Packets.{first_bad}
use Rattle.c6x_asm.specs.Reading.{bad_line, lower_line}
use Rattle.c6x_asm.proofs.Groups.{AreFrom, IsBroken, IsFirstBroken, IsLeast, first_is_broken, from_lower}

-- the lines of a section's instructions do not fall
ordered : (text name : List ℕ) (here : Option (List ℕ)) (number : ℕ) (lines : List (List Lexeme)) (said : List Said) → TheySay text number lines said → AreFrom number (words_in (lines_in text name here said))
ordered text name here number [] [] no_lines = tt
ordered text name here number [] (l ∷ said) says = elim says [ ]
ordered text name here number (lexemes ∷ lines) [] says = elim says [ ]
ordered text name here number (lexemes ∷ lines) (l ∷ said) (a_line {saying} spells says rest) =
    by (is_here name here) saying (lines_in text name (behind_line text saying here) said) (ordered text name (behind_line text saying here) (number + 1) lines said rest)
  where
    by : (b : Bool) (saying : Saying) (next : List Said) → AreFrom (number + 1) (words_in next) → AreFrom number (words_in ((if b then record { number = number; label = l.label; saying = saying } ∷ [] else []) ++ next))
    by true says_nothing next are = from_lower number (number + 1) (words_in next) (omega arith) are
    by true (says_directive directive) next are = from_lower number (number + 1) (words_in next) (omega arith) are
    by true (says_instruction chained word relocation) next are = (omega arith, from_lower number (number + 1) (words_in next) (omega arith) are)
    by false saying next are = from_lower number (number + 1) (words_in next) (omega arith) are

-- where no instruction stands, none ends
no_end : (place : ℕ) (lines : List Said) → words_in lines ≡ [] → last_end place lines ≡ None
no_end place [] none = refl
no_end place (l ∷ lines) none = by l.saying none (λ rest. no_end (place + size_at place l.saying) lines rest)
  where
    by : (saying : Saying) → word_said l.number saying ++ words_in lines ≡ [] → (words_in lines ≡ [] → last_end (place + size_at place l.saying) lines ≡ None) → later_or (last_end (place + size_at place l.saying) lines) (end_at place saying) ≡ None
    by says_nothing is rest = ap (λ o. later_or o None) (rest is)
    by (says_directive directive) is rest = ap (λ o. later_or o None) (rest is)
    by (says_instruction chained word relocation) is rest = absurd (cc)

-- `||` stands before an instruction only where one stands before it
unjoined : (text : List ℕ) (said : List Said) (lexemes : List Lexeme) (line : Line) (saying : Saying) (name : List ℕ) → SpellsLine line lexemes → Says text line.statement saying → ((rule : AsmRule) → BreaksLine text said lexemes rule → ⊥) → is_here name (behind_lines text None said) ≡ true → words_in (lines_in text name None said) ≡ [] → (number : ℕ) → IsApart (word_said number saying)
unjoined text said lexemes line saying name spells says none here empty number = by line.statement saying refl says
  where
    found : (behind : Option (List ℕ)) (other : List ℕ) → behind ≡ Some other → is_here name behind ≡ true → other ≡ name
    found None other is at = absurd (cc)
    found (Some there) other is at = let same : there ≡ other = cc in sym same ∙ (bytes_eq-Decides there name).0 at

    never : (other : List ℕ) → GoesTo text said other → EndsHere text said other → ⊥
    never other goes ends =
        let same = found (behind_lines text None said) other goes here in
        let stops : last_end 0 (lines_in text other None said) ≡ None = ap (λ n. last_end 0 (lines_in text n None said)) same ∙ no_end 0 (lines_in text name None said) empty in
        cc

    by : (o : Option Statement) (saying : Saying) → line.statement ≡ o → Says text o saying → IsApart (word_said number saying)
    by None says_nothing is nothing_said = tt
    by None (says_directive directive) is says = elim says [ ]
    by None (says_instruction chained word relocation) is says = elim says [ ]
    by (Some statement) says_nothing is says = elim says [ ]
    by (Some statement) (says_directive directive) is (directive_said dotted named read) = tt
    by (Some statement) (says_instruction chained word relocation) is (instruction_said plain read spelled) = alone statement.head.chained refl
      where
        alone : (c : Bool) → statement.head.chained ≡ c → c ≡ false
        alone true joins = absurd (none Syntax (by_statement spells is (by_instruction plain (wrong_place (subst (λ b. MisplacesInstruction text said b Syntax) (sym joins) (joins_nothing never))))))
        alone false joins = refl

apart_push : (first more : List InstrWord) → IsApart first → (first ≡ [] → IsApart more) → IsApart (first ++ more)
apart_push [] more apart rest = rest refl
apart_push (i ∷ first) more apart rest = apart

-- the first instruction of each section joins none
opens : (text : List ℕ) (number : ℕ) (lines : List (List Lexeme)) (said more : List Said) (name : List ℕ) → TheySay text number lines more → BreakNone text said lines more → IsApart (words_in (lines_in text name None said)) → IsApart (words_in (lines_in text name None (said ++ more)))
opens text number [] said [] name no_lines none_left apart = subst (λ all. IsApart (words_in (lines_in text name None all))) (sym (append-nil said)) apart
opens text number [] said (l ∷ more) name says breaks apart = elim says [ ]
opens text number (lexemes ∷ lines) said [] name says breaks apart = elim says [ ]
opens text number (lexemes ∷ lines) said (l ∷ more) name (a_line {line} {saying} spells says rest) (one_passes none next) apart =
    subst (λ all. IsApart (words_in (lines_in text name None all))) (append_assoc said (l ∷ []) more)
    (opens text (number + 1) lines (said ++ l ∷ []) more name rest next (subst (λ ls. IsApart (words_in ls)) (sym (lines_push text name None said l)) (by (is_here name (behind_lines text None said)) refl)))
  where
    by : (b : Bool) → is_here name (behind_lines text None said) ≡ b → IsApart (words_in (lines_in text name None said ++ (if b then l ∷ [] else [])))
    by true here =
        subst IsApart (sym (words_push (lines_in text name None said) l))
        (apart_push (words_in (lines_in text name None said)) (word_said number saying) apart (λ empty. unjoined text said lexemes line saying name spells says none here empty number))
    by false here = subst (λ ls. IsApart (words_in ls)) (sym (append-nil (lines_in text name None said))) apart

-- the lower of two least numbers
least_lower : (P Q : ℕ → Type 0) (a b : Option ℕ) → IsLeast P a → IsLeast Q b → IsLeast (λ n. P n ⊎ Q n) (lower_line a b)
least_lower P Q None None p q = λ n is. neither n is
  where
    neither : (n : ℕ) → P n ⊎ Q n → ⊥
    neither n (inl here) = p n here
    neither n (inr here) = q n here
least_lower P Q None (Some b) p q = (inr q.0, λ other is. by other is)
  where
    by : (other : ℕ) → P other ⊎ Q other → b ≤ other
    by other (inl here) = absurd (p other here)
    by other (inr here) = q.1 other here
least_lower P Q (Some a) None p q = (inl p.0, λ other is. by other is)
  where
    by : (other : ℕ) → P other ⊎ Q other → a ≤ other
    by other (inl here) = p.1 other here
    by other (inr here) = absurd (q other here)
least_lower P Q (Some a) (Some b) p q = (which (cases_lt a b), λ other is. by other is)
  where
    which : (a < b) ⊎ (b ≤ a) → P (min a b) ⊎ Q (min a b)
    which (inl below) = inl (subst P (omega arith) p.0)
    which (inr above) = inr (subst Q (omega arith) q.0)

    by : (other : ℕ) → P other ⊎ Q other → min a b ≤ other
    by other (inl here) = let least = p.1 other here in omega arith
    by other (inr here) = let least = q.1 other here in omega arith

least_same : (P Q : ℕ → Type 0) (o : Option ℕ) → ((n : ℕ) → P n → Q n) → ((n : ℕ) → Q n → P n) → IsLeast P o → IsLeast Q o
least_same P Q None to back p = λ n is. p n (back n is)
least_same P Q (Some n) to back p = (to n p.0, λ other is. p.1 other (back other is))

-- a section has a broken packet that begins on this line
abbrev IsIn : List AsmSection → ℕ → Type 0
IsIn sections line = (i : ℕ) × (i < length sections) × IsBroken (section_at sections i).instructions line

through : (P : ℕ → Type 0) (sofar : Option ℕ) (sections : List AsmSection) → IsLeast P sofar → ((i : ℕ) → i < length sections → IsFirstBroken (section_at sections i).instructions (first_bad (section_at sections i).instructions)) → IsLeast (λ n. P n ⊎ IsIn sections n) (bad_line sofar sections)
through P sofar [] least each = least_same P (λ n. P n ⊎ IsIn [] n) sofar (λ n is. inl is) back least
  where
    back : (n : ℕ) → P n ⊎ IsIn [] n → P n
    back n (inl is) = is
    back n (inr is) = let inside : is.0 < 0 = is.1 in absurd (omega arith)
through P sofar (p ∷ sections) least each =
    let Q : ℕ → Type 0 = λ n. P n ⊎ IsBroken p.instructions n in
    least_same (λ n. Q n ⊎ IsIn sections n) (λ n. P n ⊎ IsIn (p ∷ sections) n) (bad_line (lower_line sofar (first_bad p.instructions)) sections) to back
    (through Q (lower_line sofar (first_bad p.instructions)) sections (least_lower P (IsBroken p.instructions) sofar (first_bad p.instructions) least (each 0 (omega arith))) (λ i inside. each (suc i) (omega arith)))
  where
    to : (n : ℕ) → (P n ⊎ IsBroken p.instructions n) ⊎ IsIn sections n → P n ⊎ IsIn (p ∷ sections) n
    to n (inl (inl is)) = inl is
    to n (inl (inr is)) = inr (0, omega arith, is)
    to n (inr is) = let inside : is.0 < length sections = is.1 in inr (suc is.0, omega arith, is.2)

    back : (n : ℕ) → P n ⊎ IsIn (p ∷ sections) n → (P n ⊎ IsBroken p.instructions n) ⊎ IsIn sections n
    back n (inl is) = inl (inl is)
    back n (inr is) = at is.0 is.1 is.2
      where
        at : (i : ℕ) → i < length (p ∷ sections) → IsBroken (section_at (p ∷ sections) i).instructions n → (P n ⊎ IsBroken p.instructions n) ⊎ IsIn sections n
        at zero inside broken = inl (inr broken)
        at (suc i) inside broken = inr (i, omega arith, broken)

-- the section with a name that stands among those of the sections
record IsNamed (text : List ℕ) (sections : List AsmSection) (name : List ℕ) : Type 0 where
  i : ℕ
  inside : i < length sections
  is : name_of text sections i ≡ name

named : (text : List ℕ) (sections : List AsmSection) (name : List ℕ) → is_among (section_names text sections) name ≡ true → IsNamed text sections name
named text [] name among = absurd (true≢false (sym among))
named text (p ∷ sections) name among = by (bytes_eq (section_name text p) name) refl among (λ rest. named text sections name rest)
  where
    by : (b : Bool) → bytes_eq (section_name text p) name ≡ b → (b || is_among (section_names text sections) name) ≡ true → (is_among (section_names text sections) name ≡ true → IsNamed text sections name) → IsNamed text (p ∷ sections) name
    by true same is rest = record { i = 0; inside = omega arith; is = (bytes_eq-Decides (section_name text p) name).0 same }
    by false other is rest = let further = rest is in let inside = further.inside in record { i = suc further.i; inside = omega arith; is = further.is }

-- the lowest line of a packet that the lines so far break
pub packets_found : (text : List ℕ) (lines : List (List Lexeme)) (said : List Said) (sections : List AsmSection) (now : Option ℕ) → TheySay text 1 lines said → BreakNone text [] lines said → IsMeant text said sections now → IsLeast (BreaksPacket text said) (bad_line None sections)
packets_found text lines said sections now say none meant =
    least_same (λ n. ⊥ ⊎ IsIn sections n) (BreaksPacket text said) (bad_line None sections) to back
    (through (λ n. ⊥) None sections (λ n is. is) (λ i inside. first_is_broken 1 (section_at sections i).instructions
    (subst IsApart (sym (meant.each i inside).instructions) (opens text 1 lines [] said (name_of text sections i) say none tt))
    (subst (AreFrom 1) (sym (meant.each i inside).instructions) (ordered text (name_of text sections i) None 1 lines said say))))
  where
    to : (n : ℕ) → ⊥ ⊎ IsIn sections n → BreaksPacket text said n
    to n (inl never) = absurd never
    to n (inr is) =
        let broken : IsBroken (section_at sections is.0).instructions n = is.2 in
        record {
          name = name_of text sections is.0;
          made = ap (λ names. is_among names (name_of text sections is.0)) (sym meant.names) ∙ found_among (section_name text) sections (name_of text sections is.0) is.0 no_section is.1 refl;
          first = broken.first;
          joined = broken.joined;
          packet = subst (λ instructions. IsPacketOf instructions broken.first broken.joined) (meant.each is.0 is.1).instructions broken.packet;
          breaks = broken.breaks;
          begins = broken.begins;
        }

    back : (n : ℕ) → BreaksPacket text said n → ⊥ ⊎ IsIn sections n
    back n is =
        let at = named text sections is.name (ap (λ names. is_among names is.name) meant.names ∙ is.made) in
        let same : (section_at sections at.i).instructions ≡ words_in (lines_in text is.name None said) = (meant.each at.i at.inside).instructions ∙ ap (λ name. words_in (lines_in text name None said)) at.is in
        inr (at.i, at.inside, record { first = is.first; joined = is.joined; packet = subst (λ instructions. IsPacketOf instructions is.first is.joined) (sym same) is.packet; breaks = is.breaks; begins = is.begins })
