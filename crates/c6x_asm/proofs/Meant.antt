-- What is assembled is what the lines say.
use Rattle.std.proofs.Common.{◌≡◌, ℕ, ◌+◌, ◌-◌, ◌≤◌, ◌⊎◌, inl, inr, Bool, true, false, nat_lt, length, take, arith, List, [], ◌∷◌, ◌++◌, Option, Some, None, Result, Ok, Err, refl, sym, ◌∙◌, ap, subst, append_assoc, append-nil}
use Rattle.std.specs.Prelude.{if◌then◌else◌}
use Rattle.std.proofs.lemmas.Bool.Decides.{nat_tests}
use Rattle.std.proofs.Math.Seq.{take-append_seam}
use Rattle.c6x_lex.specs.declared.token.Token.{Token}
use Rattle.c6x_lex.specs.Tokens.{Position, tokens_of}
use Rattle.c6x_asm_lines.specs.declared.lexeme.Lexeme.{Lexeme}
use Rattle.c6x_asm_lines.specs.declared.line.Line.{Line}
use Rattle.c6x_asm_lines.specs.declared.rule.AsmRule.{AsmRule}
use Rattle.c6x_asm_lines.specs.declared.rule.AsmRule.TheVariants.{BadByte, Syntax, Packet, Large}
use Rattle.c6x_asm_lines.specs.Rules.{number_of}
use Rattle.c6x_asm_lines.specs.Grammar.{line_of}
use Rattle.c6x_asm_lines.proofs.SpelledLines.{one_line, unspelled}
use Rattle.c6x_asm_lines.proofs.Spelled.{line_spelled}
use Rattle.c6x_asm_object.specs.declared.object.Object.{Object}
use Rattle.c6x_asm_object.specs.Filing.{file_of}
use Rattle.c6x_asm_object.specs.Limits.{is_large}
use Rattle.c6x_asm.specs.StepLines.{stepped}
use Rattle.c6x_asm.specs.States.{State, state_of}
use Rattle.c6x_asm.specs.Breaking.{BreakNone, none_left, one_passes, BreaksLabel, BreaksLine, unread, by_label, by_statement, BreaksStatement}
use Rattle.c6x_asm.specs.Said.{Saying, Said, Says, TheySay, no_lines, a_line}
use Rattle.c6x_asm.proofs.BrokenRules.{BreaksParts, IsOverfull, stepped_judged}
use Rattle.c6x_asm.proofs.Least.{Holds, IsLowest, Judges, judges_limit, judges_same}
use Rattle.c6x_asm.proofs.Lined.{IsMeant}
use Rattle.c6x_asm.proofs.Fulfilled.{IsWhole, stepped_whole}
use Rattle.c6x_asm.proofs.Stepped.{IsSaidBy, stepped_meant}
use Rattle.c6x_asm.proofs.Whole.{meant_begins, meant_sections, whole_begins, whole_relocations, whole_symbols}
use Rattle.c6x_asm.specs.declared.asm_error.AsmError.{AsmError}
use Rattle.c6x_asm.specs.declared.asm_error.AsmError.TheVariants.{Rule, NoMemory}
use Rattle.c6x_asm.specs.declared.broken.Broken.{Broken}
use Rattle.c6x_asm.specs.Lines.{after_lines, counted, lined, lines_of, or_broken, read_line, sized}
use Rattle.c6x_asm.specs.Reading.{Reads, bad_line, before, ended, nothing, or_packet, read_lines, read_of, read_tokens, stopped}
use Rattle.c6x_asm.specs.Groups.{BreakNoPacket, BreaksPacket}
use Rattle.c6x_asm.specs.Meaning.{IsLead, IsObjectOf, IsRefusal, IsTooMuch, Refuses, Stops, bad_byte, broken_line, broken_packet, line_breaks, limit_passed, passed_limit, text_ends}
use Rattle.c6x_asm.specs.Standing.{AreMadeOf, AreStanding, PassNoLimit, PassesLimit, most_lines, no_more, one_more}
use Rattle.c6x_asm.proofs.Found.{packets_found}
use Rattle.c6x_asm.proofs.Groups.{IsLeast}
use Rattle.c6x_asm.proofs.Kept.{counted_same, lines_after, sized_same, sized_small}

-- a line's reading and what it says
record IsLine (text : List ℕ) (said : List Said) (number : ℕ) (lexemes : List Lexeme) (t : State) : Type 0 where
  line : Line
  read : line_of lexemes ≡ Some line
  says : IsSaidBy text said number line.label line.statement t
  whole : IsWhole text (said ++ record { number = number; label = line.label; saying = says.saying } ∷ []) t
  stand : Holds (BreaksLine text said lexemes)

-- what lexemes break is asked of the line that they spell
parts_of : (text : List ℕ) (said : List Said) (lexemes : List Lexeme) (line : Line) → line_of lexemes ≡ Some line → (rule : AsmRule) → BreaksLine text said lexemes rule → BreaksParts text said line rule
parts_of text said lexemes line read rule (unread never) = absurd (never line (line_spelled lexemes line read))
parts_of text said lexemes line read rule (by_label {line = other} spells breaks) =
    inl (subst (λ (l : Line). BreaksLabel text said l.label rule) (one_line spells (line_spelled lexemes line read)) breaks)
parts_of text said lexemes line read rule (by_statement {line = other} {statement} spells has breaks) =
    let same : other ≡ line = one_line spells (line_spelled lexemes line read) in
    inr (statement, sym (ap (λ (l : Line). l.statement) same) ∙ has, subst (λ (l : Line). BreaksStatement text said l.label statement rule) same breaks)

line_of_parts : (text : List ℕ) (said : List Said) (lexemes : List Lexeme) (line : Line) → line_of lexemes ≡ Some line → (rule : AsmRule) → BreaksParts text said line rule → BreaksLine text said lexemes rule
line_of_parts text said lexemes line read rule (inl breaks) = by_label (line_spelled lexemes line read) breaks
line_of_parts text said lexemes line read rule (inr breaks) = by_statement (line_spelled lexemes line read) breaks.1 breaks.2

unread_least : (text : List ℕ) (said : List Said) (lexemes : List Lexeme) → line_of lexemes ≡ None → (other : AsmRule) → BreaksLine text said lexemes other → number_of Syntax ≤ number_of other
unread_least text said lexemes none other (unread never) = omega arith
unread_least text said lexemes none other (by_label {line} spells breaks) = absurd (unspelled lexemes none line spells)
unread_least text said lexemes none other (by_statement {line} spells has breaks) = absurd (unspelled lexemes none line spells)

-- a line that passes a limit
abbrev Exceeds : List ℕ → List Said → ℕ → List Lexeme → Type 0
Exceeds text said number lexemes = (l : Said) × TheySay text number (lexemes ∷ []) (l ∷ []) × PassesLimit text said l

said_by : (text : List ℕ) (number : ℕ) (lexemes : List Lexeme) (line : Line) (saying : Saying) → line_of lexemes ≡ Some line → Says text line.statement saying → TheySay text number (lexemes ∷ []) (record { number = number; label = line.label; saying = saying } ∷ [])
said_by text number lexemes line saying read says = a_line (line_spelled lexemes line read) says no_lines

read_judged : (text : List ℕ) (said : List Said) (number : ℕ) (lexemes : List Lexeme) (o : Option Line) (s : State) → line_of lexemes ≡ o → IsMeant text said s.sections s.now → IsWhole text said s → Judges (Exceeds text said number lexemes) (BreaksLine text said lexemes) (read_line text number o s)
read_judged text said number lexemes None s read meant whole = inr (unread (unspelled lexemes read), unread_least text said lexemes read)
read_judged text said number lexemes (Some line) s read meant whole =
    judges_limit (IsOverfull text said line.statement) (Exceeds text said number lexemes) (BreaksLine text said lexemes) (stepped text number line s)
    (λ over. (record { number = number; label = line.label; saying = over.0 }, said_by text number lexemes line over.0 read over.1, inr (inl over.2)))
    (judges_same (IsOverfull text said line.statement) (BreaksParts text said line) (BreaksLine text said lexemes) (stepped text number line s) (line_of_parts text said lexemes line read) (parts_of text said lexemes line read)
    (stepped_judged text said number line s meant whole))

judged_ok : {T : Type 0} (L : Type 0) (P : AsmRule → Type 0) (r : Result T AsmRule) (x : T) → r ≡ Ok x → Judges L P r → Holds P
judged_ok L P (Ok y) x is judged = judged
judged_ok L P (Err rule) x is judged = absurd (cc)

-- a limit that is passed is no lower rule
limit_judged : (L : Type 0) (P : AsmRule → Type 0) (b : Bool) (s : State) → (b ≡ true → L) → Holds P → Judges L P (if b then Err Large else Ok s)
limit_judged L P true s passes holds = inl (refl, holds, passes refl)
limit_judged L P false s passes holds = holds

sized_judged : (text : List ℕ) (L : Type 0) (P : AsmRule → Type 0) (r : Result State AsmRule) → ((s : State) → r ≡ Ok s → is_large text s.sections s.symbols ≡ true → L) → Judges L P r → Judges L P (sized text r)
sized_judged text L P (Ok s) passes judged = limit_judged L P (is_large text s.sections s.symbols) s (passes s refl) judged
sized_judged text L P (Err rule) passes judged = judged

counted_judged : (number : ℕ) (L : Type 0) (P : AsmRule → Type 0) (r : Result State AsmRule) → ((s : State) → r ≡ Ok s → nat_lt most_lines number ≡ true → L) → Judges L P r → Judges L P (counted number r)
counted_judged number L P (Ok s) passes judged = limit_judged L P (nat_lt most_lines number) s (passes s refl) judged
counted_judged number L P (Err rule) passes judged = judged

line_meant : (text : List ℕ) (said : List Said) (number : ℕ) (lexemes : List Lexeme) (o : Option Line) (s t : State) → line_of lexemes ≡ o → IsMeant text said s.sections s.now → IsWhole text said s → read_line text number o s ≡ Ok t → IsLine text said number lexemes t
line_meant text said number lexemes None s t read meant whole is = absurd (cc)
line_meant text said number lexemes (Some line) s t read meant whole is =
    let says = stepped_meant text said number line s t meant is in
    record {
      line = line;
      read = read;
      says = says;
      whole = stepped_whole text said number line says.saying s t meant whole says.says is;
      stand = judged_ok (Exceeds text said number lexemes) (BreaksLine text said lexemes) (read_line text number (Some line) s) t is (read_judged text said number lexemes (Some line) s read meant whole);
    }

made_of : (text : List ℕ) (said : List Said) (t : State) → IsMeant text said t.sections t.now → IsWhole text said t → AreMadeOf text said t.sections t.symbols
made_of text said t meant whole = record {
  have_lines = meant_sections text said t.sections t.now meant;
  have_names = whole_symbols text said t whole;
  have_entries = whole_relocations text said t whole;
}

lined_judged : (text : List ℕ) (said : List Said) (number : ℕ) (lexemes : List Lexeme) (s : State) → IsMeant text said s.sections s.now → IsWhole text said s → Judges (Exceeds text said number lexemes) (BreaksLine text said lexemes) (lined text number lexemes s)
unfolding lined
lined_judged text said number lexemes s meant whole =
    let L : Type 0 = Exceeds text said number lexemes in
    let P : AsmRule → Type 0 = BreaksLine text said lexemes in
    let read = read_line text number (line_of lexemes) s in
    counted_judged number L P (sized text read) (λ t is passes. counted_passed t (sized_same text read t is) passes)
    (sized_judged text L P read (λ t is passes. sized_passed t is passes) (read_judged text said number lexemes (line_of lexemes) s refl meant whole))
  where
    counted_passed : (t : State) → read_line text number (line_of lexemes) s ≡ Ok t → nat_lt most_lines number ≡ true → Exceeds text said number lexemes
    counted_passed t is passes =
        let here = line_meant text said number lexemes (line_of lexemes) s t refl meant whole is in
        (record { number = number; label = here.line.label; saying = here.says.saying }, said_by text number lexemes here.line here.says.saying here.read here.says.says, inl (grind (arith, nat_tests)))

    sized_passed : (t : State) → read_line text number (line_of lexemes) s ≡ Ok t → is_large text t.sections t.symbols ≡ true → Exceeds text said number lexemes
    sized_passed t is passes =
        let here = line_meant text said number lexemes (line_of lexemes) s t refl meant whole is in
        let l : Said = record { number = number; label = here.line.label; saying = here.says.saying } in
        (l, said_by text number lexemes here.line here.says.saying here.read here.says.says, inr (inr (record { sections = t.sections; symbols = t.symbols; made = made_of text (said ++ l ∷ []) t here.says.meant here.whole; large = passes })))

lined_meant : (text : List ℕ) (said : List Said) (number : ℕ) (lexemes : List Lexeme) (s t : State) → IsMeant text said s.sections s.now → IsWhole text said s → lined text number lexemes s ≡ Ok t → IsLine text said number lexemes t
unfolding lined
lined_meant text said number lexemes s t meant whole is =
    let read = read_line text number (line_of lexemes) s in
    line_meant text said number lexemes (line_of lexemes) s t refl meant whole (sized_same text read t (counted_same number (sized text read) t is))

counted_few : (number : ℕ) (r : Result State AsmRule) (t : State) → counted number r ≡ Ok t → number ≤ most_lines
counted_few number (Ok s) t is = by (nat_lt most_lines number) refl is
  where
    by : (b : Bool) → nat_lt most_lines number ≡ b → (if b then Err Large else Ok s) ≡ Ok t → number ≤ most_lines
    by true test is = absurd (cc)
    by false test is = grind (arith, nat_tests)
counted_few number (Err rule) t is = absurd (cc)

-- a line that breaks no rule passes no limit
record IsWithin (text : List ℕ) (number : ℕ) (t : State) : Type 0 where
  few : number ≤ most_lines
  small : is_large text t.sections t.symbols ≡ false

lined_within : (text : List ℕ) (number : ℕ) (lexemes : List Lexeme) (s t : State) → lined text number lexemes s ≡ Ok t → IsWithin text number t
unfolding lined
lined_within text number lexemes s t is =
    let read = read_line text number (line_of lexemes) s in
    record { few = counted_few number (sized text read) t is; small = sized_small text read t (counted_same number (sized text read) t is) }

-- lines behind those so far
record AreMore (text : List ℕ) (said : List Said) (number : ℕ) (lines : List (List Lexeme)) (t : State) : Type 0 where
  more : List Said
  says : TheySay text number lines more
  meant : IsMeant text (said ++ more) t.sections t.now
  whole : IsWhole text (said ++ more) t
  stand : BreakNone text said lines more
  limits : PassNoLimit text said more

within_limits : (text : List ℕ) (said : List Said) (number : ℕ) (lexemes : List Lexeme) (s u : State) (l : Said) {more : List Said} → lined text number lexemes s ≡ Ok u → l.number ≡ number → IsMeant text (said ++ l ∷ []) u.sections u.now → IsWhole text (said ++ l ∷ []) u → PassNoLimit text (said ++ l ∷ []) more → PassNoLimit text said (l ∷ more)
within_limits text said number lexemes s u l here is meant whole rest =
    let within = lined_within text number lexemes s u here in
    let few = within.few in
    one_more (omega arith) (record { sections = u.sections; symbols = u.symbols; made = made_of text (said ++ l ∷ []) u meant whole; small = within.small }) rest

after_meant : (text : List ℕ) (lines : List (List Lexeme)) (number : ℕ) (said : List Said) (s t : State) → IsMeant text said s.sections s.now → IsWhole text said s → after_lines text number s lines ≡ Ok t → AreMore text said number lines t
after_meant text [] number said s t meant whole is =
    let same : s ≡ t = cc in
    record { more = []; says = no_lines; meant = subst (λ all. IsMeant text all t.sections t.now) (sym (append-nil said)) (subst (λ (u : State). IsMeant text said u.sections u.now) same meant); whole = subst (λ all. IsWhole text all t) (sym (append-nil said)) (subst (IsWhole text said) same whole); stand = none_left; limits = no_more }
after_meant text (lexemes ∷ lines) number said s t meant whole is = by (lined text number lexemes s) refl is (λ u here. after_meant text lines (number + 1) (said ++ here) u t)
  where
    by : (r : Result State AsmRule) → lined text number lexemes s ≡ r → or_broken number r (λ u. after_lines text (number + 1) u lines) ≡ Ok t → ((u : State) (here : List Said) → IsMeant text (said ++ here) u.sections u.now → IsWhole text (said ++ here) u → after_lines text (number + 1) u lines ≡ Ok t → AreMore text (said ++ here) (number + 1) lines t) → AreMore text said number (lexemes ∷ lines) t
    by (Ok u) here rest later =
        let first = lined_meant text said number lexemes s u meant whole here in
        let l : Said = record { number = number; label = first.line.label; saying = first.says.saying } in
        let next = later u (l ∷ []) first.says.meant first.whole rest in
        record {
          more = l ∷ next.more;
          says = a_line (line_spelled lexemes first.line first.read) first.says.says next.says;
          meant = subst (λ all. IsMeant text all t.sections t.now) (append_assoc said (l ∷ []) next.more) next.meant;
          whole = subst (λ all. IsWhole text all t) (append_assoc said (l ∷ []) next.more) next.whole;
          stand = one_passes first.stand next.stand;
          limits = within_limits text said number lexemes s u l here refl first.says.meant first.whole next.limits;
        }
    by (Err rule) here rest later = absurd (cc)

same_broken : (r : Result State Broken) (a b : Broken) → r ≡ Err a → r ≡ Err b → a ≡ b
same_broken r a b first second = cc

-- why lines stop: the lowest rule that a line breaks, or the limit that it passes
abbrev Why : List ℕ → List Said → List Lexeme → Broken → Type 0
Why text said lexemes broken = ((broken.rule ≡ Large) × Holds (BreaksLine text said lexemes) × Exceeds text said broken.line lexemes) ⊎ IsLowest (BreaksLine text said lexemes) broken.rule

-- the first line that breaks a rule, of lines behind those so far
record IsStopped (text : List ℕ) (said : List Said) (number : ℕ) (s : State) (lines : List (List Lexeme)) (broken : Broken) : Type 0 where
  front : List (List Lexeme)
  lexemes : List Lexeme
  rest : List (List Lexeme)
  more : List Said
  split : lines ≡ front ++ lexemes ∷ rest
  says : TheySay text number front more
  stand : BreakNone text said front more
  limits : PassNoLimit text said more
  state : State
  ran : after_lines text number s front ≡ Ok state
  meant : IsMeant text (said ++ more) state.sections state.now
  line : broken.line ≡ length front + number
  why : Why text (said ++ more) lexemes broken

stopped_here : (text : List ℕ) (said : List Said) (number : ℕ) (lexemes : List Lexeme) (lines : List (List Lexeme)) (rule : AsmRule) (broken : Broken) (s : State) → IsMeant text said s.sections s.now → record { rule = rule; line = number } ≡ broken → Why text said lexemes (record { rule = rule; line = number }) → IsStopped text said number s (lexemes ∷ lines) broken
stopped_here text said number lexemes lines rule broken s meant is why =
    subst (IsStopped text said number s (lexemes ∷ lines)) is
    (record {
      front = [];
      lexemes = lexemes;
      rest = lines;
      more = [];
      split = refl;
      says = no_lines;
      stand = none_left;
      limits = no_more;
      state = s;
      ran = refl;
      meant = subst (λ all. IsMeant text all s.sections s.now) (sym (append-nil said)) meant;
      line = omega arith;
      why = subst (λ all. Why text all lexemes (record { rule = rule; line = number })) (sym (append-nil said)) why;
    })

after_stopped : (text : List ℕ) (lines : List (List Lexeme)) (number : ℕ) (said : List Said) (s : State) (broken : Broken) → IsMeant text said s.sections s.now → IsWhole text said s → after_lines text number s lines ≡ Err broken → IsStopped text said number s lines broken
after_stopped text [] number said s broken meant whole is = absurd (cc)
after_stopped text (lexemes ∷ lines) number said s broken meant whole is =
    by (lined text number lexemes s) refl is (lined_judged text said number lexemes s meant whole) (λ u here. after_stopped text lines (number + 1) (said ++ here) u broken)
  where
    by : (r : Result State AsmRule) → lined text number lexemes s ≡ r → or_broken number r (λ u. after_lines text (number + 1) u lines) ≡ Err broken → Judges (Exceeds text said number lexemes) (BreaksLine text said lexemes) r → ((u : State) (here : List Said) → IsMeant text (said ++ here) u.sections u.now → IsWhole text (said ++ here) u → after_lines text (number + 1) u lines ≡ Err broken → IsStopped text (said ++ here) (number + 1) u lines broken) → IsStopped text said number s (lexemes ∷ lines) broken
    by (Ok u) here rest judged later =
        let first = lined_meant text said number lexemes s u meant whole here in
        let l : Said = record { number = number; label = first.line.label; saying = first.says.saying } in
        let next = later u (l ∷ []) first.says.meant first.whole rest in
        record {
          front = lexemes ∷ next.front;
          lexemes = next.lexemes;
          rest = next.rest;
          more = l ∷ next.more;
          split = ap (λ ls. lexemes ∷ ls) next.split;
          says = a_line (line_spelled lexemes first.line first.read) first.says.says next.says;
          stand = one_passes first.stand next.stand;
          limits = within_limits text said number lexemes s u l here refl first.says.meant first.whole next.limits;
          state = next.state;
          ran = ap (λ r. or_broken number r (λ t. after_lines text (number + 1) t next.front)) here ∙ next.ran;
          meant = subst (λ all. IsMeant text all next.state.sections next.state.now) (append_assoc said (l ∷ []) next.more) next.meant;
          line = omega (arith, next.line);
          why = subst (λ all. Why text all next.lexemes broken) (append_assoc said (l ∷ []) next.more) next.why;
        }
    by (Err rule) here rest judged later = stopped_here text said number lexemes lines rule broken s meant (same_broken (Err (record { rule = rule; line = number })) (record { rule = rule; line = number }) broken refl rest) judged

-- the lines of a text that stand, and what they come to
record IsPartOf (text : List ℕ) (tokens : List Token) (left : List (List Lexeme)) (s : State) : Type 0 where
  front : List (List Lexeme)
  split : lines_of text tokens ≡ front ++ left
  said : List Said
  stand : AreStanding text front said
  meant : IsMeant text said s.sections s.now

part_of : (text : List ℕ) (tokens : List Token) (front left : List (List Lexeme)) (s : State) → lines_of text tokens ≡ front ++ left → after_lines text 1 nothing front ≡ Ok s → IsPartOf text tokens left s
part_of text tokens front left s split ran =
    let all = after_meant text front 1 [] nothing s (meant_begins text) (whole_begins text) ran in
    record { front = front; split = split; said = all.more; stand = record { say = all.says; break_none = all.stand; pass_none = all.limits }; meant = all.meant }

too_much : (text : List ℕ) (before : List Said) (number : ℕ) (lexemes : List Lexeme) (broken : Broken) → broken.line ≡ number → Holds (BreaksLine text before lexemes) → Exceeds text before broken.line lexemes → IsTooMuch text before number lexemes
too_much text before number lexemes broken line holds exceeds =
    record { l = exceeds.0; says = subst (λ n. TheySay text n (lexemes ∷ []) (exceeds.0 ∷ [])) line exceeds.1; breaks_none = holds; passes = exceeds.2 }

-- what a line is that stops
stopping : (text : List ℕ) (before : List Said) (number : ℕ) (lexemes : List Lexeme) (left : List (List Lexeme)) (broken : Broken) → broken.line ≡ number → Why text before lexemes broken → Stops text before number (lexemes ∷ left)
stopping text before number lexemes left broken line (inl large) = limit_passed (too_much text before number lexemes broken line large.1 large.2)
stopping text before number lexemes left broken line (inr low) = line_breaks low.0

part_packets : (text : List ℕ) (tokens : List Token) (left : List (List Lexeme)) (s : State) (part : IsPartOf text tokens left s) → IsLeast (BreaksPacket text part.said) (bad_line None s.sections)
part_packets text tokens left s part = packets_found text part.front part.said s.sections s.now part.stand.say part.stand.break_none part.meant

-- all lines stand
all_refusal : (text : List ℕ) (tokens : List Token) (s : State) (broken : Broken) → tokens_of text ≡ Ok tokens → after_lines text 1 nothing (lines_of text tokens) ≡ Ok s → or_packet (bad_line None s.sections) (Ok s) ≡ Err broken → IsRefusal text broken
all_refusal text tokens s broken cut ran is =
    let part = part_of text tokens (lines_of text tokens) [] s (sym (append-nil (lines_of text tokens))) ran in
    by part (bad_line None s.sections) (part_packets text tokens [] s part) is
  where
    by : (part : IsPartOf text tokens [] s) (line : Option ℕ) → IsLeast (BreaksPacket text part.said) line → or_packet line (Ok s) ≡ Err broken → IsRefusal text broken
    by part None none is = absurd (cc)
    by part (Some line) found is =
        subst (IsRefusal text) (same_broken (Err (record { rule = Packet; line = line })) (record { rule = Packet; line = line }) broken refl is)
        (broken_packet (record { tokens = tokens; cut = cut; front = part.front; split = part.split; stand = part.stand }) text_ends found.0 found.1)

-- a line breaks a rule or passes a limit
stopped_refusal : (text : List ℕ) (tokens : List Token) (other broken : Broken) → tokens_of text ≡ Ok tokens → IsStopped text [] 1 nothing (lines_of text tokens) other → stopped other (after_lines text 1 nothing (before other.line (lines_of text tokens))) ≡ Err broken → IsRefusal text broken
stopped_refusal text tokens other broken cut stops is =
    by (bad_line None stops.state.sections) (packets_found text stops.front stops.more stops.state.sections stops.state.now stops.says stops.stand stops.meant)
    (ap (stopped other) (sym (ap (after_lines text 1 nothing) front ∙ stops.ran)) ∙ is)
  where
    front : before other.line (lines_of text tokens) ≡ stops.front
    front =
        let line : other.line - 1 ≡ length stops.front = omega (arith, stops.line) in
        ap (λ n. take n (lines_of text tokens)) line ∙ ap (take (length stops.front)) stops.split ∙ take-append_seam stops.front (stops.lexemes ∷ stops.rest)

    lead : IsLead text stops.more (stops.lexemes ∷ stops.rest)
    lead = record { tokens = tokens; cut = cut; front = stops.front; split = stops.split; stand = record { say = stops.says; break_none = stops.stand; pass_none = stops.limits } }

    here : BreakNoPacket text stops.more → Why text stops.more stops.lexemes other → IsRefusal text other
    here none (inl large) =
        subst (λ line. IsRefusal text (record { rule = other.rule; line = line })) (sym stops.line)
        (subst (λ rule. IsRefusal text (record { rule = rule; line = length stops.front + 1 })) (sym large.0)
        (passed_limit lead none (too_much text stops.more (length stops.front + 1) stops.lexemes other stops.line large.1 large.2)))
    here none (inr low) =
        subst (λ line. IsRefusal text (record { rule = other.rule; line = line })) (sym stops.line)
        (broken_line lead none (record { breaks = low.0; least = low.1 }))

    by : (line : Option ℕ) → IsLeast (BreaksPacket text stops.more) line → or_packet line (Err other) ≡ Err broken → IsRefusal text broken
    by None none is = subst (IsRefusal text) (same_broken (Err other) other broken refl is) (here none stops.why)
    by (Some line) found is =
        subst (IsRefusal text) (same_broken (Err (record { rule = Packet; line = line })) (record { rule = Packet; line = line }) broken refl is)
        (broken_packet lead (stopping text stops.more (length stops.front + 1) stops.lexemes stops.rest other stops.line stops.why) found.0 found.1)

lines_refusal : (text : List ℕ) (tokens : List Token) (broken : Broken) → tokens_of text ≡ Ok tokens → read_lines text (lines_of text tokens) ≡ Err broken → IsRefusal text broken
unfolding read_lines
lines_refusal text tokens broken cut is = by (after_lines text 1 nothing (lines_of text tokens)) refl is
  where
    by : (r : Result State Broken) → after_lines text 1 nothing (lines_of text tokens) ≡ r → ended text (lines_of text tokens) r ≡ Err broken → IsRefusal text broken
    by (Ok s) ran here = all_refusal text tokens s broken cut ran here
    by (Err other) ran here =
        stopped_refusal text tokens other broken cut (after_stopped text (lines_of text tokens) 1 [] nothing other (meant_begins text) (whole_begins text) ran) here

read_refusal : (text : List ℕ) (broken : Broken) → read_of text ≡ Err broken → IsRefusal text broken
unfolding read_of
read_refusal text broken is = by (tokens_of text) refl is
  where
    by : (r : Result (List Token) Position) → tokens_of text ≡ r → read_tokens text r ≡ Err broken → IsRefusal text broken
    by (Ok tokens) cut here = lines_refusal text tokens broken cut here
    by (Err place) cut here = subst (IsRefusal text) (same_broken (Err (record { rule = BadByte; line = place.line })) (record { rule = BadByte; line = place.line }) broken refl here) (bad_byte cut)

-- a refusal of the text, as the caller is told it
pub told_refusal : (text : List ℕ) (e : AsmError) → Reads (Err e) (read_of text) → Refuses text (Err e)
told_refusal text (Rule rule line) is = read_refusal text (record { rule = rule; line = line }) is
told_refusal text NoMemory is = tt

-- the packets of an accepted text
whole_packets : (text : List ℕ) (lines : List (List Lexeme)) (t : State) → read_lines text lines ≡ Ok t → bad_line None t.sections ≡ None
unfolding read_lines
whole_packets text lines t is = by (after_lines text 1 nothing lines) (lines_after text lines t is) is
  where
    packets : (line : Option ℕ) (u : State) → or_packet line (Ok u) ≡ Ok t → line ≡ None
    packets None u here = refl
    packets (Some n) u here = absurd (cc)

    by : (r : Result State Broken) → r ≡ Ok t → ended text lines r ≡ Ok t → bad_line None t.sections ≡ None
    by (Ok u) ran here = let same : u ≡ t = cc in ap (λ (v : State). bad_line None v.sections) (sym same) ∙ packets (bad_line None u.sections) u here
    by (Err broken) ran here = absurd (cc)

-- an accepted text has the object that its lines mean
state_meant : (text : List ℕ) (tokens : List Token) (t : State) → tokens_of text ≡ Ok tokens → read_tokens text (Ok tokens) ≡ Ok t → IsObjectOf text (file_of text t.sections t.symbols)
state_meant text tokens t cut is =
    let lines = lines_of text tokens in
    let all = after_meant text lines 1 [] nothing t (meant_begins text) (whole_begins text) (lines_after text lines t is) in
    record {
      tokens = tokens;
      cut = cut;
      said = all.more;
      stand = record { say = all.says; break_none = all.stand; pass_none = all.limits };
      packets = subst (IsLeast (BreaksPacket text all.more)) (whole_packets text lines t is) (packets_found text lines all.more t.sections t.now all.says all.stand all.meant);
      sections = t.sections;
      symbols = t.symbols;
      made = made_of text all.more t all.meant all.whole;
      filed = refl;
    }

read_meant : (text : List ℕ) (t : State) → read_of text ≡ Ok t → IsObjectOf text (file_of text t.sections t.symbols)
unfolding read_of
read_meant text t is = by (tokens_of text) refl is
  where
    by : (r : Result (List Token) Position) → tokens_of text ≡ r → read_tokens text r ≡ Ok t → IsObjectOf text (file_of text t.sections t.symbols)
    by (Ok tokens) cut here = state_meant text tokens t cut here
    by (Err place) cut here = absurd (cc)

pub object_meant : (text : List ℕ) (o : Object) → read_of text ≡ Ok (state_of o) → IsObjectOf text (file_of text o.sections.items o.symbols.list.items)
object_meant text o is = read_meant text (state_of o) is
