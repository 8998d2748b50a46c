-- The sections of lines with one line more.
use Rattle.std.proofs.Common.{◌≡◌, ℕ, ◌<◌, ◌≤◌, ◌⊎◌, inl, inr, Bool, true, false, ◌||◌, List, [], ◌∷◌, ◌++◌, length, Option, Some, None, refl, sym, ◌∙◌, ap, subst, arith, append_assoc, append-nil}
use Rattle.std.specs.Prelude.{if◌then◌else◌, slice_set}
use Rattle.std.specs.Str.{bytes_eq}
use Rattle.std.proofs.lemmas.Bool.{cases_eq, cases_lt, true≢false}
use Rattle.std.proofs.lemmas.List.{get_or-map, get_or_append_left, get_or_push, get_or-set_other, get_or-set_same, length-set, length_push, map-append, map-set, set-get_or}
use Rattle.std.proofs.lemmas.Slice.Eq.{bytes_eq-Decides}
use Rattle.c6x_asm_lines.specs.Bytes.{bytes_at}
use Rattle.c6x_asm_lines.specs.declared.word.Word.{Word}
use Rattle.c6x_asm_instr.specs.declared.directive.Directive.TheVariants.{Section}
use Rattle.c6x_asm_object.specs.declared.asm_section.AsmSection.{AsmSection}
use Rattle.c6x_asm_object.specs.Kinds.{kind_named}
use Rattle.c6x_asm_object.specs.Named.{section_name, section_names}
use Rattle.c6x_asm_object.specs.Sections.{empty_section, is_zero, no_section, section_at}
use Rattle.c6x_asm.specs.Said.{Saying, says_directive, Said}
use Rattle.c6x_asm.specs.Sections.{all_entered, behind_line, behind_lines, entered_by, firsts, is_among, is_here, lines_in, names_of_sections}
use Rattle.c6x_asm.proofs.Firsts.{among_all, firsts_push, found_among}
use Rattle.c6x_asm.proofs.Grown.{IsIdle, IsSectionState, directing, idle_state}

pub behind_push : (text : List ℕ) (here : Option (List ℕ)) (said : List Said) (l : Said) → behind_lines text here (said ++ l ∷ []) ≡ behind_line text l.saying (behind_lines text here said)
behind_push text here [] l = refl
behind_push text here (x ∷ said) l = behind_push text (behind_line text x.saying here) said l

pub entered_push : (text : List ℕ) (said : List Said) (l : Said) → all_entered text (said ++ l ∷ []) ≡ all_entered text said ++ entered_by text l.saying
entered_push text [] l = append-nil (entered_by text l.saying)
entered_push text (x ∷ said) l = ap (λ ns. entered_by text x.saying ++ ns) (entered_push text said l) ∙ sym (append_assoc (entered_by text x.saying) (all_entered text said) (entered_by text l.saying))

pub lines_push : (text name : List ℕ) (here : Option (List ℕ)) (said : List Said) (l : Said) → lines_in text name here (said ++ l ∷ []) ≡ lines_in text name here said ++ (if is_here name (behind_lines text here said) then l ∷ [] else [])
lines_push text name here [] l = append-nil (if is_here name here then l ∷ [] else [])
lines_push text name here (x ∷ said) l =
    let next = behind_line text x.saying here in
    let first : List Said = if is_here name here then x ∷ [] else [] in
    ap (λ ls. first ++ ls) (lines_push text name next said l) ∙ sym (append_assoc first (lines_in text name next said) (if is_here name (behind_lines text next said) then l ∷ [] else []))

abbrev pub name_of : List ℕ → List AsmSection → ℕ → List ℕ
name_of text sections i = section_name text (section_at sections i)

-- lines go to the section with this number, which has this name
abbrev pub IsHere : List ℕ → List AsmSection → Option ℕ → Option (List ℕ) → Type 0
IsHere text sections None None = Unit {0}
IsHere text sections None (Some name) = ⊥
IsHere text sections (Some i) None = ⊥
IsHere text sections (Some i) (Some name) = (i < length sections) × (name_of text sections i ≡ name)

-- the sections that lines make, and the one that they go to
pub record IsMeant (text : List ℕ) (said : List Said) (sections : List AsmSection) (now : Option ℕ) : Type 0 where
  pub names : section_names text sections ≡ names_of_sections text said
  pub distinct : (i j : ℕ) → i < length sections → j < length sections → name_of text sections i ≡ name_of text sections j → i ≡ j
  pub here : IsHere text sections now (behind_lines text None said)
  pub each : (i : ℕ) → i < length sections → IsSectionState (name_of text sections i) (lines_in text (name_of text sections i) None said) (section_at sections i)

-- a line that is no `.sect`
pub record IsStaying (text : List ℕ) (s : Saying) : Type 0 where
  pub here : (here : Option (List ℕ)) → behind_line text s here ≡ here
  pub names : entered_by text s ≡ []

names_stay : (text : List ℕ) (said : List Said) (l : Said) → IsStaying text l.saying → names_of_sections text (said ++ l ∷ []) ≡ names_of_sections text said
names_stay text said l stays = ap (firsts []) (entered_push text said l ∙ ap (λ ns. all_entered text said ++ ns) stays.names ∙ append-nil (all_entered text said))

here_stays : (text : List ℕ) (said : List Said) (l : Said) → IsStaying text l.saying → behind_lines text None (said ++ l ∷ []) ≡ behind_lines text None said
here_stays text said l stays = behind_push text None said l ∙ stays.here (behind_lines text None said)

-- a line that puts nothing, wherever it goes
idle_each : (text name : List ℕ) (said : List Said) (l : Said) (p : AsmSection) → IsIdle l.saying → IsSectionState name (lines_in text name None said) p → IsSectionState name (lines_in text name None (said ++ l ∷ [])) p
idle_each text name said l p idle state =
    subst (λ lines. IsSectionState name lines p) (sym (lines_push text name None said l)) (by (is_here name (behind_lines text None said)))
  where
    by : (b : Bool) → IsSectionState name (lines_in text name None said ++ (if b then l ∷ [] else [])) p
    by true = idle_state name (lines_in text name None said) l p idle state
    by false = subst (λ lines. IsSectionState name lines p) (sym (append-nil (lines_in text name None said))) state

pub idle_meant : (text : List ℕ) (said : List Said) (l : Said) (sections : List AsmSection) (now : Option ℕ) → IsIdle l.saying → IsStaying text l.saying → IsMeant text said sections now → IsMeant text (said ++ l ∷ []) sections now
idle_meant text said l sections now idle stays meant = record {
  names = meant.names ∙ sym (names_stay text said l stays);
  distinct = meant.distinct;
  here = subst (IsHere text sections now) (sym (here_stays text said l stays)) meant.here;
  each = λ i inside. idle_each text (name_of text sections i) said l (section_at sections i) idle (meant.each i inside);
}

-- the section that lines go to, by its number
pub record IsThere (text : List ℕ) (sections : List AsmSection) (i : ℕ) (here : Option (List ℕ)) : Type 0 where
  pub name : List ℕ
  pub is : here ≡ Some name
  pub inside : i < length sections
  pub named : name_of text sections i ≡ name

pub there : (text : List ℕ) (sections : List AsmSection) (i : ℕ) (here : Option (List ℕ)) → IsHere text sections (Some i) here → IsThere text sections i here
there text sections i None is = absurd is
there text sections i (Some name) is = record { name = name; is = refl; inside = is.0; named = is.1 }

-- a section with another of its name in its place
pub kept_name : (text : List ℕ) (sections : List AsmSection) (i : ℕ) (q : AsmSection) → i < length sections → section_name text q ≡ name_of text sections i → (j : ℕ) → name_of text (slice_set sections i q) j ≡ name_of text sections j
kept_name text sections i q inside same j = by (cases_eq j i)
  where
    by : (j ≡ i) ⊎ (j ≡ i → ⊥) → name_of text (slice_set sections i q) j ≡ name_of text sections j
    by (inl is) =
        ap (name_of text (slice_set sections i q)) is ∙ ap (section_name text) (get_or-set_same sections i q no_section inside) ∙ same ∙ ap (name_of text sections) (sym is)
    by (inr other) = ap (section_name text) (get_or-set_other sections i j q no_section other)

kept_names : (text : List ℕ) (sections : List AsmSection) (i : ℕ) (q : AsmSection) → i < length sections → section_name text q ≡ name_of text sections i → section_names text (slice_set sections i q) ≡ section_names text sections
kept_names text sections i q inside same =
    let names = section_names text sections in
    map-set (section_name text) sections i q
    ∙ ap (slice_set names i) (same ∙ sym (get_or-map (section_name text) sections i no_section [] inside))
    ∙ set-get_or names i []

-- lines of another section
pub not_here : (text name : List ℕ) (said : List Said) (l : Said) → is_here name (behind_lines text None said) ≡ false → lines_in text name None (said ++ l ∷ []) ≡ lines_in text name None said
not_here text name said l is = lines_push text name None said l ∙ ap (λ b. lines_in text name None said ++ (if b then l ∷ [] else [])) is ∙ append-nil (lines_in text name None said)

pub here_lines : (text name : List ℕ) (said : List Said) (l : Said) → is_here name (behind_lines text None said) ≡ true → lines_in text name None (said ++ l ∷ []) ≡ lines_in text name None said ++ l ∷ []
here_lines text name said l is = lines_push text name None said l ∙ ap (λ b. lines_in text name None said ++ (if b then l ∷ [] else [])) is

pub differ : (a b : List ℕ) → (a ≡ b → ⊥) → bytes_eq a b ≡ false
differ a b other = by (bytes_eq a b) refl
  where
    by : (t : Bool) → bytes_eq a b ≡ t → bytes_eq a b ≡ false
    by true is = absurd (other ((bytes_eq-Decides a b).0 is))
    by false is = is

pub here_name : (text : List ℕ) (said : List Said) (sections : List AsmSection) (i : ℕ) → IsMeant text said sections (Some i) → is_here (name_of text sections i) (behind_lines text None said) ≡ true
here_name text said sections i meant =
    let at = there text sections i (behind_lines text None said) meant.here in
    ap (is_here (name_of text sections i)) at.is ∙ (bytes_eq-Decides at.name (name_of text sections i)).1 (sym at.named)

pub other_name : (text : List ℕ) (said : List Said) (sections : List AsmSection) (i j : ℕ) → j < length sections → (j ≡ i → ⊥) → IsMeant text said sections (Some i) → is_here (name_of text sections j) (behind_lines text None said) ≡ false
other_name text said sections i j inside other meant =
    let at = there text sections i (behind_lines text None said) meant.here in
    ap (is_here (name_of text sections j)) at.is ∙ differ at.name (name_of text sections j) (λ is. other (meant.distinct j i inside at.inside (sym (at.named ∙ is))))

-- the section that lines go to has grown by a line
pub grown_meant : (text : List ℕ) (said : List Said) (l : Said) (sections : List AsmSection) (i : ℕ) (q : AsmSection) → IsStaying text l.saying → IsMeant text said sections (Some i) → section_name text q ≡ name_of text sections i → IsSectionState (name_of text sections i) (lines_in text (name_of text sections i) None said ++ l ∷ []) q → IsMeant text (said ++ l ∷ []) (slice_set sections i q) (Some i)
grown_meant text said l sections i q stays meant same state = record {
  names = kept_names text sections i q at.inside same ∙ meant.names ∙ sym (names_stay text said l stays);
  distinct = λ a b first second is. meant.distinct a b (omega (arith, first, count)) (omega (arith, second, count)) (sym (kept a) ∙ is ∙ kept b);
  here = subst (IsHere text (slice_set sections i q) (Some i)) (sym (here_stays text said l stays ∙ at.is)) (omega (arith, at.inside, count), kept i ∙ at.named);
  each = λ j inside. by j (omega (arith, inside, count)) (cases_eq j i);
}
  where
    at : IsThere text sections i (behind_lines text None said)
    at = there text sections i (behind_lines text None said) meant.here

    count : length (slice_set sections i q) ≡ length sections
    count = length-set sections i q

    kept : (j : ℕ) → name_of text (slice_set sections i q) j ≡ name_of text sections j
    kept j = kept_name text sections i q (there text sections i (behind_lines text None said) meant.here).inside same j

    by : (j : ℕ) → j < length sections → (j ≡ i) ⊎ (j ≡ i → ⊥) → IsSectionState (name_of text (slice_set sections i q) j) (lines_in text (name_of text (slice_set sections i q) j) None (said ++ l ∷ [])) (section_at (slice_set sections i q) j)
    by j inside (inl is) =
        let at = there text sections i (behind_lines text None said) meant.here in
        let put : section_at (slice_set sections i q) j ≡ q = ap (section_at (slice_set sections i q)) is ∙ get_or-set_same sections i q no_section at.inside in
        let name : name_of text (slice_set sections i q) j ≡ name_of text sections i = kept j ∙ ap (name_of text sections) is in
        subst (λ p. IsSectionState (name_of text (slice_set sections i q) j) (lines_in text (name_of text (slice_set sections i q) j) None (said ++ l ∷ [])) p) (sym put)
        (subst (λ n. IsSectionState n (lines_in text n None (said ++ l ∷ [])) q) (sym name)
        (subst (λ lines. IsSectionState (name_of text sections i) lines q) (sym (here_lines text (name_of text sections i) said l (here_name text said sections i meant))) state))
    by j inside (inr other) =
        let put : section_at (slice_set sections i q) j ≡ section_at sections j = get_or-set_other sections i j q no_section other in
        subst (λ p. IsSectionState (section_name text p) (lines_in text (section_name text p) None (said ++ l ∷ [])) p) (sym put)
        (subst (λ lines. IsSectionState (name_of text sections j) lines (section_at sections j)) (sym (not_here text (name_of text sections j) said l (other_name text said sections i j inside other meant))) (meant.each j inside))

-- a `.sect` puts nothing
pub section_idle : (at len : ℕ) → IsIdle (says_directive (Section at len))
section_idle at len = record { puts = λ place. refl; plain = refl; align = λ align. refl; ends = λ place. refl; words = λ number. refl }

section_names_push : (text : List ℕ) (said : List Said) (l : Said) (n : List ℕ) → entered_by text l.saying ≡ n ∷ [] → names_of_sections text (said ++ l ∷ []) ≡ names_of_sections text said ++ (if is_among (all_entered text said) n then [] else n ∷ [])
section_names_push text said l n is = ap (firsts []) (entered_push text said l ∙ ap (λ ns. all_entered text said ++ ns) is) ∙ firsts_push [] (all_entered text said) n

-- a `.sect` of a section that there is
pub entered_meant : (text : List ℕ) (said : List Said) (number : ℕ) (label : Option Word) (at len i : ℕ) (sections : List AsmSection) (now : Option ℕ) → i < length sections → name_of text sections i ≡ bytes_at text at len → IsMeant text said sections now → IsMeant text (said ++ directing number label (Section at len) ∷ []) sections (Some i)
entered_meant text said number label at len i sections now inside named meant =
    let l = directing number label (Section at len) in
    let n = bytes_at text at len in
    let among : is_among (all_entered text said) n ≡ true = sym (among_all (all_entered text said) n) ∙ ap (λ ns. is_among ns n) (sym meant.names) ∙ found_among (section_name text) sections n i no_section inside named in
    record {
      names = meant.names ∙ sym (section_names_push text said l n refl ∙ ap (λ b. names_of_sections text said ++ (if b then [] else n ∷ [])) among ∙ append-nil (names_of_sections text said));
      distinct = meant.distinct;
      here = subst (IsHere text sections (Some i)) (sym (behind_push text None said l)) (inside, named);
      each = λ j there. idle_each text (name_of text sections j) said l (section_at sections j) (section_idle at len) (meant.each j there);
    }

-- no line goes to a section that no `.sect` names
or_parts : (a b : Bool) → (a || b) ≡ false → (a ≡ false) × (b ≡ false)
or_parts true b is = absurd (true≢false is)
or_parts false b is = (refl, is)

pub unentered : (text n : List ℕ) (here : Option (List ℕ)) (said : List Said) → is_here n here ≡ false → is_among (all_entered text said) n ≡ false → (lines_in text n here said ≡ []) × (is_here n (behind_lines text here said) ≡ false)
unentered text n here [] away none = (refl, away)
unentered text n here (x ∷ said) away none =
    let rest = by x.saying none (λ next off free. unentered text n next said off free) in
    (ap (λ b. (if b then x ∷ [] else []) ++ lines_in text n (behind_line text x.saying here) said) away ∙ rest.0, rest.1)
  where
    by : (s : Saying) → is_among (entered_by text s ++ all_entered text said) n ≡ false → ((next : Option (List ℕ)) → is_here n next ≡ false → is_among (all_entered text said) n ≡ false → (lines_in text n next said ≡ []) × (is_here n (behind_lines text next said) ≡ false)) → (lines_in text n (behind_line text s here) said ≡ []) × (is_here n (behind_lines text (behind_line text s here) said) ≡ false)
    by (says_directive (Section at len)) none more =
        let parts = or_parts (bytes_eq (bytes_at text at len) n) (is_among (all_entered text said) n) none in
        more (Some (bytes_at text at len)) parts.0 parts.1
    by s none more = more here away none

pub empty_state : (text : List ℕ) (at len : ℕ) → IsSectionState (bytes_at text at len) [] (empty_section at len (kind_named (bytes_at text at len)))
unfolding empty_section
empty_state text at len = record {
  is = record { kind = refl; align = refl; size = refl; bytes = by (is_zero (kind_named (bytes_at text at len))) [] };
  last = refl;
  instructions = refl;
}
  where
    by : (b : Bool) (xs : List ℕ) → xs ≡ (if b then xs else xs)
    by true xs = refl
    by false xs = refl

-- one section more
last_name : (text : List ℕ) (sections : List AsmSection) (p : AsmSection) → name_of text (sections ++ p ∷ []) (length sections) ≡ section_name text p
last_name text sections p = ap (section_name text) (get_or_push sections p no_section (length sections) refl)

old_name : (text : List ℕ) (sections : List AsmSection) (p : AsmSection) (i : ℕ) → i < length sections → name_of text (sections ++ p ∷ []) i ≡ name_of text sections i
old_name text sections p i inside = ap (section_name text) (get_or_append_left sections (p ∷ []) no_section i inside)

pub which : (sections : List AsmSection) (p : AsmSection) (i : ℕ) → i < length (sections ++ p ∷ []) → (i < length sections) ⊎ (i ≡ length sections)
which sections p i inside = by (cases_lt i (length sections))
  where
    by : (i < length sections) ⊎ (length sections ≤ i) → (i < length sections) ⊎ (i ≡ length sections)
    by (inl below) = inl below
    by (inr above) = inr (omega (arith, length_push sections p))

never_among : (text : List ℕ) (sections : List AsmSection) (n : List ℕ) (i : ℕ) → is_among (section_names text sections) n ≡ false → i < length sections → name_of text sections i ≡ n → ⊥
never_among text sections n i new inside is = true≢false (sym (found_among (section_name text) sections n i no_section inside is) ∙ new)

apart : (text : List ℕ) (sections : List AsmSection) (p : AsmSection) (n : List ℕ) → section_name text p ≡ n → is_among (section_names text sections) n ≡ false → ((i j : ℕ) → i < length sections → j < length sections → name_of text sections i ≡ name_of text sections j → i ≡ j) → (i j : ℕ) → (i < length sections) ⊎ (i ≡ length sections) → (j < length sections) ⊎ (j ≡ length sections) → name_of text (sections ++ p ∷ []) i ≡ name_of text (sections ++ p ∷ []) j → i ≡ j
apart text sections p n named new distinct i j (inl first) (inl second) is = distinct i j first second (sym (old_name text sections p i first) ∙ is ∙ old_name text sections p j second)
apart text sections p n named new distinct i j (inl first) (inr second) is =
    absurd (never_among text sections n i new first (sym (old_name text sections p i first) ∙ is ∙ ap (name_of text (sections ++ p ∷ [])) second ∙ last_name text sections p ∙ named))
apart text sections p n named new distinct i j (inr first) (inl second) is =
    absurd (never_among text sections n j new second (sym (old_name text sections p j second) ∙ sym is ∙ ap (name_of text (sections ++ p ∷ [])) first ∙ last_name text sections p ∙ named))
apart text sections p n named new distinct i j (inr first) (inr second) is = first ∙ sym second

-- a `.sect` of a new section
pub added_meant : (text : List ℕ) (said : List Said) (number : ℕ) (label : Option Word) (at len : ℕ) (sections : List AsmSection) (now : Option ℕ) (p : AsmSection) → section_name text p ≡ bytes_at text at len → IsSectionState (bytes_at text at len) [] p → is_among (section_names text sections) (bytes_at text at len) ≡ false → IsMeant text said sections now → IsMeant text (said ++ directing number label (Section at len) ∷ []) (sections ++ p ∷ []) (Some (length sections))
added_meant text said number label at len sections now p named empty new meant =
    let n = bytes_at text at len in
    let l = directing number label (Section at len) in
    let all = sections ++ p ∷ [] in
    let none : is_among (all_entered text said) n ≡ false = sym (among_all (all_entered text said) n) ∙ ap (λ ns. is_among ns n) (sym meant.names) ∙ new in
    let bare = unentered text n None said refl none in
    let lines : lines_in text n None (said ++ l ∷ []) ≡ [] = not_here text n said l bare.1 ∙ bare.0 in
    record {
      names =
          map-append (section_name text) sections (p ∷ [])
          ∙ ap (λ ns. ns ++ section_name text p ∷ []) meant.names
          ∙ ap (λ m. names_of_sections text said ++ m ∷ []) named
          ∙ sym (section_names_push text said l n refl ∙ ap (λ b. names_of_sections text said ++ (if b then [] else n ∷ [])) none);
      distinct = λ i j first second is. apart text sections p n named new meant.distinct i j (which sections p i first) (which sections p j second) is;
      here = subst (IsHere text all (Some (length sections))) (sym (behind_push text None said l)) (omega (arith, length_push sections p), last_name text sections p ∙ named);
      each = λ i inside. by i lines (which sections p i inside);
    }
  where
    by : (i : ℕ) → lines_in text (bytes_at text at len) None (said ++ directing number label (Section at len) ∷ []) ≡ [] → (i < length sections) ⊎ (i ≡ length sections) → IsSectionState (name_of text (sections ++ p ∷ []) i) (lines_in text (name_of text (sections ++ p ∷ []) i) None (said ++ directing number label (Section at len) ∷ [])) (section_at (sections ++ p ∷ []) i)
    by i lines (inl below) =
        let l = directing number label (Section at len) in
        subst (λ q. IsSectionState (section_name text q) (lines_in text (section_name text q) None (said ++ l ∷ [])) q) (sym (get_or_append_left sections (p ∷ []) no_section i below))
        (idle_each text (name_of text sections i) said l (section_at sections i) (section_idle at len) (meant.each i below))
    by i lines (inr last) =
        let l = directing number label (Section at len) in
        let put : section_at (sections ++ p ∷ []) i ≡ p = ap (section_at (sections ++ p ∷ [])) last ∙ get_or_push sections p no_section (length sections) refl in
        subst (λ q. IsSectionState (section_name text q) (lines_in text (section_name text q) None (said ++ l ∷ [])) q) (sym put)
        (subst (λ n. IsSectionState n (lines_in text n None (said ++ l ∷ [])) p) (sym named)
        (subst (λ ls. IsSectionState (bytes_at text at len) ls p) (sym lines) empty))
