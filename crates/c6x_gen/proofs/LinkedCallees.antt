-- The names that an executable calls stand in its text.
use Rattle.std.proofs.Common.{◌≡◌, ℕ, zero, suc, ◌+◌, ◌<◌, ◌≤◌, true, false, List, [], ◌∷◌, ◌++◌, length, map, codes, None, filter, refl, ap, sym, ◌∙◌, subst, arith, ⊎_elim}
use Rattle.std.proofs.lemmas.Bool.{cases_eq}
use Rattle.std.proofs.lemmas.List.{append-nil, append_assoc, length-append, map-append}
use Rattle.c6x_asm_lines.specs.Bytes.{bytes_at}
use Rattle.c6x_dis.proofs.Lexed.{bytes_seam}
use Rattle.c6x_asm_object.specs.Bindings.{binding, is_local, is_other}
use Rattle.c6x_asm_object.specs.FormSymbols.{name_entries}
use Rattle.c6x_asm_object.specs.Symbols.{symbol_name}
use Rattle.c6x_asm_object.specs.declared.symbol.Symbol.{Symbol}
use Rattle.c6x_gen.specs.Lists.{each_below}
use Rattle.c6x_gen.specs.Sources.{app_source, call_line, called, calls, closing, library_name, opening}
use Rattle.c6x_gen.specs.Objects.{callee, callee_place}
use Rattle.c6x_gen.proofs.AppFile.{callee_names, import_entries}
use Rattle.c6x_gen.proofs.Prefixes.{in_front}

-- the lines cut in front of one
record Cut (f : ℕ → List ℕ) (count line : ℕ) : Type 0 where
  rest : List ℕ
  is : each_below count f ≡ each_below line f ++ (f line ++ rest)

cut_at : (f : ℕ → List ℕ) (count line : ℕ) → line < count → Cut f count line
unfolding each_below
cut_at f zero line below = absurd (omega (arith, below))
cut_at f (suc last) line below =
    ⊎_elim (λ (is : line ≡ last). subst (λ k. Cut f (suc last) k) (sym is) here) (λ (other : line ≡ last → ⊥). further (cut_at f last line (omega (arith, below, other))))
    (cases_eq line last)
  where
    here : Cut f (suc last) last
    here = record { rest = []; is = ap (λ bs. each_below last f ++ bs) (sym (append-nil (f last))) }

    further : Cut f last line → Cut f (suc last) line
    further cut = record {
      rest = cut.rest ++ f last;
      is =
          ap (λ bs. bs ++ f last) cut.is
          ∙ (append_assoc (each_below line f) (f line ++ cut.rest) (f last) ∙ ap (λ bs. each_below line f ++ bs) (append_assoc (f line) cut.rest (f last)));
    }

-- what stands behind a name stands last
behind_name : (call name end rest close : List ℕ) → ((call ++ name ++ end) ++ rest) ++ close ≡ call ++ (name ++ (end ++ (rest ++ close)))
behind_name call name end rest close =
    append_assoc (call ++ name ++ end) rest close
    ∙ (append_assoc (call ++ name) end (rest ++ close) ∙ append_assoc call name (end ++ (rest ++ close)))

shaped : (first lines call name end rest close : List ℕ) → first ++ (lines ++ ((call ++ name ++ end) ++ rest)) ++ close ≡ (first ++ lines ++ call) ++ (name ++ (end ++ (rest ++ close)))
shaped first lines call name end rest close =
    let behind = name ++ (end ++ (rest ++ close)) in
    append_assoc first (lines ++ ((call ++ name ++ end) ++ rest)) close
    ∙ (ap (λ bs. first ++ bs) (append_assoc lines ((call ++ name ++ end) ++ rest) close ∙ ap (λ bs. lines ++ bs) (behind_name call name end rest close))
    ∙ sym (append_assoc (first ++ lines) call behind ∙ append_assoc first lines (call ++ behind)))

abbrev call_front : List ℕ
call_front = codes "        CALLP .S2 "

callee_found : (n line : ℕ) → line < calls n → symbol_name (app_source n) (callee n line) ≡ library_name (called n line)
unfolding app_source
callee_found n line below =
    let cut = cut_at (call_line n) (calls n) line below in
    let name = library_name (called n line) in
    let lines = each_below line (call_line n) in
    let is = ap (λ bs. opening ++ bs ++ closing) cut.is ∙ shaped opening lines call_front name (codes ",B3\n") cut.rest closing in
    let place : callee_place n line ≡ length (opening ++ lines ++ call_front) = sym (length-append (opening ++ lines) call_front) in
    bytes_seam (app_source n) (opening ++ lines ++ call_front) name (codes ",B3\n" ++ (cut.rest ++ closing)) (callee_place n line) is place

-- the names of the section and of the executable's function stand in what opens the text
pub opening_held : (n at len : ℕ) → at + len ≤ 50 → bytes_at (app_source n) at len ≡ bytes_at opening at len
unfolding app_source
opening_held n at len within =
    ap (λ text. bytes_at text at len) (append_assoc opening (each_below (calls n) (call_line n)) closing)
    ∙ in_front opening (each_below (calls n) (call_line n) ++ closing) at len (omega (arith, within))

abbrev pub callees : ℕ → ℕ → List Symbol
callees n count = each_below count (λ line. callee n line ∷ [])

pub names_found : (n count : ℕ) → count ≤ calls n → map (symbol_name (app_source n)) (callees n count) ≡ callee_names n count
unfolding each_below
names_found n zero few = refl
names_found n (suc last) few =
    map-append (symbol_name (app_source n)) (callees n last) (callee n last ∷ [])
    ∙ (ap (λ names. names ++ symbol_name (app_source n) (callee n last) ∷ []) (names_found n last (omega (arith, few)))
    ∙ ap (λ name. callee_names n last ++ name ∷ []) (callee_found n last (omega (arith, few))))

-- a name without a place
pub record IsImport (s : Symbol) : Type 0 where
  pub nowhere : s.definition ≡ None
  pub strong : s.weak ≡ false
  pub own : s.global ≡ false
  pub shown : s.hidden ≡ false

abbrev pub AreImports : List Symbol → Type 0
AreImports [] = Unit {0}
AreImports (s ∷ symbols) = IsImport s × AreImports symbols

one_more : (symbols : List Symbol) (s : Symbol) → AreImports symbols → IsImport s → AreImports (symbols ++ s ∷ [])
one_more [] s are is = (is, tt)
one_more (first ∷ symbols) s are is = (are.0, one_more symbols s are.1 is)

pub callees_imports : (n count : ℕ) → AreImports (callees n count)
unfolding each_below
callees_imports n zero = tt
callees_imports n (suc last) = one_more (callees n last) (callee n last) (callees_imports n last) (record { nowhere = refl; strong = refl; own = refl; shown = refl })

pub none_local : (symbols : List Symbol) → AreImports symbols → filter is_local symbols ≡ []
unfolding binding
none_local [] are = refl
none_local (s ∷ symbols) are = rw (are.0.strong, are.0.own, are.0.nowhere) (none_local symbols are.1)

is_shared : (s : Symbol) → IsImport s → is_other s ≡ true
unfolding binding
is_shared s is = rw (is.strong, is.own, is.nowhere) refl

pub all_other : (symbols : List Symbol) → AreImports symbols → filter is_other symbols ≡ symbols
all_other [] are = refl
all_other (s ∷ symbols) are = rw (is_shared s are.0) (ap (λ ss. s ∷ ss) (all_other symbols are.1))

pub entries_are : (text : List ℕ) (at : ℕ) (symbols : List Symbol) → AreImports symbols → name_entries text at symbols ≡ import_entries at (map (symbol_name text) symbols)
unfolding binding
entries_are text at [] are = refl
entries_are text at (s ∷ symbols) are =
    rw (are.0.strong, are.0.own, are.0.nowhere, are.0.shown, entries_are text (at + (length (symbol_name text s) + 1)) symbols are.1) refl
