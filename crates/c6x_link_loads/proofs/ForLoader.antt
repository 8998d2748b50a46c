-- The entries for the loader: of words in the data, of two kinds, on the dynamic symbols.
use Rattle.std.proofs.Common.{◌≡◌, ℕ, ◌+◌, ◌*◌, ◌/◌, ◌%◌, ◌^◌, ◌<◌, ◌≤◌, ◌⊎◌, inl, inr, Bool, true, false, List, [], ◌∷◌, length, map, pos, refl, sym, ap, subst, ◌∙◌, arith, if◌then◌else◌}
use Rattle.std.proofs.lemmas.Int.{SFits-int_wrap, fits_signed_from_abs}
use Rattle.std.proofs.lemmas.List.Elements.{All-append, All-cons, All-head, All-nil, All-tail}
use Rattle.std.specs.Int.{cast_signed, int_wrap, w32}
use Rattle.std.specs.List.{enumerate_from, flat_map}
use Rattle.std.specs.Prelude.{All, FitsSigned}
use Rattle.c6x_dsbt.specs.Needs.{stubs_of}
use Rattle.c6x_dsbt.specs.declared.wanted.Wanted.{Wanted}
use Rattle.c6x_elf.specs.Types.{Rela}
use Rattle.c6x_layout.specs.Dynamics.{is_filled_word}
use Rattle.c6x_link.proofs.Placed.{has_few_symbols}
use Rattle.c6x_link.specs.Linked.{parts_of}
use Rattle.c6x_link.specs.Exports.{shared_of}
use Rattle.c6x_link.specs.Words.{rela_on, stub_rela, stub_relas, word_rela, word_relas}
use Rattle.c6x_link.specs.Worked.{IsWorkedOut}
use Rattle.c6x_link.specs.Targets.{import_symbol, target_of}
use Rattle.c6x_link.specs.Working.{Working}
use Rattle.c6x_link_loads.specs.Loads.{IsForLoader}
use Rattle.c6x_reloc.specs.Table.{row_of}
use Rattle.c6x_reloc.specs.Value.{less}
use Rattle.c6x_reloc.specs.declared.reloc_kind.RelocKind.TheVariants.{ABS32, JUMP_SLOT}
use Rattle.c6x_link_loads.proofs.Imports.{IsImportAt, import_among, import_at, stubs_import, target_among}
use Rattle.c6x_link_loads.proofs.Laid.{has_place}

-- the numbers of the kinds
pub word_number : (row_of ABS32).number ≡ 1
unfolding row_of
word_number = refl

slot_number : (row_of JUMP_SLOT).number ≡ 27
unfolding row_of
slot_number = refl

signed_fits : (n : ℕ) → n < 2 ^ 32 → FitsSigned w32 (cast_signed w32 n)
unfolding int_wrap
signed_fits n small =
    let same : n % 2 ^ 32 ≡ n = omega (arith, small) in
    let P : ℕ → Type 0 = λ k. FitsSigned w32 (cast_signed w32 k) in
    subst P same (SFits-int_wrap w32 (pos n))

pub less_fits : (a b : ℕ) → FitsSigned w32 (cast_signed w32 (less a b))
less_fits a b = signed_fits (less a b) (omega arith)

-- an entry by its numbers
pub record HasNumbers (w : Working) (r : Rela) : Type 0 where
  pub above : w.layout.table ≤ r.offset
  pub below : r.offset + 4 ≤ w.layout.end
  pub number : ℕ
  pub kind : ℕ
  pub info : r.info ≡ number * 256 + kind
  pub known : (kind ≡ 1) ⊎ (kind ≡ 27)
  pub small : number < 2 ^ 24
  pub among : number < length (shared_of w) + 3
  pub addend : FitsSigned w32 r.addend

info_kind : (number kind : ℕ) → (kind ≡ 1) ⊎ (kind ≡ 27) → (number * 256 + kind) % 256 ≡ kind
info_kind number kind (inl is) = omega (arith, is)
info_kind number kind (inr is) = omega (arith, is)

info_symbol : (number kind : ℕ) → (kind ≡ 1) ⊎ (kind ≡ 27) → (number * 256 + kind) / 256 ≡ number
info_symbol number kind (inl is) = omega (arith, is)
info_symbol number kind (inr is) = omega (arith, is)

info_small : (number kind : ℕ) → (kind ≡ 1) ⊎ (kind ≡ 27) → number < 2 ^ 24 → number * 256 + kind < 2 ^ 32
info_small number kind (inl is) small = omega (arith, is, small)
info_small number kind (inr is) small = omega (arith, is, small)

known_kind : (n kind : ℕ) → n ≡ kind → (kind ≡ 1) ⊎ (kind ≡ 27) → (n ≡ 1) ⊎ (n ≡ 27)
known_kind n kind same (inl is) = inl (same ∙ is)
known_kind n kind same (inr is) = inr (same ∙ is)

pub for_loader : (w : Working) (r : Rela) → IsWorkedOut w → HasNumbers w r → IsForLoader (parts_of w) r
unfolding parts_of
for_loader w r worked has =
    let place = has_place w worked in
    let end = place.end in
    let memory = place.memory in
    let above = has.above in
    let below = has.below in
    let small = info_small has.number has.kind has.known has.small in
    let symbol : r.info / 256 ≡ has.number = ap (λ n. n / 256) has.info ∙ info_symbol has.number has.kind has.known in
    let among = has.among in
    let info = has.info in
    record {
      fits = record { offset = omega (arith, below, end); info = omega (arith, info, small); addend = has.addend };
      kind = known_kind (r.info % 256) has.kind (ap (λ n. n % 256) has.info ∙ info_kind has.number has.kind has.known) has.known;
      symbol = omega (arith, symbol, among);
      inside = record { above = above; within = omega (arith, below, memory) };
    }

-- value words
word_numbers : (w : Working) (place : ℕ) (wanted : Wanted) → IsWorkedOut w → place < length w.words → HasNumbers w (rela_on w place (target_of w wanted))
word_numbers w place wanted worked below =
    let p = has_place w worked in
    let words = p.words in
    let end = p.words_end in
    record {
      above = omega (arith, words);
      below = omega (arith, end, below);
      number = (target_of w wanted).symbol;
      kind = 1;
      info = ap (λ k. (target_of w wanted).symbol * 256 + k) word_number;
      known = inl refl;
      small = (has_few_symbols w worked).targets wanted;
      among = target_among w wanted;
      addend = less_fits (target_of w wanted).address (target_of w wanted).start;
    }

word_one : (w : Working) (place : ℕ) (wanted : Wanted) → IsWorkedOut w → place < length w.words → All (IsForLoader (parts_of w)) (word_rela w (place, wanted))
unfolding word_rela
word_one w place wanted worked below = either (is_filled_word w.objects w.bindings wanted)
  where
    either : (t : Bool) → All (IsForLoader (parts_of w)) (if t then rela_on w place (target_of w wanted) ∷ [] else [])
    either true =
        All-cons (IsForLoader (parts_of w)) (rela_on w place (target_of w wanted)) [] (for_loader w (rela_on w place (target_of w wanted)) worked (word_numbers w place wanted worked below))
        (All-nil (IsForLoader (parts_of w)))
    either false = All-nil (IsForLoader (parts_of w))

words_from : (w : Working) (place : ℕ) (words : List Wanted) → IsWorkedOut w → place + length words ≤ length w.words → All (IsForLoader (parts_of w)) (flat_map (word_rela w) (enumerate_from place words))
words_from w place [] worked below = All-nil (IsForLoader (parts_of w))
words_from w place (x ∷ xs) worked below =
    All-append (IsForLoader (parts_of w)) (word_rela w (place, x)) (flat_map (word_rela w) (enumerate_from (place + 1) xs))
    (word_one w place x worked (omega (arith, below))) (words_from w (place + 1) xs worked (omega (arith, below)))

pub words_load : (w : Working) → IsWorkedOut w → All (IsForLoader (parts_of w)) (word_relas w)
unfolding word_relas
words_load w worked = words_from w 0 w.words worked (omega arith)

-- the words of stubs
stub_numbers : (w : Working) (place n : ℕ) → IsWorkedOut w → place < length w.stubs → IsImportAt w.bindings n → HasNumbers w (stub_rela w (place, n))
unfolding stub_rela
stub_numbers w place n worked below is =
    let p = has_place w worked in
    let words = p.words in
    let end = p.words_end in
    let import = import_at w.bindings n is in
    record {
      above = omega (arith, words);
      below = omega (arith, end, below);
      number = import_symbol w.bindings n;
      kind = 27;
      info = ap (λ k. import_symbol w.bindings n * 256 + k) slot_number;
      known = inr refl;
      small = (has_few_symbols w worked).imports n;
      among = import_among w n import.0 import.1;
      addend = fits_signed_from_abs w32 (pos 0) (omega arith);
    }

stubs_from : (w : Working) (place : ℕ) (stubs : List ℕ) → IsWorkedOut w → place + length stubs ≤ length w.stubs → All (IsImportAt w.bindings) stubs → All (IsForLoader (parts_of w)) (map (stub_rela w) (enumerate_from place stubs))
stubs_from w place [] worked below are = All-nil (IsForLoader (parts_of w))
stubs_from w place (n ∷ ns) worked below are =
    All-cons (IsForLoader (parts_of w)) (stub_rela w (place, n)) (map (stub_rela w) (enumerate_from (place + 1) ns))
    (for_loader w (stub_rela w (place, n)) worked (stub_numbers w place n worked (omega (arith, below)) (All-head (IsImportAt w.bindings) n ns are)))
    (stubs_from w (place + 1) ns worked (omega (arith, below)) (All-tail (IsImportAt w.bindings) n ns are))

pub stubs_load : (w : Working) → IsWorkedOut w → w.stubs ≡ stubs_of w.objects w.bindings → All (IsForLoader (parts_of w)) (stub_relas w)
unfolding stub_relas
stubs_load w worked is =
    let P : List ℕ → Type 0 = λ ns. All (IsImportAt w.bindings) ns in
    stubs_from w 0 w.stubs worked (omega arith) (subst P (sym is) (stubs_import w.objects w.bindings))
