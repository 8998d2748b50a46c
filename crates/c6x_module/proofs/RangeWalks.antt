use Rattle.std.proofs.Common.{◌≡◌, ℕ, ◌+◌, ◌<◌, ◌==◌, ◌&&◌, ◌||◌, Bool, true, false, not, List, [], ◌∷◌, length, drop, get_or, refl, ap, sym, ◌∙◌, arith}
use Rattle.std.proofs.lemmas.List.{drop_more}
use Rattle.std.proofs.lemmas.Bool.Decides.{nat_tests}
use Rattle.std.specs.Prelude.{Option, Some, if◌then◌else◌}
use Rattle.std.specs.List.{list_all}
use Rattle.c6x_spec.specs.Fields.{bits_of}
use Rattle.c6x_elf.specs.declared.segment.Segment.{Segment}
use Rattle.c6x_module.specs.Ranges.{AreRanges, HasRoom, fits_memory, first_where, has_room, is_load, is_range, is_text, share_none}

-- the search for a segment, one on
pub first_text_more : (ss : List Segment) (i : ℕ) (d : Segment) → i < length ss → first_where is_text (drop i ss) ≡ (if is_text (get_or ss i d) then Some (get_or ss i d) else first_where is_text (drop (i + 1) ss))
first_text_more ss i d below = ap (first_where is_text) (drop_more ss i d below)

pub first_range_more : (ss : List Segment) (i : ℕ) (d : Segment) → i < length ss → first_where is_range (drop i ss) ≡ (if is_range (get_or ss i d) then Some (get_or ss i d) else first_where is_range (drop (i + 1) ss))
first_range_more ss i d below = ap (first_where is_range) (drop_more ss i d below)

-- what is found passes the test, and fits memory where all do
pub and_first : (a b : Bool) → (a && b) ≡ true → a ≡ true
and_first true b both = refl
and_first false b both = both

pub and_second : (a b : Bool) → (a && b) ≡ true → b ≡ true
and_second true b both = both
and_second false b both = absurd (cc)

found_first : (test : Segment → Bool) (x s : Segment) → test x ≡ true → Some x ≡ Some s → test s ≡ true
found_first test x s passes found = let same : x ≡ s = cc in ap test (sym same) ∙ passes

found_cases : (test : Segment → Bool) (x : Segment) (rest : Option Segment) (s : Segment) (t : Bool) → test x ≡ t → (if t then Some x else rest) ≡ Some s → (rest ≡ Some s → test s ≡ true) → test s ≡ true
found_cases test x rest s true is found later = found_first test x s is found
found_cases test x rest s false is found later = later found

found_passes : (test : Segment → Bool) (ss : List Segment) (s : Segment) → first_where test ss ≡ Some s → test s ≡ true
found_passes test [] s found = absurd (cc)
found_passes test (x ∷ xs) s found =
    found_cases test x (first_where test xs) s (test x) refl found (λ later. found_passes test xs s later)

kept_cases : (test fits : Segment → Bool) (x : Segment) (rest : Option Segment) (s : Segment) (t : Bool) → fits x ≡ true → (if t then Some x else rest) ≡ Some s → (rest ≡ Some s → fits s ≡ true) → fits s ≡ true
kept_cases test fits x rest s true is found later = found_first fits x s is found
kept_cases test fits x rest s false is found later = later found

found_kept : (test fits : Segment → Bool) (ss : List Segment) (s : Segment) → list_all fits ss ≡ true → first_where test ss ≡ Some s → fits s ≡ true
found_kept test fits [] s all found = absurd (cc)
found_kept test fits (x ∷ xs) s all found =
    kept_cases test fits x (first_where test xs) s (test x) (and_first (fits x) (list_all fits xs) all) found (λ later. found_kept test fits xs s (and_second (fits x) (list_all fits xs) all) later)

loads_fit : (load one room : Bool) → load ≡ true → (not load || (one && room)) ≡ true → room ≡ true
loads_fit true one room is fits = and_second one room fits
loads_fit false one room is fits = absurd (cc)

room_facts : (s : Segment) → has_room s ≡ true → HasRoom s
unfolding has_room
room_facts s room = record {
  filled = grind (arith, nat_tests);
  size = grind (arith, nat_tests);
  range = grind (arith, nat_tests);
}

loads_fit_memory : (s : Segment) → is_load s ≡ true → fits_memory s ≡ true → HasRoom s
unfolding fits_memory
loads_fit_memory s load fits = room_facts s (loads_fit (is_load s) _ (has_room s) load fits)

-- what is found first keeps what the reading asks
pub are_ranges : (ss : List Segment) (text range : Segment) → list_all fits_memory ss ≡ true → first_where is_text ss ≡ Some text → first_where is_range ss ≡ Some range → share_none text range ≡ true → AreRanges text range
are_ranges ss text range fit first second apart =
    let runs : is_text text ≡ true = found_passes is_text ss text first in
    let writes : is_range range ≡ true = found_passes is_range ss range second in
    record {
      runs = runs;
      writes = writes;
      text_room = loads_fit_memory text (and_first (is_load text) _ (and_first (is_load text && bits_of text.flags 0 1 == 1) _ runs)) (found_kept is_text fits_memory ss text fit first);
      memory_room = loads_fit_memory range (and_first (is_load range) _ (and_first (is_load range && bits_of range.flags 0 1 == 0) _ writes)) (found_kept is_range fits_memory ss range fit second);
      apart = apart;
    }
