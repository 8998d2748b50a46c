-- Targets and sections, looked up.
use Rattle.std.proofs.Common.{◌≡◌, ℕ, ◌<◌, ◌≤◌, List, [], length, get_or, map, refl, sym, ap, ◌∙◌, arith}
use Rattle.std.proofs.lemmas.Bool.Decides.{nat_tests}
use Rattle.std.proofs.lemmas.List.{get_or-map, get_or_past, length-map}
use Rattle.std.proofs.lemmas.List.FromFn.{get_or-map-range_with_len, length-map-range_with_len}
use Rattle.c6x_dsbt.specs.Wanted.{wanted_at}
use Rattle.c6x_dsbt.specs.declared.wanted.Wanted.{Wanted}
use Rattle.c6x_dsbt.specs.declared.wanted.Wanted.TheVariants.{Bound, Local}
use Rattle.c6x_elf.specs.Entries.{text_of}
use Rattle.c6x_elf.specs.declared.file.File.{File}
use Rattle.c6x_layout.specs.Regions.{sections_at, sections_in}
use Rattle.c6x_symbols.specs.Bindings.{BoundName}
use Rattle.c6x_link.specs.TargetRows.{bound_target, bound_targets}
use Rattle.c6x_link.specs.Targets.{number_of_bound, target_of}
use Rattle.c6x_link.specs.Working.{Working}
use Rattle.c6x_link.specs.declared.target.Target.{Target}

pub bound_length : (w : Working) (count : ℕ) → length (bound_targets w count) ≡ count
bound_length w count = length-map-range_with_len (bound_target w) 0 count

pub bound_there : (w : Working) (count number : ℕ) (d : Target) → number < count → get_or (bound_targets w count) number d ≡ target_of w (Bound number)
bound_there w count number d below = get_or-map-range_with_len (bound_target w) 0 count number number d below (omega arith)

pub past_number : (bindings : List BoundName) (number : ℕ) → length bindings ≤ number → number_of_bound bindings (Bound number) ≡ 0
past_number bindings number past = grind (arith, nat_tests)

pub target_there : (w : Working) (wanted : List Wanted) (object symbol : ℕ) (d : Target) → symbol < length wanted → get_or (map (target_of w) wanted) symbol d ≡ target_of w (wanted_at wanted object symbol)
unfolding wanted_at
target_there w wanted object symbol d below = get_or-map (target_of w) wanted symbol (Local object symbol) d below

pub target_past : (w : Working) (wanted : List Wanted) (object symbol : ℕ) → length wanted ≤ symbol → target_of w (Local object symbol) ≡ target_of w (wanted_at wanted object symbol)
unfolding wanted_at
target_past w wanted object symbol past = sym (ap (target_of w) (get_or_past wanted symbol (Local object symbol) past))

pub sections_there : (objects : List File) (object : ℕ) (d : File) → object < length objects → sections_at objects object ≡ (get_or objects object d).sections
unfolding sections_at
sections_there objects object d below = get_or-map sections_in objects object d [] below

no_text : (section : ℕ) → length (text_of [] section) ≡ 0
unfolding text_of
no_text section = refl

pub sections_past : (objects : List File) (object section : ℕ) → length objects ≤ object → length (text_of (sections_at objects object) section) ≡ 0
unfolding sections_at
sections_past objects object section past =
    let same : length (map sections_in objects) ≡ length objects = simp length-map in
    let beyond : length (map sections_in objects) ≤ object = omega (arith, same, past) in
    ap (λ ss. length (text_of ss section)) (get_or_past (map sections_in objects) object [] beyond) ∙ no_text section
