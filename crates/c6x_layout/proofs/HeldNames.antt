-- The names of objects have no more bytes than a file may hold.
use Rattle.std.proofs.Common.{◌≡◌, ℕ, ◌+◌, ◌≤◌, Bool, true, false, List, [], ◌∷◌, Option, None, Some, length, take, drop, map, get_or, position, option_map, ◌==◌, nat_le, ap, arith, if◌then◌else◌}
use Rattle.std.proofs.lemmas.List.{length-drop, length-take}
use Rattle.std.proofs.lemmas.List.Elements.{All-append, All-cons, All-filter, All-head, All-map, All-nil, All-tail, All-weaker}
use Rattle.std.specs.Prelude.{All}
use Rattle.c6x_base.specs.declared.limits.TheConstants.{MOST_HELD_BYTES}
use Rattle.c6x_elf.specs.Attributes.{symbol_binding}
use Rattle.c6x_elf.specs.Bindings.{Global, Local, Weak}
use Rattle.c6x_elf.specs.Lists.{symbols_of, symtab_of}
use Rattle.c6x_elf.specs.Names.{name_of}
use Rattle.c6x_elf.specs.Types.{Symbol, SymbolBinding}
use Rattle.c6x_elf.specs.declared.file.File.{File}
use Rattle.c6x_symbols.specs.Objects.{IsObject}
use Rattle.c6x_symbols.proofs.Counts.{text_small}
use Rattle.c6x_symbols.specs.Bindings.{bindings_of, bound_name}
use Rattle.c6x_symbols.specs.Groups.{is_other, names_of}
use Rattle.c6x_symbols.specs.Mentions.{Named, link_of, mention_by, mention_of, mentions_along, mentions_from, mentions_of, object_mentions, strings_from, strings_of, under_name}
use Rattle.c6x_layout.specs.Shared.{IsHeldName}

abbrev IsShortNamed : Named → Type 0
IsShortNamed x = length x.0 ≤ MOST_HELD_BYTES

abbrev IsHeld : List ℕ → Type 0
IsHeld name = length name ≤ MOST_HELD_BYTES

cut_short : (table : List ℕ) (at len : ℕ) → length (take len (drop at table)) ≤ length table
cut_short table at len = omega (arith, length-take len (drop at table), length-drop at table)

under_held : (object number : ℕ) (symbol : Symbol) (name : Option (List ℕ)) → ((n : List ℕ) → name ≡ Some n → IsHeld n) → All IsShortNamed (under_name object number symbol name)
under_held object number symbol None each = All-nil IsShortNamed
under_held object number symbol (Some name) each =
    All-cons IsShortNamed (name, record { object = object; number = number; symbol = symbol }) [] (each name (λ i. Some name)) (All-nil IsShortNamed)

by_held : (binding : SymbolBinding) (object number : ℕ) (symbol : Symbol) (name : Option (List ℕ)) → ((n : List ℕ) → name ≡ Some n → IsHeld n) → All IsShortNamed (mention_by binding object number symbol name)
by_held Local object number symbol name each = All-nil IsShortNamed
by_held Global object number symbol name each = under_held object number symbol name each
by_held Weak object number symbol name each = under_held object number symbol name each

some_cut : (table : List ℕ) (at : ℕ) (o : Option ℕ) (n : List ℕ) → option_map (λ len. take len (drop at table)) o ≡ Some n → length n ≤ length table
some_cut table at None n is = absurd (cc is)
some_cut table at (Some len) n is = let e : take len (drop at table) ≡ n = cc is in omega (arith, cut_short table at len, ap length e)

name_cut : (table : List ℕ) (at : ℕ) (b : Bool) (n : List ℕ) → (if b then option_map (λ len. take len (drop at table)) (position (λ c. c == 0) (drop at table)) else None) ≡ Some n → length n ≤ length table
name_cut table at true n is = some_cut table at (position (λ c. c == 0) (drop at table)) n is
name_cut table at false n is = absurd (cc is)

name_held : (table : List ℕ) (at : ℕ) (n : List ℕ) → IsHeld table → name_of table at ≡ Some n → IsHeld n
unfolding name_of
name_held table at n held is = omega (arith, name_cut table at (nat_le at (length table)) n is)

along_held : (strings : List ℕ) (object number : ℕ) (symbols : List Symbol) → IsHeld strings → All IsShortNamed (mentions_along strings object number symbols)
unfolding mention_of
along_held strings object number [] held = All-nil IsShortNamed
along_held strings object number (s ∷ ss) held =
    All-append IsShortNamed (mention_of strings object number s) (mentions_along strings object (number + 1) ss)
    (by_held (symbol_binding s) object number s (name_of strings s.name) (λ n is. name_held strings s.name n held is))
    (along_held strings object (number + 1) ss held)

from_held : (file : File) → IsObject false file → (o : Option ℕ) → IsHeld (strings_from file.sections o)
from_held file is None = omega arith
from_held file is (Some k) = text_small file is.form (get_or (map link_of file.sections) k 0)

strings_held : (file : File) → IsObject false file → IsHeld (strings_of file.sections)
unfolding strings_of
strings_held file is = from_held file is (symtab_of file.sections)

object_held : (object : ℕ) (file : File) → IsObject false file → All IsShortNamed (object_mentions object file.sections)
unfolding object_mentions
object_held object file is = along_held (strings_of file.sections) object 0 (symbols_of false file.sections) (strings_held file is)

mentions_held : (object : ℕ) (files : List File) → All (IsObject false) files → All IsShortNamed (mentions_from object files)
mentions_held object [] are = All-nil IsShortNamed
mentions_held object (f ∷ fs) are =
    All-append IsShortNamed (object_mentions object f.sections) (mentions_from (object + 1) fs)
    (object_held object f (All-head (IsObject false) f fs are))
    (mentions_held (object + 1) fs (All-tail (IsObject false) f fs are))

names_held : (xs : List Named) → All IsShortNamed xs → All IsHeld (names_of xs)
names_held [] are = All-nil IsHeld
names_held (x ∷ xs) are =
    All-cons IsHeld x.0 _ (All-head IsShortNamed x xs are)
    (All-filter (is_other x.0) IsHeld (names_of xs) (names_held xs (All-tail IsShortNamed x xs are)))

bound_held : (xs : List Named) (name : List ℕ) → IsHeld name → IsHeldName (bound_name xs name)
bound_held xs name held = record { bytes = held }

pub bindings_held : (objects : List File) → All (IsObject false) objects → All IsHeldName (bindings_of objects)
unfolding bindings_of mentions_of
bindings_held objects are =
    All-map IsHeldName (bound_name (mentions_of objects)) (names_of (mentions_of objects))
    (All-weaker IsHeld (λ name. IsHeldName (bound_name (mentions_of objects) name)) (bound_held (mentions_of objects)) (names_of (mentions_of objects))
    (names_held (mentions_of objects) (mentions_held 0 objects are)))
