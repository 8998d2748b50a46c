-- How each list is walked: what is left of it, one member further.
use Rattle.std.proofs.Common.{◌≡◌, ℕ, ◌+◌, ◌<◌, List, [], ◌∷◌, ◌++◌, length, drop, get_or, ap, max}
use Rattle.std.specs.Prelude.{Option, Some, if◌then◌else◌}
use Rattle.std.specs.Str.{bytes_eq}
use Rattle.std.proofs.lemmas.List.{drop_more}
use Rattle.c6x_spec.specs.Firsts.{◌<|>◌, first_along}
use Rattle.c6x_module.specs.Lookups.{export_from, symbols_of}
use Rattle.c6x_module.specs.declared.module.Module.{Module}
use Rattle.c6x_place.specs.Members.{fields_of, greatest_index, index_of, all_fields}
use Rattle.c6x_place.specs.Needs.{named_from, numbers_of, with_number}
use Rattle.c6x_place.specs.Definitions.{found_or, first_export, member_targets, targets_from}
use Rattle.c6x_place.specs.Binding.{duplicates, index_refusal, found_refusal, unresolved_from, outside_from, outside_refusal}

pub along_more : {A R : Type 0} (test : A → Option R) (xs : List A) (i : ℕ) (d : A) → i < length xs → first_along test (drop i xs) ≡ (test (get_or xs i d) <|> first_along test (drop (i + 1) xs))
along_more test xs i d below = ap (first_along test) (drop_more xs i d below)

pub named_more : (name : List ℕ) (n : ℕ) (ms : List Module) (i : ℕ) (d : Module) → i < length ms → named_from name n (drop i ms) ≡ (if bytes_eq (get_or ms i d).name name then Some n else named_from name (n + 1) (drop (i + 1) ms))
named_more name n ms i d below = ap (named_from name n) (drop_more ms i d below)

pub numbers_more : (modules : List Module) (names : List (List ℕ)) (i : ℕ) (d : List ℕ) → i < length names → numbers_of modules (drop i names) ≡ with_number (named_from (get_or names i d) 0 modules) (numbers_of modules (drop (i + 1) names))
numbers_more modules names i d below = ap (numbers_of modules) (drop_more names i d below)

pub duplicates_more : (modules : List Module) (process : ℕ) (called earlier list : List ℕ) (i d : ℕ) → i < length list → duplicates modules process called earlier (drop i list) ≡ (index_refusal modules process called earlier (get_or list i d) <|> duplicates modules process called (earlier ++ index_of modules (get_or list i d) ∷ []) (drop (i + 1) list))
duplicates_more modules process called earlier list i d below =
    ap (duplicates modules process called earlier) (drop_more list i d below)

pub greatest_more : (modules : List Module) (list : List ℕ) (i d : ℕ) → i < length list → greatest_index modules (drop i list) ≡ max (index_of modules (get_or list i d)) (greatest_index modules (drop (i + 1) list))
greatest_more modules list i d below = ap (greatest_index modules) (drop_more list i d below)

pub count_more : (modules : List Module) (list : List ℕ) (i d : ℕ) → i < length list → all_fields modules (drop i list) ≡ length (fields_of modules (get_or list i d)) + all_fields modules (drop (i + 1) list)
count_more modules list i d below = ap (all_fields modules) (drop_more list i d below)

pub first_more : (modules : List Module) (name : List ℕ) (position : ℕ) (list : List ℕ) (i d : ℕ) → i < length list → first_export modules name position (drop i list) ≡ found_or (export_from name 0 (symbols_of modules (get_or list i d))) position (first_export modules name (position + 1) (drop (i + 1) list))
first_more modules name position list i d below = ap (first_export modules name position) (drop_more list i d below)

pub unresolved_more : (modules : List Module) (list : List ℕ) (process position : ℕ) (ks : List ℕ) (i d : ℕ) → i < length ks → unresolved_from modules list process position (drop i ks) ≡ (first_along (found_refusal modules list process position (get_or ks i d) (symbols_of modules (get_or ks i d))) (fields_of modules (get_or ks i d)) <|> unresolved_from modules list process (position + 1) (drop (i + 1) ks))
unresolved_more modules list process position ks i d below =
    ap (unresolved_from modules list process position) (drop_more ks i d below)

pub outside_more : (modules : List Module) (list : List ℕ) (process position : ℕ) (ks : List ℕ) (i d : ℕ) → i < length ks → outside_from modules list process position (drop i ks) ≡ (first_along (outside_refusal modules list process position (get_or ks i d) (symbols_of modules (get_or ks i d))) (fields_of modules (get_or ks i d)) <|> outside_from modules list process (position + 1) (drop (i + 1) ks))
outside_more modules list process position ks i d below =
    ap (outside_from modules list process position) (drop_more ks i d below)

pub targets_more : (modules : List Module) (list : List ℕ) (position : ℕ) (ks : List ℕ) (i d : ℕ) → i < length ks → targets_from modules list position (drop i ks) ≡ (member_targets modules list position (get_or ks i d) ∷ targets_from modules list (position + 1) (drop (i + 1) ks))
targets_more modules list position ks i d below = ap (targets_from modules list position) (drop_more ks i d below)
