use Rattle.std.proofs.Common.{◌≡◌, ◌≢◌, ℕ, suc, refl, ◌+◌, ◌-◌, ◌<◌, ◌≤◌, ◌==◌, ◌||◌, Bool, true, false, List, [], ◌∷◌, length, drop, get_or, map, sym, ap, ◌∙◌, arith}
use Rattle.std.proofs.lemmas.Bool.Decides.{nat_tests}
use Rattle.std.proofs.lemmas.List.{drop_more}
use Rattle.std.specs.Prelude.{Some, if◌then◌else◌}
use Rattle.std.specs.List.{range_with_len}
use Rattle.c6x_spec.specs.Firsts.{◌<|>◌, first_along}
use Rattle.c6x_elf.specs.Abi.{PT_DYNAMIC, DT_NULL, DT_PLTREL}
use Rattle.c6x_elf.specs.TableEntries.{dynamic_at}
use Rattle.c6x_elf.specs.Types.{Dyn}
use Rattle.c6x_elf.specs.declared.segment.Segment.{Segment}
use Rattle.c6x_module.specs.Entries.{dynamic_in, tag_value, until_null}
use Rattle.c6x_module.specs.Shape.{form_refusal, forms_along, init_refusal}

-- walks along segments and entries, one on
pub dynamic_more : (ss : List Segment) (i : ℕ) (d : Segment) → i < length ss → dynamic_in (drop i ss) ≡ (if (get_or ss i d).kind == PT_DYNAMIC then Some (get_or ss i d).bytes else dynamic_in (drop (i + 1) ss))
dynamic_more ss i d below = ap dynamic_in (drop_more ss i d below)

pub tag_more : (tag : ℕ) (ds : List Dyn) (i : ℕ) (d : Dyn) → i < length ds → tag_value tag (drop i ds) ≡ (if (get_or ds i d).tag == tag then Some (get_or ds i d).value else tag_value tag (drop (i + 1) ds))
tag_more tag ds i d below = ap (tag_value tag) (drop_more ds i d below)

pub inits_more : (ds : List Dyn) (i : ℕ) (d : Dyn) → i < length ds → first_along init_refusal (drop i ds) ≡ (init_refusal (get_or ds i d) <|> first_along init_refusal (drop (i + 1) ds))
inits_more ds i d below = ap (first_along init_refusal) (drop_more ds i d below)

pub forms_more : (had : Bool) (ds : List Dyn) (i : ℕ) (d : Dyn) → i < length ds → forms_along had (drop i ds) ≡ (form_refusal had (get_or ds i d) <|> forms_along (had || (get_or ds i d).tag == DT_PLTREL) (drop (i + 1) ds))
forms_more had ds i d below = ap (forms_along had) (drop_more ds i d below)

-- the entries of a table from a number on, up to the first NULL
entries_more : (big : Bool) (table : List ℕ) (n count : ℕ) → n < count → until_null (map (dynamic_at big table) (range_with_len n (count - n))) ≡ (if (dynamic_at big table n).tag == DT_NULL then [] else dynamic_at big table n ∷ until_null (map (dynamic_at big table) (range_with_len (n + 1) (count - (n + 1)))))
entries_more big table n count below =
    let e : count - n ≡ suc (count - (n + 1)) = omega arith in
    ap (λ (k : ℕ). until_null (map (dynamic_at big table) (range_with_len n k))) e

pub entries_end : (big : Bool) (table : List ℕ) (n count : ℕ) → count ≤ n → until_null (map (dynamic_at big table) (range_with_len n (count - n))) ≡ []
entries_end big table n count past =
    let e : count - n ≡ 0 = omega arith in
    ap (λ (k : ℕ). until_null (map (dynamic_at big table) (range_with_len n k))) e

pub entries_null : (big : Bool) (table : List ℕ) (n count : ℕ) (d : Dyn) → d ≡ dynamic_at big table n → d.tag ≡ 0 → n < count → until_null (map (dynamic_at big table) (range_with_len n (count - n))) ≡ []
entries_null big table n count d is null below =
    let e : (dynamic_at big table n).tag ≡ 0 = ap (λ (x : Dyn). x.tag) (sym is) ∙ null in
    let t : ((dynamic_at big table n).tag == 0) ≡ true = grind (arith, nat_tests) in
    entries_more big table n count below ∙ rw t refl

pub entries_kept : (big : Bool) (table : List ℕ) (n count : ℕ) (d : Dyn) → d ≡ dynamic_at big table n → d.tag ≢ 0 → n < count → until_null (map (dynamic_at big table) (range_with_len n (count - n))) ≡ (d ∷ until_null (map (dynamic_at big table) (range_with_len (n + 1) (count - (n + 1)))))
entries_kept big table n count d is other below =
    let e : (dynamic_at big table n).tag ≡ d.tag = ap (λ (x : Dyn). x.tag) (sym is) in
    let t : ((dynamic_at big table n).tag == 0) ≡ false = grind (arith, nat_tests) in
    entries_more big table n count below ∙ rw t (ap (λ (x : Dyn). x ∷ until_null (map (dynamic_at big table) (range_with_len (n + 1) (count - (n + 1))))) (sym is))
