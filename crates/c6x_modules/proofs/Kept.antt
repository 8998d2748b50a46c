use Rattle.std.proofs.Common.{◌≡◌, ◌≢◌, ℕ, zero, suc, ◌+◌, ◌-◌, ◌<◌, List, [], ◌∷◌, ◌++◌, length, take, refl, sym, ap, ◌∙◌, subst, arith, length-append}
use Rattle.std.specs.Prelude.{All, AllPairs, Option, Some, slice_get, slice_index_or, unwrap_or}
use Rattle.std.proofs.Math.Seq.{take-append_seam}
use Rattle.std.proofs.lemmas.List.Elements.{All-append}
use Rattle.std.proofs.lemmas.Option.{slice_get_within, unwrap_or-slice_get}
use Rattle.c6x_module.specs.Valid.{IsValid}
use Rattle.c6x_module.specs.declared.module.Module.{Module}
use Rattle.c6x_modules.specs.Indexed.{AreIndexed, IsIndex, IsOwner}
use Rattle.c6x_modules.specs.Owned.{AreModules, IsNew}
use Rattle.c6x_modules.specs.declared.name_index.NameIndex.{NameIndex}
use Rattle.c6x_modules.specs.declared.modules.TheConstants.{MOST_OWNED_MODULES}

-- one module more keeps what the modules keep
one_valid : (m : Module) → IsValid m → All IsValid (m ∷ [])
one_valid m valid zero d below = valid
one_valid m valid (suc k) d below = absurd (omega arith)

one_other : (x m : Module) → x.name ≢ m.name → All (λ (b : Module). x.name ≢ b.name) (m ∷ [])
one_other x m other zero d below = other
one_other x m other (suc k) d below = absurd (omega arith)

pairs_more : (xs : List Module) (m : Module) → AllPairs (λ (a b : Module). a.name ≢ b.name) xs → IsNew xs m.name → AllPairs (λ (a b : Module). a.name ≢ b.name) (xs ++ m ∷ [])
pairs_more [] m pairs fresh i (suc j) d less below = absurd (omega arith)
pairs_more [] m pairs fresh i zero d less below = absurd (omega arith)
pairs_more (x ∷ xs) m pairs fresh i zero d less below = absurd (omega arith)
pairs_more (x ∷ xs) m pairs fresh zero (suc j) d less below =
    All-append (λ (b : Module). x.name ≢ b.name) xs (m ∷ []) (λ k e within. pairs zero (suc k) e (omega arith) (omega arith)) (one_other x m (fresh zero x (omega arith))) j d (omega arith)
pairs_more (x ∷ xs) m pairs fresh (suc i) (suc j) d less below =
    pairs_more xs m (λ a b e lt within. pairs (suc a) (suc b) e (omega arith) (omega arith)) (λ k e within. fresh (suc k) e (omega arith)) i j d (omega arith) (omega arith)

pub modules_kept : (xs : List Module) (m : Module) (name : List ℕ) → AreModules xs → IsValid m → m.name ≡ name → IsNew xs name → length xs < MOST_OWNED_MODULES → AreModules (xs ++ m ∷ [])
modules_kept xs m name kept valid named fresh few = record {
  valid = All-append IsValid xs (m ∷ []) kept.valid (one_valid m valid);
  distinct = pairs_more xs m kept.distinct (subst (λ (n : List ℕ). IsNew xs n) (sym named) fresh);
  few = rw (length-append xs (m ∷ [])) (omega arith);
}

-- one index more
indexed_more : (xs : List Module) (ds : List NameIndex) (m : Module) (index : NameIndex) → AreIndexed xs ds → IsIndex index.buckets.items m.symbols → AreIndexed (xs ++ m ∷ []) (ds ++ index ∷ [])
indexed_more [] [] m index kept one = record {
  count = refl;
  each = only m index one;
}
  where
    only : (m : Module) (index : NameIndex) → IsIndex index.buckets.items m.symbols → (k : ℕ) (x : Module) (d : NameIndex) → k < length (m ∷ []) → IsIndex (slice_index_or (index ∷ []) k d).buckets.items (slice_index_or (m ∷ []) k x).symbols
    only m index one zero x d below = one
    only m index one (suc k) x d below = absurd (omega arith)
indexed_more [] (d ∷ ds) m index kept one = absurd (let count = kept.count in omega arith)
indexed_more (x ∷ xs) [] m index kept one = absurd (let count = kept.count in omega arith)
indexed_more (x ∷ xs) (e ∷ ds) m index kept one =
    let rest = indexed_more xs ds m index (record { count = (let count = kept.count in omega arith); each = λ k y d below. kept.each (suc k) y d (omega arith) }) one in
    record { count = (let count = rest.count in omega arith); each = both x e (xs ++ m ∷ []) (ds ++ index ∷ []) (kept.each zero x e (omega arith)) rest.each }
  where
    both : (x : Module) (e : NameIndex) (xs : List Module) (ds : List NameIndex) → IsIndex e.buckets.items x.symbols → ((k : ℕ) (m : Module) (d : NameIndex) → k < length xs → IsIndex (slice_index_or ds k d).buckets.items (slice_index_or xs k m).symbols) → (k : ℕ) (m : Module) (d : NameIndex) → k < length (x ∷ xs) → IsIndex (slice_index_or (e ∷ ds) k d).buckets.items (slice_index_or (x ∷ xs) k m).symbols
    both x e xs ds head tail zero m d below = head
    both x e xs ds head tail (suc k) m d below = tail k m d (omega arith)

pub owner_more : (xs : List Module) (ds : List NameIndex) (m : Module) (index : NameIndex) → IsOwner xs ds → IsValid m → IsNew xs m.name → length xs < MOST_OWNED_MODULES → IsIndex index.buckets.items m.symbols → IsOwner (xs ++ m ∷ []) (ds ++ index ∷ [])
owner_more xs ds m index owner valid fresh few one = record {
  kept = modules_kept xs m m.name owner.kept valid refl fresh few;
  indexed = indexed_more xs ds m index owner.indexed one;
}

-- what was put last is taken back
pub back_off : (xs all rest : List NameIndex) (y : NameIndex) (n : ℕ) → all ≡ xs ++ y ∷ [] → rest ≡ take (n - 1) all → n ≡ length all → rest ≡ xs
back_off xs all rest y n put left long =
    let more : length all ≡ length xs + 1 = ap (λ (l : List NameIndex). length l) put ∙ length-append xs (y ∷ []) in
    let count : n - 1 ≡ length xs = omega arith in
    left ∙ ap (λ (k : ℕ). take k all) count ∙ ap (λ (l : List NameIndex). take (length xs) l) put ∙ take-append_seam xs (y ∷ [])

-- the index of a module that is looked at
pub index_of : (xs : List Module) (ds : List NameIndex) (k : ℕ) (m : Module) (d : NameIndex) → AreIndexed xs ds → slice_get xs k ≡ Some m → d ≡ slice_index_or ds k d → IsIndex d.buckets.items m.symbols
index_of xs ds k m d indexed got is =
    let within : k < length xs = slice_get_within xs k m got in
    let same : slice_index_or xs k m ≡ m = sym (unwrap_or-slice_get xs k m) ∙ ap (λ (o : Option Module). unwrap_or o m) got in
    subst (λ (x : Module). IsIndex d.buckets.items x.symbols) same
    (subst (λ (x : NameIndex). IsIndex x.buckets.items (slice_index_or xs k m).symbols) (sym is) (indexed.each k m d within))
