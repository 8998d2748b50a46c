-- The areas of a process lie in the texts and in its own parts, those that it may write in its own parts alone.
use Rattle.std.proofs.Common.{◌≡◌, ℕ, zero, suc, ◌+◌, ◌<◌, ◌&&◌, ◌⊎◌, inl, inr, Bool, true, false, List, [], ◌∷◌, ◌++◌, length, get_or, refl, ap, ◌∙◌, arith}
use Rattle.std.specs.Prelude.{All, Option, None, Some, slice_get, replicate, ◌==◌}
use Rattle.std.proofs.lemmas.Bool.Decides.{nat_tests}
use Rattle.c6x_spec.specs.Parts.{Part, is_in}
use Rattle.c6x_access.specs.Rights.{allowed, has_right, is_inside, is_own}
use Rattle.c6x_access.specs.declared.area.Area.{Area}
use Rattle.c6x_access.specs.declared.right.Right.{Right}
use Rattle.c6x_access.specs.declared.right.Right.TheVariants.{Write}
use Rattle.c6x_access.proofs.Bytes.{allowed_own}
use Rattle.c6x_base.specs.Search.{has}
use Rattle.c6x_module.specs.Valid.{IsValid}
use Rattle.c6x_module.specs.declared.module.Module.{Module}
use Rattle.c6x_place.specs.declared.bound_process.BoundProcess.{BoundProcess}
use Rattle.c6x_place.specs.declared.target.Target.{Target}
use Rattle.c6x_place.specs.declared.seat.Seat.{Seat}
use Rattle.c6x_load.specs.Values.{filled, slot_word, target_address, text_at}
use Rattle.c6x_load.proofs.Ranges.{length_filled}
use Rattle.c6x_place.specs.Plans.{AreWanted, is_used, used_from}
use Rattle.c6x_load.specs.Loaded.{IsSeated, range_bytes, range_parts, seat_parts, seat_ranges, stack_part, text_parts}
use Rattle.c6x_load.proofs.Placed.{valid_at}
use Rattle.c6x_load.proofs.PlanWalks.{image_length, length_zeros}
use Rattle.c6x_load.specs.Areas.{range_areas, range_size, seat_areas, text_areas, text_size, writable}
use Rattle.c6x_load.proofs.PartBytes.{either, in_back, in_front, not_both, or_left, or_right}

-- areas behind areas
own_append : (xs ys : List Area) (x : ℕ) → is_own (xs ++ ys) x ≡ true → (is_own xs x ≡ true) ⊎ (is_own ys x ≡ true)
own_append [] ys x is = inr is
own_append (a ∷ xs) ys x is = elim (either (is_inside a.lo a.len x) (is_own (xs ++ ys) x) is) [
  | inl here ↦ inl (or_left (is_inside a.lo a.len x) (is_own xs x) here)
  | inr there ↦ elim (own_append xs ys x there) [
    | inl one ↦ inl (or_right (is_inside a.lo a.len x) (is_own xs x) one)
    | inr other ↦ inr other
  ]
]

allowed_append : (xs ys : List Area) (right : Right) (x : ℕ) → allowed (xs ++ ys) right x ≡ true → (allowed xs right x ≡ true) ⊎ (allowed ys right x ≡ true)
allowed_append [] ys right x is = inr is
allowed_append (a ∷ xs) ys right x is = elim (either (has_right a right && is_inside a.lo a.len x) (allowed (xs ++ ys) right x) is) [
  | inl here ↦ inl (or_left (has_right a right && is_inside a.lo a.len x) (allowed xs right x) here)
  | inr there ↦ elim (allowed_append xs ys right x there) [
    | inl one ↦ inl (or_right (has_right a right && is_inside a.lo a.len x) (allowed xs right x) one)
    | inr other ↦ inr other
  ]
]

nothing_inside : (lo x : ℕ) → is_inside lo 0 x ≡ true → ⊥
nothing_inside lo x is = grind (arith, nat_tests)

-- a text that is used is one of the parts
abbrev pub IsTextIn : List Module → List (Option ℕ) → ℕ → Type 0
IsTextIn modules texts k =
    (x : ℕ) → is_inside (text_at texts k) (text_size (slice_get modules k)) x ≡ true → is_in (text_parts modules texts) x ≡ true

sized : (lo a b x : ℕ) → a ≡ b → is_inside lo b x ≡ true → is_inside lo a x ≡ true
sized lo a b x same is = rw same is

pub text_in : (modules : List Module) (used : List Bool) (texts : List (Option ℕ)) → length modules ≡ length used → AreWanted used texts → All IsValid modules → (k : ℕ) → (k < length modules → get_or used k false ≡ true) → IsTextIn modules texts k
text_in [] [] [] lengths wanted valid k is x inside = absurd (nothing_inside 0 x inside)
text_in [] [] (t ∷ texts) lengths wanted valid k is x inside = absurd wanted
text_in [] (u ∷ used) texts lengths wanted valid k is x inside = absurd (omega arith)
text_in (m ∷ modules) [] texts lengths wanted valid k is x inside = absurd (omega arith)
text_in (m ∷ modules) (true ∷ used) [] lengths wanted valid k is x inside = absurd wanted
text_in (m ∷ modules) (false ∷ used) [] lengths wanted valid k is x inside = absurd wanted
text_in (m ∷ modules) (true ∷ used) (None ∷ texts) lengths wanted valid k is x inside = absurd wanted
text_in (m ∷ modules) (false ∷ used) (Some at ∷ texts) lengths wanted valid k is x inside = absurd wanted
text_in (m ∷ modules) (false ∷ used) (None ∷ texts) lengths wanted valid zero is x inside =
    absurd (not_both false (is (omega arith)) refl)
text_in (m ∷ modules) (false ∷ used) (None ∷ texts) lengths wanted valid (suc k) is x inside =
    text_in modules used texts (omega arith) wanted (λ i d h. valid (suc i) d (omega arith)) k (λ h. is (omega arith)) x inside
text_in (m ∷ modules) (true ∷ used) (Some at ∷ texts) lengths wanted valid zero is x inside =
    let here : IsValid m = valid 0 m (omega arith) in
    or_left (is_inside at (length (filled m.text)) x) (is_in (text_parts modules texts) x) (sized at (length (filled m.text)) m.text.memsz x (length_filled m.text here.text) inside)
text_in (m ∷ modules) (true ∷ used) (Some at ∷ texts) lengths wanted valid (suc k) is x inside =
    or_right (is_inside at (length (filled m.text)) x) (is_in (text_parts modules texts) x) (text_in modules used texts (omega arith) wanted (λ i d h. valid (suc i) d (omega arith)) k (λ h. is (omega arith)) x inside)

pub used_at : (bounds : List BoundProcess) (from : ℕ) (modules : List Module) (k : ℕ) → k < length modules → get_or (used_from bounds from modules) k false ≡ is_used bounds (from + k)
used_at bounds from [] k below = absurd (omega arith)
used_at bounds from (m ∷ modules) zero below = ap (is_used bounds) (omega arith)
used_at bounds from (m ∷ modules) (suc k) below =
    used_at bounds (from + 1) modules k (omega arith) ∙ ap (is_used bounds) (omega arith)

-- the texts of a search list
texts_in : (modules : List Module) (texts : List (Option ℕ)) (list : List ℕ) → ((k : ℕ) → has list k ≡ true → IsTextIn modules texts k) → (x : ℕ) → is_own (text_areas modules texts list) x ≡ true → is_in (text_parts modules texts) x ≡ true
texts_in modules texts [] each x is = absurd (cc)
texts_in modules texts (k ∷ list) each x is = elim (either (is_inside (text_at texts k) (text_size (slice_get modules k)) x) (is_own (text_areas modules texts list) x) is) [
  | inl here ↦ each k (or_left (k == k) (has list k) (grind arith)) x here
  | inr there ↦ texts_in modules texts list (λ j h. each j (or_right (k == j) (has list j) h)) x there
]

texts_unwritten : (modules : List Module) (texts : List (Option ℕ)) (list : List ℕ) (x : ℕ) → allowed (text_areas modules texts list) Write x ≡ false
unfolding has_right
texts_unwritten modules texts [] x = refl
texts_unwritten modules texts (k ∷ list) x = texts_unwritten modules texts list x

-- the data ranges of a search list
range_length : (o : Option Module) (word : ℕ → ℕ) (address : Target → ℕ) (row : List Target) → ((m : Module) → o ≡ Some m → IsValid m) → length (range_bytes false o word address row) ≡ range_size o
range_length None word address row valid = refl
range_length (Some m) word address row valid = image_length false m word address row (valid m refl)

ranges_in : (modules : List Module) (word : ℕ → ℕ) (address : Target → ℕ) (list bases : List ℕ) (rows : List (List Target)) → length list ≡ length bases → length list ≡ length rows → All IsValid modules → (x : ℕ) → is_own (range_areas modules list bases) x ≡ true → is_in (range_parts false modules word address list bases rows) x ≡ true
ranges_in modules word address [] bases rows a b valid x is = absurd (cc)
ranges_in modules word address (k ∷ list) [] rows a b valid x is = absurd (omega arith)
ranges_in modules word address (k ∷ list) (base ∷ bases) [] a b valid x is = absurd (omega arith)
ranges_in modules word address (k ∷ list) (base ∷ bases) (row ∷ rows) a b valid x is =
    let bytes = range_bytes false (slice_get modules k) word address row in
    let size : length bytes ≡ range_size (slice_get modules k) = range_length (slice_get modules k) word address row (valid_at modules valid k) in
    elim (either (is_inside base (range_size (slice_get modules k)) x) (is_own (range_areas modules list bases) x) is) [
      | inl here ↦ or_left (is_inside base (length bytes) x) (is_in (range_parts false modules word address list bases rows) x) (sized base (length bytes) (range_size (slice_get modules k)) x size here)
      | inr there ↦ or_right (is_inside base (length bytes) x) (is_in (range_parts false modules word address list bases rows) x) (ranges_in modules word address list bases rows (omega arith) (omega arith) valid x there)
    ]

stack_in : (stack : ℕ) (seat : Seat) (x : ℕ) → is_own (writable seat.stack stack ∷ []) x ≡ true → is_in (stack_part stack seat ∷ []) x ≡ true
stack_in stack seat x is = elim (either (is_inside seat.stack stack x) false is) [
  | inl here ↦ or_left (is_inside seat.stack (length {A = ℕ} (replicate stack 0)) x) false (sized seat.stack (length {A = ℕ} (replicate stack 0)) stack x (length_zeros stack) here)
  | inr there ↦ absurd (cc)
]

-- the areas of a process
pub record IsCovered (texts own : List Part) (areas : List Area) : Type 0 where
  pub either : (x : ℕ) → is_own areas x ≡ true → (is_in texts x ≡ true) ⊎ (is_in own x ≡ true)
  pub writes : (x : ℕ) → allowed areas Write x ≡ true → is_in own x ≡ true

pub seat_covered : (modules : List Module) (stack : ℕ) (bound : BoundProcess) (texts : List (Option ℕ)) (seat : Seat) → IsSeated modules bound seat → All IsValid modules → ((k : ℕ) → has bound.modules k ≡ true → IsTextIn modules texts k) → IsCovered (text_parts modules texts) (seat_parts false modules stack bound texts seat) (seat_areas modules stack bound.modules texts seat)
unfolding seat_areas seat_ranges
seat_covered modules stack bound texts seat is valid each =
    let word = slot_word modules bound.modules seat.bases in
    let address = target_address modules bound.modules texts seat.bases in
    let ranges = range_parts false modules word address bound.modules seat.bases bound.targets in
    let last : List Part = stack_part stack seat ∷ [] in
    let readables = text_areas modules texts bound.modules in
    let writables = range_areas modules bound.modules seat.bases in
    let stacks : List Area = writable seat.stack stack ∷ [] in
    let inside = ranges_in modules word address bound.modules seat.bases bound.targets is.bases is.rows valid in
    record {
      either = λ x here. elim (own_append (readables ++ writables) stacks x here) [
        | inl front ↦ elim (own_append readables writables x front) [
          | inl text ↦ inl (texts_in modules texts bound.modules each x text)
          | inr range ↦ inr (in_front ranges last x (inside x range))
        ]
        | inr back ↦ inr (in_back ranges last x (stack_in stack seat x back))
      ];
      writes = λ x here. elim (allowed_append (readables ++ writables) stacks Write x here) [
        | inl front ↦ elim (allowed_append readables writables Write x front) [
          | inl text ↦ absurd (not_both (allowed readables Write x) text (texts_unwritten modules texts bound.modules x))
          | inr range ↦ in_front ranges last x (inside x (allowed_own writables Write x range))
        ]
        | inr back ↦ in_back ranges last x (stack_in stack seat x (allowed_own stacks Write x back))
      ];
    }
