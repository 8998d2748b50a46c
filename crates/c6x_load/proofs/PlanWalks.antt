use Rattle.std.proofs.Common.{◌≡◌, ℕ, Bool, ◌+◌, ◌<◌, List, [], ◌∷◌, ◌++◌, length, drop, get_or, refl, sym, ap, ◌∙◌, subst, arith}
use Rattle.std.specs.Prelude.{Option, None, Some, replicate, slice_get}
use Rattle.std.proofs.lemmas.List.{drop_more, length-replicate}
use Rattle.c6x_spec.specs.Memory.{Memory, IsOnMemory, CanStart, written}
use Rattle.c6x_elf.specs.declared.segment.Segment.{Segment}
use Rattle.c6x_module.specs.Valid.{IsLoadable, IsValid}
use Rattle.c6x_load.specs.Values.{filled, file_image, data_parts, data_image}
use Rattle.c6x_spec.proofs.Writes.{written_nothing}
use Rattle.c6x_load.proofs.Ranges.{length_filled, data_on}
use Rattle.c6x_module.specs.declared.module.Module.{Module}
use Rattle.c6x_place.specs.declared.target.Target.{Target}
use Rattle.c6x_spec.specs.Parts.{AreApart, AreOn, HoldsParts, Part, filled_with}
use Rattle.c6x_spec.proofs.PartsHeld.{filled_append, filled_on, filled_size, holds_parts, kept_on, on_back, on_front, written_size}
use Rattle.c6x_load.specs.Loaded.{text_part, text_parts, range_bytes, range_parts, IsReady, AreReady}

none_some : (at : ℕ) → None ≡ Some at → ⊥
none_some at is = cc

same_some : (a b : ℕ) → Some a ≡ Some b → a ≡ b
same_some a b is = cc

part_first : (m : Module) (t : Option ℕ) (rest : List Part) → text_part m t rest ≡ text_part m t [] ++ rest
part_first m None rest = refl
part_first m (Some at) rest = refl

pub texts_more : (ms : List Module) (ts : List (Option ℕ)) (k : ℕ) (m : Module) (t : Option ℕ) → k < length ms → k < length ts → text_parts (drop k ms) (drop k ts) ≡ text_part (get_or ms k m) (get_or ts k t) (text_parts (drop (k + 1) ms) (drop (k + 1) ts))
texts_more ms ts k m t below within =
    ap (λ (xs : List Module). text_parts xs (drop k ts)) (drop_more ms k m below)
    ∙ ap (λ (ys : List (Option ℕ)). text_parts (get_or ms k m ∷ drop (k + 1) ms) ys) (drop_more ts k t within)

-- one text more
pub text_filled : (m : Module) (t : Option ℕ) (rest : List Part) (before after : Memory) → after ≡ filled_with (text_part m t []) before → filled_with (text_part m t rest) before ≡ filled_with rest after
text_filled m None rest before after is = ap (filled_with rest) (sym is)
text_filled m (Some at) rest before after is = ap (filled_with rest) (sym is)

pub text_here : (m : Module) (t : Option ℕ) (rest : List Part) (before : Memory) → AreOn before (text_part m t rest) → AreOn before (text_part m t [])
text_here m None rest before on = tt
text_here m (Some at) rest before on = (on.0, tt)

pub text_left : (m : Module) (t : Option ℕ) (rest : List Part) (before after : Memory) → after ≡ filled_with (text_part m t []) before → AreOn before (text_part m t rest) → AreOn after rest
text_left m None rest before after is on = rw is on
text_left m (Some at) rest before after is on = rw is (kept_on before _ rest on.0 on.1)

pub ranges_more : (big : Bool) (modules : List Module) (word : ℕ → ℕ) (address : Target → ℕ) (ks bs : List ℕ) (rs : List (List Target)) (i d e : ℕ) (r : List Target) → i < length ks → i < length bs → i < length rs → range_parts big modules word address (drop i ks) (drop i bs) (drop i rs) ≡ (record { at = get_or bs i e; bytes = range_bytes big (slice_get modules (get_or ks i d)) word address (get_or rs i r) } ∷ range_parts big modules word address (drop (i + 1) ks) (drop (i + 1) bs) (drop (i + 1) rs))
ranges_more big modules word address ks bs rs i d e r a b c =
    ap (λ (xs : List ℕ). range_parts big modules word address xs (drop i bs) (drop i rs)) (drop_more ks i d a)
    ∙ ap (λ (ys : List ℕ). range_parts big modules word address (get_or ks i d ∷ drop (i + 1) ks) ys (drop i rs)) (drop_more bs i e b)
    ∙ ap (λ (zs : List (List Target)). range_parts big modules word address (get_or ks i d ∷ drop (i + 1) ks) (get_or bs i e ∷ drop (i + 1) bs) zs) (drop_more rs i r c)

pub seg_room : (s : Segment) (m : Memory) (at : ℕ) → IsLoadable s → IsOnMemory m at (length (filled s)) → IsOnMemory m at s.memsz
seg_room s m at is on = let e = length_filled s is in let a = on.above in let b = on.within in record { above = a; within = omega arith }

pub text_room : (m : Module) (t : Option ℕ) (at : ℕ) (board : Memory) → t ≡ Some at → IsValid m → AreOn board (text_part m t []) → IsOnMemory board at m.text.memsz
text_room m None at board is valid on = absurd (none_some at is)
text_room m (Some a) at board is valid on = let e = same_some a at is in let h = seg_room m.text board a valid.text on.0 in rw e at h

pub still_start : (m after : Memory) (at : ℕ) (bytes : List ℕ) → after ≡ written m at bytes → IsOnMemory m at (length bytes) → CanStart m.base (length m.bytes) → CanStart after.base (length after.bytes)
still_start m after at bytes is on start =
    let size = written_size m (record { at = at; bytes = bytes }) on in
    let P : ℕ → Type 0 = λ (n : ℕ). CanStart m.base n in
    rw is (subst P (sym size) start)

pub ranges_step : (big : Bool) (modules : List Module) (word : ℕ → ℕ) (address : Target → ℕ) (ks bs : List ℕ) (rs : List (List Target)) (i d e : ℕ) (r : List Target) (before after : Memory) → i < length ks → i < length bs → i < length rs → after ≡ written before (get_or bs i e) (range_bytes big (slice_get modules (get_or ks i d)) word address (get_or rs i r)) → filled_with (range_parts big modules word address (drop i ks) (drop i bs) (drop i rs)) before ≡ filled_with (range_parts big modules word address (drop (i + 1) ks) (drop (i + 1) bs) (drop (i + 1) rs)) after
ranges_step big modules word address ks bs rs i d e r before after a b c is =
    ap (λ (ps : List Part). filled_with ps before) (ranges_more big modules word address ks bs rs i d e r a b c)
    ∙ ap (filled_with (range_parts big modules word address (drop (i + 1) ks) (drop (i + 1) bs) (drop (i + 1) rs))) (sym is)

pub ranges_here : (big : Bool) (modules : List Module) (word : ℕ → ℕ) (address : Target → ℕ) (ks bs : List ℕ) (rs : List (List Target)) (i d e : ℕ) (r : List Target) (board : Memory) → i < length ks → i < length bs → i < length rs → AreOn board (range_parts big modules word address (drop i ks) (drop i bs) (drop i rs)) → IsOnMemory board (get_or bs i e) (length (range_bytes big (slice_get modules (get_or ks i d)) word address (get_or rs i r)))
ranges_here big modules word address ks bs rs i d e r board a b c on = (subst (AreOn board) (ranges_more big modules word address ks bs rs i d e r a b c) on).0

pub ranges_left : (big : Bool) (modules : List Module) (word : ℕ → ℕ) (address : Target → ℕ) (ks bs : List ℕ) (rs : List (List Target)) (i d e : ℕ) (r : List Target) (before after : Memory) → i < length ks → i < length bs → i < length rs → after ≡ written before (get_or bs i e) (range_bytes big (slice_get modules (get_or ks i d)) word address (get_or rs i r)) → AreOn before (range_parts big modules word address (drop i ks) (drop i bs) (drop i rs)) → AreOn after (range_parts big modules word address (drop (i + 1) ks) (drop (i + 1) bs) (drop (i + 1) rs))
ranges_left big modules word address ks bs rs i d e r before after a b c is on =
    let all = subst (AreOn before) (ranges_more big modules word address ks bs rs i d e r a b c) on in
    rw is (kept_on before _ _ all.0 all.1)

pub ready_more : (modules : List Module) (ks : List ℕ) (rs : List (List Target)) (i d : ℕ) (r : List Target) → i < length ks → i < length rs → AreReady modules (drop i ks) (drop i rs) → IsReady modules (get_or ks i d) (get_or rs i r) × AreReady modules (drop (i + 1) ks) (drop (i + 1) rs)
ready_more modules ks rs i d r a b ready = rw (drop_more ks i d a, drop_more rs i r b) at ready

pub image_length : (big : Bool) (m : Module) (word : ℕ → ℕ) (address : Target → ℕ) (ts : List Target) → IsValid m → length (data_image big m word address ts).bytes ≡ m.memory.memsz
unfolding data_image
image_length big m word address ts valid =
    filled_size (data_parts big m word address ts) (file_image m) (data_on big m word address ts valid) ∙ length_filled m.memory valid.memory

pub range_here : (big : Bool) (modules : List Module) (number : ℕ) (m : Module) (word : ℕ → ℕ) (address : Target → ℕ) (ts : List Target) (at : ℕ) (board : Memory) → slice_get modules number ≡ Some m → IsValid m → IsOnMemory board at (length (range_bytes big (slice_get modules number) word address ts)) → IsOnMemory board at m.memory.memsz
range_here big modules number m word address ts at board is valid on =
    let e = image_length big m word address ts valid in
    let h = rw is at on in
    let a = h.above in
    let b = h.within in
    record { above = a; within = omega arith }

pub range_written : (big : Bool) (modules : List Module) (number : ℕ) (m : Module) (word : ℕ → ℕ) (address : Target → ℕ) (ts : List Target) (at : ℕ) (before after : Memory) → slice_get modules number ≡ Some m → after ≡ written before at (data_image big m word address ts).bytes → after ≡ written before at (range_bytes big (slice_get modules number) word address ts)
range_written big modules number m word address ts at before after is e = e ∙ ap (λ (o : Option Module). written before at (range_bytes big o word address ts)) (sym is)

pub range_none : (big : Bool) (modules : List Module) (number : ℕ) (word : ℕ → ℕ) (address : Target → ℕ) (ts : List Target) (at : ℕ) (before : Memory) → slice_get modules number ≡ None → before ≡ written before at (range_bytes big (slice_get modules number) word address ts)
range_none big modules number word address ts at before is = written_nothing before at ∙ ap (λ (o : Option Module). written before at (range_bytes big o word address ts)) (sym is)

pub texts_step : (ms : List Module) (ts : List (Option ℕ)) (k : ℕ) (m : Module) (t : Option ℕ) (before after : Memory) → m ≡ get_or ms k m → k < length ms → k < length ts → after ≡ filled_with (text_part m (get_or ts k t) []) before → filled_with (text_parts (drop k ms) (drop k ts)) before ≡ filled_with (text_parts (drop (k + 1) ms) (drop (k + 1) ts)) after
texts_step ms ts k m t before after here below within is =
    let rest = text_parts (drop (k + 1) ms) (drop (k + 1) ts) in
    ap (λ (ps : List Part). filled_with ps before) (texts_more ms ts k m t below within ∙ ap (λ (x : Module). text_part x (get_or ts k t) rest) (sym here))
    ∙ text_filled m (get_or ts k t) rest before after is

pub texts_left : (ms : List Module) (ts : List (Option ℕ)) (k : ℕ) (m : Module) (t : Option ℕ) (before after : Memory) → m ≡ get_or ms k m → k < length ms → k < length ts → after ≡ filled_with (text_part m (get_or ts k t) []) before → AreOn before (text_parts (drop k ms) (drop k ts)) → AreOn after (text_parts (drop (k + 1) ms) (drop (k + 1) ts))
texts_left ms ts k m t before after here below within is on =
    let rest = text_parts (drop (k + 1) ms) (drop (k + 1) ts) in
    text_left m (get_or ts k t) rest before after is (subst (AreOn before) (texts_more ms ts k m t below within ∙ ap (λ (x : Module). text_part x (get_or ts k t) rest) (sym here)) on)

-- a stack behind the data ranges
pub length_zeros : (n : ℕ) → length {A = ℕ} (replicate n 0) ≡ n
length_zeros n = length-replicate n 0

pub stack_room : (ranges : List Part) (at stack : ℕ) (before after : Memory) → after ≡ filled_with ranges before → AreOn before (ranges ++ record { at = at; bytes = replicate stack 0 } ∷ []) → IsOnMemory after at stack
stack_room ranges at stack before after is on =
    let last : List Part = record { at = at; bytes = replicate stack 0 } ∷ [] in
    let front = on_front ranges last before on in
    let still = filled_on ranges last before front (on_back ranges last before on) in
    let here = still.0 in
    let above = here.above in
    let within = here.within in
    let len = length_zeros stack in
    rw is (record { above = above; within = omega arith })

pub seat_after : (ranges : List Part) (at stack : ℕ) (before middle after : Memory) → middle ≡ filled_with ranges before → after ≡ written middle at (replicate stack 0) → after ≡ filled_with (ranges ++ record { at = at; bytes = replicate stack 0 } ∷ []) before
seat_after ranges at stack before middle after first second =
    second ∙ ap (λ (m : Memory). written m at (replicate stack 0)) first
    ∙ sym (filled_append ranges (record { at = at; bytes = replicate stack 0 } ∷ []) before)

pub held_after : (parts : List Part) (before after : Memory) → after ≡ filled_with parts before → AreOn before parts → AreApart parts → HoldsParts parts before after
held_after parts before after is on apart =
    let P : Memory → Type 0 = λ (m : Memory). HoldsParts parts before m in
    subst P (sym is) (holds_parts parts before apart on)
