-- A board that holds what was loaded has the words of the definitions.
use Rattle.std.proofs.Common.{◌≡◌, ℕ, zero, suc, ◌<◌, ◌%◌, ◌^◌, List, [], ◌∷◌, ◌++◌, length, refl, ap, ◌∙◌, arith}
use Rattle.std.specs.Prelude.{Option, None, Some, slice_get, slice_index_or}
use Rattle.c6x_spec.specs.Memory.{Memory}
use Rattle.c6x_module.specs.declared.field.Field.{Field}
use Rattle.c6x_module.specs.declared.module.Module.{Module}
use Rattle.c6x_plan.specs.declared.process_plan.ProcessPlan.{ProcessPlan}
use Rattle.c6x_place.specs.declared.bound_process.BoundProcess.{BoundProcess}
use Rattle.c6x_place.specs.declared.target.Target.{Target}
use Rattle.c6x_place.specs.declared.seat.Seat.{Seat}
use Rattle.c6x_load.specs.Reads.{IsReadBack, place_at}
use Rattle.c6x_load.specs.Values.{field_value, slot_word, target_address}
use Rattle.c6x_load.specs.Loaded.{AreAllSeated, AreReady}
use Rattle.c6x_load.specs.ReadBack.{AreReadBack, AreSeatsReadBack}
use Rattle.c6x_cli_run.specs.declared.loading.Loading.{Loading}
use Rattle.c6x_cli_run.specs.Held.{held_field, held_fields, held_member, held_members, held_module, held_processes, held_slot, word_on}
use Rattle.c6x_cli_run.specs.Lines.{field_line, lines_below, slot_line}
use Rattle.c6x_cli_run.specs.Values.{field_lines, member_lines, members_lines, process_values, processes_values, slot_lines, value_text}

lines_same : (f g : ℕ → List ℕ) (count : ℕ) → ((i : ℕ) → i < count → f i ≡ g i) → lines_below f count ≡ lines_below g count
lines_same f g zero same = refl
lines_same f g (suc count) same =
    ap (λ (front : List ℕ). front ++ f count) (lines_same f g count (λ i below. same i (omega (arith, below))))
    ∙ ap (λ (last : List ℕ). lines_below g count ++ last) (same count (omega arith))

slots_same : (board : Memory) (process : List ℕ) (m : Module) (base : ℕ) (word : ℕ → ℕ) (address : Target → ℕ) (targets : List Target) → IsReadBack board base m word address targets → lines_below (held_slot board process m base) m.slots ≡ slot_lines process m word
unfolding held_slot
slots_same board process m base word address targets back =
    lines_same (held_slot board process m base) (λ index. slot_line process m.name index (word index % 2 ^ 32)) m.slots
    (λ i below. ap (slot_line process m.name i) (back.slots i below))

-- the fields, as many as there are targets
fields_same : (board : Memory) (process : List ℕ) (m : Module) (base : ℕ) (address : Target → ℕ) (fields : List Field) (targets : List Target) → length fields ≡ length targets → ((i : ℕ) (f : Field) (t : Target) → i < length fields → i < length targets → word_on board (place_at m base (slice_index_or fields i f).place) ≡ field_value (slice_index_or fields i f) (address (slice_index_or targets i t)) % 2 ^ 32) → held_fields board process m base fields ≡ field_lines process m base address fields targets
unfolding held_field
fields_same board process m base address [] targets same back = refl
fields_same board process m base address (f ∷ fields) [] same back = absurd (omega arith)
fields_same board process m base address (f ∷ fields) (t ∷ targets) same back =
    let rest : held_fields board process m base fields ≡ field_lines process m base address fields targets = fields_same board process m base address fields targets (omega arith) (λ i g u below within. back (suc i) g u (omega (arith, below)) (omega (arith, within))) in
    ap (λ (value : ℕ). field_line process m.name (place_at m base f.place) value ++ held_fields board process m base fields) (back zero f t (omega arith) (omega arith))
    ∙ ap (λ (later : List ℕ). field_line process m.name (place_at m base f.place) (field_value f (address t) % 2 ^ 32) ++ later) rest

module_same : (board : Memory) (process : List ℕ) (o : Option Module) (base : ℕ) (word : ℕ → ℕ) (address : Target → ℕ) (targets : List Target) → ((m : Module) → o ≡ Some m → length m.fields ≡ length targets) → ((m : Module) → o ≡ Some m → IsReadBack board base m word address targets) → held_member board process o base ≡ member_lines process o base word address targets
unfolding held_module
module_same board process None base word address targets same back = refl
module_same board process (Some m) base word address targets same back =
    let one : lines_below (held_slot board process m base) m.slots ≡ slot_lines process m word = slots_same board process m base word address targets (back m refl) in
    let two : held_fields board process m base m.fields ≡ field_lines process m base address m.fields targets = fields_same board process m base address m.fields targets (same m refl) (back m refl).fields in
    ap (λ (front : List ℕ). front ++ held_fields board process m base m.fields) one
    ∙ ap (λ (back : List ℕ). slot_lines process m word ++ back) two

members_same : (board : Memory) (process : List ℕ) (modules : List Module) (word : ℕ → ℕ) (address : Target → ℕ) (list bases : List ℕ) (rows : List (List Target)) → length list ≡ length rows → AreReady modules list rows → AreReadBack board modules word address list bases rows → held_members board process modules list bases ≡ members_lines process modules word address list bases rows
members_same board process modules word address [] bases rows same ready back = refl
members_same board process modules word address (k ∷ list) [] rows same ready back = refl
members_same board process modules word address (k ∷ list) (b ∷ bases) [] same ready back = absurd (omega arith)
members_same board process modules word address (k ∷ list) (b ∷ bases) (row ∷ rows) same ready back =
    let one : held_member board process (slice_get modules k) b ≡ member_lines process (slice_get modules k) b word address row = module_same board process (slice_get modules k) b word address row ready.0.targeted back.0 in
    let two : held_members board process modules list bases ≡ members_lines process modules word address list bases rows = members_same board process modules word address list bases rows (omega arith) ready.1 back.1 in
    ap (λ (front : List ℕ). front ++ held_members board process modules list bases) one
    ∙ ap (λ (later : List ℕ). member_lines process (slice_get modules k) b word address row ++ later) two

processes_same : (board : Memory) (modules : List Module) (texts : List (Option ℕ)) (plans : List ProcessPlan) (bounds : List BoundProcess) (seats : List Seat) → AreAllSeated modules bounds seats → AreSeatsReadBack board modules texts bounds seats → held_processes board modules plans bounds seats ≡ processes_values modules texts plans bounds seats
unfolding process_values
processes_same board modules texts [] bounds seats all back = refl
processes_same board modules texts (p ∷ plans) [] seats all back = refl
processes_same board modules texts (p ∷ plans) (b ∷ bounds) [] all back = refl
processes_same board modules texts (p ∷ plans) (b ∷ bounds) (s ∷ seats) all back =
    let one : held_members board p.name modules b.modules s.bases ≡ process_values modules texts p b s = members_same board p.name modules (slot_word modules b.modules s.bases) (target_address modules b.modules texts s.bases) b.modules s.bases b.targets all.0.rows all.0.ready back.0 in
    let two : held_processes board modules plans bounds seats ≡ processes_values modules texts plans bounds seats = processes_same board modules texts plans bounds seats all.1 back.1 in
    ap (λ (front : List ℕ). front ++ held_processes board modules plans bounds seats) one
    ∙ ap (λ (later : List ℕ). process_values modules texts p b s ++ later) two

-- the words of the board are those of the report
pub values_are : (board : Memory) (loading : Loading) → AreAllSeated loading.modules loading.bound.processes loading.placement.seats → AreSeatsReadBack board loading.modules loading.placement.texts loading.bound.processes loading.placement.seats → held_processes board loading.modules loading.plan.processes loading.bound.processes loading.placement.seats ≡ value_text loading
unfolding value_text
values_are board loading seated back =
    processes_same board loading.modules loading.placement.texts loading.plan.processes loading.bound.processes loading.placement.seats seated back
