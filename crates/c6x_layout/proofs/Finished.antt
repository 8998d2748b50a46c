-- What is known of the numbers of a layout, for whatever numbers are equal to them.
use Rattle.std.proofs.Common.{◌≡◌, ℕ, ◌-◌, ◌≤◌, List, length, sym, ap, ◌∙◌, subst}
use Rattle.c6x_layout.specs.declared.file_limits.TheConstants.{MOST_SEGMENT_BYTES}
use Rattle.c6x_symbols.specs.Parts.{parts_of}
use Rattle.c6x_symbols.specs.declared.part.Part.{Part}
use Rattle.c6x_layout.proofs.Sized.{chained, data_behind, layout_is, refusal_is, sizes_addresses}
use Rattle.c6x_layout.specs.Layouts.{Laying, layout_of, size_refusal}
use Rattle.c6x_layout.specs.Sizes.{AreAddresses, AreChained, layout_by, sizes_of, sizes_refusal}
use Rattle.c6x_layout.specs.declared.layout.Layout.{Layout}
use Rattle.c6x_layout.specs.declared.sizes.Sizes.{Sizes}

pub order_made : (l : Laying) (s : Sizes) → s ≡ sizes_of l → s.table ≤ s.ends.far
order_made l s is = let P : Sizes → Type 0 = λ x. x.table ≤ x.ends.far in subst P (sym is) (data_behind l)

pub refusal_made : (l : Laying) (s : Sizes) (words stubs : ℕ) → s ≡ sizes_of l → words ≡ length l.words → stubs ≡ length l.stubs → size_refusal l ≡ sizes_refusal s l.plan.table words stubs
refusal_made l s words stubs is w n =
    sym
    (ap (λ x. sizes_refusal x l.plan.table words stubs) is ∙ ap (λ k. sizes_refusal (sizes_of l) l.plan.table k stubs) w
    ∙ ap (sizes_refusal (sizes_of l) l.plan.table (length l.words)) n ∙ refusal_is l)

pub addresses_made : (l : Laying) (s : Sizes) → s ≡ sizes_of l → s.text.end ≤ MOST_SEGMENT_BYTES → s.ends.far - s.table ≤ MOST_SEGMENT_BYTES → AreAddresses s
addresses_made l s is text data_size =
    let T : Sizes → Type 0 = λ x. x.text.end ≤ MOST_SEGMENT_BYTES in
    let D : Sizes → Type 0 = λ x. x.ends.far - x.table ≤ MOST_SEGMENT_BYTES in
    let P : Sizes → Type 0 = λ x. AreAddresses x in
    subst P (sym is) (sizes_addresses l (subst T is text) (subst D is data_size))

pub chained_made : (l : Laying) (s : Sizes) (parts : List Part) → s ≡ sizes_of l → parts ≡ parts_of l.objects → AreChained parts l.bindings s
chained_made l s parts is same =
    let P : Sizes → Type 0 = λ x. AreChained parts l.bindings x in
    let Q : List Part → Type 0 = λ ps. AreChained ps l.bindings (sizes_of l) in
    subst P (sym is) (subst Q (sym same) (chained l))

pub layout_made : (l : Laying) (s : Sizes) (parts : List Part) (layout : Layout) → s ≡ sizes_of l → parts ≡ parts_of l.objects → layout ≡ layout_by parts l.bindings s → layout ≡ layout_of l
layout_made l s parts layout is same made =
    made ∙ ap (λ ps. layout_by ps l.bindings s) same ∙ ap (layout_by (parts_of l.objects) l.bindings) is ∙ layout_is l
