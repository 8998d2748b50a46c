use Rattle.std.proofs.Common.{◌∙◌, ◌++◌, [], length, ap, sym}
use Rattle.std.proofs.lemmas.List.{append-nil}
use Rattle.std.specs.Vec.{vec_len}
use Rattle.c6x_layout.specs.declared.layout.Layout.{Layout}
use Rattle.c6x_link.specs.Images.{stub_parts}
use Rattle.c6x_link.proofs.ImageParts.{few_stubs, front_order, front_parts, text_length, text_value, whole_order}
use Rattle.c6x_link.proofs.images.text_image.Goals as goal

pub put_sections-requires : goal.put_sections-requires
put_sections-requires c =
    let parts_are = front_parts c.args.link.now c.objects.result.now c.layout-layout.result.now.table c.as_slice.result.now c.objects.ensures (ap (λ (y : Layout). y.table) c.layout-layout.ensures) (c.as_slice.ensures ∙ ap (λ (y : Layout). y.places) c.layout-layout.ensures) in
    front_order c.args.link.now (vec_len c.new-text.result) _ c.requires parts_are c.new-text.ensures.len

pub put_stubs-requires-clause-order : goal.put_stubs-requires-clause-order
put_stubs-requires-clause-order c =
    let parts_are = front_parts c.args.link.now c.objects.result.now c.layout-layout.result.now.table c.as_slice.result.now c.objects.ensures (ap (λ (y : Layout). y.table) c.layout-layout.ensures) (c.as_slice.ensures ∙ ap (λ (y : Layout). y.places) c.layout-layout.ensures) in
    c.in_ok-put_sections.ensures.order (stub_parts c.args.link.now) (whole_order c.args.link.now (vec_len c.new-text.result) _ c.requires parts_are c.new-text.ensures.len)

pub put_stubs-requires-clause-few : goal.put_stubs-requires-clause-few
put_stubs-requires-clause-few c = few_stubs c.args.link.now c.requires

pub returns-clause-value : goal.returns-clause-value
returns-clause-value c =
    let parts_are = front_parts c.args.link.now c.objects.result.now c.layout-layout.result.now.table c.as_slice.result.now c.objects.ensures (ap (λ (y : Layout). y.table) c.layout-layout.ensures) (c.as_slice.ensures ∙ ap (λ (y : Layout). y.places) c.layout-layout.ensures) in
    sym (append-nil c.put_stubs.new.out.items)
    ∙ c.in_ok-put_stubs.ensures.laid []
    ∙ c.in_ok-put_sections.ensures.laid (stub_parts c.args.link.now ++ [])
    ∙ text_value c.args.link.now c.new-text.result.items (vec_len c.new-text.result) _ c.new-text.ensures.items c.new-text.ensures.len parts_are

pub returns-clause-size : goal.returns-clause-size
returns-clause-size c = ap length (returns-clause-value c) ∙ text_length c.args.link.now c.requires
