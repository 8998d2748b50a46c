use Rattle.std.proofs.Common.{◌-◌, ◌∙◌, ◌++◌, ◌∷◌, List, [], ap, sym, arith}
use Rattle.std.proofs.lemmas.List.{append-nil}
use Rattle.std.specs.Vec.{vec_len}
use Rattle.c6x_elf.specs.Laid.{Part}
use Rattle.c6x_layout.specs.declared.layout.Layout.{Layout}
use Rattle.c6x_link.proofs.ImageParts.{data_front, data_order, data_value, file_parts_are, words_behind}
use Rattle.c6x_link.proofs.images.data_with.Goals as goal

pub put_sections-requires : goal.put_sections-requires
put_sections-requires c =
    let w = c.args.link.now in
    let y = c.layout-layout.ensures in
    let parts_are = file_parts_are w c.objects.result.now c.layout-layout.result.now.table c.layout-layout.result.now.table c.layout-layout.result.now.file_end c.as_slice.result.now c.objects.ensures (ap (λ (y : Layout). y.table) y) (ap (λ (y : Layout). y.table) y) (ap (λ (y : Layout). y.file_end) y) (c.as_slice.ensures ∙ ap (λ (y : Layout). y.places) y) in
    let at = c.saturating_sub-first.ensures ∙ ap (λ (y : Layout). y.words - y.table) y in
    data_front w (vec_len c.put_part.new.out) _ c.requires.worked (words_behind w (vec_len c.put_part.new.out) c.saturating_sub-first.result c.args.words.now c.in_ok-put_part.ensures.end at c.requires.words) parts_are

pub put_part-requires-2 : goal.put_part-requires-2
put_part-requires-2 c =
    let w = c.args.link.now in
    let y = c.layout-layout.ensures in
    let parts_are = file_parts_are w c.objects.result.now c.layout-layout.result.now.table c.layout-layout.result.now.table c.layout-layout.result.now.file_end c.as_slice.result.now c.objects.ensures (ap (λ (y : Layout). y.table) y) (ap (λ (y : Layout). y.table) y) (ap (λ (y : Layout). y.file_end) y) (c.as_slice.ensures ∙ ap (λ (y : Layout). y.places) y) in
    let at = c.saturating_sub-first.ensures ∙ ap (λ (y : Layout). y.words - y.table) y in
    let end = c.saturating_sub-end.ensures ∙ ap (λ (y : Layout). y.file_end - y.table) y in
    let last : List Part = record { at = w.layout.file_end - w.layout.table; bytes = [] } ∷ [] in
    let order = c.in_ok-put_sections.ensures.order last (data_order w (vec_len c.put_part.new.out) _ c.requires.worked (words_behind w (vec_len c.put_part.new.out) c.saturating_sub-first.result c.args.words.now c.in_ok-put_part.ensures.end at c.requires.words) parts_are) in
    let first = order.0 in
    omega (arith, first, end)

pub returns : goal.returns
returns c =
    let w = c.args.link.now in
    let y = c.layout-layout.ensures in
    let parts_are = file_parts_are w c.objects.result.now c.layout-layout.result.now.table c.layout-layout.result.now.table c.layout-layout.result.now.file_end c.as_slice.result.now c.objects.ensures (ap (λ (y : Layout). y.table) y) (ap (λ (y : Layout). y.table) y) (ap (λ (y : Layout). y.file_end) y) (c.as_slice.ensures ∙ ap (λ (y : Layout). y.places) y) in
    let at = c.saturating_sub-first.ensures ∙ ap (λ (y : Layout). y.words - y.table) y in
    let end = c.saturating_sub-end.ensures ∙ ap (λ (y : Layout). y.file_end - y.table) y in
    let last : List Part = record { at = c.saturating_sub-end.result; bytes = [] } ∷ [] in
    sym (append-nil c.put_part-2.new.out.items)
    ∙ c.in_ok-put_part-2.ensures.laid []
    ∙ c.in_ok-put_sections.ensures.laid last
    ∙ c.in_ok-put_part.ensures.laid (_ ++ last)
    ∙ data_value w c.new-data.result.items (vec_len c.new-data.result) (record { at = c.saturating_sub-first.result; bytes = c.args.words.now }) (record { at = c.saturating_sub-end.result; bytes = [] }) _ c.new-data.ensures.items c.new-data.ensures.len
    (λ i. record { at = at i; bytes = c.requires.words i }) (λ i. record { at = end i; bytes = [] }) parts_are
