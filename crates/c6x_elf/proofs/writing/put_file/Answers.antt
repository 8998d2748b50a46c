use Rattle.std.proofs.Common.{◌≡◌, false, List, [], ◌++◌, ◌∙◌, ap, refl, vec_len}
use Rattle.c6x_elf_headers.specs.Laid.{InOrder, Part, laid}
use Rattle.c6x_elf.specs.Writing.{offsets_of, section_parts, segment_parts, segments_end, spots_of, start_of, table_parts, written_size}
use Rattle.c6x_elf.specs.declared.file.File.{File}
use Rattle.c6x_elf.proofs.Orders.{chain_order, file_chain, length-offsets, length-spots, order_front, written_from}
use Rattle.c6x_elf.proofs.writing.put_file.Goals as goal

file_order : (file : File) → InOrder (start_of file) (segment_parts file.segments (spots_of file) ++ (section_parts file.sections (offsets_of file) ++ table_parts false file))
file_order file =
    chain_order (start_of file) (segment_parts file.segments (spots_of file) ++ (section_parts file.sections (offsets_of file) ++ table_parts false file))
    (written_size file) (file_chain file)

pub put_segments-requires-clause-same : goal.put_segments-requires-clause-same
put_segments-requires-clause-same c =
    rw (c.deref.ensures.value, c.requires.spots, c.as_slice.ensures)
    (length-spots [] [] (start_of c.args.file.now) c.args.file.now.segments)

pub put_segments-requires-clause-order : goal.put_segments-requires-clause-order
put_segments-requires-clause-order c =
    let file = c.args.file.now in
    rw (c.in_ok-put_front.ensures.end, c.as_slice.ensures, c.deref.ensures.value, c.requires.spots)
    (order_front (start_of file) (segment_parts file.segments (spots_of file))
    (section_parts file.sections (offsets_of file) ++ table_parts false file) (file_order file))

pub put_sections-requires-clause-same : goal.put_sections-requires-clause-same
put_sections-requires-clause-same c =
    rw (c.deref-2.ensures.value, c.requires.offsets, c.as_slice-2.ensures)
    (length-offsets (segments_end c.args.file.now) c.args.file.now.sections)

pub put_sections-requires-clause-order : goal.put_sections-requires-clause-order
put_sections-requires-clause-order c =
    let file = c.args.file.now in
    let rest = section_parts file.sections (offsets_of file) ++ table_parts false file in
    let whole : InOrder (vec_len c.put_front.new.out) (segment_parts c.as_slice.result.now c.deref.result.now ++ rest) =
    rw (c.in_ok-put_front.ensures.end, c.as_slice.ensures, c.deref.ensures.value, c.requires.spots) (file_order file) in
    rw (c.as_slice-2.ensures, c.deref-2.ensures.value, c.requires.offsets)
    (order_front (vec_len c.put_segments.new.out) (section_parts file.sections (offsets_of file)) (table_parts false file)
    (c.in_ok-put_segments.ensures.orders rest whole))

pub put_table-requires-clause-order : goal.put_table-requires-clause-order
put_table-requires-clause-order c =
    let file = c.args.file.now in
    let rest = section_parts file.sections (offsets_of file) ++ table_parts false file in
    let whole : InOrder (vec_len c.put_front.new.out) (segment_parts c.as_slice.result.now c.deref.result.now ++ rest) =
    rw (c.in_ok-put_front.ensures.end, c.as_slice.ensures, c.deref.ensures.value, c.requires.spots) (file_order file) in
    let later : InOrder (vec_len c.put_segments.new.out) (section_parts c.as_slice-2.result.now c.deref-2.result.now ++ table_parts false file) =
    rw (c.as_slice-2.ensures, c.deref-2.ensures.value, c.requires.offsets) (c.in_ok-put_segments.ensures.orders rest whole) in
    c.in_ok-put_sections.ensures.orders (table_parts false file) later

pub returns-clause-written : goal.returns-clause-written
returns-clause-written c =
    let file = c.args.file.now in
    let segments : segment_parts c.as_slice.result.now c.deref.result.now ≡ segment_parts file.segments (spots_of file) =
    rw (c.as_slice.ensures, c.deref.ensures.value, c.requires.spots) refl in
    let sections : section_parts c.as_slice-2.result.now c.deref-2.result.now ≡ section_parts file.sections (offsets_of file) =
    rw (c.as_slice-2.ensures, c.deref-2.ensures.value, c.requires.offsets) refl in
    c.in_ok-put_table.ensures.laid
    ∙ c.in_ok-put_sections.ensures.laid (table_parts false file)
    ∙ ap (λ (ps : List Part). c.put_segments.new.out.items ++ laid (vec_len c.put_segments.new.out) (ps ++ table_parts false file)) sections
    ∙ c.in_ok-put_segments.ensures.laid (section_parts file.sections (offsets_of file) ++ table_parts false file)
    ∙ ap (λ (ps : List Part). c.put_front.new.out.items ++ laid (vec_len c.put_front.new.out) (ps ++ (section_parts file.sections (offsets_of file) ++ table_parts false file))) segments
    ∙ written_from file c.put_front.new.out.items (vec_len c.put_front.new.out) c.in_ok-put_front.ensures.row c.in_ok-put_front.ensures.end
