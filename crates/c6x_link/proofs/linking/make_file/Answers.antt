use Rattle.std.proofs.Common.{◌≡◌, subst, sym}
use Rattle.c6x_layout.proofs.AlignBounds.{text_align_small}
use Rattle.c6x_layout.proofs.CommonBounds.{data_align_small}
use Rattle.c6x_link.specs.Worked.{laying_in}
use Rattle.c6x_layout.specs.FileSizes.{AreSized}
use Rattle.c6x_layout.specs.declared.parts.Parts.{Parts}
use Rattle.c6x_link.specs.Linked.{parts_of}
use Rattle.c6x_link.proofs.Filled.{filled_relas}
use Rattle.c6x_link.proofs.PartsSized.{parts_sized_by}
use Rattle.c6x_link.proofs.Placed.{has_room}
use Rattle.c6x_link.proofs.linking.make_file.Goals as goal

pub link_entries-requires-clause-room : goal.link_entries-requires-clause-room
link_entries-requires-clause-room c = has_room c.args.link.now c.requires.worked

pub linked_file-requires : goal.linked_file-requires
linked_file-requires c =
    let P : Parts → Type 0 = λ p. AreSized p in
    subst P (sym c.in_ok-parts.ensures)
    (parts_sized_by c.args.link.now c.requires.worked (text_align_small (laying_in c.args.link.now) c.requires.aligned) (data_align_small (laying_in c.args.link.now) c.requires.bound c.requires.aligned) c.in_ok-code.ensures.text_size c.in_ok-code.ensures.data_size (filled_relas c.args.link.now))
