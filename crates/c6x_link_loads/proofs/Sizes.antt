-- The sizes of what a link works out.
use Rattle.std.proofs.Common.{◌≡◌, ◌+◌, ◌≤◌, refl, sym, subst, arith}
use Rattle.c6x_layout.proofs.AlignBounds.{text_align_small}
use Rattle.c6x_layout.proofs.CommonBounds.{data_align_small}
use Rattle.c6x_layout.proofs.Sized.{ordered}
use Rattle.c6x_layout.specs.Alignments.{alignments_refusal}
use Rattle.c6x_layout.specs.Layouts.{Laying, counts_of, text_end}
use Rattle.c6x_link.proofs.Filled.{filled_relas}
use Rattle.c6x_link.proofs.PartsSized.{counts_same, parts_sized_by}
use Rattle.c6x_link.specs.Linked.{parts_of}
use Rattle.c6x_link.proofs.ImageParts.{data_length, text_length}
use Rattle.c6x_link.specs.Worked.{IsWorkedOut, laying_in}
use Rattle.c6x_link_loads.proofs.Laid.{is_laid}
use Rattle.c6x_link.specs.Working.{Working}
use Rattle.c6x_layout.specs.FilePlaces.{text_size}
use Rattle.c6x_layout.specs.FileSizes.{AreSized}
use Rattle.c6x_layout.specs.Tables.{counts_of as counts_in}
use Rattle.c6x_layout.specs.declared.counts.Counts.{Counts}
use Rattle.c6x_layout.specs.declared.file_limits.TheConstants.{TEXT_START}
use Rattle.c6x_symbols.specs.Bindings.{bindings_of}
use Rattle.std.specs.Prelude.{None}

pub sized : (w : Working) → IsWorkedOut w → w.bindings ≡ bindings_of w.objects → alignments_refusal w.objects ≡ None → AreSized (parts_of w)
sized w worked bound aligned =
    parts_sized_by w worked (text_align_small (laying_in w) aligned) (data_align_small (laying_in w) bound aligned)
    (text_length w worked) (data_length w worked) (filled_relas w)

text_end_is : (l : Laying) → text_end l ≡ TEXT_START + text_size (counts_of l)
unfolding text_end
text_end_is l = refl

pub behind : (w : Working) → IsWorkedOut w → TEXT_START + text_size (counts_in (parts_of w)) ≤ w.layout.table
behind w worked =
    let l = laying_in w in
    let same = counts_same w (text_length w worked) (filled_relas w) in
    let o = ordered l in
    let is = is_laid w worked in
    let P : Counts → Type 0 = λ (c : Counts). TEXT_START + text_size c ≤ w.layout.table in
    subst P (sym same) (omega (arith, text_end_is l, o.below, is.table))
