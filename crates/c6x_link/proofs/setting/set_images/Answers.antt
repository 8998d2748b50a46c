use Rattle.std.proofs.Common.{◌≡◌, ◌-◌, List, length, subst, sym, ap, ◌∙◌}
use Rattle.std.specs.Prelude.{All}
use Rattle.c6x_layout.specs.Layouts.{code_end, file_end, table_at}
use Rattle.c6x_symbols.specs.LinkEntries.{IsIn}
use Rattle.c6x_symbols.specs.declared.entry.Entry.{Entry}
use Rattle.c6x_link.specs.Worked.{laying_in}
use Rattle.c6x_layout.specs.declared.file_limits.TheConstants.{TEXT_START}
use Rattle.c6x_link.proofs.Placed.{entries_inside}
use Rattle.c6x_link.proofs.setting.set_images.Goals as goal

pub set_all-requires : goal.set_all-requires
set_all-requires c =
    let text : length c.as_mut_slice.result.now ≡ code_end (laying_in c.args.link.now) - TEXT_START = ap length c.as_mut_slice.ensures.value ∙ c.in_ok-code.ensures.size in
    let range : length c.as_mut_slice-2.result.now ≡ file_end (laying_in c.args.link.now) - table_at (laying_in c.args.link.now) = ap length c.as_mut_slice-2.ensures.value ∙ c.in_ok-content.ensures.size in
    let P : List Entry → Type 0 = λ es. All (IsIn (length c.as_mut_slice.result.now) (length c.as_mut_slice-2.result.now)) es in
    subst P (sym c.requires.entries) (entries_inside c.args.link.now (length c.as_mut_slice.result.now) (length c.as_mut_slice-2.result.now) c.requires.worked text range)
