-- What holds of each entry of a link that breaks no rule.
use Rattle.std.proofs.Common.{◌≡◌, ◌^◌, ◌<◌, false, List, ◌∷◌, ◌++◌, None, length, refl, sym, ap, subst, ◌∙◌, arith}
use Rattle.std.specs.Prelude.{All, is_some, option_map}
use Rattle.c6x_elf.specs.declared.file.File.{File}
use Rattle.c6x_plan.specs.declared.link_plan.LinkPlan.{LinkPlan}
use Rattle.c6x_symbols.specs.Objects.{IsObject}
use Rattle.c6x_symbols.specs.Bindings.{bindings_of, names_refusal}
use Rattle.c6x_symbols.specs.Rules.{must, refusal}
use Rattle.c6x_symbols.specs.declared.link_rule.LinkRule.TheVariants.{NoEntry}
use Rattle.c6x_dsbt.specs.Plans.{tables_refusal}
use Rattle.c6x_layout.proofs.Bounds.{bounds}
use Rattle.c6x_layout.specs.Layouts.{Laying, layout_of, layout_refusal, table_at}
use Rattle.c6x_layout.specs.declared.layout.Layout.{Layout}
use Rattle.c6x_symbols.specs.LinkEntries.{IsIn, entries_error}
use Rattle.c6x_symbols.specs.declared.entry.Entry.{Entry}
use Rattle.c6x_link.proofs.ImageParts.{data_length, first_none, later_none, text_length}
use Rattle.c6x_link.specs.Images.{data_image, text_image}
use Rattle.c6x_link.specs.Worked.{IsWorkedOut, laying_in}
use Rattle.c6x_link.specs.LinkEntries.{entry_on, link_entries, link_entry}
use Rattle.c6x_link.specs.Working.{Working, laying_of, worked_out, working_of}
use Rattle.c6x_link.proofs.EachEntry.{all_entries}
use Rattle.c6x_link.proofs.Placed.{entries_inside, worked_by}
use Rattle.c6x_link.specs.Linked.{entry_of, entry_refusal, file_refusal, laid_refusal, link_refusal, of_entry}
use Rattle.c6x_reloc.specs.Shift.{AreWords}
use Rattle.c6x_relocated.proofs.Basics.{map_none, of_one}

-- the rules of a link, one by one
laid_none : (objects : List File) (plan : LinkPlan) → link_refusal objects plan ≡ None
    → laid_refusal (laying_of objects plan) ≡ None
unfolding link_refusal
laid_none objects plan none =
    later_none (tables_refusal plan.library plan.index plan.table) (laid_refusal (laying_of objects plan))
    (later_none (names_refusal (bindings_of objects)) _ none)

layout_none : (l : Laying) → laid_refusal l ≡ None → layout_refusal l ≡ None
unfolding laid_refusal
layout_none l none = first_none (layout_refusal l) (file_refusal (worked_out l)) none

file_none : (l : Laying) → laid_refusal l ≡ None → file_refusal (worked_out l) ≡ None
unfolding laid_refusal
file_none l none = later_none (layout_refusal l) (file_refusal (worked_out l)) none

entries_none : (w : Working) → file_refusal w ≡ None → entries_error (link_entries w) ≡ None
unfolding file_refusal entry_refusal
entries_none w none =
    map_none of_entry (entries_error (link_entries w)) (later_none (must (is_some (entry_of w)) (refusal NoEntry 0 0)) (option_map of_entry (entries_error (link_entries w))) none)

objects_in : (objects : List File) (plan : LinkPlan) → (laying_of objects plan).objects ≡ objects
unfolding laying_of
objects_in objects plan = refl

-- no entry breaks a rule
pub no_rule : (objects : List File) (plan : LinkPlan) → link_refusal objects plan ≡ None
    → entries_error (link_entries (working_of objects plan)) ≡ None
unfolding working_of
no_rule objects plan none = entries_none (worked_out (laying_of objects plan)) (file_none (laying_of objects plan) (laid_none objects plan none))

pub worked : (objects : List File) (plan : LinkPlan) → All (IsObject false) objects → link_refusal objects plan ≡ None
    → IsWorkedOut (working_of objects plan)
unfolding working_of
worked objects plan all none =
    let P : List File → Type 0 = λ fs. All (IsObject false) fs in
    worked_by (laying_of objects plan) (layout_none (laying_of objects plan) (laid_none objects plan none)) (subst P (sym (objects_in objects plan)) all)

-- the addresses from which its value counts are words
all_words : (w : Working) → w.layout.table < 2 ^ 32
    → All (λ (e : Entry). AreWords e.reference.inputs) (link_entries w)
unfolding link_entry entry_on
all_words w table = all_entries (λ (e : Entry). AreWords e.reference.inputs) w (record { each = λ object wanted e below is. record { p = omega arith; b = table } })

table_is : (l : Laying) → (layout_of l).table ≡ table_at l
unfolding layout_of
table_is l = refl

table_small : (w : Working) → IsWorkedOut w → w.layout.table < 2 ^ 32
table_small w is =
    let b = bounds (laying_in w) is.sized in
    let same = ap (λ (l : Layout). l.table) is.layout ∙ table_is (laying_in w) in
    omega (arith, b.table, b.file, b.data_below, same)

pub all_in : (w : Working) → IsWorkedOut w
    → All (IsIn (length (text_image w)) (length (data_image w))) (link_entries w)
all_in w is = entries_inside w (length (text_image w)) (length (data_image w)) is (text_length w is) (data_length w is)

pub record IsKept (w : Working) (e : Entry) : Type 0 where
  pub words : AreWords e.reference.inputs
  pub within : IsIn (length (text_image w)) (length (data_image w)) e

pub kept : (w : Working) → IsWorkedOut w → (before : List Entry) (e : Entry) (after : List Entry)
    → link_entries w ≡ before ++ e ∷ after → IsKept w e
kept w is before e after split =
    let P : List Entry → Type 0 = λ es. All (λ (x : Entry). AreWords x.reference.inputs) es in
    let Q : List Entry → Type 0 = λ es. All (IsIn (length (text_image w)) (length (data_image w))) es in
    record {
      words = of_one (λ (x : Entry). AreWords x.reference.inputs) before e after (subst P split (all_words w (table_small w is)));
      within = of_one (IsIn (length (text_image w)) (length (data_image w))) before e after (subst Q split (all_in w is));
    }
