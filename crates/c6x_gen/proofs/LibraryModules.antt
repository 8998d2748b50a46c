-- The file of each library is read as a module.
use Rattle.std.proofs.Common.{◌≡◌, ℕ, ◌≤◌, ◌==◌, false, List, [], ◌∷◌, None, refl, sym, ap, ◌∙◌, subst, arith}
use Rattle.std.proofs.lemmas.Bool.{ne_eqb}
use Rattle.c6x_elf.specs.declared.file.File.{File}
use Rattle.c6x_elf.specs.declared.segment.Segment.{Segment}
use Rattle.c6x_gen.specs.Links.{library_link}
use Rattle.c6x_gen.specs.Sources.{counter, library_name}
use Rattle.c6x_gen.specs.Assembles.{SourcesAreAssembled}
use Rattle.c6x_gen.specs.Objects.{library_object}
use Rattle.c6x_gen.proofs.LibraryFile.{library_file, library_is}
use Rattle.c6x_gen.specs.LinkedPlans.{LibrariesAreLinked}
use Rattle.c6x_gen.specs.Readable.{ObjectsAreRead}
use Rattle.c6x_link.proofs.FieldsHeld.{linked_rule}
use Rattle.c6x_link.specs.Linked.{link_refusal, parts_of}
use Rattle.c6x_link.specs.Exports.{shared_of}
use Rattle.c6x_link.specs.Working.{Working, laying_of, working_of}
use Rattle.c6x_layout.specs.File.{text_segment}
use Rattle.c6x_layout.specs.declared.file_limits.TheConstants.{TEXT_START}
use Rattle.c6x_layout.specs.declared.parts.Parts.{Parts}
use Rattle.c6x_link_loads.specs.Loads.{fields_of_parts, parts_refusal}
use Rattle.c6x_module.specs.Fields.{entry_refusal, fields_of}
use Rattle.c6x_module.specs.Refusals.{must}
use Rattle.c6x_plan.specs.declared.link_plan.LinkPlan.{LinkPlan}
use Rattle.c6x_gen.specs.Modules.{LibrariesAreRead}
use Rattle.c6x_gen.specs.Parts.{IsLibrary, function_shared}
use Rattle.c6x_gen.proofs.LibraryParts.{left_over, none_left, one_shared, worked}
use Rattle.c6x_gen.proofs.Linkable.{library_linkable}
use Rattle.c6x_gen.proofs.Reading.{is_module}

-- the plan of a link is that of its working
plan_is : (objects : List File) (plan : LinkPlan) → (working_of objects plan).plan ≡ plan
unfolding working_of laying_of
plan_is objects plan = refl

-- fields are of what is left over
fields_are : (w : Working) → fields_of_parts (parts_of w) ≡ fields_of (left_over w)
unfolding parts_of fields_of_parts
fields_are w = refl

library_parts : (library : ℕ) (w : Working) → w.plan ≡ library_link library → shared_of w ≡ function_shared (library_name library) TEXT_START ∷ [] → left_over w ≡ [] → IsLibrary library (parts_of w)
unfolding parts_of
library_parts library w plan shared left = record {
  library = ap (λ (l : LinkPlan). l.library) plan;
  index = ap (λ (l : LinkPlan). l.index) plan;
  slots = ap (λ (l : LinkPlan). l.table) plan;
  needed = ap (λ (l : LinkPlan). l.needed) plan;
  start = TEXT_START;
  above = omega arith;
  below = omega arith;
  shared = shared;
  fields = fields_are w ∙ ap fields_of left;
}

-- A library begins nowhere, and what has no field breaks no rule of fields.
no_entry : (text : Segment) (index entry : ℕ) → 1 ≤ index → entry_refusal text index entry ≡ None
unfolding entry_refusal must
no_entry text index entry some =
    let other : (index == 0) ≡ false = ne_eqb index 0 (λ is. absurd (omega (arith, is, some))) in
    rw other refl

keeps : (library : ℕ) (p : Parts) → 1 ≤ library → IsLibrary library p → parts_refusal p ≡ None
unfolding parts_refusal
keeps library p least is = rw is.fields (no_entry (text_segment p) p.index p.entry (omega (arith, is.index, least)))

none_refused : LibrariesAreLinked → (number library : ℕ) → 1 ≤ library → library ≤ 11 → link_refusal (library_object number library ∷ []) (library_link library) ≡ None
none_refused linked number library least most =
    let made = linked number library least most in linked_rule (library_object number library ∷ []) (library_link library) made.0 made.1

form : (number library : ℕ) → 1 ≤ library → library ≤ 11 → IsLibrary library (parts_of (working_of (library_object number library ∷ []) (library_link library)))
form number library least most =
    let count = counter number library in
    subst (λ object. IsLibrary library (parts_of (working_of (object ∷ []) (library_link library)))) (sym (library_is number library))
    (library_parts library (worked library count) (plan_is (library_file (library_name library) count ∷ []) (library_link library))
    (one_shared library count least most) (none_left library count least most))

pub libraries_read : ObjectsAreRead → SourcesAreAssembled → LibrariesAreLinked → LibrariesAreRead
libraries_read read assembled linked number library least most =
    let is = form number library least most in
    is_module (library_name library) (library_object number library) (library_link library) (IsLibrary library)
    (library_linkable read assembled number library least most) (none_refused linked number library least most)
    (keeps library (parts_of (working_of (library_object number library ∷ []) (library_link library))) least is) is
