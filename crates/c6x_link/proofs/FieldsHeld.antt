use Rattle.std.proofs.Common.{◌≡◌, ℕ, ◌+◌, false, List, Option, None, Some, Ok, if◌then◌else◌, length, refl, subst, ap}
use Rattle.c6x_elf.specs.declared.file.File.{File}
use Rattle.c6x_reloc.specs.FieldBits.{IsLast, patched}
use Rattle.c6x_reloc.proofs.Held.{held_in_list}
use Rattle.c6x_link.specs.Linked.{code_of, content_of, file_or, link_refusal, linked, linked_of}
use Rattle.c6x_symbols.specs.LinkEntries.{data_fields, field_in, is_dynamic, shown, text_fields}
use Rattle.c6x_symbols.specs.declared.entry.Entry.{Entry}
use Rattle.c6x_link.specs.Images.{data_image, text_image}
use Rattle.c6x_link.specs.LinkEntries.{link_entries}
use Rattle.c6x_link.specs.Working.{Working}
use Rattle.c6x_plan.specs.declared.link_plan.LinkPlan.{LinkPlan}
use Rattle.c6x_reloc.specs.Fields.{HoldsValue}
use Rattle.c6x_reloc.specs.declared.reloc_kind.RelocKind.{RelocKind}
use Rattle.c6x_symbols.specs.Rules.{Refusal}

rule_of : (o : Option Refusal) (file f : File) → file_or o file ≡ Ok f → o ≡ None
rule_of None file f is = refl
rule_of (Some broken) file f is = absurd (cc is)

file_is : (o : Option Refusal) (file f : File) → file_or o file ≡ Ok f → f ≡ file
file_is None file f is = cc is
file_is (Some broken) file f is = absurd (cc is)

pub linked_rule : (objects : List File) (plan : LinkPlan) (f : File) → linked objects plan ≡ Ok f → link_refusal objects plan ≡ None
unfolding linked
linked_rule objects plan f is = rule_of (link_refusal objects plan) (linked_of objects plan) f is

pub linked_file_is : (objects : List File) (plan : LinkPlan) (f : File) → linked objects plan ≡ Ok f → f ≡ linked_of objects plan
unfolding linked
linked_file_is objects plan f is = file_is (link_refusal objects plan) (linked_of objects plan) f is

pub linked_is : (objects : List File) (plan : LinkPlan) → link_refusal objects plan ≡ None → linked objects plan ≡ Ok (linked_of objects plan)
unfolding linked
linked_is objects plan none = ap (λ o. file_or o (linked_of objects plan)) none

-- the value of a field that the loader does not fill is the entry's
held : (bytes : List ℕ) (e : Entry) (kind : RelocKind) (value : ℕ) → is_dynamic e.reference ≡ false → HoldsValue bytes (e.at + e.reference.offset) kind (shown e value) → HoldsValue bytes (e.at + e.reference.offset) kind value
held bytes e kind value static holds =
    let P : ℕ → Type 0 = λ v. HoldsValue bytes (e.at + e.reference.offset) kind v in
    subst P (ap (λ b. if b then 0 else value) static) holds

pub text_held : (w : Working) (e : Entry) (kind : RelocKind) (value : ℕ) → is_dynamic e.reference ≡ false → IsLast (length (text_image w)) (text_fields (link_entries w)) (field_in e kind value) → HoldsValue (code_of w) (e.at + e.reference.offset) kind value
unfolding code_of
text_held w e kind value static last =
    held (patched (text_image w) (text_fields (link_entries w))) e kind value static (held_in_list (text_image w) (text_fields (link_entries w)) (field_in e kind value) last)

pub data_held : (w : Working) (e : Entry) (kind : RelocKind) (value : ℕ) → is_dynamic e.reference ≡ false → IsLast (length (data_image w)) (data_fields (link_entries w)) (field_in e kind value) → HoldsValue (content_of w) (e.at + e.reference.offset) kind value
unfolding content_of
data_held w e kind value static last =
    held (patched (data_image w) (data_fields (link_entries w))) e kind value static (held_in_list (data_image w) (data_fields (link_entries w)) (field_in e kind value) last)
