-- What a link works out is within the limits of a linked file.
use Rattle.std.proofs.Common.{◌≡◌, ℕ, ◌+◌, ◌-◌, ◌≤◌, List, [], ◌∷◌, ◌++◌, Option, None, Some, length, map, refl, sym, ap, ap₂, subst, ◌∙◌, suc, arith, length-append}
use Rattle.std.proofs.lemmas.List.{length-map}
use Rattle.std.specs.List.{enumerate_from}
use Rattle.c6x_elf.specs.Names.{name_table}
use Rattle.c6x_reloc.proofs.Bytes.{patched_length}
use Rattle.c6x_layout.proofs.Bounds.{bounds, data_sized, text_sized}
use Rattle.c6x_layout.specs.Dynamics.{bound_name_at, filled_count, module_names, own_name, shared_names, shared_numbers, strings_of_link}
use Rattle.c6x_layout.specs.Layouts.{Laying, code_end, counts_of, data_align, data_end, file_end, layout_of, size_refusal, table_at, text_align}
use Rattle.c6x_layout.specs.declared.layout.Layout.{Layout}
use Rattle.c6x_link.specs.Linked.{code_of, content_of, parts_of}
use Rattle.c6x_symbols.specs.LinkEntries.{data_fields, dynamic_relas, text_fields}
use Rattle.c6x_link.specs.Exports.{export_of, import_of, shared_of}
use Rattle.c6x_link.specs.Images.{data_image, text_image}
use Rattle.c6x_link.specs.Words.{stub_rela, stub_relas, word_relas}
use Rattle.c6x_link.specs.Worked.{IsWorkedOut, laying_in}
use Rattle.c6x_link.specs.LinkEntries.{link_entries}
use Rattle.c6x_link.specs.Working.{Working}
use Rattle.c6x_layout.specs.FilePlaces.{text_size}
use Rattle.c6x_layout.specs.FileSizes.{AreSized}
use Rattle.c6x_layout.specs.Tables.{counts_of as counts_in, if_named, names_of, shared_name, shared_names as names_shared, strings_of}
use Rattle.c6x_layout.specs.declared.counts.Counts.{Counts}
use Rattle.c6x_layout.specs.declared.file_limits.TheConstants.{MOST_ALIGN, MOST_SEGMENT_BYTES, TEXT_START}
use Rattle.c6x_layout.specs.declared.parts.Parts.{Parts}
use Rattle.c6x_layout.specs.declared.shared.Shared.{Shared}
use Rattle.c6x_symbols.specs.Bindings.{BoundName, bound_at, exports_of, imports_of}

-- counts by their parts
abbrev counts : ℕ → ℕ → ℕ → ℕ → ℕ → ℕ → Counts
counts code symbols strings relas jumps named = record { code = code; symbols = symbols; strings = strings; relas = relas; jumps = jumps; named = named }

counts_are : (a b c d e f g h i j k m : ℕ) → a ≡ b → c ≡ d → e ≡ f → g ≡ h → i ≡ j → k ≡ m → counts a c e g i k ≡ counts b d f h j m
counts_are a b c d e f g h i j k m first second third fourth fifth sixth = cc

named_is : (name : Option (List ℕ)) → if_named name ≡ own_name name
named_is None = refl
named_is (Some name) = refl

-- the names of exports and imports
exported_names : (w : Working) (numbers : List ℕ) → map shared_name (map (export_of w) numbers) ≡ map (bound_name_at w.bindings) numbers
unfolding export_of
exported_names w [] = refl
exported_names w (number ∷ numbers) = ap (λ rest. (bound_at w.bindings number).name ∷ rest) (exported_names w numbers)

imported_names : (w : Working) (numbers : List ℕ) → map shared_name (map (import_of w) numbers) ≡ map (bound_name_at w.bindings) numbers
unfolding import_of
imported_names w [] = refl
imported_names w (number ∷ numbers) = ap (λ rest. (bound_at w.bindings number).name ∷ rest) (imported_names w numbers)

map_joined : {A B : Type 0} (f : A → B) (xs ys : List A) → map f (xs ++ ys) ≡ map f xs ++ map f ys
map_joined f [] ys = refl
map_joined f (x ∷ xs) ys = ap (λ rest. f x ∷ rest) (map_joined f xs ys)

names_same : (w : Working) → names_shared (shared_of w) ≡ shared_names w.bindings
unfolding names_shared shared_names shared_of
names_same w =
    map_joined shared_name (map (export_of w) (exports_of w.bindings)) (map (import_of w) (imports_of w.bindings))
    ∙ ap₂ ◌++◌ (exported_names w (exports_of w.bindings)) (imported_names w (imports_of w.bindings))
    ∙ sym (map_joined (bound_name_at w.bindings) (exports_of w.bindings) (imports_of w.bindings))

shared_length : (w : Working) → length (shared_of w) ≡ length (shared_numbers w.bindings)
unfolding shared_of
shared_length w =
    length-append (map (export_of w) (exports_of w.bindings)) (map (import_of w) (imports_of w.bindings))
    ∙ ap₂ ◌+◌ (length-map (exports_of w.bindings) (export_of w)) (length-map (imports_of w.bindings) (import_of w))
    ∙ sym (length-append (exports_of w.bindings) (imports_of w.bindings))

strings_same : (w : Working) → strings_of (parts_of w) ≡ strings_of_link w.bindings w.plan
unfolding strings_of names_of parts_of strings_of_link module_names
strings_same w = ap name_table (ap₂ ◌++◌ (names_same w) (ap (λ own. own ++ w.plan.needed) (named_is w.plan.soname)))

numbered : {A B : Type 0} (f : ℕ × A → B) (n : ℕ) (xs : List A) → length (map f (enumerate_from n xs)) ≡ length xs
numbered f n [] = refl
numbered f n (x ∷ xs) = ap suc (numbered f (n + 1) xs)

-- what the text holds is what the layout counts
pub counts_same : (w : Working) → length (text_image w) ≡ code_end (laying_in w) - TEXT_START → length (word_relas w) + length (dynamic_relas (link_entries w)) ≡ filled_count w.objects w.bindings w.words → counts_in (parts_of w) ≡ counts_of (laying_in w)
unfolding counts_in counts_of parts_of code_of stub_relas module_names
counts_same w code relas =
    counts_are _ _ _ _ _ _ _ _ _ _ _ _
    (patched_length (text_image w) (text_fields (link_entries w)) ∙ code)
    (let shared = shared_length w in omega (arith, shared))
    (ap length (strings_same w))
    (length-append (word_relas w) (dynamic_relas (link_entries w)) ∙ relas)
    (numbered (stub_rela w) 0 w.stubs)
    (ap (λ own. length (own ++ w.plan.needed)) (named_is w.plan.soname))

-- so text and data are within their limits, where the alignments are
pub parts_sized_by : (w : Working) → IsWorkedOut w → text_align (laying_in w) ≤ MOST_ALIGN → data_align (laying_in w) ≤ MOST_ALIGN → length (text_image w) ≡ code_end (laying_in w) - TEXT_START → length (data_image w) ≡ file_end (laying_in w) - table_at (laying_in w) → length (word_relas w) + length (dynamic_relas (link_entries w)) ≡ filled_count w.objects w.bindings w.words → AreSized (parts_of w)
unfolding parts_of content_of layout_of
parts_sized_by w worked small small_data code content relas =
    let l = laying_in w in
    let b = bounds l worked.sized in
    let end : w.layout.end ≡ data_end l = ap (λ (layout : Layout). layout.end) worked.layout in
    let table : w.layout.table ≡ table_at l = ap (λ (layout : Layout). layout.table) worked.layout in
    let aligned : w.layout.text_align ≡ text_align l = ap (λ (layout : Layout). layout.text_align) worked.layout in
    let data_aligned : w.layout.data_align ≡ data_align l = ap (λ (layout : Layout). layout.data_align) worked.layout in
    let bytes = patched_length (data_image w) (data_fields (link_entries w)) in
    let sized = data_sized l worked.sized in
    let T : Counts → Type 0 = λ (c : Counts). text_size c ≤ MOST_SEGMENT_BYTES in
    record {
      text = subst T (sym (counts_same w code relas)) (text_sized l worked.sized);
      content = omega (arith, end, table, bytes, content, b.file);
      memory = omega (arith, end, table, sized);
      align = omega (arith, aligned, small);
      data_align = omega (arith, data_aligned, small_data);
    }
