-- What a link works out, where no rule is broken, is the parts of a module but for the two rules that are left.
use Rattle.std.proofs.Common.{◌≡◌, ℕ, ◌^◌, ◌<◌, Bool, true, false, List, map, Option, None, Some, option_map, is_some, refl, sym, subst, arith}
use Rattle.std.proofs.lemmas.List.Elements.{All-append}
use Rattle.std.specs.Prelude.{All, IsTrue}
use Rattle.c6x_dsbt.specs.Plans.{tables_refusal}
use Rattle.c6x_elf.specs.Names.{IsName}
use Rattle.c6x_elf.specs.declared.file.File.{File}
use Rattle.c6x_layout.specs.Layouts.{Laying, layout_refusal}
use Rattle.c6x_link.proofs.Placed.{aligned_by, worked_by}
use Rattle.c6x_link.specs.Linked.{entry_of, entry_refusal, file_refusal, is_start, is_symbol, laid_refusal, link_refusal, of_entry, or_zero, parts_of, start_at, start_named, start_of}
use Rattle.c6x_symbols.specs.LinkEntries.{dynamic_relas, entries_error}
use Rattle.c6x_symbols.specs.declared.entry.EntryError.{EntryError}
use Rattle.c6x_link.proofs.ImageParts.{first_none, later_none}
use Rattle.c6x_link.specs.Words.{word_relas}
use Rattle.c6x_link.specs.Worked.{IsWorkedOut}
use Rattle.c6x_link_loads.specs.Linkable.{AreLinkable, IsOfBytes}
use Rattle.c6x_link.specs.LinkEntries.{link_entries}
use Rattle.c6x_link.specs.Working.{Working, laying_of, worked_out, working_of}
use Rattle.c6x_layout.specs.FileSizes.{AreSized}
use Rattle.c6x_link_loads.specs.Loads.{AreLoadable, IsForLoader}
use Rattle.c6x_module.specs.Alignment.{is_alignment}
use Rattle.c6x_plan.specs.declared.link_plan.LinkPlan.{LinkPlan}
use Rattle.c6x_symbols.specs.Bindings.{binding_in, bindings_of, bound_at, name_in, names_refusal}
use Rattle.c6x_symbols.specs.Names.{name_at}
use Rattle.c6x_symbols.specs.Rules.{must, refusal}
use Rattle.c6x_symbols.specs.declared.link_rule.LinkRule.TheVariants.{NoEntry}
use Rattle.c6x_dsbt.specs.Needs.{stubs_of}
use Rattle.c6x_link_loads.proofs.Aligned.{data_align_fits, text_align_fits}
use Rattle.c6x_link_loads.proofs.Dynamics.{dynamics_load}
use Rattle.c6x_link_loads.proofs.ForLoader.{stubs_load, words_load}
use Rattle.c6x_link_loads.proofs.Laid.{aligned, has_place, has_slots, is_laid}
use Rattle.c6x_link_loads.proofs.Sizes.{behind, sized}
use Rattle.c6x_link_loads.proofs.Symbols.{all_shared, bound_small}

-- where a process begins
at_small : (w : Working) (o : Option ℕ) → IsWorkedOut w → All IsOfBytes w.objects → or_zero (start_at w o) < 2 ^ 32
at_small w None worked are = omega arith
at_small w (Some n) worked are = by (is_start w n (is_symbol (binding_in (bound_at w.bindings n)))) refl
  where
    by : (t : Bool) → is_start w n (is_symbol (binding_in (bound_at w.bindings n))) ≡ t → or_zero (start_at w (Some n)) < 2 ^ 32
    by true is = rw is (bound_small w n worked are)
    by false is = rw is (omega arith)

named_small : (w : Working) (o : Option (List ℕ)) → IsWorkedOut w → All IsOfBytes w.objects → or_zero (start_named w o) < 2 ^ 32
named_small w None worked are = omega arith
named_small w (Some name) worked are = at_small w (name_at (map name_in w.bindings) name) worked are

entry_small : (w : Working) (library : Bool) → IsWorkedOut w → All IsOfBytes w.objects → or_zero (start_of w library) < 2 ^ 32
entry_small w true worked are = omega arith
entry_small w false worked are = named_small w w.plan.entry worked are

-- what the link's own facts give
record IsLinked (w : Working) : Type 0 where
  worked : IsWorkedOut w
  bound : w.bindings ≡ bindings_of w.objects
  stubs : w.stubs ≡ stubs_of w.objects w.bindings
  text : IsTrue (is_alignment w.layout.text_align)
  range : IsTrue (is_alignment w.layout.data_align)
  sized : AreSized (parts_of w)
  tables : tables_refusal w.plan.library w.plan.index w.plan.table ≡ None
  entries : entries_error (link_entries w) ≡ None
  bytes : All IsOfBytes w.objects
  needed : All IsName w.plan.needed

parts_load : (w : Working) → IsLinked w → AreLoadable (parts_of w)
unfolding parts_of entry_of
parts_load w is =
    let worked = is.worked in
    let place = has_place w worked in
    let slots = has_slots w.plan.library w.plan.index w.plan.table is.tables in
    let end = place.end in
    let memory = place.memory in
    let words = place.words in
    let words_end = place.words_end in
    let few = slots.few in
    let index = slots.within in
    let P = IsForLoader (parts_of w) in
    record {
      sized = is.sized;
      end = omega (arith, end, memory);
      behind = behind w worked;
      align = is.text;
      data_align = is.range;
      aligned = aligned w worked;
      some = slots.some;
      room = omega (arith, words, words_end, memory);
      index = omega (arith, index, few);
      entry = entry_small w w.plan.library worked is.bytes;
      shared = all_shared w worked is.bound is.bytes;
      needed = is.needed;
      relas = All-append P (word_relas w) (dynamic_relas (link_entries w)) (words_load w worked) (dynamics_load w worked is.entries);
      jumps = stubs_load w worked is.stubs;
    }

-- no entry breaks a rule
no_entry : (o : Option EntryError) → option_map of_entry o ≡ None → o ≡ None
no_entry None none = refl
no_entry (Some x) none = absurd (cc none)

linked_by : (l : Laying) → l.bindings ≡ bindings_of l.objects → l.stubs ≡ stubs_of l.objects l.bindings → AreLinkable l.objects l.plan → tables_refusal l.plan.library l.plan.index l.plan.table ≡ None → laid_refusal l ≡ None → AreLoadable (parts_of (worked_out l))
unfolding laid_refusal file_refusal entry_refusal
linked_by l bound stubs able tables none =
    let w = worked_out l in
    let laid = first_none (layout_refusal l) (file_refusal w) none in
    let file = later_none (layout_refusal l) (file_refusal w) none in
    let entry = later_none (must (is_some (entry_of w)) (refusal NoEntry 0 0)) (entry_refusal w) file in
    let worked = worked_by l laid able.form in
    let even = aligned_by l laid in
    let is = is_laid w worked in
    let P : ℕ → Type 0 = λ n. IsTrue (is_alignment n) in
    parts_load w (record {
      worked = worked;
      bound = bound;
      stubs = stubs;
      text = subst P (sym is.text_align) (text_align_fits l even);
      range = subst P (sym is.data_align) (data_align_fits l bound even);
      sized = sized w worked bound even;
      tables = tables;
      entries = no_entry (entries_error (link_entries w)) entry;
      bytes = able.bytes;
      needed = able.needed;
    })

pub loadable : (objects : List File) (plan : LinkPlan) → AreLinkable objects plan → link_refusal objects plan ≡ None → AreLoadable (parts_of (working_of objects plan))
unfolding link_refusal working_of laying_of
loadable objects plan able none =
    let l = laying_of objects plan in
    let behind_names = later_none (names_refusal (bindings_of objects)) _ none in
    linked_by l refl refl able (first_none (tables_refusal plan.library plan.index plan.table) (laid_refusal l) behind_names)
    (later_none (tables_refusal plan.library plan.index plan.table) (laid_refusal l) behind_names)
