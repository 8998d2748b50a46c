use Rattle.std.proofs.Common.{◌++◌, ◌+◌, ◌-◌, ◌/◌, [], ◌∷◌, List, length, map, sym, ap, ◌∙◌, append_assoc, append-nil, rules}
use Rattle.std.specs.List.{range_with_len}
use Rattle.c6x_elf.specs.TableEntries.{dynamic_at, dynamic_entries}
use Rattle.c6x_elf.specs.Types.{Dyn}
use Rattle.c6x_module.specs.Entries.{entries_of, until_null}
use Rattle.c6x_module.proofs.EntryWalks.{entries_kept, entries_null}
use Rattle.c6x_module.proofs.entries.read_entries.Goals as goal

pub returns-then-entry-eq-DT_NULL : goal.returns-then-entry-eq-DT_NULL
unfolding entries_of dynamic_entries
returns-then-entry-eq-DT_NULL c =
    sym (append-nil c.loop-number.entries.items)
    ∙ ap (λ (xs : List Dyn). c.loop-number.entries.items ++ xs) (sym (entries_null c.args.big c.args.table.now c.loop-number.number (length c.args.table.now / 8) c.entry_at-entry.result c.entry_at-entry.ensures (search rules) c.loop-number-test.true))
    ∙ c.loop-number.invariant

pub loop-number-preserved : goal.loop-number-preserved
loop-number-preserved c =
    let count = length c.args.table.now / 8 in
    let rest = until_null (map (dynamic_at c.args.big c.args.table.now) (range_with_len (c.loop-number.number + 1) (count - (c.loop-number.number + 1)))) in
    ap (λ (xs : List Dyn). xs ++ rest) c.in_ok-push.ensures.items
    ∙ append_assoc c.loop-number.entries.items (c.entry_at-entry.result ∷ []) rest
    ∙ ap (λ (xs : List Dyn). c.loop-number.entries.items ++ xs) (sym (entries_kept c.args.big c.args.table.now c.loop-number.number count c.entry_at-entry.result c.entry_at-entry.ensures (search rules) c.loop-number-test.true))
    ∙ c.loop-number.invariant
