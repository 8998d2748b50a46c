use Rattle.std.proofs.Common.{◌∙◌, ap, ◌++◌, drop, ◌≤◌, false, length, arith}
use Rattle.c6x_elf.specs.EntryRows.{symbol_row}
use Rattle.c6x_elf.specs.Names.{name_row}
use Rattle.c6x_layout.specs.Tables.{name_rows, shared_names}
use Rattle.c6x_layout.specs.declared.shared.Shared.{Shared}
use Rattle.c6x_layout.proofs.NameRows.{front_room, shared_step, shared_strings, shared_done, strings_done, symbol_at}
use Rattle.c6x_layout.proofs.naming.put_shared.Goals as goal

pub add-requires : goal.add-requires
add-requires c = omega (arith, c.requires, front_room c.loop-symbol.strings (name_rows (shared_names (drop c.loop-symbol.symbol-index c.args.shared.now))) c.args.strings.now (name_rows (shared_names c.args.shared.now)) c.loop-symbol.invariant.strings)

pub loop-symbol-preserved : goal.loop-symbol-preserved
loop-symbol-preserved c =
    let named = c.in_ok-name.ensures.row ∙ ap (λ n. c.loop-symbol.strings ++ name_row n) (c.as_bytes.ensures ∙ ap (λ (s : Shared). s.name) c.symbol-item.is) in
    let put = c.in_ok-put_symbol.ensures.row ∙ ap (λ s. c.loop-symbol.out.items ++ symbol_row false (symbol_at c.in_ok-name.name s)) c.symbol-item.is in
    record {
      symbols = shared_step c.loop-symbol.out.items c.put_symbol.new.out.items c.loop-symbol.strings c.add.new.self c.in_ok-name.name c.args.shared.now c.loop-symbol.symbol-index c.symbol-item.result (omega arith) c.in_ok-name.ensures.place named put ∙ c.loop-symbol.invariant.symbols;
      strings = shared_strings c.loop-symbol.strings c.add.new.self c.args.shared.now c.loop-symbol.symbol-index c.symbol-item.result (omega arith) named ∙ c.loop-symbol.invariant.strings;
    }

pub returns-clause-symbols : goal.returns-clause-symbols
returns-clause-symbols c =
    let past : length c.args.shared.now ≤ c.loop-symbol.symbol-index = omega arith in
    shared_done c.loop-symbol.out.items (length c.loop-symbol.strings) c.args.shared.now c.loop-symbol.symbol-index past ∙ c.loop-symbol.invariant.symbols

pub returns-clause-strings : goal.returns-clause-strings
returns-clause-strings c =
    let past : length c.args.shared.now ≤ c.loop-symbol.symbol-index = omega arith in
    strings_done c.loop-symbol.strings c.args.shared.now c.loop-symbol.symbol-index past ∙ c.loop-symbol.invariant.strings
