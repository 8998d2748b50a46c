use Rattle.std.proofs.Common.{◌∙◌, ap, ◌++◌, drop, ◌≤◌, length, arith}
use Rattle.c6x_elf.specs.Names.{name_row}
use Rattle.c6x_layout.specs.Tables.{name_rows}
use Rattle.c6x_layout.proofs.NameRows.{front_room, named_step, named_strings, named_done, name_strings_done}
use Rattle.c6x_layout.proofs.naming.put_named.Goals as goal

pub add-requires : goal.add-requires
add-requires c = omega (arith, c.requires, front_room c.loop-name.strings (name_rows (drop c.loop-name.name-index c.args.names.now)) c.args.strings.now (name_rows c.args.names.now) c.loop-name.invariant.strings)

pub loop-name-preserved : goal.loop-name-preserved
loop-name-preserved c =
    let named = c.in_ok-value.ensures.row ∙ ap (λ n. c.loop-name.strings ++ name_row n) (c.as_bytes.ensures ∙ c.name-item.is) in
    record {
      entries = named_step c.loop-name.out.items c.put_dynamic.new.out.items c.loop-name.strings c.add.new.self c.in_ok-value.value c.args.tag c.args.names.now c.loop-name.name-index c.name-item.result (omega arith) c.in_ok-value.ensures.place named c.in_ok-put_dynamic.ensures.row ∙ c.loop-name.invariant.entries;
      strings = named_strings c.loop-name.strings c.add.new.self c.args.names.now c.loop-name.name-index c.name-item.result (omega arith) named ∙ c.loop-name.invariant.strings;
    }

pub returns-clause-entries : goal.returns-clause-entries
returns-clause-entries c =
    let past : length c.args.names.now ≤ c.loop-name.name-index = omega arith in
    named_done c.loop-name.out.items (length c.loop-name.strings) c.args.tag c.args.names.now c.loop-name.name-index past ∙ c.loop-name.invariant.entries

pub returns-clause-strings : goal.returns-clause-strings
returns-clause-strings c =
    let past : length c.args.names.now ≤ c.loop-name.name-index = omega arith in
    name_strings_done c.loop-name.strings c.args.names.now c.loop-name.name-index past ∙ c.loop-name.invariant.strings
