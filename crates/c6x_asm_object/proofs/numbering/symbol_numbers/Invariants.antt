use Rattle.std.proofs.Common.{◌≡◌, ◌+◌, ◌≤◌, length, take, map, count_by}
use Rattle.std.specs.List.{range_with_len}
use Rattle.c6x_asm_object.specs.Bindings.{is_local, is_other}
use Rattle.c6x_asm_object.specs.FormSymbols.{symbol_number}
use Rattle.c6x_asm_object.proofs.numbering.symbol_numbers.Given as goal

abbrev pub invariant-loop-symbol : goal.invariant-loop-symbol
invariant-loop-symbol l = record {
  made : l.numbers.items ≡ map (symbol_number l.sections l.symbols) (range_with_len 0 l.symbol-index);
  local : l.local ≡ 1 + l.sections + count_by is_local (take l.symbol-index l.symbols);
  other : l.other ≡ 1 + l.sections + count_by is_local l.symbols + count_by is_other (take l.symbol-index l.symbols);
  local_few : l.local ≤ 1 + l.sections + l.symbol-index;
  other_few : l.other ≤ 1 + l.sections + length l.symbols + l.symbol-index;
}
