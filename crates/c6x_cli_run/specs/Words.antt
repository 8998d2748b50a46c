-- The codes and the words of the rules on modules, on what processes are bound to, and on room.
use Rattle.std.specs.Prelude.{ℕ, List, codes}
use Rattle.c6x_module.specs.declared.module_rule.ModuleRule.{ModuleRule}
use Rattle.c6x_module.specs.declared.module_rule.ModuleRule.TheVariants.{NotDsbt, Segments, TextAlign, TableOutside, InitCode, RelForm, RelocKind, TextReloc, FieldOverlap, EntryOutside, DynamicOutside}
use Rattle.c6x_place.specs.declared.bind_rule.BindRule.{BindRule}
use Rattle.c6x_place.specs.declared.bind_rule.BindRule.TheVariants.{ExecIndex, MissingModule, UnassignedIndex, DuplicateIndex, TableTooSmall, Unresolved, SymbolOutside, Count}

unfoldable pub module_words : ModuleRule → List ℕ
module_words NotDsbt = codes "L1 NotDsbt"
module_words Segments = codes "L2 Segments"
module_words TextAlign = codes "L3 TextAlign"
module_words TableOutside = codes "L4 TableOutside"
module_words InitCode = codes "L5 InitCode"
module_words RelForm = codes "L6 RelForm"
module_words RelocKind = codes "L7 RelocKind"
module_words TextReloc = codes "L8 TextReloc"
module_words FieldOverlap = codes "L9 FieldOverlap"
module_words EntryOutside = codes "L10 EntryOutside"
module_words DynamicOutside = codes "L11 DynamicOutside"

unfoldable pub bind_words : BindRule → List ℕ
bind_words ExecIndex = codes "L12 ExecIndex"
bind_words UnassignedIndex = codes "L13 UnassignedIndex"
bind_words DuplicateIndex = codes "L14 DuplicateIndex"
bind_words TableTooSmall = codes "L15 TableTooSmall"
bind_words MissingModule = codes "L16 MissingModule"
bind_words Unresolved = codes "L17 Unresolved"
bind_words SymbolOutside = codes "L19 SymbolOutside"
bind_words Count = codes "L20 Count"

unfoldable pub room_words : List ℕ
room_words = codes "L18 NoRoom"
