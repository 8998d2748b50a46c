use Rattle.std.proofs.Common.{take}
use Rattle.c6x_reloc.specs.FieldBits.{IsPatchedBy}
use Rattle.c6x_reloc.proofs.setting.set_fields.Given as goal

abbrev pub invariant-loop-field : goal.invariant-loop-field
invariant-loop-field l = IsPatchedBy l.fn.bytes (take l.field-index l.fields) l.bytes
