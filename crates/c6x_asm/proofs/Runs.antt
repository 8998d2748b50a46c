-- A text begins soundly.
use Rattle.std.proofs.Common.{None, []}
use Rattle.std.proofs.lemmas.List.Elements.{All-nil}
use Rattle.c6x_asm_object.specs.Sound.{IsSectionSound, IsSymbolSound}
use Rattle.c6x_asm.specs.Keeping.{IsStateSound}

-- no sections and no symbols
pub sound_begins : IsStateSound (record { sections = []; now = None; symbols = [] })
sound_begins = record { sound = record { sections = All-nil (IsSectionSound 0); symbols = All-nil (IsSymbolSound 0) }; now = tt }
