-- What the limits of an object say of its sections and names.
use Rattle.std.proofs.Common.{◌≡◌, ℕ, false, List, Ok}
use Rattle.c6x_elf.specs.Form.{IsTidy}
use Rattle.c6x_asm_object.specs.declared.object.Object.{Object}
use Rattle.c6x_asm_object.specs.Filing.{file_of}
use Rattle.c6x_asm_object.proofs.Tidy.{tidy}
use Rattle.c6x_asm_object.specs.Fitting.{FitsFields}
use Rattle.c6x_asm_object.proofs.Fits.{fits}
use Rattle.c6x_asm.specs.States.{state_of}
use Rattle.c6x_asm.specs.Reading.{read_of}
use Rattle.c6x_asm.proofs.Kept.{read_kept}

-- the numbers of an accepted text's object fit their fields
pub object_fits : (text : List ℕ) (o : Object) → read_of text ≡ Ok (state_of o) → FitsFields text o.sections.items o.symbols.list.items
object_fits text o is = let s = state_of o in let kept = read_kept text s is in fits text s.sections s.symbols kept.sound.sound kept.small

-- its object is tidy
pub object_tidy : (text : List ℕ) (o : Object) → read_of text ≡ Ok (state_of o) → IsTidy false (file_of text o.sections.items o.symbols.list.items)
object_tidy text o is = let s = state_of o in let kept = read_kept text s is in tidy text s.sections s.symbols kept.sound.sound kept.small
