-- What is assembled breaks no rule of objects.
use Rattle.std.proofs.Common.{◌≡◌, ℕ, false, List, Result, Ok, Err, refl, subst}
use Rattle.c6x_elf.specs.Abi.{ET_REL}
use Rattle.c6x_elf.specs.declared.file.File.{File}
use Rattle.c6x_asm.specs.Objects.{assembled, object_from}
use Rattle.c6x_asm.specs.Reading.{read_of}
use Rattle.c6x_asm.specs.declared.broken.Broken.{Broken}
use Rattle.c6x_asm.proofs.Kept.{read_kept}
use Rattle.c6x_asm_object.specs.Filing.{file_of}
use Rattle.c6x_asm_object.proofs.Tidy.{tidy}
use Rattle.c6x_asm.specs.States.{State}
use Rattle.c6x_symbols.specs.Objects.{IsObject}
use Rattle.c6x_gen.specs.Readable.{ObjectsAreRead}

is_relocatable : (text : List ℕ) (s : State) → (file_of text s.sections s.symbols).kind ≡ ET_REL
unfolding file_of
is_relocatable text s = refl

made_of : (text : List ℕ) (s : State) → read_of text ≡ Ok s → IsObject false (file_of text s.sections s.symbols)
made_of text s is =
    let kept = read_kept text s is in
    record { kind = is_relocatable text s; form = (tidy text s.sections s.symbols kept.sound.sound kept.small).form }

read_from : (text : List ℕ) (read : Result State Broken) (object : File) → read_of text ≡ read → object_from text read ≡ Ok object → IsObject false object
read_from text (Ok s) object is made =
    let same : file_of text s.sections s.symbols ≡ object = cc made in subst (λ file. IsObject false file) same (made_of text s is)
read_from text (Err broken) object is made = absurd (cc made)

pub objects_read : ObjectsAreRead
unfolding assembled
objects_read text object made = read_from text (read_of text) object refl made
