-- What is assembled is an object.
use Rattle.std.proofs.Common.{◌≡◌, List, ℕ, false, sym, ap}
use Rattle.std.specs.Prelude.{Result, Ok, Err}
use Rattle.c6x_elf.specs.Abi.{ET_REL}
use Rattle.c6x_elf.specs.Form.{IsTidy}
use Rattle.c6x_elf.specs.declared.file.File.{File}
use Rattle.c6x_asm.specs.Objects.{assembled, object_from}
use Rattle.c6x_asm.specs.Reading.{read_of}
use Rattle.c6x_asm.specs.declared.broken.Broken.{Broken}
use Rattle.c6x_asm_object.specs.Filing.{file_of}
use Rattle.c6x_asm.specs.States.{State}
use Rattle.c6x_symbols.specs.Objects.{IsObject}
use Rattle.c6x_cli.specs.Objects.{or_broken}

kind_from : (text : List ℕ) (read : Result State Broken) (object : File) → object_from text read ≡ Ok object → object.kind ≡ ET_REL
unfolding file_of
kind_from text (Ok s) object is =
    let same : file_of text s.sections s.symbols ≡ object = cc in ap (λ (f : File). f.kind) (sym same)
kind_from text (Err broken) object is = absurd (cc)

unbroken : {A : Type 0} (name : List ℕ) (told : Result A Broken) (value : A) → or_broken name told ≡ Ok value → told ≡ Ok value
unbroken name (Ok given) value is = let same : given ≡ value = cc in ap Ok same
unbroken name (Err broken) value is = absurd (cc)

pub is_relocatable : (name text : List ℕ) (object : File) → or_broken name (assembled text) ≡ Ok object → IsTidy false object → IsObject false object
unfolding assembled
is_relocatable name text object is tidy = record {
  kind = kind_from text (read_of text) object (unbroken name (object_from text (read_of text)) object is);
  form = tidy.form;
}
