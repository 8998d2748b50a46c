use Rattle.std.proofs.Common.{Bool, List}
use Rattle.std.proofs.lemmas.List.Elements.{All-weaker}
use Rattle.std.specs.Prelude.{All}
use Rattle.c6x_elf.specs.declared.file.File.{File}
use Rattle.c6x_symbols.specs.Objects.{HasFewSections, IsObject}

object_has_few : (big : Bool) (file : File) → IsObject big file → HasFewSections file
object_has_few big file is = record { sections = is.form.sections }

-- objects have no more sections than a file may have
pub objects_have_few : (big : Bool) (files : List File) → All (IsObject big) files → All HasFewSections files
objects_have_few big files are = All-weaker (IsObject big) HasFewSections (object_has_few big) files are
