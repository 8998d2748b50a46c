use Rattle.std.specs.Prelude.{◌≡◌, ℕ, List, Option, None, Some, Result, Ok, Err}
use Rattle.c6x_elf.specs.declared.file.File.{File}
use Rattle.c6x_elf.specs.declared.segment.Segment.{Segment}
use Rattle.c6x_module.specs.declared.module.Module.{Module}
use Rattle.c6x_module.specs.declared.module_error.ModuleError.{ModuleError}
use Rattle.c6x_module.specs.declared.module_error.ModuleError.TheVariants.{Rule, NoMemory}
use Rattle.c6x_module.specs.Ranges.{ranges_in}
use Rattle.c6x_module.specs.Refusals.{Refusal}
use Rattle.c6x_modules.specs.declared.survey.Survey.{Survey}

-- The module of a file of which all but the segments was read.
abbrev pub module_from : Survey → List ℕ → File → Segment × Segment → Module
module_from s name file two = record {
  name = name;
  kind = file.kind;
  entry = file.entry;
  text = two.0;
  memory = two.1;
  symbols = s.symbols;
  fields = s.fields;
  needed = s.needed;
  index = s.index;
  slots = s.slots;
  table = s.table;
}

-- The same with the text and the data range as they are read.
abbrev pub module_with : Survey → List ℕ → File → Result (Segment × Segment) Refusal → Result Module Refusal
module_with s name file (Ok two) = Ok (module_from s name file two)
module_with s name file (Err refusal) = Err refusal

-- A survey is what is read of a file's module, up to the segments, or the rule by which there is none; want of memory may
-- come in their stead.
abbrev pub Surveys : List ℕ → File → Result Survey ModuleError → Result Module Refusal → Type 0
Surveys name file (Ok s) read = read ≡ module_with s name file (ranges_in file.segments)
Surveys name file (Err (Rule rule number)) read = read ≡ Err (rule, number)
Surveys name file (Err NoMemory) read = Unit {0}

-- The first of a value and another.
abbrev pub or_later : Option Segment → Option Segment → Option Segment
or_later None later = later
or_later (Some s) later = Some s
