-- What `ld` comes to.
use Rattle.std.specs.Prelude.{ℕ, ◌==◌, false, List, [], ◌∷◌, ◌++◌, codes, slice_index_or, Option, None, Some, Result, Ok, Err, if◌then◌else◌}
use Rattle.c6x_spec.specs.Files.{Files}
use Rattle.c6x_elf.specs.Abi.{ET_REL}
use Rattle.c6x_elf.specs.ElfRules.{FileType}
use Rattle.c6x_elf.specs.Writing.{written}
use Rattle.c6x_elf.specs.declared.file.File.{File}
use Rattle.c6x_plan.specs.declared.link_plan.LinkPlan.{LinkPlan}
use Rattle.c6x_symbols.specs.Rules.{Refusal as LinkRefusal}
use Rattle.c6x_symbols.specs.declared.link_rule.LinkRule.{LinkRule}
use Rattle.c6x_symbols.specs.declared.link_rule.LinkRule.TheVariants.{DuplicateStrong, HiddenUndefined, Alignment, Large, BadIndex, BadSize, RelocKind, RelocRange, RelocAlign, GotAddend, TextAbsolute, CrossSegment, PlaceOutside, NoEntry}
use Rattle.c6x_link.specs.Linked.{linked}
use Rattle.c6x_cli_steps.specs.declared.cause.Cause.{Cause}
use Rattle.c6x_cli_steps.specs.declared.cause.Cause.TheVariants.{Refused}
use Rattle.c6x_cli_steps.specs.declared.cause.Refusal.{Refusal}
use Rattle.c6x_cli_steps.specs.Steps.{Steps, ◌>>=◌, own}
use Rattle.c6x_cli_steps.specs.Elf.{broken_file, elf_steps}
use Rattle.c6x_cli_steps.specs.Plans.{link_plan_steps}

-- The code and the word of a rule of links.
unfoldable pub link_words : LinkRule → List ℕ
link_words DuplicateStrong = codes "K1 DuplicateStrong"
link_words HiddenUndefined = codes "K2 HiddenUndefined"
link_words Alignment = codes "K3 Alignment"
link_words Large = codes "K4 Large"
link_words BadIndex = codes "K5 BadIndex"
link_words BadSize = codes "K6 BadSize"
link_words RelocKind = codes "K7 RelocKind"
link_words RelocRange = codes "K8 RelocRange"
link_words RelocAlign = codes "K9 RelocAlign"
link_words GotAddend = codes "K10 GotAddend"
link_words TextAbsolute = codes "K11 TextAbsolute"
link_words CrossSegment = codes "K12 CrossSegment"
link_words PlaceOutside = codes "K13 PlaceOutside"
link_words NoEntry = codes "K14 NoEntry"

-- Who breaks a rule, and the number: the symbol's name with the object of its second definition, the plan or an object's
-- file with what the rule tells.
abbrev pub blamed : List ℕ → LinkPlan → LinkRefusal → LinkRule → List ℕ × ℕ
blamed plan_name plan broken DuplicateStrong = (broken.name, broken.object)
blamed plan_name plan broken HiddenUndefined = (broken.name, broken.object)
blamed plan_name plan broken Large = (plan_name, broken.place)
blamed plan_name plan broken BadIndex = (plan_name, broken.place)
blamed plan_name plan broken BadSize = (plan_name, broken.place)
blamed plan_name plan broken NoEntry = (plan_name, broken.place)
blamed plan_name plan broken _ = (slice_index_or plan.objects broken.object plan_name, broken.place)

-- The refusal of a link.
abbrev pub broken_link : List ℕ → LinkPlan → LinkRefusal → Refusal
broken_link plan_name plan broken = record {
  rule = link_words broken.rule;
  subject = (blamed plan_name plan broken broken.rule).0;
  number = (blamed plan_name plan broken broken.rule).1;
}

abbrev pub or_unlinked : List ℕ → LinkPlan → Result File LinkRefusal → Result File Cause
or_unlinked plan_name plan (Ok file) = Ok file
or_unlinked plan_name plan (Err broken) = Err (Refused (broken_link plan_name plan broken))

-- The offset of the file type in a file header (gABI chapter 4, "ELF Header").
abbrev pub file_type_at : ℕ
file_type_at = 16

-- A file, where it is an object.
unfoldable pub as_object : List ℕ → File → Result File Cause
as_object name file = if file.kind == ET_REL then Ok file else Err (Refused (broken_file name FileType file_type_at))

-- The object of this name.
unfoldable pub object_file : Files → List ℕ → Steps File
object_file files name = do
  file ← elf_steps files name
  own (as_object name file)

-- Some objects, and behind them those of these names.
abbrev pub objects_behind : List File → Files → List (List ℕ) → Steps (List File)
objects_behind objects files [] = own (Ok objects)
objects_behind objects files (name ∷ names) = object_file files name >>= λ object. objects_behind (objects ++ object ∷ []) files names

unfoldable pub object_files : Files → List (List ℕ) → Steps (List File)
object_files files names = objects_behind [] files names

-- The bytes of the module that a link plan asks for: the first step that has a missing name or a broken rule decides how
-- `ld` ends.
unfoldable pub linking_steps : Files → List ℕ → Steps (List ℕ)
linking_steps files name = do
  plan ← link_plan_steps files name
  objects ← object_files files plan.objects
  file ← own (or_unlinked name plan (linked objects plan))
  own (Ok (written false file))
