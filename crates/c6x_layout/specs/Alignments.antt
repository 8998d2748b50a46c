-- The rule on alignments (K3), over the sections with memory and then the commons of each object.
use Rattle.std.specs.Prelude.{ℕ, ◌==◌, ◌&&◌, ◌||◌, true, false, Bool, List, Option, filter, nat_le}
use Rattle.std.specs.Int.{is_power_of_two}
use Rattle.std.specs.List.{enumerate_from}
use Rattle.c6x_elf.specs.Attributes.{symbol_binding, symbol_class}
use Rattle.c6x_elf.specs.Lists.{symbols_of}
use Rattle.c6x_elf.specs.declared.file.File.{File}
use Rattle.c6x_elf.specs.declared.section.Section.{Section}
use Rattle.c6x_elf.specs.Types.{Symbol}
use Rattle.c6x_elf.specs.Bindings.{Local, Global, Weak}
use Rattle.c6x_elf.specs.Types.{SymbolBinding}
use Rattle.c6x_symbols.specs.Sections.{is_allocated}
use Rattle.c6x_symbols.specs.Groups.{class_is_common}
use Rattle.c6x_symbols.specs.Rules.{Refusal, ◌<|>◌, first_along, must, refusal}
use Rattle.c6x_symbols.specs.declared.link_rule.LinkRule.TheVariants.{Alignment}
use Rattle.c6x_layout.specs.declared.file_limits.TheConstants.{MOST_ALIGN}

-- 0, or a power of two up to the greatest.
unfoldable pub is_alignment : ℕ → Bool
is_alignment align = align == 0 || (is_power_of_two align && nat_le align MOST_ALIGN)

abbrev pub align_refusal : ℕ → ℕ → Option Refusal
align_refusal object align = must (is_alignment align) (refusal Alignment object align)

abbrev pub section_align_refusal : ℕ → Section → Option Refusal
section_align_refusal object section = align_refusal object section.align

-- A common's alignment is its value.
abbrev pub common_align_refusal : ℕ → Symbol → Option Refusal
common_align_refusal object symbol = align_refusal object symbol.value

abbrev pub is_seen : SymbolBinding → Bool
is_seen Local = false
is_seen Global = true
is_seen Weak = true

-- A GLOBAL or WEAK common, also one that a definition overrides.
abbrev pub is_shared_common : Symbol → Bool
is_shared_common symbol = is_seen (symbol_binding symbol) && class_is_common (symbol_class symbol)

unfoldable pub object_align_refusal : ℕ × File → Option Refusal
object_align_refusal x =
    first_along (section_align_refusal x.0) (filter is_allocated x.1.sections)
    <|> first_along (common_align_refusal x.0) (filter is_shared_common (symbols_of false x.1.sections))

unfoldable pub alignments_refusal : List File → Option Refusal
alignments_refusal objects = first_along object_align_refusal (enumerate_from 0 objects)
