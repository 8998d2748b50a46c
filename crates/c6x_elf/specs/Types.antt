-- The public types of files and of their entries, for definitions of the crates above.
pub use Rattle.c6x_elf_headers.specs.declared.dyn_entry.Dyn.{Dyn}
pub use Rattle.c6x_elf_headers.specs.declared.rela_entry.Rela.{Rela}
pub use Rattle.c6x_elf_headers.specs.declared.section_class.SectionClass.{SectionClass}
pub use Rattle.c6x_elf_headers.specs.declared.symbol_binding.SymbolBinding.{SymbolBinding}
pub use Rattle.c6x_elf_headers.specs.declared.symbol_entry.Symbol.{Symbol}
pub use Rattle.c6x_elf_headers.specs.declared.visibility.Visibility.{Visibility}
pub use Rattle.c6x_elf_headers.specs.declared.elf_error.ElfError.{ElfError}
pub use Rattle.c6x_elf_headers.specs.declared.elf_rule.ElfRule.{ElfRule}
pub use Rattle.c6x_elf_headers.specs.declared.section_head.SectionHead.{SectionHead}
pub use Rattle.c6x_elf.specs.declared.file.File.{File}
pub use Rattle.c6x_elf.specs.declared.section.Section.{Section}
pub use Rattle.c6x_elf.specs.declared.segment.Segment.{Segment}
