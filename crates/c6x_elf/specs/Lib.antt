pub mod Alone
pub mod Entries
pub mod Form
pub mod Lists
pub mod Parts
pub mod Reading
pub mod Tables
pub mod Types
pub mod Writing
pub use Rattle.c6x_elf_headers.specs.declared.abi.TheConstants as Abi
pub use Rattle.c6x_elf_headers.specs.Attributes
pub use Rattle.c6x_elf_headers.specs.Entries as TableEntries
pub use Rattle.c6x_elf_headers.specs.EntryRows
pub use Rattle.c6x_elf_headers.specs.Held
pub use Rattle.c6x_elf_headers.specs.Names
pub use Rattle.c6x_elf_headers.specs.Rows
pub use Rattle.c6x_elf_headers.specs.Header
pub use Rattle.c6x_elf_headers.specs.Rules
pub use Rattle.c6x_elf_headers.specs.Laid
pub use Rattle.c6x_elf_headers.specs.declared.section_class.SectionClass.TheVariants as SectionClasses
pub use Rattle.c6x_elf_headers.specs.declared.symbol_binding.SymbolBinding.TheVariants as Bindings
pub use Rattle.c6x_elf_headers.specs.declared.visibility.Visibility.TheVariants as Visibilities
pub use Rattle.c6x_elf_headers.specs.declared.elf_error.ElfError.TheVariants as ElfErrors
pub use Rattle.c6x_elf_headers.specs.declared.elf_rule.ElfRule.TheVariants as ElfRules
