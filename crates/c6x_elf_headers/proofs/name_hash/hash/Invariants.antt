use Rattle.std.proofs.Common.{◌≡◌, drop}
use Rattle.c6x_elf_headers.specs.Names.{hash_of}
use Rattle.c6x_elf_headers.proofs.name_hash.hash.Given as goal

abbrev pub invariant-loop-c : goal.invariant-loop-c
invariant-loop-c l = hash_of l.h (drop l.c-index l.name) ≡ hash_of 0 l.name
