use Rattle.std.proofs.Common.{◌≡◌, ◌-◌, drop, length}
use Rattle.indexmap.specs.IndexMap.{get}
use Rattle.c6x_link.specs.SectionAddresses.{found_in, same_key}
use Rattle.c6x_link.specs.declared.section_key.SectionKey.{SectionKey}
use Rattle.c6x_link.proofs.addresses.addresses_of.Given as goal

abbrev pub invariant-loop-back : goal.invariant-loop-back
invariant-loop-back l = ((key : SectionKey) → get same_key l.addresses key ≡ found_in (drop (length l.places - l.back) l.places) key)
