use Rattle.std.proofs.Common.{◌≡◌, [], ◌++◌, ◌≤◌, length, take, drop}
use Rattle.c6x_base.specs.declared.limits.TheConstants.{MOST_FILE_BYTES}
use Rattle.c6x_elf.specs.Writing.{AreWithin, spots, spots_end}
use Rattle.c6x_elf.proofs.placing.place_segments.Given as goal

abbrev pub invariant-loop-k : goal.invariant-loop-k
invariant-loop-k l = record {
  spots : l.had.items ++ spots (take l.k l.segments) l.had.items l.from (drop l.k l.segments)
      ≡ spots [] [] l.start l.segments;
  end : spots_end (take l.k l.segments) l.had.items l.from (drop l.k l.segments)
      ≡ spots_end [] [] l.start l.segments;
  few : l.from ≤ MOST_FILE_BYTES;
  same : length l.had.items ≡ l.k;
  within : AreWithin (take l.k l.segments) l.had.items;
}
