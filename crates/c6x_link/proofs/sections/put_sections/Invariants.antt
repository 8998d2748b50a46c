use Rattle.std.proofs.Common.{◌≡◌, ◌++◌, List, drop}
use Rattle.std.specs.Vec.{vec_len}
use Rattle.c6x_elf.specs.Laid.{InOrder, Part, laid}
use Rattle.c6x_link.specs.Sections.{parts_between}
use Rattle.c6x_link.proofs.sections.put_sections.Given as goal

abbrev pub invariant-loop-place : goal.invariant-loop-place
invariant-loop-place l = record {
  laid : (rest : List Part) → l.out.items ++ laid (vec_len l.out) (parts_between l.objects l.start l.low l.high (drop l.place-index l.places) ++ rest) ≡ l.fn.out.items ++ laid (vec_len l.fn.out) (parts_between l.objects l.start l.low l.high l.places ++ rest);
  order : InOrder (vec_len l.out) (parts_between l.objects l.start l.low l.high (drop l.place-index l.places));
  ends : (rest : List Part) → InOrder (vec_len l.fn.out) (parts_between l.objects l.start l.low l.high l.places ++ rest) → InOrder (vec_len l.out) (parts_between l.objects l.start l.low l.high (drop l.place-index l.places) ++ rest);
}
