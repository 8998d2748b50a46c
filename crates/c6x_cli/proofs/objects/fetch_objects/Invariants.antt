use Rattle.std.proofs.Common.{◌≡◌, false, drop, length}
use Rattle.std.specs.Prelude.{All, Result, Vec}
use Rattle.std.specs.declared.alloc.Global.{Global}
use Rattle.c6x_elf.specs.declared.file.File.{File}
use Rattle.c6x_symbols.specs.Objects.{IsObject}
use Rattle.c6x_ports.specs.Shelf.{Shelved}
use Rattle.c6x_cli_steps.specs.declared.prepare_error.PrepareError.{PrepareError}
use Rattle.c6x_cli_steps.specs.Steps.{Prepares}
use Rattle.c6x_cli.specs.Linking.{object_files, objects_behind}
use Rattle.c6x_cli.proofs.objects.fetch_objects.Given as goal

-- what the objects that are still to come lead to, all lead to
abbrev pub invariant-loop-name : goal.invariant-loop-name
invariant-loop-name g l = record {
  leads : (after : Shelved) (result : Result (Vec File Global) PrepareError) → Prepares (λ objects. objects.items) (λ told. objects_behind l.objects.items told (drop l.name-index l.names)) (g.S.Shelf.seen l.shelf) after result → Prepares (λ objects. objects.items) (λ told. object_files told l.names) (g.S.Shelf.seen l.fn.shelf) after result;
  objects : All (IsObject false) l.objects.items;
  count : length l.objects.items ≡ l.name-index;
}
