use Rattle.std.proofs.Common.{◌≡◌, [], drop, length}
use Rattle.c6x_cli_run.specs.Loading.{AreNamed}
use Rattle.c6x_cli.specs.Made.{made_behind}
use Rattle.c6x_cli.proofs.making.make_modules.Given as goal

-- what the modules that are still to come lead to, all lead to
abbrev pub invariant-loop-place : goal.invariant-loop-place
invariant-loop-place l = record {
  leads : made_behind [] l.sources l.links l.images ≡ made_behind l.modules (drop l.place l.sources) (drop l.place l.links) (drop l.place l.images);
  named : AreNamed l.modules l.images;
  count : length l.modules ≡ l.place;
}
