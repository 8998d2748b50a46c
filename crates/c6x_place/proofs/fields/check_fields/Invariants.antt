use Rattle.std.proofs.Common.{◌≡◌, drop}
use Rattle.c6x_spec.specs.Firsts.{first_along}
use Rattle.c6x_module.specs.Lookups.{symbols_of}
use Rattle.c6x_place.specs.Members.{fields_of}
use Rattle.c6x_place.specs.Binding.{found_refusal}
use Rattle.c6x_place.proofs.fields.check_fields.Given as goal

abbrev pub invariant-loop-field : goal.invariant-loop-field
invariant-loop-field l = let test = found_refusal l.modules l.list l.process l.position l.number (symbols_of l.modules l.number) in
    first_along test (drop l.field-index (fields_of l.modules l.number)) ≡ first_along test (fields_of l.modules l.number)
