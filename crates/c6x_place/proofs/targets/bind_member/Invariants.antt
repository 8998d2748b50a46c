use Rattle.std.proofs.Common.{◌≡◌, drop, take, map}
use Rattle.c6x_spec.specs.Firsts.{first_along}
use Rattle.c6x_module.specs.Lookups.{symbols_of}
use Rattle.c6x_place.specs.Members.{fields_of}
use Rattle.c6x_place.specs.Definitions.{field_value}
use Rattle.c6x_place.specs.Binding.{outside_refusal}
use Rattle.c6x_place.proofs.targets.bind_member.Given as goal

abbrev pub invariant-loop-field : goal.invariant-loop-field
invariant-loop-field l = let symbols = symbols_of l.modules l.number in
    let fields = fields_of l.modules l.number in
    let test = outside_refusal l.modules l.list l.process l.position l.number symbols in
    record {
      rules : first_along test (drop l.field-index fields) ≡ first_along test fields;
      made : l.targets.items ≡ map (field_value l.modules l.list l.position symbols) (take l.field-index fields);
    }
