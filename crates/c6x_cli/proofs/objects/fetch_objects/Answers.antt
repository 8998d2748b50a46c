use Rattle.std.proofs.Common.{◌≡◌, false, [], ◌++◌, ◌∷◌, ◌+◌, drop, length, sym, subst, ◌∙◌, refl, rules, arith}
use Rattle.std.specs.Prelude.{All, Err}
use Rattle.std.proofs.lemmas.List.Elements.{All-nil, All-push}
use Rattle.std.proofs.lemmas.List.{drop_all}
use Rattle.c6x_elf.specs.declared.file.File.{File}
use Rattle.c6x_symbols.specs.Objects.{IsObject}
use Rattle.c6x_cli.proofs.ObjectLemmas.{names_from, objects_end, objects_memory, objects_next, objects_start, objects_stop}
use Rattle.c6x_cli.proofs.objects.fetch_objects.Goals as goal

pub loop-name-init : goal.loop-name-init
loop-name-init g c = record {
  leads = λ after result p. objects_start (λ objects. objects.items) c.new-objects.result.items c.args.names.now _ after result c.new-objects.ensures.items p;
  objects = subst (All (IsObject false)) (sym c.new-objects.ensures.items) (All-nil (IsObject false));
  count = search rules;
}

pub returns-in_err-object-clause-prepares : goal.returns-in_err-object-clause-prepares
returns-in_err-object-clause-prepares g c =
    c.loop-name.invariant.leads _ _ (objects_stop (λ objects. objects.items) c.loop-name.objects.items c.name-item.result (drop (c.loop-name.name-index + 1) c.args.names.now) _ _ _ c.in_err-object.field-0.0 _ (names_from c.args.names.now c.loop-name.name-index c.name-item.result c.loop-name-test.true c.name-item.is) (search rules) c.in_err-object.ensures.prepares)

pub returns-in_err-map_err-clause-prepares : goal.returns-in_err-map_err-clause-prepares
returns-in_err-map_err-clause-prepares g c =
    c.loop-name.invariant.leads _ _ (objects_memory (λ objects. objects.items) c.loop-name.objects.items c.name-item.result (drop (c.loop-name.name-index + 1) c.args.names.now) _ _ _ c.in_ok-object.object _ (names_from c.args.names.now c.loop-name.name-index c.name-item.result c.loop-name-test.true c.name-item.is) (search rules) c.in_ok-object.ensures.prepares)

pub loop-name-preserved : goal.loop-name-preserved
loop-name-preserved g c =
    let more : c.push.new.self.items ≡ c.loop-name.objects.items ++ c.in_ok-object.object ∷ [] = search rules in
    record {
      leads = λ after result p. c.loop-name.invariant.leads after result (objects_next (λ objects. objects.items) c.loop-name.objects.items c.push.new.self.items c.name-item.result (drop (c.loop-name.name-index + 1) c.args.names.now) _ _ _ after c.in_ok-object.object result (names_from c.args.names.now c.loop-name.name-index c.name-item.result c.loop-name-test.true c.name-item.is) more c.in_ok-object.ensures.prepares p);
      objects = subst (All (IsObject false)) (sym more) (All-push (IsObject false) c.loop-name.objects.items c.in_ok-object.object c.loop-name.invariant.objects c.in_ok-object.ensures.object);
      count = search rules;
    }

pub returns-clause-prepares : goal.returns-clause-prepares
returns-clause-prepares g c =
    c.loop-name.invariant.leads _ _ (objects_end (λ objects. objects.items) c.loop-name.objects (drop c.loop-name.name-index c.args.names.now) _ (drop_all c.loop-name.name-index c.args.names.now c.loop-name-test.false))
