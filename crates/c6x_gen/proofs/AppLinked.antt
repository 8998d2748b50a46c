-- The executable of each number is linked.
use Rattle.std.proofs.Common.{◌≡◌, ℕ, ◌*◌, true, [], ◌∷◌, refl, ap, sym, ◌∙◌, subst, arith}
use Rattle.std.specs.Prelude.{is_none}
use Rattle.c6x_gen.specs.Links.{app_link}
use Rattle.c6x_gen.specs.Sources.{calls}
use Rattle.c6x_gen.specs.Objects.{app_instructions, app_object}
use Rattle.c6x_link.specs.Linked.{link_refusal}
use Rattle.c6x_gen.specs.LinkedPlans.{ExecutablesAreLinked}
use Rattle.c6x_gen.proofs.AppNames.{names_good}
use Rattle.c6x_gen.proofs.LinkedAppObject.{app_is, code_length, contents, instruction_count, named, named_below, names_in}
use Rattle.c6x_gen.proofs.AppPasses.{app_passes, IsExecutable}
use Rattle.c6x_gen.proofs.Linking.{linked_by}

pub executable : (n : ℕ) → IsExecutable (contents n) (names_in n) (calls n) (named n)
unfolding contents
executable n =
    let count = instruction_count n in record {
      good = names_good (contents n) n (named n) (omega arith) (omega arith);
      size = omega (arith, count);
      few = omega arith;
      named = named_below n;
      code = code_length (app_instructions n) ∙ ap (λ k. 4 * k) count;
      relas = refl;
    }

pub executables_linked : ExecutablesAreLinked
executables_linked n =
    linked_by (app_object n) app_link
    (subst (λ object. is_none (link_refusal (object ∷ []) app_link) ≡ true) (sym (app_is n))
    (ap is_none (app_passes (contents n) (names_in n) (calls n) (named n) (executable n))))
