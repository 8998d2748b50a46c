-- A link that breaks no rule has a file.
use Rattle.std.proofs.Common.{◌≡◌, true, [], ◌∷◌, Option, Some, None, refl}
use Rattle.std.specs.Prelude.{is_none}
use Rattle.c6x_elf.specs.declared.file.File.{File}
use Rattle.c6x_plan.specs.declared.link_plan.LinkPlan.{LinkPlan}
use Rattle.c6x_link.specs.Linked.{link_refusal, linked, linked_of}
use Rattle.c6x_gen.specs.LinkedPlans.{IsLinked}

pub none_is : {A : Type 0} (told : Option A) → is_none told ≡ true → told ≡ None
none_is None is = refl
none_is (Some broken) is = absurd (cc)

pub linked_by : (object : File) (link : LinkPlan) → is_none (link_refusal (object ∷ []) link) ≡ true → IsLinked object link
unfolding linked
linked_by object link is = (linked_of (object ∷ []) link, rw (none_is (link_refusal (object ∷ []) link) is) refl)
