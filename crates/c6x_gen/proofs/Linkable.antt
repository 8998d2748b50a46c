-- The generated objects can be linked by the generated plans.
use Rattle.std.proofs.Common.{◌≢◌, ℕ, zero, suc, ◌+◌, ◌^◌, ◌<◌, ◌≤◌, false, List, [], ◌∷◌, arith}
use Rattle.std.proofs.lemmas.Fmt.{decimal_is_IsNumeral}
use Rattle.std.proofs.lemmas.List.Elements.{All-append, All-cons, All-nil}
use Rattle.std.proofs.lemmas.Str.Parse.{digit_from_value}
use Rattle.std.specs.Char.{digit_value}
use Rattle.std.specs.Prelude.{All, decimal}
use Rattle.std.specs.Str.Parse.{AllDigits}
use Rattle.c6x_elf.specs.Names.{IsName}
use Rattle.c6x_elf.specs.declared.file.File.{File}
use Rattle.c6x_gen.specs.Lists.{each_below}
use Rattle.c6x_gen.specs.Links.{app_link, library_link}
use Rattle.c6x_gen.specs.Sources.{app_source, library_name, library_source}
use Rattle.c6x_gen.specs.Assembles.{SourcesAreAssembled}
use Rattle.c6x_gen.specs.Objects.{app_object, library_object}
use Rattle.c6x_gen.specs.Readable.{ObjectsAreRead}
use Rattle.c6x_link_loads.specs.Linkable.{AreLinkable, IsOfBytes}
use Rattle.c6x_symbols.specs.Objects.{IsObject}
use Rattle.c6x_plan.specs.declared.link_plan.LinkPlan.{LinkPlan}
use Rattle.c6x_gen.proofs.ModuleTexts.{app_of_bytes, library_of_bytes}

digit_some : (b : ℕ) → digit_value b < 10 → b ≢ 0
digit_some b digit is = omega (arith, is, digit_from_value b digit)

digits_some : (bs : List ℕ) → AllDigits 10 bs → All (λ b. b ≢ 0) bs
digits_some [] are = All-nil (λ b. b ≢ 0)
digits_some (b ∷ bs) are = All-cons (λ b. b ≢ 0) b bs (digit_some b are.0) (digits_some bs are.1)

named : (library : ℕ) → library < 2 ^ 64 → IsName (library_name library)
named library small =
    record { bytes = All-cons (λ b. b ≢ 0) 102 (decimal library) (λ is. absurd (omega (arith, is))) (digits_some (decimal library) (decimal_is_IsNumeral library small).0.1) }

each_named : (count : ℕ) → count < 2 ^ 32 → All IsName (each_below count (λ before. library_name (before + 1) ∷ []))
unfolding each_below
each_named zero small = All-nil IsName
each_named (suc last) small =
    All-append IsName (each_below last (λ before. library_name (before + 1) ∷ [])) (library_name (last + 1) ∷ [])
    (each_named last (omega (arith, small)))
    (All-cons IsName (library_name (last + 1)) [] (named (last + 1) (omega (arith, small))) (All-nil IsName))

alone : (object : File) (link : LinkPlan) → IsObject false object → IsOfBytes object → All IsName link.needed → AreLinkable (object ∷ []) link
alone object link form bytes needed = record {
  form = All-cons (IsObject false) object [] form (All-nil (IsObject false));
  bytes = All-cons IsOfBytes object [] bytes (All-nil IsOfBytes);
  needed = needed;
}

pub app_linkable : ObjectsAreRead → SourcesAreAssembled → (number : ℕ) → AreLinkable (app_object number ∷ []) app_link
app_linkable read assembled number =
    alone (app_object number) app_link (read (app_source number) (app_object number) (assembled number).0) (app_of_bytes number) (each_named 11 (omega arith))

pub library_linkable : ObjectsAreRead → SourcesAreAssembled → (number library : ℕ) → 1 ≤ library → library ≤ 11 → AreLinkable (library_object number library ∷ []) (library_link library)
library_linkable read assembled number library least most =
    alone (library_object number library) (library_link library)
    (read (library_source number library) (library_object number library) ((assembled number).1 library least most))
    (library_of_bytes number library (omega (arith, most))) (All-nil IsName)
