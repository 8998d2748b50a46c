-- The sources are assembled.
use Rattle.std.proofs.Common.{◌≡◌, ℕ, ◌*◌, ◌%◌, ◌^◌, ◌<◌, ◌≤◌, [], ◌∷◌, Ok, refl, sym, ◌∙◌, ap, arith}
use Rattle.std.specs.Prelude.{decimal}
use Rattle.std.proofs.lemmas.Bool.{le-leb}
use Rattle.c6x_asm_object.specs.Filing.{file_of}
use Rattle.c6x_asm.specs.Objects.{assembled}
use Rattle.c6x_dis.proofs.ShownNumbers.{decimal_token, number_of_decimal}
use Rattle.c6x_gen.specs.Sources.{app_source, counter, library_name, library_source}
use Rattle.c6x_gen.specs.Assembles.{SourcesAreAssembled}
use Rattle.c6x_gen.specs.Objects.{app_object, app_sections, app_symbols, library_object, library_sections, library_symbols}
use Rattle.c6x_gen.proofs.AppObject.{returned_is}
use Rattle.c6x_gen.proofs.Grown.{Made}
use Rattle.c6x_gen.proofs.LibraryObject.{library_holds, library_names}
use Rattle.c6x_gen.proofs.AppEnd.{app_assembled, app_found}
use Rattle.c6x_gen.proofs.App.{text as app_bytes}
use Rattle.c6x_gen.proofs.Library.{text as library_bytes}
use Rattle.c6x_gen.proofs.LibraryEnd.{IsCount, library_assembled, library_found, symbols_of}
use Rattle.c6x_gen.proofs.LibraryNames.{library_apart, library_named}
use Rattle.c6x_gen.proofs.Texts.{app_text, library_text}

is_count : (count : ℕ) → count < 2 ^ 32 → IsCount (decimal count) count
is_count count small =
    let whole : count % 1 ≡ 0 = omega arith in
    record {
      token = decimal_token count small;
      is = number_of_decimal count small;
      least = le-leb 0 count (omega arith);
      most = le-leb count 4294967295 (omega (arith, small));
      whole = rw whole refl;
    }

below_thousand : (n : ℕ) → n % 1000 < 2 ^ 32
below_thousand n = omega arith

library_is : (number library : ℕ) → library ≤ 11 → assembled (library_source number library) ≡ Ok (library_object number library)
unfolding library_object
library_is number library most =
    let name = library_name library in
    let digits = decimal (counter number library) in
    let count = counter number library in
    let below : library < 12 = omega (arith, most) in
    let named = library_named library below in
    let apart = library_apart library below in
    let is = is_count count (below_thousand (number * library)) in
    let source = library_text number library in
    ap assembled source
    ∙ (library_assembled name digits count named apart is
    ∙ (ap (λ sections. Ok (file_of (library_bytes name digits) sections (symbols_of name digits))) (library_holds name digits count (library_found name digits count named is) apart)
    ∙ (ap (λ symbols. Ok (file_of (library_bytes name digits) (library_sections name count) symbols)) (library_names name digits)
    ∙ ap (λ bytes. Ok (file_of bytes (library_sections name count) (library_symbols name))) (sym source))))

app_is : (number : ℕ) → assembled (app_source number) ≡ Ok (app_object number)
unfolding app_object
app_is number =
    ap assembled (app_text number)
    ∙ (app_assembled number
    ∙ (ap (λ (made : Made). Ok (file_of (app_bytes number) (made.section ∷ []) made.names)) (returned_is number (app_found number))
    ∙ ap (λ bytes. Ok (file_of bytes (app_sections number) (app_symbols number))) (sym (app_text number))))

pub all_assembled : SourcesAreAssembled
all_assembled number = (app_is number, λ library least most. library_is number library most)
