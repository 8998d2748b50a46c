-- A text begins with no sections and no symbols, and what its lines come to is what they say.
use Rattle.std.proofs.Common.{ℕ, List, [], Option, None, refl, arith}
use Rattle.c6x_asm_object.specs.declared.asm_section.AsmSection.{AsmSection}
use Rattle.c6x_asm.specs.States.{State}
use Rattle.c6x_asm.specs.Said.{Said}
use Rattle.c6x_asm.specs.Relocations.{HaveRelocations}
use Rattle.c6x_asm.specs.Sections.{AreSectionsOf}
use Rattle.c6x_asm.specs.Symbols.{AreSymbolsOf}
use Rattle.c6x_asm.proofs.Fulfilled.{IsWhole}
use Rattle.c6x_asm.proofs.Lined.{IsMeant}

pub meant_begins : (text : List ℕ) → IsMeant text [] [] None
meant_begins text = record { names = refl; distinct = λ i j first second is. absurd (omega arith); here = tt; each = λ i inside. absurd (omega arith) }

pub whole_begins : (text : List ℕ) → IsWhole text [] (record { sections = []; now = None; symbols = [] })
whole_begins text = record {
  told = record {
    names = refl;
    distinct = λ i j first second is. absurd (omega arith);
    each = λ i inside. absurd (omega arith);
    untold = λ name none. record { definition = refl; global = refl; weak = refl; hidden = refl };
  };
  entries = λ i inside. absurd (omega arith);
}

pub meant_sections : (text : List ℕ) (said : List Said) (sections : List AsmSection) (now : Option ℕ) → IsMeant text said sections now → AreSectionsOf text said sections
meant_sections text said sections now meant = record { names = meant.names; each = λ i inside. (meant.each i inside).is }

pub whole_symbols : (text : List ℕ) (said : List Said) (s : State) → IsWhole text said s → AreSymbolsOf text said s.symbols
whole_symbols text said s whole = record {
  names = whole.told.names;
  each = λ i inside. let is = whole.told.each i inside in record { definition = is.definition; global = is.global; weak = is.weak; hidden = is.hidden };
}

pub whole_relocations : (text : List ℕ) (said : List Said) (s : State) → IsWhole text said s → HaveRelocations text said s.symbols s.sections
whole_relocations text said s whole = record { each = whole.entries }
