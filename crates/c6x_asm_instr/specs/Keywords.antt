-- The names of directives, in lower case: this project's own.
use Rattle.std.specs.Prelude.{ℕ, List, [], ◌∷◌, Option, codes}
use Rattle.std.specs.Str.{bytes_eq}
use Rattle.c6x_asm_lines.specs.Names.{first_named}
use Rattle.c6x_asm_instr.specs.declared.keyword.Keyword.{Keyword}
use Rattle.c6x_asm_instr.specs.declared.keyword.Keyword.TheVariants.{Sect, Word, Half, Byte, Space, Align, Global, Weak, Hidden, Common, NearCommon, Set}

abbrev pub keyword_name : Keyword → List ℕ
keyword_name Sect = codes ".sect"
keyword_name Word = codes ".word"
keyword_name Half = codes ".half"
keyword_name Byte = codes ".byte"
keyword_name Space = codes ".space"
keyword_name Align = codes ".align"
keyword_name Global = codes ".global"
keyword_name Weak = codes ".weak"
keyword_name Hidden = codes ".hidden"
keyword_name Common = codes ".common"
keyword_name NearCommon = codes ".nearcommon"
keyword_name Set = codes ".set"

abbrev pub keywords : List Keyword
keywords = Sect ∷ Word ∷ Half ∷ Byte ∷ Space ∷ Align ∷ Global ∷ Weak ∷ Hidden ∷ Common ∷ NearCommon ∷ Set ∷ []

unfoldable pub keyword_of : List ℕ → Option Keyword
keyword_of word = first_named (λ k w. bytes_eq w (keyword_name k)) keywords word
