-- Each form has one row, found by a key of the form.

use Rattle.std.proofs.Common.{◌≡◌, ℕ, inl, inr, Bool, true, false, nat_eq, List, [], ◌∷◌, Option, Some, None, map, if◌then◌else◌, get_or, refl, sym, ◌∙◌, ap, subst}
use Rattle.std.specs.Str.{bytes_eq}
use Rattle.std.specs.Option.{option_map}
use Rattle.std.proofs.lemmas.Slice.Eq.{bytes_eq-Decides}
use Rattle.std.proofs.lemmas.Bool.{cases_Bool, cond-true, cond-false}
use Rattle.c6x_encoding.specs.declared.arith.Arith.{Arith}
use Rattle.c6x_encoding.specs.declared.arith.Arith.TheVariants.{Add, Sub, And, Or, Xor, CmpEq, CmpGt, CmpLt, CmpGtu, CmpLtu, Shl, Shr, Shru, Mpy, Mpyu}
use Rattle.c6x_encoding.specs.declared.form.Form.{Form}
use Rattle.c6x_encoding.specs.declared.form.Form.TheVariants.{Two, Move, Branch, Callp, BranchNop, BranchReg, BranchRegNop, AddKpc, Nop, Short, Long}
use Rattle.c6x_encoding.specs.declared.move_kind.MoveKind.{MoveKind}
use Rattle.c6x_encoding.specs.declared.move_kind.MoveKind.TheVariants.{Mvk, Mvkh, Addk}
use Rattle.c6x_encoding.specs.declared.unit_kind.UnitKind.{UnitKind}
use Rattle.c6x_encoding.specs.declared.unit_kind.UnitKind.TheVariants.{L, S, D, M}
use Rattle.c6x_encoding.specs.Spelling.{Slot, Row, table, width, bit_of, IsRow}
use Rattle.c6x_encoding.specs.Encoded.{slots_for, l_code, s_code, d_code, m_code}
use Rattle.c6x_encoding.proofs.Trees.{same_at}

units : List UnitKind
units = L ∷ S ∷ D ∷ M ∷ []

ariths : List Arith
ariths = Add ∷ Sub ∷ And ∷ Or ∷ Xor ∷ CmpEq ∷ CmpGt ∷ CmpLt ∷ CmpGtu ∷ CmpLtu ∷ Shl ∷ Shr ∷ Shru ∷ Mpy ∷ Mpyu ∷ []

truths : List Bool
truths = false ∷ true ∷ []

kinds : List MoveKind
kinds = Mvk ∷ Mvkh ∷ Addk ∷ []

abbrev unit_number : UnitKind → ℕ
unit_number L = 0
unit_number S = 1
unit_number D = 2
unit_number M = 3

abbrev arith_number : Arith → ℕ
arith_number Add = 0
arith_number Sub = 1
arith_number And = 2
arith_number Or = 3
arith_number Xor = 4
arith_number CmpEq = 5
arith_number CmpGt = 6
arith_number CmpLt = 7
arith_number CmpGtu = 8
arith_number CmpLtu = 9
arith_number Shl = 10
arith_number Shr = 11
arith_number Shru = 12
arith_number Mpy = 13
arith_number Mpyu = 14

abbrev kind_number : MoveKind → ℕ
kind_number Mvk = 0
kind_number Mvkh = 1
kind_number Addk = 2

-- A form as a few numbers.
abbrev key : Form → List ℕ
key (Two unit arith constant) = 0 ∷ unit_number unit ∷ arith_number arith ∷ bit_of constant ∷ []
key (Move kind) = 1 ∷ kind_number kind ∷ []
key Branch = 2 ∷ []
key Callp = 3 ∷ []
key BranchNop = 4 ∷ []
key BranchReg = 5 ∷ []
key BranchRegNop = 6 ∷ []
key AddKpc = 7 ∷ []
key Nop = 8 ∷ []
key Short = 9 ∷ []
key Long = 10 ∷ []

-- The form of a key.
from_key : List ℕ → Form
from_key numbers =
    if nat_eq (get_or numbers 0 0) 0
    then Two (get_or units (get_or numbers 1 0) L) (get_or ariths (get_or numbers 2 0) Add) (get_or truths (get_or numbers 3 0) false)
    else (if nat_eq (get_or numbers 0 0) 1 then Move (get_or kinds (get_or numbers 1 0) Mvk)
    else get_or (Branch ∷ Branch ∷ Branch ∷ Callp ∷ BranchNop ∷ BranchReg ∷ BranchRegNop ∷ AddKpc ∷ Nop ∷ Short ∷ Long ∷ []) (get_or numbers 0 0) Branch)

-- What two maps of all values agree on holds of each.
every_unit : {B : Type 0} (f g : UnitKind → B) (u : UnitKind) → map f units ≡ map g units → f u ≡ g u
unfolding units
every_unit f g L e = ap (λ xs. get_or xs 0 (f L)) e
every_unit f g u e = ap (λ xs. get_or xs (unit_number u) (f L)) e

every_arith : {B : Type 0} (f g : Arith → B) (a : Arith) → map f ariths ≡ map g ariths → f a ≡ g a
unfolding ariths
every_arith f g Add e = ap (λ xs. get_or xs 0 (f Add)) e
every_arith f g a e = ap (λ xs. get_or xs (arith_number a) (f Add)) e

every_truth : {B : Type 0} (f g : Bool → B) (b : Bool) → map f truths ≡ map g truths → f b ≡ g b
unfolding truths
every_truth f g false e = ap (λ xs. get_or xs 0 (f false)) e
every_truth f g true e = ap (λ xs. get_or xs 1 (f false)) e

unit_back : (u : UnitKind) → get_or units (unit_number u) L ≡ u
unfolding units
unit_back L = refl
unit_back _ = refl

arith_back : (a : Arith) → get_or ariths (arith_number a) Add ≡ a
unfolding ariths
arith_back Add = refl
arith_back _ = refl

truth_back : (b : Bool) → get_or truths (bit_of b) false ≡ b
unfolding truths
truth_back false = refl
truth_back true = refl

kind_back : (k : MoveKind) → get_or kinds (kind_number k) Mvk ≡ k
unfolding kinds
kind_back Mvk = refl
kind_back _ = refl

from_key-key : (form : Form) → from_key (key form) ≡ form
unfolding from_key
from_key-key (Two unit arith constant) = cc (unit_back unit, arith_back arith, truth_back constant)
from_key-key (Move kind) = ap Move (kind_back kind)
from_key-key _ = refl

-- The first row with a key.
abbrev row_with : List Row → List ℕ → Option Row
row_with [] wanted = None
row_with (row ∷ rows) wanted = if bytes_eq (key row.form) wanted then Some row else row_with rows wanted

found_row : (rows : List Row) (wanted : List ℕ) (row : Row) → row_with rows wanted ≡ Some row → IsRow rows row × (key row.form ≡ wanted)
found_row [] wanted row found = cc
found_row (x ∷ rows) wanted row found =
    elim (cases_Bool (bytes_eq (key x.form) wanted)) [
      | inl e ↦
          let same : Some x ≡ Some row = sym (cond-true _ _ (row_with rows wanted) e) ∙ found in
          let it : row ≡ x = cc in
          let k : key x.form ≡ wanted = (bytes_eq-Decides (key x.form) wanted).0 e in
          (inl it, ap (λ (r : Row). key r.form) it ∙ k)
      | inr e ↦
          let rest = found_row rows wanted row (sym (cond-false _ (Some x) _ e) ∙ found) in
          (inr rest.0, rest.1)
    ]

abbrev slots_found : Form → Option (List Slot)
slots_found form = option_map (λ (row : Row). row.slots) (row_with table (key form))

all_two :
    map (λ u. map (λ a. map (λ c. slots_found (Two u a c)) truths) ariths) units
    ≡ map (λ u. map (λ a. map (λ c. slots_for (Two u a c)) truths) ariths) units
unfolding units ariths truths l_code s_code d_code m_code
all_two = refl

slots_found-for : (form : Form) → slots_found form ≡ slots_for form
unfolding l_code s_code d_code m_code
slots_found-for (Two unit arith constant) =
    every_truth (λ c. slots_found (Two unit arith c)) (λ c. slots_for (Two unit arith c)) constant
    (every_arith (λ a. map (λ c. slots_found (Two unit a c)) truths) (λ a. map (λ c. slots_for (Two unit a c)) truths) arith
    (every_unit (λ u. map (λ a. map (λ c. slots_found (Two u a c)) truths) ariths) (λ u. map (λ a. map (λ c. slots_for (Two u a c)) truths) ariths) unit all_two))
slots_found-for (Move Mvk) = refl
slots_found-for (Move _) = refl
slots_found-for _ = refl

-- The slots of a form are those of a row of the table.
pub slots_listed : (form : Form) (slots : List Slot) → slots_for form ≡ Some slots → IsRow table (record { form = form; slots = slots })
slots_listed form slots is = go (row_with table (key form)) refl
  where
    go : (o : Option Row) → row_with table (key form) ≡ o → IsRow table (record { form = form; slots = slots })
    go None e = absurd (cc (slots_found-for form, ap (option_map (λ (row : Row). row.slots)) e))
    go (Some row) e =
        let got = found_row table (key form) row e in
        let s : Some row.slots ≡ Some slots = sym (ap (option_map (λ (r : Row). r.slots)) e) ∙ slots_found-for form ∙ is in
        let f : row.form ≡ form = sym (from_key-key row.form) ∙ ap from_key got.1 ∙ from_key-key form in
        let t : row.slots ≡ slots = cc in
        subst (IsRow table) (λ i. record { form = f i; slots = t i }) got.0

rows_known : map (λ (row : Row). slots_for row.form) table ≡ map (λ (row : Row). Some row.slots) table
unfolding l_code s_code d_code m_code
rows_known = refl

rows_whole : map (λ (row : Row). width row.slots) table ≡ map (λ (row : Row). 32) table
rows_whole = refl

-- A row of the table has the slots of its form, and 32 bits.
pub slots_for-row : (row : Row) → IsRow table row → slots_for row.form ≡ Some row.slots
slots_for-row row listed = same_at (λ (row : Row). slots_for row.form) (λ (row : Row). Some row.slots) table row rows_known listed

pub width-row : (row : Row) → IsRow table row → width row.slots ≡ 32
width-row row listed = same_at (λ (row : Row). width row.slots) (λ (row : Row). 32) table row rows_whole listed
