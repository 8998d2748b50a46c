-- The words of a plan: names and numbers.
use Rattle.std.specs.Prelude.{ℕ, ◌+◌, ◌-◌, ◌*◌, Bool, ◌&&◌, nat_le, List, length, Option, None, Some, if◌then◌else◌}
use Rattle.std.specs.List.{fold, list_all}
use Rattle.c6x_base.specs.declared.limits.TheConstants.{MOST_NAME_BYTES}

-- A name: at least one byte, and at most as many as a name may have, that show and are no space.
abbrev pub is_shown : ℕ → Bool
is_shown byte = nat_le 33 byte && nat_le byte 126

unfoldable pub is_name : List ℕ → Bool
is_name bytes = nat_le 1 (length bytes) && nat_le (length bytes) MOST_NAME_BYTES && list_all is_shown bytes

-- A number: one to ten decimal digits, the first worth most.
abbrev pub is_digit : ℕ → Bool
is_digit byte = nat_le 48 byte && nat_le byte 57

unfoldable pub is_number : List ℕ → Bool
is_number bytes = nat_le 1 (length bytes) && nat_le (length bytes) 10 && list_all is_digit bytes

abbrev pub with_digit : ℕ → ℕ → ℕ
with_digit value byte = value * 10 + (byte - 48)

unfoldable pub value_of : List ℕ → ℕ
value_of digits = fold with_digit 0 digits

-- A number within limits, as its digits give it.
unfoldable pub number_in : ℕ → ℕ → List ℕ → Option ℕ
number_in least most digits =
    if is_number digits && nat_le least (value_of digits) && nat_le (value_of digits) most then Some (value_of digits) else None
