-- Each section with bytes lies in the text, or in the data's bytes in the file.
use Rattle.std.proofs.Common.{◌≡◌, ℕ, ◌+◌, ◌-◌, ◌<◌, ◌≤◌, ◌&&◌, not, Bool, true, false, List, ◌++◌, length, refl, sym, ap, subst, ◌∙◌, arith}
use Rattle.std.specs.Prelude.{filter}
use Rattle.c6x_layout.proofs.Sized.{ordered}
use Rattle.c6x_layout.specs.Layouts.{Laying, file_end, group_in, near_bytes_end, near_end, near_zeros_end, places_of, sections_end, table_at, words_end}
use Rattle.c6x_layout.specs.Places.{in_far_bytes, in_far_zeros, in_near_bytes, in_near_zeros, in_text, is_far, is_near, is_text, places_end, places_from}
use Rattle.c6x_layout.specs.declared.place.Place.{Place}
use Rattle.c6x_link.specs.Addresses.{address_in}
use Rattle.c6x_layout.specs.declared.file_limits.TheConstants.{TEXT_START}
use Rattle.c6x_symbols.specs.Parts.{parts_of}
use Rattle.c6x_symbols.specs.declared.part.Part.{Part}
use Rattle.c6x_symbols.specs.declared.zone.Zone.TheVariants.{Far, Near, Text}
use Rattle.c6x_link.proofs.Found.{OwnPart}
use Rattle.c6x_link.proofs.Inside.{AreThe, LiesIn, filter_are, filter_has, filter_lacks, found_first, found_second, has_part, has_place, has_same, lies_in}

-- in the first places of a list
front : (test : Part → Bool) (from : ℕ) (parts : List Part) (rest : List Place) (object section : ℕ) (the : Part) → AreThe object section the parts → has_part parts object section ≡ true → test the ≡ true → LiesIn from the.size (places_end from (filter test parts)) (address_in (places_from from (filter test parts) ++ rest) object section)
front test from parts rest object section the are has ok =
    let kept = filter_has test object section the parts ok are has in
    let same = found_first (places_from from (filter test parts)) rest object section (has_same from (filter test parts) object section ∙ kept) in
    let P : ℕ → Type 0 = λ a. LiesIn from the.size (places_end from (filter test parts)) a in
    subst P (sym same) (lies_in from (filter test parts) object section the (filter_are test object section the parts are) kept)

-- behind places of other parts
behind : (test : Part → Bool) (from : ℕ) (parts : List Part) (rest : List Place) (object section : ℕ) (the : Part) → AreThe object section the parts → test the ≡ false → address_in (places_from from (filter test parts) ++ rest) object section ≡ address_in rest object section
behind test from parts rest object section the are lacks =
    found_second (places_from from (filter test parts)) rest object section (has_same from (filter test parts) object section ∙ filter_lacks test object section the parts lacks are)

pub text_lies : (l : Laying) (object section : ℕ) (the : Part) → OwnPart l.objects object section the → the.zone ≡ Text → LiesIn TEXT_START the.size (sections_end l) (address_in (places_of l) object section)
unfolding places_of sections_end
text_lies l object section the own zone =
    front in_text TEXT_START (parts_of l.objects)
    (places_from (words_end l) (group_in in_near_bytes l) ++ (places_from (near_bytes_end l) (group_in in_near_zeros l) ++ (places_from (near_end l) (group_in in_far_bytes l) ++ places_from (file_end l) (group_in in_far_zeros l))))
    object section the own.are own.has (ap is_text zone)

near_lies : (l : Laying) (object section : ℕ) (the : Part) → OwnPart l.objects object section the → the.zone ≡ Near → the.filled ≡ true → LiesIn (words_end l) the.size (near_bytes_end l) (address_in (places_of l) object section)
unfolding places_of near_bytes_end
near_lies l object section the own zone filled =
    let rest : List Place = places_from (places_end (words_end l) (group_in in_near_bytes l)) (group_in in_near_zeros l) ++ (places_from (near_end l) (group_in in_far_bytes l) ++ places_from (file_end l) (group_in in_far_zeros l)) in
    let P : ℕ → Type 0 = λ a. LiesIn (words_end l) the.size (places_end (words_end l) (group_in in_near_bytes l)) a in
    let skip = behind in_text TEXT_START (parts_of l.objects) (places_from (words_end l) (group_in in_near_bytes l) ++ rest) object section the own.are (ap is_text zone) in
    subst P (sym skip)
    (front in_near_bytes (words_end l) (parts_of l.objects) rest object section the own.are own.has (ap (λ z. is_near z && the.filled) zone ∙ filled))

far_lies : (l : Laying) (object section : ℕ) (the : Part) → OwnPart l.objects object section the → the.zone ≡ Far → the.filled ≡ true → LiesIn (near_end l) the.size (file_end l) (address_in (places_of l) object section)
unfolding places_of file_end
far_lies l object section the own zone filled =
    let last : List Place = places_from (places_end (near_end l) (group_in in_far_bytes l)) (group_in in_far_zeros l) in
    let third : List Place = places_from (near_end l) (group_in in_far_bytes l) ++ last in
    let second : List Place = places_from (near_bytes_end l) (group_in in_near_zeros l) ++ third in
    let first : List Place = places_from (words_end l) (group_in in_near_bytes l) ++ second in
    let P : ℕ → Type 0 = λ a. LiesIn (near_end l) the.size (places_end (near_end l) (group_in in_far_bytes l)) a in
    let a = behind in_text TEXT_START (parts_of l.objects) first object section the own.are (ap is_text zone) in
    let b = behind in_near_bytes (words_end l) (parts_of l.objects) second object section the own.are (ap (λ z. is_near z && the.filled) zone) in
    let c = behind in_near_zeros (near_bytes_end l) (parts_of l.objects) third object section the own.are (ap (λ z. is_near z && not the.filled) zone) in
    subst P (sym (a ∙ b ∙ c))
    (front in_far_bytes (near_end l) (parts_of l.objects) last object section the own.are own.has (ap (λ z. is_far z && the.filled) zone ∙ filled))

wider : (a b c d size address : ℕ) → LiesIn b size c address → a ≤ b → c ≤ d → LiesIn a size d address
wider a b c d size address lies low high =
    let above = lies.above in
    let below = lies.below in
    record { above = omega (arith, above, low); below = omega (arith, below, high) }

pub near_in_data : (l : Laying) (object section : ℕ) (the : Part) → OwnPart l.objects object section the → the.zone ≡ Near → the.filled ≡ true → LiesIn (table_at l) the.size (file_end l) (address_in (places_of l) object section)
near_in_data l object section the own zone filled =
    let o = ordered l in
    wider (table_at l) (words_end l) (near_bytes_end l) (file_end l) the.size (address_in (places_of l) object section) (near_lies l object section the own zone filled)
    (omega (arith, o.words, o.start))
    (omega (arith, o.near_zeros, o.near, o.far_bytes))

pub far_in_data : (l : Laying) (object section : ℕ) (the : Part) → OwnPart l.objects object section the → the.zone ≡ Far → the.filled ≡ true → LiesIn (table_at l) the.size (file_end l) (address_in (places_of l) object section)
far_in_data l object section the own zone filled =
    let o = ordered l in
    wider (table_at l) (near_end l) (file_end l) (file_end l) the.size (address_in (places_of l) object section) (far_lies l object section the own zone filled)
    (omega (arith, o.words, o.start, o.near_bytes, o.near_zeros, o.near))
    (omega arith)
