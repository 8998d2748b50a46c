-- Where the sections of a text end in the written form of their object, and what a stretch of them does to a place.
use Rattle.std.specs.Prelude.{◌≡◌, ℕ, ◌+◌, ◌%◌, ◌^◌, ◌==◌, ◌<◌, max, nat_lt, not, Bool, if◌then◌else◌, List, [], ◌∷◌, length, Option, Some, None, IfSome}
use Rattle.std.specs.Option.{option_and_then}
use Rattle.c6x_base.specs.declared.limits.TheConstants.{MOST_FILE_BYTES}
use Rattle.c6x_spec.specs.Rounded.{rounded}
use Rattle.c6x_asm_object.specs.declared.asm_section.AsmSection.{AsmSection}
use Rattle.c6x_asm_object.specs.declared.section_kind.SectionKind.{SectionKind}
use Rattle.c6x_asm_object.specs.Sections.{is_zero}
use Rattle.c6x_asm_object.specs.declared.stretch.Stretch.{Stretch}

abbrev pub is_stored : SectionKind → Bool
is_stored kind = not (is_zero kind)

-- behind a section of so many bytes
unfoldable pub place_behind : ℕ → Bool → ℕ → ℕ → ℕ
place_behind at stored align size = if stored then rounded at (max align 1) + size else at

abbrev pub section_end : ℕ → AsmSection → ℕ
section_end at p = place_behind at (is_stored p.kind) p.align (length p.bytes)

abbrev pub sections_end : ℕ → List AsmSection → ℕ
sections_end at [] = at
sections_end at (p ∷ sections) = sections_end (section_end at p) sections

-- no place past the most bytes of a file
abbrev pub small : ℕ → Option ℕ
small at = if nat_lt MOST_FILE_BYTES at then None else Some at

-- behind sections, if that and each place before it is small
abbrev pub small_end : ℕ → List AsmSection → Option ℕ
small_end at [] = Some at
small_end at (p ∷ sections) = option_and_then (λ end. small_end end sections) (small (section_end at p))

-- behind a stretch
unfoldable pub end_of : Stretch → ℕ → ℕ
end_of s at = rounded (at + s.ahead) (max s.align 1) + s.behind

-- numbers that are not kept where they are large
abbrev pub kept : ℕ → ℕ → ℕ → Option Stretch
kept ahead align behind =
    if nat_lt ahead (2 ^ 32) then (if nat_lt behind (2 ^ 32) then Some (record { ahead = ahead; align = align; behind = behind }) else None)
    else None

abbrev pub empty_stretch : Stretch
empty_stretch = record { ahead = 0; align = 1; behind = 0 }

-- one section
unfoldable pub section_stretch : AsmSection → Option Stretch
section_stretch p = if is_stored p.kind then kept 0 p.align (length p.bytes) else Some empty_stretch

-- one stretch behind another, where one of their alignments is a multiple of the other
unfoldable pub both : Stretch → Stretch → Option Stretch
both a b =
    if max b.align 1 % max a.align 1 == 0 then kept (a.ahead + rounded (a.behind + b.ahead) (max a.align 1)) b.align b.behind
    else if max a.align 1 % max b.align 1 == 0 then kept a.ahead a.align (rounded (a.behind + b.ahead) (max b.align 1) + b.behind)
    else None

-- where sections end is where the stretch, if it is known, ends
abbrev pub Reaches : Option Stretch → List AsmSection → Type 0
Reaches stretch sections = IfSome stretch (λ s. (at : ℕ) → sections_end at sections ≡ end_of s at)

-- where sections that begin at `at` end, or that it is past the most bytes of a file
abbrev pub Ends : ℕ → Option ℕ → List AsmSection → Type 0
Ends at None sections = MOST_FILE_BYTES < sections_end at sections
Ends at (Some end) sections = end ≡ sections_end at sections
