-- The objects of a link are read from bytes.
use Rattle.std.proofs.Common.{◌≡◌, ℕ, zero, suc, ◌+◌, ◌<◌, ◌==◌, Bool, true, false, List, ◌++◌, ◌∷◌, [], length, map, refl, sym, subst, arith, nat_le, if◌then◌else◌}
use Rattle.std.proofs.lemmas.Bool.Decides.{nat_tests}
use Rattle.std.proofs.lemmas.List.Elements.{All-append, All-cons, All-head, All-nil, All-tail}
use Rattle.std.specs.Option.{option_map}
use Rattle.std.specs.Str.{bytes_eq}
use Rattle.std.specs.Prelude.{All, IsTrue, Option, None, Some, Result, Ok, Err, drop, slice_index, take}
use Rattle.c6x_base.specs.declared.limits.TheConstants.{MOST_FILE_BYTES, MOST_SECTIONS, MOST_SEGMENTS}
use Rattle.c6x_spec.specs.Files.{Files, file_at, front_at}
use Rattle.c6x_spec.specs.Numbers.{half_at}
use Rattle.c6x_elf.proofs.ReadForm.{parts_have_form}
use Rattle.c6x_elf.specs.Abi.{ELFCLASS32, ELFDATA2LSB, ET_REL, EV_CURRENT}
use Rattle.c6x_elf.specs.Form.{HasReadForm}
use Rattle.c6x_elf.specs.Parts.{section_of, section_size}
use Rattle.c6x_elf.specs.Reading.{file_of, file_with, parts_refusal, refusal_of, sections_of}
use Rattle.c6x_elf.specs.declared.file.File.{File}
use Rattle.c6x_elf_headers.specs.Heads.{file_head, is_big}
use Rattle.c6x_elf_headers.specs.Header.{HeadKeeps, counts_refusal, header_refusal, ident_refusal, is_file_type, is_none_or_below, numbers_refusal, is_magic}
use Rattle.c6x_elf_headers.specs.Rules.{Refusal as ElfRefusal, ◌<|>◌, must, whole}
use Rattle.c6x_elf_headers.specs.declared.elf_rule.ElfRule.{ElfRule}
use Rattle.c6x_elf_headers.specs.declared.elf_rule.ElfRule.TheVariants.{Class, Data, Index, Large, Magic, Version}
use Rattle.c6x_elf_headers.specs.declared.section_head.SectionHead.{SectionHead}
use Rattle.c6x_reloc.specs.FieldBits.{AreBytes}
use Rattle.c6x_link_loads.specs.Linkable.{HasBytes, IsOfBytes}
use Rattle.c6x_symbols.specs.Objects.{IsObject}
use Rattle.c6x_cli_steps.specs.Elf.{elf_steps, unless_broken}
use Rattle.c6x_cli.specs.Linking.{as_object, object_file, object_files, objects_behind}
use Rattle.c6x_cli.specs.LinkedLoads.{HoldsBytes}
use Rattle.c6x_cli_steps.specs.declared.cause.Cause.{Cause}
use Rattle.c6x_cli_steps.specs.Lines.{whole_file, within_most}
use Rattle.c6x_cli_steps.specs.Steps.{Steps, ◌>>=◌, fetched, followed, front_of, most_bytes, own}

-- steps that came to a value came to one in between
pub record Came {A B : Type 0} (first : Steps A) (next : A → Steps B) (value : B) : Type 0 where
  pub middle : A
  pub first_is : first.result ≡ Ok middle
  pub next_is : (next middle).result ≡ Ok value

pub came : {A B : Type 0} (first : Steps A) (next : A → Steps B) (value : B) → (first >>= next).result ≡ Ok value → Came first next value
unfolding ◌>>=◌
came {A} first next value is = by first.result refl is
  where
    by : (r : Result A Cause) → first.result ≡ r → (followed first.fetches r next).result ≡ Ok value → Came first next value
    by (Ok middle) here e = record { middle = middle; first_is = here; next_is = e }
    by (Err cause) here e = absurd (cc e)

-- the parts of bytes are bytes
take_bytes : (n : ℕ) (bytes : List ℕ) → AreBytes bytes → (i : ℕ) → slice_index (take n bytes) i < 256
take_bytes zero bytes are i = omega arith
take_bytes (suc n) [] are i = are i
take_bytes (suc n) (b ∷ bs) are zero = are zero
take_bytes (suc n) (b ∷ bs) are (suc i) = take_bytes n bs (λ k. are (suc k)) i

drop_bytes : (n : ℕ) (bytes : List ℕ) → AreBytes bytes → (i : ℕ) → slice_index (drop n bytes) i < 256
drop_bytes zero bytes are i = are i
drop_bytes (suc n) [] are i = are i
drop_bytes (suc n) (b ∷ bs) are i = drop_bytes n bs (λ k. are (suc k)) i

sections_bytes : (bytes : List ℕ) (heads : List SectionHead) → AreBytes bytes → All HasBytes (map (section_of bytes) heads)
unfolding section_of
sections_bytes bytes [] are = All-nil HasBytes
sections_bytes bytes (h ∷ hs) are =
    All-cons HasBytes (section_of bytes h) (map (section_of bytes) hs)
    (take_bytes (section_size h) (drop h.offset bytes) (drop_bytes h.offset bytes are)) (sections_bytes bytes hs are)

file_bytes : (bytes : List ℕ) → AreBytes bytes → IsOfBytes (file_of bytes)
unfolding file_of file_with sections_of
file_bytes bytes are = sections_bytes bytes _ are

-- a header without a broken rule
front : (a b : Option ElfRefusal) → (a <|> b) ≡ None → a ≡ None
front None b none = refl
front (Some x) b none = absurd (cc none)

rest : (a b : Option ElfRefusal) → (a <|> b) ≡ None → b ≡ None
rest None b none = none
rest (Some x) b none = absurd (cc none)

must_true : (b : Bool) (rule : ElfRule) (place : ℕ) → must b rule place ≡ None → b ≡ true
unfolding must
must_true true rule place none = refl
must_true false rule place none = absurd (cc none)

is_little : (bytes : List ℕ) → ident_refusal bytes ≡ None → is_big bytes ≡ false
unfolding ident_refusal is_big
is_little bytes none =
    let t9 = whole bytes 7 9 in
    let t8 = must (slice_index bytes 6 == EV_CURRENT) Version 6 <|> t9 in
    let t7 = whole bytes 6 1 <|> t8 in
    let t6 = must (slice_index bytes 5 == ELFDATA2LSB) Data 5 <|> t7 in
    let t5 = whole bytes 5 1 <|> t6 in
    let t4 = must (slice_index bytes 4 == ELFCLASS32) Class 4 <|> t5 in
    let t3 = whole bytes 4 1 <|> t4 in
    let t2 = must (is_magic bytes) Magic 0 <|> t3 in
    let t1 = whole bytes 0 4 <|> t2 in
    let encoding : (slice_index bytes 5 == ELFDATA2LSB) ≡ true = must_true (slice_index bytes 5 == ELFDATA2LSB) Data 5 (front (must (slice_index bytes 5 == ELFDATA2LSB) Data 5) t7 (rest (whole bytes 5 1) t6 (rest (must (slice_index bytes 4 == ELFCLASS32) Class 4) t5 (rest (whole bytes 4 1) t4 (rest (must (is_magic bytes) Magic 0) t3 (rest (whole bytes 0 4) t2 (rest (must (nat_le (length bytes) MOST_FILE_BYTES) Large 0) t1 none))))))) in
    grind (arith, nat_tests)

type_kept : (big : Bool) (bytes : List ℕ) → numbers_refusal big bytes ≡ None → IsTrue (is_file_type (half_at big bytes 16))
unfolding numbers_refusal
type_kept big bytes none = must_true (is_file_type (half_at big bytes 16)) _ _ (front _ _ (rest _ _ none))

head_kept : (big : Bool) (bytes : List ℕ) → numbers_refusal big bytes ≡ None → counts_refusal big bytes ≡ None → HeadKeeps (file_head big bytes)
unfolding counts_refusal file_head
head_kept big bytes numbers none =
    let t8 = must (is_none_or_below (half_at big bytes 50) (half_at big bytes 48)) Index 50 in
    let t7 = whole bytes 50 2 <|> t8 in
    let t6 = must (nat_le (half_at big bytes 48) MOST_SECTIONS) Large 48 <|> t7 in
    let t5 = whole bytes 48 2 <|> t6 in
    let t4 = whole bytes 46 2 <|> t5 in
    let t3 = must (nat_le (half_at big bytes 44) MOST_SEGMENTS) Large 44 <|> t4 in
    let t2 = whole bytes 44 2 <|> t3 in
    let t1 = whole bytes 42 2 <|> t2 in
    let segments : nat_le (half_at big bytes 44) MOST_SEGMENTS ≡ true = must_true (nat_le (half_at big bytes 44) MOST_SEGMENTS) Large 44 (front (must (nat_le (half_at big bytes 44) MOST_SEGMENTS) Large 44) t4 (rest (whole bytes 44 2) t3 (rest (whole bytes 42 2) t2 (rest (whole bytes 40 2) t1 none)))) in
    let sections : nat_le (half_at big bytes 48) MOST_SECTIONS ≡ true = must_true (nat_le (half_at big bytes 48) MOST_SECTIONS) Large 48 (front (must (nat_le (half_at big bytes 48) MOST_SECTIONS) Large 48) t7 (rest (whole bytes 48 2) t6 (rest (whole bytes 46 2) t5 (rest (must (nat_le (half_at big bytes 44) MOST_SEGMENTS) Large 44) t4 (rest (whole bytes 44 2) t3 (rest (whole bytes 42 2) t2 (rest (whole bytes 40 2) t1 none))))))) in
    let names = must_true (is_none_or_below (half_at big bytes 50) (half_at big bytes 48)) Index 50 (rest (whole bytes 50 2) t8 (rest (must (nat_le (half_at big bytes 48) MOST_SECTIONS) Large 48) t7 (rest (whole bytes 48 2) t6 (rest (whole bytes 46 2) t5 (rest (must (nat_le (half_at big bytes 44) MOST_SEGMENTS) Large 44) t4 (rest (whole bytes 44 2) t3 (rest (whole bytes 42 2) t2 (rest (whole bytes 40 2) t1 none)))))))) in
    record {
      kind = type_kept big bytes numbers;
      segments = grind (arith, nat_tests);
      sections = grind (arith, nat_tests);
      names = names;
    }

file_form : (bytes : List ℕ) → refusal_of bytes ≡ None → HasReadForm false (file_of bytes)
unfolding refusal_of header_refusal file_of
file_form bytes none =
    let head = front _ (parts_refusal (is_big bytes) bytes (file_head (is_big bytes) bytes)) none in
    let parts = rest _ (parts_refusal (is_big bytes) bytes (file_head (is_big bytes) bytes)) none in
    let little = is_little bytes (front (ident_refusal bytes) _ head) in
    let numbers = front (numbers_refusal (is_big bytes) bytes) _ (rest (ident_refusal bytes) _ head) in
    let counts = front (counts_refusal (is_big bytes) bytes) _ (rest (numbers_refusal (is_big bytes) bytes) _ (rest (ident_refusal bytes) _ head)) in
    let keeps = head_kept (is_big bytes) bytes numbers counts in
    let P : Bool → Type 0 = λ big. HeadKeeps (file_head big bytes) in
    let Q : Bool → Type 0 = λ big. parts_refusal big bytes (file_head big bytes) ≡ None in
    let R : Bool → Type 0 = λ big. HasReadForm false (file_with big bytes (file_head big bytes)) in
    subst R (sym little) (parts_have_form bytes (file_head false bytes) (subst P little keeps) (subst Q little parts))

-- a fetched file
at_bytes : (files : Files) (name bytes : List ℕ) → All HoldsBytes files → file_at files name ≡ Some bytes → AreBytes bytes
at_bytes [] name bytes are is = absurd (cc is)
at_bytes (f ∷ fs) name bytes are is = by (bytes_eq f.0 name) is (at_bytes fs name bytes (All-tail HoldsBytes f fs are))
  where
    by : (t : Bool) → (if t then Some f.1 else file_at fs name) ≡ Some bytes → (file_at fs name ≡ Some bytes → AreBytes bytes) → AreBytes bytes
    by true e later = let same : f.1 ≡ bytes = cc e in subst AreBytes same (All-head HoldsBytes f fs are)
    by false e later = later e

front_bytes : (o : Option (List ℕ)) (n : ℕ) (bytes : List ℕ) → ((whole : List ℕ) → o ≡ Some whole → AreBytes whole) → option_map (take n) o ≡ Some bytes → AreBytes bytes
front_bytes None n bytes are is = absurd (cc is)
front_bytes (Some whole) n bytes are is = let same : take n whole ≡ bytes = cc is in subst AreBytes same (take_bytes n whole (are whole refl))

at_front : (files : Files) (name : List ℕ) (most : ℕ) (bytes : List ℕ) → All HoldsBytes files → front_at files name most ≡ Some bytes → AreBytes bytes
unfolding front_at
at_front files name most bytes are is = front_bytes (file_at files name) (most + 1) bytes (λ whole at. at_bytes files name whole are at) is

fetched_bytes : (files : Files) (name bytes : List ℕ) → All HoldsBytes files → front_of files name ≡ Ok bytes → AreBytes bytes
unfolding front_of
fetched_bytes files name bytes are is = by (front_at files name most_bytes) refl
  where
    by : (o : Option (List ℕ)) → front_at files name most_bytes ≡ o → AreBytes bytes
    by None here = let e = rw (front_of, here) at is in absurd (cc e)
    by (Some found) here =
        let e = rw (front_of, here) at is in
        let same : found ≡ bytes = cc e in
        subst AreBytes same (at_front files name most_bytes found are here)

kept_bytes : (name found bytes : List ℕ) → within_most name found ≡ Ok bytes → found ≡ bytes
unfolding within_most
kept_bytes name found bytes is = by (nat_le (length found) most_bytes) refl
  where
    by : (t : Bool) → nat_le (length found) most_bytes ≡ t → found ≡ bytes
    by true here = let e = rw here at is in cc e
    by false here = let e = rw here at is in absurd (cc e)

whole_bytes : (files : Files) (name bytes : List ℕ) → All HoldsBytes files → (whole_file files name).result ≡ Ok bytes → AreBytes bytes
unfolding whole_file
whole_bytes files name bytes are is =
    let c = came (fetched files name) (λ found. own (within_most name found)) bytes is in
    subst AreBytes (kept_bytes name c.middle bytes c.next_is) (fetched_bytes files name c.middle are c.first_is)

-- an object
pub record IsLinkable (file : File) : Type 0 where
  pub object : IsObject false file
  pub bytes : IsOfBytes file

unbroken : (name : List ℕ) (file object : File) (o : Option ElfRefusal) → unless_broken name file o ≡ Ok object → (o ≡ None) × (file ≡ object)
unbroken name file object None is = (refl, cc is)
unbroken name file object (Some x) is = absurd (cc is)

is_object : (name : List ℕ) (file object : File) → as_object name file ≡ Ok object → (file.kind ≡ ET_REL) × (file ≡ object)
unfolding as_object
is_object name file object is = by (file.kind == ET_REL) refl
  where
    by : (t : Bool) → (file.kind == ET_REL) ≡ t → (file.kind ≡ ET_REL) × (file ≡ object)
    by true here = let e = rw here at is in (grind (arith, nat_tests), cc e)
    by false here = let e = rw here at is in absurd (cc e)

object_linkable : (files : Files) (name : List ℕ) (object : File) → All HoldsBytes files → (object_file files name).result ≡ Ok object → IsLinkable object
unfolding object_file elf_steps
object_linkable files name object are is =
    let c = came (elf_steps files name) (λ file. own (as_object name file)) object is in
    let d = came (whole_file files name) (λ bytes. own (unless_broken name (file_of bytes) (refusal_of bytes))) c.middle c.first_is in
    let u = unbroken name (file_of d.middle) c.middle (refusal_of d.middle) d.next_is in
    let o = is_object name c.middle object c.next_is in
    let bytes = whole_bytes files name d.middle are d.first_is in
    let P : File → Type 0 = λ file. HasReadForm false file in
    let form : HasReadForm false c.middle = subst P u.1 (file_form d.middle u.0) in
    let held : IsOfBytes c.middle = subst IsOfBytes u.1 (file_bytes d.middle bytes) in
    subst IsLinkable o.1 (record { object = record { kind = o.0; form = form }; bytes = held })

objects_linkable : (files : Files) (names : List (List ℕ)) (before objects : List File) → All HoldsBytes files → All IsLinkable before → (objects_behind before files names).result ≡ Ok objects → All IsLinkable objects
objects_linkable files [] before objects are had is =
    let same : before ≡ objects = cc is in
    let P : List File → Type 0 = λ all. All IsLinkable all in
    subst P same had
objects_linkable files (name ∷ names) before objects are had is =
    let c = came (object_file files name) (λ object. objects_behind (before ++ object ∷ []) files names) objects is in
    objects_linkable files names (before ++ c.middle ∷ []) objects are
    (All-append IsLinkable before (c.middle ∷ []) had (All-cons IsLinkable c.middle [] (object_linkable files name c.middle are c.first_is) (All-nil IsLinkable)))
    c.next_is

pub all_linkable : (files : Files) (names : List (List ℕ)) (objects : List File) → All HoldsBytes files → (object_files files names).result ≡ Ok objects → All IsLinkable objects
unfolding object_files
all_linkable files names objects are is = objects_linkable files names [] objects are (All-nil IsLinkable) is
