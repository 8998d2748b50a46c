-- What a link that breaks no rule says of an entry.
use Rattle.std.proofs.Common.{◌≡◌, ◌≢◌, ℕ, ◌+◌, ◌≤◌, ◌&&◌, ◌||◌, nat_le, Bool, true, false, not, List, [], ◌∷◌, ◌++◌, Option, None, Some, refl, sym, ap, ◌∙◌, arith}
use Rattle.std.specs.Prelude.{Result, Ok, Err}
use Rattle.std.proofs.lemmas.Bool.Decides.{nat_tests}
use Rattle.c6x_reloc.specs.Table.{row_of}
use Rattle.c6x_reloc.specs.Value.{value_of}
use Rattle.c6x_reloc.specs.declared.origin.Origin.{Origin}
use Rattle.c6x_reloc.specs.declared.origin.Origin.TheVariants.{Nothing, Absolute, Packet, Table, Got, Index, Slot}
use Rattle.c6x_reloc.specs.declared.reloc_error.RelocError.{RelocError}
use Rattle.c6x_reloc.specs.declared.reloc_error.RelocError.TheVariants.{Kind, Range, Align, Addend}
use Rattle.c6x_reloc.specs.declared.reloc_kind.RelocKind.{RelocKind}
use Rattle.c6x_reloc.specs.declared.reloc_kind.RelocKind.TheVariants.{NONE, ABS32, ABS16, ABS8, PCR_S21, PCR_S12, PCR_S7, ABS_S16, ABS_L16, ABS_H16, SBR_U15_B, SBR_U15_H, SBR_U15_W, SBR_S16, SBR_L16_B, SBR_L16_H, SBR_L16_W, SBR_H16_B, SBR_H16_H, SBR_H16_W, SBR_GOT_U15_W, SBR_GOT_L16_W, SBR_GOT_H16_W, DSBT_INDEX, JUMP_SLOT, ALIGN, FPHEAD, NOCMP}
use Rattle.c6x_symbols.specs.declared.link_rule.LinkRule.{LinkRule}
use Rattle.c6x_symbols.specs.declared.link_rule.LinkRule.TheVariants.{GotAddend, TextAbsolute, CrossSegment, PlaceOutside, RelocKind as NoKind}
use Rattle.c6x_symbols.specs.LinkEntries.{broken, entries_error, error_at, is_dynamic, is_dynamic_kind}
use Rattle.c6x_symbols.specs.EntryRules.{◌<|>◌, must, entry_rule, has_no_addend, is_fixed, is_inside, is_slot, is_word, kind_rule, may_move, origin_rule, reaches, rule_with, value_rule}
use Rattle.c6x_symbols.specs.declared.entry.Entry.{Entry}
use Rattle.c6x_symbols.specs.declared.reference.Reference.{Reference}
use Rattle.c6x_relocated.specs.Moved.{is_static}
use Rattle.c6x_reloc.specs.Shift.{origin_of}
use Rattle.c6x_relocated.proofs.Basics.{map_none}

pub later : {A : Type 0} (a b : Option A) → (a <|> b) ≡ None → b ≡ None
later None b is = is
later (Some x) b is = absurd (cc is)

pub first : {A : Type 0} (a b : Option A) → (a <|> b) ≡ None → a ≡ None
first None b is = refl
first (Some x) b is = absurd (cc is)

must_true : (t : Bool) (rule : LinkRule) → must t rule ≡ None → t ≡ true
unfolding must
must_true true rule is = refl
must_true false rule is = absurd (cc is)

pub rule_none : (e : Entry) → error_at e ≡ None → entry_rule e.reference ≡ None
unfolding error_at
rule_none e is = map_none (broken e) (entry_rule e.reference) is

-- an entry of a list that breaks no rule breaks none
pub entry_none : (before : List Entry) (e : Entry) (after : List Entry) → entries_error (before ++ e ∷ after) ≡ None
    → entry_rule e.reference ≡ None
entry_none [] e after is = rule_none e (first (error_at e) (entries_error after) is)
entry_none (b ∷ before) e after is = entry_none before e after (later (error_at b) (entries_error (before ++ e ∷ after)) is)

-- what its kind's rules say
pub record Keeps (kind : RelocKind) (o : Origin) (r : Reference) : Type 0 where
  pub inside : is_inside kind r ≡ true
  pub no_slot : not (is_slot kind) ≡ true
  pub moving : may_move o r (is_word kind) ≡ true
  pub value : value_rule (value_of kind r.inputs) ≡ None

kind_keeps : (kind : RelocKind) (o : Origin) (r : Reference) → kind_rule kind o r ≡ None → Keeps kind o r
unfolding kind_rule
kind_keeps kind o r is =
    let a = later (must (is_inside kind r) PlaceOutside) _ is in
    let b = later (must (not (is_slot kind)) NoKind) _ a in
    let c = later (must (may_move o r (is_word kind)) TextAbsolute) _ b in
    let d = later (must (reaches o r) CrossSegment) _ c in
    let e = later (must (has_no_addend o r) GotAddend) _ d in
    record {
      inside = must_true (is_inside kind r) PlaceOutside (first (must (is_inside kind r) PlaceOutside) _ is);
      no_slot = must_true (not (is_slot kind)) NoKind (first (must (not (is_slot kind)) NoKind) _ a);
      moving = must_true (may_move o r (is_word kind)) TextAbsolute (first (must (may_move o r (is_word kind)) TextAbsolute) _ b);
      value = e;
    }

origin_keeps : (kind : RelocKind) (o : Origin) (r : Reference) → o ≢ Nothing → origin_rule o kind r ≡ None
    → Keeps kind o r
origin_keeps kind Nothing r some is = absurd (some refl)
origin_keeps kind Absolute r some is = kind_keeps kind Absolute r is
origin_keeps kind Packet r some is = kind_keeps kind Packet r is
origin_keeps kind Table r some is = kind_keeps kind Table r is
origin_keeps kind Got r some is = kind_keeps kind Got r is
origin_keeps kind Index r some is = kind_keeps kind Index r is
origin_keeps kind Slot r some is = kind_keeps kind Slot r is

pub entry_keeps : (kind : RelocKind) (r : Reference) → r.kind ≡ Some kind → origin_of kind ≢ Nothing
    → entry_rule r ≡ None → Keeps kind (origin_of kind) r
unfolding entry_rule
entry_keeps kind r is some passes = origin_keeps kind (origin_of kind) r some (ap (λ k. rule_with k r) (sym is) ∙ passes)

-- its field lies in the section
within_by : (n room : ℕ) (other : Bool) → (nat_le n room && other) ≡ true → n ≤ room
within_by n room other is = either (nat_le n room) refl is
  where
    either : (b : Bool) → nat_le n room ≡ b → (b && other) ≡ true → n ≤ room
    either true e both = grind (arith, nat_tests)
    either false e both = absurd (cc both)

pub field_inside : (kind : RelocKind) (r : Reference) → is_inside kind r ≡ true
    → r.offset + (row_of kind).size ≤ r.room
unfolding is_inside
field_inside kind r is = within_by (r.offset + (row_of kind).size) r.room _ is

-- it has a value
pub record HasValue (result : Result ℕ RelocError) : Type 0 where
  pub value : ℕ
  pub is : result ≡ Ok value

pub has_value : (result : Result ℕ RelocError) → value_rule result ≡ None → HasValue result
has_value (Ok value) is = record { value = value; is = refl }
has_value (Err Align) is = absurd (cc is)
has_value (Err Range) is = absurd (cc is)
has_value (Err Addend) is = absurd (cc is)
has_value (Err Kind) is = absurd (cc is)

-- a JUMP_SLOT alone is made of a slot
slot_is : (kind : RelocKind) → origin_of kind ≡ Slot → not (is_slot kind) ≡ false
unfolding row_of
slot_is NONE is = absurd (cc is)
slot_is ABS32 is = absurd (cc is)
slot_is ABS16 is = absurd (cc is)
slot_is ABS8 is = absurd (cc is)
slot_is PCR_S21 is = absurd (cc is)
slot_is PCR_S12 is = absurd (cc is)
slot_is PCR_S7 is = absurd (cc is)
slot_is ABS_S16 is = absurd (cc is)
slot_is ABS_L16 is = absurd (cc is)
slot_is ABS_H16 is = absurd (cc is)
slot_is SBR_U15_B is = absurd (cc is)
slot_is SBR_U15_H is = absurd (cc is)
slot_is SBR_U15_W is = absurd (cc is)
slot_is SBR_S16 is = absurd (cc is)
slot_is SBR_L16_B is = absurd (cc is)
slot_is SBR_L16_H is = absurd (cc is)
slot_is SBR_L16_W is = absurd (cc is)
slot_is SBR_H16_B is = absurd (cc is)
slot_is SBR_H16_H is = absurd (cc is)
slot_is SBR_H16_W is = absurd (cc is)
slot_is SBR_GOT_U15_W is = absurd (cc is)
slot_is SBR_GOT_L16_W is = absurd (cc is)
slot_is SBR_GOT_H16_W is = absurd (cc is)
slot_is DSBT_INDEX is = absurd (cc is)
slot_is JUMP_SLOT is = refl
slot_is ALIGN is = absurd (cc is)
slot_is FPHEAD is = absurd (cc is)
slot_is NOCMP is = absurd (cc is)

-- an entry that the loader does not fill is static
fixed_by : (fixed in_text word : Bool) → (fixed || (not in_text && word)) ≡ true
    → (word && (not in_text && not fixed)) ≡ false → fixed ≡ true
fixed_by true in_text word may dynamic = refl
fixed_by false true word may dynamic = absurd (cc may)
fixed_by false false true may dynamic = absurd (cc dynamic)
fixed_by false false false may dynamic = absurd (cc may)

static_by : (kind : RelocKind) (o : Origin) (r : Reference) → (o ≡ Slot → not (is_slot kind) ≡ false) → Keeps kind o r
    → (is_word kind && (not r.in_text && not (is_fixed r.target))) ≡ false → is_static o r.target ≡ true
static_by kind Nothing r slot keeps dynamic = refl
static_by kind Absolute r slot keeps dynamic = fixed_by (is_fixed r.target) r.in_text (is_word kind) keeps.moving dynamic
static_by kind Packet r slot keeps dynamic = refl
static_by kind Table r slot keeps dynamic = refl
static_by kind Got r slot keeps dynamic = refl
static_by kind Index r slot keeps dynamic = refl
static_by kind Slot r slot keeps dynamic = absurd (cc (sym (slot refl) ∙ keeps.no_slot))

pub entry_static : (kind : RelocKind) (r : Reference) → r.kind ≡ Some kind → Keeps kind (origin_of kind) r
    → is_dynamic r ≡ false → is_static (origin_of kind) r.target ≡ true
entry_static kind r is keeps dynamic =
    static_by kind (origin_of kind) r (slot_is kind) keeps (ap (λ k. is_dynamic_kind k (not r.in_text && not (is_fixed r.target))) (sym is) ∙ dynamic)
