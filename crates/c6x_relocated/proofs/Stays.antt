-- The value of an entry where its module stands.
use Rattle.std.proofs.Common.{◌≡◌, ℕ, ◌*◌, ◌/◌, ◌%◌, ◌&&◌, ◌||◌, Bool, true, false, not, Option, None, Some, refl, sym, ap, ◌∙◌, inl, arith}
use Rattle.c6x_reloc.specs.Table.{row_of}
use Rattle.c6x_reloc.specs.Value.{value_of, row_value, sum_of}
use Rattle.c6x_reloc.specs.declared.kind_row.KindRow.{KindRow}
use Rattle.c6x_reloc.specs.declared.origin.Origin.{Origin}
use Rattle.c6x_reloc.specs.declared.origin.Origin.TheVariants.{Nothing, Absolute, Packet, Table, Got, Index, Slot}
use Rattle.c6x_reloc.specs.declared.reloc_kind.RelocKind.{RelocKind}
use Rattle.c6x_symbols.specs.EntryRules.{◌<|>◌, must, entry_rule, kind_rule, origin_rule, rule_with, reaches, is_fixed, is_text, is_range, is_import, is_inside, is_slot, is_word, may_move, has_no_addend, value_rule}
use Rattle.c6x_symbols.specs.declared.link_rule.LinkRule.{LinkRule}
use Rattle.c6x_symbols.specs.declared.reference.Reference.{Reference}
use Rattle.c6x_symbols.specs.declared.region.Region.{Region}
use Rattle.c6x_symbols.specs.declared.region.Region.TheVariants.{Text, Data, Absolute as Fixed, Import}
use Rattle.c6x_symbols.specs.declared.link_rule.LinkRule.TheVariants.{GotAddend, TextAbsolute, CrossSegment, PlaceOutside, RelocKind as NoKind}
use Rattle.c6x_reloc.specs.Shift.{AreWords, at_addresses, moved_by, origin_of}
use Rattle.c6x_reloc.proofs.Sums.{same_value, packet_value, table_value, got_value, fixed_value}
use Rattle.c6x_relocated.specs.Moved.{Shifts, moved_symbol, moved_place, moved_inputs, is_static}

-- what a chain of rules that are kept says
later_none : (a b : Option LinkRule) → (a <|> b) ≡ None → b ≡ None
later_none None b is = is
later_none (Some x) b is = absurd_some x is
  where
    absurd_some : (x : LinkRule) → Some x ≡ (None) → b ≡ None
    absurd_some x is = cc

first_none : (a b : Option LinkRule) → (a <|> b) ≡ None → a ≡ None
first_none None b is = refl
first_none (Some x) b is = is

must_true : (t : Bool) (rule : LinkRule) → must t rule ≡ None → t ≡ true
unfolding must
must_true true rule is = refl
must_true false rule is = cc

-- the rule on segments, out of the chain
kind_reaches : (kind : RelocKind) (o : Origin) (r : Reference) → kind_rule kind o r ≡ None → reaches o r ≡ true
unfolding kind_rule
kind_reaches kind o r is =
    let rest : (must (reaches o r) CrossSegment <|> must (has_no_addend o r) GotAddend <|> value_rule (value_of kind r.inputs)) ≡ None =
    later_none (must (may_move o r (is_word kind)) TextAbsolute) _
    (later_none (must (not (is_slot kind)) NoKind) _ (later_none (must (is_inside kind r) PlaceOutside) _ is)) in
    must_true (reaches o r) CrossSegment (first_none (must (reaches o r) CrossSegment) (must (has_no_addend o r) GotAddend <|> value_rule (value_of kind r.inputs)) rest)

origin_reaches : (kind : RelocKind) (o : Origin) (r : Reference) → origin_rule o kind r ≡ None → reaches o r ≡ true
origin_reaches kind Nothing r is = refl
origin_reaches kind Absolute r is = refl
origin_reaches kind Packet r is = kind_reaches kind Packet r is
origin_reaches kind Table r is = kind_reaches kind Table r is
origin_reaches kind Got r is = refl
origin_reaches kind Index r is = refl
origin_reaches kind Slot r is = refl

entry_reaches : (kind : RelocKind) (r : Reference) → r.kind ≡ Some kind → entry_rule r ≡ None → reaches (origin_of kind) r ≡ true
unfolding entry_rule
entry_reaches kind r is passes = origin_reaches kind (origin_of kind) r (ap (λ k. rule_with k r) (sym is) ∙ passes)

left_true : (a b : Bool) → (a && b) ≡ true → a ≡ true
left_true true b is = refl
left_true false b is = is

right_true : (a b : Bool) → (a && b) ≡ true → b ≡ true
right_true true b is = is
right_true false b is = cc

-- where a symbol of a kind relative to the packet stands
packet_symbol : (by : Shifts) (found s : ℕ) (t : Region) → (is_text t || is_import t) ≡ true → moved_symbol by found Packet t s ≡ moved_by by.text s
packet_symbol by found s Text is = refl
packet_symbol by found s Data is = cc
packet_symbol by found s Fixed is = cc
packet_symbol by found s Import is = refl

table_symbol : (by : Shifts) (found s : ℕ) (t : Region) → is_range t ≡ true → moved_symbol by found Table t s ≡ moved_by by.range s
table_symbol by found s Text is = cc
table_symbol by found s Data is = refl
table_symbol by found s Fixed is = cc
table_symbol by found s Import is = cc

fixed_symbol : (by : Shifts) (found s : ℕ) (t : Region) → is_fixed t ≡ true → moved_symbol by found Absolute t s ≡ s
fixed_symbol by found s Text is = cc
fixed_symbol by found s Data is = cc
fixed_symbol by found s Fixed is = refl
fixed_symbol by found s Import is = cc

by_origin : (by : Shifts) → by.text % 32 ≡ 0 → (found : ℕ) (row : KindRow) (o : Origin) (r : Reference) → row.origin ≡ o → AreWords r.inputs → reaches o r ≡ true → is_static o r.target ≡ true → row_value row (moved_inputs by found o r) ≡ row_value row r.inputs
unfolding sum_of
by_origin by multiple found row Nothing r is words reach static = same_value row (moved_inputs by found Nothing r) r.inputs Nothing is refl refl
by_origin by multiple found row Absolute r is words reach static =
    ap (λ s. row_value row (at_addresses r.inputs s (moved_place by r.in_text r.inputs.p) (moved_by by.range r.inputs.b) (moved_by by.range r.inputs.g))) (fixed_symbol by found r.inputs.s r.target static)
    ∙ fixed_value row (inl is) r.inputs (moved_place by r.in_text r.inputs.p) (moved_by by.range r.inputs.b) (moved_by by.range r.inputs.g)
by_origin by multiple found row Packet r is words reach static =
    let k : ℕ = by.text / 32 in
    let whole : by.text ≡ 32 * k = omega arith in
    let in_text : r.in_text ≡ true = left_true r.in_text (is_text r.target || is_import r.target) reach in
    let target = right_true r.in_text (is_text r.target || is_import r.target) reach in
    let place : moved_place by r.in_text r.inputs.p ≡ moved_by (32 * k) r.inputs.p = rw in_text (ap (λ d. moved_by d r.inputs.p) whole) in
    let symbol : moved_symbol by found Packet r.target r.inputs.s ≡ moved_by (32 * k) r.inputs.s = packet_symbol by found r.inputs.s r.target target ∙ ap (λ d. moved_by d r.inputs.s) whole in
    ap (λ s. row_value row (at_addresses r.inputs s (moved_place by r.in_text r.inputs.p) (moved_by by.range r.inputs.b) (moved_by by.range r.inputs.g))) symbol
    ∙ ap (λ p. row_value row (at_addresses r.inputs (moved_by (32 * k) r.inputs.s) p (moved_by by.range r.inputs.b) (moved_by by.range r.inputs.g))) place
    ∙ packet_value row is r.inputs words k (moved_by by.range r.inputs.b) (moved_by by.range r.inputs.g)
by_origin by multiple found row Table r is words reach static =
    ap (λ s. row_value row (at_addresses r.inputs s (moved_place by r.in_text r.inputs.p) (moved_by by.range r.inputs.b) (moved_by by.range r.inputs.g))) (table_symbol by found r.inputs.s r.target reach)
    ∙ table_value row is r.inputs words by.range (moved_place by r.in_text r.inputs.p) (moved_by by.range r.inputs.g)
by_origin by multiple found row Got r is words reach static =
    got_value row is r.inputs words by.range (moved_symbol by found Got r.target r.inputs.s) (moved_place by r.in_text r.inputs.p)
by_origin by multiple found row Index r is words reach static = same_value row (moved_inputs by found Index r) r.inputs Index is refl refl
by_origin by multiple found row Slot r is words reach static = cc

pub stays : (by : Shifts) → by.text % 32 ≡ 0 → (found : ℕ) (kind : RelocKind) (r : Reference) → r.kind ≡ Some kind → AreWords r.inputs → entry_rule r ≡ None → is_static (origin_of kind) r.target ≡ true → value_of kind (moved_inputs by found (origin_of kind) r) ≡ value_of kind r.inputs
stays by multiple found kind r is words passes static = by_origin by multiple found (row_of kind) (origin_of kind) r refl words (entry_reaches kind r is passes) static
