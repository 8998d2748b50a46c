-- What the split of words gives is the packet that they spell, or the first rule that they break.

use Rattle.std.proofs.Common.{◌≡◌, ℕ, suc, ◌+◌, ◌-◌, ◌%◌, ◌<◌, ◌≤◌, ◌⊎◌, inl, inr, ◌↔◌, Bool, true, false, nat_eq, List, [], ◌∷◌, length, get_or, slice_get, Option, Some, None, Result, Ok, Err, IfOk, cond, refl, sym, ◌∙◌, ap, subst, arith}
use Rattle.std.specs.List.{list_any}
use Rattle.std.proofs.lemmas.Bool.{or_cases, or_left, or_right, and_parts, and_from, cases_lt, cond-true, cond-false, eqb-true, eq-eqb, both_ways, false_from_ne_true}
use Rattle.c6x_spec.specs.Fields.{bits_of}
use Rattle.c6x_encoding.specs.declared.instr.Instr.{Instr}
use Rattle.c6x_encoding.specs.Spelling.{Spells, IsValid}
use Rattle.c6x_encoding.specs.Decoded.{decoded}
use Rattle.c6x_encoding.proofs.Back.{made-spelled}
use Rattle.c6x_encoding.proofs.Facts.{spells-decoded, decoded-spelled}
use Rattle.c6x_packet.specs.declared.error.PacketError.{PacketError}
use Rattle.c6x_packet.specs.declared.error.PacketError.TheVariants.{BadWord, TooLong, UnitTwice, SameSide, CrossTwice}
use Rattle.c6x_packet.specs.declared.rule.PairRule.{PairRule}
use Rattle.c6x_packet.specs.declared.rule.PairRule.TheVariants.{Unit as UnitRule, Side as SideRule, Cross as CrossRule}
use Rattle.c6x_packet.specs.Rules.{breaks, some_pair}
use Rattle.c6x_packet.specs.Packets.{HaveTwo, IsPacket, AreSpelled, IsPacketOf, IsChain, IsFirstUnspelled, is_too_long, IsFirstBroken, or_bad, spelled_from, tested, then_tested, split_of}

-- A pair that breaks a rule, by recursion and by places.

any_at : (p : Instr → Bool) (instrs : List Instr) → list_any p instrs ≡ true → (k : ℕ) × (i : Instr) × (slice_get instrs k ≡ Some i) × (p i ≡ true)
any_at p [] is = cc
any_at p (x ∷ instrs) is = elim (or_cases (p x) _ is) [
  | inl e ↦ (0, x, refl, e)
  | inr e ↦ let rest = any_at p instrs e in (suc rest.0, rest.1, rest.2, rest.3)
]

at_any : (p : Instr → Bool) (instrs : List Instr) (k : ℕ) (i : Instr) → slice_get instrs k ≡ Some i → p i ≡ true → list_any p instrs ≡ true
at_any p [] k i is e = cc
at_any p (x ∷ instrs) ℕ.zero i is e = let same : x ≡ i = cc in or_left (p x) _ (ap p same ∙ e)
at_any p (x ∷ instrs) (suc k) i is e = or_right (p x) _ (at_any p instrs k i is e)

pub pair_two : (rule : PairRule) (instrs : List Instr) → some_pair rule instrs ≡ true → HaveTwo rule instrs
pair_two rule [] is = cc
pair_two rule (x ∷ instrs) is = elim (or_cases (list_any (breaks rule x) instrs) _ is) [
  | inl e ↦
      let found = any_at (breaks rule x) instrs e in
      record { first = 0; second = suc found.0; one = x; other = found.1; before = omega arith; is_one = refl; is_other = found.2; broken = found.3 }
  | inr e ↦
      let rest = pair_two rule instrs e in
      let before : rest.first < rest.second = rest.before in
      record { first = suc rest.first; second = suc rest.second; one = rest.one; other = rest.other; before = omega arith; is_one = rest.is_one; is_other = rest.is_other; broken = rest.broken }
]

pair_at : (rule : PairRule) (instrs : List Instr) (j k : ℕ) (a b : Instr) → j < k → slice_get instrs j ≡ Some a → slice_get instrs k ≡ Some b → breaks rule a b ≡ true → some_pair rule instrs ≡ true
pair_at rule [] j k a b before is_a is_b broken = cc
pair_at rule (x ∷ instrs) j ℕ.zero a b before is_a is_b broken = absurd (omega arith)
pair_at rule (x ∷ instrs) ℕ.zero (suc k) a b before is_a is_b broken =
    let same : x ≡ a = cc in
    or_left _ _ (at_any (breaks rule x) instrs k b is_b (ap (λ (i : Instr). breaks rule i b) same ∙ broken))
pair_at rule (x ∷ instrs) (suc j) (suc k) a b before is_a is_b broken =
    or_right (list_any (breaks rule x) instrs) _ (pair_at rule instrs j k a b (omega arith) is_a is_b broken)

pub two_pair : (rule : PairRule) (instrs : List Instr) → HaveTwo rule instrs → some_pair rule instrs ≡ true
two_pair rule instrs t = pair_at rule instrs t.first t.second t.one t.other t.before t.is_one t.is_other t.broken

no_pair : (rule : PairRule) (instrs : List Instr) → (HaveTwo rule instrs → ⊥) → some_pair rule instrs ≡ false
no_pair rule instrs none = false_from_ne_true _ (λ is. none (pair_two rule instrs is))

no_two : (rule : PairRule) (instrs : List Instr) → some_pair rule instrs ≡ false → HaveTwo rule instrs → ⊥
no_two rule instrs none t = both_ways _ none (two_pair rule instrs t)

-- The instructions that the words spell.

or_bad_ok : (place : ℕ) (o : Option Instr) (rest : Result (List Instr) PacketError) (instrs : List Instr) → or_bad place o rest ≡ Ok instrs → (i : Instr) × (later : List Instr) × (o ≡ Some i) × (rest ≡ Ok later) × (instrs ≡ i ∷ later)
or_bad_ok place None rest instrs is = cc
or_bad_ok place (Some i) (Ok later) instrs is = (i, later, refl, refl, cc)
or_bad_ok place (Some i) (Err e) instrs is = cc

pub ok_spelled : (words : List ℕ) (place : ℕ) (instrs : List Instr) → spelled_from place words ≡ Ok instrs → AreSpelled words instrs
ok_spelled [] place [] is = tt
ok_spelled [] place (i ∷ instrs) is = cc
ok_spelled (word ∷ words) place instrs is =
    let parts = or_bad_ok place (decoded word) (spelled_from (place + 1) words) instrs is in
    subst (AreSpelled (word ∷ words)) (sym parts.4) (spells-decoded parts.0 word parts.2, ok_spelled words (place + 1) parts.1 parts.3)

pub spelled_ok : (words : List ℕ) (place : ℕ) (instrs : List Instr) → AreSpelled words instrs → spelled_from place words ≡ Ok instrs
spelled_ok [] place [] are = refl
spelled_ok [] place (i ∷ instrs) are = absurd are
spelled_ok (word ∷ words) place [] are = absurd are
spelled_ok (word ∷ words) place (i ∷ instrs) are =
    ap (λ (o : Option Instr). or_bad place o (spelled_from (place + 1) words)) (decoded-spelled i word are.0)
    ∙ ap (or_bad place (Some i)) (spelled_ok words (place + 1) instrs are.1)

none_decoded : (word : ℕ) → ((i : Instr) → Spells i word → ⊥) → decoded word ≡ None
none_decoded word none = go (decoded word) refl
  where
    go : (o : Option Instr) → decoded word ≡ o → decoded word ≡ None
    go None is = is
    go (Some i) is = absurd (none i (spells-decoded i word is))

not_spelled : (word : ℕ) → decoded word ≡ None → (i : Instr) → Spells i word → ⊥
not_spelled word none i s = let e : Some i ≡ None = sym (decoded-spelled i word s) ∙ none in cc

-- The first word that spells nothing.

pub first_bad : (words : List ℕ) (place n : ℕ) → IsFirstUnspelled words n → spelled_from place words ≡ Err (BadWord (place + n))
first_bad [] place n f = let within : n < 0 = f.within in absurd (omega arith)
first_bad (word ∷ words) place ℕ.zero f =
    ap (λ (o : Option Instr). or_bad place o (spelled_from (place + 1) words)) (none_decoded word f.here)
    ∙ ap (λ n. Err (BadWord n)) (omega arith)
first_bad (word ∷ words) place (suc n) f =
    let within : suc n < suc (length words) = f.within in
    let first = f.before 0 (omega arith) in
    let later : IsFirstUnspelled words n = record {
      within = omega arith;
      here = f.here;
      before = λ (k : ℕ) (below : k < n). f.before (suc k) (omega arith);
    } in
    ap (λ (o : Option Instr). or_bad place o (spelled_from (place + 1) words)) (decoded-spelled first.0 word first.1)
    ∙ ap (or_bad place (Some first.0)) (first_bad words (place + 1) n later)
    ∙ ap (λ n. Err (BadWord n)) (omega arith)

first_more : (word : ℕ) (words : List ℕ) (n : ℕ) (i : Instr) → Spells i word → IsFirstUnspelled words n → IsFirstUnspelled (word ∷ words) (suc n)
first_more word words n i s f = record {
  within = let within : n < length words = f.within in omega arith;
  here = f.here;
  before = before;
}
  where
    before : (k : ℕ) → k < suc n → (j : Instr) × Spells j (get_or (word ∷ words) k 0)
    before ℕ.zero below = (i, s)
    before (suc k) below = f.before k (omega arith)

pub bad_first : (words : List ℕ) (place : ℕ) (e : PacketError) → spelled_from place words ≡ Err e → (n : ℕ) × (e ≡ BadWord (place + n)) × IsFirstUnspelled words n
bad_first [] place e is = cc
bad_first (word ∷ words) place e is = go (decoded word) refl (spelled_from (place + 1) words) refl is (bad_first words (place + 1))
  where
    go : (o : Option Instr) → decoded word ≡ o → (r : Result (List Instr) PacketError) → spelled_from (place + 1) words ≡ r → or_bad place (decoded word) (spelled_from (place + 1) words) ≡ Err e → ((f : PacketError) → spelled_from (place + 1) words ≡ Err f → (n : ℕ) × (f ≡ BadWord (place + 1 + n)) × IsFirstUnspelled words n) → (n : ℕ) × (e ≡ BadWord (place + n)) × IsFirstUnspelled (word ∷ words) n
    go None o r rest put later =
        let same : Err (BadWord place) ≡ Err e = sym (ap (λ (o : Option Instr). or_bad place o (spelled_from (place + 1) words)) o) ∙ put in
        let it : e ≡ BadWord place = cc in
        (0, it ∙ ap BadWord (omega arith), record { within = omega arith; here = not_spelled word o; before = λ (k : ℕ) (below : k < 0). absurd (omega arith) })
    go (Some i) o (Ok instrs) rest put later =
        let same : Ok (i ∷ instrs) ≡ Err e = sym (ap (λ (o : Option Instr). or_bad place o (spelled_from (place + 1) words)) o ∙ ap (or_bad place (Some i)) rest) ∙ put in
        absurd (cc)
    go (Some i) o (Err f) rest put later =
        let same : Err f ≡ Err e = sym (ap (λ (o : Option Instr). or_bad place o (spelled_from (place + 1) words)) o ∙ ap (or_bad place (Some i)) rest) ∙ put in
        let it : e ≡ f = cc in
        let found = later f rest in
        (suc found.0, it ∙ found.1 ∙ ap BadWord (omega arith), first_more word words found.0 i (spells-decoded i word o) found.2)

-- The instructions of a chain.

length_spelled : (words : List ℕ) (instrs : List Instr) → AreSpelled words instrs → length instrs ≡ length words
length_spelled [] [] are = refl
length_spelled [] (i ∷ instrs) are = absurd are
length_spelled (word ∷ words) [] are = absurd are
length_spelled (word ∷ words) (i ∷ instrs) are = ap suc (length_spelled words instrs are.1)

pub at_spelled : (words : List ℕ) (instrs : List Instr) (k : ℕ) (i : Instr) → AreSpelled words instrs → slice_get instrs k ≡ Some i → Spells i (get_or words k 0)
at_spelled [] [] k i are is = cc
at_spelled [] (x ∷ instrs) k i are is = absurd are
at_spelled (word ∷ words) [] k i are is = absurd are
at_spelled (word ∷ words) (x ∷ instrs) ℕ.zero i are is = let same : x ≡ i = cc in subst (λ (j : Instr). Spells j word) same are.0
at_spelled (word ∷ words) (x ∷ instrs) (suc k) i are is = at_spelled words instrs k i are.1 is

some_at : (instrs : List Instr) (k : ℕ) → k < length instrs → (i : Instr) × (slice_get instrs k ≡ Some i)
some_at [] k within = absurd (omega arith)
some_at (x ∷ instrs) ℕ.zero within = (x, refl)
some_at (x ∷ instrs) (suc k) within = some_at instrs k (omega arith)

-- The p bit.
chained_bit : (i : Instr) (word : ℕ) → Spells i word → i.chained ≡ nat_eq (word % 2) 1
chained_bit i word s =
    let low : bits_of word 0 1 ≡ word % 2 = omega arith in
    sym (ap (λ (j : Instr). j.chained) (made-spelled i word s)) ∙ ap (λ n. nat_eq n 1) low

last_alone : (words : List ℕ) (instrs : List Instr) (i : Instr) → IsChain words → AreSpelled words instrs → is_too_long words ≡ false → slice_get instrs (length instrs - 1) ≡ Some i → i.chained ≡ false
last_alone words instrs i chain are short is =
    false_from_ne_true i.chained (λ (set : i.chained ≡ true).
    let bit : get_or words (length instrs - 1) 0 % 2 ≡ 1 = eqb-true _ _ (sym (chained_bit i _ (at_spelled words instrs (length instrs - 1) i are is)) ∙ set) in
    let many : length instrs ≡ length words = length_spelled words instrs are in
    let few : length words ≤ 8 = chain.few in
    elim (cases_lt (length words) 8) [
      | inl less ↦
          let clear : get_or words (length words - 1) 0 % 2 ≡ 0 = chain.last less in
          let moved : get_or words (length words - 1) 0 % 2 ≡ 1 = subst (λ n. get_or words (n - 1) 0 % 2 ≡ 1) many bit in
          absurd (omega arith)
      | inr whole ↦
          let eight : length words ≡ 8 = omega arith in
          let seven : length instrs - 1 ≡ 7 = omega arith in
          let eighth : get_or words 7 0 % 2 ≡ 1 = subst (λ n. get_or words n 0 % 2 ≡ 1) seven bit in
          both_ways _ short (and_from _ _ (eq-eqb _ _ eight) (eq-eqb _ _ eighth))
    ])

packet_of : (words : List ℕ) (instrs : List Instr) → IsChain words → AreSpelled words instrs → is_too_long words ≡ false → (HaveTwo UnitRule instrs → ⊥) → (HaveTwo SideRule instrs → ⊥) → (HaveTwo CrossRule instrs → ⊥) → IsPacket instrs
packet_of words instrs chain are short units sides crosses =
    let many : length instrs ≡ length words = length_spelled words instrs are in
    let some : 1 ≤ length words = chain.some in
    let few : length words ≤ 8 = chain.few in
    record {
      some = omega arith;
      few = omega arith;
      chained = λ (k : ℕ) (i : Instr) (is : slice_get instrs k ≡ Some i) (more : k + 1 < length instrs).
          chained_bit i _ (at_spelled words instrs k i are is) ∙ eq-eqb _ _ (chain.chained k (omega arith));
      last = λ (i : Instr) (is : slice_get instrs (length instrs - 1) ≡ Some i). last_alone words instrs i chain are short is;
      units = units;
      sides = sides;
      crosses = crosses;
    }

not_too_long : (words : List ℕ) (instrs : List Instr) → AreSpelled words instrs → IsPacket instrs → is_too_long words ≡ false
not_too_long words instrs are p =
    false_from_ne_true _ (λ (long : is_too_long words ≡ true).
    let both = and_parts (nat_eq (length words) 8) _ long in
    let eight : length words ≡ 8 = eqb-true _ _ both.0 in
    let many : length instrs ≡ length words = length_spelled words instrs are in
    let eighth = some_at instrs (length instrs - 1) (omega arith) in
    let seven : length instrs - 1 ≡ 7 = omega arith in
    let bit : eighth.0.chained ≡ nat_eq (get_or words 7 0 % 2) 1 = subst (λ n. eighth.0.chained ≡ nat_eq (get_or words n 0 % 2) 1) seven (chained_bit eighth.0 _ (at_spelled words instrs (length instrs - 1) eighth.0 are eighth.1)) in
    both_ways _ (p.last eighth.0 eighth.1) (bit ∙ both.1))

-- Steps of the tests.

passed : (b : Bool) (e : PacketError) (rest : Result (List Instr) PacketError) (instrs : List Instr) → cond b (Err e) rest ≡ Ok instrs → (b ≡ false) × (rest ≡ Ok instrs)
passed true e rest instrs is = absurd (cc)
passed false e rest instrs is = (refl, is)

failed : (b : Bool) (e f : PacketError) (rest : Result (List Instr) PacketError) → cond b (Err e) rest ≡ Err f → ((b ≡ true) × (f ≡ e)) ⊎ ((b ≡ false) × (rest ≡ Err f))
failed true e f rest is = inl (refl, cc)
failed false e f rest is = inr (refl, is)

tested_ok : (words : List ℕ) (instrs all : List Instr) → IsChain words → AreSpelled words instrs → tested words instrs ≡ Ok all → IsPacketOf words all
unfolding tested
tested_ok words instrs all chain are is =
    let a = passed (is_too_long words) TooLong _ all is in
    let b = passed (some_pair UnitRule instrs) UnitTwice _ all a.1 in
    let c = passed (some_pair SideRule instrs) SameSide _ all b.1 in
    let d = passed (some_pair CrossRule instrs) CrossTwice _ all c.1 in
    let same : instrs ≡ all = cc in
    subst (IsPacketOf words) same (record {
      spelled = are;
      packet = packet_of words instrs chain are a.0 (no_two UnitRule instrs b.0) (no_two SideRule instrs c.0) (no_two CrossRule instrs d.0);
    })

tested_err : (words : List ℕ) (instrs : List Instr) (e : PacketError) → AreSpelled words instrs → tested words instrs ≡ Err e → IsFirstBroken words e
unfolding tested
tested_err words instrs e are is = elim (failed (is_too_long words) TooLong e _ is) [
  | inl long ↦ subst (IsFirstBroken words) (sym long.1) ((instrs, are), long.0)
  | inr short ↦ elim (failed (some_pair UnitRule instrs) UnitTwice e _ short.1) [
    | inl unit ↦ subst (IsFirstBroken words) (sym unit.1) (instrs, are, short.0, pair_two UnitRule instrs unit.0)
    | inr units ↦ elim (failed (some_pair SideRule instrs) SameSide e _ units.1) [
      | inl side ↦ subst (IsFirstBroken words) (sym side.1) (instrs, are, short.0, no_two UnitRule instrs units.0, pair_two SideRule instrs side.0)
      | inr sides ↦ elim (failed (some_pair CrossRule instrs) CrossTwice e _ sides.1) [
        | inl cross ↦ subst (IsFirstBroken words) (sym cross.1) (instrs, are, short.0, no_two UnitRule instrs units.0, no_two SideRule instrs sides.0, pair_two CrossRule instrs cross.0)
        | inr crosses ↦ let never : Ok instrs ≡ Err e = crosses.1 in absurd (cc)
      ]
    ]
  ]
]

split_spelled : (words : List ℕ) (instrs : List Instr) → AreSpelled words instrs → split_of words ≡ tested words instrs
unfolding split_of
split_spelled words instrs are = ap (then_tested words) (spelled_ok words 0 instrs are)

-- The split gives a packet exactly where the words spell one.
pub split_ok : (words : List ℕ) → IsChain words → (instrs : List Instr) → (split_of words ≡ Ok instrs) ↔ IsPacketOf words instrs
unfolding split_of tested
split_ok words chain instrs = (go (spelled_from 0 words) refl, back)
  where
    go : (r : Result (List Instr) PacketError) → spelled_from 0 words ≡ r → split_of words ≡ Ok instrs → IsPacketOf words instrs
    go (Ok found) is put = tested_ok words found instrs chain (ok_spelled words 0 found is) (sym (split_spelled words found (ok_spelled words 0 found is)) ∙ put)
    go (Err e) is put = let never : Err e ≡ Ok instrs = sym (ap (then_tested words) is) ∙ put in absurd (cc)

    back : IsPacketOf words instrs → split_of words ≡ Ok instrs
    back p =
        split_spelled words instrs p.spelled
        ∙ cond-false _ _ _ (not_too_long words instrs p.spelled p.packet)
        ∙ cond-false _ _ _ (no_pair UnitRule instrs p.packet.units)
        ∙ cond-false _ _ _ (no_pair SideRule instrs p.packet.sides)
        ∙ cond-false _ _ _ (no_pair CrossRule instrs p.packet.crosses)

broken_split : (words : List ℕ) (e : PacketError) → IsFirstBroken words e → split_of words ≡ Err e
unfolding split_of tested
broken_split words (BadWord place) f = ap (then_tested words) (first_bad words 0 place f ∙ ap (λ n. Err (BadWord n)) (omega arith))
broken_split words TooLong f = split_spelled words f.0.0 f.0.1 ∙ cond-true _ _ _ f.1
broken_split words UnitTwice f =
    split_spelled words f.0 f.1 ∙ cond-false _ _ _ f.2 ∙ cond-true _ _ _ (two_pair UnitRule f.0 f.3)
broken_split words SameSide f =
    split_spelled words f.0 f.1 ∙ cond-false _ _ _ f.2 ∙ cond-false _ _ _ (no_pair UnitRule f.0 f.3)
    ∙ cond-true _ _ _ (two_pair SideRule f.0 f.4)
broken_split words CrossTwice f =
    split_spelled words f.0 f.1 ∙ cond-false _ _ _ f.2 ∙ cond-false _ _ _ (no_pair UnitRule f.0 f.3)
    ∙ cond-false _ _ _ (no_pair SideRule f.0 f.4) ∙ cond-true _ _ _ (two_pair CrossRule f.0 f.5)

-- The split gives an error exactly where it is the first rule that the words break.
pub split_err : (words : List ℕ) (e : PacketError) → (split_of words ≡ Err e) ↔ IsFirstBroken words e
unfolding split_of
split_err words e = (go (spelled_from 0 words) refl, broken_split words e)
  where
    go : (r : Result (List Instr) PacketError) → spelled_from 0 words ≡ r → split_of words ≡ Err e → IsFirstBroken words e
    go (Ok instrs) is put =
        let are = ok_spelled words 0 instrs is in
        tested_err words instrs e are (sym (split_spelled words instrs are) ∙ put)
    go (Err f) is put =
        let same : Err f ≡ Err e = sym (ap (then_tested words) is) ∙ put in
        let it : f ≡ e = cc in
        let found = bad_first words 0 f is in
        let place : BadWord (0 + found.0) ≡ e = sym found.1 ∙ it in
        subst (IsFirstBroken words) (ap BadWord (omega arith) ∙ place) found.2

-- What the words spell has instructions that words spell.
pub packet_valid : (words : List ℕ) (instrs : List Instr) → AreSpelled words instrs → (k : ℕ) (i : Instr) → slice_get instrs k ≡ Some i → IsValid i
packet_valid words instrs are k i is = (get_or words k 0, at_spelled words instrs k i are is)

-- The same of an answer that is the split.
pub answer_packet : (words : List ℕ) (answer : Result (List Instr) PacketError) → IsChain words → answer ≡ split_of words → (instrs : List Instr) → (answer ≡ Ok instrs) ↔ IsPacketOf words instrs
answer_packet words answer chain is instrs = (λ (e : answer ≡ Ok instrs). (split_ok words chain instrs).0 (sym is ∙ e), λ (p : IsPacketOf words instrs). is ∙ (split_ok words chain instrs).1 p)

pub answer_broken : (words : List ℕ) (answer : Result (List Instr) PacketError) → answer ≡ split_of words → (e : PacketError) → (answer ≡ Err e) ↔ IsFirstBroken words e
answer_broken words answer is e = (λ (r : answer ≡ Err e). (split_err words e).0 (sym is ∙ r), λ (b : IsFirstBroken words e). is ∙ (split_err words e).1 b)

pub answer_valid : (words : List ℕ) (answer : Result (List Instr) PacketError) → IsChain words → answer ≡ split_of words → IfOk answer (λ (p : List Instr). (k : ℕ) (i : Instr) → slice_get p k ≡ Some i → IsValid i)
answer_valid words (Ok instrs) chain is = packet_valid words instrs ((split_ok words chain instrs).0 (sym is)).spelled
answer_valid words (Err e) chain is = tt
