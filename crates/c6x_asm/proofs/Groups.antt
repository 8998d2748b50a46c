-- The first broken packet of a list of instructions is the first of its packets that is broken.
use Rattle.std.proofs.Common.{◌≡◌, ℕ, ◌≤◌, Bool, true, false, not, ◌&&◌, List, [], ◌∷◌, ◌++◌, Option, Some, None, refl, sym, ◌∙◌, ap, subst, arith, append_assoc}
use Rattle.std.specs.Prelude.{if◌then◌else◌}
use Rattle.std.proofs.lemmas.Bool.{true≢false}
use Rattle.c6x_asm_object.specs.declared.instr_word.InstrWord.{InstrWord}
use Rattle.c6x_asm.specs.Groups.{AreJoined, IsApart, IsPacketOf, words_of}
use Rattle.c6x_asm.specs.Packets.{bad_from, first_bad, is_packet, joined_to}

-- a broken packet of instructions, which begins at a line
pub record IsBroken (instructions : List InstrWord) (line : ℕ) : Type 0 where
  pub first : InstrWord
  pub joined : List InstrWord
  pub packet : IsPacketOf instructions first joined
  pub breaks : is_packet (words_of (first ∷ joined)) ≡ false
  pub begins : line ≡ first.line

-- the lines of instructions, from this one on, do not fall
abbrev pub AreFrom : ℕ → List InstrWord → Type 0
AreFrom line [] = Unit {0}
AreFrom line (i ∷ instructions) = (line ≤ i.line) × AreFrom i.line instructions

pub from_lower : (low high : ℕ) (instructions : List InstrWord) → low ≤ high → AreFrom high instructions → AreFrom low instructions
from_lower low high [] below are = tt
from_lower low high (i ∷ instructions) below are = let first = are.0 in (omega arith, are.1)

-- the line of each
from_each : (line : ℕ) (above : List InstrWord) (i : InstrWord) (below : List InstrWord) → AreFrom line (above ++ i ∷ below) → line ≤ i.line
from_each line [] i below are = are.0
from_each line (a ∷ above) i below are = let rest = from_each a.line above i below are.1 in let here = are.0 in omega arith

from_behind : (line : ℕ) (above below : List InstrWord) → AreFrom line (above ++ below) → AreFrom line below
from_behind line [] below are = are
from_behind line (a ∷ above) below are = from_lower line a.line below are.0 (from_behind a.line above below are.1)

tail_same : {T : Type 0} (x y : T) (xs ys : List T) → x ∷ xs ≡ y ∷ ys → xs ≡ ys
tail_same x y xs ys is = cc

head_same : {T : Type 0} (x y : T) (xs ys : List T) → x ∷ xs ≡ y ∷ ys → x ≡ y
head_same x y xs ys is = cc

never_both : (i j : InstrWord) → i ≡ j → i.chained ≡ false → j.chained ≡ true → ⊥
never_both i j same denies affirms = true≢false (sym affirms ∙ ap (λ (k : InstrWord). k.chained) (sym same) ∙ denies)

-- joined instructions up to the first that is not are the same, however the list is cut
same_joined : (xs ys below rest : List InstrWord) → AreJoined xs → AreJoined ys → IsApart below → IsApart rest → xs ++ below ≡ ys ++ rest → xs ≡ ys
same_joined [] [] below rest first second closes ends is = refl
same_joined [] (y ∷ ys) [] rest first second closes ends is = absurd (cc)
same_joined [] (y ∷ ys) (b ∷ below) rest first second closes ends is = absurd (never_both b y (head_same b y below (ys ++ rest) is) closes second.0)
same_joined (x ∷ xs) [] below [] first second closes ends is = absurd (cc)
same_joined (x ∷ xs) [] below (r ∷ rest) first second closes ends is = absurd (never_both r x (sym (head_same x r (xs ++ below) rest is)) ends first.0)
same_joined (x ∷ xs) (y ∷ ys) below rest first second closes ends is =
    let inner = same_joined xs ys below rest first.1 second.1 closes ends (tail_same x y (xs ++ below) (ys ++ rest) is) in
    ap (λ i. i ∷ xs) (head_same x y (xs ++ below) (ys ++ rest) is) ∙ ap (λ is. y ∷ is) inner

-- what is behind joined instructions, where one without `||` is further down
record IsBehind (f : InstrWord) (more rest : List InstrWord) : Type 0 where
  above : List InstrWord
  split : rest ≡ above ++ f ∷ more

behind_joined : (above joined : List InstrWord) (f : InstrWord) (more rest : List InstrWord) → AreJoined joined → f.chained ≡ false → joined ++ rest ≡ above ++ f ∷ more → IsBehind f more rest
behind_joined above [] f more rest joins opens is = record { above = above; split = is }
behind_joined [] (j ∷ joined) f more rest joins opens is = absurd (never_both f j (sym (head_same j f (joined ++ rest) more is)) opens joins.0)
behind_joined (a ∷ above) (j ∷ joined) f more rest joins opens is = behind_joined above joined f more rest joins.1 opens (tail_same j a (joined ++ rest) (above ++ f ∷ more) is)

joined_push : (joined : List InstrWord) (i : InstrWord) → AreJoined joined → i.chained ≡ true → AreJoined (joined ++ i ∷ [])
joined_push [] i joins is = (is, tt)
joined_push (j ∷ joined) i joins is = (joins.0, joined_push joined i joins.1 is)

words_push : (is : List InstrWord) (i : InstrWord) → words_of (is ++ i ∷ []) ≡ words_of is ++ i.word ∷ []
words_push [] i = refl
words_push (j ∷ is) i = ap (λ ws. j.word ∷ ws) (words_push is i)

-- the least number of which this is true, if there is one
abbrev pub IsLeast : (ℕ → Type 0) → Option ℕ → Type 0
IsLeast P None = (n : ℕ) → P n → ⊥
IsLeast P (Some n) = P n × ((other : ℕ) → P other → n ≤ other)

-- the lowest line at which a packet of these instructions is broken
abbrev pub IsFirstBroken : List InstrWord → Option ℕ → Type 0
IsFirstBroken instructions = IsLeast (IsBroken instructions)

-- the packet at the front of a list
front_packet : (first : InstrWord) (joined rest : List InstrWord) → first.chained ≡ false → AreJoined joined → IsApart rest → IsPacketOf (first ∷ (joined ++ rest)) first joined
front_packet first joined rest opens joins closes = record { above = []; below = rest; split = refl; opens = opens; joins = joins; closes = closes }

-- each packet of a list is the one at its front, or one of those behind it
data IsFrontOrBehind (first : InstrWord) (joined rest : List InstrWord) (f : InstrWord) (j : List InstrWord) : Type 0 where
  at_front : f ≡ first → j ≡ joined → IsFrontOrBehind first joined rest f j
  behind : IsPacketOf rest f j → IsFrontOrBehind first joined rest f j

which : (first : InstrWord) (joined rest : List InstrWord) (f : InstrWord) (j : List InstrWord) → AreJoined joined → IsApart rest → IsPacketOf (first ∷ (joined ++ rest)) f j → IsFrontOrBehind first joined rest f j
which first joined rest f j joins ends packet = by packet.above packet.split
  where
    by : (above : List InstrWord) → first ∷ (joined ++ rest) ≡ above ++ f ∷ (j ++ packet.below) → IsFrontOrBehind first joined rest f j
    by [] is = at_front (sym (head_same first f (joined ++ rest) (j ++ packet.below) is)) (sym (same_joined joined j rest packet.below joins packet.joins ends packet.closes (tail_same first f (joined ++ rest) (j ++ packet.below) is)))
    by (a ∷ above) is =
        let further = behind_joined above joined f (j ++ packet.below) rest joins packet.opens (tail_same first a (joined ++ rest) (above ++ f ∷ (j ++ packet.below)) is) in
        behind (record { above = further.above; below = packet.below; split = further.split; opens = packet.opens; joins = packet.joins; closes = packet.closes })

-- a packet further down
packet_behind : (front rest : List InstrWord) (f : InstrWord) (j : List InstrWord) → IsPacketOf rest f j → IsPacketOf (front ++ rest) f j
packet_behind front rest f j packet = record {
  above = front ++ packet.above;
  below = packet.below;
  split = ap (λ is. front ++ is) packet.split ∙ sym (append_assoc front packet.above (f ∷ (j ++ packet.below)));
  opens = packet.opens;
  joins = packet.joins;
  closes = packet.closes;
}

broken_behind : (front rest : List InstrWord) (line : ℕ) → IsBroken rest line → IsBroken (front ++ rest) line
broken_behind front rest line is = record { first = is.first; joined = is.joined; packet = packet_behind front rest is.first is.joined is.packet; breaks = is.breaks; begins = is.begins }

-- the packet at the front is broken: it is the first
broken_front : (first : InstrWord) (joined rest : List InstrWord) → first.chained ≡ false → AreJoined joined → IsApart rest → AreFrom first.line (joined ++ rest) → is_packet (words_of (first ∷ joined)) ≡ false → IsFirstBroken (first ∷ (joined ++ rest)) (Some first.line)
broken_front first joined rest opens joins ends are breaks =
    (record { first = first; joined = joined; packet = front_packet first joined rest opens joins ends; breaks = breaks; begins = refl }, λ other is. by other is (which first joined rest is.first is.joined joins ends is.packet))
  where
    by : (other : ℕ) (is : IsBroken (first ∷ (joined ++ rest)) other) → IsFrontOrBehind first joined rest is.first is.joined → first.line ≤ other
    by other is (at_front same all) = let line = ap (λ (i : InstrWord). i.line) same in let begins = is.begins in omega arith
    by other is (behind packet) =
        let further : AreFrom first.line (packet.above ++ is.first ∷ (is.joined ++ packet.below)) = subst (AreFrom first.line) packet.split (from_behind first.line joined rest are) in
        let line = from_each first.line packet.above is.first (is.joined ++ packet.below) further in
        let begins = is.begins in
        omega arith

-- the packet at the front is none of the broken ones
whole_front : (first : InstrWord) (joined rest : List InstrWord) (o : Option ℕ) → AreJoined joined → IsApart rest → is_packet (words_of (first ∷ joined)) ≡ true → IsFirstBroken rest o → IsFirstBroken (first ∷ (joined ++ rest)) o
whole_front first joined rest o joins ends whole further = by o further
  where
    later : (other : ℕ) (is : IsBroken (first ∷ (joined ++ rest)) other) → IsFrontOrBehind first joined rest is.first is.joined → IsBroken rest other
    later other is (at_front same all) =
        absurd (true≢false (sym whole ∙ sym (ap (λ f. is_packet (words_of (f ∷ is.joined))) same ∙ ap (λ j. is_packet (words_of (first ∷ j))) all) ∙ is.breaks))
    later other is (behind packet) = record { first = is.first; joined = is.joined; packet = packet; breaks = is.breaks; begins = is.begins }

    by : (o : Option ℕ) → IsFirstBroken rest o → IsFirstBroken (first ∷ (joined ++ rest)) o
    by None none = λ line is. none line (later line is (which first joined rest is.first is.joined joins ends is.packet))
    by (Some line) some = (broken_behind (first ∷ joined) rest line some.0, λ other is. some.1 other (later other is (which first joined rest is.first is.joined joins ends is.packet)))

-- the packet `first ∷ joined` is open, and these instructions follow
from_open : (first : InstrWord) (joined rest : List InstrWord) → first.chained ≡ false → AreJoined joined → AreFrom first.line (joined ++ rest) → IsFirstBroken (first ∷ (joined ++ rest)) (bad_from first.line (words_of (first ∷ joined)) rest)
from_open first joined [] opens joins are = by (is_packet (words_of (first ∷ joined))) refl
  where
    none : (line : ℕ) → IsBroken [] line → ⊥
    none line is = never is.packet.above is.packet.split
      where
        never : (above : List InstrWord) → [] ≡ above ++ is.first ∷ (is.joined ++ is.packet.below) → ⊥
        never [] is = cc
        never (a ∷ above) is = cc

    by : (b : Bool) → is_packet (words_of (first ∷ joined)) ≡ b → IsFirstBroken (first ∷ (joined ++ [])) (if b then None else Some first.line)
    by true whole = whole_front first joined [] None joins tt whole none
    by false breaks = broken_front first joined [] opens joins tt are breaks
from_open first joined (i ∷ rest) opens joins are =
    by i.chained refl (is_packet (words_of (first ∷ joined))) refl
    (λ chained. from_open first (joined ++ i ∷ []) rest opens (joined_push joined i joins chained) (subst (AreFrom first.line) (sym (append_assoc joined (i ∷ []) rest)) are))
    (λ plain. from_open i [] rest plain tt (from_behind first.line joined (i ∷ rest) are).1)
  where
    by : (c : Bool) → i.chained ≡ c → (b : Bool) → is_packet (words_of (first ∷ joined)) ≡ b → (i.chained ≡ true → IsFirstBroken (first ∷ ((joined ++ i ∷ []) ++ rest)) (bad_from first.line (words_of (first ∷ (joined ++ i ∷ []))) rest)) → (i.chained ≡ false → IsFirstBroken (i ∷ rest) (bad_from i.line (i.word ∷ []) rest)) → IsFirstBroken (first ∷ (joined ++ i ∷ rest)) (if not c && not b then Some first.line else bad_from (if c then first.line else i.line) (joined_to c (words_of (first ∷ joined)) i.word) rest)
    by true chained b whole further begun =
        subst (λ is. IsFirstBroken (first ∷ is) (bad_from first.line (words_of (first ∷ joined) ++ i.word ∷ []) rest)) (append_assoc joined (i ∷ []) rest)
        (subst (λ ws. IsFirstBroken (first ∷ ((joined ++ i ∷ []) ++ rest)) (bad_from first.line ws rest)) (words_push (first ∷ joined) i) (further chained))
    by false plain true whole further begun = whole_front first joined (i ∷ rest) (bad_from i.line (i.word ∷ []) rest) joins plain whole (begun plain)
    by false plain false breaks further begun = broken_front first joined (i ∷ rest) opens joins plain are breaks

-- the first broken packet of instructions, of which the first has no `||`
pub first_is_broken : (line : ℕ) (instructions : List InstrWord) → IsApart instructions → AreFrom line instructions → IsFirstBroken instructions (first_bad instructions)
unfolding first_bad is_packet
first_is_broken line [] apart are = λ other is. never is.first is.joined is.packet.above is.packet.below is.packet.split
  where
    never : (f : InstrWord) (j above below : List InstrWord) → [] ≡ above ++ f ∷ (j ++ below) → ⊥
    never f j [] below is = cc
    never f j (a ∷ above) below is = cc
first_is_broken line (i ∷ rest) apart are =
    subst (λ c. IsFirstBroken (i ∷ rest) (if not c && not (is_packet []) then Some 0 else bad_from (if c then 0 else i.line) (joined_to c [] i.word) rest)) (sym apart) (from_open i [] rest apart tt are.1)
