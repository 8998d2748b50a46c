-- What a punctuator is not, and what ends a word or a number.
use Rattle.std.proofs.Common.{◌≡◌, ◌≢◌, ℕ, Bool, true, false, ◌&&◌, ◌||◌, not, eqb, eq-eqb, List, [], ◌∷◌, refl, sym, ◌∙◌, ap}
use Rattle.std.proofs.lemmas.Bool.{and_parts, eqb-true, true≢false}
use Rattle.std.specs.List.{prefix_len}
use Rattle.c6x_lex.specs.Classes.{hex_len}
use Rattle.c6x_lex.specs.Forms.{starts_word, continues_word, is_digit, is_punctuator, is_blank}
use Rattle.c6x_dis.specs.Atoms.{Atom, word, number, punctuator, space, bytes_of}
use Rattle.c6x_dis.specs.Pieces.{AreApart, is_end}

-- a punctuator of this byte is nothing else
is_sign : ℕ → Bool
is_sign b =
    not (starts_word b) && (not (is_digit b) && (not (eqb b 120) && (not (eqb b 59) && (not (is_blank b)
    && (not (eqb b 34) && (not (eqb b 10) && (not (eqb b 13) && not (eqb b 124))))))))

one : (b n : ℕ) (others : Bool) → (eqb b n || others) ≡ true → is_sign n ≡ true → (others ≡ true → is_sign b ≡ true) → is_sign b ≡ true
one b n others is here else_is = either (eqb b n) refl is
  where
    either : (t : Bool) → eqb b n ≡ t → (t || others) ≡ true → is_sign b ≡ true
    either true same is = ap is_sign (eqb-true b n same) ∙ here
    either false same is = else_is is

last : (b n : ℕ) → eqb b n ≡ true → is_sign n ≡ true → is_sign b ≡ true
last b n is here = ap is_sign (eqb-true b n is) ∙ here

sign : (b : ℕ) → is_punctuator b ≡ true → is_sign b ≡ true
unfolding is_sign
sign b is =
    one b 58 _ is refl (λ is. one b 44 _ is refl (λ is. one b 91 _ is refl (λ is. one b 93 _ is refl (λ is. one b 40 _ is refl
    (λ is. one b 41 _ is refl (λ is. one b 42 _ is refl (λ is. one b 43 _ is refl (λ is. one b 45 _ is refl
    (λ is. one b 33 _ is refl (λ is. last b 37 is refl))))))))))

none : (t : Bool) → not t ≡ true → t ≡ false
none true is = sym is
none false is = refl

differs : (b n : ℕ) → eqb b n ≡ false → b ≢ n
differs b n is same = true≢false (sym (eq-eqb b n same) ∙ is)

pub record IsSign (b : ℕ) : Type 0 where
  pub starts : starts_word b ≡ false
  pub digit : is_digit b ≡ false
  pub hex : eqb b 120 ≡ false
  pub comment : eqb b 59 ≡ false
  pub blank : is_blank b ≡ false
  pub quote : b ≢ 34
  pub line : b ≢ 10
  pub return : b ≢ 13
  pub bar : b ≢ 124

pub sign_is : (b : ℕ) → is_punctuator b ≡ true → IsSign b
unfolding is_sign
sign_is b is =
    let p0 = and_parts (not (starts_word b)) _ (sign b is) in
    let p1 = and_parts (not (is_digit b)) _ p0.1 in
    let p2 = and_parts (not (eqb b 120)) _ p1.1 in
    let p3 = and_parts (not (eqb b 59)) _ p2.1 in
    let p4 = and_parts (not (is_blank b)) _ p3.1 in
    let p5 = and_parts (not (eqb b 34)) _ p4.1 in
    let p6 = and_parts (not (eqb b 10)) _ p5.1 in
    let p7 = and_parts (not (eqb b 13)) (not (eqb b 124)) p6.1 in
    record {
      starts = none (starts_word b) p0.0;
      digit = none (is_digit b) p1.0;
      hex = none (eqb b 120) p2.0;
      comment = none (eqb b 59) p3.0;
      blank = none (is_blank b) p4.0;
      quote = differs b 34 (none (eqb b 34) p5.0);
      line = differs b 10 (none (eqb b 10) p6.0);
      return = differs b 13 (none (eqb b 13) p7.0);
      bar = differs b 124 (none (eqb b 124) p7.1);
    }

-- the bytes go on with no word, no digit and no hexadecimal digits
pub record Stops (rest : List ℕ) : Type 0 where
  pub word : prefix_len continues_word rest ≡ 0
  pub digit : prefix_len is_digit rest ≡ 0
  pub hex : hex_len rest ≡ 0

pub stops : (atoms : List Atom) → AreApart atoms → is_end atoms ≡ true → Stops (bytes_of atoms)
stops [] apart ends = record { word = refl; digit = refl; hex = refl }
stops (word bs ∷ atoms) apart ends = absurd (true≢false (sym ends))
stops (number bs ∷ atoms) apart ends = absurd (true≢false (sym ends))
stops (punctuator b ∷ atoms) apart ends =
    let s = sign_is b apart.0 in
    record { word = rw (s.starts, s.digit) refl; digit = rw s.digit refl; hex = rw s.hex refl }
stops (space ∷ atoms) apart ends = record { word = refl; digit = refl; hex = refl }
