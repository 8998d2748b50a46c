-- What the longest token is, by the class of its first byte.
use Rattle.std.proofs.Common.{◌≡◌, ℕ, suc, zero, ◌+◌, ◌<◌, ◌≤◌, Bool, true, false, cond, ◌⊎◌, inl, inr, ◌≢◌, ◌&&◌, eqb, List, [], ◌∷◌, length, take, get_or, Option, Some, None, refl, sym, ◌∙◌, ap, subst, arith, ⊎_elim, eq-eqb, ltb}
use Rattle.std.proofs.lemmas.Bool.{eqb-true, ne_eqb, lt-ltb, and_left, and_right, cases_eq, cases_lt, false≢true}
use Rattle.std.proofs.lemmas.List.{length-take-le, get_or-take, get_or_past}
use Rattle.std.proofs.lemmas.List.Sums.{prefix_len-le-length, prefix_len_stops, prefix_len_passes, prefix_len_is}
use Rattle.std.proofs.lemmas.List.Folds.{list_all_at}
use Rattle.std.specs.List.{list_all, prefix_len}
use Rattle.c6x_lex.specs.declared.kind.TokenKind.{TokenKind}
use Rattle.c6x_lex.specs.declared.kind.TokenKind.TheVariants.{Word, Number, Text, Punctuator, NewLine}
use Rattle.c6x_lex.specs.declared.cut.Piece.{Piece}
use Rattle.c6x_lex.specs.Forms.{form_after, starts_word, continues_word, is_digit, is_hex_digit, ends_hex, ends_text, is_in_text, is_only, is_empty, is_punctuator, kind_if}
use Rattle.c6x_lex.specs.Classes.{begins_with, hex_len}
use Rattle.c6x_lex.specs.Tokens.{longest_within, longest_token}

abbrev pub some_token : TokenKind → ℕ → Option Piece
some_token kind n = Some (record { kind = Some kind; len = n })

within-is : (b : ℕ) (bs : List ℕ) (k : TokenKind) (n most : ℕ) → n < most → form_after b (take n bs) ≡ Some k → ((m : ℕ) → n < m → m < most → form_after b (take m bs) ≡ None) → longest_within most (b ∷ bs) ≡ some_token k (suc n)
within-is b bs k n zero lt is past = absurd (omega arith)
within-is b bs k n (suc most) lt is past =
    ⊎_elim
    (λ same. let P : ℕ → Type 0 = λ j. longest_within (suc j) (b ∷ bs) ≡ some_token k (suc n) in subst P same (rw is refl))
    (λ differs.
    let below : n < most = omega arith in
    let longer : form_after b (take most bs) ≡ None = past most below (omega arith) in
    rw longer (within-is b bs k n most below is (λ m over under. past m over (omega arith))))
    (cases_eq n most)

within-none : (b : ℕ) (bs : List ℕ) (most : ℕ) → ((m : ℕ) → m < most → form_after b (take m bs) ≡ None) → longest_within most (b ∷ bs) ≡ None
within-none b bs zero fails = refl
within-none b bs (suc most) fails =
    let here : form_after b (take most bs) ≡ None = fails most (omega arith) in
    rw here (within-none b bs most (λ m under. fails m (omega arith)))

pub longest-is : (b : ℕ) (bs : List ℕ) (k : TokenKind) (n : ℕ) → n ≤ length bs → form_after b (take n bs) ≡ Some k → ((m : ℕ) → n < m → m ≤ length bs → form_after b (take m bs) ≡ None) → longest_token (b ∷ bs) ≡ some_token k (1 + n)
unfolding longest_token
longest-is b bs k n within is past =
    let e : 1 + n ≡ suc n = omega arith in
    rw e (within-is b bs k n (suc (length bs)) (omega arith) is (λ m over under. past m over (omega arith)))

pub longest-none : (b : ℕ) (bs : List ℕ) → ((m : ℕ) → m ≤ length bs → form_after b (take m bs) ≡ None) → longest_token (b ∷ bs) ≡ None
unfolding longest_token
longest-none b bs fails = within-none b bs (suc (length bs)) (λ m under. fails m (omega arith))

front_step : (p : ℕ → Bool) (x : ℕ) (xs : List ℕ) (b : Bool) → p x ≡ b → list_all p (take (prefix_len p xs) xs) ≡ true → list_all p (take (cond b (1 + prefix_len p xs) 0) (x ∷ xs)) ≡ true
front_step p x xs false is h = refl
front_step p x xs true is h = let e : 1 + prefix_len p xs ≡ suc (prefix_len p xs) = omega arith in rw (e, is) h

pub all-front : (p : ℕ → Bool) (xs : List ℕ) → list_all p (take (prefix_len p xs) xs) ≡ true
all-front p [] = refl
all-front p (x ∷ xs) = front_step p x xs (p x) refl (all-front p xs)

pub all-past : (p : ℕ → Bool) (xs : List ℕ) (m : ℕ) → prefix_len p xs < m → m ≤ length xs → list_all p (take m xs) ≡ false
all-past p xs m over within =
    let at : prefix_len p xs < length (take m xs) = omega (arith, length-take-le m xs within) in
    list_all_at p (take m xs) (prefix_len p xs) 0 at (rw (get_or-take m xs (prefix_len p xs) 0 over) (prefix_len_stops p xs 0 (omega arith)))

pub longest_word : (b : ℕ) (bs : List ℕ) → starts_word b ≡ true → longest_token (b ∷ bs) ≡ some_token Word (1 + prefix_len continues_word bs)
unfolding form_after
longest_word b bs starts =
    longest-is b bs Word (prefix_len continues_word bs) (prefix_len-le-length continues_word bs)
    (rw (starts, all-front continues_word bs) refl)
    (λ m over within. let fails : list_all continues_word (take m bs) ≡ false = all-past continues_word bs m over within in rw (starts, fails) refl)

-- past the digits that stand behind an `x`, or anywhere where there are none, nothing ends a number
hex_past : (x : ℕ) (ds : List ℕ) (m : ℕ) (b : Bool) → eqb x 120 ≡ b → cond b (prefix_len is_hex_digit ds) 0 < m ⊎ (m ≡ 0) → m ≤ length ds → (eqb x 120 && (ltb 0 (length (take m ds)) && list_all is_hex_digit (take m ds))) ≡ false
hex_past x ds m false is over within = rw is refl
hex_past x ds m true is over within =
    ⊎_elim
    (λ past. let fails : list_all is_hex_digit (take m ds) ≡ false = all-past is_hex_digit ds m past within in
    and_right (eqb x 120) _ (and_right (ltb 0 (length (take m ds))) _ fails))
    (λ none. rw none (and_right (eqb x 120) _ refl))
    over

pub ends_hex_past : (bs : List ℕ) (m : ℕ) → (hex_len bs ≡ 0) ⊎ (1 + hex_len bs < m) → m ≤ length bs → ends_hex (take m bs) ≡ false
ends_hex_past bs zero over within = refl
ends_hex_past [] (suc m) over within = refl
ends_hex_past (x ∷ ds) (suc m) over within =
    hex_past x ds m (eqb x 120) refl
    (⊎_elim
    (λ none. ⊎_elim (λ zero_is. inr zero_is) (λ more. inl (omega arith)) (cases_eq m 0))
    (λ past. inl (omega arith))
    over)
    (omega arith)

hex_front : (x : ℕ) (ds : List ℕ) (b : Bool) → eqb x 120 ≡ b → 0 < cond b (prefix_len is_hex_digit ds) 0 → ends_hex (take (1 + cond b (prefix_len is_hex_digit ds) 0) (x ∷ ds)) ≡ true
hex_front x ds false is some = absurd (omega arith)
hex_front x ds true is some =
    let e : 1 + prefix_len is_hex_digit ds ≡ suc (prefix_len is_hex_digit ds) = omega arith in
    let long : length (take (prefix_len is_hex_digit ds) ds) ≡ prefix_len is_hex_digit ds = length-take-le (prefix_len is_hex_digit ds) ds (prefix_len-le-length is_hex_digit ds) in
    rw (e, is, long, all-front is_hex_digit ds, lt-ltb 0 (prefix_len is_hex_digit ds) some) refl

pub ends_hex_front : (bs : List ℕ) → 0 < hex_len bs → ends_hex (take (1 + hex_len bs) bs) ≡ true
ends_hex_front [] some = absurd (omega arith)
ends_hex_front (x ∷ ds) some = hex_front x ds (eqb x 120) refl some

-- an `x` is no digit
hex_no_digits : (x : ℕ) (ds : List ℕ) (m : ℕ) (b : Bool) → eqb x 120 ≡ b → 0 < cond b (prefix_len is_hex_digit ds) 0 → list_all is_digit (take (suc m) (x ∷ ds)) ≡ false
hex_no_digits x ds m false is some = absurd (omega arith)
hex_no_digits x ds m true is some = let e : x ≡ 120 = eqb-true x 120 is in rw e refl

pub no_digits : (bs : List ℕ) (m : ℕ) → 0 < hex_len bs → 0 < m → list_all is_digit (take m bs) ≡ false
no_digits bs zero some more = absurd (omega arith)
no_digits [] (suc m) some more = absurd (omega arith)
no_digits (x ∷ ds) (suc m) some more = hex_no_digits x ds m (eqb x 120) refl some

pub longest_hex : (b : ℕ) (bs : List ℕ) → starts_word b ≡ false → is_digit b ≡ true → b ≡ 48 → 0 < hex_len bs → longest_token (b ∷ bs) ≡ some_token Number (1 + (1 + hex_len bs))
unfolding form_after
longest_hex b bs other digit nought some =
    longest-is b bs Number (1 + hex_len bs) (hex_len_within bs some)
    (let none : list_all is_digit (take (1 + hex_len bs) bs) ≡ false = no_digits bs (1 + hex_len bs) some (omega arith) in
    rw (other, digit, none, ends_hex_front bs some, eq-eqb b 48 nought) refl)
    (λ m over within.
    let none : list_all is_digit (take m bs) ≡ false = no_digits bs m some (omega arith) in
    let ends : ends_hex (take m bs) ≡ false = ends_hex_past bs m (inr over) within in
    rw (other, digit, none, ends, eq-eqb b 48 nought) refl)
  where
    hex_len_within : (bs : List ℕ) → 0 < hex_len bs → 1 + hex_len bs ≤ length bs
    hex_len_within [] some = absurd (omega arith)
    hex_len_within (x ∷ ds) some = within_at x ds (eqb x 120) some
      where
        within_at : (x : ℕ) (ds : List ℕ) (b : Bool) → 0 < cond b (prefix_len is_hex_digit ds) 0 → 1 + cond b (prefix_len is_hex_digit ds) 0 ≤ suc (length ds)
        within_at x ds false some = omega arith
        within_at x ds true some = omega (arith, prefix_len-le-length is_hex_digit ds)

pub longest_decimal : (b : ℕ) (bs : List ℕ) → starts_word b ≡ false → is_digit b ≡ true → (b ≢ 48) ⊎ (hex_len bs ≡ 0) → longest_token (b ∷ bs) ≡ some_token Number (1 + prefix_len is_digit bs)
unfolding form_after
longest_decimal b bs other digit plain =
    longest-is b bs Number (prefix_len is_digit bs) (prefix_len-le-length is_digit bs)
    (rw (other, digit, all-front is_digit bs) refl)
    (λ m over within.
    let fails : list_all is_digit (take m bs) ≡ false = all-past is_digit bs m over within in
    rw (other, digit, fails) (ap (λ v. kind_if Number v)
    (⊎_elim (λ apart. and_left (eqb b 48) (ends_hex (take m bs)) (ne_eqb b 48 apart)) (λ none. and_right (eqb b 48) (ends_hex (take m bs)) (ends_hex_past bs m (inl none) within)) plain)))

prefix_take : (p : ℕ → Bool) (xs : List ℕ) (m n : ℕ) → m ≤ length xs → n ≤ m → n ≤ prefix_len p xs → (n < m → n ≡ prefix_len p xs) → prefix_len p (take m xs) ≡ n
prefix_take p xs m n within few passes stops =
    let long : length (take m xs) ≡ m = length-take-le m xs within in
    prefix_len_is p (take m xs) n 0 (omega arith)
    (λ k below. let k_in : k < m = omega arith in rw (get_or-take m xs k 0 k_in) (prefix_len_passes p xs k 0 (omega arith)))
    (λ more.
    let n_in : n < m = omega arith in
    let last : n ≡ prefix_len p xs = stops n_in in
    rw (get_or-take m xs n 0 n_in) (rw last (prefix_len_stops p xs 0 (omega arith))))

-- the bytes end a text exactly where they end behind its first quote
pub ends_text_past : (bs : List ℕ) (m : ℕ) → m ≤ length bs → (m ≢ prefix_len is_in_text bs + 1) ⊎ (get_or bs (prefix_len is_in_text bs) 0 ≢ 34) → ends_text (take m bs) ≡ false
ends_text_past bs m within wrong =
    let long : length (take m bs) ≡ m = length-take-le m bs within in
    ⊎_elim
    (λ past.
    let n : prefix_len is_in_text (take m bs) ≡ prefix_len is_in_text bs = prefix_take is_in_text bs m (prefix_len is_in_text bs) within (omega arith) (omega arith) (λ h. refl) in
    rw (n, long, get_or-take m bs (prefix_len is_in_text bs) 0 past)
    (⊎_elim
    (λ apart. and_left (eqb (prefix_len is_in_text bs + 1) m) _ (ne_eqb _ _ (λ e. apart (sym e))))
    (λ open_text. and_right (eqb (prefix_len is_in_text bs + 1) m) _ (ne_eqb _ _ open_text))
    wrong))
    (λ short.
    let n : prefix_len is_in_text (take m bs) ≡ m = prefix_take is_in_text bs m m within (omega arith) short (λ h. absurd (omega arith)) in
    rw (n, long) (and_left (eqb (m + 1) m) _ (ne_eqb (m + 1) m (λ e. omega arith))))
    (cases_lt (prefix_len is_in_text bs) m)

pub ends_text_front : (bs : List ℕ) → prefix_len is_in_text bs < length bs → get_or bs (prefix_len is_in_text bs) 0 ≡ 34 → ends_text (take (prefix_len is_in_text bs + 1) bs) ≡ true
ends_text_front bs inside quote =
    let within : prefix_len is_in_text bs + 1 ≤ length bs = omega arith in
    let long : length (take (prefix_len is_in_text bs + 1) bs) ≡ prefix_len is_in_text bs + 1 = length-take-le (prefix_len is_in_text bs + 1) bs within in
    let n : prefix_len is_in_text (take (prefix_len is_in_text bs + 1) bs) ≡ prefix_len is_in_text bs = prefix_take is_in_text bs (prefix_len is_in_text bs + 1) (prefix_len is_in_text bs) within (omega arith) (omega arith) (λ h. refl) in
    let below : prefix_len is_in_text bs < prefix_len is_in_text bs + 1 = omega arith in
    rw (n, long, get_or-take (prefix_len is_in_text bs + 1) bs (prefix_len is_in_text bs) 0 below, eq-eqb _ _ quote, eq-eqb (prefix_len is_in_text bs + 1) _ refl) refl

form_text : (bs : List ℕ) (m : ℕ) (t : Bool) → ends_text (take m bs) ≡ t → form_after 34 (take m bs) ≡ kind_if Text t
unfolding form_after
form_text bs m t is = ap (λ v. kind_if Text v) is

pub longest_text : (b : ℕ) (bs : List ℕ) → b ≡ 34 → prefix_len is_in_text bs < length bs → get_or bs (prefix_len is_in_text bs) 0 ≡ 34 → longest_token (b ∷ bs) ≡ some_token Text (1 + (prefix_len is_in_text bs + 1))
longest_text b bs is inside quote = rw is (longest-is 34 bs Text (prefix_len is_in_text bs + 1) (omega arith)
    (form_text bs (prefix_len is_in_text bs + 1) true (ends_text_front bs inside quote))
    (λ m over within. form_text bs m false (ends_text_past bs m within (inl (λ e. omega arith)))))

-- a text that a newline or the end stops before its quote is no token
pub no_text : (b : ℕ) (bs : List ℕ) → b ≡ 34 → get_or bs (prefix_len is_in_text bs) 0 ≢ 34 → longest_token (b ∷ bs) ≡ None
no_text b bs is open_text = rw is (longest-none 34 bs (λ m within. form_text bs m false (ends_text_past bs m within (inr open_text))))

pub no_text_end : (b : ℕ) (bs : List ℕ) → b ≡ 34 → prefix_len is_in_text bs ≡ length bs → longest_token (b ∷ bs) ≡ None
no_text_end b bs is end = no_text b bs is (λ quote. let past : get_or bs (prefix_len is_in_text bs) 0 ≡ 0 = get_or_past bs (prefix_len is_in_text bs) 0 (omega arith) in omega arith)

-- one byte makes this token, and nothing longer does
alone : (b : ℕ) (bs : List ℕ) (k : TokenKind) → ((xs : List ℕ) → form_after b xs ≡ kind_if k (is_empty xs)) → longest_token (b ∷ bs) ≡ some_token k 1
alone b bs k forms = longest-is b bs k 0 (omega arith) (forms []) (λ m over within. forms (take m bs) ∙ ap (λ v. kind_if k v) (some_bytes bs m over within))
  where
    some_bytes : (bs : List ℕ) (m : ℕ) → 0 < m → m ≤ length bs → is_empty (take m bs) ≡ false
    some_bytes bs zero over within = absurd (omega arith)
    some_bytes [] (suc m) over within = absurd (omega arith)
    some_bytes (x ∷ xs) (suc m) over within = refl

only_past : (c : ℕ) (bs : List ℕ) (m : ℕ) → m ≤ length bs → (m ≢ 1) ⊎ (begins_with c bs ≡ false) → is_only c (take m bs) ≡ false
only_past c bs zero within wrong = refl
only_past c [] (suc m) within wrong = refl
only_past c (x ∷ xs) (suc zero) within wrong = ⊎_elim (λ apart. absurd (apart refl)) (λ other. rw other refl) wrong
only_past c (x ∷ []) (suc (suc m)) within wrong = absurd (omega arith)
only_past c (x ∷ y ∷ ys) (suc (suc m)) within wrong = and_right (eqb x c) false refl

-- two bytes make this token
pair : (b c : ℕ) (bs : List ℕ) (k : TokenKind) → ((xs : List ℕ) → form_after b xs ≡ kind_if k (is_only c xs)) → begins_with c bs ≡ true → longest_token (b ∷ bs) ≡ some_token k 2
pair b c [] k forms follows = absurd (false≢true follows)
pair b c (x ∷ xs) k forms follows =
    let both : is_only c (x ∷ []) ≡ true = rw follows refl in
    longest-is b (x ∷ xs) k 1 (omega arith)
    (forms (x ∷ []) ∙ ap (λ v. kind_if k v) both)
    (λ m over within. forms (take m (x ∷ xs)) ∙ ap (λ v. kind_if k v) (only_past c (x ∷ xs) m within (inl (λ e. omega arith))))

no_pair : (b c : ℕ) (bs : List ℕ) (k : TokenKind) → ((xs : List ℕ) → form_after b xs ≡ kind_if k (is_only c xs)) → begins_with c bs ≡ false → longest_token (b ∷ bs) ≡ None
no_pair b c bs k forms other = longest-none b bs (λ m within. forms (take m bs) ∙ ap (λ v. kind_if k v) (only_past c bs m within (inr other)))

newline_form : (xs : List ℕ) → form_after 10 xs ≡ kind_if NewLine (is_empty xs)
unfolding form_after
newline_form xs = refl

return_form : (xs : List ℕ) → form_after 13 xs ≡ kind_if NewLine (is_only 10 xs)
unfolding form_after
return_form xs = refl

bar_form : (xs : List ℕ) → form_after 124 xs ≡ kind_if Punctuator (is_only 124 xs)
unfolding form_after
bar_form xs = refl

pub longest_newline : (b : ℕ) (bs : List ℕ) → b ≡ 10 → longest_token (b ∷ bs) ≡ some_token NewLine 1
longest_newline b bs is = rw is (alone 10 bs NewLine newline_form)

pub longest_return : (b : ℕ) (bs : List ℕ) → b ≡ 13 → begins_with 10 bs ≡ true → longest_token (b ∷ bs) ≡ some_token NewLine 2
longest_return b bs is follows = rw is (pair 13 10 bs NewLine return_form follows)

pub no_return : (b : ℕ) (bs : List ℕ) → b ≡ 13 → begins_with 10 bs ≡ false → longest_token (b ∷ bs) ≡ None
no_return b bs is other = rw is (no_pair 13 10 bs NewLine return_form other)

pub longest_bar : (b : ℕ) (bs : List ℕ) → b ≡ 124 → begins_with 124 bs ≡ true → longest_token (b ∷ bs) ≡ some_token Punctuator 2
longest_bar b bs is follows = rw is (pair 124 124 bs Punctuator bar_form follows)

pub no_bar : (b : ℕ) (bs : List ℕ) → b ≡ 124 → begins_with 124 bs ≡ false → longest_token (b ∷ bs) ≡ None
no_bar b bs is other = rw is (no_pair 124 124 bs Punctuator bar_form other)

other_form : (b : ℕ) (t : Bool) → starts_word b ≡ false → is_digit b ≡ false → b ≢ 34 → b ≢ 10 → b ≢ 13 → b ≢ 124 → is_punctuator b ≡ t → (xs : List ℕ) → form_after b xs ≡ kind_if Punctuator (t && is_empty xs)
unfolding form_after
other_form b t word digit quote newline return bar sign xs = rw (word, digit, ne_eqb b 34 quote, ne_eqb b 10 newline, ne_eqb b 13 return, ne_eqb b 124 bar, sign) refl

pub longest_sign : (b : ℕ) (bs : List ℕ) → starts_word b ≡ false → is_digit b ≡ false → b ≢ 34 → b ≢ 10 → b ≢ 13 → b ≢ 124 → is_punctuator b ≡ true → longest_token (b ∷ bs) ≡ some_token Punctuator 1
longest_sign b bs word digit quote newline return bar sign = alone b bs Punctuator (other_form b true word digit quote newline return bar sign)

pub no_sign : (b : ℕ) (bs : List ℕ) → starts_word b ≡ false → is_digit b ≡ false → b ≢ 34 → b ≢ 10 → b ≢ 13 → b ≢ 124 → is_punctuator b ≡ false → longest_token (b ∷ bs) ≡ None
no_sign b bs word digit quote newline return bar sign = longest-none b bs (λ m within. other_form b false word digit quote newline return bar sign (take m bs))
