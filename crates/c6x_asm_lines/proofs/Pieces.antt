-- Operands one behind the other, up to each comma.
use Rattle.std.proofs.Common.{◌≡◌, ℕ, suc, ◌+◌, ◌<◌, ◌≤◌, Bool, true, false, cond, not, List, [], ◌∷◌, ◌++◌, length, take, drop, Option, Some, None, refl, sym, ◌∙◌, ap, arith, ◌⊎◌, inl, inr}
use Rattle.std.proofs.lemmas.Bool.{cases_lt}
use Rattle.std.proofs.lemmas.List.{append_assoc, take_all, length-drop, drop-drop}
use Rattle.std.proofs.lemmas.List.Splits.{slice_split_first}
use Rattle.std.specs.List.{slice_split, position_or_len, onto_first}
use Rattle.c6x_asm_lines.specs.declared.lexeme.Lexeme.{Lexeme}
use Rattle.c6x_asm_lines.specs.declared.operand.Operand.{Operand}
use Rattle.c6x_asm_lines.specs.Grammar.{is_comma, whole_operand, all_operands, operands_of}
use Rattle.c6x_spec.specs.Options.{◌>>=◌}

abbrev pub behind : List Operand → Option (List Operand) → Option (List Operand)
behind done None = None
behind done (Some more) = Some (done ++ more)

behind_more : (done : List Operand) (o : Operand) (more : Option (List Operand)) → behind done (more >>= λ os. Some (o ∷ os)) ≡ behind (done ++ o ∷ []) more
behind_more done o None = refl
behind_more done o (Some os) = ap (λ xs. Some xs) (sym (append_assoc done (o ∷ []) os))

-- with no comma there is one piece
one_piece : (xs : List Lexeme) → position_or_len is_comma xs ≡ length xs → slice_split is_comma xs ≡ xs ∷ []
one_piece [] none = refl
one_piece (x ∷ xs) none = either (one_piece xs) (is_comma x) refl none
  where
    either : (position_or_len is_comma xs ≡ length xs → slice_split is_comma xs ≡ xs ∷ []) → (b : Bool) → is_comma x ≡ b → cond (not b) (1 + position_or_len is_comma xs) 0 ≡ suc (length xs) → cond b ([] ∷ slice_split is_comma xs) (onto_first x (slice_split is_comma xs)) ≡ (x ∷ xs) ∷ []
    either before true is place = absurd (omega arith)
    either before false is place = rw (before (omega arith)) refl

pub begins : (xs : List Lexeme) → 0 < length xs → behind [] (all_operands (slice_split is_comma xs)) ≡ operands_of xs
unfolding operands_of
begins [] some = absurd (omega arith)
begins (x ∷ xs) some = no_more (all_operands (slice_split is_comma (x ∷ xs)))
  where
    no_more : (o : Option (List Operand)) → behind [] o ≡ o
    no_more None = refl
    no_more (Some os) = refl

pub none : (xs : List Lexeme) → length xs ≡ 0 → operands_of xs ≡ Some []
unfolding operands_of
none [] empty = refl
none (x ∷ xs) empty = absurd (omega arith)

first_piece : (rest : List Lexeme) (d : Lexeme) → position_or_len is_comma rest < length rest → slice_split is_comma rest ≡ take (position_or_len is_comma rest) rest ∷ slice_split is_comma (drop (position_or_len is_comma rest + 1) rest)
first_piece rest d inside = slice_split_first is_comma rest d inside

pub goes_on : (rest : List Lexeme) (done : List Operand) (o : Operand) (n : ℕ) → n ≡ position_or_len is_comma rest → n < length rest → whole_operand (take n rest) ≡ Some o → behind done (all_operands (slice_split is_comma rest)) ≡ behind (done ++ o ∷ []) (all_operands (slice_split is_comma (drop (n + 1) rest)))
goes_on [] done o n place inside is = absurd (omega arith)
goes_on (x ∷ xs) done o n place inside is =
    let here : whole_operand (take (position_or_len is_comma (x ∷ xs)) (x ∷ xs)) ≡ Some o = rw place at is in
    rw (place, first_piece (x ∷ xs) x (rw place at inside), here) (behind_more done o (all_operands (slice_split is_comma (drop (position_or_len is_comma (x ∷ xs) + 1) (x ∷ xs)))))

pub ends : (rest : List Lexeme) (done : List Operand) (o : Operand) (n : ℕ) → n ≡ position_or_len is_comma rest → n ≡ length rest → whole_operand (take n rest) ≡ Some o → behind done (all_operands (slice_split is_comma rest)) ≡ Some (done ++ o ∷ [])
ends rest done o n place end is =
    let whole : take n rest ≡ rest = take_all n rest (omega arith) in
    let here : whole_operand rest ≡ Some o = ap whole_operand (sym whole) ∙ is in
    rw (one_piece rest (sym place ∙ end), here) refl

pub fails : (rest : List Lexeme) (done : List Operand) (n : ℕ) → n ≡ position_or_len is_comma rest → n ≤ length rest → whole_operand (take n rest) ≡ None → behind done (all_operands (slice_split is_comma rest)) ≡ None
fails [] done n place within is =
    let here : whole_operand [] ≡ None = ap whole_operand (sym (take_all n [] (omega arith))) ∙ is in
    rw here refl
fails (x ∷ xs) done n place within is = either (cases_lt (position_or_len is_comma (x ∷ xs)) (length (x ∷ xs)))
  where
    either : (position_or_len is_comma (x ∷ xs) < length (x ∷ xs)) ⊎ (length (x ∷ xs) ≤ position_or_len is_comma (x ∷ xs)) → behind done (all_operands (slice_split is_comma (x ∷ xs))) ≡ None
    either (inl inside) =
        let here : whole_operand (take (position_or_len is_comma (x ∷ xs)) (x ∷ xs)) ≡ None = rw place at is in
        rw (first_piece (x ∷ xs) x inside, here) refl
    either (inr past) =
        let here : whole_operand (x ∷ xs) ≡ None = ap whole_operand (sym (take_all n (x ∷ xs) (omega arith))) ∙ is in
        rw (one_piece (x ∷ xs) (omega arith), here) refl

pub goes_on_at : (xs : List Lexeme) (from : ℕ) (done : List Operand) (o : Operand) (n : ℕ) → n ≡ position_or_len is_comma (drop from xs) → from + n < length xs → whole_operand (take n (drop from xs)) ≡ Some o → behind done (all_operands (slice_split is_comma (drop from xs))) ≡ behind (done ++ o ∷ []) (all_operands (slice_split is_comma (drop (from + (n + 1)) xs)))
goes_on_at xs from done o n place inside is =
    let within : n < length (drop from xs) = omega (arith, length-drop from xs) in
    goes_on (drop from xs) done o n place within is ∙ ap (λ ys. behind (done ++ o ∷ []) (all_operands (slice_split is_comma ys))) (drop-drop (n + 1) from xs)

pub ends_at : (xs : List Lexeme) (from : ℕ) (done : List Operand) (o : Operand) (n : ℕ) → n ≡ position_or_len is_comma (drop from xs) → from + n ≡ length xs → whole_operand (take n (drop from xs)) ≡ Some o → behind done (all_operands (slice_split is_comma (drop from xs))) ≡ Some (done ++ o ∷ [])
ends_at xs from done o n place end is = ends (drop from xs) done o n place (omega (arith, length-drop from xs)) is

pub fails_at : (xs : List Lexeme) (from : ℕ) (done : List Operand) (n : ℕ) → n ≡ position_or_len is_comma (drop from xs) → from + n ≤ length xs → whole_operand (take n (drop from xs)) ≡ None → behind done (all_operands (slice_split is_comma (drop from xs))) ≡ None
fails_at xs from done n place within is = fails (drop from xs) done n place (omega (arith, length-drop from xs)) is
