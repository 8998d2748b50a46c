-- The tokens of a text lie inside it.
use Rattle.std.proofs.Common.{◌≡◌, ℕ, suc, zero, ◌+◌, ◌-◌, ◌<◌, ◌≤◌, List, [], ◌∷◌, length, take, drop, get_or, Some, None, arith, ⊎_elim}
use Rattle.std.proofs.lemmas.Bool.{cases_eq}
use Rattle.c6x_lex.specs.declared.token.Token.{Token}
use Rattle.c6x_lex.specs.Forms.{token_form}
use Rattle.c6x_lex.specs.Tokens.{AreSpans}

begins_inside : (text : List ℕ) (from : ℕ) (ts : List Token) → AreSpans text from ts → from ≤ length text
begins_inside text from [] spans = spans
begins_inside text from (t ∷ ts) spans =
    let rest : t.at + t.len ≤ length text = begins_inside text (t.at + t.len) ts spans.2 in
    omega (arith, spans.0)

some_bytes : (text : List ℕ) (t : Token) → token_form (take (t.at + t.len - t.at) (drop t.at text)) ≡ Some t.kind → 1 ≤ t.len
some_bytes text t form =
    ⊎_elim
    (λ none.
    let span : t.at + t.len - t.at ≡ 0 = omega arith in
    let empty : None ≡ Some t.kind = rw span at form in
    absurd (cc))
    (λ some. omega arith)
    (cases_eq t.len 0)

pub token_inside : (text : List ℕ) (ts : List Token) (from i : ℕ) (d : Token) → AreSpans text from ts → i < length ts → (get_or ts i d).at + (get_or ts i d).len ≤ length text
token_inside text [] from i d spans inside = absurd (omega arith)
token_inside text (t ∷ ts) from zero d spans inside = begins_inside text (t.at + t.len) ts spans.2
token_inside text (t ∷ ts) from (suc i) d spans inside = token_inside text ts (t.at + t.len) i d spans.2 (omega arith)

pub token_some : (text : List ℕ) (ts : List Token) (from i : ℕ) (d : Token) → AreSpans text from ts → i < length ts → 1 ≤ (get_or ts i d).len
token_some text [] from i d spans inside = absurd (omega arith)
token_some text (t ∷ ts) from zero d spans inside = some_bytes text t spans.1
token_some text (t ∷ ts) from (suc i) d spans inside = token_some text ts (t.at + t.len) i d spans.2 (omega arith)

pub front_spans : (text : List ℕ) (ts : List Token) (from n : ℕ) → AreSpans text from ts → AreSpans text from (take n ts)
front_spans text ts from zero spans = begins_inside text from ts spans
front_spans text [] from (suc n) spans = spans
front_spans text (t ∷ ts) from (suc n) spans = (spans.0, spans.1, front_spans text ts (t.at + t.len) n spans.2)
