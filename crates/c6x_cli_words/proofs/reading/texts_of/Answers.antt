use Rattle.std.proofs.Common.{rules, ◌≡◌, ◌∙◌, ap, get_or, map, sym}
use Rattle.c6x_cli_words.specs.Told.{is_known}
use Rattle.c6x_cli_words.proofs.Getters.{next_passes, next_text}
use Rattle.c6x_cli_words.proofs.Known.{is_word, not_a_word, not_known_word, not_text_word}
use Rattle.c6x_cli_words.proofs.reading.texts_of.Goals as goal

pub returns-in_default : goal.returns-in_default
returns-in_default c =
    let item : get_or c.args.words.now.items c.loop-word.word-index c.word-item.result ≡ c.word-item.result = search rules in
    not_a_word c.args.words.now.items c.loop-word.word-index c.word-item.result (search rules) (ap is_word (item ∙ sym c.as_bytes.ensures) ∙ not_text_word c.as_bytes.result.now c.in_default.ensures.cases.0)

pub returns-then-not-is_known : goal.returns-then-not-is_known
returns-then-not-is_known c =
    let item : get_or c.args.words.now.items c.loop-word.word-index c.word-item.result ≡ c.word-item.result = search rules in
    let same : c.as_bytes-in-loop-word.result.now ≡ c.as_bytes.result.now = c.as_bytes-in-loop-word.ensures.value ∙ c.in-Ok.ensures.cases.0 in
    not_a_word c.args.words.now.items c.loop-word.word-index c.word-item.result (search rules) (ap is_word (item ∙ sym c.as_bytes.ensures) ∙ (ap is_word (sym same) ∙ not_known_word c.as_bytes-in-loop-word.result.now (sym c.if-not-is_known.ensures)))

pub loop-word-preserved : goal.loop-word-preserved
loop-word-preserved c =
    let item : get_or c.args.words.now.items c.loop-word.word-index c.word-item.result ≡ c.word-item.result = search rules in
    let same : c.as_bytes-in-loop-word.result.now ≡ c.as_bytes.result.now = c.as_bytes-in-loop-word.ensures.value ∙ c.in-Ok.ensures.cases.0 in
    record {
      same = ap (λ ts. map (λ w. w.now) ts) c.in_ok-push.ensures.items ∙ next_text c.loop-word.texts.items c.in-Ok.text c.args.words.now.items c.loop-word.word-index c.word-item.result c.loop-word.invariant.same (search rules) (c.in-Ok.ensures.cases.0 ∙ (c.as_bytes.ensures ∙ sym item));
      known = next_passes is_known c.args.words.now.items c.loop-word.word-index c.word-item.result c.loop-word.invariant.known (search rules) (ap is_known (item ∙ sym c.as_bytes.ensures) ∙ (ap is_known (sym same) ∙ sym c.if-not-is_known.ensures));
    }
