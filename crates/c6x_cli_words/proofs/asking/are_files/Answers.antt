use Rattle.std.proofs.Common.{rules, ◌∙◌, ℕ, List, ap, sym, Bor}
use Rattle.std.specs.List.{list_all}
use Rattle.std.proofs.lemmas.List.{take_all}
use Rattle.std.proofs.lemmas.List.Folds.{list_all-map}
use Rattle.c6x_cli_words.specs.Arguments.{is_positional}
use Rattle.c6x_cli_words.proofs.Getters.{fails_at, next_passes}
use Rattle.c6x_cli_words.proofs.asking.are_files.Goals as goal

pub returns-then-not-is_file_name : goal.returns-then-not-is_file_name
returns-then-not-is_file_name c =
    sym (list_all-map is_positional (λ (w : Bor (List ℕ)). w.now) c.args.words.now
    ∙ fails_at (λ (w : Bor (List ℕ)). is_positional w.now) c.args.words.now c.loop-word.word-index _ (search rules) (ap is_positional (sym c.as_bytes.ensures.value) ∙ sym c.if-not-is_file_name.ensures))

pub loop-word-preserved : goal.loop-word-preserved
loop-word-preserved c =
    next_passes (λ (w : Bor (List ℕ)). is_positional w.now) c.args.words.now c.loop-word.word-index _ c.loop-word.invariant (search rules) (ap is_positional (sym c.as_bytes.ensures.value) ∙ sym c.if-not-is_file_name.ensures)

pub returns : goal.returns
returns c =
    sym (list_all-map is_positional (λ (w : Bor (List ℕ)). w.now) c.args.words.now
    ∙ (ap (list_all (λ (w : Bor (List ℕ)). is_positional w.now)) (sym (take_all c.loop-word.word-index c.args.words.now c.loop-word-test.false)) ∙ c.loop-word.invariant))
