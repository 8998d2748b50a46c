use Rattle.std.proofs.Common.{◌∙◌, ap, map, sym}
use Rattle.std.proofs.lemmas.Result.{IfOk-weaker}
use Rattle.std.specs.List.{list_all}
use Rattle.clap.specs.Words.{found_of}
use Rattle.c6x_cli_words.specs.Arguments.{is_positional}
use Rattle.c6x_cli_words.specs.Asked.{kind_in, seed_in}
use Rattle.c6x_cli_words.proofs.Getters.{no_words_said, policy_said, seed_said, told_asks, told_fileless, told_kindless, told_seedless, told_wordless, turns_said, words_said}
use Rattle.c6x_cli_words.proofs.asking.request_in.Goals as goal

pub returns-in_default : goal.returns-in_default
returns-in_default c = λ said shows. sym (told_wordless said (no_words_said (found_of c.args.matches.now) said shows (sym c.in_default.ensures)))

pub returns-in_default-kind_in : goal.returns-in_default-kind_in
returns-in_default-kind_in c = λ said shows.
    let policy = c.get_str.ensures ∙ policy_said (found_of c.args.matches.now) said shows in
    sym (told_kindless said (ap kind_in (sym policy) ∙ sym c.in_default-kind_in.ensures))

pub returns-in_default-seed_in : goal.returns-in_default-seed_in
returns-in_default-seed_in c = λ said shows.
    let seed = c.get_str-2.ensures ∙ seed_said (found_of c.args.matches.now) said shows in
    sym (told_seedless said (ap seed_in (sym seed) ∙ sym c.in_default-seed_in.ensures))

pub returns-then-not-are_files : goal.returns-then-not-are_files
returns-then-not-are_files c = λ said shows.
    let words = words_said (found_of c.args.matches.now) said (map (λ w. w.now) c.in-Some.words.now) shows (sym c.in-Some.ensures) in
    sym (told_fileless said (ap (list_all is_positional) words ∙ sym c.if-not-are_files.ensures))

pub returns : goal.returns
returns c = λ said shows.
    let words = words_said (found_of c.args.matches.now) said (map (λ w. w.now) c.in-Some.words.now) shows (sym c.in-Some.ensures) in
    let policy = c.get_str.ensures ∙ policy_said (found_of c.args.matches.now) said shows in
    let seed = c.get_str-2.ensures ∙ seed_said (found_of c.args.matches.now) said shows in
    let turns = turns_said (found_of c.args.matches.now) said c.get_flag.result shows c.get_flag.ensures.value c.get_flag.ensures.other in
    IfOk-weaker c.asked.result _ _ (λ request is.
    is ∙ told_asks said (map (λ w. w.now) c.in-Some.words.now) c.in-Some-kind_in.kind c.in-Some-seed_in.seed c.get_flag.result words (sym c.if-not-are_files.ensures)
    (ap kind_in (sym policy) ∙ sym c.in-Some-kind_in.ensures) (ap seed_in (sym seed) ∙ sym c.in-Some-seed_in.ensures) turns) c.asked.ensures
