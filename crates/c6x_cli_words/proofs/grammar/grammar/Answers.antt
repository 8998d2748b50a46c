use Rattle.std.proofs.Common.{ap₂, ◌≡◌, ◌∙◌}
use Rattle.clap.specs.Words.{app_of, with_rule}
use Rattle.c6x_cli_words.specs.Grammar.{bare, policy_rule, seed_rule, words_rule}
use Rattle.c6x_cli_words.proofs.grammar.grammar.Goals as goal

pub returns : goal.returns
returns c =
    let worded : app_of c.in_ok-worded.worded ≡ with_rule bare words_rule = c.in_ok-worded.ensures.shape c.words_arg.ensures.local ∙ ap₂ with_rule c.bare.ensures c.words_arg.ensures.rule in
    let ruled : app_of c.in_ok-ruled.ruled ≡ with_rule (with_rule bare words_rule) policy_rule = c.in_ok-ruled.ensures.shape c.option_arg.ensures.local ∙ ap₂ with_rule worded c.option_arg.ensures.rule in
    let seeded : app_of c.in_ok-seeded.seeded ≡ with_rule (with_rule (with_rule bare words_rule) policy_rule) seed_rule = c.in_ok-seeded.ensures.shape c.option_arg-2.ensures.local ∙ ap₂ with_rule ruled c.option_arg-2.ensures.rule in
    c.in_ok-told.ensures.shape c.flag_arg.ensures.local ∙ ap₂ with_rule seeded c.flag_arg.ensures.rule
