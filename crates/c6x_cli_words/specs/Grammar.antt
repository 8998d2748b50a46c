-- The words that clap is told to read: words that stand for themselves, two options with a value, and a flag.
use Rattle.std.specs.Prelude.{true, [], Some, codes}
use Rattle.clap.specs.Words.{App, Rule, Text, new_app, new_rule, with_rule}
use Rattle.clap.specs.declared.builder.ArgAction.TheVariants.{Append, Set, SetTrue}

abbrev pub words_rule : Rule
words_rule = record (new_rule (codes "words")) { action = Some Append }

abbrev pub option_rule : Text → Rule
option_rule name = record (new_rule name) { long = Some name; action = Some Set }

abbrev pub flag_rule : Text → Rule
flag_rule name = record (new_rule name) { long = Some name; action = Some SetTrue }

abbrev pub policy_rule : Rule
policy_rule = option_rule (codes "policy")

abbrev pub seed_rule : Rule
seed_rule = option_rule (codes "seed")

abbrev pub turns_rule : Rule
turns_rule = flag_rule (codes "turns")

abbrev pub bare : App
bare = record { top = record (new_app (codes "c6x")).top { no_binary_name = true; disable_help_flag = true }; subs = [] }

abbrev pub app : App
app = with_rule (with_rule (with_rule (with_rule bare words_rule) policy_rule) seed_rule) turns_rule
