use Rattle.std.proofs.Common.{rules, ◌≡◌, List, [], map, subst, sym, true}
use Rattle.std.specs.Prelude.{◌≢◌, MatchOption, Option}
use Rattle.clap.specs.Words.{Text, fault_of, found_of, matches_of, rows_of}
use Rattle.clap.specs.declared.parser.matches.ArgMatches.{ArgMatches}
use Rattle.c6x_cli_words.specs.Grammar.{app}
use Rattle.std.proofs.lemmas.Result.{IfOk-weaker}
use Rattle.c6x_cli_words.specs.Found.{Shows}
use Rattle.c6x_cli_words.specs.Told.{starts_plain}
use Rattle.c6x_cli_words.proofs.Spelled.{said_reads}
use Rattle.c6x_cli_words.proofs.Taken.{found, refused}
use Rattle.c6x_cli_words.proofs.Verbs.{asks_for}
use Rattle.c6x_cli_words.proofs.reading.read.Goals as goal

abbrev FindsIn : List Text → Option ArgMatches → Type 0
FindsIn words found = MatchOption found (fault_of app words ≢ []) (λ matches. (fault_of app words ≡ []) × (rows_of (found_of matches) ≡ matches_of app words))

pub returns-in-Some : goal.returns-in-Some
returns-in-Some c =
    let words = map (λ w. w.now) c.args.words.now in
    let starts : starts_plain words ≡ true = search rules in
    let finds = subst (λ o. FindsIn words o) c.in-Some.is c.in_ok-found.ensures in
    let told = found words c.requires finds.0 in
    let asks = c.request_in.ensures told.said (subst (λ rows. Shows rows told.said) (sym finds.1) told.shows) in
    IfOk-weaker c.request_in.result _ _ (λ read is. said_reads words told.said read told.is starts (sym is)) asks

pub returns-in-None : goal.returns-in-None
returns-in-None c = λ request spells.
    let words = map (λ w. w.now) c.args.words.now in
    let few = asks_for words request spells in
    (subst (λ o. FindsIn words o) c.in-None.is c.in_ok-found.ensures) (refused words few.arguments few.spelled few.few)
