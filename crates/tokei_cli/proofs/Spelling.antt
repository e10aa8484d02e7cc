-- The command line of given words is made of the matches that the parser finds in them.
use Rattle.std.proofs.Common.{◌≡◌, ℕ, List, true, refl, ap, subst, ◌∙◌}
use Rattle.clap.proofs.OnLiterals.{clap_on_literals}
use Rattle.clap.specs.Words.{App, HasMatchesOf, Row, found_of, is_simple, matches_of, rows_of}
use Rattle.clap.specs.declared.parser.matches.ArgMatches.{ArgMatches}
use Rattle.tokei_cli.specs.Lines.{IsLine, IsLineOf}
use Rattle.tokei_cli.specs.Options.{file_options, format_options, ignore_options, last_options, line_app, order_options, report_options}
use Rattle.tokei_cli.specs.declared.cli.Cli.{Cli}

-- the parser's rules give the matches of this command line
line_is_simple : is_simple line_app ≡ true
unfolding clap_on_literals line_app report_options format_options order_options ignore_options file_options last_options
line_is_simple = refl

pub line_is : (app : App) (words : List (List ℕ)) (m : ArgMatches) (c : Cli) → app ≡ line_app → HasMatchesOf app words m
    → IsLine (rows_of (found_of m)) c → IsLineOf words c
line_is app words m c is has line =
    let rows : rows_of (found_of m) ≡ matches_of line_app words =
    (has (ap is_simple is ∙ line_is_simple)).0 ∙ ap (λ a. matches_of a words) is in
    subst (λ (rs : List Row). IsLine rs c) rows line
