-- The rows are the options of the whole command line but for the last one.
use Rattle.std.proofs.Common.{◌≡◌, ◌∙◌, ◌++◌, ◌∷◌, [], List, Some, ap, codes, map}
use Rattle.std.proofs.lemmas.Result.{IfOk-weaker}
use Rattle.clap.specs.Words.{App, Rule}
use Rattle.clap.specs.declared.builder.action.ArgAction.TheVariants.{Count}
use Rattle.tokei_cli.specs.Options.{file_options, format_options, ignore_options, last_options, lettered, line_app, order_options, report_options}
use Rattle.tokei_cli.specs.Options.{ruled, switch, with_options}
use Rattle.tokei_cli.proofs.Building.{bare_is, options_added, options_more, renamed_is}
use Rattle.tokei_cli.proofs.options.command.Goals as goal

pub returns : goal.returns
unfolding line_app report_options format_options order_options ignore_options file_options last_options
returns c =
    let before : List Rule → List Rule = λ rules.
    report_options ++ (format_options ++ (order_options ++ (ignore_options ++ (file_options ++ rules)))) in
    let rows = before (record (lettered (codes "v") (switch (codes "verbose"))) { action = Some Count } ∷ []) in
    let rules = before last_options in
    let listed = c.in_ok-options.options.items in
    let more = options_more listed c.input.result rows _ c.in_ok-options.ensures c.input.ensures in
    let pushed : c.push.new.self.items ≡ listed ++ c.input.result ∷ [] = c.in_ok-push.ensures.items in
    let added = options_added _ _ c.push.new.self.items rules c.in_ok-args.ensures (ap (map ruled) pushed ∙ more) in
    let bare = bare_is _ _ _ _ _ c.new.ensures.app c.version.ensures c.about.ensures in
    let whole = added ∙ ap (λ (app : App). with_options app rules) bare in
    IfOk-weaker c.bin_name.result _ _ (λ r named. renamed_is _ r named.0 ∙ whole) c.bin_name.ensures
