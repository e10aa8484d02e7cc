-- What was asked for is shown.
use Rattle.std.proofs.Common.{◌≡◌, refl, sym, ◌∙◌}
use Rattle.clap.specs.Values.{kind_of}
use Rattle.clap.specs.declared.error.kind.ErrorKind.TheVariants.{DisplayHelp, DisplayVersion, OutOfMemory}
use Rattle.tokei_cli.specs.Texts.{help_text, version_line}
use Rattle.tokei_cli.proofs.Shown.{help_is_shown, version_is_shown}
use Rattle.tokei_cli.proofs.cli_error.answer.Goals as goal

pub returns-in-OutOfMemory-clause-kind : goal.returns-in-OutOfMemory-clause-kind
returns-in-OutOfMemory-clause-kind c =
    let is : OutOfMemory ≡ kind_of c.args.error.now = sym c.in-OutOfMemory.is ∙ c.kind.ensures in
    rw (← is) refl

pub returns-in-DisplayHelp-clause-kind : goal.returns-in-DisplayHelp-clause-kind
unfolding help_text
returns-in-DisplayHelp-clause-kind c =
    let is : DisplayHelp ≡ kind_of c.args.error.now = sym c.in-DisplayHelp.is ∙ c.kind.ensures in
    rw (← is) c.asked.ensures

pub returns-in-DisplayHelp-clause-shown : goal.returns-in-DisplayHelp-clause-shown
unfolding help_text
returns-in-DisplayHelp-clause-shown c = help_is_shown c.asked.result c.asked.ensures

pub returns-in-DisplayVersion-clause-kind : goal.returns-in-DisplayVersion-clause-kind
unfolding version_line
returns-in-DisplayVersion-clause-kind c =
    let is : DisplayVersion ≡ kind_of c.args.error.now = sym c.in-DisplayVersion.is ∙ c.kind.ensures in
    rw (← is) c.asked-in-DisplayVersion.ensures

pub returns-in-DisplayVersion-clause-shown : goal.returns-in-DisplayVersion-clause-shown
unfolding version_line
returns-in-DisplayVersion-clause-shown c =
    version_is_shown c.asked-in-DisplayVersion.result c.asked-in-DisplayVersion.ensures
