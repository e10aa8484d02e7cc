-- A text that was asked for is one of the two.
use Rattle.std.proofs.Common.{inl, inr}
use Rattle.tokei_cli.specs.declared.cli_error.CliError.{CliError}
use Rattle.tokei_cli.specs.declared.cli_error.CliError.TheVariants.{Memory, Refused, Asked}
use Rattle.tokei_cli.specs.Texts.{IsShown, Shows, help_text, version_line}

pub help_is_shown : (r : CliError) → Shows help_text r → IsShown r
help_is_shown Memory h = tt
help_is_shown (Refused text) h = tt
help_is_shown (Asked text) h = inl h

pub version_is_shown : (r : CliError) → Shows version_line r → IsShown r
version_is_shown Memory h = tt
version_is_shown (Refused text) h = tt
version_is_shown (Asked text) h = inr h
