-- The code's configuration as the definitions see it.
use Rattle.std.specs.Prelude.{Bool, false, unwrap_or}
use Rattle.tokei_options.specs.declared.count_config.CountConfig.{CountConfig}

-- whether doc strings are treated as comments; they aren't where nothing is said
abbrev pub docs_of : CountConfig → Bool
docs_of config = unwrap_or config.treat_doc_strings_as_comments false
