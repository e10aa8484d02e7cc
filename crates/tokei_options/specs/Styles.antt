-- The styles of numbers: their names and their separators.
use Rattle.std.specs.Prelude.{◌≡◌, ◌≢◌, ℕ, List, Option, None, Some, Result, codes, MatchResult}
use Rattle.tokei_options.specs.declared.number_format.NumberFormatStyle.{NumberFormatStyle}
use Rattle.tokei_options.specs.declared.number_format.NumberFormatStyle.TheVariants.{Plain, Commas, Dots, Underscores}
use Rattle.tokei_options.specs.declared.number_format.StyleError.{StyleError}

-- the word that names the style
abbrev pub style_name : NumberFormatStyle → List ℕ
style_name Plain = codes "plain"
style_name Commas = codes "commas"
style_name Dots = codes "dots"
style_name Underscores = codes "underscores"

-- a text gives the style that it names, and is refused where it names none
abbrev pub ParsesStyle : List ℕ → Result NumberFormatStyle StyleError → Type 0
ParsesStyle text r = MatchResult r
    (λ style. text ≡ style_name style)
    (λ _. (style : NumberFormatStyle) → text ≢ style_name style)

-- the byte of a comma, `,`
abbrev pub comma : ℕ
comma = 44

-- the byte of a dot, `.`
abbrev pub dot : ℕ
dot = 46

-- the byte of an underscore, `_`
abbrev pub underscore : ℕ
underscore = 95

-- the character between groups of three digits
abbrev pub separator_of : NumberFormatStyle → Option ℕ
separator_of Plain = None
separator_of Commas = Some comma
separator_of Dots = Some dot
separator_of Underscores = Some underscore
