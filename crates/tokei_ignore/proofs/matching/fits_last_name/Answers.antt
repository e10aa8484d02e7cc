use Rattle.std.proofs.Common.{ℕ, List, Bool, sym, ap, ◌∙◌}
use Rattle.std.specs.Str.{chars}
use Rattle.tokei_ignore.specs.Fits.{last_passes}
use Rattle.tokei_ignore.specs.Segments.{fits_characters}
use Rattle.tokei_ignore.proofs.LastNames.{last_passes-push}
use Rattle.tokei_ignore.proofs.matching.fits_last_name.Goals as goal

pub returns-in-Some : goal.returns-in-Some
returns-in-Some c =
    let test : List ℕ → Bool = λ name. fits_characters c.args.pieces.now (chars name) in
    c.fits_whole_name.ensures ∙ ap test c.as_str.ensures ∙ sym (ap (last_passes test) c.in-Some.ensures.cases.0 ∙ last_passes-push test c.in-Some.field-0-1.now c.in-Some.last.now)
