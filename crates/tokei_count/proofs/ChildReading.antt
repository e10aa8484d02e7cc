-- The reading of a child of a text, by the reader of the text.
use Rattle.std.proofs.Common.{◌≡◌, ℕ, ◌-◌, ◌<◌, Bool, List, sym, ap, ◌∙◌}
use Rattle.tokei_table.specs.Row.{Row}
use Rattle.tokei_parts.specs.Items.{Block}
use Rattle.tokei_parts.specs.declared.reading.Reading.{Reading}
use Rattle.tokei_count.specs.Languages.{languages_of}
use Rattle.tokei_count.specs.PlainReading.{reading}
use Rattle.tokei_count.specs.Readers.{reading_by, steps_by}
use Rattle.tokei_count.specs.Steps.{made_steps}
use Rattle.tokei_count.specs.UnderWay.{IsReadBy, reading_inside, steps_inside}
use Rattle.tokei_count.specs.declared.reader.Reader.{Reader}
use Rattle.tokei_count.proofs.StepReading.{child_steps-is}
use Rattle.tokei_count.proofs.TextReading.{child_reading-is}

module _ (reader : Reader) (r : Reading) (k : Block) (t : List ℕ) (by : IsReadBy reader r) (some : 0 < r.levels) (is : t ≡ k.contents) where
  pub child_by : reading_by reader (r.levels - 1) k.language t ≡ reading_inside r k
  child_by = ap (reading_by reader (r.levels - 1) k.language) is
      ∙ ap (λ (rows : List Row). reading (languages_of rows) reader.docs_are_comments (r.levels - 1) k.language k.contents) (sym by.table)
      ∙ ap (λ (docs : Bool). reading (languages_of r.table.now) docs (r.levels - 1) k.language k.contents) (sym by.docs_are_comments)
      ∙ sym (child_reading-is r.table.now r.docs_are_comments r.levels k some)

  pub child_steps_by : steps_by reader (r.levels - 1) k.language t ≡ steps_inside r k
  child_steps_by = ap (steps_by reader (r.levels - 1) k.language) is
      ∙ ap (λ (rows : List Row). made_steps reader.skips (languages_of rows) (r.levels - 1) k.language k.contents) (sym by.table)
      ∙ ap (λ (skips : Bool). made_steps skips (languages_of r.table.now) (r.levels - 1) k.language k.contents) (sym by.skips)
      ∙ sym (child_steps-is r.skips r.table.now r.levels k some)
