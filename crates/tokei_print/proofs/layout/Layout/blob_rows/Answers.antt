use Rattle.std.proofs.Common.{◌≡◌, ℕ, List, ◌++◌, string_bytes, sym, ap, ◌∙◌, subst, Err, rules}
use Rattle.tokei_stats.specs.Seen.{blobs_of, entries_of, stats_of}
use Rattle.tokei_stats.specs.declared.stats.CodeStats.{CodeStats}
use Rattle.tokei_print.specs.BlobRows.{BlobRowsFit, blob_row, blob_rows}
use Rattle.tokei_languages.specs.Names.{name_in}
use Rattle.tokei_print.proofs.Behind.{one_more, no_more}
use Rattle.tokei_stats.specs.declared.error.CountError.TheVariants.{Overflow}
use Rattle.tokei_print.proofs.layout.Layout.blob_rows.Goals as goal

pub loop-language-init : goal.loop-language-init
loop-language-init c =
    let begun : c.into_iter-language-iterator.result ≡ c.args.blobs.now.entries = c.into_iter-language-iterator.ensures.into_iter_gives ∙ c.iter-language-items.ensures.rest in (
      ap (λ t. t ++ blob_rows c.args.self.now (name_in c.args.table.now) c.args.inaccurate (blobs_of (entries_of c.into_iter-language-iterator.result))) c.new-rows.ensures.bytes
          ∙ ap (λ es. blob_rows c.args.self.now (name_in c.args.table.now) c.args.inaccurate (blobs_of (entries_of es))) begun,
      subst (λ es. BlobRowsFit (blobs_of (entries_of es))) (sym begun),
    )

pub loop-language-preserved : goal.loop-language-preserved
loop-language-preserved c =
    let rows = string_bytes c.loop-language.rows in
    let row = λ (name : List ℕ). blob_row c.args.self.now c.args.inaccurate name (stats_of c.in-Some.stats.now) in
    let text = λ (es : List (ℕ × CodeStats)). blob_rows c.args.self.now (name_in c.args.table.now) c.args.inaccurate (blobs_of (entries_of es)) in (
      one_more rows (text c.args.blobs.now.entries) (string_bytes c.in_ok-rows.rows) (row (name_in c.args.table.now c.in-Some.language.now))
          (text c.loop-language.language-iterator) (text c.next.new.self) c.loop-language.invariant.0
          (ap text c.in-Some.ensures.steps)
          (c.in_ok-rows.ensures.ok _ c.blob_row-row.ensures.ok ∙ ap (λ n. rows ++ row n) c.name_of.ensures),
      λ f. (subst (λ es. BlobRowsFit (blobs_of (entries_of es))) c.in-Some.ensures.steps (c.loop-language.invariant.1 f)).1,
    )

pub returns-clause-ok : goal.returns-clause-ok
returns-clause-ok c =
    let text = λ (es : List (ℕ × CodeStats)). blob_rows c.args.self.now (name_in c.args.table.now) c.args.inaccurate (blobs_of (entries_of es)) in
    no_more (string_bytes c.loop-language.rows) (text c.args.blobs.now.entries) (text c.loop-language.language-iterator) c.loop-language.invariant.0 (ap text c.in-None.ensures.steps.0)

pub returns-in_err-rows-clause-overflow : goal.returns-in_err-rows-clause-overflow
returns-in_err-rows-clause-overflow c = λ t f.
    let same : c.in_err-rows.field-0.0 ≡ Overflow = search rules in
    c.blob_row-row.ensures.overflow (c.in_err-rows.ensures.overflow (ap (λ x. Err x) same))
    (subst (λ es. BlobRowsFit (blobs_of (entries_of es))) c.in-Some.ensures.steps (c.loop-language.invariant.1 f)).0
