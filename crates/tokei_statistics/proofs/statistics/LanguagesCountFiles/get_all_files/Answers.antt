use Rattle.std.proofs.Common.{◌≡◌, List, false, unwrap_or, option_map, IfOk, OnOk, OnErr, ◌∙◌}
use Rattle.tokei_config.specs.Seen.{settings_of}
use Rattle.tokei_count.specs.Seen.{docs_of}
use Rattle.tokei_languages.specs.Seen.{languages_of}
use Rattle.tokei_walk.specs.Kept.{kept_in}
use Rattle.tokei_walk.specs.declared.kept_file.KeptFile.{KeptFile}
use Rattle.tokei_walk.specs.Met.{noted_in}
use Rattle.tokei_walk.specs.Noted.{Noted}
use Rattle.tokei_walk.specs.Notes.{notes_of_excludes}
use Rattle.tokei_walk.specs.Walks.{excludes_of, texts_of}
use Rattle.tokei_files.specs.Configs.{rules_of, counting_by, kept_by, noted_by}
use Rattle.tokei_files.specs.Files.{Counting, ReadingsFit}
use Rattle.tokei_files.specs.Unread.{NotesAre, unread_of}
use Rattle.tokei_statistics.specs.Runs.{AddsFiles, AddsFirst}
use Rattle.tokei_statistics.proofs.Configured.{said_again}
use Rattle.tokei_statistics.proofs.statistics.LanguagesCountFiles.get_all_files.Goals as goal

pub returns-clause-told : goal.returns-clause-told
unfolding kept_by
returns-clause-told g c = λ t e.
    let s = settings_of c.args.config.now in
    let code : Counting = record { rows = c.in_ok-counter.counter; docs = docs_of c.counting.result; types = option_map (λ types. types.now) c.types.result } in
    let same : code ≡ counting_by c.args.table.now s =
    λ i. record {
      rows = (c.in_ok-counter.ensures ∙ c.in_ok-extended.ensures) i;
      docs = unwrap_or (c.counting.ensures i) false;
      types = c.types.ensures i;
    } in
    said_again (λ b ks. OnOk c.count_roots.result (AddsFiles b t ks (languages_of c.args.self.now) (languages_of c.count_roots.new.languages)))
    (λ r. kept_in (excludes_of (texts_of c.args.ignored.now)) r t (texts_of c.args.paths.now)) code
    (counting_by c.args.table.now s) c.rules.result (rules_of s) same c.rules.ensures
    (c.count_roots.ensures.told t e)

pub returns-clause-partly : goal.returns-clause-partly
unfolding kept_by
returns-clause-partly g c = λ t e.
    let s = settings_of c.args.config.now in
    let code : Counting = record { rows = c.in_ok-counter.counter; docs = docs_of c.counting.result; types = option_map (λ types. types.now) c.types.result } in
    let same : code ≡ counting_by c.args.table.now s =
    λ i. record {
      rows = (c.in_ok-counter.ensures ∙ c.in_ok-extended.ensures) i;
      docs = unwrap_or (c.counting.ensures i) false;
      types = c.types.ensures i;
    } in
    said_again (λ b ks. OnErr c.count_roots.result (AddsFirst b t ks (languages_of c.args.self.now) (languages_of c.count_roots.new.languages)))
    (λ r. kept_in (excludes_of (texts_of c.args.ignored.now)) r t (texts_of c.args.paths.now)) code
    (counting_by c.args.table.now s) c.rules.result (rules_of s) same c.rules.ensures
    (c.count_roots.ensures.partly t e)

pub returns-clause-overflow : goal.returns-clause-overflow
unfolding kept_by
returns-clause-overflow g c = λ q t e.
    let s = settings_of c.args.config.now in
    let code : Counting = record { rows = c.in_ok-counter.counter; docs = docs_of c.counting.result; types = option_map (λ types. types.now) c.types.result } in
    let same : code ≡ counting_by c.args.table.now s =
    λ i. record {
      rows = (c.in_ok-counter.ensures ∙ c.in_ok-extended.ensures) i;
      docs = unwrap_or (c.counting.ensures i) false;
      types = c.types.ensures i;
    } in
    said_again (λ b ks. ReadingsFit b t ks → ⊥)
    (λ r. kept_in (excludes_of (texts_of c.args.ignored.now)) r t (texts_of c.args.paths.now)) code
    (counting_by c.args.table.now s) c.rules.result (rules_of s) same c.rules.ensures
    (c.count_roots.ensures.overflow q t e)

pub returns-clause-noted : goal.returns-clause-noted
unfolding kept_by noted_by
returns-clause-noted g c = λ t e.
    let s = settings_of c.args.config.now in
    let code : Counting = record { rows = c.in_ok-counter.counter; docs = docs_of c.counting.result; types = option_map (λ types. types.now) c.types.result } in
    let same : code ≡ counting_by c.args.table.now s =
    λ i. record {
      rows = (c.in_ok-counter.ensures ∙ c.in_ok-extended.ensures) i;
      docs = unwrap_or (c.counting.ensures i) false;
      types = c.types.ensures i;
    } in
    let excludes = texts_of c.args.ignored.now in let roots = texts_of c.args.paths.now in
    said_again (λ (b : Counting) (k : List KeptFile × List Noted). IfOk c.count_roots.result (λ n. NotesAre (notes_of_excludes excludes) k.1 (unread_of b t k.0) n.items))
    (λ r. (kept_in (excludes_of excludes) r t roots, noted_in (excludes_of excludes) r t roots)) code
    (counting_by c.args.table.now s) c.rules.result (rules_of s) same c.rules.ensures
    (c.count_roots.ensures.noted t e)
