use Rattle.std.proofs.Common.{◌∙◌, sym}
use Rattle.std.proofs.lemmas.Result.{err_from_is_err_and}
use Rattle.tokei_config.proofs.SettingReads.{setting_read, setting_refused, stops_first}
use Rattle.tokei_config.specs.declared.flaws.Setting.TheVariants as setting
use Rattle.tokei_config.proofs.document.values_in.Goals as goal

pub returns-in_err-file_flags-clause-refused : goal.returns-in_err-file_flags-clause-refused
returns-in_err-file_flags-clause-refused c =
    let p = err_from_is_err_and c.from_residual-in_err-file_flags.result c.from_residual-in_err-file_flags.ensures.1 in
    let columns = setting_read (λ v. v) _ setting.Columns c.count_at.result c.in_ok-columns.columns c.count_at.ensures (sym c.in_ok-columns.was ∙ c.at.ensures) in
    rw (p.1, p.2) (λ s e behind. rw columns (c.in_err-file_flags.ensures.refused s e _))

pub returns-in_err-treat_doc_strings_as_comments-clause-refused : goal.returns-in_err-treat_doc_strings_as_comments-clause-refused
returns-in_err-treat_doc_strings_as_comments-clause-refused c =
    let p = err_from_is_err_and c.from_residual-in_err-treat_doc_strings_as_comments.result c.from_residual-in_err-treat_doc_strings_as_comments.ensures.1 in
    let columns = setting_read (λ v. v) _ setting.Columns c.count_at.result c.in_ok-columns.columns c.count_at.ensures (sym c.in_ok-columns.was ∙ c.at.ensures) in
    let flags = c.in_ok-file_flags.ensures.are_read in
    rw (p.1, p.2) (λ s e behind. rw (columns, flags.hidden, flags.no_ignore, flags.no_ignore_parent, flags.no_ignore_dot, flags.no_ignore_vcs)
    (c.in_err-treat_doc_strings_as_comments.ensures.refused s e _))

pub returns-in_err-sort-clause-refused : goal.returns-in_err-sort-clause-refused
returns-in_err-sort-clause-refused c =
    let p = err_from_is_err_and c.from_residual-in_err-sort.result c.from_residual-in_err-sort.ensures.1 in
    let columns = setting_read (λ v. v) _ setting.Columns c.count_at.result c.in_ok-columns.columns c.count_at.ensures (sym c.in_ok-columns.was ∙ c.at.ensures) in
    let flags = c.in_ok-file_flags.ensures.are_read in
    let docs = c.in_ok-treat_doc_strings_as_comments.ensures.is_read in
    let sort = setting_refused (λ v. v) _ setting.Sort c.sort_at.result c.in_err-sort.field-0.0 c.sort_at.ensures (sym c.in_err-sort.was ∙ c.at-2.ensures) in
    rw (p.1, p.2) (λ s e behind. rw (columns, flags.hidden, flags.no_ignore, flags.no_ignore_parent, flags.no_ignore_dot, flags.no_ignore_vcs, docs) (stops_first setting.Sort _ _ sort s e behind))

pub returns-in_err-columns-clause-refused : goal.returns-in_err-columns-clause-refused
returns-in_err-columns-clause-refused c =
    let p = err_from_is_err_and c.from_residual.result c.from_residual.ensures.1 in
    let columns = setting_refused (λ v. v) _ setting.Columns c.count_at.result c.in_err-columns.field-0.0 c.count_at.ensures (sym c.in_err-columns.was ∙ c.at.ensures) in
    rw (p.1, p.2) (λ s e behind. stops_first setting.Columns _ _ columns s e _)

pub returns-clause-are_read : goal.returns-clause-are_read
returns-clause-are_read c = record {
  columns = setting_read (λ v. v) _ setting.Columns c.count_at.result c.in_ok-columns.columns c.count_at.ensures (sym c.in_ok-columns.was ∙ c.at.ensures);
  file_flags = c.in_ok-file_flags.ensures.are_read;
  docs = c.in_ok-treat_doc_strings_as_comments.ensures.is_read;
  sort = setting_read (λ v. v) _ setting.Sort c.sort_at.result c.in_ok-sort.sort c.sort_at.ensures (sym c.in_ok-sort.was ∙ c.at-2.ensures);
}
