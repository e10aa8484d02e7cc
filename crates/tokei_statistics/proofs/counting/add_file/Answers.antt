use Rattle.tokei_languages.specs.Seen.{languages_of}
use Rattle.std.proofs.Common.{◌∙◌}
use Rattle.tokei_files.specs.Seen.{counting_of}
use Rattle.tokei_files.proofs.UnreadNotes.{uncounted_unnoted, none_more}
use Rattle.tokei_statistics.proofs.Running.{file_passed, file_added, file_noted}
use Rattle.tokei_statistics.proofs.counting.add_file.Goals as goal

pub returns-in-None-clause-told : goal.returns-in-None-clause-told
returns-in-None-clause-told g c = λ t e.
    file_passed (counting_of c.args.counting.now) t c.args.file c.in_ok-language.field-0 (languages_of c.args.languages.now) (c.in_ok-language.ensures.told t e) c.in-None.is

pub returns-clause-told : goal.returns-clause-told
returns-clause-told g c = λ t e.
    let here = c.language.ensures.folders.same ∙ e in
    file_added (counting_of c.args.counting.now) t c.add_counted.result c.count_file-counted.result
    c.args.file c.in_ok-language.field-0 c.in-Some.language _ (languages_of c.args.languages.now)
    (languages_of c.add_counted.new.languages) (c.in_ok-language.ensures.told t e) c.in-Some.is c.as_str.ensures
    (c.count_file-counted.ensures.told t here) (λ q. c.count_file-counted.ensures.refused q t here)
    c.add_counted.ensures.refused c.add_counted.ensures.reported c.add_counted.ensures.marked

pub returns-in-None-clause-unread : goal.returns-in-None-clause-unread
returns-in-None-clause-unread g c = λ t e.
    none_more c.args.unread.now.items _ (uncounted_unnoted (counting_of c.args.counting.now) t c.args.file c.in_ok-language.field-0 (c.in_ok-language.ensures.told t e) c.in-None.is)

pub returns-clause-unread : goal.returns-clause-unread
returns-clause-unread g c = λ t e.
    let here = c.language.ensures.folders.same ∙ e in
    file_noted (counting_of c.args.counting.now) t c.add_counted.result c.count_file-counted.result
    c.args.file c.in_ok-language.field-0 c.in-Some.language _ c.args.unread.now.items
    c.add_counted.new.unread.items (c.in_ok-language.ensures.told t e) c.in-Some.is c.as_str.ensures
    (c.count_file-counted.ensures.told t here) (λ q. c.count_file-counted.ensures.refused q t here)
    c.add_counted.ensures.refused c.add_counted.ensures.unnoted c.add_counted.ensures.noted
