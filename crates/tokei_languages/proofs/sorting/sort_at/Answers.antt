use Rattle.tokei_languages.specs.Seen.{language_of}
use Rattle.tokei_languages.proofs.Copying.{put_seen}
use Rattle.tokei_languages.proofs.sorting.sort_at.Goals as goal

pub returns-clause-ok : goal.returns-clause-ok
returns-clause-ok c =
    put_seen language_of c.args.sorted.now.entries c.insert.new.self.entries c.args.language c.sort_by.new.self _
    c.in_ok-_old.ensures.entries c.in_ok-sort_by.ensures.ok
