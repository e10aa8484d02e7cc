use Rattle.tokei_languages.specs.Seen.{reports_of}
use Rattle.tokei_languages.proofs.Copying.{put_seen}
use Rattle.tokei_languages.proofs.copies.copy_at.Goals as goal

pub returns-clause-ok : goal.returns-clause-ok
returns-clause-ok c =
    put_seen reports_of c.args.copies.now.entries c.insert.new.self.entries c.args.language c.in_ok-copy.copy _
    c.in_ok-_old.ensures.entries c.in_ok-copy.ensures.ok
