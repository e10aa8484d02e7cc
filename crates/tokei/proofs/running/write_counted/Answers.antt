use Rattle.std.proofs.Common.{subst}
use Rattle.std.specs.Io.KnownBytes.{Appends}
use Rattle.tokei_languages.specs.Seen.{languages_of}
use Rattle.tokei.proofs.Shaping.{written_by}
use Rattle.tokei.proofs.running.write_counted.Goals as goal

pub returns-clause-shaped : goal.returns-clause-shaped
returns-clause-shaped g c = record {
  languages = languages_of c.in_ok-tally.tally.languages;
  written = written_by c.args.format c.args.table.now c.args.job.now (languages_of c.in_ok-tally.tally.languages) _ _ _ c.in_ok-text.ensures.text
      (subst (λ bs. Appends (g.W.Sink.contents c.args.writer.now) (g.W.Sink.contents c.put.new.writer) bs) c.deref.ensures.value c.in_ok-put.ensures.bytes);
}
