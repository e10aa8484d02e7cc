use Rattle.std.proofs.Common.{◌≡◌, ℕ, ◌∙◌, ap, ap₂, sym, subst, ◌++◌, append-nil, rules}
use Rattle.tokei_stats.specs.declared.stats.CodeStats.{out-CodeStats}
use Rattle.tokei_stats.specs.declared.stats.CodeStats.TheFolds.{fold-roll-CodeStats}
use Rattle.tokei_stats.specs.Seen.{blobs_of, entries_of, stats_of}
use Rattle.tokei_stats.specs.Overflow.{BlobsFit}
use Rattle.tokei_stats.proofs.Adding.{put_one_fits}
use Rattle.tokei_stats.proofs.Cloning.{clone_more}
use Rattle.tokei_stats.proofs.Equality.{equal_if_alike}
use Rattle.tokei_stats.proofs.NoBlobs.{met_some}
use Rattle.tokei_stats.proofs.Members.{copied}
use Rattle.tokei_stats.proofs.stats.CodeStats.+try_clone.Goals as goal

pub loop-language-preserved : goal.loop-language-preserved
loop-language-preserved t c = record {
  same = ap (λ es. entries_of es ++ entries_of c.next.new.self) c.in_ok-put.ensures.ok
      ∙ clone_more c.loop-language.blobs.entries c.next.new.self (out-CodeStats c.args.self.now).blobs.entries c.in-Some.language.now c.in_ok-copy.copy c.in-Some.stats.now
      (ap (λ es. entries_of c.loop-language.blobs.entries ++ entries_of es)
      (sym c.in-Some.ensures.steps)
      ∙ c.loop-language.invariant.same)
      c.iter-language-items.ensures.ordered c.in_ok-copy.ensures.ok;
  fits = put_one_fits c.loop-language.blobs.entries c.put.new.blobs.entries c.in-Some.language.now c.in_ok-copy.copy c.in_ok-put.ensures.ok c.in_ok-copy.ensures.fits c.loop-language.invariant.fits;
}

same : (t : ℕ) (c : goal.After-result-1 t) → entries_of c.loop-language.blobs.entries ≡ entries_of (out-CodeStats c.args.self.now).blobs.entries
same t c =
    sym (append-nil _) ∙ ap (λ es. entries_of c.loop-language.blobs.entries ++ entries_of es) (sym c.in-None.ensures.steps.0)
    ∙ c.loop-language.invariant.same

pub returns-clause-equal : goal.returns-clause-equal
returns-clause-equal t c = equal_if_alike _ c.args.self.now (copied c.args.self.now c.loop-language.blobs (same t c))

pub returns-clause-fits : goal.returns-clause-fits
returns-clause-fits t c = rw (fold-roll-CodeStats) (record { blanks = search rules; code = search rules; comments = search rules }, c.loop-language.invariant.fits)

pub returns-in_err-copy-clause-free : goal.returns-in_err-copy-clause-free
returns-in_err-copy-clause-free t c = λ n. absurd (met_some c.args.self.now (entries_of c.loop-language.blobs.entries)
    (c.in-Some.language.now, stats_of c.in-Some.stats.now) (entries_of c.next.new.self)
    (ap (λ es. entries_of c.loop-language.blobs.entries ++ entries_of es) (sym c.in-Some.ensures.steps) ∙ c.loop-language.invariant.same) n)

pub returns-in_err-put-clause-free : goal.returns-in_err-put-clause-free
returns-in_err-put-clause-free t c = λ n. absurd (met_some c.args.self.now (entries_of c.loop-language.blobs.entries)
    (c.in-Some.language.now, stats_of c.in-Some.stats.now) (entries_of c.next.new.self)
    (ap (λ es. entries_of c.loop-language.blobs.entries ++ entries_of es) (sym c.in-Some.ensures.steps) ∙ c.loop-language.invariant.same) n)

pub returns-clause-ok : goal.returns-clause-ok
returns-clause-ok t c = copied c.args.self.now c.loop-language.blobs (same t c)

pub loop-language-init : goal.loop-language-init
loop-language-init t c = record {
  same = ap₂ (λ es fs. entries_of es ++ entries_of fs) c.new-blobs.ensures.empty (c.into_iter-language-iterator.ensures.into_iter_gives ∙ c.iter-language-items.ensures.rest);
  fits = subst (λ es. BlobsFit (blobs_of (entries_of es))) (sym c.new-blobs.ensures.empty) tt;
}
