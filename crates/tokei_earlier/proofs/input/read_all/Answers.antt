use Rattle.std.proofs.Common.{◌≡◌, ◌+◌, ◌<◌, ◌++◌, arith, length, take, refl, sym, ◌∙◌, subst}
use Rattle.std.proofs.KnownBytes.{Consumes-whole}
use Rattle.tokei_earlier.specs.Bounds.{most_bytes}
use Rattle.tokei_io.specs.Reads.{most_reads}
use Rattle.tokei_earlier.proofs.Taken.{at_least, longer, more_than, nothing_taken, taken_more}
use Rattle.tokei_earlier.proofs.input.read_all.Goals as goal

pub loop-preserved : goal.loop-preserved
loop-preserved g c =
    let left = g.S.Source.remaining in
    let before = c.loop.invariant in
    let read = c.in-Ok.ensures in
    let had = c.loop.bytes.items in
    let buffer = c.pull.new.buffer in
    let all = c.extend_from_slice.new.self.items in
    let joined = c.in_ok-extend_from_slice-in-Ok-2.ensures.items in
    let more : length all ≡ length had + c.in-Ok.n = longer had buffer all c.in-Ok.n joined read.bound.0 in (
      (λ small. read.counts (subst (λ n. n < 18446744073709551615) (sym (before.0 small)) small) ∙ before.0 small),
      taken_more had buffer all c.in-Ok.n joined (left c.args.source.now) (left c.loop.source) (left c.pull.new.self) before.1 read.bytes.0,
      omega (arith, more, c.loop.bytes.ok.0, c.len.ensures),
      omega (arith, more, c.loop.bytes.ok.0, c.len.ensures),
    )

pub returns-in-Ok-eq0 : goal.returns-in-Ok-eq0
returns-in-Ok-eq0 g c =
    let left = g.S.Source.remaining in
    let before = c.loop.invariant in
    let none = c.in-Ok-eq0.field-0-test in
    let read = c.in-Ok-eq0.ensures in
    let had = c.loop.bytes.items in
    let first = left c.args.source.now in
    let now = left c.pull.new.self in
    let room : 0 < length c.pull.new.buffer = omega arith in
    let end = read.bytes.1 none room in
    let taken = nothing_taken had c.pull.new.buffer c.in-Ok-eq0.field-0 first (left c.loop.source) now none before.1 read.bytes.0 in
    record {
      bytes = Consumes-whole first now had (λ text. had ≡ text) taken end refl;
      end = end;
      bound = before.3;
      too_long = λ e. cc;
      fault = λ small _. read.counts (subst (λ n. n < 18446744073709551615) (sym (before.0 small)) small) ∙ before.0 small;
      reads_ran_out = λ _ e _. cc;
      refused = tt;
    }

pub returns-in-Ok : goal.returns-in-Ok
returns-in-Ok g c =
    let left = g.S.Source.remaining in
    let before = c.loop.invariant in
    let read = c.in-Ok.ensures in
    let had = c.loop.bytes.items in
    let buffer = c.pull.new.buffer in
    let n = c.in-Ok.n in
    let all = had ++ take n buffer in
    let first = left c.args.source.now in
    let now = left c.pull.new.self in
    let more : length all ≡ length had + n = longer had buffer all n refl read.bound.0 in
    let past : most_bytes < length all = omega (arith, more, c.loop.bytes.ok.0, c.len.ensures) in
    record {
      bytes = tt;
      end = tt;
      bound = tt;
      too_long = λ _. more_than first now all most_bytes (taken_more had buffer all n refl first (left c.loop.source) now before.1 read.bytes.0) past;
      fault = λ small _. read.counts (subst (λ k. k < 18446744073709551615) (sym (before.0 small)) small) ∙ before.0 small;
      reads_ran_out = λ _ e _. cc;
      refused = λ _ other. absurd (other refl);
    }

pub returns-in-Err : goal.returns-in-Err
returns-in-Err g c =
    let before = c.loop.invariant in
    record {
      bytes = tt;
      end = tt;
      bound = tt;
      too_long = λ e. cc;
      fault = λ _ other. absurd (other refl);
      reads_ran_out = λ small _ same.
          let counted = c.in-Err.ensures.counts (subst (λ n. n < 18446744073709551615) (sym (before.0 small)) small) in
          absurd (omega (arith, counted, before.0 small, same));
      refused = λ other _. absurd (other refl);
    }

pub returns : goal.returns
returns g c = record {
  bytes = tt;
  end = tt;
  bound = tt;
  too_long = λ e. cc;
  fault = λ _ other. absurd (other refl);
  reads_ran_out = λ _ _ _.
      at_least (g.S.Source.remaining c.args.source.now) (g.S.Source.remaining c.loop.source) c.loop.bytes.items most_reads c.loop.invariant.1 (omega arith);
  refused = λ other _. absurd (other refl);
}
