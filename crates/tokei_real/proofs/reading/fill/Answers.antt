-- What each read gives stands behind what was read before.
use Rattle.std.proofs.Common.{ℕ, ◌-◌, length, rules, subst, sym, take}
use Rattle.std.specs.Io.KnownBytes.{Consumes}
use Rattle.tokei_real.proofs.Filling.{consumes_more, consumes_kept}
use Rattle.tokei_real.proofs.reading.fill.Goals as goal
use Rattle.tokei_real.proofs.reading.fill.Goals.{in-Ok, in-Err}
use borrow.Rule.Slice.PartMut.{put_mid}

pub loop-preserved : goal.loop-preserved
loop-preserved g c =
    let old = g.R.Read.remaining c.args.reader.now in
    let now = g.R.Read.remaining c.loop.reader in
    let new = g.R.Read.remaining c.read.new.self in
    let from = c.loop.filled in
    let room = length c.loop.buffer - from in
    let front = λ (n : ℕ). Consumes old new (take n (put_mid from room c.loop.buffer c.read.new.buf)) in
    let before = c.loop.invariant in
    elim c.match-read.branch [
      | in-Ok w ↦ (
        search rules,
        search rules,
        subst front (sym w.filled-is)
            (consumes_more old now new from room w.in-Ok.n c.loop.buffer c.read.new.buf before.1 w.in-Ok.ensures.bound.0 before.2 w.in-Ok.ensures.bytes.0),
      )
      | in-Err w ↦ (
        search rules,
        search rules,
        subst front (sym w.filled-is)
            (consumes_kept old now new from room c.loop.buffer c.read.new.buf before.1 before.2 w.in-Err.ensures.bytes),
      )
    ]
