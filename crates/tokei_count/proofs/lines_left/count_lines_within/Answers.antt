use Rattle.tokei_count.proofs.lines_left.count_lines_within.Goals as goal

pub returns : goal.returns
returns c =
    let e = c.count_stretch_within.ensures in
    record { under_way = e.under_way; low = e.low; high = e.high; same = e.same; overflow = e.overflow }
