use Rattle.tokei_count.proofs.lines_left.count_clear_lines.Goals as goal

pub returns : goal.returns
returns c =
    let e = c.count_stretch.ensures in
    record { under_way = e.under_way; low = e.low; high = e.high; next = e.next; plain = e.plain; quiet = e.quiet; overflow = e.overflow }
