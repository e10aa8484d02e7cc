use Rattle.tokei_count.proofs.parse.parse_from_str.Goals as goal

pub returns : goal.returns
returns c =
    let e = c.parse_from_slice.ensures in record {
      reads = rw (← c.as_bytes.ensures.value) e.reads;
      lines_at_most_weight = rw (← c.as_bytes.ensures.value) e.lines_at_most_weight;
      lines_at_most_bytes = rw (← c.as_bytes.ensures.value) e.lines_at_most_bytes;
      no_overflow_of_light_texts = rw (← c.as_bytes.ensures.value) e.no_overflow_of_light_texts;
      no_overflow_without_notebooks = e.no_overflow_without_notebooks;
      never_refused_without_openers = rw (← c.as_bytes.ensures.value) e.never_refused_without_openers;
      overflow = rw (← c.as_bytes.ensures.value) e.overflow;
    }
