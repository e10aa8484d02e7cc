use Rattle.std.proofs.Common.{map, refl, ap, subst, ◌∙◌}
use Rattle.tokei_table_row.specs.RowOf.{row_of}
use Rattle.tokei_table_rules.specs.PathSuffixes.{suffix_tails, has_short_suffix}
use Rattle.std.specs.List.{list_any}
use Rattle.tokei_table_rules.specs.TextIndex.{AreGroups, entries_from, names, lowered_name}
use Rattle.tokei_table_rules.proofs.indexed_rows.IndexedRows.new.Goals as goal

pub invariant_of-result : goal.invariant_of-result
invariant_of-result c = record {
  by_name = subst (λ rows. AreGroups (entries_from names 0 (map row_of rows)) c.in_ok-by_name.by_name)
      c.deref.ensures.value c.in_ok-by_name.ensures.first;
  by_lowered_name = subst (λ rows. AreGroups (entries_from lowered_name 0 (map row_of rows)) c.in_ok-by_name.by_lowered_name)
      c.deref.ensures.value c.in_ok-by_name.ensures.second;
  by_extension = subst (λ rows. AreGroups (entries_from (λ r. r.extensions) 0 (map row_of rows)) c.in_ok-by_extension.by_extension)
      c.deref-2.ensures.value c.in_ok-by_extension.ensures;
  by_filename = subst (λ rows. AreGroups (entries_from (λ r. r.filenames) 0 (map row_of rows)) c.in_ok-by_filename.by_filename)
      c.deref-3.ensures.value c.in_ok-by_filename.ensures.first;
  by_suffix_tail = subst (λ rows. AreGroups (entries_from suffix_tails 0 (map row_of rows)) c.in_ok-by_filename.by_suffix_tail)
      c.deref-3.ensures.value c.in_ok-by_filename.ensures.second;
  short_suffix = c.has_short_suffix-short_suffix.ensures
      ∙ ap (λ rows. list_any has_short_suffix (map row_of rows)) c.deref-4.ensures.value;
}

pub returns : goal.returns
returns c = refl
