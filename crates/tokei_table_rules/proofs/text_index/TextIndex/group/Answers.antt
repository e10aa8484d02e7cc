use Rattle.std.proofs.Common.{◌≡◌, ◌<◌, [], ap, ◌∙◌, get_or, arith}
use Rattle.std.specs.List.{slice_range}
use Rattle.tokei_table_rules.specs.TextIndex.{begin_at}
use Rattle.tokei_table_rules.proofs.TextGroups.{begin_first_part, begin_later_part, part_bounds, part_within, part_read}
use Rattle.tokei_table_rules.proofs.text_index.TextIndex.group.Goals as goal
use Rattle.tokei_table_rules.proofs.text_index.TextIndex.group.Goals.{then-group-eq0, else-group-eq0}

pub returns : goal.returns
returns c =
    let ends = c.self.inside.ends.items in
    let g = c.from-group.result in
    let b = c.if-group-eq0.begin in
    let e = c.index-2.result.now in
    let below : g < 256 = omega arith in
    let begins : b ≡ begin_at ends g = elim c.if-group-eq0.branch [
      | then-group-eq0 w ↦ begin_first_part ends g b w.if-group-eq0.true w.begin-is
      | else-group-eq0 w ↦ w.begin-is
          ∙ begin_later_part ends g w.index.result.now c.self.invariant.all below w.if-group-eq0.false w.index.ensures
    ] in
    ap (λ places. slice_range places b e) c.deref.ensures.value
    ∙ part_read ends c.self.inside.places.items g b e c.self.invariant.all below begins c.index-2.ensures
    ∙ ap (λ groups. get_or groups g []) c.self.view_is
    ∙ ap (λ n. get_or c.args.self.now n []) c.from-group.ensures

pub slice_bounds-result-count : goal.slice_bounds-result-count
slice_bounds-result-count c =
    let ends = c.self.inside.ends.items in
    let g = c.from-group.result in
    let below : g < 256 = omega arith in
    let begins : c.if-group-eq0.begin ≡ begin_at ends g = elim c.if-group-eq0.branch [
      | then-group-eq0 w ↦ begin_first_part ends g c.if-group-eq0.begin w.if-group-eq0.true w.begin-is
      | else-group-eq0 w ↦ w.begin-is
          ∙ begin_later_part ends g w.index.result.now c.self.invariant.all below w.if-group-eq0.false w.index.ensures
    ] in
    part_bounds ends c.self.inside.places.items g c.if-group-eq0.begin c.index-2.result.now below c.self.invariant begins
    c.index-2.ensures

pub offset_bounds-deref-begin : goal.offset_bounds-deref-begin
offset_bounds-deref-begin c =
    let ends = c.self.inside.ends.items in
    let g = c.from-group.result in
    let below : g < 256 = omega arith in
    let begins : c.if-group-eq0.begin ≡ begin_at ends g = elim c.if-group-eq0.branch [
      | then-group-eq0 w ↦ begin_first_part ends g c.if-group-eq0.begin w.if-group-eq0.true w.begin-is
      | else-group-eq0 w ↦ w.begin-is
          ∙ begin_later_part ends g w.index.result.now c.self.invariant.all below w.if-group-eq0.false w.index.ensures
    ] in
    let bounds = part_bounds ends c.self.inside.places.items g c.if-group-eq0.begin c.index-2.result.now below
    c.self.invariant begins c.index-2.ensures in
    let within = part_within ends c.self.inside.places.items g c.index-2.result.now below c.self.invariant
    c.index-2.ensures in
    omega (arith, bounds, within)
