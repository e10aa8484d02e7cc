use Rattle.std.proofs.Common.{◌≡◌, true, false, ap, sym, ◌∙◌}
use Rattle.tokei_table_row.specs.FirstRows.{has_name}
use Rattle.tokei_table_row.specs.RowOf.{row_of}
use Rattle.tokei_table_rules.proofs.EarlierNames.{sharing_key, sharing_name, own_key, own_name}
use Rattle.tokei_table_rules.proofs.names.shared_name.Goals as goal

pub returns-then-has_name : goal.returns-then-has_name
returns-then-has_name c =
    let row = row_of c.args.row.now in
    let other = row_of c.args.other.now in
    let known : has_name row.key other ≡ true =
    ap (λ w. has_name w other) (sym c.as_bytes.ensures.value) ∙ sym c.has_name.ensures ∙ c.if-has_name.true in
    record {
      found = sharing_key row other known;
      shared = (
        ap (λ w. has_name w row) c.as_str.ensures.value ∙ own_key row,
        ap (λ w. has_name w other) c.as_str.ensures.value ∙ known,
      );
    }

pub returns-then-has_name-2 : goal.returns-then-has_name-2
returns-then-has_name-2 c =
    let row = row_of c.args.row.now in
    let other = row_of c.args.other.now in
    let unknown : has_name row.key other ≡ false =
    ap (λ w. has_name w other) (sym c.as_bytes.ensures.value) ∙ sym c.has_name.ensures ∙ c.if-has_name.false in
    let known : has_name row.name other ≡ true =
    ap (λ w. has_name w other) (sym c.as_bytes-else-has_name.ensures.value)
    ∙ sym c.has_name-else-has_name.ensures
    ∙ c.if-has_name-2.true in
    record {
      found = sharing_name row other true unknown known;
      shared = (
        ap (λ w. has_name w row) c.as_str-then-has_name-2.ensures.value ∙ own_name row,
        ap (λ w. has_name w other) c.as_str-then-has_name-2.ensures.value ∙ known,
      );
    }

pub returns-else-has_name-2 : goal.returns-else-has_name-2
returns-else-has_name-2 c =
    let row = row_of c.args.row.now in
    let other = row_of c.args.other.now in
    record {
      found = sharing_name row other false
          (ap (λ w. has_name w other) (sym c.as_bytes.ensures.value) ∙ sym c.has_name.ensures ∙ c.if-has_name.false)
          (ap (λ w. has_name w other) (sym c.as_bytes-else-has_name.ensures.value)
          ∙ sym c.has_name-else-has_name.ensures
          ∙ c.if-has_name-2.false);
      shared = tt;
    }
