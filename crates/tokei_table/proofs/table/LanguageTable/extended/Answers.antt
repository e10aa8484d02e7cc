use Rattle.std.proofs.Common.{◌≡◌, ◌∙◌, ap, map, sym, length}
use Rattle.std.proofs.lemmas.Bool.Decides.{Decides-eqb}
use Rattle.std.proofs.lemmas.List.{nil_from_length}
use Rattle.std.proofs.lemmas.Result.{IfOk-weaker}
use Rattle.tokei_table_rules.specs.Extended.{addition_of, extended}
use Rattle.tokei_table_row.specs.RowOf.{row_of}
use Rattle.tokei_table.proofs.ExtendedTables.{extended_well_formed, same_well_formed, extended_by_none}
use Rattle.tokei_table.proofs.table.LanguageTable.extended.Goals as goal

pub of_rows-requires : goal.of_rows-requires
of_rows-requires c =
    let before = map row_of c.rows.result.now in
    same_well_formed (map row_of c.in_ok-rows.rows.items)
    (extended before (map addition_of c.args.additions.now)) c.in_ok-rows.ensures
    (extended_well_formed (map addition_of c.args.additions.now) before
    (same_well_formed before _ (c.rows.ensures ∙ c.as_ref.ensures) c.self.invariant))

pub returns-then-is_empty : goal.returns-then-is_empty
returns-then-is_empty c =
    let none : length c.args.additions.now ≡ 0 =
    (Decides-eqb (length c.args.additions.now) 0).0 (sym c.is_empty.ensures ∙ c.if-is_empty.true) in
    IfOk-weaker c.shared.result (λ t. t ≡ c.args.self.now)
    (λ t. t ≡ extended c.args.self.now (map addition_of c.args.additions.now))
    (λ t e. e ∙ sym (extended_by_none c.args.self.now (map addition_of c.args.additions.now)
    (ap (map addition_of) (nil_from_length c.args.additions.now none)))) c.shared.ensures
