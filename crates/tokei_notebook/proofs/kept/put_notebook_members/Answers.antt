use Rattle.std.proofs.Common.{◌≡◌, ◌++◌, ◌∷◌, [], Some, option_map, refl, sym, ◌∙◌, ap, subst}
use Rattle.json.specs.Json.{read_key, value}
use Rattle.tokei_json_tree.specs.Unordered.{is_in_range, are_members_in_range}
use Rattle.tokei_json_tree.specs.Tokens.{itself}
use Rattle.tokei_notebook.specs.Kept.{kept_of_cells, kept_in_notebook}
use Rattle.tokei_notebook.proofs.KeptMembers.{cells_kept, metadata_kept, other_passed}
use Rattle.tokei_json_tree.proofs.MadeSoFar.{member_made, member_passed_over, members_in_range, members_made, none_made}
use Rattle.tokei_notebook.proofs.kept.put_notebook_members.Goals as goal

pub loop-key-init : goal.loop-key-init
loop-key-init c = none_made (value c.args.depth) are_members_in_range kept_in_notebook c.args.reader.now c.args.made.now.items c.requires

pub loop-key-preserved-then-eq : goal.loop-key-preserved-then-eq
loop-key-preserved-then-eq c =
    let l = c.loop-key in
    let k = c.in-Ok-Some.key in
    let v = c.in_ok-cells-in-Ok-Some.cells in
    let key : read_key l.reader ≡ Some (Some k.now, c.next_key.new.self) =
    subst (λ o. read_key l.reader ≡ Some (option_map (λ s. s.now) o, c.next_key.new.self)) c.in-Ok-Some.field-0-is c.in-Ok-Some.ensures.value in
    let longer : c.push_reserved.new.self.items ≡ l.made.items ++ (k, v) ∷ [] =
    c.push_reserved.ensures.items ∙ ap (λ xs. xs ++ (k, v) ∷ []) c.reserve.ensures.items in
    member_made l.invariant c.read_cells.new.reader k.now key c.in_ok-cells-in-Ok-Some.ensures.shorter is_in_range (members_in_range k.now)
    kept_of_cells (k, v) c.push_reserved.new.self.items refl longer
    c.in_ok-cells-in-Ok-Some.ensures.read (λ j ms. cells_kept k.now j ms (sym c.eq.ensures ∙ c.if-eq.true))

pub loop-key-preserved-then-eq-2 : goal.loop-key-preserved-then-eq-2
loop-key-preserved-then-eq-2 c =
    let l = c.loop-key in
    let k = c.in-Ok-Some.key in
    let v = c.in_ok-metadata-in-Ok-Some.metadata in
    let key : read_key l.reader ≡ Some (Some k.now, c.next_key.new.self) =
    subst (λ o. read_key l.reader ≡ Some (option_map (λ s. s.now) o, c.next_key.new.self)) c.in-Ok-Some.field-0-is c.in-Ok-Some.ensures.value in
    let longer : c.push_reserved-then-eq-2.new.self.items ≡ l.made.items ++ (k, v) ∷ [] =
    c.push_reserved-then-eq-2.ensures.items ∙ ap (λ xs. xs ++ (k, v) ∷ []) c.reserve-then-eq-2.ensures.items in
    member_made l.invariant c.read_value.new.reader k.now key c.in_ok-metadata-in-Ok-Some.ensures.shorter is_in_range (members_in_range k.now)
    itself (k, v) c.push_reserved-then-eq-2.new.self.items refl longer
    c.in_ok-metadata-in-Ok-Some.ensures.read
    (λ j ms. metadata_kept k.now j ms (sym c.eq.ensures ∙ c.if-eq.false) (sym c.eq-else-eq.ensures ∙ c.if-eq-2.true))

pub loop-key-preserved : goal.loop-key-preserved
loop-key-preserved c =
    let l = c.loop-key in
    let k = c.in-Ok-Some.key in
    let key : read_key l.reader ≡ Some (Some k.now, c.next_key.new.self) =
    subst (λ o. read_key l.reader ≡ Some (option_map (λ s. s.now) o, c.next_key.new.self)) c.in-Ok-Some.field-0-is c.in-Ok-Some.ensures.value in
    member_passed_over l.invariant c.pass_value.new.reader k.now key (c.pass_value.ensures.shorter c.if-not-pass_value.false) is_in_range (members_in_range k.now)
    (c.pass_value.ensures.passed c.if-not-pass_value.false)
    (λ j ms. other_passed k.now j ms (sym c.eq.ensures ∙ c.if-eq.false) (sym c.eq-else-eq.ensures ∙ c.if-eq-2.false))

pub returns-in-Ok-None : goal.returns-in-Ok-None
returns-in-Ok-None c =
    let l = c.loop-key in
    members_made l.invariant c.next_key.new.self
    (subst (λ o. read_key l.reader ≡ Some (option_map (λ s. s.now) o, c.next_key.new.self)) c.in-Ok-None.field-0-is c.in-Ok-None.ensures.value) refl refl
