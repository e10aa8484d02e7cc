use Rattle.std.proofs.Common.{◌≡◌, ◌++◌, ◌∷◌, [], Some, option_map, refl, sym, ◌∙◌, ap, subst}
use Rattle.json.specs.Json.{read_key, value}
use Rattle.tokei_json_tree.specs.Unordered.{is_in_range, are_members_in_range}
use Rattle.tokei_json_tree.specs.Tokens.{itself}
use Rattle.tokei_notebook.specs.Kept.{kept_in_cell}
use Rattle.tokei_notebook.proofs.KeptMembers.{member_kept, member_passed}
use Rattle.tokei_json_tree.proofs.MadeSoFar.{member_made, member_passed_over, members_in_range, members_made, none_made}
use Rattle.tokei_notebook.proofs.kept.put_cell_members.Goals as goal

pub loop-key-init : goal.loop-key-init
loop-key-init c = none_made (value c.args.depth) are_members_in_range kept_in_cell c.args.reader.now c.args.made.now.items c.requires

pub loop-key-preserved-then-is_kept_in_cell : goal.loop-key-preserved-then-is_kept_in_cell
loop-key-preserved-then-is_kept_in_cell c =
    let l = c.loop-key in
    let k = c.in-Ok-Some.key in
    let v = c.in_ok-value-in-Ok-Some.value in
    let key : read_key l.reader ≡ Some (Some k.now, c.next_key.new.self) =
    subst (λ o. read_key l.reader ≡ Some (option_map (λ s. s.now) o, c.next_key.new.self)) c.in-Ok-Some.field-0-is c.in-Ok-Some.ensures.value in
    let longer : c.push_reserved.new.self.items ≡ l.made.items ++ (k, v) ∷ [] =
    c.push_reserved.ensures.items ∙ ap (λ xs. xs ++ (k, v) ∷ []) c.reserve.ensures.items in
    member_made l.invariant c.read_value.new.reader k.now key c.in_ok-value-in-Ok-Some.ensures.shorter is_in_range (members_in_range k.now)
    itself (k, v) c.push_reserved.new.self.items refl longer
    c.in_ok-value-in-Ok-Some.ensures.read (λ j ms. member_kept k.now j ms (sym c.is_kept_in_cell.ensures ∙ c.if-is_kept_in_cell.true))

pub loop-key-preserved : goal.loop-key-preserved
loop-key-preserved c =
    let l = c.loop-key in
    let k = c.in-Ok-Some.key in
    let key : read_key l.reader ≡ Some (Some k.now, c.next_key.new.self) =
    subst (λ o. read_key l.reader ≡ Some (option_map (λ s. s.now) o, c.next_key.new.self)) c.in-Ok-Some.field-0-is c.in-Ok-Some.ensures.value in
    member_passed_over l.invariant c.pass_value.new.reader k.now key (c.pass_value.ensures.shorter c.if-not-pass_value.false) is_in_range (members_in_range k.now)
    (c.pass_value.ensures.passed c.if-not-pass_value.false)
    (λ j ms. member_passed k.now j ms (sym c.is_kept_in_cell.ensures ∙ c.if-is_kept_in_cell.false))

pub returns-in-Ok-None-clause-read : goal.returns-in-Ok-None-clause-read
returns-in-Ok-None-clause-read c =
    let l = c.loop-key in
    members_made l.invariant c.next_key.new.self
    (subst (λ o. read_key l.reader ≡ Some (option_map (λ s. s.now) o, c.next_key.new.self)) c.in-Ok-None.field-0-is c.in-Ok-None.ensures.value) refl refl
