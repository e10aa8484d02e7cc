use Rattle.std.proofs.Common.{◌≡◌, ◌++◌, ◌∷◌, [], Some, option_map, refl, sym, ◌∙◌, ap, subst}
use Rattle.json.specs.Json.{null, read_key, value}
use Rattle.json.specs.declared.value.Value.{Null}
use Rattle.tokei_json_tree.specs.Emptied.{any, are_counted, emptied}
use Rattle.tokei_json_tree.specs.Numbers.{is_count, numbers_pass}
use Rattle.tokei_json_tree.specs.Tokens.{itself}
use Rattle.tokei_json_tree.proofs.EmptiedMembers.{named_counted, named_emptied, null_read, other_counted, other_emptied}
use Rattle.tokei_json_tree.proofs.MadeSoFar.{member_made, members_made, none_made}
use Rattle.tokei_json_tree.proofs.without.put_members.Goals as goal

pub loop-key-init : goal.loop-key-init
loop-key-init c = none_made (value c.args.depth) (are_counted c.args.name.now) (emptied c.args.name.now) c.args.reader.now c.args.made.now.items c.requires

pub loop-key-preserved-then-eq : goal.loop-key-preserved-then-eq
loop-key-preserved-then-eq c =
    let l = c.loop-key in
    let k = c.in-Ok-Some.key in
    let key : read_key l.reader ≡ Some (Some k.now, c.next_key.new.self) =
    subst (λ o. read_key l.reader ≡ Some (option_map (λ s. s.now) o, c.next_key.new.self)) c.in-Ok-Some.field-0-is c.in-Ok-Some.ensures.value in
    let longer : c.push_reserved.new.self.items ≡ l.made.items ++ (k, Null) ∷ [] =
    c.push_reserved.ensures.items ∙ ap (λ xs. xs ++ (k, Null) ∷ []) c.reserve.ensures.items in
    let named = sym c.eq.ensures ∙ c.if-eq.true in
    member_made l.invariant c.pass_value.new.reader k.now key (c.pass_value.ensures.shorter c.if-not-pass_value.false) (numbers_pass is_count)
    (named_counted c.args.name.now k.now named) (λ j. null) (k, Null) c.push_reserved.new.self.items refl longer
    (null_read _ (c.pass_value.ensures.passed c.if-not-pass_value.false)) (named_emptied c.args.name.now k.now named)

pub loop-key-preserved : goal.loop-key-preserved
loop-key-preserved c =
    let l = c.loop-key in
    let k = c.in-Ok-Some.key in
    let v = c.in_ok-value-in-Ok-Some.value in
    let key : read_key l.reader ≡ Some (Some k.now, c.next_key.new.self) =
    subst (λ o. read_key l.reader ≡ Some (option_map (λ s. s.now) o, c.next_key.new.self)) c.in-Ok-Some.field-0-is c.in-Ok-Some.ensures.value in
    let longer : c.push_reserved-else-eq.new.self.items ≡ l.made.items ++ (k, v) ∷ [] =
    c.push_reserved-else-eq.ensures.items ∙ ap (λ xs. xs ++ (k, v) ∷ []) c.reserve.ensures.items in
    let other = sym c.eq.ensures ∙ c.if-eq.false in
    member_made l.invariant c.read_value.new.reader k.now key c.in_ok-value-in-Ok-Some.ensures.shorter any (other_counted c.args.name.now k.now other) itself
    (k, v) c.push_reserved-else-eq.new.self.items refl longer c.in_ok-value-in-Ok-Some.ensures.read (other_emptied c.args.name.now k.now other)

pub returns-in-Ok-None : goal.returns-in-Ok-None
returns-in-Ok-None c =
    let l = c.loop-key in
    members_made l.invariant c.next_key.new.self
    (subst (λ o. read_key l.reader ≡ Some (option_map (λ s. s.now) o, c.next_key.new.self)) c.in-Ok-None.field-0-is c.in-Ok-None.ensures.value) refl refl
