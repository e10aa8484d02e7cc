use Rattle.std.proofs.Common.{◌≡◌, ◌+◌, [], sym, ap, ◌∙◌, subst, drop}
use Rattle.json.specs.Value.{members_view}
use Rattle.tokei_earlier.specs.Reading.{with_languages}
use Rattle.tokei_json_tree.specs.TreeData.{members_data}
use Rattle.tokei_languages.specs.Seen.{languages_of}
use Rattle.tokei_json_tree.proofs.Left.{from, none_left}
use Rattle.tokei_earlier.proofs.read.with_languages.Goals as goal

pub put_language-requires : goal.put_language-requires
put_language-requires c = (from c.loop-member.invariant c.member-item.result c.loop-member-test.true c.member-item.is).ordered.0

pub loop-member-preserved : goal.loop-member-preserved
loop-member-preserved c =
    let n = from c.loop-member.invariant c.member-item.result c.loop-member-test.true c.member-item.is in
    let behind = members_data (members_view (drop (c.loop-member.member-index + 1) c.deref-member-items.result.now)) in
    record {
      same = n.same ∙ ap (λ es. with_languages c.args.table.now behind es) (sym c.in_ok-put_language.ensures.ok);
      ordered = n.ordered.1;
    }

pub returns-clause-ok : goal.returns-clause-ok
returns-clause-ok c =
    let read = languages_of c.loop-member.languages in
    sym (subst (λ ys. with_languages c.args.table.now (members_data (members_view ys)) [] ≡ read) c.deref-member-items.ensures.value
    (none_left c.loop-member.invariant c.loop-member-test.false))
