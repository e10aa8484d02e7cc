use Rattle.std.proofs.Common.{◌≡◌, subst}
use Rattle.std.proofs.lemmas.Result.{on_ok_weaker}
use Rattle.serde_json.specs.Data.{no_members, member}
use Rattle.tokei_json.specs.Members.{member_data}
use Rattle.tokei_json.specs.Tokens.{members_by}
use Rattle.tokei_json.proofs.Naming.{seen_by, ascend}
use Rattle.tokei_json.proofs.Writing.{lacks_all, lacks_fewer, object_written, LacksMembers}
use Rattle.tokei_languages.specs.Seen.{languages_of}
use Rattle.tokei_json.proofs.text.write_document.Goals as goal

pub loop-name-init : goal.loop-name-init
loop-name-init c = lacks_all _ _

pub loop-name-preserved : goal.loop-name-preserved
loop-name-preserved c =
    let l = c.loop-name in
    let f = member_data c.args.counted.now.table.now (languages_of c.args.counted.now.languages.now) in
    let d = f c.in-Some.member.now in
    let all = members_by f (seen_by (λ x. x) c.into_iter-name-iterator.result) in
    let left : LacksMembers all (member c.in-Some.name.now.now d (members_by f (seen_by (λ x. x) c.next.new.self))) c.begin_object.new.self l.out =
    subst (λ fs. LacksMembers all (members_by f (seen_by (λ x. x) fs)) c.begin_object.new.self l.out) c.in-Some.ensures.steps l.invariant in
    lacks_fewer all c.in-Some.name.now.now d (members_by f (seen_by (λ x. x) c.next.new.self)) c.begin_object.new.self l.out c.write_member.new.out left
    c.in_ok-write_member.ensures

pub returns : goal.returns
returns c =
    let l = c.loop-name in
    let f = member_data c.args.counted.now.table.now (languages_of c.args.counted.now.languages.now) in
    let entries = c.args.members.now.entries in
    let all = members_by f (seen_by (λ x. x) entries) in
    let begun : c.into_iter-name-iterator.result ≡ entries = c.into_iter-name-iterator.ensures.into_iter_gives.0 in
    let left : LacksMembers all no_members c.begin_object.new.self l.out =
    subst (λ fs. LacksMembers all (members_by f (seen_by (λ x. x) fs)) c.begin_object.new.self l.out) c.in-None.ensures.steps.0
    (subst (λ fs. LacksMembers (members_by f (seen_by (λ x. x) fs)) (members_by f (seen_by (λ x. x) l.name-iterator)) c.begin_object.new.self l.out) begun l.invariant) in
    on_ok_weaker c.end_object.result (λ e.
    object_written all c.args.out.now c.begin_object.new.self l.out c.end_object.new.self (ascend (λ x. x) f entries c.into_iter-name-iterator.ensures.into_iter_gives.5)
    c.in_ok-begin_object.ensures.ok c.in_ok-begin_object.ensures.room.0 left e c.end_object.ensures.room.0) c.end_object.ensures.ok
