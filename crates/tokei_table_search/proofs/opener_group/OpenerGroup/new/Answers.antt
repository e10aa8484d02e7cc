use Rattle.std.proofs.Common.{◌∙◌, ◌∷◌, ◌||◌, ap, false, length, string_bytes}
use Rattle.std.proofs.lemmas.List.{length-replicate}
use Rattle.std.specs.List.{list_any}
use Rattle.tokei_bytes.specs.ByteSets.{is_in}
use Rattle.tokei_table_row.specs.Bytes.{begins_with_one}
use Rattle.tokei_table_row.specs.FirstOpener.{is_nonempty}
use Rattle.tokei_table_row.specs.RowOf.{tokens_of}
use Rattle.tokei_table_search.specs.OpenerGroups.{goes_on_behind, is_whole_behind}
use Rattle.tokei_table_search.proofs.OpenerGroups.{none_yet, any_more, own_more, own_none, own_all, any_all, nonempty_at}
use Rattle.tokei_table_search.proofs.opener_group.OpenerGroup.new.Goals as goal

pub loop-opener-init : goal.loop-opener-init
loop-opener-init c =
    let openers = tokens_of c.args.openers.now in
    record {
      seconds_long = ap length c.empty.ensures ∙ length-replicate 256 false;
      wholes_long = ap length c.empty-2.ensures ∙ length-replicate 256 false;
      seconds_each = λ y l.
          none_yet c.empty.result y (list_any (goes_on_behind c.args.byte y) openers) c.empty.ensures l;
      wholes_each = λ y l.
          none_yet c.empty-2.result y (list_any (is_whole_behind c.args.byte y) openers) c.empty-2.ensures l;
      own = λ t.
          let text = c.args.byte ∷ t in
          ap (λ os. begins_with_one (tokens_of os) text || begins_with_one openers text) c.new.ensures.items
          ∙ own_none text (begins_with_one openers text);
    }

pub loop-opener-preserved : goal.loop-opener-preserved
loop-opener-preserved c =
    let openers = c.args.openers.now in
    let i = c.loop-opener.opener-index in
    let known = c.loop-opener.invariant in
    let byte = c.args.byte in
    let here = c.as_bytes.ensures.value ∙ ap string_bytes c.opener-item.is in
    record {
      seconds_long = c.add_opener.ensures.seconds_long;
      wholes_long = c.add_opener.ensures.wholes_long;
      seconds_each = λ y l.
          any_more (goes_on_behind byte y) openers i c.opener-item.result c.loop-opener-test.true c.as_bytes.result.now here
          (is_in c.loop-opener.group.seconds y) (is_in c.add_opener.new.seconds y)
          (list_any (goes_on_behind byte y) (tokens_of openers)) (c.add_opener.ensures.seconds y l) (known.seconds_each y l);
      wholes_each = λ y l.
          any_more (is_whole_behind byte y) openers i c.opener-item.result c.loop-opener-test.true c.as_bytes.result.now here
          (is_in c.loop-opener.group.wholes y) (is_in c.add_opener.new.wholes y)
          (list_any (is_whole_behind byte y) (tokens_of openers)) (c.add_opener.ensures.wholes y l) (known.wholes_each y l);
      own = λ t.
          own_more openers i c.opener-item.result c.loop-opener-test.true c.as_str.result.now (byte ∷ t)
          (c.as_str.ensures.value ∙ ap string_bytes c.opener-item.is)
          (begins_with_one (tokens_of c.loop-opener.group.openers.items) (byte ∷ t))
          (begins_with_one (tokens_of c.add_own.new.own.items) (byte ∷ t)) (c.in_ok-add_own.ensures t) (known.own t);
    }

pub returns : goal.returns
returns c =
    let known = c.loop-opener.invariant in
    let i = c.loop-opener.opener-index in
    let openers = c.args.openers.now in
    record {
      nonempty = c.requires;
      seconds =
          record {
            all = known.seconds_long;
            each = λ y l.
                any_all (goes_on_behind c.args.byte y) openers i c.loop-opener-test.false (is_in c.loop-opener.group.seconds y)
                (list_any (goes_on_behind c.args.byte y) (tokens_of openers)) (known.seconds_each y l);
          };
      wholes =
          record {
            all = known.wholes_long;
            each = λ y l.
                any_all (is_whole_behind c.args.byte y) openers i c.loop-opener-test.false (is_in c.loop-opener.group.wholes y)
                (list_any (is_whole_behind c.args.byte y) (tokens_of openers)) (known.wholes_each y l);
          };
      own = λ t.
          own_all openers i c.loop-opener-test.false (c.args.byte ∷ t)
          (begins_with_one (tokens_of c.loop-opener.group.openers.items) (c.args.byte ∷ t))
          (begins_with_one (tokens_of openers) (c.args.byte ∷ t)) (known.own t);
    }

pub add_own-requires : goal.add_own-requires
add_own-requires c =
    ap is_nonempty (c.as_str.ensures.value ∙ ap string_bytes c.opener-item.is)
    ∙ nonempty_at c.args.openers.now c.loop-opener.opener-index c.opener-item.result c.loop-opener-test.true c.requires
