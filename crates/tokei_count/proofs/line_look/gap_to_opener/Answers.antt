use Rattle.std.proofs.Common.{◌≡◌, ◌+◌, false, drop, sym, ◌∙◌, arith}
use lib.Count.{count_trailing_zeros}
use Rattle.tokei_table_row.specs.Bytes.{begins_with_one}
use Rattle.tokei_count.proofs.LookedAhead.{clear_from, unset}
use Rattle.tokei_count.proofs.SetBits.{all_done, first_within, past_first, unset_first}
use Rattle.tokei_count.proofs.line_look.gap_to_opener.Goals as goal

pub returns-then-marked-eq0-clause-clear : goal.returns-then-marked-eq0-clause-clear
returns-then-marked-eq0-clause-clear c = λ few.
    clear_from c.args.matchers.now.openers c.args.text.now c.args.from 32 (λ k low. c.requires.others k low (unset c.args.marked k c.if-marked-eq0.true))

pub opener_stands-requires : goal.opener_stands-requires
opener_stands-requires c = omega (arith, c.requires.within, first_within c.args.marked c.requires.small c.if-marked-eq0.false)

pub returns-then-opener_stands-clause-clear : goal.returns-then-opener_stands-clause-clear
returns-then-opener_stands-clause-clear c = λ few.
    clear_from c.args.matchers.now.openers c.args.text.now c.args.from _
    (λ k low. c.requires.others k (omega (arith, low, first_within c.args.marked c.requires.small c.if-marked-eq0.false)) (unset_first c.args.marked c.requires.small c.if-marked-eq0.false k low))

pub returns-then-marked-first-eq0-clause-clear : goal.returns-then-marked-first-eq0-clause-clear
returns-then-marked-first-eq0-clause-clear c = λ few.
    let first = count_trailing_zeros 64 c.args.marked in
    clear_from c.args.matchers.now.openers c.args.text.now c.args.from 32
    (all_done (λ k. begins_with_one c.args.matchers.now.openers (drop (c.args.from + k) c.args.text.now) ≡ false) c.args.marked (first + 1) c.requires.small c.requires.others
    (past_first c.args.marked c.requires.small c.if-marked-eq0.false (λ k. begins_with_one c.args.matchers.now.openers (drop (c.args.from + k) c.args.text.now) ≡ false) c.requires.others
    (sym c.opener_stands.ensures ∙ c.if-opener_stands.false))
    c.if-marked-first-eq0.true)

pub overflow_shr-marked : goal.overflow_shr-marked
overflow_shr-marked c = omega (arith, first_within c.args.marked c.requires.small c.if-marked-eq0.false)
