use Rattle.std.proofs.Common.{◌≡◌, ℕ, ◌≤◌, ◌<◌, ◌+◌, true, List, drop, length, sym, subst, ap, ◌∙◌, refl, arith}
use Rattle.std.specs.Global.{Vec}
use Rattle.tokei_parts.specs.Glance.{is_walked}
use Rattle.tokei_parts.specs.LineWalk.{chain_in, item_in}
use Rattle.tokei_parts.specs.SeenChoices.{mode_of}
use Rattle.tokei_table_row.specs.Bytes.{line_len}
use Rattle.tokei_parts.specs.Modes.{innermost}
use Rattle.tokei_parts.specs.ReadingOf.{line_from, openers_in}
use Rattle.tokei_parts.specs.Seen.{chain_of}
use Rattle.tokei_parts.specs.declared.items.Enclosure.{Enclosure}
use Rattle.tokei_count.specs.UnderWay.{IsUnderWay}
use Rattle.tokei_count.specs.declared.text_reading.ReadSoFar.{ReadSoFar}
use Rattle.tokei_count.proofs.NearOpeners.{of_line}
use Rattle.tokei_count.proofs.Refusals.{answered}
use Rattle.tokei_count.proofs.Skipping.{goes_on, goes_past, item_is, less_left, no_chain, no_item, no_item_is, one_item, walked_within}
use Rattle.tokei_count.proofs.UnderWay.{unwalked, walked_behind}
use Rattle.tokei_count.proofs.line_reading.read_lines.Goals as goal
use Rattle.tokei_count.proofs.line_reading.read_lines.Goals.{After-end_behind-end, in-None+in_ok-to-in-None+else-text-to, in-Some+in_ok-clear-in-Some}

-- the item that the walk begins with is the innermost one
last_item : (c : After-end_behind-end) → mode_of (item_in c.line_item-item.result) ≡ innermost (chain_of c.loop-so_far.so_far.stack.items)
last_item c = c.line_item-item.ensures ∙ ap (λ (s : List Enclosure). innermost (chain_of s)) c.deref.ensures.value

-- the line is walked
walked : (c : After-end_behind-end)
    → is_walked (openers_in c.args.reading.now) (innermost (chain_of c.match-item.so_far.stack.items)) (line_from c.args.reading.now c.match-item.so_far.start) ≡ true
walked c =
    let r = c.args.reading.now in elim c.match-item.branch [
      | in-None+in_ok-to-in-None+else-text-to w ↦
          let e = w.in_ok-to-in-None.ensures in
          let q : ReadSoFar = w.count_lines_ahead.new.so_far in
          let to = w.in_ok-to-in-None.to in
          let inside : to < length r.text.now = omega (arith, w.if-text-to.false) in
          subst (λ (p : ReadSoFar). is_walked (openers_in r) (innermost (chain_of p.stack.items)) (line_from r p.start) ≡ true) (sym w.so_far-is)
          (walked_behind r q to e.under_way e.plain (e.next inside) (of_line r.text.now q.start to (e.high inside) inside (e.line inside)))
      | in-Some+in_ok-clear-in-Some w ↦
          subst (λ (p : ReadSoFar). is_walked (openers_in r) (innermost (chain_of p.stack.items)) (line_from r p.start) ≡ true) (sym w.so_far-is)
          (walked_within _ _ _ _ (ap mode_of (sym (item_is c.line_item-item.result w.in-Some.kind w.in-Some.is)) ∙ last_item c
          ∙ ap (λ (v : Vec Enclosure). innermost (chain_of v.items)) (sym w.in_ok-clear-in-Some.ensures.same)) refl)
    ]

under_way : (c : After-end_behind-end) → IsUnderWay c.args.reading.now c.match-item.so_far
under_way c = elim c.match-item.branch [
  | in-None+in_ok-to-in-None+else-text-to w ↦ subst (IsUnderWay c.args.reading.now) (sym w.so_far-is) w.in_ok-to-in-None.ensures.under_way
  | in-Some+in_ok-clear-in-Some w ↦ subst (IsUnderWay c.args.reading.now) (sym w.so_far-is) w.in_ok-clear-in-Some.ensures.under_way
]

-- the lines so far lie behind those before
later : (c : After-end_behind-end) → c.loop-so_far.so_far.start ≤ c.match-item.so_far.start
later c = elim c.match-item.branch [
  | in-None+in_ok-to-in-None+else-text-to w ↦ subst (λ (p : ReadSoFar). c.loop-so_far.so_far.start ≤ p.start) (sym w.so_far-is) w.in_ok-to-in-None.ensures.low
  | in-Some+in_ok-clear-in-Some w ↦ subst (λ (p : ReadSoFar). c.loop-so_far.so_far.start ≤ p.start) (sym w.so_far-is) w.in_ok-clear-in-Some.ensures.low
]

pub count_lines_ahead-requires : goal.count_lines_ahead-requires
count_lines_ahead-requires c = record {
  skips = c.requires.skips;
  marks = c.requires.marks;
  under_way = c.loop-so_far.invariant.under_way;
  plain = no_chain (chain_of c.loop-so_far.so_far.stack.items) (ap mode_of (sym (no_item_is c.line_item-item.result c.in-None.is)) ∙ c.line_item-item.ensures
      ∙ ap (λ (s : List Enclosure). innermost (chain_of s)) c.deref.ensures.value);
}

pub returns-then-text-to : goal.returns-then-text-to
returns-then-text-to c =
    let e = c.in_ok-to-in-None.ensures in record {
      under_way = e.under_way;
      low = goes_on c.args.so_far.now.start c.loop-so_far.so_far.start c.count_lines_ahead.new.so_far.start c.loop-so_far.invariant.low e.low;
      quiet = λ none. refl;
      overflow = λ is fits. answered _ _ is;
    }

pub returns-in_err-clear-in-Some-clause-quiet : goal.returns-in_err-clear-in-Some-clause-quiet
returns-in_err-clear-in-Some-clause-quiet c = λ none.
    absurd (no_item _ _ (ap mode_of (sym (item_is c.line_item-item.result c.in-Some.kind c.in-Some.is)) ∙ c.line_item-item.ensures
    ∙ ap (λ (s : List Enclosure). innermost (chain_of s)) c.deref.ensures.value) (c.loop-so_far.invariant.under_way.quiet c.requires.skips none).0 refl)

pub returns-then-text-so_far : goal.returns-then-text-so_far
returns-then-text-so_far c =
    let before : ℕ = c.loop-so_far.so_far.start in record {
      under_way = elim c.match-item.branch [
        | in-None+in_ok-to-in-None+else-text-to w ↦ subst (IsUnderWay c.args.reading.now) (sym w.so_far-is) w.in_ok-to-in-None.ensures.under_way
        | in-Some+in_ok-clear-in-Some w ↦ subst (IsUnderWay c.args.reading.now) (sym w.so_far-is) w.in_ok-clear-in-Some.ensures.under_way
      ];
      low = goes_on c.args.so_far.now.start before c.match-item.so_far.start c.loop-so_far.invariant.low (elim c.match-item.branch [
        | in-None+in_ok-to-in-None+else-text-to w ↦ subst (λ (p : ReadSoFar). before ≤ p.start) (sym w.so_far-is) w.in_ok-to-in-None.ensures.low
        | in-Some+in_ok-clear-in-Some w ↦ subst (λ (p : ReadSoFar). before ≤ p.start) (sym w.so_far-is) w.in_ok-clear-in-Some.ensures.low
      ]);
      quiet = λ none. refl;
      overflow = λ is fits. answered _ _ is;
    }

pub end_behind-end-requires-clause-behind : goal.end_behind-end-requires-clause-behind
end_behind-end-requires-clause-behind c = elim c.match-item.branch [
  | in-None+in_ok-to-in-None+else-text-to w ↦
      let q : ReadSoFar = w.count_lines_ahead.new.so_far in
      subst (λ (p : ReadSoFar). p.start ≤ c.match-item.clear) (sym w.so_far-is)
      (subst (λ (m : ℕ). q.start ≤ m) (sym w.clear-is) (w.in_ok-to-in-None.ensures.high w.if-text-to.false))
  | in-Some+in_ok-clear-in-Some w ↦
      let q : ReadSoFar = w.skip_within.new.so_far in
      subst (λ (p : ReadSoFar). p.start ≤ c.match-item.clear) (sym w.so_far-is)
      (subst (λ (m : ℕ). q.start ≤ m) (sym w.clear-is) w.in_ok-clear-in-Some.ensures.behind)
]

pub end_behind-end-requires-clause-clear : goal.end_behind-end-requires-clause-clear
end_behind-end-requires-clause-clear c =
    let text : List ℕ = c.args.reading.now.text.now in elim c.match-item.branch [
      | in-None+in_ok-to-in-None+else-text-to w ↦
          let q : ReadSoFar = w.count_lines_ahead.new.so_far in
          subst (λ (p : ReadSoFar). c.match-item.clear ≤ p.start + line_len (drop p.start text)) (sym w.so_far-is)
          (subst (λ (m : ℕ). m ≤ q.start + line_len (drop q.start text)) (sym w.clear-is) (w.in_ok-to-in-None.ensures.line w.if-text-to.false))
      | in-Some+in_ok-clear-in-Some w ↦
          let q : ReadSoFar = w.skip_within.new.so_far in
          subst (λ (p : ReadSoFar). c.match-item.clear ≤ p.start + line_len (drop p.start text)) (sym w.so_far-is)
          (subst (λ (m : ℕ). m ≤ q.start + line_len (drop q.start text)) (sym w.clear-is) w.in_ok-clear-in-Some.ensures.clear)
    ]

pub read_next-requires : goal.read_next-requires
read_next-requires c =
    let d = (goal.at.read_next-requires c).After-end_behind-end in
    let item = item_in c.line_item-item.result in
    let only : chain_of c.loop-so_far.so_far.stack.items ≡ chain_in item =
    one_item c.loop-so_far.so_far.stack.items item (omega (arith, c.len.ensures, c.if-len-lt2.true)) (last_item d) in record {
      family = c.requires.family;
      under_way = under_way d;
      item = elim c.match-item.branch [
        | in-None+in_ok-to-in-None+else-text-to w ↦
            ap (λ (p : ReadSoFar). chain_of p.stack.items) w.so_far-is ∙ w.in_ok-to-in-None.ensures.plain ∙ ap chain_in (sym (no_item_is c.line_item-item.result w.in-None.is))
        | in-Some+in_ok-clear-in-Some w ↦
            ap (λ (p : ReadSoFar). chain_of p.stack.items) w.so_far-is
            ∙ ap (λ (v : Vec Enclosure). chain_of v.items) w.in_ok-clear-in-Some.ensures.same ∙ only
      ];
      some = c.if-text-so_far.false;
      end = c.end_behind-end.ensures;
      walked = walked d;
    }

pub returns-in_err-read_next-clause-quiet : goal.returns-in_err-read_next-clause-quiet
returns-in_err-read_next-clause-quiet c = λ none.
    let d = (goal.at.returns-in_err-read_next-clause-quiet c).After-end_behind-end in
    absurd (unwalked c.args.reading.now c.match-item.so_far (under_way d) c.requires.skips none (walked d))

pub returns-then-not-branch : goal.returns-then-not-branch
returns-then-not-branch c =
    let before : ℕ = c.loop-so_far.so_far.start in
    let e = c.in_ok-read_next.ensures in record {
      under_way = e.under_way;
      low = goes_on c.args.so_far.now.start before c.read_next.new.so_far.start c.loop-so_far.invariant.low
          (goes_on before c.match-item.so_far.start c.read_next.new.so_far.start (later (goal.at.returns-then-not-branch c).After-end_behind-end) e.low);
      quiet = λ none. refl;
      overflow = λ is fits. answered _ _ is;
    }

pub loop-so_far-preserved : goal.loop-so_far-preserved
loop-so_far-preserved c =
    let before : ℕ = c.loop-so_far.so_far.start in
    let e = c.in_ok-read_next.ensures in record {
      under_way = e.under_way;
      low = goes_on c.args.so_far.now.start before c.read_next.new.so_far.start c.loop-so_far.invariant.low
          (goes_on before c.match-item.so_far.start c.read_next.new.so_far.start (later (goal.at.loop-so_far-preserved c).After-end_behind-end) e.low);
    }

pub loop-so_far-smaller : goal.loop-so_far-smaller
loop-so_far-smaller c =
    let n : ℕ = length c.args.reading.now.text.now in
    let before : ℕ = c.loop-so_far.so_far.start in
    let at : ℕ = c.match-item.so_far.start in
    let low : before ≤ at = later (goal.at.loop-so_far-smaller c).After-end_behind-end in
    less_left n before c.read_next.new.so_far.start (goes_past before at n low c.if-text-so_far.false)
    (goes_past before at c.read_next.new.so_far.start low (c.in_ok-read_next.ensures.on c.if-not-branch.false))
