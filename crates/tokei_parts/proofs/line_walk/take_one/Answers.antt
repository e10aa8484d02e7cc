use Rattle.std.proofs.Common.{◌≡◌, ◌∙◌, ℕ, ◌+◌, ◌-◌, ◌<◌, false, [], ◌∷◌, length, Option, None, Some, is_some, ap, arith, refl, subst, sym}
use Rattle.tokei_table.specs.Row.{Pair}
use Rattle.tokei_table.specs.RowOf.{pair_of}
use Rattle.tokei_parts.specs.Choice.Choice.{closes, opens}
use Rattle.tokei_parts.specs.Items.{enclosure}
use Rattle.tokei_parts.specs.LineWalk.{chain_in, item_in, reach_of}
use Rattle.tokei_parts.specs.Places.{block_from, choice_from, text_of}
use Rattle.tokei_parts.specs.Reached.{IsReached, part_stop}
use Rattle.tokei_parts.specs.SeenChoices.{choice_of, enclosure_of, mode_of}
use Rattle.tokei_parts.specs.declared.choice.Choice as CodeChoice
use Rattle.tokei_parts.specs.declared.items.Enclosure as Code
use Rattle.tokei_parts.specs.declared.items.ItemKind.{ItemKind}
use Rattle.tokei_parts.specs.declared.items.LineItem.{LineItem}
use Rattle.tokei_parts.specs.declared.place.Place.{Place}
use Rattle.tokei_parts.specs.declared.walk.Reach.{Reach}
use Rattle.tokei_parts.proofs.LineEnds.{end_is}
use Rattle.tokei_parts.proofs.OneItem.{byte_goes, closer_goes, closer_none, escape_goes, opener_goes, pass_goes, rest_goes}
use Rattle.tokei_parts.proofs.LineSteps.{choice_goes, choice_high, rest_leads}
use Rattle.tokei_parts.proofs.Reaching.{end_in_text, line_stops}
use Rattle.tokei_parts.proofs.Walking.{GoesIn}
use Rattle.tokei_parts.proofs.line_walk.take_one.Goals as goal
use Rattle.tokei_parts.proofs.line_walk.take_one.Goals.{After-as_bytes-closer, After-as_bytes-opener-in-PassesOver, After-line_stop-stop, In-Escapes, In-Some}

-- the choice there, as the code has it
made : (p : Place) (at : ℕ) (item : Option Code.Enclosure) (x y : CodeChoice.Choice)
    → choice_of (block_from p at) x ≡ choice_from p at (mode_of item) → x ≡ y
    → choice_from p at (mode_of item) ≡ choice_of (block_from p at) y
made p at item x y e is = sym e ∙ ap (choice_of (block_from p at)) is

-- what encloses the place, by its kind
kind_is : (item : LineItem) (kind : Option ItemKind) → item.kind ≡ kind → item_in item ≡ item_in (record { kind = kind; closer = item.closer })
kind_is item kind is = ap (λ k. item_in (record { kind = k; closer = item.closer })) is

pub unreachable-requires : goal.unreachable-requires
unreachable-requires c =
    let at = c.args.reach.now.at in
    closer_none c.args.part.now at
    (ap (λ m. choice_from c.args.part.now at (mode_of m)) (sym (kind_is c.args.item.now None c.in-None.is))
    ∙ made c.args.part.now at (item_in c.args.item.now) c.args.choice _ c.requires.choice c.in-Closes.is)

-- the closer of the item that is there
closing : (p : Place) (item : Option Code.Enclosure) (around : Code.Enclosure) (reach : Reach) → item ≡ Some around
    → IsReached p (chain_in item) reach → reach.at < p.end
    → choice_from p reach.at (mode_of item) ≡ closes → GoesIn p (chain_in item) (length around.closer.now) 1 [] reach.at
closing p None around reach is reached more e = absurd cc
closing p (Some other) around reach is reached more e =
    let same : length other.closer.now ≡ length around.closer.now = cc in
    subst (λ n. GoesIn p (chain_in (Some other)) n 1 [] reach.at) same (closer_goes p other reach reached more e)

closes_here : (c : In-Some) → GoesIn c.args.part.now (chain_in (item_in c.args.item.now)) (length c.args.item.now.closer.now) 1 [] c.args.reach.now.at
closes_here c =
    let p = c.args.part.now in
    let item = item_in c.args.item.now in
    let around : Code.Enclosure = record { kind = c.in-Some.field-0; closer = c.args.item.now.closer } in
    let is = kind_is c.args.item.now (Some c.in-Some.field-0) c.in-Some.is in
    closing p item around (reach_of c.args.reach.now) is c.requires.reached c.requires.some
    (made p c.args.reach.now.at item c.args.choice _ c.requires.choice c.in-Closes.is)

pub take-requires-clause-some : goal.take-requires-clause-some
take-requires-clause-some c = (closes_here (goal.at.take-requires-clause-some c).In-Some).some

pub take-requires-clause-high : goal.take-requires-clause-high
take-requires-clause-high c =
    choice_high c.args.part.now (chain_in (item_in c.args.item.now)) [] c.args.reach.now.at (length c.args.item.now.closer.now) c.requires.reached.1.begins c.requires.some
    (closes_here (goal.at.take-requires-clause-high c).In-Some)

pub returns-in-Some-clause-advances : goal.returns-in-Some-clause-advances
returns-in-Some-clause-advances c = λ _.
    choice_goes c.args.part.now (chain_in (item_in c.args.item.now)) [] c.args.reach.now c.take.new.reach c.requires.low c.requires.some (length c.args.item.now.closer.now)
    (closes_here (goal.at.returns-in-Some-clause-advances c).In-Some) c.take.ensures.at c.take.ensures.base

-- an escape
escapes_here : (c : In-Escapes) → GoesIn c.args.part.now (chain_in (item_in c.args.item.now)) 2 1 (chain_in (item_in c.args.item.now)) c.args.reach.now.at
escapes_here c =
    escape_goes c.args.part.now (item_in c.args.item.now) (reach_of c.args.reach.now) c.requires.reached c.requires.some
    (made c.args.part.now c.args.reach.now.at (item_in c.args.item.now) c.args.choice _ c.requires.choice c.in-Escapes.is)

pub take-requires-in-Escapes-clause-high : goal.take-requires-in-Escapes-clause-high
take-requires-in-Escapes-clause-high c =
    choice_high c.args.part.now (chain_in (item_in c.args.item.now)) (chain_in (item_in c.args.item.now)) c.args.reach.now.at 2 c.requires.reached.1.begins c.requires.some
    (escapes_here (goal.at.take-requires-in-Escapes-clause-high c).In-Escapes)

pub returns-in-Escapes-clause-advances : goal.returns-in-Escapes-clause-advances
returns-in-Escapes-clause-advances c = λ _.
    choice_goes c.args.part.now (chain_in (item_in c.args.item.now)) (chain_in (item_in c.args.item.now)) c.args.reach.now c.take-in-Escapes.new.reach c.requires.low c.requires.some 2
    (escapes_here (goal.at.returns-in-Escapes-clause-advances c).In-Escapes) c.take-in-Escapes.ensures.at c.take-in-Escapes.ensures.base

pub returns-in-TakesByte-clause-advances : goal.returns-in-TakesByte-clause-advances
returns-in-TakesByte-clause-advances c = λ _.
    let p = c.args.part.now in
    let item = item_in c.args.item.now in
    choice_goes p (chain_in item) (chain_in item) c.args.reach.now c.take-in-TakesByte.new.reach c.requires.low c.requires.some 1
    (byte_goes p item (reach_of c.args.reach.now) c.requires.reached c.requires.some
    (made p c.args.reach.now.at item c.args.choice _ c.requires.choice c.in-TakesByte.is)) c.take-in-TakesByte.ensures.at c.take-in-TakesByte.ensures.base

-- a token that is passed over
passes_here : (c : After-as_bytes-opener-in-PassesOver)
    → GoesIn c.args.part.now (chain_in (item_in c.args.item.now)) (length c.as_bytes-opener-in-PassesOver.result.now) 1 (chain_in (item_in c.args.item.now)) c.args.reach.now.at
passes_here c =
    let p = c.args.part.now in
    let item = item_in c.args.item.now in
    subst (λ n. GoesIn p (chain_in item) n 1 (chain_in item) c.args.reach.now.at) (sym (ap length c.as_bytes-opener-in-PassesOver.ensures.value))
    (pass_goes p item (reach_of c.args.reach.now) c.requires.reached c.requires.some (pair_of c.in-PassesOver.pair.now)
    (made p c.args.reach.now.at item c.args.choice _ c.requires.choice c.in-PassesOver.is))

pub take-requires-in-PassesOver-clause-some : goal.take-requires-in-PassesOver-clause-some
take-requires-in-PassesOver-clause-some c = (passes_here (goal.at.take-requires-in-PassesOver-clause-some c).After-as_bytes-opener-in-PassesOver).some

pub take-requires-in-PassesOver-clause-high : goal.take-requires-in-PassesOver-clause-high
take-requires-in-PassesOver-clause-high c =
    let chain = chain_in (item_in c.args.item.now) in
    choice_high c.args.part.now chain chain c.args.reach.now.at (length c.as_bytes-opener-in-PassesOver.result.now)
    c.requires.reached.1.begins c.requires.some
    (passes_here (goal.at.take-requires-in-PassesOver-clause-high c).After-as_bytes-opener-in-PassesOver)

pub returns-in-PassesOver-clause-advances : goal.returns-in-PassesOver-clause-advances
returns-in-PassesOver-clause-advances c = λ _.
    choice_goes c.args.part.now (chain_in (item_in c.args.item.now)) (chain_in (item_in c.args.item.now)) c.args.reach.now c.take-in-PassesOver.new.reach c.requires.low c.requires.some
    (length c.as_bytes-opener-in-PassesOver.result.now)
    (passes_here (goal.at.returns-in-PassesOver-clause-advances c).After-as_bytes-opener-in-PassesOver) c.take-in-PassesOver.ensures.at c.take-in-PassesOver.ensures.base

-- the rest of the line
pub line_stop-stop-requires : goal.line_stop-stop-requires
line_stop-stop-requires c = end_in_text c.args.part.now c.requires.reached.1.begins

stops : (c : After-line_stop-stop) → c.line_stop-stop.result ≡ part_stop c.args.part.now
stops c =
    let p = c.args.part.now in
    let begins = c.requires.reached.1.begins in
    end_is (text_of p) p.start p.end c.line_stop-stop.result begins.part.high begins.line c.line_stop-stop.ensures.more c.line_stop-stop.ensures.last

-- it isn't empty
ahead : (c : After-line_stop-stop) → c.args.reach.now.at < c.line_stop-stop.result
ahead c = omega (arith, stops c, c.requires.some, line_stops c.args.part.now c.requires.reached.1.begins)

pub overflow_sub-stop : goal.overflow_sub-stop
overflow_sub-stop c = omega (arith, ahead (goal.at.overflow_sub-stop c).After-line_stop-stop)

pub take-requires-in-BeginsLineComment-clause-some : goal.take-requires-in-BeginsLineComment-clause-some
take-requires-in-BeginsLineComment-clause-some c = omega (arith, ahead (goal.at.take-requires-in-BeginsLineComment-clause-some c).After-line_stop-stop)

pub take-requires-in-BeginsLineComment-clause-high : goal.take-requires-in-BeginsLineComment-clause-high
take-requires-in-BeginsLineComment-clause-high c =
    omega (arith, c.line_stop-stop.ensures.within, ahead (goal.at.take-requires-in-BeginsLineComment-clause-high c).After-line_stop-stop)

pub returns-in-BeginsLineComment-clause-advances : goal.returns-in-BeginsLineComment-clause-advances
returns-in-BeginsLineComment-clause-advances c = λ _.
    let p = c.args.part.now in
    let item = item_in c.args.item.now in
    let at = c.args.reach.now.at in
    let d = (goal.at.returns-in-BeginsLineComment-clause-advances c).After-line_stop-stop in
    let stop : at + (c.line_stop-stop.result - at) ≡ part_stop p = omega (arith, ahead d, stops d) in
    rest_leads p (chain_in item) (chain_in item) c.args.reach.now c.take-in-BeginsLineComment.new.reach c.requires.low c.requires.some (c.line_stop-stop.result - at)
    (rest_goes p item (reach_of c.args.reach.now) c.requires.reached c.requires.some
    (made p at item c.args.choice _ c.requires.choice c.in-BeginsLineComment.is))
    c.requires.reached stop c.take-in-BeginsLineComment.ensures.at c.take-in-BeginsLineComment.ensures.base

-- the opener of an item, where none is there
none_of : (kind : Option ItemKind) → is_some kind ≡ false → kind ≡ None
none_of None none = refl
none_of (Some other) none = absurd cc

opening : (p : Place) (item : Option Code.Enclosure) (new : Code.Enclosure) (reach : Reach) (kind : ItemKind) (pair : Pair)
    → item ≡ None → IsReached p (chain_in item) reach → reach.at < p.end
    → choice_from p reach.at (mode_of item) ≡ opens kind pair → enclosure kind pair ≡ enclosure_of new
    → GoesIn p (chain_in item) (length pair.opener) 1 (enclosure_of new ∷ []) reach.at
opening p None new reach kind pair none reached more e same = opener_goes p new reach kind pair reached more e same
opening p (Some other) new reach kind pair none reached more e same = absurd cc

abbrev item_here : After-as_bytes-closer → Code.Enclosure
item_here c = record { kind = c.in-Opens.kind; closer = c.as_bytes-closer.result }

opens_here : (c : After-as_bytes-closer)
    → GoesIn c.args.part.now (chain_in (item_in c.args.item.now)) (length c.as_bytes-opener.result.now) 1 (enclosure_of (item_here c) ∷ []) c.args.reach.now.at
opens_here c =
    let p = c.args.part.now in
    let item = item_in c.args.item.now in
    let kind = c.in-Opens.kind in
    let pair = pair_of c.in-Opens.pair.now in
    subst (λ n. GoesIn p (chain_in item) n 1 (enclosure_of (item_here c) ∷ []) c.args.reach.now.at) (sym (ap length c.as_bytes-opener.ensures.value))
    (opening p item (item_here c) (reach_of c.args.reach.now) kind pair
    (kind_is c.args.item.now None (none_of c.args.item.now.kind (sym c.is_some.ensures ∙ c.if-is_some.false))) c.requires.reached c.requires.some
    (made p c.args.reach.now.at item c.args.choice _ c.requires.choice c.in-Opens.is)
    (ap (λ w. record { kind = kind; closer = w }) (sym c.as_bytes-closer.ensures.value)))

pub take-requires-in-Opens-clause-some : goal.take-requires-in-Opens-clause-some
take-requires-in-Opens-clause-some c = (opens_here (goal.at.take-requires-in-Opens-clause-some c).After-as_bytes-closer).some

pub take-requires-in-Opens-clause-high : goal.take-requires-in-Opens-clause-high
take-requires-in-Opens-clause-high c =
    let d = (goal.at.take-requires-in-Opens-clause-high c).After-as_bytes-closer in
    choice_high c.args.part.now (chain_in (item_in c.args.item.now)) (enclosure_of (item_here d) ∷ []) c.args.reach.now.at
    (length c.as_bytes-opener.result.now) c.requires.reached.1.begins c.requires.some
    (opens_here d)

pub returns-else-is_some-clause-advances : goal.returns-else-is_some-clause-advances
returns-else-is_some-clause-advances c = λ _.
    let d = (goal.at.returns-else-is_some-clause-advances c).After-as_bytes-closer in
    choice_goes c.args.part.now (chain_in (item_in c.args.item.now)) (enclosure_of (item_here d) ∷ []) c.args.reach.now c.take-in-Opens.new.reach c.requires.low c.requires.some
    (length c.as_bytes-opener.result.now) (opens_here d) c.take-in-Opens.ensures.at c.take-in-Opens.ensures.base
