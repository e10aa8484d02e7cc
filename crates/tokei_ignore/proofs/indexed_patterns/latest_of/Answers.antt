use Rattle.std.proofs.Common.{◌-◌, length, max, ap, ◌∙◌, ℕ}
use Rattle.tokei_ignore.proofs.Covers.{no_key_left, slot_of_one}
use Rattle.tokei_ignore.proofs.indexed_patterns.latest_of.Goals as goal

pub returns-in-None : goal.returns-in-None
returns-in-None c =
    let s = c.args.search.now in
    no_key_left (length s.heads.now - 1) c.args.best c.args.key s.list.now s.names.now s.folder c.in-None.is

pub returns-in-Some : goal.returns-in-Some
returns-in-Some c =
    let s = c.args.search.now in
    c.latest.ensures
    ∙ ap (λ (n : ℕ). max c.args.best n) (slot_of_one (length s.heads.now - 1) c.slot_of.result c.in-Some.key c.args.key s.list.now s.names.now s.folder c.in-Some.is c.slot_of.ensures.value)
