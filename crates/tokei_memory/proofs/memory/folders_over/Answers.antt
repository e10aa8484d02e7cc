use Rattle.std.proofs.Common.{◌≡◌, ◌∙◌, ◌++◌, List, ℕ, [], ap, sym, map, reverse}
use Rattle.std.proofs.lemmas.List.{reverse-reverse}
use Rattle.tokei_folders.specs.declared.fs.Above.{Above}
use Rattle.tokei_folders.specs.Answers.{above_view}
use Rattle.tokei_folders.specs.Places.{joined}
use Rattle.tokei_folders.specs.Tree.{names_of, folders_above}
use Rattle.tokei_memory.proofs.FoldersAbove.{names_of_dot, next_place, found_more, found_end}
use Rattle.tokei_memory.proofs.memory.folders_over.Goals as goal

pub loop-name-init : goal.loop-name-init
loop-name-init c = record {
  here = ap names_of c.in_ok-place.ensures ∙ names_of_dot;
  found = ap (λ (x : List Above). map above_view x ++ folders_above [] c.args.names.now) (sym c.new-found.ensures);
}

pub loop-name-preserved : goal.loop-name-preserved
loop-name-preserved c =
    let p = c.args.names.now in let i = c.loop-name.name-index in let n = c.name-item.result in let inv = c.loop-name.invariant in
    let made : c.in_ok-next.next ≡ joined c.loop-name.place n =
    c.in_ok-next.ensures.place
    ∙ ap (λ (x : List ℕ). joined x c.as_str-in-loop-name.result.now) c.as_str.ensures
    ∙ ap (joined c.loop-name.place) c.as_str-in-loop-name.ensures in
    let copied = c.in_ok-name.ensures ∙ c.as_str-in-loop-name-2.ensures in
    record {
      here = next_place p i c.loop-name.place n c.in_ok-next.next c.loop-name-test.true c.name-item.is c.requires inv.here made;
      found = found_more p i c.loop-name.place n c.in_ok-name.name c.loop-name.found c.push.new.self c.loop-name-test.true c.name-item.is copied inv.here c.in_ok-push.ensures.ok inv.found;
    }

pub returns : goal.returns
returns c =
    ap (map above_view) (ap reverse c.reverse.ensures.turned ∙ reverse-reverse c.loop-name.found)
    ∙ sym (c.loop-name.invariant.found
    ∙ found_end c.args.names.now c.loop-name.name-index (map above_view c.loop-name.found)
    c.loop-name-test.false)
