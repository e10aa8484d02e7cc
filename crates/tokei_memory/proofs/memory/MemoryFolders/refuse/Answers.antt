use Rattle.std.proofs.Common.{◌≡◌, ◌∙◌, sym, ap, ap₂, true}
use Rattle.tokei_folders.specs.Tree.{is_sound, Names, Tree}
use Rattle.tokei_memory.specs.declared.call.Call.TheVariants.{List as ListCall, Read, Head}
use Rattle.tokei_memory.specs.Refusals.{refused_at}
use Rattle.tokei_memory.proofs.Adding.{missing_refuses_all, calls_refused}
use Rattle.tokei_memory.proofs.Refusing.{changed_sound}
use Rattle.tokei_memory.proofs.memory.MemoryFolders.refuse.Goals as goal

pub returns-then-not-has-clause-refused : goal.returns-then-not-has-clause-refused
returns-then-not-has-clause-refused c = λ _. missing_refuses_all c.args.self.now.tree _ c.as_slice.result.now (c.as_slice.ensures ∙ c.in_ok-names.ensures) c.if-not-has.ensures

pub invariant_of-self : goal.invariant_of-self
invariant_of-self c =
    let head : is_sound c.refuse.new.self ≡ true = ap is_sound c.refuse.ensures ∙ changed_sound _ _ _ c.args.self.now.sound in
    let read : is_sound c.refuse-2.new.self ≡ true = ap is_sound c.refuse-2.ensures ∙ changed_sound _ _ _ head in
    record { sound = ap is_sound c.refuse-3.ensures ∙ changed_sound _ _ _ read }

pub returns-clause-marked : goal.returns-clause-marked
returns-clause-marked c =
    let q = c.in_ok-names.names in
    let t = c.args.self.now.tree in
    calls_refused t c.refuse-3.new.self _ c.as_slice.result.now (c.as_slice.ensures ∙ c.in_ok-names.ensures) c.if-not-has.ensures
    (c.refuse-3.ensures ∙ ap₂ (λ (x : Names) (y : Tree). refused_at ListCall x y) (c.as_slice-4.ensures ∙ sym c.as_slice.ensures)
    (c.refuse-2.ensures ∙ ap₂ (λ (x : Names) (y : Tree). refused_at Read x y) (c.as_slice-3.ensures ∙ sym c.as_slice.ensures)
    (c.refuse.ensures ∙ ap (λ (x : Names). refused_at Head x t) (c.as_slice-2.ensures ∙ sym c.as_slice.ensures))))
