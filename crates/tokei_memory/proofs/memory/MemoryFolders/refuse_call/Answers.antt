use Rattle.std.proofs.Common.{◌∙◌, sym, ap}
use Rattle.tokei_folders.specs.Tree.{is_sound, Names}
use Rattle.tokei_memory.specs.Refusals.{refusing, refused_at}
use Rattle.tokei_memory.proofs.Adding.{missing_refuses, call_refused}
use Rattle.tokei_memory.proofs.Refusing.{changed_sound}
use Rattle.tokei_memory.proofs.memory.MemoryFolders.refuse_call.Goals as goal

pub returns-then-not-has-clause-refused : goal.returns-then-not-has-clause-refused
returns-then-not-has-clause-refused c = λ _. missing_refuses c.args.self.now.tree _ c.as_slice.result.now c.args.call (c.as_slice.ensures ∙ c.in_ok-names.ensures) c.if-not-has.ensures

pub invariant_of-self : goal.invariant_of-self
invariant_of-self c = record { sound = ap is_sound c.refuse.ensures ∙ changed_sound (refusing c.args.call) c.as_slice-2.result.now c.args.self.now.tree c.args.self.now.sound }

pub returns-clause-marked : goal.returns-clause-marked
returns-clause-marked c =
    call_refused c.args.self.now.tree c.refuse.new.self _ c.as_slice.result.now c.args.call
    (c.as_slice.ensures ∙ c.in_ok-names.ensures) c.if-not-has.ensures
    (c.refuse.ensures
    ∙ ap (λ (x : Names). refused_at c.args.call x c.args.self.now.tree)
    (c.as_slice-2.ensures ∙ sym c.as_slice.ensures))
