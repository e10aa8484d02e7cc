use Rattle.std.proofs.Common.{◌∙◌, refl, List, ◌++◌, sym, ap, append-nil, arith}
use Rattle.std.proofs.lemmas.Grind.{common_steps}
use Rattle.tokei_folders.specs.Tree.{names_of}
use Rattle.tokei_walk.specs.Levels.{level_at}
use Rattle.tokei_walk.specs.Walks.{names_over, levels_over}
use Rattle.tokei_walk.proofs.Growing.{grows_on, grows_same}
use Rattle.tokei_walk.proofs.RootSteps.{more, names_over_pop, levels_over_pop}
use Rattle.tokei_walk.proofs.Lasting.{stay_on, refused}
use Rattle.tokei_folders.specs.declared.fs.Above.{Above}
use Rattle.tokei_walk.specs.Noted.{Noted, noted_level, noted_over, said_in}
use Rattle.tokei_walk.proofs.Noting.{noted_over_pop, said_on}
use Rattle.tokei_walk.proofs.parents.read_over.Goals as goal

pub loop-above-preserved : goal.loop-above-preserved
loop-above-preserved g c =
    let inv = c.loop-above.invariant in let old = c.loop-above.context in let new = c.read_above.new.context in
    let found = c.loop-above.found in let front = c.pop.new.self in let a = c.in-Some.above in let r = c.args.settings.now.rules in record {
      notes = grows_on _ _ _ inv.notes c.read_above.ensures.notes;
      same = c.read_above.ensures.folders.same ∙ inv.same;
      honest = stay_on g.F.Folders.memory_faults _ _ _ inv.honest c.in_ok-read_above.ensures.folders.honest;
      shown = c.in_ok-read_above.ensures.shown ∙ inv.shown;
      names =
          more old.names new.names (names_over found) (names_over front) _ a.name
          c.in_ok-read_above.ensures.names (names_over_pop found front a c.in-Some.ensures)
          inv.names;
      levels = λ t e. more old.levels new.levels (levels_over t r found) (levels_over t r front) _ (level_at t r (names_of a.place))
          (c.in_ok-read_above.ensures.levels t (inv.same ∙ e))
          (levels_over_pop t r found front a c.in-Some.ensures) (inv.levels t e);
      noted = λ t e. said_on _ _ (noted_level t r (names_of a.place)) (noted_over t r front) (noted_over t r found) _
          (c.in_ok-read_above.ensures.noted t (inv.same ∙ e))
          (noted_over_pop t r found front a c.in-Some.ensures) (inv.noted t e);
    }

pub returns-in_err-read_above-clause-notes : goal.returns-in_err-read_above-clause-notes
returns-in_err-read_above-clause-notes g c = grows_on _ _ _ c.loop-above.invariant.notes c.read_above.ensures.notes

pub loop-above-init : goal.loop-above-init
loop-above-init g c = record {
  notes = grows_same _ _ refl;
  same = refl;
  honest = λ h. refl;
  shown = refl;
  names = refl;
  levels = λ t e. refl;
  noted = λ t e. refl;
}

pub returns-in_err-read_above-clause-folders : goal.returns-in_err-read_above-clause-folders
returns-in_err-read_above-clause-folders g c = refused c.from_residual.ensures.0 (c.read_above.ensures.folders.same ∙ c.loop-above.invariant.same)

pub returns-clause-names : goal.returns-clause-names
returns-clause-names g c =
    let names = c.loop-above.context.names in
    sym (append-nil names) ∙ ap (λ (q : List Above). names ++ names_over q) (sym c.in_default.ensures.0) ∙ c.loop-above.invariant.names

pub returns-clause-levels : goal.returns-clause-levels
returns-clause-levels g c = λ t e.
    let levels = c.loop-above.context.levels in
    sym (append-nil levels) ∙ ap (λ (q : List Above). levels ++ levels_over t c.args.settings.now.rules q) (sym c.in_default.ensures.0) ∙ c.loop-above.invariant.levels t e

pub returns-clause-folders : goal.returns-clause-folders
returns-clause-folders g c = record { same = c.loop-above.invariant.same; honest = c.loop-above.invariant.honest }

pub loop-above-smaller : goal.loop-above-smaller
loop-above-smaller g c = grind (arith, common_steps)

pub returns-clause-noted : goal.returns-clause-noted
returns-clause-noted g c = λ t e.
    let said : List Noted = said_in c.loop-above.notes in
    sym (append-nil said) ∙ ap (λ (q : List Above). said ++ noted_over t c.args.settings.now.rules q) (sym c.in_default.ensures.0) ∙ c.loop-above.invariant.noted t e
