use Rattle.std.proofs.Common.{◌≡◌, ◌+◌, ◌∙◌, ◌++◌, ◌∷◌, [], ap, sym, arith, length, vec_len}
use Rattle.tokei_languages.specs.Merging.{appended}
use Rattle.tokei_languages.specs.TakenBack.{all_taken_back}
use Rattle.tokei_languages.specs.Seen.{children_of}
use Rattle.tokei_languages.proofs.TakingBack.{last_first}
use Rattle.tokei_languages.proofs.children.append.Goals as goal

pub loop-language-preserved : goal.loop-language-preserved
loop-language-preserved c =
    let pushed : c.push.new.self.items ≡ c.loop-language.before.items ++ (c.in-Some.language, c.in-Ok.count) ∷ [] = rw c.unwrap.ensures at c.push.ensures.items in
    let longer : vec_len c.push.new.self ≡ vec_len c.loop-language.before + 1 = rw c.unwrap.ensures at c.push.ensures.len in
    let left : length c.loop-language.language-iterator ≡ length c.next.new.self + 1 = omega (arith, ap length c.in-Some.ensures.steps) in
    record {
      done = ap (λ es. appended es (children_of c.next.new.self)) c.in-Ok.ensures.ok
          ∙ ap (λ es. appended (children_of c.loop-language.children.entries) (children_of es)) (sym c.in-Some.ensures.steps)
          ∙ c.loop-language.invariant.done;
      back = ap (all_taken_back (children_of c.append_at.new.children.entries)) pushed
          ∙ last_first (children_of c.append_at.new.children.entries) c.loop-language.before.items (c.in-Some.language, c.in-Ok.count)
          ∙ ap (λ es. all_taken_back es c.loop-language.before.items) c.in-Ok.ensures.back
          ∙ c.loop-language.invariant.back;
      room = omega (arith, c.push.ensures.capacity);
    }

pub returns-in-Err-clause-err : goal.returns-in-Err-clause-err
returns-in-Err-clause-err c =
    c.take_all_back.ensures ∙ ap (λ es. all_taken_back es c.loop-language.before.items) c.in-Err.ensures.err ∙ c.loop-language.invariant.back

pub returns-clause-ok : goal.returns-clause-ok
returns-clause-ok c =
    ap (λ es. appended (children_of c.loop-language.children.entries) (children_of es)) (sym c.in-None.ensures.steps.0) ∙ c.loop-language.invariant.done
