use Rattle.std.proofs.Common.{◌≡◌, ℕ, List, ◌++◌, IfOk, string_bytes, append_assoc, ap, subst, ◌∙◌}
use Rattle.tokei_languages.specs.Seen.{language_of}
use Rattle.tokei_languages.specs.Names.{name_in}
use Rattle.tokei_print.specs.Results.{counts_block, files_block, parting}
use Rattle.tokei_print.proofs.results.language_block.Goals as goal

pub returns-clause-ok : goal.returns-clause-ok
returns-clause-ok c =
    let layout = c.args.layout.now in
    let names = name_in c.args.showing.table.now in
    let compact = c.args.showing.compact in
    let language = language_of c.args.entry.now.1.now in
    let head = parting layout compact c.args.first language in
    let counts = λ (n : List ℕ). counts_block layout names compact n language in
    let files = λ (n : List ℕ). files_block layout names compact c.args.showing.sorted n language in
    let name = c.name_of-name.result.now in
    subst (λ b. IfOk c.joined-2.result (λ s. string_bytes s ≡ b))
    (ap (λ t. t ++ files name) (c.in_ok-rows.ensures.ok _ c.counts_block.ensures.ok
    ∙ ap (λ t. t ++ counts name) (c.in_ok-parting.ensures.ok ∙ c.parting.ensures))
    ∙ append_assoc head (counts name) (files name)
    ∙ ap (λ n. head ++ (counts n ++ files n)) c.name_of-name.ensures)
    (c.joined-2.ensures.ok _ c.files_block.ensures.ok)

pub returns-clause-overflow : goal.returns-clause-overflow
returns-clause-overflow c = λ t f. c.files_block.ensures.overflow (c.joined-2.ensures.overflow t) f
