use Rattle.std.proofs.Common.{◌∙◌, sym, ap, drop, option_map, arith, length-take, ◌≡◌, None, Some, Option, refl}
use Rattle.std.proofs.lemmas.Grind.{common_steps}
use Rattle.tokei_embedding.specs.DocComments.{DocBlock, doc_block}
use Rattle.tokei_parts.specs.Seen.{block_of}
use Rattle.tokei_parts.specs.RustChildren.{doc_child}
use Rattle.tokei_parts.proofs.DocSizes.{doc_size}
use Rattle.tokei_parts.proofs.Leading.{rest_is}
use Rattle.tokei_parts.proofs.openings.rust_block.Goals as goal

pub slice_bounds-result-end : goal.slice_bounds-result-end
slice_bounds-result-end c =
    let at = c.args.place.now.at in
    let text = c.args.place.now.reading.now.text.now in
    let size = ap (λ t. option_map (λ (b : DocBlock). b.size) (doc_block (drop at t))) c.requires.searched in
    let h = doc_size (drop at text) c.in_ok-size.size (sym c.in_ok-size.was ∙ c.doc_at.ensures.value ∙ size) in
    rw (rest_is at text) (omega (arith, length-take c.in_ok-size.size (drop at text), h))

pub returns-clause-block : goal.returns-clause-block
returns-clause-block c = grind (arith, common_steps)

none_there : (docs : Option DocBlock) → option_map (λ (d : DocBlock). d.size) docs ≡ None → docs ≡ None
none_there None e = refl
none_there (Some d) e = cc

pub returns-in_err-size-clause-block : goal.returns-in_err-size-clause-block
returns-in_err-size-clause-block c =
    let docs = doc_block (drop c.args.place.now.at c.args.search.now) in
    ap (option_map block_of) c.from_residual.ensures
    ∙ sym (ap (option_map (doc_child c.args.place.now.reading.now.table.now c.args.place.now.reading.now.language))
    (ap (λ t. doc_block (drop c.args.place.now.at t)) (sym c.requires.searched) ∙ none_there docs (sym c.in_err-size.ensures.value)))
