use Rattle.std.proofs.Common.{◌∙◌, ap, arith, length, reverse}
use Rattle.std.proofs.lemmas.List.{reverse-reverse}
use Rattle.tokei_walk.proofs.stack.push_folder.Goals as goal

pub returns-clause-entries : goal.returns-clause-entries
returns-clause-entries c = ap reverse (c.replace-left.ensures.after ∙ c.reverse.ensures.turned) ∙ reverse-reverse c.args.entries

pub returns-clause-few : goal.returns-clause-few
returns-clause-few c = omega (arith, ap length c.replace-left.ensures.after, c.reverse.ensures.fits)
