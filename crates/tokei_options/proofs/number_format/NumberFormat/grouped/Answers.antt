use Rattle.std.proofs.Common.{◌≡◌, ◌<◌, ◌^◌, get_or, decimal, ◌∙◌, arith, string_bytes, rules}
use Rattle.tokei_options.specs.Grouping.{separator_text}
use Rattle.tokei_options.proofs.Groups.{group_step, decimal-small}
use Rattle.tokei_options.proofs.number_format.NumberFormat.grouped.Goals as goal

pub loop-i-preserved : goal.loop-i-preserved
loop-i-preserved c =
    let is : c.as_bytes-digits.result.now ≡ decimal c.args.number = search rules in
    let short : c.args.number < 2 ^ 64 = search rules in
    let small : get_or c.as_bytes-digits.result.now c.loop-i.i 0 < 128 = rw is (decimal-small c.args.number c.loop-i.i short) in
    let digit : get_or c.as_bytes-digits.result.now c.loop-i.i 0 ≡ c.from.result = search rules in
    group_step (separator_text c.args.self.now.separator) c.as_bytes-digits.result.now
    (string_bytes c.loop-i.text) (string_bytes c.end_group.new.text) c.loop-i.i
    c.from.result (omega arith) digit (omega arith) (search rules)
    ∙ c.loop-i.invariant
