use Rattle.std.proofs.Common.{option_map, ap, arith}
use Rattle.std.proofs.lemmas.Result.{on_ok_weaker}
use Rattle.serde_json.specs.Data.{number}
use Rattle.serde_json.proofs.Numbers.{number_of-decimal}
use Rattle.tokei_json.specs.ReportData.{count}
use Rattle.tokei_json.proofs.Writing.{member_of}
use Rattle.tokei_json.proofs.tokens.write_count.Goals as goal

pub returns : goal.returns
returns c =
    on_ok_weaker c.u64.result (λ e.
    member_of c.args.name.now (count c.args.count) c.args.out.now c.key.new.self c.u64.new.self c.in_ok-key.ensures.ok c.in_ok-key.ensures.room.0
    (record { tokens = e; reads = ap (option_map number) (number_of-decimal c.args.count (omega arith)); before = c.u64.ensures.room.0 })) c.u64.ensures.ok
