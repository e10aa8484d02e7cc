use Rattle.std.proofs.Common.{refl}
use Rattle.std.proofs.lemmas.Result.{on_ok_weaker}
use Rattle.serde_json.specs.Data.{string}
use Rattle.tokei_json.proofs.Writing.{member_of}
use Rattle.tokei_json.proofs.tokens.write_text.Goals as goal

pub returns : goal.returns
returns c =
    on_ok_weaker c.string.result (λ e.
    member_of c.args.name.now (string c.args.text.now) c.args.out.now c.key.new.self c.string.new.self c.in_ok-key.ensures.ok c.in_ok-key.ensures.room.0
    (record { tokens = e; reads = refl; before = c.string.ensures.room.0 })) c.string.ensures.ok
