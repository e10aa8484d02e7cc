use Rattle.std.proofs.Common.{◌≡◌, rules, refl, length}
use Rattle.tokei_stats.specs.declared.stats.CodeStats.{out-CodeStats}
use Rattle.tokei_stats.proofs.Members.{no_entries, one_blob}
use Rattle.tokei_stats.proofs.stats.CodeStats.only_blob.Goals as goal

pub returns-in-Some : goal.returns-in-Some
returns-in-Some c =
    let one : length (out-CodeStats c.args.self.now).blobs.entries ≡ 1 = search rules in
    one_blob c.args.self.now c.in-Some.language.now c.in-Some.stats.now _ one c.in-Some.ensures.first
    (c.own_counts.ensures) (no_entries c.in-Some.stats.now (c.if-is_empty.ensures.0 refl))
