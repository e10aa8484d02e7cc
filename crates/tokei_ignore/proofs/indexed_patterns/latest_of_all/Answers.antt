use Rattle.std.proofs.Common.{◌≡◌, ◌-◌, length, arith}
use Rattle.tokei_ignore.specs.Index.{latest_fitting}
use Rattle.tokei_ignore.proofs.Covers.{all_slots}
use Rattle.tokei_ignore.proofs.LastFitting.{latest_within}
use Rattle.tokei_ignore.proofs.indexed_patterns.latest_of_all.Goals as goal

pub returns : goal.returns
returns c =
    let s = c.args.search.now in
    let whole : c.latest.result ≡ latest_fitting s.list.now s.names.now s.folder =
    all_slots (length s.heads.now - 1) c.latest_of-best.result c.latest_of-best-2.result c.latest_of-best-3.result c.latest.result
    c.key_of_name.result c.key_of_extension.result c.key_of_path.result s.list.now s.names.now s.folder
    c.key_of_name.ensures c.key_of_extension.ensures c.key_of_path.ensures
    c.latest_of-best.ensures c.latest_of-best-2.ensures c.latest_of-best-3.ensures c.latest.ensures in
    let within = latest_within s.list.now s.names.now s.folder in
    record {
      place = whole;
      within = omega (arith, whole, within);
    }
