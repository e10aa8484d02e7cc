use Rattle.tokei_stats.proofs.BlobsAt.{put_same, put_other}
use Rattle.tokei_stats.proofs.sum_laws.puts_change_one.Goals as goal

pub returns : goal.returns
returns c = λ bs k s. record { here = put_same bs k s; others = λ i n. put_other bs k s i n }
