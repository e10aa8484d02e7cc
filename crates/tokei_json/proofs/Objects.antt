-- Objects of a document whose members are written one after another.
use Rattle.std.proofs.Common.{◌≡◌, ℕ, List, [], ◌∷◌, ◌++◌, Bool, codes, refl, Less, nat_cmp}
use Rattle.std.specs.Cmp.Lexicographic.{slice_cmp}
use Rattle.json.specs.Token.{begin_object, end_object}
use Rattle.json.specs.Written.{Written}
use Rattle.serde_json.specs.Data.{Data, boolean, string, object, no_members, member}
use Rattle.tokei_json.specs.ReportData.{count}
use Rattle.tokei_json.specs.Tokens.{IsWritten, IsMember}
use Rattle.tokei_json.proofs.Writing.{Ascend, lacks_all, lacks_fewer, object_written}
use Rattle.tokei_stats.specs.Statistics.{Counts}

-- the writer after the opening brace, and after the closing one
pub record IsOpened (old first : Written) : Type 0 where
  pub tokens : first.tokens ≡ old.tokens ++ begin_object ∷ []
  pub before : first.before ≡ old.before

pub record IsClosed (last new : Written) : Type 0 where
  pub tokens : new.tokens ≡ last.tokens ++ end_object ∷ []
  pub before : new.before ≡ last.before

-- statistics
pub statistics_written : (n : Counts) (blobs : Data) (old first w1 w2 w3 w4 new : Written) → IsOpened old first
    → IsMember (codes "blanks") (count n.blanks) first w1 → IsMember (codes "blobs") blobs w1 w2 → IsMember (codes "code") (count n.code) w2 w3
    → IsMember (codes "comments") (count n.comments) w3 w4 → IsClosed w4 new
    → IsWritten (object (member (codes "blanks") (count n.blanks)
    (member (codes "blobs") blobs (member (codes "code") (count n.code) (member (codes "comments") (count n.comments) no_members))))) old new
statistics_written n blobs old first w1 w2 w3 w4 new begun m1 m2 m3 m4 ended =
    let ms4 = member (codes "comments") (count n.comments) no_members in
    let ms3 = member (codes "code") (count n.code) ms4 in
    let ms2 = member (codes "blobs") blobs ms3 in
    let all = member (codes "blanks") (count n.blanks) ms2 in
    let l1 = lacks_fewer all (codes "blanks") (count n.blanks) ms2 first first w1 (lacks_all all first) m1 in
    let l2 = lacks_fewer all (codes "blobs") blobs ms3 first w1 w2 l1 m2 in
    let l3 = lacks_fewer all (codes "code") (count n.code) ms4 first w2 w3 l2 m3 in
    let l4 = lacks_fewer all (codes "comments") (count n.comments) no_members first w3 w4 l3 m4 in
    object_written all old first w4 new ((refl, (refl, (refl, tt))), ((refl, (refl, tt)), ((refl, tt), (tt, tt)))) begun.tokens begun.before l4 ended.tokens ended.before

-- a report, and a line: a text beside statistics
pub named_stats_written : (key name : List ℕ) (stats : Data) (old first w1 w2 new : Written) → slice_cmp nat_cmp key (codes "stats") ≡ Less → IsOpened old first
    → IsMember key (string name) first w1 → IsMember (codes "stats") stats w1 w2 → IsClosed w2 new
    → IsWritten (object (member key (string name) (member (codes "stats") stats no_members))) old new
named_stats_written key name stats old first w1 w2 new below begun m1 m2 ended =
    let ms2 = member (codes "stats") stats no_members in
    let all = member key (string name) ms2 in
    let l1 = lacks_fewer all key (string name) ms2 first first w1 (lacks_all all first) m1 in
    let l2 = lacks_fewer all (codes "stats") stats no_members first w1 w2 l1 m2 in
    object_written all old first w2 new ((below, tt), (tt, tt)) begun.tokens begun.before l2 ended.tokens ended.before

-- a language, and the total
pub language_written : (n : Counts) (children reports : Data) (mark : Bool) (old first w1 w2 w3 w4 w5 w6 new : Written) → IsOpened old first
    → IsMember (codes "blanks") (count n.blanks) first w1 → IsMember (codes "children") children w1 w2 → IsMember (codes "code") (count n.code) w2 w3
    → IsMember (codes "comments") (count n.comments) w3 w4 → IsMember (codes "inaccurate") (boolean mark) w4 w5 → IsMember (codes "reports") reports w5 w6 → IsClosed w6 new
    → IsWritten (object (member (codes "blanks") (count n.blanks) (member (codes "children") children (member (codes "code") (count n.code) (member (codes "comments") (count n.comments)
    (member (codes "inaccurate") (boolean mark) (member (codes "reports") reports no_members))))))) old new
language_written n children reports mark old first w1 w2 w3 w4 w5 w6 new begun m1 m2 m3 m4 m5 m6 ended =
    let ms6 = member (codes "reports") reports no_members in
    let ms5 = member (codes "inaccurate") (boolean mark) ms6 in
    let ms4 = member (codes "comments") (count n.comments) ms5 in
    let ms3 = member (codes "code") (count n.code) ms4 in
    let ms2 = member (codes "children") children ms3 in
    let all = member (codes "blanks") (count n.blanks) ms2 in
    let l1 = lacks_fewer all (codes "blanks") (count n.blanks) ms2 first first w1 (lacks_all all first) m1 in
    let l2 = lacks_fewer all (codes "children") children ms3 first w1 w2 l1 m2 in
    let l3 = lacks_fewer all (codes "code") (count n.code) ms4 first w2 w3 l2 m3 in
    let l4 = lacks_fewer all (codes "comments") (count n.comments) ms5 first w3 w4 l3 m4 in
    let l5 = lacks_fewer all (codes "inaccurate") (boolean mark) ms6 first w4 w5 l4 m5 in
    let l6 = lacks_fewer all (codes "reports") reports no_members first w5 w6 l5 m6 in
    let ascending : Ascend all = ((refl, (refl, (refl, (refl, (refl, tt))))), ((refl, (refl, (refl, (refl, tt)))), ((refl, (refl, (refl, tt))), ((refl, (refl, tt)), ((refl, tt), (tt, tt)))))) in
    object_written all old first w6 new ascending begun.tokens begun.before l6 ended.tokens ended.before
