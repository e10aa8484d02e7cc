-- The layout of a document: which JSON values stand where. Other members are passed over.
use Rattle.std.specs.Prelude.{Bool, true, false, ◌&&◌, ◌||◌, not, is_some, option_and_then, codes, bytes_eq, if◌then◌else◌}
use Rattle.serde_json.specs.Data.{Data, object, Members, no_members, member}
use Rattle.serde_json.specs.Find.{get, as_number, as_u64}
use Rattle.serde_json.specs.Written.{has_float}
use Rattle.tokei_json_tree.specs.Shapes.{is_list, is_text, is_truth_value, stands_and}

-- a whole number of 64 bits that isn't negative
abbrev pub is_count : Data → Bool
is_count value = is_some (option_and_then as_u64 (as_number value))

-- the three counts of a language or of statistics
unfoldable pub has_counts : Data → Bool
has_counts value =
    stands_and is_count (get (codes "blanks") value)
    && stands_and is_count (get (codes "code") value)
    && stands_and is_count (get (codes "comments") value)

-- statistics have counts and blobs; `blobs_stand` looks for the blobs among their members
abbrev mutual
  pub is_statistics : Data → Bool
  is_statistics (object ms) = has_counts (object ms) && blobs_stand ms
  is_statistics d = false

  -- the first member `blobs` is there, and holds blobs
  pub blobs_stand : Members → Bool
  blobs_stand no_members = false
  blobs_stand (member k d ms) = if bytes_eq k (codes "blobs") then are_blobs d else blobs_stand ms

  -- blobs are an object of statistics
  pub are_blobs : Data → Bool
  are_blobs (object ms) = all_statistics ms
  are_blobs d = false

  -- each member is statistics
  pub all_statistics : Members → Bool
  all_statistics no_members = true
  all_statistics (member k d ms) = is_statistics d && all_statistics ms

-- a report has a name and statistics
abbrev pub is_report : Data → Bool
is_report value =
    stands_and is_text (get (codes "name") value) && stands_and is_statistics
    (get (codes "stats") value)

-- a list of reports
abbrev pub are_reports : Data → Bool
are_reports value = is_list is_report value

-- each member is a list of reports
abbrev pub all_reports : Members → Bool
all_reports no_members = true
all_reports (member k d ms) = are_reports d && all_reports ms

-- the reports by language of a language
abbrev pub are_children : Data → Bool
are_children (object ms) = all_reports ms
are_children value = false

-- a language has counts, reports, children and the mark of inaccuracy
unfoldable pub is_language : Data → Bool
is_language value =
    has_counts value
    && stands_and are_reports (get (codes "reports") value)
    && stands_and are_children (get (codes "children") value)
    && stands_and is_truth_value (get (codes "inaccurate") value)

-- each member but `Total` is a language
abbrev pub are_languages : Members → Bool
are_languages no_members = true
are_languages (member k d ms) = (bytes_eq k (codes "Total") || is_language d) && are_languages ms

-- languages beside a total, whatever that holds
abbrev pub is_document : Data → Bool
is_document (object ms) = is_some (get (codes "Total") (object ms)) && are_languages ms
is_document value = false

-- a document in which no number, wherever it stands, is but a whole one of 64 bits
unfoldable pub has_layout : Data → Bool
has_layout value = not (has_float value) && is_document value
