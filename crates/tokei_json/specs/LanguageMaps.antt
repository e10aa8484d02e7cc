-- The objects of a document whose members are languages: its own, those of children and those of
-- blobs.
use Rattle.std.specs.Prelude.{ℕ, List, Bool, true, false, ◌&&◌, ◌||◌, not, Option, None, Some, is_some, codes, bytes_eq, if◌then◌else◌}
use Rattle.serde_json.specs.Data.{Data, array, object, Members, no_members, member}
use Rattle.serde_json.specs.Find.{get}
use Rattle.tokei_json_tree.specs.Shapes.{absent_or, all_items}
use Rattle.tokei_table.specs.Lookups.{first_where, has_name, row_at}
use Rattle.tokei_table.specs.Row.{Row}
use Rattle.tokei_json.specs.declared.language_maps.MapTest.{MapTest}
use Rattle.tokei_json.specs.declared.language_maps.MapTest.TheVariants.{Known, Once}

-- the language that a member's name stands for, by key or by name
abbrev pub language_named : List Row → List ℕ → Option ℕ
language_named rows name = first_where (has_name name) rows

-- whether each member's name passes the test
abbrev pub all_names : (List ℕ → Bool) → Members → Bool
all_names test no_members = true
all_names test (member k d ms) = test k && all_names test ms

-- whether the language's key and its name, which differ, are both members
abbrev pub has_both : List Row → Data → Option ℕ → Bool
has_both rows value None = false
has_both rows value (Some l) =
    not (bytes_eq (row_at rows l).key (row_at rows l).name)
    && (is_some (get (row_at rows l).key value) && is_some (get (row_at rows l).name value))

-- each name is that of a language
abbrev pub knows_names : List Row → Data → Bool
knows_names rows (object ms) = all_names (λ k. is_some (language_named rows k)) ms
knows_names rows value = true

-- no language stands both by its key and by its name
abbrev pub names_once : List Row → Data → Bool
names_once rows (object ms) =
    all_names (λ k. not (has_both rows (object ms) (language_named rows k))) ms
names_once rows value = true

-- the two tests of such an object
abbrev pub passes : List Row → MapTest → Data → Bool
passes rows Known value = knows_names rows value
passes rows Once value = names_once rows value

-- whether the blobs of statistics pass, at every depth
abbrev mutual
  pub statistics_pass : (Data → Bool) → Data → Bool
  statistics_pass test (object ms) = blobs_at_pass test ms
  statistics_pass test d = true

  -- whether the first member `blobs` passes; with none they do
  pub blobs_at_pass : (Data → Bool) → Members → Bool
  blobs_at_pass test no_members = true
  blobs_at_pass test (member k d ms) =
      if bytes_eq k (codes "blobs") then blobs_pass test d else blobs_at_pass test ms

  -- whether an object of blobs passes, and all inside it
  pub blobs_pass : (Data → Bool) → Data → Bool
  blobs_pass test (object ms) = test (object ms) && each_passes test ms
  blobs_pass test d = true

  -- whether the statistics of each member pass
  pub each_passes : (Data → Bool) → Members → Bool
  each_passes test no_members = true
  each_passes test (member k d ms) = statistics_pass test d && each_passes test ms

-- whether the statistics of a report pass
abbrev pub report_passes : (Data → Bool) → Data → Bool
report_passes test value = absent_or (statistics_pass test) (get (codes "stats") value)

-- whether the reports of a list pass
abbrev pub reports_pass : (Data → Bool) → Data → Bool
reports_pass test (array ds) = all_items (report_passes test) ds
reports_pass test value = true

-- whether the lists of reports pass
abbrev pub lists_pass : (Data → Bool) → Members → Bool
lists_pass test no_members = true
lists_pass test (member k d ms) = reports_pass test d && lists_pass test ms

-- whether an object of children passes, and the lists in it
abbrev pub children_pass : (Data → Bool) → Data → Bool
children_pass test (object ms) = test (object ms) && lists_pass test ms
children_pass test value = true

-- whether the reports and the children of a language pass
abbrev pub language_passes : (Data → Bool) → Data → Bool
language_passes test value =
    absent_or (reports_pass test) (get (codes "reports") value)
    && absent_or (children_pass test) (get (codes "children") value)

-- the total isn't looked into
abbrev pub languages_pass : (Data → Bool) → Members → Bool
languages_pass test no_members = true
languages_pass test (member k d ms) =
    (bytes_eq k (codes "Total") || language_passes test d) && languages_pass test ms

-- every name is that of a language, save `Total` among the document's own members
unfoldable pub all_known : List Row → Data → Bool
all_known rows (object ms) =
    all_names (λ k. bytes_eq k (codes "Total") || is_some (language_named rows k)) ms
    && languages_pass (passes rows Known) ms
all_known rows value = true

-- no language stands twice in one object
unfoldable pub all_once : List Row → Data → Bool
all_once rows (object ms) = names_once rows (object ms) && languages_pass (passes rows Once) ms
all_once rows value = true
