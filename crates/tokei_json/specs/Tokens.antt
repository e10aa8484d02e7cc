-- What is written of values, token by token, and values by the names of their languages. For the
-- clauses of private calls.
use Rattle.std.specs.Prelude.{◌≡◌, ℕ, List, [], ◌∷◌, ◌++◌, map, Some}
use Rattle.std.specs.Borrow.{Bor}
use Rattle.std.specs.declared.alloc.Global.{Global}
use Rattle.std.specs.declared.vec.Vec.{Vec}
use Rattle.std.specs.BTreeMap.{insert_entry}
use Rattle.std.specs.Cmp.Lexicographic.{slice_cmp}
use Rattle.std.specs.Ordering.{nat_cmp}
use Rattle.json.specs.Token.{key}
use Rattle.json.specs.Tree.{json_tokens}
use Rattle.json.specs.Written as json
use Rattle.serde_json.specs.Data.{Data, Members, no_members, member}
use Rattle.serde_json.specs.Read.{of_json}
use Rattle.serde_json.specs.Written.{outline}
use Rattle.tokei_languages.specs.Names.{name_in}
use Rattle.tokei_json.specs.ReportData.{reports_data}
use Rattle.tokei_stats.specs.Reports.{reports_of}
use Rattle.tokei_stats.specs.declared.report.Report.{Report}
use Rattle.tokei_table.specs.Row.{Row}

-- the value's tokens stand behind the old ones, and read as the value
pub record IsWritten (value : Data) (old new : json.Written) : Type 0 where
  pub tokens : new.tokens ≡ old.tokens ++ json_tokens (outline value)
  pub reads : of_json (outline value) ≡ Some value
  pub before : new.before ≡ old.before

-- the same of a member: a name, and its value
pub record IsMember (name : List ℕ) (value : Data) (old new : json.Written) : Type 0 where
  pub tokens : new.tokens ≡ old.tokens ++ key name ∷ json_tokens (outline value)
  pub reads : of_json (outline value) ≡ Some value
  pub before : new.before ≡ old.before

-- the values that are there, and then each entry's, under the name of its language
abbrev pub named : {T : Type 0} → List Row → List (ℕ × T) → List (List ℕ × T) → List (List ℕ × T)
named rows [] found = found
named rows (e ∷ es) found =
    named rows es (insert_entry (slice_cmp nat_cmp) found (name_in rows e.0) e.1)

-- values under their names as members
abbrev pub members_by : {T : Type 0} → (T → Data) → List (List ℕ × T) → Members
members_by value_of [] = no_members
members_by value_of (e ∷ es) = member e.0 (value_of e.1) (members_by value_of es)

-- reports that are borrowed, under names that are, as members
abbrev pub children_members : List Row → List (Bor (List ℕ) × Bor (Vec Report Global)) → Members
children_members rows es =
    members_by (λ v. reports_data rows (reports_of v)) (map (λ e. (e.0.now, e.1.now)) es)
