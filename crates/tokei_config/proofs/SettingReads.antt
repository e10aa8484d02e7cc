-- What a setting that was read says of its member.
use Rattle.std.proofs.Common.{◌≡◌, ℕ, List, Bool, false, ◌&&◌, cond, Option, Some, None, is_some, Result, Ok, Err, ap, refl, ◌∙◌, codes}
use Rattle.std.specs.Prelude.{⊤}
use Rattle.toml.specs.Data.{Members}
use Rattle.tokei_config.specs.Document.{columns_in, flag, is_readable, languages_in, readable_settings, settings_in, sort_in, types_in}
use Rattle.tokei_config.specs.Flaws.{bad_setting}
use Rattle.tokei_config.specs.Languages.{Addition}
use Rattle.tokei_config.specs.ReadMembers.{AreValues, StopsAtFirst, bad_or, bad_value}
use Rattle.tokei_config.specs.Reading.{Reads, ReadsSettings, at_setting}
use Rattle.tokei_config.specs.Settings.{Settings}
use Rattle.tokei_config.specs.declared.document.SettingError.{SettingError}
use Rattle.tokei_config.specs.declared.document.SettingError.TheVariants as refused
use Rattle.tokei_config.specs.declared.document.Values.{Values}
use Rattle.tokei_config.specs.declared.flaws.Setting.{Setting}
use Rattle.tokei_config.specs.declared.flaws.Setting.TheVariants as setting
use Rattle.tokei_config.specs.declared.members.MemberError.{MemberError}
use Rattle.tokei_config.specs.declared.members.MemberError.TheVariants.{Memory, Unreadable}
use Rattle.tokei_table.specs.Row.{Row}

-- nothing is meant at the setting that is answered
abbrev pub StopsAt : {B : Type 0} → Setting → Option B → SettingError → Type 0
StopsAt s meant refused.Memory = ⊤
StopsAt s meant (refused.Bad b) = (meant ≡ None) × (s ≡ b)

module _ {A B : Type 0} (seen : A → B) (meant : Option B) (s : Setting) where
  -- a setting that is there
  pub setting_read : (r : Result A MemberError) (a : A) → Reads seen meant r → Ok a ≡ at_setting s r → meant ≡ Some (seen a)
  setting_read (Ok b) a reads is = cc
  setting_read (Err Memory) a reads is = absurd (let h = is in cc)
  setting_read (Err Unreadable) a reads is = absurd (let h = is in cc)

  -- one that isn't
  pub setting_refused : (r : Result A MemberError) (e : SettingError) → Reads seen meant r → Err e ≡ at_setting s r → StopsAt s meant e
  setting_refused (Ok b) e reads is = absurd (let h = is in cc)
  setting_refused (Err Memory) refused.Memory reads is = tt
  setting_refused (Err Memory) (refused.Bad b) reads is = absurd (let h = is in cc)
  setting_refused (Err Unreadable) refused.Memory reads is = absurd (let h = is in cc)
  setting_refused (Err Unreadable) (refused.Bad b) reads is = (reads, cc)

-- members of one value that are read leave what is behind them
pub values_pass : (ms : Members) (v : Values) → AreValues ms v → (behind : Option Setting) → bad_value ms behind ≡ behind
values_pass ms v read behind =
    rw (read.columns, read.file_flags.hidden, read.file_flags.no_ignore, read.file_flags.no_ignore_parent, read.file_flags.no_ignore_dot, read.file_flags.no_ignore_vcs, read.docs, read.sort) refl

-- a member that is read leaves what is behind it, and one that isn't is the first
bad_or_read : {X : Type 0} (s : Setting) (meant : Option X) (x : X) (behind : Option Setting) → meant ≡ Some x → bad_or s meant behind ≡ behind
bad_or_read s meant x behind read = rw read refl

bad_or_unread : {X : Type 0} (s : Setting) (meant : Option X) (behind : Option Setting) → meant ≡ None → bad_or s meant behind ≡ Some s
bad_or_unread s meant behind unread = rw unread refl

-- a setting that is answered where its member can't be read is the first
pub stops_first : {X : Type 0} (at : Setting) (meant : Option X) (e : SettingError) → StopsAt at meant e → StopsAtFirst (bad_or at meant) e
stops_first at meant refused.Memory stops s is behind = absurd (let h = is in cc)
stops_first at meant (refused.Bad b) stops s is behind = bad_or_unread at meant behind stops.0 ∙ (let h = stops.1 in let k = is in cc)

-- where the first that isn't read is among these, not all of these are read
unread_among : {X : Type 0} (meant : Option X) (at : Setting) (behind : Option Setting) (rest : Bool) (s : Setting) → (behind ≡ Some s → rest ≡ false) → bad_or at meant behind ≡ Some s
    → (is_some meant && rest) ≡ false
unread_among None at behind rest s more bad = refl
unread_among (Some x) at behind rest s more bad = more bad

unread_last : {X : Type 0} (meant : Option X) (at : Setting) (s : Setting) → bad_or at meant None ≡ Some s → is_some meant ≡ false
unread_last None at s bad = refl
unread_last (Some x) at s bad = absurd (let h = bad in cc)

-- the settings of these members
abbrev pub settings_with : Values → Option (List ℕ) → Option (List Addition) → Settings
settings_with v ts ls = record {
  columns = v.columns;
  hidden = v.file_flags.hidden;
  no_ignore = v.file_flags.no_ignore;
  no_ignore_parent = v.file_flags.no_ignore_parent;
  no_ignore_dot = v.file_flags.no_ignore_dot;
  no_ignore_vcs = v.file_flags.no_ignore_vcs;
  treat_doc_strings_as_comments = v.treat_doc_strings_as_comments;
  sort = v.sort;
  types = ts;
  languages = ls;
}

module _ (rows : List Row) (ms : Members) where
  not_readable : (s : Setting) → bad_setting rows ms ≡ Some s → is_readable rows ms ≡ false
  not_readable s =
      unread_among (columns_in ms) setting.Columns _ _ s
      (unread_among (flag (codes "hidden") ms) setting.Hidden _ _ s
      (unread_among (flag (codes "no_ignore") ms) setting.NoIgnore _ _ s
      (unread_among (flag (codes "no_ignore_parent") ms) setting.NoIgnoreParent _ _ s
      (unread_among (flag (codes "no_ignore_dot") ms) setting.NoIgnoreDot _ _ s
      (unread_among (flag (codes "no_ignore_vcs") ms) setting.NoIgnoreVcs _ _ s
      (unread_among (flag (codes "treat_doc_strings_as_comments") ms) setting.TreatDocStringsAsComments _ _ s
      (unread_among (sort_in ms) setting.Sort _ _ s
      (unread_among (types_in rows ms) setting.Types _ _ s
      (unread_last (languages_in rows ms) setting.Languages s)))))))))

  refused_at : (s : Setting) → bad_setting rows ms ≡ Some s → ReadsSettings rows ms (Err (refused.Bad s))
  refused_at s bad = (ap (λ readable. cond readable (Some (readable_settings rows ms)) None) (not_readable s bad), bad)

  -- a member of one value can't be read
  pub value_refused : (e : SettingError) → StopsAtFirst (bad_value ms) e → ReadsSettings rows ms (Err e)
  value_refused refused.Memory stops = tt
  value_refused (refused.Bad s) stops = refused_at s (stops s refl _)

  module _ (v : Values) (read : AreValues ms v) where
    -- the types can't be read
    pub types_refused : (e : SettingError) → StopsAt setting.Types (types_in rows ms) e → ReadsSettings rows ms (Err e)
    types_refused refused.Memory stops = tt
    types_refused (refused.Bad s) stops =
        refused_at s (values_pass ms v read _ ∙ bad_or_unread setting.Types (types_in rows ms) _ stops.0 ∙ ap (λ x. Some x) stops.1)

    module _ (ts : Option (List ℕ)) (types : types_in rows ms ≡ Some ts) where
      -- the languages can't be read
      pub languages_refused : (e : SettingError) → StopsAt setting.Languages (languages_in rows ms) e → ReadsSettings rows ms (Err e)
      languages_refused refused.Memory stops = tt
      languages_refused (refused.Bad s) stops =
          refused_at s (values_pass ms v read _ ∙ bad_or_read setting.Types (types_in rows ms) ts _ types
          ∙ bad_or_unread setting.Languages (languages_in rows ms) None stops.0 ∙ ap (λ x. Some x) stops.1)

      -- each member can be read
      pub settings_read : (ls : Option (List Addition)) → languages_in rows ms ≡ Some ls → (settings_in rows ms ≡ Some (settings_with v ts ls)) × (bad_setting rows ms ≡ None)
      settings_read ls languages = (
        rw (
          read.columns,
          read.file_flags.hidden,
          read.file_flags.no_ignore,
          read.file_flags.no_ignore_parent,
          read.file_flags.no_ignore_dot,
          read.file_flags.no_ignore_vcs,
          read.docs,
          read.sort,
          types,
          languages,
        ) refl,
        values_pass ms v read _ ∙ bad_or_read setting.Types (types_in rows ms) ts _ types ∙ bad_or_read setting.Languages (languages_in rows ms) ls None languages,
      )
