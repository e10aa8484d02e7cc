-- The texts of configuration files, and the settings that they make.
use Rattle.std.proofs.Common.{◌≡◌, ℕ, List, ◌++◌, false, Option, Some, None, is_some, option_map, append_assoc, append-nil, ap, refl, sym, ◌∙◌, inl, inr, codes}
use Rattle.std.proofs.lemmas.Bool.{cases_Bool}
use Rattle.std.proofs.lemmas.Str.{IsUtf8-from_is_utf8}
use Rattle.std.specs.Option.{option_or}
use Rattle.std.specs.Str.{IsUtf8, is_utf8}
use Rattle.toml.specs.Data.{Members}
use Rattle.toml.specs.Parse.{parse_document}
use Rattle.tokei_config.specs.Document.{settings_of_reading, settings_of_text}
use Rattle.tokei_config.specs.Files.{as_text, settings_of_file}
use Rattle.tokei_config.specs.Flaws.{PlacedCause, cause_of_bytes, cause_of_reading, cause_of_text, flaw_at, listed, second_flaw}
use Rattle.tokei_config.specs.declared.flaws.Cause.TheVariants.{NotUtf8}
use Rattle.tokei_config.specs.Settings.{Settings, empty}
use Rattle.tokei_folders.specs.Tree.{Tree}
use Rattle.tokei_table.specs.Row.{Row}

-- what TOML makes of a text tells its settings, and why it counts as empty
pub text_settings : (rows : List Row) (text : List ℕ) (found : Option Members) → parse_document text ≡ found → settings_of_reading rows found ≡ settings_of_text rows text
unfolding settings_of_text
text_settings rows text found is = ap (settings_of_reading rows) (sym is)

pub text_cause : (rows : List Row) (text : List ℕ) (found : Option Members) → parse_document text ≡ found → cause_of_reading rows found ≡ cause_of_text rows text
unfolding cause_of_text
text_cause rows text found is = ap (cause_of_reading rows) (sym is)

-- the settings of a text that may be missing
abbrev pub of_text : List Row → Option (List ℕ) → Option Settings
of_text rows text = option_map (settings_of_text rows) text

not_utf8 : (bytes : List ℕ) → (IsUtf8 bytes → ⊥) → is_utf8 bytes ≡ false
not_utf8 bytes other = elim (cases_Bool (is_utf8 bytes)) [ inl same ↦ absurd (other (IsUtf8-from_is_utf8 bytes same)) | inr different ↦ different ]

pub of_text-unread : (rows : List Row) (bytes : List ℕ) → (IsUtf8 bytes → ⊥) → None ≡ of_text rows (as_text bytes)
of_text-unread rows bytes other = rw (not_utf8 bytes other)

-- why bytes count as empty
pub cause-unread : (rows : List Row) (bytes : List ℕ) → (IsUtf8 bytes → ⊥) → Some NotUtf8 ≡ cause_of_bytes rows bytes
cause-unread rows bytes other = rw (not_utf8 bytes other) refl

-- where the first file has a text
pub first_file : (rows : List Row) (a b : Option (List ℕ)) (s : Settings) → Some s ≡ of_text rows a → s ≡ settings_of_file rows (option_or a b)
first_file rows None b s e = absurd (let h = e in cc)
first_file rows (Some text) b s e = cc

-- where it has none
pub second_file : (rows : List Row) (a b : Option (List ℕ)) (s : Settings) → None ≡ of_text rows a → Some s ≡ of_text rows b → s ≡ settings_of_file rows (option_or a b)
second_file rows (Some text) b s none e = absurd (let h = none in cc)
second_file rows None None s none e = absurd (let h = e in cc)
second_file rows None (Some text) s none e = cc

-- where neither has one
pub no_file : (rows : List Row) (a b : Option (List ℕ)) (s : Settings) → None ≡ of_text rows a → None ≡ of_text rows b → s ≡ empty → s ≡ settings_of_file rows (option_or a b)
no_file rows (Some text) b s none neither e = absurd (let h = none in cc)
no_file rows None (Some text) s none neither e = absurd (let h = neither in cc)
no_file rows None None s none neither e = e

module _ (rows : List Row) (t : Tree) (place : List ℕ) (old : List PlacedCause) (fs : List PlacedCause) where
  -- the flaws of a folder whose first file has a text
  pub first_flaws : (new : List PlacedCause) (text : Option (List ℕ)) (s : Settings) → Some s ≡ of_text rows text → new ≡ old ++ fs
      → new ≡ old ++ (fs ++ second_flaw rows t place (is_some text))
  first_flaws new None s read is = absurd (let h = read in cc)
  first_flaws new (Some text) s read is = is ∙ ap (λ l. old ++ l) (sym (append-nil fs))

  -- those of one whose first file has none
  pub second_flaws : (new last : List PlacedCause) (text : Option (List ℕ)) → None ≡ of_text rows text → new ≡ old ++ fs
      → last ≡ new ++ listed (flaw_at rows t place (codes ".tokeirc")) → last ≡ old ++ (fs ++ second_flaw rows t place (is_some text))
  second_flaws new last (Some text) read is more = absurd (let h = read in cc)
  second_flaws new last None read is more = more ∙ ap (λ l. l ++ listed (flaw_at rows t place (codes ".tokeirc"))) is ∙ append_assoc old fs (listed (flaw_at rows t place (codes ".tokeirc")))
