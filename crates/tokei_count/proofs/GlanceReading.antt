-- A line that is decided at a glance is read so.
use Rattle.std.proofs.Common.{◌≡◌, ℕ, ◌+◌, ◌<◌, true, false, Bool, List, [], length, take, None, ap, sym, ◌∙◌, subst}
use Rattle.tokei_table.proofs.RowSound.{sound_row}
use Rattle.tokei_table.specs.Lookups.{row_at}
use Rattle.tokei_table.specs.Openers.{openers}
use Rattle.tokei_table.specs.Row.{Row}
use Rattle.tokei_table.specs.Tokens.{has_tokens}
use Rattle.tokei_parts.specs.Class.{class_of}
use Rattle.tokei_parts.specs.Glance.{holds, is_walked}
use Rattle.tokei_embedding.specs.DocComments.{first_line}
use Rattle.tokei_parts.specs.Modes.{Chain, innermost}
use Rattle.tokei_count.specs.Languages.{languages_of}
use Rattle.tokei_count.specs.PlainReading.{blocks}
use Rattle.tokei_parts.specs.Progress.{ReadsLine, newlines}
use Rattle.tokei_parts.specs.declared.class.Class.{Class}
use Rattle.tokei_parts.proofs.Blocks.{by_levels}
use Rattle.tokei_count.proofs.Glancing.{glance}
use Rattle.tokei_parts.proofs.Lines.{line_reads, take-first}
use Rattle.tokei_count.proofs.QuietBlocks.{quiet_blocks}

module _ (rows : List Row) (docs_are_comments : Bool) (levels language : ℕ) (text : List ℕ) (l : ℕ) (u : List ℕ) (class : Class) where
  plain_line : has_tokens (row_at rows language) ≡ true → 0 < length u → holds (openers (row_at rows language)) (first_line u) ≡ false
      → class ≡ class_of (row_at rows language) docs_are_comments (record { begun = None; bytes = first_line u; ended = None })
      → (j : ℕ) × ReadsLine (row_at rows language) (blocks (languages_of rows) levels language text) l docs_are_comments [] (length (first_line u)) j class [] u
  plain_line tokens some none e =
      let sound = sound_row (row_at rows language) tokens in
      let in_line = (by_levels rows language text levels).in_line in
      let plain = glance (row_at rows language) (blocks (languages_of rows) levels language text) l tokens sound in_line u none (quiet_blocks rows levels language text l u none) in
      (plain.0 + newlines u, line_reads (row_at rows language) (blocks (languages_of rows) levels language text) l docs_are_comments [] [] u class sound in_line tt some plain.0 plain.1 e)

  -- the part of n bytes, by a chain that is empty
  pub glance_reads : (c : Chain) (n : ℕ) → c ≡ [] → n ≡ length (first_line u) → has_tokens (row_at rows language) ≡ true → 0 < length u → holds (openers (row_at rows language)) (first_line u) ≡ false
      → class ≡ class_of (row_at rows language) docs_are_comments (record { begun = None; bytes = take n u; ended = None })
      → (j : ℕ) × ReadsLine (row_at rows language) (blocks (languages_of rows) levels language text) l docs_are_comments c n j class c u
  glance_reads c n plain size tokens some none e =
      let bytes : take n u ≡ first_line u = ap (λ m. take m u) size ∙ take-first u in
      let r = plain_line tokens some none (e ∙ ap (λ w. class_of (row_at rows language) docs_are_comments (record { begun = None; bytes = w; ended = None })) bytes) in (
        r.0,
        subst (λ m. ReadsLine (row_at rows language) (blocks (languages_of rows) levels language text) l docs_are_comments c m r.0 class c u) (sym size)
            (subst (λ (d : Chain). ReadsLine (row_at rows language) (blocks (languages_of rows) levels language text) l docs_are_comments d (length (first_line u)) r.0 class d u) (sym plain) r.1),
      )

-- and is not walked
pub glance_walked : (os : List (List ℕ)) (c : Chain) (n : ℕ) (u : List ℕ) → c ≡ [] → n ≡ length (first_line u) → holds os (first_line u) ≡ false → is_walked os (innermost c) (take n u) ≡ false
glance_walked os c n u plain size none =
    ap (λ (d : Chain). is_walked os (innermost d) (take n u)) plain ∙ ap (holds os) (ap (λ m. take m u) size ∙ take-first u) ∙ none
