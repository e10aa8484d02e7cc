-- Statistics: a finite tree of three numbers, and of a tree for each of some languages, in the
-- table's order.
use Rattle.std.specs.Prelude.{ℕ, Option, None, Some}
use Rattle.std.specs.Ordering.{nat_cmp}
use Rattle.std.specs.declared.cmp.Ordering.{Ordering}
use Rattle.std.specs.declared.cmp.Ordering.TheVariants.{Less, Equal, Greater}
pub use Rattle.tokei_table_row.specs.Counts.{Counts, lines_of, no_lines, plus}

mutual
  -- the counts of lines of a text itself, and the blobs inside it
  pub data Statistics : Type 0 where
    node : Counts → Blobs → Statistics

  -- blobs: languages by their numbers, each with its statistics
  pub data Blobs : Type 0 where
    none : Blobs
    blob : ℕ → Statistics → Blobs → Blobs

-- no lines, and no blobs
abbrev pub empty : Statistics
empty = node no_lines none

-- the counts without those of the blobs
abbrev pub own : Statistics → Counts
own (node n bs) = n

-- the statistics of the languages inside
abbrev pub blobs : Statistics → Blobs
blobs (node n bs) = bs

-- by how the key stands to an entry's
abbrev pub by_order : {A : Type 0} → Ordering → A → A → A → A
by_order Less order b c = order
by_order Equal order b c = b
by_order Greater order b c = c

-- the statistics of a language
abbrev pub at : Blobs → ℕ → Option Statistics
at none language = None
at (blob j s rest) language = by_order (nat_cmp language j) (at rest language) (Some s)
    (at rest language)

-- the blobs with these statistics for the language
abbrev pub put : Blobs → ℕ → Statistics → Blobs
put none language statistics = blob language statistics none
put (blob j t rest) language statistics =
    by_order (nat_cmp language j) (blob language statistics (blob j t rest))
    (blob j statistics rest) (blob j t (put rest language statistics))

-- f of what is there, or the new statistics where nothing is
abbrev pub joined : Option Statistics → (Statistics → Statistics) → Statistics → Statistics
joined None f statistics = statistics
joined (Some t) f statistics = f t

-- the sum, by number and by language, at every depth; a language stays also where its numbers are 0
abbrev mutual
  pub sum : Statistics → Statistics → Statistics
  sum s (node n bs) = node (plus (own s) n) (add_all (blobs s) bs)

  -- the blobs with others added to them, one by one
  pub add_all : Blobs → Blobs → Blobs
  add_all old none = old
  add_all old (blob k t rest) = add_all (put old k (joined (at old k) (λ s. sum s t) t)) rest

-- the summary: the counts of all nodes, added up
abbrev mutual
  pub summary : Statistics → Counts
  summary (node n bs) = plus n (summaries bs)

  -- the summaries of blobs, added up
  pub summaries : Blobs → Counts
  summaries none = no_lines
  summaries (blob k t rest) = plus (summary t) (summaries rest)
