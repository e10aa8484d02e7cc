-- What the bytes that were taken off a source tell of all that it had.
use Rattle.std.proofs.Common.{◌≡◌, ℕ, ◌+◌, ◌<◌, ◌≤◌, List, ◌++◌, length, take, Option, None, Some, IfSome, arith, sym, ap, ◌∙◌, subst}
use Rattle.std.proofs.lemmas.List.{append-nil, length-append, length-take-le}
use Rattle.std.proofs.KnownBytes.{Consumes-trans}
use Rattle.std.specs.Io.KnownBytes.{Consumes}

-- there are no fewer, and more where these are
pub at_least : (a b : Option (List ℕ)) (bs : List ℕ) (n : ℕ) → Consumes a b bs → n ≤ length bs → IfSome a (λ xs. n ≤ length xs)
at_least None b bs n taken more = tt
at_least (Some xs) None bs n taken more = absurd taken
at_least (Some xs) (Some ys) bs n taken more = subst (λ zs. n ≤ length zs) (sym taken) (omega (arith, length-append bs ys))

pub more_than : (a b : Option (List ℕ)) (bs : List ℕ) (n : ℕ) → Consumes a b bs → n < length bs → IfSome a (λ xs. n < length xs)
more_than None b bs n taken more = tt
more_than (Some xs) None bs n taken more = absurd taken
more_than (Some xs) (Some ys) bs n taken more = subst (λ zs. n < length zs) (sym taken) (omega (arith, length-append bs ys))

-- the bytes that were there, and those that a read put into the front of a buffer
module _ (had buffer all : List ℕ) (n : ℕ) (joined : all ≡ had ++ take n buffer) where
  pub taken_more : (a b c : Option (List ℕ)) → Consumes a b had → Consumes b c (take n buffer) → Consumes a c all
  taken_more a b c before read = subst (Consumes a c) (sym joined) (Consumes-trans a b c had (take n buffer) before read)

  pub longer : n ≤ length buffer → length all ≡ length had + n
  longer fits = ap length joined ∙ length-append had (take n buffer) ∙ ap (λ k. length had + k) (length-take-le n buffer fits)

-- a read at the end takes nothing
pub nothing_taken : (had buffer : List ℕ) (n : ℕ) (a b c : Option (List ℕ)) → n ≡ 0 → Consumes a b had → Consumes b c (take n buffer) → Consumes a c had
nothing_taken had buffer n a b c none before read =
    subst (Consumes a c) (ap (λ k. had ++ take k buffer) none ∙ append-nil had) (Consumes-trans a b c had (take n buffer) before read)
