-- The marked columns of a row word that stand one after another.
use Rattle.std.specs.Prelude.{◌≡◌, ℕ, ◌+◌, ◌<◌, ◌≤◌, true, false, Option, MatchOption}
use Rattle.toom.specs.declared.rows.Span.{Span}
use Rattle.toom.specs.Rows.{column}

-- The first marked columns from this one on, as many as stand one after another.
pub record FirstSpan (word from : ℕ) (x : Span) : Type 0 where
  pub onwards : from ≤ x.column
  pub some : 1 ≤ x.length
  pub wide : x.column + x.length ≤ 64
  pub marked : (c : ℕ) → x.column ≤ c → c < x.column + x.length → column word c ≡ true
  pub clear : (c : ℕ) → from ≤ c → c < x.column → column word c ≡ false
  pub ends : x.column + x.length < 64 → column word (x.column + x.length) ≡ false

-- Those, or none where no column from there on is marked.
abbrev pub SpanGiven : (word from : ℕ) → Option Span → Type 0
SpanGiven word from r =
    MatchOption r ((c : ℕ) → from ≤ c → c < 64 → column word c ≡ false) (FirstSpan word from)
