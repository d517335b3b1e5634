-- How many rounds of a kept file are replied to as it says.
use Rattle.std.specs.Prelude.{◌≡◌, ℕ, Bool, List, ◌++◌, length, codes, decimal}
use Rattle.std.specs.List.{AllZip, count_by}
use Rattle.kept.specs.declared.tally.Tally.{Tally}
use Rattle.kept.specs.Agreement.{Compared}
use Rattle.kept.specs.KeptFile.{Keeps, Pair}

-- The bytes are pairs. Each round was played, and its reply compared with the kept one. Counted are the pairs, and those that agree.
pub record Tallies (bytes : List ℕ) (tally : Tally) : Type 0 where
  pub pairs : List Pair
  pub agree : List Bool
  pub keeps : Keeps bytes pairs
  pub compared : AllZip (λ pair agrees. Compared pair.file pair.reply agrees) pairs agree
  pub rounds : tally.rounds ≡ length pairs
  pub agreeing : tally.agreeing ≡ count_by (λ agrees. agrees) agree

-- The line that tells both numbers.
abbrev pub tally_text : Tally → List ℕ
tally_text tally = decimal tally.agreeing ++ (codes " of " ++ (decimal tally.rounds ++ codes " rounds agree"))
