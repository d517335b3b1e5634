-- The majority of sixteen bits, from the number of ones.
use Rattle.std.proofs.Common.{◌≡◌, ℕ, ◌+◌, ◌*◌, ◌<◌, ◌≤◌, true, cond, List, [], ◌∷◌, length, Some, None, Option, refl, ap, ◌∙◌, arith}
use Rattle.std.proofs.lemmas.List.{take_all}
use Rattle.std.proofs.lemmas.List.Sums.{sum_by-cons}
use Rattle.toom.specs.declared.bit.Bit.{Bit}
use Rattle.toom.specs.declared.bit.Bit.TheVariants.{Zero, One}
use Rattle.toom.specs.Bit.{equal_bits}
use Rattle.plate.specs.Board.{plane_of}
use Rattle.plate.specs.ReadCall.{holders, majority_of}
use Rattle.plate.proofs.Majorities.{majority_some, majority_none}
use Rattle.worked.specs.Worked.{OnesOfSixteen}

exact : (x y : Bit) → equal_bits x y ≡ true → x ≡ y
exact Zero Zero h = refl
exact Zero One h = absurd (grind arith)
exact One Zero h = absurd (grind arith)
exact One One h = refl

-- Each bit is a zero or a one.
zeros_and_ones : (cells : List Bit) → holders equal_bits Zero cells + holders equal_bits One cells ≡ length cells
zeros_and_ones [] = refl
zeros_and_ones (Zero ∷ cells) =
    let rest = zeros_and_ones cells in
    omega (arith, sum_by-cons (λ y. cond (equal_bits y Zero) 1 0) Zero cells, sum_by-cons (λ y. cond (equal_bits y One) 1 0) Zero cells)
zeros_and_ones (One ∷ cells) =
    let rest = zeros_and_ones cells in
    omega (arith, sum_by-cons (λ y. cond (equal_bits y Zero) 1 0) One cells, sum_by-cons (λ y. cond (equal_bits y One) 1 0) One cells)

module _ (ones : ℕ) (cells : List Bit) (of : OnesOfSixteen ones cells) where
  zeros : holders equal_bits Zero cells + ones ≡ 16
  zeros = omega (arith, zeros_and_ones cells, of.sixteen, of.count)

  at_plane : (o : Option Bit) → majority_of equal_bits cells ≡ o → majority_of equal_bits (plane_of cells 4 0) ≡ o
  at_plane o h = ap (majority_of equal_bits) (take_all 16 cells (omega (arith, of.sixteen))) ∙ h

  -- With at most eight ones no more than half of the cells are One, and with at least eight no more than half are Zero.
  zero_only : ones ≤ 8 → (y : Bit) → length cells < 2 * holders equal_bits y cells → y ≡ Zero
  zero_only most Zero h = refl
  zero_only most One h = absurd (omega (arith, of.count, of.sixteen))

  one_only : 8 ≤ ones → (y : Bit) → length cells < 2 * holders equal_bits y cells → y ≡ One
  one_only least Zero h = absurd (omega (arith, zeros, of.sixteen))
  one_only least One h = refl

  pub few : ones < 8 → majority_of equal_bits (plane_of cells 4 0) ≡ Some Zero
  few less = at_plane (Some Zero) (majority_some equal_bits exact cells Zero (zero_only (omega arith)) (omega (arith, zeros, of.sixteen)))

  pub half : ones ≡ 8 → majority_of equal_bits (plane_of cells 4 0) ≡ None
  half same = at_plane None (majority_none equal_bits exact cells One (one_only (omega arith)) (omega (arith, of.count, of.sixteen)))

  pub many : 8 < ones → majority_of equal_bits (plane_of cells 4 0) ≡ Some One
  many more = at_plane (Some One) (majority_some equal_bits exact cells One (one_only (omega arith)) (omega (arith, of.count, of.sixteen)))
