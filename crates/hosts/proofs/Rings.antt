-- The neighbours of a place of the ring are places of the ring, and each undoes the other.
use Rattle.std.proofs.Common.{◌≡◌, ℕ, zero, suc, ◌<◌, eqb, arith}
use Rattle.std.proofs.lemmas.Bool.Decides.{nat_tests}
use Rattle.hosts.specs.Ring.{left_of, right_of}

pub left_below : (n i : ℕ) → i < n → left_of n i < n
left_below n zero i< = omega arith
left_below n (suc i) i< = omega arith

pub right_below : (n i : ℕ) → i < n → right_of n i < n
right_below n i i< = grind (arith, nat_tests)

-- A step to one side takes a head from p to i if the place on the other side of i is p.
pub left_lands : (n i p : ℕ) → i < n → p < n → eqb (right_of n i) p ≡ eqb i (left_of n p)
left_lands n i zero i< p< = grind (arith, nat_tests)
left_lands n i (suc p) i< p< = grind (arith, nat_tests)

pub right_lands : (n i p : ℕ) → i < n → p < n → eqb (left_of n i) p ≡ eqb i (right_of n p)
right_lands n zero p i< p< = grind (arith, nat_tests)
right_lands n (suc i) p i< p< = grind (arith, nat_tests)
