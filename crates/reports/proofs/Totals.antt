-- Sums of equal numbers are equal; and bounds on sums: of marks, and of the map.
use Rattle.std.proofs.Common.{◌≡◌, ℕ, zero, suc, ◌+◌, ◌*◌, ◌<◌, ◌≤◌, Bool, cond, List, refl, ap₂, suc-mul, zero-mul, arith}
use Rattle.std.proofs.lemmas.Nat.{mul-le}
use Rattle.std.proofs.lemmas.Bool.{cases_Bool}
use Rattle.toom.specs.Torus.{Plane, count_marks, total}
use Rattle.plate.specs.MapCall.{hurt_at}

pub total_same : (f g : ℕ → ℕ) (n : ℕ) → ((k : ℕ) → k < n → f k ≡ g k) → total f n ≡ total g n
total_same f g zero same = refl
total_same f g (suc n) same = ap₂ ◌+◌ (total_same f g n (λ k h. same k (omega arith))) (same n (omega arith))

total_low : (f : ℕ → ℕ) (m n : ℕ) → ((k : ℕ) → f k ≤ m) → total f n ≤ n * m
total_low f m zero low = omega (arith, zero-mul m)
total_low f m (suc n) low = omega (arith, suc-mul n m, total_low f m n low, low n)

bit_low : (b : Bool) (m n : ℕ) → m ≤ 1 → n ≤ 1 → cond b m n ≤ 1
bit_low b m n p q = grind (arith, cases_Bool b)

pub marks_low : (side : ℕ) (shadow : Plane Bool) → side ≤ 64 → count_marks side shadow ≤ 4096
marks_low side shadow narrow =
    omega (
      arith,
      total_low (λ r. total (λ c. cond (shadow r c) 1 0) side) (side * 1) side
          (λ r. total_low (λ c. cond (shadow r c) 1 0) 1 side (λ c. bit_low (shadow r c) 1 0 (omega arith) (omega arith))),
      mul-le side (side * 1) 64 64 narrow (omega arith),
    )

pub map_low : {C : Type 0} (equal : C → C → Bool) (n side : ℕ) (cells : List C) (d : C) → n ≤ 4096 → side ≤ 64
    → total (hurt_at equal n side cells d) (side * side) ≤ 16777216
map_low equal n side cells d few narrow =
    omega (
      arith,
      total_low (hurt_at equal n side cells d) (n * 1) (side * side)
          (λ j. total_low _ 1 n (λ i. bit_low _ 0 1 (omega arith) (omega arith))),
      mul-le side side 64 64 narrow narrow,
      mul-le (side * side) (n * 1) 4096 4096 (omega (arith, mul-le side side 64 64 narrow narrow)) (omega arith),
    )
