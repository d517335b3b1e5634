-- A ring of n places, which closes: place n - 1 is the one before place 0.
use Rattle.std.specs.Prelude.{ℕ, zero, suc, ◌+◌, ◌-◌, cond, ◌==◌}

abbrev pub left_of : (n i : ℕ) → ℕ
left_of n zero = n - 1
left_of n (suc i) = i

abbrev pub right_of : (n i : ℕ) → ℕ
right_of n i = cond (i + 1 == n) 0 (i + 1)

-- The host's answer at place i, over the cells of the ring.
abbrev pub stepped : {C : Type 0} → (C → C → C → C) → ℕ → (ℕ → C) → (ℕ → C)
stepped host n cells i = host (cells (left_of n i)) (cells i) (cells (right_of n i))
