-- Two majorities of one list meet: so if more than half of it are one cell, that cell is its majority.
use Rattle.std.proofs.Common.{◌≡◌, ◌+◌, ◌*◌, ◌<◌, ◌≤◌, Bool, true, false, cond, List, [], ◌∷◌, length, Some, sym, ap, ◌∙◌, inl, inr, arith}
use Rattle.std.proofs.lemmas.List.Sums.{sum_by-cons}
use Rattle.std.proofs.lemmas.Bool.{both_ways, cases_Bool, cond_both}
use Rattle.plate.specs.ReadCall.{holders, majority_of}
use Rattle.plate.proofs.Majorities.{majority_some}

module _ {C : Type 0} (equal : C → C → Bool) (sound : (x y : C) → equal x y ≡ true → x ≡ y) where
  -- No cell is two different cells.
  one_at_most : (x y z : C) → equal y x ≡ false → cond (equal z x) 1 0 + cond (equal z y) 1 0 ≤ 1
  one_at_most x y z differ =
      cond_both (equal z x) 1 0 (λ n. n + cond (equal z y) 1 0 ≤ 1)
      (λ is_x. cond_both (equal z y) 1 0 (λ n. 1 + n ≤ 1)
      (λ is_y. absurd (both_ways (equal y x) differ (ap (λ w. equal w x) (sym (sound z y is_y)) ∙ is_x)))
      (λ _. omega arith))
      (λ _. cond_both (equal z y) 1 0 (λ n. 0 + n ≤ 1) (λ _. omega arith) (λ _. omega arith))

  -- So the holders of two different cells are no more than all.
  holders_apart : (x y : C) → equal y x ≡ false → (cells : List C) → holders equal x cells + holders equal y cells ≤ length cells
  holders_apart x y differ [] = omega arith
  holders_apart x y differ (z ∷ cells) =
      omega (
        arith,
        sum_by-cons (λ w. cond (equal w x) 1 0) z cells,
        sum_by-cons (λ w. cond (equal w y) 1 0) z cells,
        one_at_most x y z differ,
        holders_apart x y differ cells,
      )

  module _ (cells : List C) (x : C) (most : length cells < 2 * holders equal x cells) where
    -- Two majorities meet.
    majority_is : (y : C) → length cells < 2 * holders equal y cells → y ≡ x
    majority_is y more =
        elim (cases_Bool (equal y x)) [
          | inl is ↦ sound y x is
          | inr differ ↦ absurd (omega (arith, holders_apart x y differ cells))
        ]

    pub majority_found : majority_of equal cells ≡ Some x
    majority_found = majority_some equal sound cells x majority_is most
