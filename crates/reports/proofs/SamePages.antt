-- A page needs no more of the map than its places.
use Rattle.std.proofs.Common.{◌≡◌, ℕ, zero, suc, ◌+◌, ◌*◌, ◌<◌, Bool, List, ◌∷◌, ◌++◌, map, codes, refl, ap, ap₂, arith}
use Rattle.std.specs.List.{range_with_len, flat_map}
use Rattle.toom.specs.Torus.{Plane, count_marks}
use Rattle.plate.proofs.Layings.{place_below}
use Rattle.reports.specs.Report.{ended, number_line, page, place_mark, row_line}
use Rattle.reports.proofs.Totals.{total_same}

pub map_same : (f g : ℕ → ℕ) (a n : ℕ) → ((k : ℕ) → k < a + n → f k ≡ g k) → map f (range_with_len a n) ≡ map g (range_with_len a n)
map_same f g a zero same = refl
map_same f g a (suc n) same = ap₂ ◌∷◌ (same a (omega arith)) (map_same f g (a + 1) n (λ k h. same k (omega arith)))

joined_same : (f g : ℕ → List ℕ) (a n : ℕ) → ((k : ℕ) → k < a + n → f k ≡ g k) → flat_map f (range_with_len a n) ≡ flat_map g (range_with_len a n)
joined_same f g a zero same = refl
joined_same f g a (suc n) same = ap₂ ◌++◌ (same a (omega arith)) (joined_same f g (a + 1) n (λ k h. same k (omega arith)))

module _ (side : ℕ) (f g : ℕ → ℕ) (same : (j : ℕ) → j < side * side → f j ≡ g j) (shadow : Plane Bool) where
  row_same : (r : ℕ) → r < side → row_line side f shadow r ≡ row_line side g shadow r
  row_same r r< =
      ap ended (map_same _ _ 0 side (λ c c<. ap (λ hurt. place_mark hurt (shadow r c)) (same (r * side + c) (place_below side r c r< (omega arith)))))

  pub page_same : (age : ℕ) (last : List ℕ) → page age side f shadow last ≡ page age side g shadow last
  page_same age last =
      ap₂ (λ hurt marked. number_line (codes "age ") age ++ (number_line (codes "shadow ") (count_marks side shadow)
      ++ (number_line (codes "hurt ") hurt ++ (marked ++ last))))
      (total_same f g (side * side) same) (joined_same _ _ 0 side (λ r r<. row_same r (omega arith)))
