-- Sums over a range: of a list's places, by rows, and of two that cover each place.
use Rattle.std.proofs.Common.{◌≡◌, ℕ, zero, suc, ◌+◌, ◌*◌, ◌<◌, ◌≤◌, List, length, get_or, take, sum_by, sym, refl, ap, ◌∙◌, add-zero, add_assoc, add-suc, suc-mul, zero-mul, add-one, arith}
use Rattle.std.proofs.lemmas.List.{take_all}
use Rattle.std.proofs.lemmas.List.Sums.{sum_by_more}
use Rattle.toom.specs.Torus.{total}

-- The sum over a list is that over its places.
module _ {X : Type 0} (f : X → ℕ) (xs : List X) (d : X) where
  sum_front : (m : ℕ) → m ≤ length xs → sum_by f (take m xs) ≡ total (λ j. f (get_or xs j d)) m
  sum_front zero h = refl
  sum_front (suc m) h =
      ap (λ n. sum_by f (take n xs)) (sym (add-one m)) ∙ sum_by_more f xs m d h
      ∙ ap (λ n. n + f (get_or xs m d)) (sum_front m (omega arith))

  pub sum_by_places : sum_by f xs ≡ total (λ j. f (get_or xs j d)) (length xs)
  sum_by_places = ap (sum_by f) (sym (take_all (length xs) xs (omega arith))) ∙ sum_front (length xs) (omega arith)

total_beyond : (f : ℕ → ℕ) (a m : ℕ) → total f (a + m) ≡ total f a + total (λ j. f (a + j)) m
total_beyond f a zero = ap (total f) (add-zero a) ∙ sym (add-zero (total f a))
total_beyond f a (suc m) =
    ap (total f) (add-suc a m) ∙ ap (λ n. n + f (a + m)) (total_beyond f a m)
    ∙ add_assoc (total f a) (total (λ j. f (a + j)) m) (f (a + m))

-- Row by row, with `width` places in each.
pub total_by_rows : (f : ℕ → ℕ) (width rows : ℕ) → total f (rows * width) ≡ total (λ r. total (λ c. f (r * width + c)) width) rows
total_by_rows f width zero = ap (total f) (zero-mul width)
total_by_rows f width (suc rows) =
    ap (total f) (suc-mul rows width) ∙ total_beyond f (rows * width) width
    ∙ ap (λ n. n + total (λ c. f (rows * width + c)) width) (total_by_rows f width rows)

-- Where two functions have at least a together, their sums have n times that.
pub totals_cover : (f g : ℕ → ℕ) (a n : ℕ) → ((k : ℕ) → k < n → a ≤ f k + g k) → n * a ≤ total f n + total g n
totals_cover f g a zero each = omega (arith, zero-mul a)
totals_cover f g a (suc n) each = omega (arith, suc-mul n a, totals_cover f g a n (λ k h. each k (omega arith)), each n (omega arith))
