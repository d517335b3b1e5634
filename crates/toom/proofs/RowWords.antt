-- A narrow row word is the word of its columns, and has as many ones as columns.
use Rattle.std.proofs.Common.{◌≡◌, ℕ, zero, suc, ◌+◌, ◌-◌, ◌*◌, ◌/◌, ◌%◌, ◌^◌, ◌<◌, ◌≤◌, cond, eqb, sym, refl, ap, ◌∙◌, ap₂, add-zero, mod-lt, mul_assoc, mul_comm, add-mul, one-mul, pow-suc, div-add-mod', zero-mul, arith}
use native.Mathlib.Nat.{div-eq_of_lt}
use lib.Count.{ones, ones_step, ones_cat, ones-ones}
use Rattle.std.proofs.lemmas.Nat.{shr-shr, pow_pos}
use Rattle.toom.specs.Rows.{column, Narrow, row_word}
use Rattle.toom.specs.Torus.{total}

pub total_same : (f g : ℕ → ℕ) (n : ℕ) → ((k : ℕ) → k < n → f k ≡ g k) → total f n ≡ total g n
total_same f g zero h = refl
total_same f g (suc n) h = ap₂ ◌+◌ (total_same f g n (λ k l. h k (omega arith))) (h n (omega arith))

-- y where the bit x is set
bit_times : (x y : ℕ) → x < 2 → cond (eqb x 1) y 0 ≡ x * y
bit_times zero y h = sym (zero-mul y)
bit_times (suc zero) y h = sym (one-mul y)
bit_times (suc (suc x)) y h = absurd (omega arith)

module _ (w : ℕ) (fits : w < 2 ^ 64) where
  -- what the first j columns hold, and what column j adds to it
  high : ℕ → ℕ
  high j = w / 2 ^ (64 - j)

  high_none : high 0 ≡ 0
  unfolding high
  high_none = div-eq_of_lt fits

  high_half : (j : ℕ) → j < 64 → high (suc j) / 2 ≡ high j
  unfolding high
  high_half j h =
      let more : 64 - suc j + 1 ≡ 64 - j = omega arith in
      shr-shr w (64 - suc j) 1 ∙ ap (λ i. w / 2 ^ i) more

  column_is : (j y : ℕ) → j < 64 → cond (column w j) y 0 ≡ high (suc j) % 2 * y
  unfolding high
  column_is j y h =
      let same : 63 - j ≡ 64 - suc j = omega arith in
      ap (λ i. cond (eqb (w / 2 ^ i % 2) 1) y 0) same ∙ bit_times (high (suc j) % 2) y (mod-lt (high (suc j)) (omega arith))

  ones_high : (j : ℕ) → j ≤ 64 → total (λ c. cond (column w c) 1 0) j ≡ ones (high j)
  ones_high zero h = sym (ap ones high_none ∙ ones-ones 0)
  ones_high (suc j) h =
      ap₂ ◌+◌ (ones_high j (omega arith) ∙ ap ones (sym (high_half j h))) (column_is j 1 h)
      ∙ omega (arith, ones_step (high (suc j)))

  word_high : (j : ℕ) → j ≤ 64 → row_word j (column w) ≡ high j * 2 ^ (64 - j)
  word_high zero h = sym (ap (λ n. n * 2 ^ 64) high_none)
  word_high (suc j) h =
      let k = 64 - suc j in
      let n = high (suc j) in
      let longer : 64 - j ≡ suc k = omega arith in
      let same : 63 - j ≡ k = omega arith in
      let halves : high j * 2 ^ (64 - j) ≡ n / 2 * 2 * 2 ^ k =
      ap₂ (λ m i. m * 2 ^ i) (sym (high_half j h)) longer ∙ ap (λ i. n / 2 * i) (pow-suc 2 k ∙ mul_comm (2 ^ k) 2)
      ∙ sym (mul_assoc (n / 2) 2 (2 ^ k)) in
      ap₂ ◌+◌ (word_high j (omega arith) ∙ halves) (column_is j (2 ^ (63 - j)) h ∙ ap (λ i. n % 2 * 2 ^ i) same)
      ∙ sym (add-mul (n / 2 * 2) (n % 2) (2 ^ k)) ∙ ap (λ m. m * 2 ^ k) (div-add-mod' n 2)

module _ (side w : ℕ) (s : side ≤ 64) (narrow : Narrow side w) where
  whole : high w narrow.0 side * 2 ^ (64 - side) ≡ w
  unfolding high
  whole = omega (arith, div-add-mod' w (2 ^ (64 - side)), narrow.1)

  pub word_is : row_word side (column w) ≡ w
  word_is = word_high w narrow.0 side s ∙ whole

  pub ones_are : ones w ≡ total (λ c. cond (column w c) 1 0) side
  ones_are =
      let h = high w narrow.0 side in
      ap ones (sym (add-zero (h * 2 ^ (64 - side)) ∙ whole)) ∙ ones_cat (64 - side) h 0 (pow_pos (64 - side))
      ∙ ap (λ n. ones h + n) (ones-ones 0) ∙ add-zero (ones h) ∙ sym (ones_high w narrow.0 side s)
