-- The columns of a row word under and, or, a shift by one column, and of a word with one column.
use Rattle.std.proofs.Common.{◌≡◌, ℕ, zero, suc, ◌+◌, ◌-◌, ◌*◌, ◌/◌, ◌%◌, ◌^◌, ◌<◌, ◌≤◌, Bool, false, ◌&&◌, ◌||◌, eqb, sym, refl, ap, ◌∙◌, ap₂, inl, inr, lt_of_lt_of_le, mod-lt, mod-eq_of_lt, mul_assoc, div-add-mod', mul_right_comm, arith, pow_mono}
use native.Mathlib.Nat.{zero-div, div-eq_of_lt, mul-mod_left}
use lib.Bits.{bit_and, bit_or}
use lib.Pow.{mod-mod-pow}
use Rattle.std.proofs.lemmas.Nat.{and_shr, and_mod, or_shr, or_mod, or_lt, and_le_l, field_of, shr-shr, shl-shr, shl_below, pow-add}
use Rattle.std.proofs.lemmas.Bool.{cases_order, eq-eqb, ne_eqb}
use Rattle.toom.specs.Rows.{column, Narrow}

-- ---- and, or

-- An operation on words that works on each bit by itself, as f on the columns.
module _ (op : ℕ → ℕ → ℕ) (f : Bool → Bool → Bool)
    (shr : (a b k : ℕ) → op a b / 2 ^ k ≡ op (a / 2 ^ k) (b / 2 ^ k))
    (rem : (a b k : ℕ) → op a b % 2 ^ k ≡ op (a % 2 ^ k) (b % 2 ^ k))
    (table : (x y : ℕ) → x < 2 → y < 2 → eqb (op x y) 1 ≡ f (eqb x 1) (eqb y 1)) where
  column_op : (a b c : ℕ) → column (op a b) c ≡ f (column a c) (column b c)
  column_op a b c =
      let k = 63 - c in
      ap (λ n. eqb (n % 2) 1) (shr a b k) ∙ ap (λ n. eqb n 1) (rem (a / 2 ^ k) (b / 2 ^ k) 1)
      ∙ table (a / 2 ^ k % 2) (b / 2 ^ k % 2) (mod-lt (a / 2 ^ k) (omega arith)) (mod-lt (b / 2 ^ k) (omega arith))

  low_op : (m a b : ℕ) → op 0 0 ≡ 0 → a % 2 ^ m ≡ 0 → b % 2 ^ m ≡ 0 → op a b % 2 ^ m ≡ 0
  low_op m a b z p q = rem a b m ∙ ap₂ op p q ∙ z

and_table : (x y : ℕ) → x < 2 → y < 2 → eqb (bit_and x y) 1 ≡ (eqb x 1 && eqb y 1)
and_table zero zero h k = refl
and_table zero (suc zero) h k = refl
and_table (suc zero) zero h k = refl
and_table (suc zero) (suc zero) h k = refl
and_table (suc (suc x)) y h k = absurd (omega arith)
and_table zero (suc (suc y)) h k = absurd (omega arith)
and_table (suc zero) (suc (suc y)) h k = absurd (omega arith)

or_table : (x y : ℕ) → x < 2 → y < 2 → eqb (bit_or x y) 1 ≡ (eqb x 1 || eqb y 1)
or_table zero zero h k = refl
or_table zero (suc zero) h k = refl
or_table (suc zero) zero h k = refl
or_table (suc zero) (suc zero) h k = refl
or_table (suc (suc x)) y h k = absurd (omega arith)
or_table zero (suc (suc y)) h k = absurd (omega arith)
or_table (suc zero) (suc (suc y)) h k = absurd (omega arith)

pub column_and : (a b c : ℕ) → column (bit_and a b) c ≡ (column a c && column b c)
column_and = column_op bit_and ◌&&◌ and_shr and_mod and_table

pub column_or : (a b c : ℕ) → column (bit_or a b) c ≡ (column a c || column b c)
column_or = column_op bit_or ◌||◌ or_shr or_mod or_table

pub narrow_and : (side a b : ℕ) → Narrow side a → Narrow side b → Narrow side (bit_and a b)
narrow_and side a b p q =
    (omega (arith, and_le_l a b), low_op bit_and ◌&&◌ and_shr and_mod and_table (64 - side) a b refl p.1 q.1)

pub narrow_or : (side a b : ℕ) → Narrow side a → Narrow side b → Narrow side (bit_or a b)
narrow_or side a b p q =
    (or_lt 64 a b p.0 q.0, low_op bit_or ◌||◌ or_shr or_mod or_table (64 - side) a b refl p.1 q.1)

-- ---- columns that a narrow word lacks, and a shift by one column

-- The lowest bit outlives a cut at j bits, j above 0.
lowest_bit : (n j : ℕ) → 0 < j → n % 2 ^ j % 2 ≡ n % 2
lowest_bit n j h =
    let more : j ≡ (j - 1) + 1 = omega arith in
    ap (λ i. n % 2 ^ i % 2) more ∙ mod-mod-pow n (j - 1) 1

-- Bit k of a number below the cut at m bits, m above k, is that of the number.
pub cut_bit : (n m k : ℕ) → k < m → n % 2 ^ m / 2 ^ k % 2 ≡ n / 2 ^ k % 2
cut_bit n m k h =
    let more : m ≡ (m - k) + k = omega arith in
    ap (λ i. n % 2 ^ i / 2 ^ k % 2) more ∙ ap (λ i. i % 2) (field_of n (m - k) k) ∙ lowest_bit (n / 2 ^ k) (m - k) (omega arith)

-- So it is zero where the lowest m bits are.
pub low_bit : (n m k : ℕ) → k < m → n % 2 ^ m ≡ 0 → n / 2 ^ k % 2 ≡ 0
low_bit n m k h e = sym (cut_bit n m k h) ∙ ap (λ i. i / 2 ^ k % 2) e ∙ ap (λ i. i % 2) (zero-div (2 ^ k))

pub column_past : (side w c : ℕ) → Narrow side w → side ≤ c → c < 64 → column w c ≡ false
column_past side w c p h k = ap (λ n. eqb n 1) (low_bit w (64 - side) (63 - c) (omega arith) p.1)

pub column_left : (w c : ℕ) → c < 63 → column (w * 2 % 2 ^ 64) c ≡ column w (c + 1)
column_left w c h =
    let k = 63 - (c + 1) in
    let more : 63 - c ≡ 1 + k = omega arith in
    ap (λ i. eqb (w * 2 % 2 ^ 64 / 2 ^ i % 2) 1) more
    ∙ ap (λ n. eqb n 1) (cut_bit (w * 2) 64 (1 + k) (omega arith) ∙ ap (λ n. n % 2) (sym (shr-shr (w * 2) 1 k) ∙ ap (λ n. n / 2 ^ k) (shl-shr w 1)))

pub column_left_last : (w : ℕ) → column (w * 2 % 2 ^ 64) 63 ≡ false
column_left_last w =
    let even : w * 2 % 2 ^ 64 / 2 ^ 0 % 2 ≡ 0 = omega arith in
    ap (λ n. eqb n 1) even

pub narrow_left : (side w : ℕ) → side ≤ 64 → Narrow side w → Narrow side (w * 2 % 2 ^ 64)
narrow_left side w h p =
    let m = 64 - side in
    let more : 64 ≡ (64 - m) + m = omega arith in
    let whole : w ≡ w / 2 ^ m * 2 ^ m = omega (arith, div-add-mod' w (2 ^ m), p.1) in (
      mod-lt (w * 2) (omega arith),
      ap (λ i. w * 2 % 2 ^ i % 2 ^ m) more ∙ mod-mod-pow (w * 2) (64 - m) m
          ∙ ap (λ i. i % 2 ^ m) (ap (λ n. n * 2) whole ∙ mul_right_comm (w / 2 ^ m) (2 ^ m) 2) ∙ mul-mod_left (w / 2 ^ m * 2) (2 ^ m),
    )

-- ---- a word with at most one column

pub one_below : (h p : ℕ) (k : ℕ) → h < 2 → p < k → h * 2 ^ p < 2 ^ k
one_below h p k less below = lt_of_lt_of_le (shl_below h 1 p less) (pow_mono {i = 1 + p} {j = k} (omega arith))

pub column_one : (h a c : ℕ) → h < 2 → a < 64 → c < 64 → column (h * 2 ^ (63 - a)) c ≡ (eqb c a && eqb h 1)
column_one h a c p q r =
    let word = h * 2 ^ (63 - a) in
    let elsewhere : (c ≡ a → ⊥) → word / 2 ^ (63 - c) % 2 ≡ 0 → column word c ≡ (eqb c a && eqb h 1) =
    λ n e. ap (λ i. eqb i 1) e ∙ sym (ap (λ b. b && eqb h 1) (ne_eqb c a n)) in
    elim (cases_order c a) [
      | inl e ↦
          ap (λ i. eqb (h * 2 ^ (63 - i) / 2 ^ (63 - c) % 2) 1) (sym e) ∙ ap (λ n. eqb (n % 2) 1) (shl-shr h (63 - c))
          ∙ ap (λ n. eqb n 1) (mod-eq_of_lt p) ∙ sym (ap (λ b. b && eqb h 1) (eq-eqb c a e))
      | inr (inl l) ↦ elsewhere (omega arith) (ap (λ n. n % 2) (div-eq_of_lt (one_below h (63 - a) (63 - c) p (omega arith))))
      | inr (inr g) ↦ elsewhere (omega arith) (low_bit word (63 - a) (63 - c) (omega arith) (mul-mod_left h (2 ^ (63 - a))))
    ]

pub narrow_one : (side h a : ℕ) → side ≤ 64 → h < 2 → a < side → Narrow side (h * 2 ^ (63 - a))
narrow_one side h a s p q =
    let m = 64 - side in
    let d = 63 - a - m in
    let more : 63 - a ≡ d + m = omega arith in (
      one_below h (63 - a) 64 p (omega arith),
      ap (λ i. i % 2 ^ m) (ap (λ i. h * 2 ^ i) more ∙ ap (λ i. h * i) (pow-add 2 d m) ∙ sym (mul_assoc h (2 ^ d) (2 ^ m)))
          ∙ mul-mod_left (h * 2 ^ d) (2 ^ m),
    )
