-- The first marked columns of a row word that stand one after another, found by the zeros and the ones that lead a word.
use Rattle.std.proofs.Common.{◌≡◌, ℕ, zero, suc, ◌+◌, ◌-◌, ◌*◌, ◌/◌, ◌%◌, ◌^◌, ◌<◌, ◌≤◌, true, false, eqb, sym, refl, ap, ◌∙◌, subst, inl, inr, mod-lt, lt_of_lt_of_le, add-mul, div-add-mod', pow-suc, pow_mono, arith}
use mathlib.Core.Bool.{not}
use native.Mathlib.Nat.{zero-div, div-eq_of_lt, mul-mod_left}
use lib.Count.{count_leading_zeros}
use lib.Pow.{mod-mod-pow}
use Rattle.std.specs.Int.Count.{leading_of_zero}
use Rattle.std.proofs.lemmas.Bool.{both_ways, cases_lt, not-true, not-false}
use Rattle.std.proofs.lemmas.Nat.{leading_le, leading_length, leading_top, le-div, pow_pos, pow-add, shl-shr, shr-shr, shr_below, shr_high}
use Rattle.toom.specs.Rows.{column}
use Rattle.toom.specs.Spans.{FirstSpan}
use Rattle.toom.proofs.Columns.{cut_bit, low_bit}

pub column_zero : (c : ℕ) → column 0 c ≡ false
column_zero c = ap (λ n. eqb (n % 2) 1) (zero-div (2 ^ (63 - c)))

-- ---- a word moved by k columns: column c is that of c + k, and none is past the word

pub column_moved : (w k c : ℕ) → c + k < 64 → column (w * 2 ^ k % 2 ^ 64) c ≡ column w (c + k)
column_moved w k c h =
    let i = 63 - (c + k) in
    let more : 63 - c ≡ k + i = omega arith in
    ap (λ j. eqb (w * 2 ^ k % 2 ^ 64 / 2 ^ j % 2) 1) more
    ∙ ap (λ n. eqb n 1) (cut_bit (w * 2 ^ k) 64 (k + i) (omega arith) ∙ ap (λ n. n % 2) (sym (shr-shr (w * 2 ^ k) k i) ∙ ap (λ n. n / 2 ^ i) (shl-shr w k)))

pub column_moved_past : (w k c : ℕ) → k ≤ 64 → c < 64 → 64 ≤ c + k → column (w * 2 ^ k % 2 ^ 64) c ≡ false
column_moved_past w k c wide h past =
    let more : 64 ≡ (64 - k) + k = omega arith in
    let low : w * 2 ^ k % 2 ^ 64 % 2 ^ k ≡ 0 =
    ap (λ i. w * 2 ^ k % 2 ^ i % 2 ^ k) more ∙ mod-mod-pow (w * 2 ^ k) (64 - k) k ∙ mul-mod_left w (2 ^ k) in
    ap (λ n. eqb n 1) (low_bit (w * 2 ^ k % 2 ^ 64) k (63 - c) (omega arith) low)

-- ---- the zeros that lead a word

module _ (w : ℕ) (fits : w < 2 ^ 64) where
  pub clear_front : (c : ℕ) → c < count_leading_zeros 64 w → column w c ≡ false
  clear_front c h =
      let top = leading_length 64 w fits in
      let below : w < 2 ^ (63 - c) = lt_of_lt_of_le top.2 (pow_mono {i = top.0} {j = 63 - c} (omega (arith, top.1))) in
      ap (λ n. eqb (n % 2) 1) (div-eq_of_lt below)

  module _ (some : 0 < w) where
    pub front_within : count_leading_zeros 64 w < 64
    front_within = omega (arith, (leading_top 64 w some fits).1)

    pub marked_front : column w (count_leading_zeros 64 w) ≡ true
    marked_front =
        let top = leading_top 64 w some fits in
        let j = top.0 in
        let at : 63 - count_leading_zeros 64 w ≡ j = omega (arith, top.1) in
        let less : w / 2 ^ j < 2 ^ 1 = shr_below w 1 j (subst (λ i. w < 2 ^ i) (let e : suc j ≡ 1 + j = omega arith in e) top.3) in
        let more : 1 ≤ w / 2 ^ j = le-div 1 w (2 ^ j) (pow_pos j) (omega (arith, top.2)) in
        let one : w / 2 ^ j % 2 ≡ 1 = omega arith in
        ap (λ i. eqb (w / 2 ^ i % 2) 1) at ∙ ap (λ n. eqb n 1) one

-- ---- the ones that lead it: the zeros of its complement

flipped : (x y : ℕ) → x + y ≡ 1 → eqb x 1 ≡ not (eqb y 1)
flipped zero zero e = absurd (omega arith)
flipped zero (suc zero) e = refl
flipped zero (suc (suc y)) e = absurd (omega arith)
flipped (suc zero) zero e = refl
flipped (suc zero) (suc y) e = absurd (omega arith)
flipped (suc (suc x)) y e = absurd (omega arith)

module _ (w : ℕ) (fits : w < 2 ^ 64) where
  column_complement : (c : ℕ) → c < 64 → column (2 ^ 64 - 1 - w) c ≡ not (column w c)
  column_complement c h =
      let k = 63 - c in
      let q = w / 2 ^ k in
      let r = w % 2 ^ k in
      let d = 2 ^ (64 - k) - 1 - q in
      let high : q < 2 ^ (64 - k) = shr_below w (64 - k) k (subst (λ i. w < 2 ^ i) (let e : 64 ≡ (64 - k) + k = omega arith in e) fits) in
      let low : r < 2 ^ k = mod-lt w (pow_pos k) in
      let whole : q * 2 ^ k + r ≡ w = div-add-mod' w (2 ^ k) in
      let parts : 2 ^ (64 - k) ≡ (d + q) + 1 = omega arith in
      let top : 2 ^ 64 ≡ (d * 2 ^ k + q * 2 ^ k) + 1 * 2 ^ k =
      ap (λ i. 2 ^ i) (let e : 64 ≡ (64 - k) + k = omega arith in e) ∙ pow-add 2 (64 - k) k ∙ ap (λ n. n * 2 ^ k) parts
      ∙ add-mul (d + q) 1 (2 ^ k) ∙ ap (λ n. n + 1 * 2 ^ k) (add-mul d q (2 ^ k)) in
      let split : 2 ^ 64 - 1 - w ≡ d * 2 ^ k + (2 ^ k - 1 - r) = omega arith in
      let even : 2 ^ (64 - k) ≡ 2 ^ (63 - k) * 2 = ap (λ i. 2 ^ i) (let e : 64 - k ≡ suc (63 - k) = omega arith in e) ∙ pow-suc 2 (63 - k) in
      let odd : d % 2 + q % 2 ≡ 1 = omega arith in
      ap (λ n. eqb (n % 2) 1) (ap (λ n. n / 2 ^ k) split ∙ shr_high d k (2 ^ k - 1 - r) (omega arith)) ∙ flipped (d % 2) (q % 2) odd

  rest_fits : 2 ^ 64 - 1 - w < 2 ^ 64
  rest_fits = omega arith

  pub marked_lead : (c : ℕ) → c < count_leading_zeros 64 (2 ^ 64 - 1 - w) → column w c ≡ true
  marked_lead c h =
      not-false (column w c) (sym (column_complement c (omega (arith, leading_le 64 (2 ^ 64 - 1 - w)))) ∙ clear_front (2 ^ 64 - 1 - w) rest_fits c h)

  pub lead_ends : count_leading_zeros 64 (2 ^ 64 - 1 - w) < 64 → column w (count_leading_zeros 64 (2 ^ 64 - 1 - w)) ≡ false
  lead_ends h =
      let some : 0 < 2 ^ 64 - 1 - w =
      elim (cases_lt 0 (2 ^ 64 - 1 - w)) [
        | inl l ↦ l
        | inr g ↦
            let none : 2 ^ 64 - 1 - w ≡ 0 = omega arith in
            absurd (omega (arith, ap (count_leading_zeros 64) none, leading_of_zero 64))
      ] in
      not-true (column w (count_leading_zeros 64 (2 ^ 64 - 1 - w)))
      (sym (column_complement (count_leading_zeros 64 (2 ^ 64 - 1 - w)) h) ∙ marked_front (2 ^ 64 - 1 - w) rest_fits some)

-- ---- the first span

module _ (row from : ℕ) where
  abbrev ahead : ℕ
  ahead = row * 2 ^ from % 2 ^ 64

  pub none_ahead : ahead ≡ 0 → (c : ℕ) → from ≤ c → c < 64 → column row c ≡ false
  none_ahead e c h k =
      ap (λ n. column row n) (let at : c ≡ (c - from) + from = omega arith in at) ∙ sym (column_moved row from (c - from) (omega arith))
      ∙ ap (λ w. column w (c - from)) e ∙ column_zero (c - from)

  module _ (within : from < 64) (some : ahead ≡ 0 → ⊥) where
    ahead_fits : ahead < 2 ^ 64
    ahead_fits = mod-lt (row * 2 ^ from) (omega arith)

    ahead_some : 0 < ahead
    ahead_some = omega arith

    -- the first column, and the word from there on
    abbrev first : ℕ
    first = from + count_leading_zeros 64 ahead

    abbrev onwards : ℕ
    onwards = row * 2 ^ first % 2 ^ 64

    pub first_within : first < 64
    first_within =
        elim (cases_lt first 64) [
          | inl l ↦ l
          | inr g ↦
              absurd
              (both_ways (column ahead (count_leading_zeros 64 ahead))
              (column_moved_past row from (count_leading_zeros 64 ahead) (omega arith) (front_within ahead ahead_fits ahead_some) (omega arith))
              (marked_front ahead ahead_fits ahead_some))
        ]

    onwards_fits : onwards < 2 ^ 64
    onwards_fits = mod-lt (row * 2 ^ first) (omega arith)

    first_marked : column row first ≡ true
    first_marked =
        ap (column row) (let at : first ≡ count_leading_zeros 64 ahead + from = omega arith in at)
        ∙ sym (column_moved row from (count_leading_zeros 64 ahead) (omega (arith, first_within)))
        ∙ marked_front ahead ahead_fits ahead_some

    module _ (n : ℕ) (counts : n ≡ count_leading_zeros 64 (2 ^ 64 - 1 - onwards)) where
      lead : (c : ℕ) → c < n → column onwards c ≡ true
      lead c h = marked_lead onwards onwards_fits c (omega arith)

      ends_lead : n < 64 → column onwards n ≡ false
      ends_lead h = ap (column onwards) counts ∙ lead_ends onwards onwards_fits (omega arith)

      wide : first + n ≤ 64
      wide =
          elim (cases_lt 64 (first + n)) [
            | inl l ↦
                let most = leading_le 64 (2 ^ 64 - 1 - onwards) in
                absurd
                (both_ways (column onwards (64 - first)) (column_moved_past row first (64 - first) (omega (arith, first_within)) (omega arith) (omega arith))
                (lead (64 - first) (omega (arith, first_within))))
            | inr g ↦ g
          ]

      at : (c : ℕ) → c + first < 64 → column onwards c ≡ column row (first + c)
      at c h = column_moved row first c h ∙ ap (column row) (let e : c + first ≡ first + c = omega arith in e)

      one_at_least : 1 ≤ n
      one_at_least =
          elim (cases_lt 0 n) [
            | inl l ↦ l
            | inr g ↦
                let same : first + n ≡ first = omega arith in
                absurd
                (both_ways (column row first) (ap (column row) (sym same) ∙ sym (at n (omega (arith, first_within))) ∙ ends_lead (omega arith))
                first_marked)
          ]

      pub span_found : FirstSpan row from record { column = first; length = n }
      span_found = record {
        onwards = omega arith;
        some = one_at_least;
        wide = wide;
        marked = λ c h k.
            ap (column row) (let e : c ≡ first + (c - first) = omega arith in e) ∙ sym (at (c - first) (omega (arith, wide)))
            ∙ lead (c - first) (omega arith);
        clear = λ c h k.
            ap (column row) (let e : c ≡ (c - from) + from = omega arith in e) ∙ sym (column_moved row from (c - from) (omega (arith, first_within)))
            ∙ clear_front ahead ahead_fits (c - from) (omega arith);
        ends = λ h. sym (at n (omega arith)) ∙ ends_lead (omega arith);
      }
