-- A ring of n blocks of w places: which three places each place of it needs.
use Rattle.std.proofs.Common.{◌≡◌, ℕ, zero, suc, ◌+◌, ◌-◌, ◌*◌, ◌<◌, ◌≤◌, eqb, sym, ap, ◌∙◌, subst, inl, inr, mul-le-mul_right, arith}
use Rattle.std.proofs.lemmas.Bool.{cond-true, cond-false, cases_lt, eq-eqb, ne_eqb}
use Rattle.hosts.specs.Ring.{left_of, right_of}
use Rattle.plate.proofs.Grids.{one_place, last_block}

left_more : (n i : ℕ) → 1 ≤ i → left_of n i ≡ i - 1
left_more n zero h = absurd (omega arith)
left_more n (suc i) h = omega arith

pub right_more : (n i : ℕ) → i + 1 < n → right_of n i ≡ i + 1
right_more n i h = cond-false (eqb (i + 1) n) 0 (i + 1) (ne_eqb (i + 1) n (λ e. omega arith))

right_last : (n i : ℕ) → i + 1 ≡ n → right_of n i ≡ 0
right_last n i e = cond-true (eqb (i + 1) n) 0 (i + 1) (eq-eqb (i + 1) n e)

-- The three places that a place of the ring needs.
abbrev pub Needed : (from n w : ℕ) (i p : ℕ) (a b c : ℕ) → Type 0
Needed from n w i p a b c =
    (a ≡ from + (left_of n i * w + p)) × (b ≡ from + (i * w + p)) × (c ≡ from + (right_of n i * w + p))

module _ (from n w : ℕ) where
  needed : (i p a b c l r : ℕ) → left_of n i ≡ l → right_of n i ≡ r → a ≡ from + (l * w + p) → b ≡ from + (i * w + p)
      → c ≡ from + (r * w + p) → Needed from n w i p a b c
  needed i p a b c l r el er ea eb ec =
      (ea ∙ ap (λ k. from + (k * w + p)) (sym el), eb, ec ∙ ap (λ k. from + (k * w + p)) (sym er))

  module _ (more : 2 ≤ n) where
    pub first_block : (j i p : ℕ) → j < w → i < n → p < w → 0 + j ≡ i * w + p
        → Needed from n w i p (from + (n - 1) * w + j) (from + j) (from + w + j)
    first_block j i p hj hi hp e =
        let same = one_place w 0 j i p hj hp (omega arith) in
        let here : j ≡ p = same.1 in
        subst (λ k. Needed from n w k p (from + (n - 1) * w + j) (from + j) (from + w + j)) same.0
        (needed 0 p (from + (n - 1) * w + j) (from + j) (from + w + j) (n - 1) 1 (λ _. n - 1) (right_more n 0 (omega arith)) (omega arith) (omega arith)
        (omega arith))

    pub inner_blocks : (j i p : ℕ) → j < (n - 1) * w - w → i < n → p < w → w + j ≡ i * w + p
        → Needed from n w i p (from + j) (from + w + j) (from + 2 * w + j)
    inner_blocks j i p hj hi hp e =
        let some : 1 ≤ i = elim (cases_lt 0 i) [
          | inl l ↦ l
          | inr g ↦ let none : i * w ≡ 0 * w = ap (λ k. k * w) (omega arith) in absurd (omega arith)
        ] in
        let inner : i + 1 < n = elim (cases_lt (i + 1) n) [
          | inl l ↦ l
          | inr g ↦ let past : (n - 1) * w ≤ i * w = mul-le-mul_right w (let le : n - 1 ≤ i = omega arith in le) in absurd (omega arith)
        ] in
        let left = last_block i w some in
        needed i p (from + j) (from + w + j) (from + 2 * w + j) (i - 1) (i + 1) (left_more n i some) (right_more n i inner) (omega arith) (omega arith)
        (omega arith)

    pub final_block : (j i p : ℕ) → j < w → i < n → p < w → (n - 1) * w + j ≡ i * w + p
        → Needed from n w i p (from + (n - 1) * w - w + j) (from + (n - 1) * w + j) (from + j)
    final_block j i p hj hi hp e =
        let same = one_place w (n - 1) j i p hj hp e in
        let here : j ≡ p = same.1 in
        let left = last_block (n - 1) w (omega arith) in
        subst (λ k. Needed from n w k p (from + (n - 1) * w - w + j) (from + (n - 1) * w + j) (from + j)) same.0
        (needed (n - 1) p (from + (n - 1) * w - w + j) (from + (n - 1) * w + j) (from + j) (n - 1 - 1) 0 (left_more n (n - 1) (omega arith))
        (right_last n (n - 1) (omega arith)) (omega arith) (omega arith) (omega arith))
