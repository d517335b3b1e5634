-- A row word turned by one column: each column has the bit of the next, round the torus.
use Rattle.std.proofs.Common.{◌≡◌, ℕ, ◌+◌, ◌-◌, ◌*◌, ◌/◌, ◌%◌, ◌^◌, ◌<◌, false, ◌&&◌, ◌||◌, eqb, sym, ap, ◌∙◌, subst, ap₂, inl, inr, mod-eq_of_lt, arith}
use mathlib.Core.Bool.{or-false}
use native.Mathlib.Nat.{mod_self}
use lib.Bits.{bit_or}
use Rattle.std.proofs.lemmas.Bool.{cases_lt, eq-eqb, ne_eqb}
use Rattle.toom.specs.Rows.{Narrow, column}
use Rattle.toom.specs.Torus.{Side, next}
use Rattle.toom.proofs.Columns.{column_or, narrow_or, column_past, column_left, column_left_last, narrow_left, column_one, narrow_one, one_below}

module _ (side row : ℕ) (s : Side side) (narrow : Narrow side row) where
  -- the columns but the last, and the last
  abbrev left : ℕ
  left = row * 2 % 2 ^ 64

  abbrev wrapped : ℕ
  wrapped = row / 2 ^ 63 * 2 ^ (64 - side) % 2 ^ 64

  first_bit : row / 2 ^ 63 < 2
  first_bit = omega (arith, narrow.0)

  wrapped_is : wrapped ≡ row / 2 ^ 63 * 2 ^ (63 - (side - 1))
  wrapped_is =
      let same : 64 - side ≡ 63 - (side - 1) = omega arith in
      mod-eq_of_lt (one_below (row / 2 ^ 63) (64 - side) 64 first_bit (omega arith)) ∙ ap (λ i. row / 2 ^ 63 * 2 ^ i) same

  pub turned_narrow : Narrow side (bit_or left wrapped)
  turned_narrow =
      narrow_or side left wrapped (narrow_left side row (omega arith) narrow)
      (subst (λ w. Narrow side w) (sym wrapped_is) (narrow_one side (row / 2 ^ 63) (side - 1) (omega arith) first_bit (omega arith)))

  column_wrapped : (c : ℕ) → c < side → column wrapped c ≡ (eqb c (side - 1) && eqb (row / 2 ^ 63) 1)
  column_wrapped c h = ap (λ w. column w c) wrapped_is ∙ column_one (row / 2 ^ 63) (side - 1) c first_bit (omega arith) (omega arith)

  left_last : column left (side - 1) ≡ false
  left_last =
      elim (cases_lt (side - 1) 63) [
        | inl h ↦ column_left row (side - 1) h ∙ column_past side row (side - 1 + 1) narrow (omega arith) (omega arith)
        | inr h ↦ ap (λ c. column left c) (let last : side - 1 ≡ 63 = omega arith in last) ∙ column_left_last row
      ]

  pub turned_columns : (c : ℕ) → c < side → column (bit_or left wrapped) c ≡ column row (next side c)
  turned_columns c h =
      column_or left wrapped c
      ∙ elim (cases_lt (c + 1) side) [
        | inl inner ↦
            ap₂ ◌||◌ (column_left row c (omega arith))
            (column_wrapped c h ∙ ap (λ b. b && eqb (row / 2 ^ 63) 1) (ne_eqb c (side - 1) (omega arith)))
            ∙ or-false (column row (c + 1)) ∙ ap (λ k. column row k) (sym (mod-eq_of_lt inner))
        | inr end ↦
            let last : c ≡ side - 1 = omega arith in
            let whole : c + 1 ≡ side = omega arith in
            ap₂ ◌||◌ (ap (λ k. column left k) last ∙ left_last) (column_wrapped c h ∙ ap (λ b. b && eqb (row / 2 ^ 63) 1) (eq-eqb c (side - 1) last))
            ∙ ap (λ n. eqb n 1) (sym (mod-eq_of_lt first_bit))
            ∙ ap (λ k. column row k) (sym (ap (λ k. k % side) whole ∙ mod_self side))
      ]
