-- The rows of a shadow are zero if and only if no place is marked.
use Rattle.std.proofs.Common.{◌≡◌, ◌↔◌, ℕ, zero, suc, ◌-◌, ◌^◌, ◌<◌, ◌≤◌, false, cond, All, length, take, slice_index, sym, refl, ap, ◌∙◌, arith}
use Rattle.std.proofs.lemmas.List.{get_or-take, get_or_default, length-take-le}
use Rattle.toom.specs.declared.shadow.Shadow.{Shadow}
use Rattle.toom.specs.Rows.{column}
use Rattle.toom.specs.Shadow.{marks}
use Rattle.toom.specs.Torus.{Everywhere, total}
use Rattle.toom.proofs.RowWords.{total_same}
use Rattle.toom.proofs.Shadows.{row_is}
use Rattle.toom.proofs.Spans.{column_zero}

total_none : (n : ℕ) → total (λ _. 0) n ≡ 0
total_none zero = refl
total_none (suc n) = omega (arith, total_none n)

module _ (s : Shadow) where
  zero_row : (r : ℕ) → ((c : ℕ) → c < s.side → marks s r c ≡ false) → slice_index s.rows r ≡ 0
  zero_row r clear =
      sym (row_is s r) ∙ total_same _ (λ _. 0) s.side (λ c h. ap (λ b. cond b (2 ^ (63 - c)) 0) (clear c h)) ∙ total_none s.side

  pub clear_rows : All (λ row. row ≡ 0) (take s.side s.rows) ↔ Everywhere s.side (λ r c. marks s r c ≡ false)
  clear_rows =
      let within : s.side ≤ length s.rows = omega (arith, s.tall, s.sized.1) in
      let wide = length-take-le s.side s.rows within in (
        λ zeros r c h k.
            ap (λ w. column w c) (sym (get_or-take s.side s.rows r 0 h) ∙ zeros r 0 (omega (arith, wide))) ∙ column_zero c,
        λ clear r d l.
            let below : r < s.side = omega (arith, wide, l) in
            get_or_default (take s.side s.rows) r d 0 l ∙ get_or-take s.side s.rows r 0 below
            ∙ zero_row r (λ c k. clear r c below k),
      )
