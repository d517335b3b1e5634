-- Blocks of equal cells, one more at a time.
use Rattle.std.proofs.Common.{◌≡◌, ℕ, ◌+◌, ◌*◌, ◌<◌, ◌≤◌, ◌⊎◌, List, get_or, Some, Option, sym, ap, ◌∙◌, inl, inr, add-mul, one-mul, arith}
use Rattle.std.proofs.lemmas.Bool.{cases_lt}
use Rattle.plate.specs.Painted.{Painted, BlocksPainted}
use Rattle.plate.proofs.Grids.{place_in}

module _ {C : Type 0} (named : ℕ → Option C) (from i w : ℕ) (tape : List ℕ) (cell : C) (old xs ys : List C) where
  pub blocks_more : BlocksPainted named from i w tape old xs → named (get_or tape i 0) ≡ Some cell → Painted (from + i * w) w cell xs ys
      → BlocksPainted named from (i + 1) w tape old ys
  blocks_more p names q = record {
    inside = λ k j d h l.
        elim (cases_lt k i) [
          | inl below ↦
              ap Some (q.outside (from + (k * w + j)) d (inl (omega (arith, place_in i w k j below l)))) ∙ p.inside k j d below l
          | inr more ↦
              let last : k ≡ i = omega arith in
              let place : from + (k * w + j) ≡ from + i * w + j = ap (λ n. from + (n * w + j)) last ∙ omega arith in
              ap (λ n. Some (get_or ys n d)) place ∙ ap Some (q.inside j d l) ∙ sym names ∙ ap (λ n. named (get_or tape n 0)) (sym last)
        ];
    outside = λ k d h.
        let wider = block_width in
        let now : (k < from + i * w) ⊎ (from + i * w + w ≤ k) = elim h [ inl l ↦ inl (omega arith) | inr g ↦ inr (omega arith) ] in
        let before : (k < from) ⊎ (from + i * w ≤ k) = elim h [ inl l ↦ inl l | inr g ↦ inr (omega arith) ] in
        q.outside k d now ∙ p.outside k d before;
  }
    where
      block_width : (i + 1) * w ≡ i * w + w
      block_width = add-mul i 1 w ∙ ap (λ n. i * w + n) (one-mul w)
