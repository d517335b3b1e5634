-- The planes written whole, block by block, and the copies of some places over them.
use Rattle.std.proofs.Common.{◌≡◌, ℕ, ◌+◌, ◌*◌, ◌<◌, ◌≤◌, ◌⊎◌, Bool, List, get_or, sym, refl, ap, ◌∙◌, subst, inl, inr, add-mul, one-mul, arith}
use Rattle.std.proofs.lemmas.Bool.{both_ways, cases_Bool, cases_lt, cond-false, cond-true}
use Rattle.toom.specs.Torus.{Plane}
use Rattle.plate.specs.Layout.{copy_at}
use Rattle.plate.specs.Painted.{Painted}
use Rattle.plate.specs.Sweep.{Swept}
use Rattle.plate.specs.Wounds.{BlocksOf, CopiesSettled, Marked, PlanesWritten, StrandsSettled, kept_at}
use Rattle.plate.proofs.Grids.{one_place, place_in}
use Rattle.plate.proofs.SweptPlaces.{copy_in}
use Rattle.plate.proofs.Sweeps.{swept_join}

-- One block more.
pub blocks_more : {C : Type 0} (base from i w : ℕ) (old mid new : List C) (cell : C) → base + i * w ≤ from
    → ((d : C) → cell ≡ get_or old (from + i) d)
    → Swept base (i * w) (BlocksOf from i w old) old mid → Painted (base + i * w) w cell mid new
    → Swept base ((i + 1) * w) (BlocksOf from (i + 1) w old) old new
blocks_more base from i w old mid new cell apart cell-is a b =
    let sum : i * w + w ≡ (i + 1) * w = omega (arith, add-mul i 1 w, one-mul w) in
    subst (λ m. Swept base m (BlocksOf from (i + 1) w old) old new) sum
    (swept_join base (i * w) w _ _ (BlocksOf from (i + 1) w old) old mid new a b
    (λ j d x hj is k p hk hp at.
    elim (cases_lt k i) [
      | inl l ↦ is k p l hp at
      | inr g ↦ let same : i ≡ k = omega arith in absurd (omega (arith, at, ap (λ m. m * w) same))
    ])
    (λ j d x hj is k p hk hp at.
    let same = one_place w i j k p hj hp at in
    is ∙ cell-is d ∙ ap (λ m. get_or old (from + m) d) same.0))

-- Writing copies leaves the strands.
pub kept_stays : {C : Type 0} (n side : ℕ) (old mid : List C)
    → ((k : ℕ) (d : C) → (k < 0) ⊎ (0 + n * (side * side) ≤ k) → get_or mid k d ≡ get_or old k d)
    → (i r c : ℕ) (d : C) → get_or mid (kept_at n side i r c) d ≡ get_or old (kept_at n side i r c) d
kept_stays n side old mid stays i r c d = stays (kept_at n side i r c) d (inr (omega arith))

-- Where all copies are written from the line, and then those of the wounds from their strands, each is as it was seen.
pub all_settled : {C : Type 0} (wounds : Plane Bool) (n side : ℕ) (old mid new : List C)
    → PlanesWritten 0 (2 * (n * (side * side))) n side old mid → StrandsSettled n side (Marked wounds) mid new
    → CopiesSettled wounds n side old new
all_settled wounds n side old mid new lines strands = record {
  inside = λ i r c d hi hr hc _.
      elim (cases_Bool (wounds r c)) [
        | inl wounded ↦
            strands.inside i r c d hi hr hc wounded ∙ kept_stays n side old mid lines.outside i r c d
            ∙ sym (ap (λ k. get_or old k d) (cond-true _ _ _ wounded))
        | inr out ↦
            strands.others i r c d hi hr hc (λ wounded. both_ways _ out wounded)
            ∙ lines.inside (copy_at side i r c) d (copy_in n side i r c hi hr hc) i (r * side + c) hi (place_in side side r c hr hc) refl
            ∙ sym (ap (λ k. get_or old k d) (cond-false _ _ _ out))
      ];
  others = λ i r c d hi hr hc out. absurd (out hr);
  outside = λ k d h. strands.outside k d h ∙ lines.outside k d h;
}
