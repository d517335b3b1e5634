-- The line written over and over, each time behind what was written.
use Rattle.std.proofs.Common.{◌≡◌, ℕ, ◌+◌, ◌-◌, ◌*◌, ◌<◌, ◌≤◌, List, get_or, sym, ap, ◌∙◌, subst, inl, inr, add-mul, one-mul, mul-le-mul_right, arith}
use Rattle.std.proofs.lemmas.Bool.{cases_lt}
use Rattle.plate.specs.Beside.{RepeatsLine}
use Rattle.plate.specs.Layout.{line_at}
use Rattle.plate.specs.Sweep.{Swept}
use Rattle.plate.proofs.Grids.{block_in, one_place}
use Rattle.plate.proofs.Sweeps.{swept_join}

module _ {C : Type 0} (n side to : ℕ) (old : List C) where
  -- The line once.
  pub repeats_once : (new : List C) → Swept to n (λ j d x. x ≡ get_or old (2 * (n * (side * side)) + j) d) old new → Swept to (1 * n) (RepeatsLine n side old) old new
  repeats_once new s = record {
    inside = λ j d hj p i hi at.
        let low : j < n = omega (arith, one-mul n) in
        let none : 0 * n + j ≡ j = omega arith in
        let same = one_place n 0 j p i low hi (none ∙ at) in
        let place : 2 * (n * (side * side)) + j ≡ line_at n side i = omega (arith, same.1) in
        s.inside j d low ∙ ap (λ m. get_or old m d) place;
    outside = λ k d h. s.outside k d (rw (one-mul n) at h);
  }

  -- And as often again as it was written, or less often.
  pub repeats_more : (done more : ℕ) (mid new : List C) → more ≤ done → Swept to (done * n) (RepeatsLine n side old) old mid
      → Swept (to + done * n) (more * n) (λ j d x. x ≡ get_or mid (to + j) d) mid new → Swept to ((done + more) * n) (RepeatsLine n side old) old new
  repeats_more done more mid new le a b =
      subst (λ m. Swept to m (RepeatsLine n side old) old new) (sym (add-mul done more n))
      (swept_join to (done * n) (more * n) _ _ (RepeatsLine n side old) old mid new a b (λ j d x hj is. is)
      (λ j d x hj is p i hi at.
      elim (cases_lt p done) [
        | inl l ↦ absurd (omega (arith, at, block_in done n p l))
        | inr g ↦
            let whole : p - done + done ≡ p = omega (arith, g) in
            let sum : (p - done) * n + done * n ≡ p * n = sym (add-mul (p - done) done n) ∙ ap (λ m. m * n) whole in
            is ∙ a.inside j d (omega (arith, hj, mul-le-mul_right {m = more} {n = done} n le)) (p - done) i hi (omega (arith, at, sum))
      ]))
