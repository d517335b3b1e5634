-- The two sweeps of the line's step: it is kept as the earlier line, and steps from there.
use Rattle.std.proofs.Common.{◌≡◌, ℕ, ◌+◌, ◌*◌, List, get_or, ◌∙◌, inl, inr, arith}
use Rattle.plate.specs.Layout.{earlier_at, line_at}
use Rattle.plate.specs.Sweep.{Steps, Swept}
use Rattle.plate.specs.Wounds.{LineSteps}
use Rattle.plate.proofs.SweptBeats.{stepped_same}

module _ {C : Type 0} (host : C → C → C → C) (n side : ℕ) (before moved after : List C)
    (moves : Swept (2 * (n * (side * side)) + n) n (λ j d x. x ≡ get_or before (line_at n side j) d) before moved)
    (steps : Swept (2 * (n * (side * side))) n (Steps host (2 * (n * (side * side)) + n) n moved) moved after) where
  pub line_steps : LineSteps host n side before after
  line_steps = record {
    earlier = λ i d h. steps.outside (earlier_at n side i) d (inr (omega arith)) ∙ moves.inside i d h;
    lines = λ i d h. steps.inside i d h ∙ stepped_same host n _ _ (λ k hk. moves.inside k d hk) i h;
    others = λ k d h.
        elim h [
          | inl l ↦ steps.outside k d (inl l) ∙ moves.outside k d (inl (omega arith))
          | inr g ↦ steps.outside k d (inr (omega arith)) ∙ moves.outside k d (inr (omega arith))
        ];
  }
