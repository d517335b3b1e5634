-- A ring of single cells, stepped one after another.
use Rattle.std.proofs.Common.{◌≡◌, ℕ, ◌+◌, ◌*◌, ◌<◌, ◌≤◌, ◌⊎◌, List, get_or, sym, ap, ◌∙◌, subst, add-one, arith}
use Rattle.hosts.specs.Ring.{left_of}
use Rattle.plate.specs.Sweep.{RingSteps, Steps, Swept}
use Rattle.plate.proofs.SweptBeats.{stepped_same}

-- One is left of the cell after it.
pub left_after : (n i : ℕ) → left_of n (i + 1) ≡ i
left_after n i = ap (left_of n) (add-one i)

-- Blocks of one cell are cells.
pub single_cells : {C : Type 0} (host : C → C → C → C) (to from n : ℕ) (old new : List C) → Swept to (n * 1) (RingSteps host from n 1 old) old new
    → Swept to n (Steps host from n old) old new
single_cells host to from n old new s =
    let width : n * 1 ≡ n = omega arith in
    record {
      inside = λ j d h.
          let place : j ≡ j * 1 + 0 = omega arith in
          s.inside j d (omega (arith, width)) j 0 h (omega arith) place
          ∙ stepped_same host n _ _ (λ k hk. ap (λ m. get_or old m d) (let e : from + (k * 1 + 0) ≡ from + k = omega arith in e)) j h;
      outside = λ k d h. s.outside k d (subst (λ m. (k < to) ⊎ (to + m ≤ k)) (sym width) h);
    }
