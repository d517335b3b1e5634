-- The four sweeps of a beat, together: votes, the copies' step, the move of the line, the line's step.
use Rattle.std.proofs.Common.{◌≡◌, ℕ, ◌+◌, ◌*◌, ◌<◌, Bool, List, length, get_or, sym, refl, ap, ◌∙◌, inl, inr, arith}
use Rattle.hosts.specs.Ring.{left_of, right_of, stepped as ring-step}
use Rattle.plate.specs.BeatCall.{CellsBeaten, voted_copies, copies, line}
use Rattle.plate.specs.Layout.{copy_at, line_at, earlier_at}
use Rattle.plate.specs.Sweep.{Swept, PlanesVotes, RingSteps}
use Rattle.plate.proofs.Grids.{place_in}
use Rattle.hosts.proofs.Rings.{left_below, right_below}
use Rattle.plate.proofs.Sweeps.{three}

module _ {C : Type 0} (host : C → C → C → C) (n : ℕ) where
  -- Steps over rings whose places agree.
  pub stepped_same : (f g : ℕ → C) → ((k : ℕ) → k < n → f k ≡ g k) → (i : ℕ) → i < n → ring-step host n f i ≡ ring-step host n g i
  stepped_same f g same i h =
      three host (same (left_of n i) (left_below n i h)) (same i h) (same (right_of n i) (right_below n i h))

module _ {C : Type 0} (equal : C → C → Bool) (host : C → C → C → C) (n side : ℕ) (before voted stepped moved after : List C)
    (votes : Swept (n * (side * side)) (n * (side * side)) (PlanesVotes equal n side before) before voted)
    (steps : Swept 0 (n * (side * side)) (RingSteps host (n * (side * side)) n (side * side) voted) voted stepped)
    (moves : Swept (2 * (n * (side * side)) + n) n (λ j d x. x ≡ get_or stepped (line_at n side j) d) stepped moved)
    (lines : Swept (2 * (n * (side * side))) (n * 1) (RingSteps host (2 * (n * (side * side)) + n) n 1 moved) moved after) where
  -- The copies and the votes stay while the line steps.
  below_line : (k : ℕ) (d : C) → k < 2 * (n * (side * side)) → get_or after k d ≡ get_or stepped k d
  below_line k d h = lines.outside k d (inl h) ∙ moves.outside k d (inl (omega arith))

  -- The votes stay.
  votes_stay : (k : ℕ) (d : C) → k < n * (side * side) → get_or after (n * (side * side) + k) d ≡ get_or voted (n * (side * side) + k) d
  votes_stay k d h = below_line (n * (side * side) + k) d (omega arith) ∙ steps.outside (n * (side * side) + k) d (inr (omega arith))

  -- The line is still that before the beat when it is moved.
  line_old : (i : ℕ) (d : C) → get_or stepped (line_at n side i) d ≡ line before n side d i
  line_old i d = steps.outside (line_at n side i) d (inr (omega arith)) ∙ votes.outside (line_at n side i) d (inr (omega arith))

  line_moved : (i : ℕ) (d : C) → i < n → get_or moved (earlier_at n side i) d ≡ line before n side d i
  line_moved i d h = moves.inside i d h ∙ line_old i d

  places : (i r c : ℕ) → i < n → r < side → c < side → copy_at side i r c < n * (side * side)
  places i r c hi hr hc = place_in n (side * side) i (r * side + c) hi (place_in side side r c hr hc)

  copies_step : (i r c : ℕ) (d : C) → i < n → r < side → c < side
      → copies after side d i r c ≡ ring-step host n (λ k. voted_copies after n side d k r c) i
  copies_step i r c d hi hr hc =
      let h = places i r c hi hr hc in
      below_line (copy_at side i r c) d (omega arith)
      ∙ ap (λ k. get_or stepped k d) (let e : copy_at side i r c ≡ 0 + copy_at side i r c = omega arith in e)
      ∙ steps.inside (copy_at side i r c) d h i (r * side + c) hi (place_in side side r c hr hc) refl
      ∙ stepped_same host n _ _ (λ k hk. sym (votes_stay (copy_at side k r c) d (places k r c hk hr hc))) i hi

  line_steps : (i : ℕ) (d : C) → i < n → line after n side d i ≡ ring-step host n (line before n side d) i
  line_steps i d h =
      let one : i < n * 1 = omega arith in
      let place : i ≡ i * 1 + 0 = omega arith in
      lines.inside i d one i 0 h (omega arith) place
      ∙ stepped_same host n _ _
      (λ k hk. ap (λ m. get_or moved m d) (let e : 2 * (n * (side * side)) + n + (k * 1 + 0) ≡ earlier_at n side k = omega arith in e) ∙ line_moved k d hk) i h

  pub beaten : length after ≡ length before → CellsBeaten equal host n side before after
  beaten long =
      record {
        votes = λ i r c d hi hr hc.
            let h = places i r c hi hr hc in
            votes_stay (copy_at side i r c) d h ∙ votes.inside (copy_at side i r c) d h i r c hi hr hc refl;
        steps = copies_step;
        lines = line_steps;
        earlier = λ i d h. lines.outside (earlier_at n side i) d (inr (omega arith)) ∙ line_moved i d h;
        beyond = λ k d h.
            lines.outside k d (inr (omega arith)) ∙ moves.outside k d (inr (omega arith)) ∙ steps.outside k d (inr (omega arith))
            ∙ votes.outside k d (inr (omega arith));
        long = long;
      }
