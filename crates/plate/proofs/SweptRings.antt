-- One step of a ring of two or more blocks: the first block, the inner ones and the last.
use Rattle.std.proofs.Common.{◌≡◌, ℕ, ◌+◌, ◌-◌, ◌*◌, ◌<◌, ◌≤◌, List, get_or, ap, ◌∙◌, subst, zero-add, arith}
use Rattle.hosts.specs.Ring.{left_of, right_of}
use Rattle.plate.specs.Sweep.{Apart, Wanted, Swept, HostAnswers, RingSteps}
use Rattle.plate.proofs.Grids.{place_in, last_block}
use Rattle.hosts.proofs.Rings.{left_below, right_below}
use Rattle.plate.proofs.Rings.{Needed, first_block, inner_blocks, final_block}
use Rattle.plate.proofs.Sweeps.{apart_out, swept_none, swept_join, three}

module _ {C : Type 0} (host : C → C → C → C) (to from n w : ℕ) (apart : Apart to from (n * w)) (old : List C) where
  -- A part whose places are those needed is a part of the step, since the ring that is read is still old.
  stepped_part : (s m a b c : ℕ) (xs : List C) (wanted : Wanted C) → s + m ≤ n * w → Swept to s wanted old xs
      → ((j i p : ℕ) → j < m → i < n → p < w → s + j ≡ i * w + p → Needed from n w i p (a + j) (b + j) (c + j))
      → (j : ℕ) (d x : C) → j < m → HostAnswers host a b c xs j d x → RingSteps host from n w old (s + j) d x
  stepped_part s m a b c xs wanted fits written places j d x h e i p hi hp is =
      let at = places j i p h hi hp is in
      e ∙ three host (still (left_of n i) (left_below n i hi) at.0) (still i hi at.1) (still (right_of n i) (right_below n i hi) at.2)
    where
      still : (k : ℕ) → k < n → {q : ℕ} → q ≡ from + (k * w + p) → get_or xs q d ≡ get_or old (from + (k * w + p)) d
      still k hk eq =
          ap (λ q. get_or xs q d) eq
          ∙ written.outside (from + (k * w + p)) d (apart_out to from (n * w) apart (k * w + p) s (place_in n w k p hk hp) (omega arith))

  first_part : (m a b c : ℕ) (new : List C) → m ≤ n * w
      → ((j i p : ℕ) → j < m → i < n → p < w → 0 + j ≡ i * w + p → Needed from n w i p (a + j) (b + j) (c + j))
      → Swept to m (HostAnswers host a b c old) old new → Swept to m (RingSteps host from n w old) old new
  first_part m a b c new fits places wr =
      let all = RingSteps host from n w old in
      record {
        inside = λ j d h.
            subst (λ k. all k d (get_or new (to + j) d)) (zero-add j)
            (stepped_part 0 m a b c old all (omega arith) (swept_none to all old) places j d (get_or new (to + j) d) h (wr.inside j d h));
        outside = wr.outside;
      }

  more_part : (s m a b c : ℕ) (xs new : List C) → s + m ≤ n * w
      → ((j i p : ℕ) → j < m → i < n → p < w → s + j ≡ i * w + p → Needed from n w i p (a + j) (b + j) (c + j))
      → Swept to s (RingSteps host from n w old) old xs → Swept (to + s) m (HostAnswers host a b c xs) xs new
      → Swept to (s + m) (RingSteps host from n w old) old new
  more_part s m a b c xs new fits places before wr =
      let all = RingSteps host from n w old in
      swept_join to s m all _ all old xs new before wr (λ j d x h p. p) (stepped_part s m a b c xs all fits before places)

  pub ring_stepped : 2 ≤ n → (one two new : List C) → Swept to w (HostAnswers host (from + (n - 1) * w) from (from + w) old) old one
      → Swept (to + w) ((n - 1) * w - w) (HostAnswers host from (from + w) (from + 2 * w) one) one two
      → Swept (to + (n - 1) * w) w (HostAnswers host (from + (n - 1) * w - w) (from + (n - 1) * w) from two) two new
      → Swept to (n * w) (RingSteps host from n w old) old new
  ring_stepped more one two new a b c =
      let all = RingSteps host from n w old in
      let last = last_block n w (omega arith) in
      let inner = last_block (n - 1) w (omega arith) in
      let first = first_part w (from + (n - 1) * w) from (from + w) one (omega arith) (first_block from n w more) a in
      let second = more_part w ((n - 1) * w - w) from (from + w) (from + 2 * w) one two (omega arith) (inner_blocks from n w more) first b in
      let most : Swept to ((n - 1) * w) all old two =
      subst (λ k. Swept to k all old two) (let e : w + ((n - 1) * w - w) ≡ (n - 1) * w = omega arith in e) second in
      subst (λ k. Swept to k all old new) last
      (more_part ((n - 1) * w) w (from + (n - 1) * w - w) (from + (n - 1) * w) from two new (omega arith) (final_block from n w more) most c)
