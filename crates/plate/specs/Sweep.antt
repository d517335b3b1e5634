-- What the sweeps over a plate's cells leave, place by place.
use Rattle.std.specs.Prelude.{◌≡◌, ℕ, ◌+◌, ◌*◌, ◌<◌, ◌≤◌, Bool, ◌⊎◌, List, get_or, slice_index_or}
use Rattle.toom.specs.Vote.{voted}
use Rattle.hosts.specs.Ring.{stepped}
use Rattle.plate.specs.Layout.{copy_at, voted_at}

-- The places to .. to + count and from .. from + count have none in common.
abbrev pub Apart : (to from count : ℕ) → Type 0
Apart to from count = (to + count ≤ from) ⊎ (from + count ≤ to)

-- What is wanted of a cell x at the j-th place that is written. d stands for what lies past the memory.
abbrev pub Wanted : Type 0 → Type 1
Wanted C = (j : ℕ) (d x : C) → Type 0

-- The places to .. to + count are written, each as wanted, and the others stay.
pub record Swept {C : Type 0} (to count : ℕ) (wanted : Wanted C) (before after : List C) : Type 0 where
  pub inside : (j : ℕ) (d : C) → j < count → wanted j d (slice_index_or after (to + j) d)
  pub outside : (k : ℕ) (d : C) → (k < to) ⊎ (to + count ≤ k) → slice_index_or after k d ≡ slice_index_or before k d

-- The host's answer to the old cells at a + j, b + j and c + j.
abbrev pub HostAnswers : {C : Type 0} → (host : C → C → C → C) (a b c : ℕ) → List C → Wanted C
HostAnswers host a b c before j d x = x ≡ host (slice_index_or before (a + j) d) (slice_index_or before (b + j) d) (slice_index_or before (c + j) d)

-- The places of the last column and of the last row, but for the corner; and both with the corner.
abbrev pub InColumn : (side r c : ℕ) → Type 0
InColumn side r c = (r + 1 < side) × (c + 1 ≡ side)

abbrev pub InRow : (side r c : ℕ) → Type 0
InRow side r c = (r + 1 ≡ side) × (c + 1 < side)

abbrev pub OnEdge : (side r c : ℕ) → Type 0
OnEdge side r c = (r + 1 ≡ side) ⊎ (c + 1 ≡ side)

-- Of n planes that begin at 0 the places that are `among` are voted, into the votes; the others stay.
pub record PlacesVoted {C : Type 0} (equal : C → C → Bool) (n side : ℕ) (among : (i r c : ℕ) → Type 0) (before after : List C) : Type 0 where
  pub inside : (i r c : ℕ) (d : C) → i < n → r < side → c < side → among i r c
      → slice_index_or after (voted_at n side i r c) d ≡ voted equal side (λ p q. slice_index_or before (copy_at side i p q) d) r c
  pub others : (i r c : ℕ) (d : C) → i < n → r < side → c < side → (among i r c → ⊥)
      → slice_index_or after (voted_at n side i r c) d ≡ slice_index_or before (voted_at n side i r c) d
  pub outside : (k : ℕ) (d : C) → (k < n * (side * side)) ⊎ (2 * (n * (side * side)) ≤ k) → slice_index_or after k d ≡ slice_index_or before k d

-- The votes of n planes that begin at 0, plane by plane.
abbrev pub PlanesVotes : {C : Type 0} → (equal : C → C → Bool) (n side : ℕ) → List C → Wanted C
PlanesVotes equal n side before j d x =
    (i r c : ℕ) → i < n → r < side → c < side → j ≡ i * (side * side) + (r * side + c)
    → x ≡ voted equal side (λ p q. get_or before (i * (side * side) + (p * side + q)) d) r c

-- One step of the ring of n blocks of w cells at from: each place of a block from the same place of the left block, its own and the right one.
abbrev pub RingSteps : {C : Type 0} → (host : C → C → C → C) (from n w : ℕ) → List C → Wanted C
RingSteps host from n w before j d x =
    (i p : ℕ) → i < n → p < w → j ≡ i * w + p → x ≡ stepped host n (λ k. get_or before (from + (k * w + p)) d) i

-- One step of the ring of the n cells at from.
abbrev pub Steps : {C : Type 0} → (host : C → C → C → C) (from n : ℕ) → List C → Wanted C
Steps host from n before j d x = x ≡ stepped host n (λ k. get_or before (from + k) d) j
