-- Any memory that holds a plate's shape has cells after a beat: they are written out place by place.
use Rattle.std.proofs.Common.{◌≡◌, ℕ, ◌+◌, ◌-◌, ◌*◌, ◌/◌, ◌%◌, ◌<◌, ◌≤◌, Bool, cond, ltb, List, [], ◌∷◌, length, get_or, map, sym, ap, ◌∙◌, inl, inr, arith}
use Rattle.std.specs.List.{range_with_len}
use Rattle.std.proofs.lemmas.Bool.{cases_lt, cond-true, cond-false, lt-ltb, le-ltb}
use Rattle.std.proofs.lemmas.Nat.{div-mul-add, mod-mul-add}
use Rattle.std.proofs.lemmas.List.{get_or_default, get_or_past}
use Rattle.std.proofs.lemmas.List.FromFn.{get_or-map-range_with_len, length-map-range_with_len}
use Rattle.toom.specs.Torus.{next}
use Rattle.toom.specs.Vote.{vote_of, voted}
use Rattle.hosts.specs.Ring.{stepped}
use Rattle.plate.specs.BeatCall.{CellsBeaten, copies, line}
use Rattle.plate.specs.Layout.{copy_at, voted_at, line_at, earlier_at, size_of}
use Rattle.plate.proofs.Grids.{place_in}
use Rattle.plate.proofs.Sweeps.{three}
use Rattle.plate.proofs.SweptBeats.{stepped_same}
use Rattle.plate.proofs.SweptPlaces.{copy_in, next_below}

abbrev all : (n side : ℕ) → ℕ
all n side = n * (side * side)

module _ {C : Type 0} (n side : ℕ) where
  -- What f gives at the plane, the row and the column of place k among the copies.
  abbrev at_copy : (ℕ → ℕ → ℕ → C) → ℕ → C
  at_copy f k = f (k / (side * side)) (k % (side * side) / side) (k % (side * side) % side)

  copied : (f : ℕ → ℕ → ℕ → C) (i r c : ℕ) → r < side → c < side → at_copy f (copy_at side i r c) ≡ f i r c
  copied f i r c hr hc =
      let below = place_in side side r c hr hc in
      let plane = div-mul-add i (side * side) (r * side + c) below in
      let place = mod-mul-add i (side * side) (r * side + c) below in
      let row = ap (λ m. m / side) place ∙ div-mul-add r side c hc in
      let column = ap (λ m. m % side) place ∙ mod-mul-add r side c hc in
      λ j. f (plane j) (row j) (column j)

  module _ (copy vote : ℕ → ℕ → ℕ → C) (now before past : ℕ → C) where
    -- The cell of place k, where the parts of the memory are these.
    abbrev cell : ℕ → C
    cell k =
        cond (ltb k (all n side)) (at_copy copy k)
        (cond (ltb k (2 * all n side)) (at_copy vote (k - all n side))
        (cond (ltb k (2 * all n side + n)) (now (k - 2 * all n side)) (cond (ltb k (size_of n side)) (before (k - (2 * all n side + n))) (past k))))

    cell-copy : (i r c : ℕ) → i < n → r < side → c < side → cell (copy_at side i r c) ≡ copy i r c
    cell-copy i r c hi hr hc =
        cond-true _ _ _ (lt-ltb (copy_at side i r c) (all n side) (copy_in n side i r c hi hr hc)) ∙ copied copy i r c hr hc

    cell-vote : (i r c : ℕ) → i < n → r < side → c < side → cell (voted_at n side i r c) ≡ vote i r c
    cell-vote i r c hi hr hc =
        let at = voted_at n side i r c in
        let in_copies = copy_in n side i r c hi hr hc in
        let back : at - all n side ≡ copy_at side i r c = omega arith in
        cond-false _ _ _ (le-ltb at (all n side) (omega arith)) ∙ cond-true _ _ _ (lt-ltb at (2 * all n side) (omega arith))
        ∙ ap (at_copy vote) back ∙ copied vote i r c hr hc

    cell-now : (i : ℕ) → i < n → cell (line_at n side i) ≡ now i
    cell-now i hi =
        let at = line_at n side i in
        let back : at - 2 * all n side ≡ i = omega arith in
        cond-false _ _ _ (le-ltb at (all n side) (omega arith)) ∙ cond-false _ _ _ (le-ltb at (2 * all n side) (omega arith))
        ∙ cond-true _ _ _ (lt-ltb at (2 * all n side + n) (omega arith)) ∙ ap now back

    cell-before : (i : ℕ) → i < n → cell (earlier_at n side i) ≡ before i
    cell-before i hi =
        let at = earlier_at n side i in
        let back : at - (2 * all n side + n) ≡ i = omega arith in
        cond-false _ _ _ (le-ltb at (all n side) (omega arith)) ∙ cond-false _ _ _ (le-ltb at (2 * all n side) (omega arith))
        ∙ cond-false _ _ _ (le-ltb at (2 * all n side + n) (omega arith)) ∙ cond-true _ _ _ (lt-ltb at (size_of n side) (omega arith)) ∙ ap before back

    cell-past : (k : ℕ) → size_of n side ≤ k → cell k ≡ past k
    cell-past k h =
        cond-false _ _ _ (le-ltb k (all n side) (omega arith)) ∙ cond-false _ _ _ (le-ltb k (2 * all n side) (omega arith))
        ∙ cond-false _ _ _ (le-ltb k (2 * all n side + n) (omega arith)) ∙ cond-false _ _ _ (le-ltb k (size_of n side) h)

module _ {C : Type 0} (equal : C → C → Bool) (host : C → C → C → C) (n side : ℕ) (old : List C) (x : C) (room : size_of n side ≤ length old) where
  abbrev vote_at : ℕ → ℕ → ℕ → C
  vote_at i r c = voted equal side (copies old side x i) r c

  abbrev step_at : ℕ → ℕ → ℕ → C
  step_at i r c = stepped host n (λ k. vote_at k r c) i

  abbrev cell_after : ℕ → C
  cell_after = cell n side step_at vote_at (stepped host n (line old n side x)) (line old n side x) (λ k. get_or old k x)

  abbrev after : List C
  after = map cell_after (range_with_len 0 (length old))

  reads : (k : ℕ) (d : C) → k < length old → get_or after k d ≡ cell_after k
  reads k d h = get_or-map-range_with_len cell_after 0 (length old) k k d h (omega arith)

  -- The old cells, whatever stands for what lies past the memory.
  olds : (k : ℕ) (d : C) → k < length old → get_or old k x ≡ get_or old k d
  olds k d h = get_or_default old k x d h

  old_lines : (k : ℕ) (d : C) → k < n → line old n side x k ≡ line old n side d k
  old_lines k d h = olds (line_at n side k) d (omega arith)

  old_copies : (i r c : ℕ) (d : C) → i < n → r < side → c < side → copies old side x i r c ≡ copies old side d i r c
  old_copies i r c d hi hr hc = olds (copy_at side i r c) d (omega (arith, copy_in n side i r c hi hr hc))

  read_votes : (i r c : ℕ) (d : C) → i < n → r < side → c < side → get_or after (voted_at n side i r c) d ≡ vote_at i r c
  read_votes i r c d hi hr hc =
      reads (voted_at n side i r c) d (omega (arith, copy_in n side i r c hi hr hc)) ∙ cell-vote n side step_at vote_at (stepped host n (line old n side x)) (line old n side x) (λ k. get_or old k x) i r c hi hr hc

  beat_written : CellsBeaten equal host n side old after
  beat_written = record {
    votes = λ i r c d hi hr hc.
        read_votes i r c d hi hr hc
        ∙ three (vote_of equal) (old_copies i (next side r) c d hi (next_below side r hr) hc) (old_copies i r (next side c) d hi hr (next_below side c hc))
        (old_copies i r c d hi hr hc);
    steps = λ i r c d hi hr hc.
        reads (copy_at side i r c) d (omega (arith, copy_in n side i r c hi hr hc)) ∙ cell-copy n side step_at vote_at (stepped host n (line old n side x)) (line old n side x) (λ k. get_or old k x) i r c hi hr hc
        ∙ stepped_same host n _ _ (λ k hk. sym (read_votes k r c d hk hr hc)) i hi;
    earlier = λ i d hi. reads (earlier_at n side i) d (omega arith) ∙ cell-before n side step_at vote_at (stepped host n (line old n side x)) (line old n side x) (λ k. get_or old k x) i hi ∙ old_lines i d hi;
    lines = λ i d hi.
        reads (line_at n side i) d (omega arith) ∙ cell-now n side step_at vote_at (stepped host n (line old n side x)) (line old n side x) (λ k. get_or old k x) i hi ∙ stepped_same host n _ _ (λ k hk. old_lines k d hk) i hi;
    beyond = λ k d h.
        elim (cases_lt k (length old)) [
          | inl l ↦ reads k d l ∙ cell-past n side step_at vote_at (stepped host n (line old n side x)) (line old n side x) (λ k. get_or old k x) k h ∙ olds k d l
          | inr g ↦ get_or_past after k d (omega (arith, long)) ∙ sym (get_or_past old k d g)
        ];
    long = long;
  }
    where
      long : length after ≡ length old
      long = length-map-range_with_len cell_after 0 (length old)

-- A memory that holds a plate's shape is not empty.
pub beat_of : {C : Type 0} (equal : C → C → Bool) (host : C → C → C → C) (n side : ℕ) (old : List C) → 1 ≤ n → size_of n side ≤ length old
    → (new : List C) × CellsBeaten equal host n side old new
beat_of equal host n side [] some room = absurd (omega arith)
beat_of equal host n side (x ∷ xs) some room = (_, beat_written equal host n side (x ∷ xs) x room)
