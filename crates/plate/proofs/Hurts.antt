-- Counts of the copies that differ from the line: a plane's hurts added place by place, and the planes' one after the other.
use Rattle.std.proofs.Common.{◌≡◌, ℕ, zero, suc, ◌+◌, ◌-◌, ◌*◌, ◌<◌, ◌≤◌, Bool, List, ◌++◌, map, length, get_or, take, drop, replicate, sym, ap, ◌∙◌, ap₂, inl, inr, add-one, arith}
use Rattle.std.proofs.lemmas.List.FromFn.{length-map-range_with_len, get_or-map-range_with_len}
use Rattle.std.proofs.lemmas.List.{ext_get_or, get_or_read, get_or-take, get_or-drop, get_or_append_left, get_or-append_right, length-append, length-drop, length-take-le, length-replicate}
use Rattle.std.proofs.lemmas.Bool.{cases_Bool, cases_lt}
use Rattle.std.specs.List.{range_with_len}
use Rattle.toom.specs.Torus.{total}
use Rattle.toom.specs.Vote.{wounded}
use Rattle.plate.specs.Board.{plane_of}
use Rattle.plate.specs.Layout.{line_at, size_of}
use Rattle.plate.specs.MapCall.{hurt_at}

-- The hurts of a plane's places below i are added, the other counts still old.
abbrev pub AddedBelow : {C : Type 0} → (C → C → Bool) → (plane : List C) (line : C) (old : List ℕ) (i : ℕ) (counts : List ℕ) → Type 0
AddedBelow {C} equal plane line old i counts =
    ((k : ℕ) (d : C) → k < i → get_or counts k 0 ≡ get_or old k 0 + wounded equal line (get_or plane k d))
    × ((k : ℕ) → i ≤ k → get_or counts k 0 ≡ get_or old k 0)

-- Counts whose front was made 0.
module _ (front old : List ℕ) (area : ℕ) (room : area ≤ length old) (zeros : front ≡ replicate (length (take area old)) 0) where
  front_is : front ≡ replicate area 0
  front_is = zeros ∙ ap (λ m. replicate m 0) (length-take-le area old room)

  front_long : length front ≡ area
  front_long = ap length front_is ∙ length-replicate area 0

  pub uncleared : (k : ℕ) → area ≤ k → get_or (front ++ drop area old) k 0 ≡ get_or old k 0
  uncleared k h =
      let back : area + (k - area) ≡ k = omega arith in
      get_or-append_right front (drop area old) area k 0 front_long h ∙ get_or-drop area old (k - area) 0 ∙ ap (λ j. get_or old j 0) back

wounded_low : {C : Type 0} (equal : C → C → Bool) (x cell : C) → wounded equal x cell ≤ 1
wounded_low equal x cell = grind (arith, cases_Bool (equal cell x))

module _ {C : Type 0} (equal : C → C → Bool) (n side : ℕ) (cells : List C) where
  abbrev area : ℕ
  area = side * side

  -- The hurts at place k in the planes below i.
  abbrev hurt_below : (i : ℕ) (d : C) (k : ℕ) → ℕ
  hurt_below i d k = total (λ j. wounded equal (get_or cells (line_at n side j) d) (get_or cells (j * (side * side) + k) d)) i

  -- The front of the counts has the hurts in the planes below i, the rest is as it was.
  abbrev pub CountedBelow : (old : List ℕ) (i : ℕ) (counts : List ℕ) → Type 0
  CountedBelow old i counts =
      ((k : ℕ) (d : C) → k < side * side → get_or counts k 0 ≡ hurt_below i d k)
      × ((k : ℕ) → side * side ≤ k → get_or counts k 0 ≡ get_or old k 0)

  hurt_low : (i : ℕ) (d : C) (k : ℕ) → hurt_below i d k ≤ i
  hurt_low zero d k = omega arith
  hurt_low (suc i) d k =
      omega (arith, hurt_low i d k, wounded_low equal (get_or cells (line_at n side i) d) (get_or cells (i * (side * side) + k) d))

  pub counts_low : (old counts : List ℕ) (i : ℕ) → CountedBelow old i counts → i ≤ 4096
      → (d : C) (k : ℕ) → k < side * side → get_or counts k 0 ≤ 4096
  counts_low old counts i inv few d k h = omega (arith, inv.0 k d h, hurt_low i d k)

  -- Plane i, its cell x of the line, and the counts before it.
  module _ (old counts : List ℕ) (i : ℕ) (plane : List C) (x : C) (long : length plane ≡ side * side)
      (is : plane ≡ plane_of cells side i) (within : i < n) (fits : size_of n side ≤ length cells)
      (line : x ≡ get_or cells (line_at n side i) x) (inv : CountedBelow old i counts) where
    -- The plane's copy at place k.
    copy : (k : ℕ) (d : C) → k < side * side → get_or plane k d ≡ get_or cells (i * (side * side) + k) d
    copy k d h =
        ap (λ p. get_or p k d) is ∙ get_or-take area (drop (i * (side * side)) cells) k d h ∙ get_or-drop (i * (side * side)) cells k d

    hurts : (k : ℕ) (d : C) → k < side * side
        → wounded equal x (get_or plane k d) ≡ wounded equal (get_or cells (line_at n side i) d) (get_or cells (i * (side * side) + k) d)
    hurts k d h =
        ap₂ (wounded equal) (get_or_read cells (line_at n side i) x (omega arith) line d) (copy k d h)

    -- What adding the plane's hurts leaves.
    pub counted_more : (after : List ℕ) → ((k : ℕ) (d : C) → k < length plane → get_or after k 0 ≡ get_or counts k 0 + wounded equal x (get_or plane k d))
        → ((k : ℕ) → length plane ≤ k → get_or after k 0 ≡ get_or counts k 0) → CountedBelow old (i + 1) after
    counted_more after places rest = (
      λ k d h.
          places k d (omega arith) ∙ ap₂ ◌+◌ (inv.0 k d h) (hurts k d h)
          ∙ ap (λ j. hurt_below j d k) (sym (add-one i)),
      λ k h. rest k (omega arith) ∙ inv.1 k h,
    )

  -- All planes are counted.
  pub counted_all : (old first counts : List ℕ) → CountedBelow first n counts
      → ((k : ℕ) → area ≤ k → get_or first k 0 ≡ get_or old k 0) → length counts ≡ length old → area ≤ length old
      → (d : C) → counts ≡ map (hurt_at equal n side cells d) (range_with_len 0 area) ++ drop area old
  counted_all old first counts inv kept long room d = ext_get_or 0 counts (front ++ drop area old) same_length same
    where
      front : List ℕ
      front = map (hurt_at equal n side cells d) (range_with_len 0 area)

      front_long : length front ≡ area
      front_long = length-map-range_with_len (hurt_at equal n side cells d) 0 area

      same_length : length counts ≡ length (front ++ drop area old)
      same_length = omega (arith, length-append front (drop area old), length-drop area old, front_long)

      same : (k : ℕ) → k < length counts → get_or counts k 0 ≡ get_or (front ++ drop area old) k 0
      same k h =
          elim (cases_lt k area) [
            | inl less ↦
                inv.0 k d less ∙ sym (get_or-map-range_with_len (hurt_at equal n side cells d) 0 area k k 0 less (omega arith))
                ∙ sym (get_or_append_left front (drop area old) 0 k (omega (arith, front_long)))
            | inr more ↦
                let back : area + (k - area) ≡ k = omega arith in
                inv.1 k more ∙ kept k more ∙ ap (λ j. get_or old j 0) (sym back) ∙ sym (get_or-drop area old (k - area) 0)
                ∙ sym (get_or-append_right front (drop area old) area k 0 front_long more)
          ]
