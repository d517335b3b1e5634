-- Wounds: places of the planes outside of which every copy is its cell of the line. So the line says all of them, and the copies of the wounds and the
-- line can stand for a whole memory.
use Rattle.std.specs.Prelude.{◌≡◌, ℕ, ◌+◌, ◌*◌, ◌<◌, ◌≤◌, Bool, true, false, cond, ◌⊎◌, List, length, slice_index_or}
use Rattle.toom.specs.declared.shadow.stretches.Stretch.{Stretch}
use Rattle.toom.specs.Torus.{Everywhere, Plane}
use Rattle.toom.specs.Vote.{thinned, voted}
use Rattle.hosts.specs.Ring.{stepped}
use Rattle.plate.specs.BeatCall.{CellsBeaten, copies, line}
use Rattle.plate.specs.BeatsCall.{CellsBeatenBy}
use Rattle.plate.specs.Layout.{copy_at, earlier_at, line_at, size_of}
use Rattle.plate.specs.Sweep.{Swept, Wanted}

-- All wounds of the cells are among these places.
abbrev pub LineOutside : {C : Type 0} → (wounds : Plane Bool) → (n side : ℕ) → List C → Type 0
LineOutside {C} wounds n side cells =
    (i r c : ℕ) (d : C) → i < n → r < side → c < side → wounds r c ≡ false → copies cells side d i r c ≡ line cells n side d i

-- A strand: the n copies of one place, one after another as the cells of the line are. There are as many strands as places, row by row.
abbrev pub strand_at : (n side i r c : ℕ) → ℕ
strand_at n side i r c = (r * side + c) * n + i

-- While only wounds and line are kept, the strands of the wounds lie where else the voted copies do.
abbrev pub kept_at : (n side i r c : ℕ) → ℕ
kept_at n side i r c = n * (side * side) + strand_at n side i r c

-- Where the copy of plane i at a place is seen then: one that is no wound is its cell of the line.
abbrev pub seen_at : (wounds : Plane Bool) → (n side i r c : ℕ) → ℕ
seen_at wounds n side i r c = cond (wounds r c) (kept_at n side i r c) (line_at n side i)

abbrev pub seen : {C : Type 0} → (wounds : Plane Bool) → List C → (n side : ℕ) → C → ℕ → Plane C
seen wounds cells n side d i r c = slice_index_or cells (seen_at wounds n side i r c) d

-- The cells at hand stand for a whole memory, all of whose wounds are among these places: its copies there are the strands, and both have the same
-- lines, and the same past them.
pub record StandFor {C : Type 0} (wounds : Plane Bool) (n side : ℕ) (cells whole : List C) : Type 0 where
  pub within : LineOutside wounds n side whole
  pub strands : (i r c : ℕ) (d : C) → i < n → r < side → c < side → wounds r c ≡ true
      → slice_index_or cells (kept_at n side i r c) d ≡ copies whole side d i r c
  pub rest : (k : ℕ) (d : C) → 2 * (n * (side * side)) ≤ k → slice_index_or cells k d ≡ slice_index_or whole k d
  pub long : length cells ≡ length whole

-- Cells that stand for a memory become cells that stand for what a beat leaves of it.
abbrev pub BeatenFor : {C : Type 0} → (equal : C → C → Bool) → (host : C → C → C → C) → (n side : ℕ)
    → (wounds : Plane Bool) → List C → (wounds' : Plane Bool) → List C → Type 0
BeatenFor {C} equal host n side wounds cells wounds' cells' =
    (whole : List C) → StandFor wounds n side cells whole
    → (after : List C) × CellsBeaten equal host n side whole after × StandFor wounds' n side cells' after

-- Of the n planes the places that are `among` are written, each with its value; the others stay. `at` says where among the cells from `base` on
-- that of a plane and a place lies.
pub record PlacesWritten {C : Type 0} (n side base : ℕ) (at : (i r c : ℕ) → ℕ) (among : (i r c : ℕ) → Type 0) (value : (i r c : ℕ) → C → C)
    (before after : List C) : Type 0 where
  pub inside : (i r c : ℕ) (d : C) → i < n → r < side → c < side → among i r c → slice_index_or after (base + at i r c) d ≡ value i r c d
  pub others : (i r c : ℕ) (d : C) → i < n → r < side → c < side → (among i r c → ⊥)
      → slice_index_or after (base + at i r c) d ≡ slice_index_or before (base + at i r c) d
  pub outside : (k : ℕ) (d : C) → (k < base) ⊎ (base + n * (side * side) ≤ k) → slice_index_or after k d ≡ slice_index_or before k d

-- The place (row, column); the places of a stretch; and those that a set marks.
abbrev pub AtPlace : (row column i r c : ℕ) → Type 0
AtPlace row column i r c = (r ≡ row) × (c ≡ column)

abbrev pub InStretch : Stretch → (i r c : ℕ) → Type 0
InStretch x i r c = (r ≡ x.row) × ((x.column ≤ c) × (c < x.column + x.length))

abbrev pub Marked : Plane Bool → (i r c : ℕ) → Type 0
Marked places i r c = places r c ≡ true

-- The strands of these places are written from the copies.
abbrev pub StrandsGathered : {C : Type 0} → (n side : ℕ) → (among : (i r c : ℕ) → Type 0) → (before after : List C) → Type 0
StrandsGathered n side among before after =
    PlacesWritten n side (n * (side * side)) (strand_at n side) among (λ i r c d. copies before side d i r c) before after

-- They are voted as the planes are seen; the votes lie where else the copies do.
abbrev pub StrandsVoted : {C : Type 0} → (equal : C → C → Bool) → (wounds : Plane Bool) → (n side : ℕ) → (among : (i r c : ℕ) → Type 0)
    → (before after : List C) → Type 0
StrandsVoted equal wounds n side among before after =
    PlacesWritten n side 0 (strand_at n side) among (λ i r c d. voted equal side (seen wounds before n side d i) r c) before after

-- They step from their votes.
abbrev pub StrandsStepped : {C : Type 0} → (host : C → C → C → C) → (n side : ℕ) → (among : (i r c : ℕ) → Type 0) → (before after : List C) → Type 0
StrandsStepped host n side among before after =
    PlacesWritten n side (n * (side * side)) (strand_at n side) among
    (λ i r c d. stepped host n (λ k. slice_index_or before (strand_at n side k r c) d) i) before after

-- All copies are written as they are seen.
abbrev pub CopiesSettled : {C : Type 0} → (wounds : Plane Bool) → (n side : ℕ) → (before after : List C) → Type 0
CopiesSettled wounds n side before after =
    PlacesWritten n side 0 (copy_at side) (λ i r c. r < side) (λ i r c d. seen wounds before n side d i r c) before after

-- The copies of these places are written from their strands.
abbrev pub StrandsSettled : {C : Type 0} → (n side : ℕ) → (among : (i r c : ℕ) → Type 0) → (before after : List C) → Type 0
StrandsSettled n side among before after =
    PlacesWritten n side 0 (copy_at side) among (λ i r c d. slice_index_or before (kept_at n side i r c) d) before after

-- The line is kept as the earlier line, and has stepped from there; all else stays.
pub record LineSteps {C : Type 0} (host : C → C → C → C) (n side : ℕ) (before after : List C) : Type 0 where
  pub earlier : (i : ℕ) (d : C) → i < n → slice_index_or after (earlier_at n side i) d ≡ line before n side d i
  pub lines : (i : ℕ) (d : C) → i < n → line after n side d i ≡ stepped host n (line before n side d) i
  pub others : (k : ℕ) (d : C) → (k < 2 * (n * (side * side))) ⊎ (size_of n side ≤ k) → slice_index_or after k d ≡ slice_index_or before k d

-- n blocks of w cells, each of its cell from `from` on.
abbrev pub BlocksOf : {C : Type 0} → (from n w : ℕ) → List C → Wanted C
BlocksOf from n w before j d x = (i p : ℕ) → i < n → p < w → j ≡ i * w + p → x ≡ slice_index_or before (from + i) d

-- n planes that begin at `base` are written whole, each of its cell from `from` on.
abbrev pub PlanesWritten : {C : Type 0} → (base from n side : ℕ) → (before after : List C) → Type 0
PlanesWritten base from n side before after = Swept base (n * (side * side)) (BlocksOf from n (side * side) before) before after

-- The vote of the wounds marks no place but those of `later`: so these may be kept next.
abbrev pub Covers : (side : ℕ) → (wounds later : Plane Bool) → Type 0
Covers side wounds later = Everywhere side (λ r c. later r c ≡ false → thinned side wounds r c ≡ false)

-- No place is wounded.
abbrev pub Clear : (side : ℕ) → Plane Bool → Type 0
Clear side wounds = Everywhere side (λ r c. wounds r c ≡ false)

-- After j beats of the cells at the start there is a memory for which those at hand stand.
pub record BeatenTo {C : Type 0} (equal : C → C → Bool) (host : C → C → C → C) (n side j : ℕ) (start : List C) (wounds : Plane Bool) (cells : List C) : Type 0 where
  pub whole : List C
  pub beaten : CellsBeatenBy equal host n side j start whole
  pub stand : StandFor wounds n side cells whole

-- Cells that stand for a memory become cells that stand for what m beats leave of it.
abbrev pub BeatenTimes : {C : Type 0} → (equal : C → C → Bool) → (host : C → C → C → C) → (n side m : ℕ)
    → (wounds : Plane Bool) → List C → (wounds' : Plane Bool) → List C → Type 0
BeatenTimes {C} equal host n side m wounds cells wounds' cells' =
    (j : ℕ) (start : List C) → BeatenTo equal host n side j start wounds cells → BeatenTo equal host n side (j + m) start wounds' cells'
