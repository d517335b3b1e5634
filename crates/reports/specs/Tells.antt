-- What a report tells of the faultless run: where its map is 0, what the map counts, and whose tape its last line is.
use Rattle.std.specs.Prelude.{◌≡◌, ℕ, ◌+◌, ◌*◌, ◌<◌, true, false, List, length, Some, ◌≢◌}
use Rattle.toom.specs.Shadow.{marks}
use Rattle.toom.specs.Torus.{Everywhere, Plane, total}
use Rattle.toom.specs.Vote.{wounded}
use Rattle.plate.specs.declared.laid.Laid.{Laid}
use Rattle.plate.specs.BeatCall.{copies}
use Rattle.plate.specs.Board.{Board, side_of, standing}
use Rattle.plate.specs.History.{History, Reached}
use Rattle.plate.specs.MapCall.{hurt_at}
use Rattle.plate.specs.Members.{Members}
use Rattle.plate.specs.Plain.{FaultlessTape, FewerThanHalf, Plain, plain}
use Rattle.reports.specs.Report.{clear_mark, last_of, place_mark, tape_line}

-- What the map of the report has at each place.
abbrev pub map_at : {C : Type 0} → Members C → Laid → List C → C → Plane ℕ
map_at k l cells d r c = hurt_at k.equal l.planes (side_of l) cells d (r * side_of l + c)

-- The report of a plate laid with l, these cells in its memory, where the plain machine is p.
pub record ReportTells {C : Type 0} (k : Members C) (p : Plain C) (l : Laid) (cells : List C) (d : C) : Type 0 where
  -- The faultless run has a cell for each plane.
  pub runs : (i : ℕ) → i < l.planes → (x : C) × (p.run i ≡ Some x)
  -- At each place the map counts the planes whose copy there differs from their cell of the faultless run: that of plane i is x i.
  pub hurt_means : (x : ℕ → C) → ((i : ℕ) → i < l.planes → p.run i ≡ Some (x i))
      → Everywhere (side_of l)
      (λ r c. map_at k l cells d r c ≡ total (λ i. wounded k.equal (x i) (copies cells (side_of l) d i r c)) l.planes)
  -- A place where the map is not 0 is in the shadow.
  pub hurt_inside : Everywhere (side_of l) (λ r c. (map_at k l cells d r c ≢ 0) → marks l.shadow r c ≡ true)
  -- So every place outside the shadow has the mark `.`.
  pub clear_outside : Everywhere (side_of l)
      (λ r c. marks l.shadow r c ≡ false → place_mark (map_at k l cells d r c) (marks l.shadow r c) ≡ clear_mark)
  -- And no place inside it has: `#` and `s` together are all places of the shadow.
  pub marked_inside : Everywhere (side_of l)
      (λ r c. marks l.shadow r c ≡ true → place_mark (map_at k l cells d r c) (marks l.shadow r c) ≢ clear_mark)
  -- While the shadow covers fewer than half of the places, the last line is the faultless tape.
  pub tape_faultless : FewerThanHalf p → (tape : List ℕ) → length tape ≡ l.planes → FaultlessTape k p tape → last_of k l cells ≡ tape_line tape

-- Whatever calls were made since the plate was new, if they leave it laid. d stands for what lies past the memory.
abbrev pub ReportsTell : {C : Type 0} → Members C → Type 0
ReportsTell {C} k =
    (h : History C) (b : Board C) (p : Plain C) (l : Laid) (d : C) → Reached k h b → plain k h ≡ Some p → standing b ≡ Some l
    → ReportTells k p l b.cells d
