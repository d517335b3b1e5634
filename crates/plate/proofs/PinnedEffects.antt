-- Each effect settles what it leaves: of the plate, and of its output.
use Rattle.std.proofs.Common.{◌≡◌, ℕ, ◌+◌, ◌*◌, ◌≤◌, Bool, List, [], ◌∷◌, ◌++◌, map, length, drop, set, Some, Option, sym, ap, ◌∙◌, subst, ap₂, arith}
use Rattle.std.specs.List.{range_with_len}
use Rattle.toom.specs.Shadow.{IsShadow, MarksPin, SidesFit, marks, no_marks, with_mark, words_of}
use Rattle.toom.specs.ShadowCalls.{Voted}
use Rattle.toom.specs.Vote.{thinned}
use Rattle.plate.specs.declared.laid.Laid.{Laid}
use Rattle.plate.specs.BeatCall.{Beats, CellsBeaten}
use Rattle.plate.specs.Board.{Board, side_of, standing}
use Rattle.plate.specs.LayCall.{Lays}
use Rattle.plate.specs.Layout.{copy_at}
use Rattle.plate.specs.MapCall.{Maps, hurt_at}
use Rattle.plate.specs.ReadCall.{Reads, reading}
use Rattle.plate.specs.ShadowCall.{Shows}
use Rattle.plate.specs.StrikeCall.{Strikes}
use Rattle.plate.proofs.PinnedCells.{laid_cells_pin, beaten_cells_pin}
use Rattle.plate.proofs.PinnedLaid.{laids_equal, boards_equal, one_stands}
use Rattle.plate.proofs.Standing.{some_same, standing_holds}

-- A plate that stands has a cell.
first_cell : {C : Type 0} (cells : List C) → 1 ≤ length cells → C
first_cell [] h = absurd (omega arith)
first_cell (x ∷ xs) h = x

pub some_cell : {C : Type 0} (b : Board C) (l : Laid) → standing b ≡ Some l → C
some_cell b l stands = first_cell b.cells (omega (arith, standing_holds b l stands, l.some))

module _ (marks_pin : MarksPin) (sides : SidesFit) {C : Type 0} (b b₁ b₂ : Board C) where
  -- The side of what a plate keeps is at least 1.
  sided : (l : Laid) → 1 ≤ side_of l
  sided l = omega (arith, (sides l.shadow).0)

  pub lay_pins : (named : ℕ → Option C) (n side : ℕ) (tape : List ℕ) → Lays named n side tape b b₁ → Lays named n side tape b b₂ → b₁ ≡ b₂
  lay_pins named n side tape x y =
      boards_equal b₁ b₂ x.kept y.kept x.stands y.stands
      (laids_equal x.kept y.kept (x.planes ∙ sym y.planes) (x.age ∙ sym y.age)
      (marks_pin x.kept.shadow y.kept.shadow side no_marks x.shadow y.shadow))
      (laid_cells_pin named n side tape (omega (arith, sided x.kept, x.shadow.sides)) b.cells b₁.cells b₂.cells x.cells y.cells)

  pub strike_pins : (named : ℕ → Option C) (plane row column byte : ℕ) → Strikes named plane row column byte b b₁
      → Strikes named plane row column byte b b₂ → b₁ ≡ b₂
  strike_pins named plane row column byte x y =
      let same = one_stands b x.stood y.stood x.standing_before y.standing_before in
      let cell : x.cell ≡ y.cell = some_same _ _ (sym x.names ∙ y.names) in
      boards_equal b₁ b₂ x.kept y.kept x.stands y.stands
      (laids_equal x.kept y.kept (x.planes ∙ ap (λ l. l.planes) same ∙ sym y.planes) (x.age ∙ ap (λ l. l.age) same ∙ sym y.age)
      (marks_pin x.kept.shadow y.kept.shadow (side_of y.stood) (with_mark (marks y.stood.shadow) row column)
      (subst (λ l. IsShadow x.kept.shadow (side_of l) (with_mark (marks l.shadow) row column)) same x.shadow) y.shadow))
      (x.cells ∙ ap₂ (λ l v. set b.cells (copy_at (side_of l) plane row column) v) same cell ∙ sym y.cells)

  pub beat_pins : (equal : C → C → Bool) (host : C → C → C → C) → Beats equal host b b₁ → Beats equal host b b₂ → b₁ ≡ b₂
  beat_pins equal host x y =
      let same = one_stands b x.stood y.stood x.standing_before y.standing_before in
      boards_equal b₁ b₂ x.kept y.kept x.stands y.stands
      (laids_equal x.kept y.kept (x.planes ∙ ap (λ l. l.planes) same ∙ sym y.planes) (x.age ∙ ap (λ l. l.age + 1) same ∙ sym y.age)
      (marks_pin x.kept.shadow y.kept.shadow (side_of y.stood) (thinned (side_of y.stood) (marks y.stood.shadow))
      (subst (λ l. Voted l.shadow x.kept.shadow) same x.shadow) y.shadow))
      (beaten_cells_pin equal host y.stood.planes (side_of y.stood) (sided y.stood) b.cells b₁.cells b₂.cells
      (subst (λ l. CellsBeaten equal host l.planes (side_of l) b.cells b₁.cells) same x.cells) y.cells)

module _ {C : Type 0} (b : Board C) (before out₁ out₂ : List ℕ) where
  pub read_pins : (equal : C → C → Bool) (byte : C → ℕ) → Reads equal byte b before out₁ → Reads equal byte b before out₂ → out₁ ≡ out₂
  read_pins equal byte x y =
      let same = one_stands b x.stood y.stood x.standing_before y.standing_before in
      x.out ∙ ap (λ l. reading equal byte l.planes (side_of l) b.cells ++ drop l.planes before) same ∙ sym y.out

  pub map_pins : (equal : C → C → Bool) → Maps equal b before out₁ → Maps equal b before out₂ → out₁ ≡ out₂
  map_pins equal x y =
      let same = one_stands b x.stood y.stood x.standing_before y.standing_before in
      let d = some_cell b x.stood x.standing_before in
      x.out d
      ∙ ap (λ l. map (hurt_at equal l.planes (side_of l) b.cells d) (range_with_len 0 (side_of l * side_of l)) ++ drop (side_of l * side_of l) before)
      same ∙ sym (y.out d)

  pub show_pins : Shows b before out₁ → Shows b before out₂ → out₁ ≡ out₂
  show_pins x y =
      let same = one_stands b x.stood y.stood x.standing_before y.standing_before in
      x.out ∙ ap (λ l. words_of l.shadow ++ drop (side_of l) before) same ∙ sym y.out
