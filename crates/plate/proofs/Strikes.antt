-- A struck plate follows the plain machine: only the struck copy changes, its place is in the shadow, and the line lies elsewhere.
use Rattle.std.proofs.Common.{◌≡◌, ℕ, ◌<◌, ◌≤◌, false, ◌&&◌, ◌||◌, eqb, length, get_or, Some, None, Option, ap, ◌∙◌, subst, arith}
use Rattle.std.proofs.lemmas.List.{get_or-set_other, length-set}
use Rattle.std.proofs.lemmas.Bool.{and_from, both_ways, eq-eqb, or_parts}
use Rattle.toom.specs.Shadow.{with_mark}
use Rattle.plate.specs.BeatCall.{line}
use Rattle.plate.specs.Board.{Board, side_of}
use Rattle.plate.specs.Layout.{copy_at, line_at, size_of}
use Rattle.plate.specs.Plain.{Plain}
use Rattle.plate.specs.StrikeCall.{Strikes, place_questions, strike_questions, strike_questions_of}
use Rattle.plate.proofs.Accepted.{struck_plane, struck_row, struck_column}
use Rattle.plate.proofs.Follows.{Alike, Follows, shape_held, stood_alike}
use Rattle.plate.proofs.Places.{before_line, same_place}
use Rattle.plate.proofs.Standing.{stands_with}

module _ {C : Type 0} (named : ℕ → Option C) (plane row column byte : ℕ) (p : Plain C) (b b' : Board C)
    (follows : Follows p b) (good : strike_questions named b plane row column byte ≡ None)
    (strikes : Strikes named plane row column byte b b') where
  alike : Alike strikes.stood p
  alike = stood_alike p b follows.agrees strikes.stood strikes.standing_before

  asked : place_questions named strikes.stood.planes (side_of strikes.stood) plane row column byte ≡ None
  asked = subst (λ o. strike_questions_of named o plane row column byte ≡ None) strikes.standing_before good

  row_on_torus : row < p.side
  row_on_torus = rw alike.sides at (struck_row named _ _ plane row column byte asked)

  column_on_torus : column < p.side
  column_on_torus = rw alike.sides at (struck_column named _ _ plane row column byte asked)

  plane_laid : plane < p.n
  plane_laid = rw alike.planes at (struck_plane named _ _ plane row column byte asked)

  -- Another place lies at another index.
  elsewhere : (i r c : ℕ) → r < p.side → c < p.side → (eqb r row && eqb c column) ≡ false
      → copy_at p.side i r c ≡ copy_at (side_of strikes.stood) plane row column → ⊥
  elsewhere i r c r< c< other e =
      let here =
      same_place p.side i r c plane row column r< c< row_on_torus column_on_torus (e ∙ ap (λ s. copy_at s plane row column) alike.sides) in
      both_ways (eqb r row && eqb c column) other (and_from _ _ (eq-eqb r row here.0) (eq-eqb c column here.1))

  kept_copy : (i r c : ℕ) (d : C) → r < p.side → c < p.side → (eqb r row && eqb c column) ≡ false
      → get_or b'.cells (copy_at p.side i r c) d ≡ get_or b.cells (copy_at p.side i r c) d
  kept_copy i r c d r< c< other =
      ap (λ cells. get_or cells (copy_at p.side i r c) d) strikes.cells
      ∙ get_or-set_other b.cells (copy_at (side_of strikes.stood) plane row column) (copy_at p.side i r c) strikes.cell d
      (elsewhere i r c r< c< other)

  -- The line lies past the struck copy.
  off_line : (i : ℕ) → line_at p.n p.side i ≡ copy_at (side_of strikes.stood) plane row column → ⊥
  off_line i e =
      let moved = ap (λ s. copy_at s plane row column) alike.sides in
      omega (arith, before_line p.n p.side i plane row column plane_laid row_on_torus column_on_torus)

  kept_line : (i : ℕ) (d : C) → line b'.cells p.n p.side d i ≡ line b.cells p.n p.side d i
  kept_line i d =
      ap (λ cells. line cells p.n p.side d i) strikes.cells
      ∙ get_or-set_other b.cells (copy_at (side_of strikes.stood) plane row column) (line_at p.n p.side i) strikes.cell d (off_line i)

  room : size_of p.n p.side ≤ length b'.cells
  room = rw (strikes.cells, length-set) (shape_held p b follows.agrees)

  pub follows_struck : Follows record { n = p.n; side = p.side; run = p.run; shadow = with_mark p.shadow row column } b'
  follows_struck =
      let planes : strikes.kept.planes ≡ p.n = strikes.planes ∙ alike.planes in
      let sides : side_of strikes.kept ≡ p.side = strikes.shadow.sides ∙ alike.sides in
      record {
        agrees = record {
          kept = strikes.kept;
          stands = stands_with b' strikes.kept p.n p.side strikes.stands planes sides room;
          planes = planes;
          sides = sides;
          shadows = λ r c r< c<.
              strikes.shadow.places r c (rw alike.sides r<) (rw alike.sides c<)
              ∙ ap (λ m. m || (eqb r row && eqb c column)) (alike.shadows r c r< c<);
          copies = λ i r c d i< r< c< clear.
              let parts = or_parts (p.shadow r c) (eqb r row && eqb c column) clear in
              ap Some (kept_copy i r c d r< c< parts.1) ∙ follows.agrees.copies i r c d i< r< c< parts.0;
          lines = λ i d i<. ap Some (kept_line i d) ∙ follows.agrees.lines i d i<;
        };
        runs = follows.runs;
      }
