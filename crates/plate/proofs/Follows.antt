-- The plate follows the plain machine: it agrees with it, and the faultless run has a cell in each plane. A laid plate does.
use Rattle.std.proofs.Common.{◌≡◌, ℕ, ◌<◌, ◌≤◌, true, false, List, length, get_or, is_some, Some, None, Option, sym, refl, ◌∙◌, subst, ap₂}
use Rattle.std.proofs.lemmas.Bool.{both_ways}
use Rattle.toom.specs.Shadow.{marks, no_marks}
use Rattle.toom.specs.Torus.{SameOnTorus}
use Rattle.plate.specs.declared.laid.Laid.{Laid}
use Rattle.plate.specs.Board.{Board, side_of, standing}
use Rattle.plate.specs.Healing.{Agrees}
use Rattle.plate.specs.LayCall.{Lays, lay_questions}
use Rattle.plate.specs.Layout.{size_of}
use Rattle.plate.specs.Plain.{Plain}
use Rattle.plate.proofs.Accepted.{lay_room, lay_names}
use Rattle.plate.proofs.Standing.{some_same, standing_holds, stands_with}

pub record Follows {C : Type 0} (p : Plain C) (b : Board C) : Type 0 where
  pub agrees : Agrees p b
  pub runs : (i : ℕ) → i < p.n → (x : C) × (p.run i ≡ Some x)

-- What the plate keeps has the plain machine's shape and its shadow.
pub record Alike {C : Type 0} (l : Laid) (p : Plain C) : Type 0 where
  pub planes : l.planes ≡ p.n
  pub sides : side_of l ≡ p.side
  pub shadows : SameOnTorus p.side (marks l.shadow) p.shadow

module _ {C : Type 0} (p : Plain C) (b : Board C) (agrees : Agrees p b) where
  pub stood_alike : (l : Laid) → standing b ≡ Some l → Alike l p
  stood_alike l stands =
      let kept : Alike agrees.kept p = record { planes = agrees.planes; sides = agrees.sides; shadows = agrees.shadows } in
      subst (λ m. Alike m p) (some_same agrees.kept l (sym agrees.stands ∙ stands)) kept

  -- The memory holds the plain machine's shape.
  pub shape_held : size_of p.n p.side ≤ length b.cells
  shape_held =
      let sizes : size_of agrees.kept.planes (side_of agrees.kept) ≡ size_of p.n p.side = ap₂ size_of agrees.planes agrees.sides in
      rw sizes at (standing_holds b agrees.kept agrees.stands)

some_from : {X : Type 0} (o : Option X) → is_some o ≡ true → (x : X) × (o ≡ Some x)
some_from None h = absurd (both_ways false refl h)
some_from (Some x) h = (x, refl)

-- Every copy, and every cell of the line, is the cell that its byte of the tape names, and the questions have seen that there is one.
pub follows_laid : {C : Type 0} (named : ℕ → Option C) (n side : ℕ) (tape : List ℕ) (b b' : Board C)
    → lay_questions named n side tape (length b.cells) ≡ None → Lays named n side tape b b'
    → Follows record { n = n; side = side; run = λ i. named (get_or tape i 0); shadow = no_marks } b'
follows_laid named n side tape b b' good lays =
    let room : size_of n side ≤ length b.cells = lay_room named n side tape (length b.cells) good in
    record {
      agrees = record {
        kept = lays.kept;
        stands = stands_with b' lays.kept n side lays.stands lays.planes lays.shadow.sides (rw lays.cells.long room);
        planes = lays.planes;
        sides = lays.shadow.sides;
        shadows = lays.shadow.places;
        copies = λ i r c d i< r< c< _. lays.cells.copies i r c d i< r< c<;
        lines = lays.cells.line;
      };
      runs = λ i i<. some_from (named (get_or tape i 0)) (lay_names named n side tape (length b.cells) good i i<);
    }
