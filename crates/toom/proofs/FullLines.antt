-- Full rows and columns stay, so a triangle as long as the side of the torus need not shrink.
use Rattle.std.proofs.Common.{◌≡◌, ℕ, zero, suc, ◌+◌, ◌%◌, ◌<◌, Bool, true, sym, refl, ◌∙◌, inl, inr, mod-lt, mod-eq_of_lt, zero-add, arith}
use mathlib.Core.Bool.{beq}
use native.Mathlib.Nat.{zero-mod}
use Rattle.std.proofs.lemmas.Bool.{eqb-true}
use Rattle.toom.specs.Lines.{FullRow, FullColumn, LinesStay, BoundIsSharp, row_zero}
use Rattle.toom.specs.Torus.{Plane, next}
use Rattle.toom.specs.Triangle.{LiesInTriangle}
use Rattle.toom.specs.Vote.{thinned_by}
use Rattle.toom.proofs.Modular.{next_below, same_offset}
use Rattle.toom.proofs.Votes.{two_decide, beq_same, beq_sound}

-- Of the three cells of a vote two are of one row, the east and the own, and two of one column, the north and the own.
row_stays : (side : ℕ) (shadow : Plane Bool) (r : ℕ) → FullRow side shadow r
    → (j : ℕ) → FullRow side (thinned_by j side shadow) r
row_stays side shadow r full zero c c< = full c c<
row_stays side shadow r full (suc j) c c< =
    let before = row_stays side shadow r full j in
    two_decide beq beq_same beq_sound true _ _ _ (inr (inr (before (next side c) (next_below side c c<), before c c<)))

column_stays : (side : ℕ) (shadow : Plane Bool) (c : ℕ) → FullColumn side shadow c
    → (j : ℕ) → FullColumn side (thinned_by j side shadow) c
column_stays side shadow c full zero r r< = full r r<
column_stays side shadow c full (suc j) r r< =
    let before = column_stays side shadow c full j in
    two_decide beq beq_same beq_sound true _ _ _ (inr (inl (before (next side r) (next_below side r r<), before r r<)))

pub lines_stay : LinesStay
lines_stay = record { rows = row_stays; columns = column_stays }

row_zero_lies : (side : ℕ) → LiesInTriangle side row_zero 0 0 side
row_zero_lies side r c r< c< marked = (0, c, omega arith, eqb-true r 0 marked ∙ sym (zero-mod side), rw zero-add (sym (mod-eq_of_lt c<)))

-- The place of row 0 at column offset k is marked, but the triangle has only offsets below k.
never_shorter : (side j a b k : ℕ) → LiesInTriangle side (thinned_by j side row_zero) a b k → k < side → ⊥
never_shorter side j a b k lies shorter =
    let column : (b + k) % side < side = mod-lt (b + k) (omega arith) in
    let marked = row_stays side row_zero 0 (λ c _. refl) j ((b + k) % side) column in
    let place = lies 0 ((b + k) % side) (omega arith) column marked in
    let offset : k ≡ place.1 = same_offset side b k place.1 shorter (omega arith) place.4 in
    omega arith

pub bound_is_sharp : BoundIsSharp
bound_is_sharp = record {
  lies = row_zero_lies;
  stays = λ side j a b k lies. omega (arith, never_shorter side j a b k lies);
}
