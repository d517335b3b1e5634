-- A shadow in a right triangle shrinks by one with each vote, until none is left.
use Rattle.std.proofs.Common.{◌≡◌, ℕ, zero, suc, ◌+◌, ◌-◌, ◌<◌, ◌≤◌, Bool, true, inl, inr, arith}
use native.Mathlib.Nat.{sub-zero}
use Rattle.std.proofs.lemmas.Bool.{cases_Bool}
use Rattle.toom.specs.Torus.{Plane, next}
use Rattle.toom.specs.Triangle.{InTriangle, LiesInTriangle, TriangleShrinks, TriangleVanishes}
use Rattle.toom.specs.Vote.{thinned, thinned_by}
use Rattle.toom.proofs.Modular.{next_offset}
use Rattle.toom.proofs.Votes.{Two, two_places}

module _ (side a b k m : ℕ) (fits : k < side) (shorter : k ≤ m + 1) where
  -- The place north of (r, c) is in the triangle, and so is some place of row r: the row offset of the first is one more than that of the
  -- second. So (r, c), one row below the first, is in the triangle that is shorter by one. And the same with the place east, by columns.
  by_north : (r c d : ℕ) → InTriangle side a b k (next side r) c → InTriangle side a b k r d → InTriangle side a b m r c
  by_north r c d (u', v, within', row', col) (u, v', within, row, col') =
      let after : u + 1 ≡ u' = next_offset side a r u u' (omega arith) (omega arith) row row' in
      (u, v, omega arith, row, col)

  by_east : (r c d : ℕ) → InTriangle side a b k r (next side c) → InTriangle side a b k d c → InTriangle side a b m r c
  by_east r c d (u, v', within', row, col') (u', v, within, row', col) =
      let after : v + 1 ≡ v' = next_offset side b c v v' (omega arith) (omega arith) col col' in
      (u, v, omega arith, row, col)

  by_two : (r c : ℕ) → Two (InTriangle side a b k (next side r) c) (InTriangle side a b k r (next side c)) (InTriangle side a b k r c)
      → InTriangle side a b m r c
  by_two r c (inl (north, east)) = by_north r c (next side c) north east
  by_two r c (inr (inl (north, own))) = by_north r c c north own
  by_two r c (inr (inr (east, own))) = by_east r c r east own

  -- One vote.
  vote_shrinks : (shadow : Plane Bool) → LiesInTriangle side shadow a b k → LiesInTriangle side (thinned side shadow) a b m
  vote_shrinks shadow lies r c r< c< voted = by_two r c (two_places side shadow true (InTriangle side a b k) lies r c r< c< voted)

pub triangle_shrinks : TriangleShrinks
triangle_shrinks side shadow a b k zero fits few lies = rw sub-zero lies
triangle_shrinks side shadow a b k (suc j) fits few lies =
    vote_shrinks side a b (k - j) (k - suc j) (omega arith) (omega arith) (thinned_by j side shadow)
    (triangle_shrinks side shadow a b k j fits (omega arith) lies)

-- After k votes a place of the shadow would lie in a triangle of side 0.
pub triangle_vanishes : TriangleVanishes
triangle_vanishes side shadow a b k fits lies r c r< c< =
    elim (cases_Bool (thinned_by k side shadow r c)) [
      | inl marked ↦ let place = triangle_shrinks side shadow a b k k fits (omega arith) lies r c r< c< marked in absurd (omega arith)
      | inr clear ↦ clear
    ]
