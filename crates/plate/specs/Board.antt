-- A plate as its calls see it: what it keeps beside its cells if it is laid, and its memory.
use Rattle.std.specs.Prelude.{ℕ, ◌*◌, cond, List, length, take, drop, Some, None, Option, nat_le}
use Rattle.toom.specs.Shadow.{side_of_shadow}
use Rattle.plate.specs.declared.laid.Laid.{Laid}
use Rattle.plate.specs.Layout.{size_of}

pub record Board (C : Type 0) : Type 0 where
  pub laid : Option Laid
  pub cells : List C

-- The side of a laid plate is that of its shadow.
abbrev pub side_of : Laid → ℕ
side_of l = side_of_shadow l.shadow

abbrev pub held : {C : Type 0} → Option Laid → List C → Option Laid
held None cells = None
held (Some l) cells = cond (nat_le (size_of l.planes (side_of l)) (length cells)) (Some l) None

-- What the plate keeps, if it is laid: it has a shape, and its memory holds that shape.
abbrev pub standing : {C : Type 0} → Board C → Option Laid
standing b = held b.laid b.cells

-- Plane i of the copies.
abbrev pub plane_of : {C : Type 0} → List C → (side i : ℕ) → List C
plane_of cells side i = take (side * side) (drop (i * (side * side)) cells)
