-- The places beside wounds: with the wounds they are all that votes of wounds read.
use Rattle.std.specs.Prelude.{◌≡◌, ℕ, ◌+◌, ◌*◌, ◌<◌, Bool, true, false, ◌⊎◌, List}
use Rattle.toom.specs.declared.shadow.Shadow.{Shadow}
use Rattle.toom.specs.Shadow.{marks, side_of_shadow}
use Rattle.toom.specs.Torus.{Everywhere, Plane, next}
use Rattle.plate.specs.BeatCall.{line}
use Rattle.plate.specs.Sweep.{Wanted}
use Rattle.plate.specs.Wounds.{PlacesWritten, strand_at}

-- A place is a wound or beside one.
abbrev pub InEither : (wounds beside : Plane Bool) → (r c : ℕ) → Type 0
InEither wounds beside r c = (wounds r c ≡ true) ⊎ (beside r c ≡ true)

-- Both that lie north and east of a place are wounds or beside one.
abbrev pub ReadsEither : (side : ℕ) → (wounds beside : Plane Bool) → (r c : ℕ) → Type 0
ReadsEither side wounds beside r c = InEither wounds beside (next side r) c × InEither wounds beside r (next side c)

-- These places are no wounds, and north and east of each wound are wounds or among them.
pub record Beside (side : ℕ) (wounds beside : Plane Bool) : Type 0 where
  pub sound : Everywhere side (λ r c. beside r c ≡ true → wounds r c ≡ false)
  pub read : Everywhere side (λ r c. wounds r c ≡ true → ReadsEither side wounds beside r c)

-- Places that are no wounds were added to a set.
pub record SoundAdded (wounds : Plane Bool) (before after : Shadow) : Type 0 where
  pub side : side_of_shadow after ≡ side_of_shadow before
  pub stay : Everywhere (side_of_shadow before) (λ r c. marks before r c ≡ true → marks after r c ≡ true)
  pub sound : Everywhere (side_of_shadow before) (λ r c. marks after r c ≡ true → (marks before r c ≡ true) ⊎ (wounds r c ≡ false))

-- The n cells of the line over and over.
abbrev pub RepeatsLine : {C : Type 0} → (n side : ℕ) → List C → Wanted C
RepeatsLine n side before j d x = (p i : ℕ) → i < n → j ≡ p * n + i → x ≡ line before n side d i

-- The line is written to the strands of these places.
abbrev pub LineSpread : {C : Type 0} → (n side : ℕ) → (among : (i r c : ℕ) → Type 0) → (before after : List C) → Type 0
LineSpread n side among before after =
    PlacesWritten n side (n * (side * side)) (strand_at n side) among (λ i r c d. line before n side d i) before after
