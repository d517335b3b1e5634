-- Toom's vote of a place, and of a whole plane.
use Rattle.std.specs.Prelude.{◌≡◌, ℕ, zero, suc, ◌+◌, ◌≤◌, Bool, false, cond}
use Rattle.std.specs.Bool.{beq}
use Rattle.toom.specs.Torus.{Plane, next, Everywhere, SameOnTorus}

-- Toom's vote: north, if `equal` says that east is the same cell; if not, the own cell.
abbrev pub vote_of : {C : Type 0} → (C → C → Bool) → (north east own : C) → C
vote_of equal north east own = cond (equal north east) north own

-- The voted plane: at each place the vote of its north, its east and itself, all from the old plane.
abbrev pub voted : {C : Type 0} → (C → C → Bool) → ℕ → Plane C → Plane C
voted equal side plane r c = vote_of equal (plane (next side r) c) (plane r (next side c)) (plane r c)

-- Planes that are the same on the torus vote alike: what a plane has off the torus has no say.
abbrev pub SameVotes : {C : Type 0} → (C → C → Bool) → Type 0
SameVotes {C} equal =
    (side : ℕ) (plane other : Plane C) → SameOnTorus side plane other
    → SameOnTorus side (voted equal side plane) (voted equal side other)

-- The vote of a plane of bits, and the plane after j votes.
abbrev pub thinned : ℕ → Plane Bool → Plane Bool
thinned = voted beq

abbrev pub thinned_by : ℕ → ℕ → Plane Bool → Plane Bool
thinned_by zero side plane = plane
thinned_by (suc j) side plane = thinned side (thinned_by j side plane)

-- 1 if the cell differs from x, else 0.
abbrev pub wounded : {C : Type 0} → (C → C → Bool) → (x cell : C) → ℕ
wounded equal x cell = cond (equal cell x) 0 1

-- At most one wounded: if at most one of the three differs from x, the vote is x.
abbrev pub OneWounded : {C : Type 0} → (C → C → Bool) → Type 0
OneWounded {C} equal =
    (x north east own : C) → wounded equal x north + wounded equal x east + wounded equal x own ≤ 1
    → vote_of equal north east own ≡ x

-- The same of planes: if the copies outside a shadow equal x, the voted plane equals x outside the voted shadow.
abbrev pub HealsOutside : {C : Type 0} → (C → C → Bool) → Type 0
HealsOutside {C} equal =
    (side : ℕ) (shadow : Plane Bool) (plane : Plane C) (x : C)
    → Everywhere side (λ r c. shadow r c ≡ false → plane r c ≡ x)
    → Everywhere side (λ r c. thinned side shadow r c ≡ false → voted equal side plane r c ≡ x)
