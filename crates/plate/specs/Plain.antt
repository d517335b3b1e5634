-- The plain machine. It is told which calls are made and which of them are accepted, and never sees a copy. It has a shape, a faultless run and a
-- shadow.
use Rattle.std.specs.Prelude.{◌≡◌, ℕ, ◌*◌, ◌<◌, Bool, List, true, false, [], ◌∷◌, Some, None, Option, slice_index}
use Rattle.std.specs.Option.{option_map}
use Rattle.toom.specs.Shadow.{no_marks, with_mark}
use Rattle.toom.specs.Torus.{Plane, count_marks}
use Rattle.toom.specs.Vote.{thinned}
use Rattle.hosts.specs.Ring.{stepped}
use Rattle.plate.specs.History.{Call, Lay, Strike, Beat, Read, Map, Show, History}
use Rattle.plate.specs.Members.{Members}

-- Cell i of the faultless run is `run i`, which is some cell for each i below n.
pub record Plain (C : Type 0) : Type 0 where
  pub n : ℕ
  pub side : ℕ
  pub run : ℕ → Option C
  pub shadow : Plane Bool

-- The shadow covers fewer than half of the places.
abbrev pub FewerThanHalf : {C : Type 0} → Plain C → Type 0
FewerThanHalf p = 2 * count_marks p.side p.shadow < p.side * p.side

-- The faultless tape: its byte i is that of cell i of the faultless run.
abbrev pub FaultlessTape : {C : Type 0} → Members C → Plain C → (tape : List ℕ) → Type 0
FaultlessTape k p tape = (i : ℕ) → i < p.n → option_map k.byte (p.run i) ≡ Some (slice_index tape i)

-- A host's function on cells that are there.
abbrev pub lifted : {C : Type 0} → (C → C → C → C) → Option C → Option C → Option C → Option C
lifted host None c r = None
lifted host (Some l) None r = None
lifted host (Some l) (Some c) None = None
lifted host (Some l) (Some c) (Some r) = Some (host l c r)

abbrev pub struck : {C : Type 0} → (row column : ℕ) → Option (Plain C) → Option (Plain C)
struck row column None = None
struck row column (Some p) = Some record { n = p.n; side = p.side; run = p.run; shadow = with_mark p.shadow row column }

abbrev pub beaten : {C : Type 0} → (C → C → C → C) → Option (Plain C) → Option (Plain C)
beaten host None = None
beaten host (Some p) = Some record { n = p.n; side = p.side; run = stepped (lifted host) p.n p.run; shadow = thinned p.side p.shadow }

-- What an accepted call makes of the plain machine.
abbrev pub after_call : {C : Type 0} → Members C → Call C → Option (Plain C) → Option (Plain C)
after_call k (Lay n side tape) p = Some record { n = n; side = side; run = λ i. k.named (slice_index tape i); shadow = no_marks }
after_call k (Strike plane row column byte) p = struck row column p
after_call k (Beat host) p = beaten host p
after_call k (Read before after) p = p
after_call k (Map before after) p = p
after_call k (Show before after) p = p

-- Only accepted calls count. Before the first accepted lay there is no plain machine.
abbrev pub plain : {C : Type 0} → Members C → History C → Option (Plain C)
plain k [] = None
plain k ((call, true) ∷ h) = after_call k call (plain k h)
plain k ((call, false) ∷ h) = plain k h
