-- Each outcome pins its end: what a call leaves is settled by the call, its arguments and the plate before it.
use Rattle.std.specs.Prelude.{◌≡◌, ℕ, Bool, List, [], Result}
use Rattle.hosts.specs.Refusal.{Refusal}
use Rattle.plate.specs.declared.fault.BeatFault.{BeatFault}
use Rattle.plate.specs.declared.fault.LayFault.{LayFault}
use Rattle.plate.specs.declared.fault.MapFault.{MapFault}
use Rattle.plate.specs.declared.fault.ReadFault.{ReadFault}
use Rattle.plate.specs.declared.fault.ShadowFault.{ShadowFault}
use Rattle.plate.specs.declared.fault.StrikeFault.{StrikeFault}
use Rattle.plate.specs.BeatsCall.{BeatsAnswer}
use Rattle.plate.specs.Board.{Board}
use Rattle.plate.specs.Faults.{beat_fault, lay_fault, map_fault, read_fault, shadow_fault, strike_fault}
use Rattle.plate.specs.History.{Call, Lay, Strike, Beat, Read, Map, Show, Outcome}
use Rattle.plate.specs.Members.{Members}
use Rattle.plate.specs.Plates.{Answers}

-- The call and its arguments alone: as if its output stayed.
abbrev pub input : {C : Type 0} → Call C → Call C
input (Lay n side tape) = Lay n side tape
input (Strike plane row column byte) = Strike plane row column byte
input (Beat host) = Beat host
input (Read before after) = Read before before
input (Map before after) = Map before before
input (Show before after) = Show before before

-- The output after the call, all of it. A call that writes none has none.
abbrev pub output : {C : Type 0} → Call C → List ℕ
output (Lay n side tape) = []
output (Strike plane row column byte) = []
output (Beat host) = []
output (Read before after) = after
output (Map before after) = after
output (Show before after) = after

-- Two ends of one call on one plate: both accepted or both refused, and the same plate and the same output after it.
abbrev pub OutcomesPin : {C : Type 0} → Members C → Type 0
OutcomesPin {C} k =
    (call other : Call C) → input call ≡ input other → (accepted accepted' : Bool) (b b₁ b₂ : Board C)
    → Outcome k call accepted b b₁ → Outcome k other accepted' b b₂
    → (accepted ≡ accepted') × (b₁ ≡ b₂) × (output call ≡ output other)

-- The refusal tells the fault.
pub record FaultsPin : Type 0 where
  pub lay : (e f : LayFault) → lay_fault e ≡ lay_fault f → e ≡ f
  pub strike : (e f : StrikeFault) → strike_fault e ≡ strike_fault f → e ≡ f
  pub beat : (e f : BeatFault) → beat_fault e ≡ beat_fault f → e ≡ f
  pub read : (e f : ReadFault) → read_fault e ≡ read_fault f → e ≡ f
  pub map : (e f : MapFault) → map_fault e ≡ map_fault f → e ≡ f
  pub shadow : (e f : ShadowFault) → shadow_fault e ≡ shadow_fault f → e ≡ f

-- Two answers to one call on one plate are the same: both Ok, or the same fault.
abbrev pub OneAnswer : {C E : Type 0} → Members C → (E → Refusal) → Type 0
OneAnswer {C} {E} k refusal =
    (call other : Call C) → input call ≡ input other → (r r' : Result (Unit {0}) E) (b b₁ b₂ : Board C) → Answers k refusal call r b b₁
    → Answers k refusal other r' b b₂ → r ≡ r'

pub record AnswersPin {C : Type 0} (k : Members C) : Type 0 where
  pub lay : OneAnswer k lay_fault
  pub strike : OneAnswer k strike_fault
  pub beat : OneAnswer k beat_fault
  pub read : OneAnswer k read_fault
  pub map : OneAnswer k map_fault
  pub shadow : OneAnswer k shadow_fault

-- Two ends of as many beats of one host on one plate: the same answer and the same plate.
abbrev pub BeatsPin : {C : Type 0} → Members C → Type 0
BeatsPin {C} k =
    (host : C → C → C → C) (m : ℕ) (r r' : Result (Unit {0}) BeatFault) (b b₁ b₂ : Board C) → BeatsAnswer k host m r b b₁
    → BeatsAnswer k host m r' b b₂ → (r ≡ r') × (b₁ ≡ b₂)
