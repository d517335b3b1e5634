-- A run's outcome pins its end, as that of all calls does that are asked together: each fault has a refusal of its own.
use Rattle.std.proofs.Common.{◌≡◌, cond, eqb, get_or, refl}
use Rattle.hosts.specs.Refusal.{Refusal}
use Rattle.plate.specs.declared.fault.StrikeFault.TheVariants as strikes
use Rattle.plate.specs.Members.{Members}
use Rattle.plate.specs.Pins.{OutcomesPin}
use Rattle.plate.proofs.PinnedCalls.{calls_pin}
use Rattle.plate.proofs.PinnedFaults.{undone}
use Rattle.runs.specs.declared.fault.RunFault.{RunFault}
use Rattle.runs.specs.declared.fault.RunFault.TheVariants.{Bare, Age, Script, Padding, Number, Order, Strike}
use Rattle.runs.specs.RunCall.{calls_of_run, run_questions}
use Rattle.runs.specs.RunFaults.{run_fault}
use Rattle.runs.specs.RunPins.{RunFaultsPin, RunsPin}

-- The word tells a strike's fault from the run's own: it begins with `s`.
run_back : Refusal → RunFault
run_back r =
    cond (eqb (get_or r.word 0 0) 115)
    (Strike r.place
    (cond (eqb r.number 6) strikes.Bare (cond (eqb r.number 7) strikes.Plane (cond (eqb r.number 8) strikes.Place strikes.Byte))))
    (cond (eqb r.number 6) Bare
    (cond (eqb r.number 10) Age
    (cond (eqb r.number 11) Script
    (cond (eqb r.number 12) (Padding r.place) (cond (eqb r.number 13) (Number r.place) (Order r.place))))))

run_undone : (e : RunFault) → run_back (run_fault e) ≡ e
unfolding run_back
run_undone Bare = refl
run_undone Age = refl
run_undone Script = refl
run_undone (Padding k) = refl
run_undone (Number k) = refl
run_undone (Order k) = refl
run_undone (Strike k strikes.Bare) = refl
run_undone (Strike k strikes.Plane) = refl
run_undone (Strike k strikes.Place) = refl
run_undone (Strike k strikes.Byte) = refl

pub run_faults_pin : RunFaultsPin
run_faults_pin = undone run_fault run_back run_undone

pub runs_pin : {C : Type 0} (k : Members C) → OutcomesPin k → RunsPin k
runs_pin k ends_pin host script beats r r' b b₁ b₂ x y =
    calls_pin k ends_pin run_fault run_faults_pin (run_questions k.named b beats script) (calls_of_run host script beats) r r' b b₁ b₂ x y
