-- The refusal of each fault of a run, and the fault that a beat's is.
use Rattle.hosts.specs.Refusal.{Refusal}
use Rattle.plate.specs.declared.fault.BeatFault as beat
use Rattle.plate.specs.declared.fault.BeatFault.TheVariants as beats
use Rattle.plate.specs.Faults.{strike_fault}
use Rattle.runs.specs.declared.fault.RunFault.{RunFault}
use Rattle.runs.specs.declared.fault.RunFault.TheVariants.{Bare, Age, Script, Padding, Number, Order, Strike}
use Rattle.runs.specs.RunCall.{at_place, run_refusal}

abbrev pub run_fault : RunFault → Refusal
run_fault Bare = run_refusal 6 0
run_fault Age = run_refusal 10 0
run_fault Script = run_refusal 11 0
run_fault (Padding k) = run_refusal 12 k
run_fault (Number k) = run_refusal 13 k
run_fault (Order k) = run_refusal 14 k
run_fault (Strike k fault) = at_place k (strike_fault fault)

-- The fault of a run that a fault of one of its beats is.
abbrev pub beat_in_run : beat.BeatFault → RunFault
beat_in_run beats.Bare = Bare
beat_in_run beats.Age = Age
