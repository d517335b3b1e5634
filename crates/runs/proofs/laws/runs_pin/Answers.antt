use Rattle.plate.specs.Plates.{members}
use Rattle.runs.proofs.RunPins.{run_faults_pin, runs_pin}
use Rattle.runs.proofs.laws.runs_pin.Goals as goal

pub returns : goal.returns
returns g c = record {
  ends = runs_pin (members g.C.PartialEq.eq g.C.Kind.byte_of g.C.Kind.cell_of) c.outcomes_pin.ensures.ends;
  faults = run_faults_pin;
}
