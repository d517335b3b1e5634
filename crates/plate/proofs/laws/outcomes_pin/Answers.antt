use Rattle.plate.specs.Plates.{members}
use Rattle.plate.proofs.PinnedAnswers.{answers_pin}
use Rattle.plate.proofs.PinnedCalls.{beats_pin}
use Rattle.plate.proofs.PinnedFaults.{faults_pin}
use Rattle.plate.proofs.Pins.{outcomes_pin}
use Rattle.plate.proofs.laws.outcomes_pin.Goals as goal

pub returns : goal.returns
returns g c =
    let k = members g.C.PartialEq.eq g.C.Kind.byte_of g.C.Kind.cell_of in
    let shadows = c.marks_pin.ensures in
    let ends = outcomes_pin shadows.pin shadows.sides k in
    record { ends = ends; answers = answers_pin k; beats = beats_pin k ends; faults = faults_pin }
