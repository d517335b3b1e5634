use Rattle.toom.proofs.Shadows.{marks_pin}
use Rattle.toom.proofs.laws.marks_pin.Goals as goal

pub returns : goal.returns
returns c = record { pin = marks_pin; sides = λ s. s.sized }
