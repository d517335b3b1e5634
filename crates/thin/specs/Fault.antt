-- The line that tells what is wrong with the input.
use Rattle.std.specs.Prelude.{ℕ, List, ◌++◌, codes, decimal}
use Rattle.thin.specs.declared.input.Cause.{Cause}
use Rattle.thin.specs.declared.input.Cause.TheVariants.{NoSide, WordCount, NoNumber, SideRange, OffTorus}
use Rattle.thin.specs.declared.input.InputFault.{InputFault}

-- What is wrong, in words.
abbrev pub cause_text : Cause → List ℕ
cause_text NoSide = codes "the side of the torus is missing"
cause_text WordCount = codes "the number of words is wrong"
cause_text NoNumber = codes "a word is not a decimal number"
cause_text SideRange = codes "the side is not from 2 to 64"
cause_text OffTorus = codes "the place is not on the torus"

-- The line's number, and what is wrong with it.
abbrev pub fault_text : InputFault → List ℕ
fault_text fault = codes "line " ++ (decimal fault.line ++ (codes ": " ++ cause_text fault.cause))
