-- What an entry sends and writes.
use Rattle.std.specs.Prelude.{cond, Some, None, Option, ◌==◌}
use Rattle.hosts.specs.declared.entry.Entry.{Entry}
use Rattle.hosts.specs.declared.entry.Motion.{Motion}
use Rattle.hosts.specs.declared.entry.Motion.TheVariants.{Stay}
use Rattle.hosts.specs.Digit.{Digit, zero_digit, entered, written}
use Rattle.hosts.specs.Table.{motion_code}

-- The head that an entry sends with this motion, or none.
abbrev pub sent : Motion → Option Entry → Digit
sent motion None = zero_digit
sent motion (Some e) = cond (motion_code e.motion == motion_code motion) (entered e) zero_digit

-- The head that stays: without an entry the cell's own.
abbrev pub staying : Digit → Option Entry → Digit
staying head None = head
staying head (Some e) = sent Stay (Some e)

-- The symbol after the step: without an entry the cell's own.
abbrev pub writing : Digit → Option Entry → Digit
writing symbol None = symbol
writing symbol (Some e) = written e
