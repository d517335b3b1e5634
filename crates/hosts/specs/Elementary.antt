-- Wolfram's numbering of the elementary rules.
use Rattle.std.specs.Prelude.{ℕ, ◌+◌, ◌*◌, ◌/◌, ◌%◌, ◌^◌, cond, ◌==◌}
use Rattle.toom.specs.declared.bit.Bit.{Bit}
use Rattle.toom.specs.declared.bit.Bit.TheVariants.{Zero, One}
use Rattle.toom.specs.Bit.{byte_of_bit}

-- The number of the bit that answers for these three cells.
abbrev pub bit_number : (left centre right : Bit) → ℕ
bit_number left centre right = 4 * byte_of_bit left + 2 * byte_of_bit centre + byte_of_bit right

-- Rule w answers the binary digit of w that counts 2 to the power of that number.
abbrev pub wolfram : (w : ℕ) → (left centre right : Bit) → Bit
wolfram w left centre right = cond (w / 2 ^ bit_number left centre right % 2 == 1) One Zero
