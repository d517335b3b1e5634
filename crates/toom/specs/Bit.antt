-- The bit as a kind of cell: when two bits are the same, a bit's byte, and the bit of a byte.
use Rattle.std.specs.Prelude.{ℕ, zero, suc, Bool, true, false, Some, None, Option}
use Rattle.toom.specs.declared.bit.Bit.{Bit}
use Rattle.toom.specs.declared.bit.Bit.TheVariants.{Zero, One}

abbrev pub equal_bits : Bit → Bit → Bool
equal_bits Zero Zero = true
equal_bits Zero One = false
equal_bits One Zero = false
equal_bits One One = true

abbrev pub byte_of_bit : Bit → ℕ
byte_of_bit Zero = 0
byte_of_bit One = 1

abbrev pub bit_of_byte : ℕ → Option Bit
bit_of_byte zero = Some Zero
bit_of_byte (suc zero) = Some One
bit_of_byte (suc (suc b)) = None
