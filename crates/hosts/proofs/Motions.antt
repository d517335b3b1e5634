-- The motions and their numbers in the file.
use Rattle.std.proofs.Common.{◌≡◌, ℕ, zero, suc, ◌<◌, refl, arith}
use Rattle.hosts.specs.declared.entry.Motion.{Motion}
use Rattle.hosts.specs.declared.entry.Motion.TheVariants.{Stay, Left, Right}
use Rattle.hosts.specs.MachineFile.{motion_from}
use Rattle.hosts.specs.Table.{motion_code}

pub code_small : (motion : Motion) → motion_code motion < 3
code_small Stay = omega arith
code_small Left = omega arith
code_small Right = omega arith

pub motion_back : (motion : Motion) → motion ≡ motion_from (motion_code motion)
motion_back Stay = refl
motion_back Left = refl
motion_back Right = refl

pub code_back : (n : ℕ) → n < 3 → motion_code (motion_from n) ≡ n
code_back zero h = refl
code_back (suc zero) h = refl
code_back (suc (suc n)) h = omega arith
