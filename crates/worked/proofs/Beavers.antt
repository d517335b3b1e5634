-- The busy beaver: its file gives a machine, and what that does is what the file says.
use Rattle.std.proofs.Common.{◌≡◌, ℕ, zero, suc, ◌<◌, Bool, true, ◌&&◌, ltb, List, [], ◌∷◌, get_or, sym, refl, subst, arith}
use Rattle.std.proofs.lemmas.Bool.{and_parts, ltb-true}
use Rattle.hosts.specs.declared.machine.Machine.{Machine}
use Rattle.hosts.specs.MachineFile.{MachineIn}
use Rattle.hosts.specs.MachineRule.{machine_rule}
use Rattle.worked.specs.Worked.{beaver, BeaverDoes}
use Rattle.worked.proofs.FileMachines.{machine_there}
use Rattle.worked.proofs.FileRules.{rule_is}

-- Its bytes are bytes.
abbrev all_bytes : List ℕ → Bool
all_bytes [] = true
all_bytes (b ∷ bs) = ltb b 256 && all_bytes bs

bytes_below : (bs : List ℕ) → all_bytes bs ≡ true → (i : ℕ) → get_or bs i 0 < 256
bytes_below [] h i = omega arith
bytes_below (b ∷ bs) h zero = ltb-true b 256 (and_parts (ltb b 256) (all_bytes bs) h).0
bytes_below (b ∷ bs) h (suc i) = bytes_below bs (and_parts (ltb b 256) (all_bytes bs) h).1 i

pub beaver_there : (m : Machine) × MachineIn beaver m
beaver_there = machine_there beaver (bytes_below beaver refl) refl

-- The file's rule does it by computation, and the machine's rule is the file's.
pub beaver_does : (m : Machine) → MachineIn beaver m → BeaverDoes (machine_rule m)
beaver_does m is =
    subst BeaverDoes (sym (rule_is beaver m is)) record { six_steps = refl; left_enters = refl; foreign_stays = λ left right. refl }
