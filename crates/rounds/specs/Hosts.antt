-- The hosts of a round: a bit rule is one byte, Wolfram's number; a machine is a machine file.
use Rattle.std.specs.Prelude.{◌≡◌, ℕ, List, length, None, Option, ◌==◌, slice_index}
use Rattle.hosts.specs.declared.elementary.Elementary.{Elementary}
use Rattle.hosts.specs.MachineFault.{machine_fault}
use Rattle.hosts.specs.MachineFile.{host_refusal}
use Rattle.hosts.specs.Refusal.{Refusal, ask}
use Rattle.rounds.specs.declared.fault.HostFault.{HostFault}
use Rattle.rounds.specs.declared.fault.HostFault.TheVariants.{Rule, Machine}

abbrev pub rule_questions : List ℕ → Option Refusal
rule_questions bytes = ask (length bytes == 1) (host_refusal 27 0) None

abbrev pub RuleIn : List ℕ → Elementary → Type 0
RuleIn bytes host = host.rule ≡ slice_index bytes 0

abbrev pub host_fault : HostFault → Refusal
host_fault Rule = host_refusal 27 0
host_fault (Machine fault) = machine_fault fault
