-- The refusal of each fault of a machine file.
use Rattle.hosts.specs.declared.machine.fault.MachineFault.{MachineFault}
use Rattle.hosts.specs.declared.machine.fault.MachineFault.TheVariants.{Header, Length, Next, Symbol, Move, Padding}
use Rattle.hosts.specs.MachineFile.{host_refusal}
use Rattle.hosts.specs.Refusal.{Refusal}

abbrev pub machine_fault : MachineFault → Refusal
machine_fault Header = host_refusal 17 0
machine_fault Length = host_refusal 18 0
machine_fault (Next entry) = host_refusal 19 entry
machine_fault (Symbol entry) = host_refusal 20 entry
machine_fault (Move entry) = host_refusal 21 entry
machine_fault (Padding entry) = host_refusal 22 entry
