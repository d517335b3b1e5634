use Rattle.hosts.proofs.MachineFiles.{one_file_each}
use Rattle.hosts.proofs.Machines.{one_machine_each}
use Rattle.hosts.proofs.laws.files_are_machines.Goals as goal

pub returns : goal.returns
returns c = record { files = one_file_each; machines = one_machine_each }
