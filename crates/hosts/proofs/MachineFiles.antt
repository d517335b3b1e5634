-- A machine has one file, which is in order and gives it.
use Rattle.std.proofs.Common.{sym, ◌∙◌}
use Rattle.hosts.specs.MachineFile.{file_of, OneFileEach}
use Rattle.hosts.proofs.FileBytes.{file_coded}
use Rattle.hosts.proofs.FilesRead.{read_is}
use Rattle.hosts.proofs.FilesWritten.{in_order, gives}

pub one_file_each : OneFileEach
one_file_each = record {
  written = λ m. (in_order (file_of m) m (file_coded m), gives (file_of m) m (file_coded m));
  read = read_is;
  same = λ file other m bytes more good too is also. read_is file m bytes good is ∙ sym (read_is other m more too also);
}
