-- What a machine file's header says, if it is in order.
use Rattle.std.proofs.Common.{◌≡◌, ℕ, ◌+◌, ◌*◌, ◌≤◌, List, length, None, arith}
use Rattle.std.proofs.lemmas.Bool.Decides.{nat_tests}
use Rattle.hosts.specs.MachineFile.{states_in, symbols_in, header_questions}

module _ (file : List ℕ) (good : header_questions file ≡ None) where
  pub some_state : 1 ≤ states_in file
  some_state = grind (arith, nat_tests)

  pub two_symbols : 2 ≤ symbols_in file
  two_symbols = grind (arith, nat_tests)

  pub length_is : length file ≡ 1 + 2 * (states_in file * symbols_in file)
  length_is = grind (arith, nat_tests)
