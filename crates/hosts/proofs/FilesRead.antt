-- A file in order that gives a machine is the file of that machine.
use Rattle.std.proofs.Common.{◌≡◌, ℕ, ◌+◌, ◌*◌, ◌/◌, ◌%◌, ◌<◌, List, None, sym, ap, ◌∙◌, arith}
use Rattle.std.proofs.lemmas.Bool.Decides.{nat_tests}
use Rattle.hosts.specs.declared.machine.Machine.{Machine}
use Rattle.hosts.specs.MachineFile.{states_in, symbols_in, high_byte, low_byte, entry_in, entry_byte, entry_questions, machine_questions, file_of, MachineIn, Bytes}
use Rattle.hosts.proofs.FileBytes.{Coded, coded_is}
use Rattle.hosts.proofs.FileEntries.{nth_entry, has_nth, nth_place}
use Rattle.hosts.proofs.Headers.{length_is}
use Rattle.hosts.proofs.Motions.{code_back}
use Rattle.hosts.proofs.Tables.{header_good, entry_good}

-- Questions 21 and 22.
low_good : (file : List ℕ) (k : ℕ) → entry_questions file k ≡ None → (low_byte file k / 64 < 3) × (low_byte file k % 64 ≡ 0)
low_good file k passed = grind (arith, nat_tests)

module _ (file : List ℕ) (m : Machine) (bytes : Bytes file) (good : machine_questions file ≡ None) (is : MachineIn file m) where
  nth_is : (k : ℕ) → k < m.states * m.symbols → nth_entry m k ≡ entry_in file k
  nth_is k h = is.entries _ _ (has_nth m k h) ∙ ap (entry_in file) (nth_place m k h)

  high_is : (k : ℕ) → high_byte file k ≡ entry_byte (entry_in file k) 0
  high_is k = omega (arith, bytes (1 + 2 * k))

  low_is : (k : ℕ) → k < m.states * m.symbols → low_byte file k ≡ entry_byte (entry_in file k) 1
  low_is k h =
      let here : k < states_in file * symbols_in file = rw (← is.states, ← is.symbols) h in
      let answers = low_good file k (entry_good file bytes good k here) in
      omega (arith, code_back (low_byte file k / 64) answers.0)

  coded : Coded file m
  coded = record {
    long = rw (is.states, is.symbols) (length_is file (header_good file bytes good));
    first = omega (arith, is.states, is.symbols);
    high = λ k h. high_is k ∙ ap (λ e. entry_byte e 0) (sym (nth_is k h));
    low = λ k h. low_is k h ∙ ap (λ e. entry_byte e 1) (sym (nth_is k h));
  }

  pub read_is : file ≡ file_of m
  read_is = coded_is file m coded
