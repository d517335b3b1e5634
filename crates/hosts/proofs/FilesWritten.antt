-- A file with the bytes of a machine is in order, and gives that machine.
use Rattle.std.proofs.Common.{◌≡◌, ℕ, ◌+◌, ◌*◌, ◌/◌, ◌<◌, List, length, None, sym, ap, ◌∙◌, arith}
use Rattle.std.proofs.lemmas.Bool.Decides.{nat_tests}
use Rattle.hosts.specs.declared.machine.Machine.{Machine}
use Rattle.hosts.specs.MachineFile.{states_in, symbols_in, low_byte, motion_from, entry_in, entry_questions, header_questions, machine_questions, MachineIn}
use Rattle.hosts.specs.Table.{motion_code}
use Rattle.hosts.proofs.Entries.{entries_equal}
use Rattle.hosts.proofs.FileBytes.{Coded}
use Rattle.hosts.proofs.FileEntries.{nth_entry, nth_range, place_below, entry_is_nth}
use Rattle.hosts.proofs.Questions.{asked_all}
use Rattle.hosts.proofs.Motions.{code_small, motion_back}

module _ (file : List ℕ) (m : Machine) (coded : Coded file m) where
  states_are : states_in file ≡ m.states
  states_are = omega (arith, coded.first, m.sized)

  symbols_are : symbols_in file ≡ m.symbols
  symbols_are = omega (arith, coded.first, m.sized)

  header_good : header_questions file ≡ None
  header_good =
      let sizes = m.sized in
      let states = states_are in
      let symbols = symbols_are in
      let long : length file ≡ 1 + 2 * (states_in file * symbols_in file) = rw (states_are, symbols_are) coded.long in
      grind (arith, nat_tests)

  entry_good : (k : ℕ) → k < m.states * m.symbols → entry_questions file k ≡ None
  entry_good k h =
      let range = nth_range m k h in
      let small = code_small (nth_entry m k).motion in
      let high = coded.high k h in
      let low = coded.low k h in
      grind (arith, nat_tests)

  pub in_order : machine_questions file ≡ None
  in_order = rw (header_good, states_are, symbols_are) (asked_all (entry_questions file) (m.states * m.symbols) entry_good)

  nth_is : (k : ℕ) → k < m.states * m.symbols → nth_entry m k ≡ entry_in file k
  nth_is k h =
      let e = nth_entry m k in
      let high = coded.high k h in
      let code : motion_code e.motion ≡ low_byte file k / 64 = omega (arith, coded.low k h) in
      entries_equal e _ (omega arith) (omega arith) (motion_back e.motion ∙ ap motion_from code)

  pub gives : MachineIn file m
  gives = record {
    states = sym states_are;
    symbols = sym symbols_are;
    entries = λ q s h. entry_is_nth m q s h ∙ nth_is _ (place_below m q s h);
  }
