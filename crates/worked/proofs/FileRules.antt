-- The rule of the machine that a file gives, from the file's bytes alone.
use Rattle.std.proofs.Common.{◌≡◌, ℕ, ◌+◌, ◌-◌, ◌*◌, Bool, true, cond, not, ◌&&◌, eqb, List, Some, None, Option, refl, ap, ◌∙◌}
use Rattle.std.proofs.lemmas.Bool.{cond_both, cond-true, cond-false}
use Rattle.toom.specs.declared.machine_cell.MachineCell.{MachineCell}
use Rattle.toom.specs.MachineCell.{head_of_cell, symbol_of_cell}
use Rattle.hosts.specs.declared.entry.Entry.{Entry}
use Rattle.hosts.specs.declared.machine.Machine.{Machine}
use Rattle.hosts.specs.Digit.{cell}
use Rattle.hosts.specs.MachineFile.{states_in, symbols_in, entry_in, MachineIn}
use Rattle.hosts.specs.MachineRule.{entry_of, live, arriving, new_head, new_symbol, machine_rule}
use Rattle.hosts.specs.Table.{has_entry}

-- The machine's words, said of its file.
abbrev live_in : List ℕ → MachineCell → Bool
live_in file x = has_entry (states_in file) (symbols_in file) (head_of_cell x) (symbol_of_cell x)

abbrev entry_of_in : List ℕ → MachineCell → Option Entry
entry_of_in file x = cond (live_in file x) (Some (entry_in file ((head_of_cell x - 1) * symbols_in file + symbol_of_cell x))) None

-- The rule, from whether the centre is live and from the three entries.
abbrev rule_by : (live : Bool) → (left own right : Option Entry) → (centre : MachineCell) → MachineCell
rule_by live left own right centre =
    cond (not (eqb (head_of_cell centre) 0) && not live) centre (cell (new_head (arriving left own right)) (new_symbol centre own))

abbrev pub file_rule : List ℕ → (left centre right : MachineCell) → MachineCell
file_rule file left centre right =
    rule_by (live_in file centre) (entry_of_in file left) (entry_of_in file centre) (entry_of_in file right) centre

cond_same : {A : Type 0} (b : Bool) (x z y : A) → (b ≡ true → x ≡ z) → cond b x y ≡ cond b z y
cond_same b x z y same = cond_both b z y (λ e. cond b x y ≡ e) (λ h. cond-true b x y h ∙ same h) (λ h. cond-false b x y h)

module _ (file : List ℕ) (m : Machine) (is : MachineIn file m) where
  live_is : (x : MachineCell) → live m x ≡ live_in file x
  live_is x = rw (← is.states, ← is.symbols) refl

  entry_is : (x : MachineCell) → entry_of m x ≡ entry_of_in file x
  entry_is x =
      rw (← is.states, ← is.symbols)
      (cond_same (live m x) _ _ None (λ h. ap (λ e. Some e) (is.entries (head_of_cell x) (symbol_of_cell x) h)))

  pub rule_is : machine_rule m ≡ file_rule file
  rule_is =
      λ i left centre right. rule_by (live_is centre i) (entry_is left i) (entry_is centre i) (entry_is right i) centre
