-- The entries of a machine in the order of its file: that of state q and symbol s stands at place (q - 1) × S + s.
use Rattle.std.proofs.Common.{◌≡◌, ℕ, ◌+◌, ◌-◌, ◌*◌, ◌/◌, ◌%◌, ◌<◌, ◌≤◌, true, sym, ap, ◌∙◌, ap₂, subst₂, arith}
use Rattle.std.proofs.lemmas.Nat.{mul-add-lt, div-add-mod', div-mul-add, mod-mul-add, div_below, mod_below}
use Rattle.std.proofs.lemmas.Bool.Decides.{nat_tests}
use Rattle.hosts.specs.declared.entry.Entry.{Entry}
use Rattle.hosts.specs.declared.machine.Machine.{Machine}
use Rattle.hosts.specs.MachineRule.{entry_at}
use Rattle.hosts.specs.Table.{has_entry, InRange}
use Rattle.hosts.proofs.Tables.{has_parts}

abbrev pub nth_entry : Machine → ℕ → Entry
nth_entry m k = entry_at m (k / m.symbols + 1) (k % m.symbols)

-- Of a place: it has an entry, which is in range.
module _ (m : Machine) (k : ℕ) (k< : k < m.states * m.symbols) where
  abbrev q : ℕ
  q = k / m.symbols + 1

  abbrev s : ℕ
  s = k % m.symbols

  column_below : s < m.symbols
  column_below = mod_below k m.symbols (omega (arith, m.sized))

  pub has_nth : has_entry m.states m.symbols q s ≡ true
  has_nth =
      let row = div_below k m.symbols m.states (omega (arith, m.sized)) k< in
      let column = column_below in
      grind (arith, nat_tests)

  pub nth_place : (q - 1) * m.symbols + s ≡ k
  nth_place = let row : q - 1 ≡ k / m.symbols = omega arith in ap (λ a. a * m.symbols + s) row ∙ div-add-mod' k m.symbols

  pub nth_range : InRange m.states m.symbols (nth_entry m k)
  nth_range =
      let column : s < 16 = omega (arith, column_below, m.sized) in
      (m.used (16 * q + s) (subst₂ (λ a b. has_entry m.states m.symbols a b ≡ true) (omega arith) (omega arith) has_nth)).1

-- Of a state and a symbol: their place is there, and the entry at that place is theirs.
module _ (m : Machine) (q s : ℕ) (has : has_entry m.states m.symbols q s ≡ true) where
  parts : (1 ≤ q) × (q ≤ m.states) × (s < m.symbols)
  parts = has_parts m.states m.symbols q s has

  pub place_below : (q - 1) * m.symbols + s < m.states * m.symbols
  place_below = omega (arith, mul-add-lt (q - 1) m.symbols s m.states (omega (arith, parts)) parts.2)

  pub entry_is_nth : entry_at m q s ≡ nth_entry m ((q - 1) * m.symbols + s)
  entry_is_nth =
      ap₂ (entry_at m) (omega (arith, parts, div-mul-add (q - 1) m.symbols s parts.2)) (sym (mod-mul-add (q - 1) m.symbols s parts.2))
