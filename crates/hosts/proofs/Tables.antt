-- The table that a machine file in order fills: its entries are in range, its other slots empty.
use Rattle.std.proofs.Common.{◌≡◌, ℕ, ◌+◌, ◌-◌, ◌*◌, ◌/◌, ◌%◌, ◌<◌, ◌≤◌, true, false, List, length, get_or, is_some, IsSome, Some, None, Option, sym, ap, refl, ◌∙◌, subst, subst₂, inl, inr, arith}
use Rattle.std.proofs.lemmas.Nat.{mul-add-lt}
use Rattle.std.proofs.lemmas.List.{get_or_past}
use Rattle.std.proofs.lemmas.Bool.{cases_lt, cond-true, cond-false}
use Rattle.std.proofs.lemmas.Bool.Decides.{nat_tests}
use Rattle.std.specs.Option.{unwrap_or}
use Rattle.hosts.specs.declared.entry.Entry.{Entry}
use Rattle.hosts.specs.MachineFile.{states_in, symbols_in, high_byte, entry_in, slot_in, entry_questions, header_questions, machine_questions, Bytes}
use Rattle.hosts.specs.Refusal.{ask_each}
use Rattle.hosts.specs.Table.{Sizes, has_entry, blank, InRange, slot, Used, Unused}
use Rattle.hosts.proofs.Headers.{some_state, two_symbols}
use Rattle.hosts.proofs.Questions.{or_none, asked_each}

-- A machine that has an entry for a state and a symbol has these.
pub has_parts : (states symbols q s : ℕ) → has_entry states symbols q s ≡ true → (1 ≤ q) × (q ≤ states) × (s < symbols)
has_parts states symbols q s h = grind (arith, nat_tests)

-- The slot of a state and a symbol that the machine of the file has.
pub slot_of : (file : List ℕ) (q s : ℕ) → has_entry (states_in file) (symbols_in file) q s ≡ true
    → slot_in file (16 * q + s) ≡ Some (entry_in file ((q - 1) * symbols_in file + s))
slot_of file q s h =
    let parts = has_parts (states_in file) (symbols_in file) q s h in
    let row : (16 * q + s) / 16 ≡ q = omega arith in
    let column : (16 * q + s) % 16 ≡ s = omega arith in
    rw (row, column) (cond-true _ _ None h)

-- The table is that of the file, for these numbers of states and symbols.
pub record Filled (file : List ℕ) (table : List (Option Entry)) (states symbols : ℕ) : Type 0 where
  pub sized : Sizes states symbols
  pub used : (i : ℕ) → Used states symbols table i
  pub unused : (i : ℕ) → Unused states symbols table i
  pub entries : (q s : ℕ) → has_entry states symbols q s ≡ true
      → unwrap_or (slot table (16 * q + s)) blank ≡ entry_in file ((q - 1) * symbols + s)

-- An entry whose questions are answered is in range.
entry_in_range : (file : List ℕ) (k : ℕ) → high_byte file k < 256 → entry_questions file k ≡ None
    → InRange (states_in file) (symbols_in file) (entry_in file k)
entry_in_range file k small good = (grind (arith, nat_tests), grind (arith, nat_tests), grind (arith, nat_tests))

-- No machine has state 16.
none_past : (states symbols i : ℕ) → states ≤ 15 → 256 ≤ i → has_entry states symbols (i / 16) (i % 16) ≡ false
none_past states symbols i few past = grind (arith, nat_tests)

module _ (file : List ℕ) (bytes : Bytes file) (good : machine_questions file ≡ None) where
  abbrev Q : ℕ
  Q = states_in file

  abbrev S : ℕ
  S = symbols_in file

  pub header_good : header_questions file ≡ None
  header_good = (or_none (header_questions file) (ask_each (entry_questions file) (Q * S)) good).0

  pub entry_good : (k : ℕ) → k < Q * S → entry_questions file k ≡ None
  entry_good k h = asked_each (entry_questions file) (Q * S) k (or_none (header_questions file) (ask_each (entry_questions file) (Q * S)) good).1 h

  sizes : Sizes Q S
  sizes = (some_state file header_good, omega (arith, bytes 0), two_symbols file header_good, omega arith)

  in_range : (k : ℕ) → k < Q * S → InRange Q S (entry_in file k)
  in_range k h = entry_in_range file k (bytes (1 + 2 * k)) (entry_good k h)

  module _ (table : List (Option Entry)) (whole : length table ≡ 256) (slots : (i : ℕ) → i < 256 → get_or table i None ≡ slot_in file i) where
    -- Past the table both sides are empty.
    every_slot : (i : ℕ) → get_or table i None ≡ slot_in file i
    every_slot i =
        elim (cases_lt i 256) [
          | inl h ↦ slots i h
          | inr h ↦
              get_or_past table i None (omega arith)
              ∙ sym (cond-false _ (Some (entry_in file ((i / 16 - 1) * S + i % 16))) None (none_past Q S i sizes.1 h))
        ]

    used : (i : ℕ) → Used Q S table i
    used i h =
        let parts = has_parts Q S (i / 16) (i % 16) h in
        let k = (i / 16 - 1) * S + i % 16 in
        let within : k < Q * S = omega (arith, mul-add-lt (i / 16 - 1) S (i % 16) Q (omega arith) parts.2) in
        subst (λ o. (IsSome o) × InRange Q S (unwrap_or o blank)) (sym (every_slot i ∙ cond-true _ (Some (entry_in file k)) None h))
        (refl, in_range k within)

    unused : (i : ℕ) → Unused Q S table i
    unused i h = ap is_some (every_slot i ∙ cond-false _ _ None h)

    entries : (q s : ℕ) → has_entry Q S q s ≡ true → unwrap_or (slot table (16 * q + s)) blank ≡ entry_in file ((q - 1) * S + s)
    entries q s h = ap (λ o. unwrap_or o blank) (every_slot (16 * q + s) ∙ slot_of file q s h)

    pub filled : (states symbols : ℕ) → states ≡ Q → symbols ≡ S → Filled file table states symbols
    filled states symbols p q =
        subst₂ (Filled file table) (sym p) (sym q) record { sized = sizes; used = used; unused = unused; entries = entries }
