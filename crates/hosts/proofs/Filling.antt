-- The table while the entries of a machine file are asked and put in their slots, one after the other.
use Rattle.std.proofs.Common.{◌≡◌, ℕ, zero, suc, ◌+◌, ◌-◌, ◌*◌, ◌/◌, ◌%◌, ◌<◌, ◌≤◌, true, List, length, get_or, set, replicate, Some, None, Option, refl, sym, ap, ◌∙◌, subst, inl, inr, arith}
use Rattle.std.proofs.Math.Nat.{suc-mul}
use Rattle.std.proofs.lemmas.Nat.{mul-add-lt}
use Rattle.std.proofs.lemmas.List.{get_or_past, get_or-replicate, get_or-set_other, length-set}
use Rattle.std.proofs.lemmas.Grind.{get_or-set_at}
use Rattle.std.proofs.lemmas.Bool.{cases_Bool, cases_lt, cases_eq, cond-false}
use Rattle.std.proofs.lemmas.Bool.Decides.{nat_tests}
use Rattle.std.specs.Option.{option_or}
use Rattle.hosts.specs.declared.entry.Entry.{Entry}
use Rattle.hosts.specs.declared.machine.file.MachineFile.{MachineFile}
use Rattle.hosts.specs.MachineFile.{states_in, symbols_in, entry_in, slot_in, entry_questions, machine_questions, Bytes}
use Rattle.hosts.specs.Refusal.{Refusal, ask_each}
use Rattle.hosts.specs.Table.{has_entry}
use Rattle.hosts.proofs.Questions.{none_is, asked_more, asked_first}
use Rattle.hosts.proofs.Tables.{has_parts, slot_of, Filled, filled}

-- The entries before state q and the n of state q are those of q states.
row_end : (q n : ℕ) → 1 ≤ q → (q - 1) * n + n ≡ q * n
row_end zero n some = absurd (omega arith)
row_end (suc p) n some = let e : suc p - 1 ≡ p = omega arith in rw e (sym (suc-mul p n))

module _ (file : MachineFile) where
  abbrev bytes : List ℕ
  bytes = file.bytes.now

  -- The place in the file of the entry of state q and symbol s.
  abbrev place : (q s : ℕ) → ℕ
  place q s = (q - 1) * file.symbols + s

  -- All entries before that of state q and symbol s are in order and in their slots; every later slot is empty.
  pub record FilledTo (table : List (Option Entry)) (q s : ℕ) : Type 0 where
    pub whole : length table ≡ 256
    pub asked : ask_each (entry_questions file.bytes.now) ((q - 1) * file.symbols + s) ≡ None
    pub before : (i : ℕ) → i < 16 * q + s → get_or table i None ≡ slot_in file.bytes.now i
    pub after : (i : ℕ) → 16 * q + s ≤ i → get_or table i None ≡ None

  -- A slot that no state and symbol have.
  spare : (i : ℕ) → ((1 ≤ i / 16) × (i / 16 ≤ file.states) × (i % 16 < file.symbols) → ⊥) → slot_in bytes i ≡ None
  spare i none =
      elim (cases_Bool (has_entry (states_in bytes) (symbols_in bytes) (i / 16) (i % 16))) [
        | inl has ↦
            let parts = has_parts (states_in bytes) (symbols_in bytes) (i / 16) (i % 16) has in
            absurd (none (parts.0, omega (arith, file.states_read), omega (arith, file.symbols_read)))
        | inr h ↦ cond-false _ _ None h
      ]

  -- The slot of a state and a symbol.
  taken : (q s : ℕ) → 1 ≤ q → q ≤ file.states → s < file.symbols → slot_in bytes (16 * q + s) ≡ Some (entry_in bytes (place q s))
  taken q s some state symbol =
      let has : has_entry file.states file.symbols q s ≡ true = grind (arith, nat_tests) in
      subst (λ n. slot_in bytes (16 * q + s) ≡ Some (entry_in bytes ((q - 1) * n + s))) (sym file.symbols_read)
      (slot_of bytes q s (rw (← file.states_read, ← file.symbols_read) has))

  all_empty : (i : ℕ) → get_or (replicate {A = Option Entry} 256 None) i None ≡ None
  all_empty i =
      elim (cases_lt i 256) [
        | inl h ↦ get_or-replicate 256 i None None h
        | inr h ↦ get_or_past (replicate 256 None) i None h
      ]

  pub filled_none : FilledTo (replicate 256 None) 1 0
  filled_none =
      let none : place 1 0 ≡ 0 = omega arith in
      record {
        whole = refl;
        asked = ap (ask_each (entry_questions bytes)) none;
        before = λ i h. all_empty i ∙ sym (spare i (λ has. absurd (omega arith)));
        after = λ i h. all_empty i;
      }

  module _ (table : List (Option Entry)) (q s : ℕ) (filled : FilledTo table q s) (some : 1 ≤ q) (state : q ≤ file.states) where
    pub filled_more : (e : Entry) → s < file.symbols → entry_questions bytes (place q s) ≡ None → e ≡ entry_in bytes (place q s)
        → FilledTo (set table (16 * q + s) (Some e)) q (s + 1)
    filled_more e symbol good is =
        let slot = 16 * q + s in
        let whole = filled.whole in
        let sized = file.sized in
        let more : place q (s + 1) ≡ place q s + 1 = omega arith in
        record {
          whole = length-set table slot (Some e) ∙ whole;
          asked = ap (ask_each (entry_questions bytes)) more ∙ asked_more (entry_questions bytes) (place q s) filled.asked good;
          before = λ i h.
              elim (cases_eq i slot) [
                | inl here ↦
                    get_or-set_at table slot i (Some e) None here (omega arith) ∙ ap (λ x. Some x) is ∙ sym (taken q s some state symbol)
                    ∙ ap (slot_in bytes) (sym here)
                | inr away ↦ get_or-set_other table slot i (Some e) None away ∙ filled.before i (omega arith)
              ];
          after = λ i h. get_or-set_other table slot i (Some e) None (omega arith) ∙ filled.after i (omega arith);
        }

    -- The first entry that is out of order gives the refusal of the file.
    pub filled_first : s < file.symbols → (r : Refusal) → entry_questions bytes (place q s) ≡ Some r → machine_questions bytes ≡ Some r
    filled_first symbol r bad =
        let all = states_in bytes * symbols_in bytes in
        let within : place q s < all =
        rw (← file.states_read, ← file.symbols_read)
        (omega (arith, mul-add-lt (q - 1) file.symbols s file.states (omega arith) symbol)) in
        ap (λ o. option_or o (ask_each (entry_questions bytes) all)) (none_is _ file.header)
        ∙ asked_first (entry_questions bytes) all (place q s) r filled.asked bad within

    -- A slot that is filled, or that no state and symbol have.
    rest : (i : ℕ) → (16 * q + s ≤ i → (1 ≤ i / 16) × (i / 16 ≤ file.states) × (i % 16 < file.symbols) → ⊥)
        → get_or table i None ≡ slot_in bytes i
    rest i none =
        elim (cases_lt i (16 * q + s)) [
          | inl less ↦ filled.before i less
          | inr more ↦ filled.after i more ∙ sym (spare i (none more))
        ]

    module _ (last : s ≡ file.symbols) where
      -- The slots of one state end before those of the next.
      pub filled_row : FilledTo table (q + 1) 0
      filled_row =
          let sized = file.sized in
          let less : q + 1 - 1 ≡ q = omega arith in
          let next : place (q + 1) 0 ≡ place q s = rw (less, last) (omega (arith, row_end q file.symbols some)) in
          record {
            whole = filled.whole;
            asked = ap (ask_each (entry_questions bytes)) next ∙ filled.asked;
            before = λ i h. rest i (λ more has. omega arith);
            after = λ i h. filled.after i (omega arith);
          }

      -- After the last state the file is in order, and every slot is as it says.
      pub filled_all : q ≡ file.states
          → (machine_questions bytes ≡ None) × (length table ≡ 256) × ((i : ℕ) → i < 256 → get_or table i None ≡ slot_in bytes i)
      filled_all all =
          let every : states_in bytes * symbols_in bytes ≡ place q s =
          rw (← file.states_read, ← file.symbols_read, ← all, last) (sym (row_end q file.symbols some)) in (
            ap (λ o. option_or o (ask_each (entry_questions bytes) (states_in bytes * symbols_in bytes))) (none_is _ file.header)
                ∙ ap (ask_each (entry_questions bytes)) every ∙ filled.asked,
            filled.whole,
            λ i h. rest i (λ more has. omega arith),
          )

-- What is known of the file's bytes once the table is filled.
pub record ReadFrom (file : List ℕ) (table : List (Option Entry)) (states symbols : ℕ) : Type 0 where
  pub good : machine_questions file ≡ None
  pub states_read : states ≡ states_in file
  pub symbols_read : symbols ≡ symbols_in file
  pub filled : Filled file table states symbols

pub read_from : (b : List ℕ) (file : MachineFile) (table : List (Option Entry)) → Bytes b → file.bytes.now ≡ b
    → (machine_questions file.bytes.now ≡ None) × (length table ≡ 256) × ((i : ℕ) → i < 256 → get_or table i None ≡ slot_in file.bytes.now i)
    → ReadFrom b table file.states file.symbols
read_from b file table fit is read =
    subst (λ a. Bytes a → ReadFrom a table file.states file.symbols) is (λ fit. record {
      good = read.0;
      states_read = file.states_read;
      symbols_read = file.symbols_read;
      filled = filled file.bytes.now fit read.0 table read.1 read.2 _ _ file.states_read file.symbols_read;
    }) fit
