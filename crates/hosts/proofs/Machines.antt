-- A machine is its numbers of states and symbols and its entries.
use mathlib.Core.HLevel.{is_prop→PathP}
use Rattle.std.proofs.Common.{◌≡◌, ℕ, ◌+◌, ◌*◌, ◌/◌, ◌%◌, ◌<◌, List, length, get_or, None, sym, ap, ◌∙◌, arith}
use Rattle.std.proofs.Props.{props}
use Rattle.std.proofs.lemmas.List.{ext_get_or, get_or_default}
use Rattle.std.proofs.lemmas.Bool.{cond_both}
use Rattle.std.specs.Option.{unwrap_or}
use Rattle.hosts.specs.declared.machine.Machine.{Machine}
use Rattle.hosts.specs.declared.machine.deed.Deed.{Deed}
use Rattle.hosts.specs.Deed.{deed_at, Done}
use Rattle.hosts.specs.MachineFile.{slot_in, MachineIn, OneMachineEach}
use Rattle.hosts.specs.Table.{Sizes, has_entry, blank, slot, Used, Unused}
use Rattle.hosts.proofs.Questions.{none_is, some_is}

-- A deed that is there, read with whatever stands for one past the end.
done_read : (m : Machine) (i : ℕ) (d : Deed) → i < 256 → get_or m.deeds i d ≡ deed_at m.table i
done_read m i d h = get_or_default m.deeds i d (deed_at m.table i) (omega (arith, m.told)) ∙ m.done i

-- Machines of the same table have the same deeds.
deeds_equal : (m n : Machine) → m.table ≡ n.table → m.deeds ≡ n.deeds
deeds_equal m n t =
    ext_get_or (deed_at m.table 0) m.deeds n.deeds (m.told ∙ sym n.told) (λ i h.
    done_read m i _ (rw m.told at h) ∙ ap (λ table. deed_at table i) t ∙ sym (done_read n i _ (rw m.told at h)))

-- Machines of the same sizes and the same table are equal.
machines_equal : (m n : Machine) → m.states ≡ n.states → m.symbols ≡ n.symbols → m.table ≡ n.table → m ≡ n
machines_equal m n p q t = λ i. record {
  states = p i;
  symbols = q i;
  table = t i;
  deeds = deeds_equal m n t i;
  sized = is_prop→PathP (λ j. Sizes (p j) (q j)) (λ j. Prim.hlevel props) m.sized n.sized i;
  whole = is_prop→PathP (λ j. length (t j) ≡ 256) (λ j. Prim.hlevel props) m.whole n.whole i;
  used =
      is_prop→PathP (λ j. (s : ℕ) → Used (p j) (q j) (t j) s) (λ j. Prim.hlevel props)
      m.used n.used i;
  unused =
      is_prop→PathP (λ j. (s : ℕ) → Unused (p j) (q j) (t j) s)
      (λ j. Prim.hlevel props) m.unused n.unused i;
  told = is_prop→PathP (λ j. length (deeds_equal m n t j) ≡ 256) (λ j. Prim.hlevel props) m.told n.told i;
  done =
      is_prop→PathP (λ j. (s : ℕ) → Done (t j) (deeds_equal m n t j) s)
      (λ j. Prim.hlevel props) m.done n.done i;
}

module _ (file : List ℕ) (m : Machine) (is : MachineIn file m) where
  -- The file says what each slot holds.
  slot_is : (i : ℕ) → slot m.table i ≡ slot_in file i
  slot_is i =
      let place : i ≡ 16 * (i / 16) + i % 16 = omega arith in
      rw (← is.states, ← is.symbols)
      (cond_both (has_entry m.states m.symbols (i / 16) (i % 16)) _ None (λ o. slot m.table i ≡ o)
      (λ h. some_is _ blank _ (m.used i h).0 (ap (λ k. unwrap_or (slot m.table k) blank) place ∙ is.entries (i / 16) (i % 16) h))
      (λ h. none_is _ (m.unused i h)))

pub one_machine_each : OneMachineEach
one_machine_each file m n is too =
    machines_equal m n (is.states ∙ sym too.states) (is.symbols ∙ sym too.symbols)
    (ext_get_or None m.table n.table (m.whole ∙ sym n.whole) (λ i _. slot_is file m is i ∙ sym (slot_is file n too i)))
