-- The machine of a machine file in order.
use Rattle.std.proofs.Common.{◌≡◌, ℕ, List, length, map, None, Option, refl, arith}
use Rattle.std.proofs.lemmas.List.FromFn.{length-map-range_with_len, get_or-map-range_with_len}
use Rattle.std.specs.List.{range_with_len}
use Rattle.hosts.specs.declared.entry.Entry.{Entry}
use Rattle.hosts.specs.declared.machine.Machine.{Machine}
use Rattle.hosts.specs.declared.machine.deed.Deed.{Deed}
use Rattle.hosts.specs.Deed.{deed_at}
use Rattle.hosts.specs.MachineFile.{states_in, symbols_in, slot_in, machine_questions, MachineIn, Bytes}
use Rattle.hosts.proofs.Deeds.{done_all}
use Rattle.hosts.proofs.Tables.{Filled, filled}

module _ (file : List ℕ) (bytes : Bytes file) (good : machine_questions file ≡ None) where
  abbrev table : List (Option Entry)
  table = map (slot_in file) (range_with_len 0 256)

  facts : Filled file table (states_in file) (symbols_in file)
  facts =
      filled file bytes good table (length-map-range_with_len (slot_in file) 0 256)
      (λ i h. get_or-map-range_with_len (slot_in file) 0 256 i i None h (omega arith)) _ _ refl refl

  abbrev deeds : List Deed
  deeds = map (deed_at table) (range_with_len 0 256)

  told : length deeds ≡ 256
  told = length-map-range_with_len (deed_at table) 0 256

  pub machine_there : (m : Machine) × MachineIn file m
  machine_there = (
    record {
      states = states_in file;
      symbols = symbols_in file;
      table = table;
      sized = facts.sized;
      whole = length-map-range_with_len (slot_in file) 0 256;
      used = facts.used;
      unused = facts.unused;
      deeds = deeds;
      told = told;
      done = done_all table deeds record { long = told; each = λ i h. get_or-map-range_with_len (deed_at table) 0 256 i i (deed_at table i) h (omega arith) };
    },
    record { states = refl; symbols = refl; entries = facts.entries },
  )
