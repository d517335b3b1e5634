-- The file of a machine, byte by byte.
use Rattle.std.proofs.Common.{◌≡◌, ℕ, zero, suc, ◌+◌, ◌-◌, ◌*◌, ◌/◌, ◌%◌, ◌<◌, List, length, get_or, sym, ap, ◌∙◌, ap₂, inl, inr, arith}
use Rattle.std.proofs.lemmas.List.FromFn.{length-map-range_with_len, get_or-map-range_with_len, fill_by_all}
use Rattle.std.proofs.lemmas.Bool.{cases_eq}
use Rattle.hosts.specs.declared.machine.Machine.{Machine}
use Rattle.hosts.specs.MachineFile.{high_byte, low_byte, entry_byte, file_byte, file_of}
use Rattle.hosts.proofs.FileEntries.{nth_entry}

-- The bytes are those of the machine's sizes and entries.
pub record Coded (file : List ℕ) (m : Machine) : Type 0 where
  pub long : length file ≡ 1 + 2 * (m.states * m.symbols)
  pub first : get_or file 0 0 ≡ 16 * m.states + (m.symbols - 1)
  pub high : (k : ℕ) → k < m.states * m.symbols → high_byte file k ≡ entry_byte (nth_entry m k) 0
  pub low : (k : ℕ) → k < m.states * m.symbols → low_byte file k ≡ entry_byte (nth_entry m k) 1

module _ (m : Machine) where
  byte_at : (i : ℕ) → i < 1 + 2 * (m.states * m.symbols) → get_or (file_of m) i 0 ≡ file_byte m i
  byte_at i h = get_or-map-range_with_len (file_byte m) 0 _ i i 0 h (omega arith)

  -- Byte b of entry k is byte 2 × k + b after the first.
  entry_byte_at : (k b i : ℕ) → k < m.states * m.symbols → b < 2 → i ≡ suc (2 * k + b)
      → get_or (file_of m) i 0 ≡ entry_byte (nth_entry m k) b
  entry_byte_at k b i k< b< place =
      byte_at i (omega arith) ∙ ap (file_byte m) place ∙ ap₂ (λ a c. entry_byte (nth_entry m a) c) (omega arith) (omega arith)

  pub file_coded : Coded (file_of m) m
  file_coded = record {
    long = length-map-range_with_len (file_byte m) 0 _;
    first = byte_at 0 (omega arith);
    high = λ k h. entry_byte_at k 0 (1 + 2 * k) h (omega arith) (omega arith);
    low = λ k h. entry_byte_at k 1 (2 + 2 * k) h (omega arith) (omega arith);
  }

-- No other file has these bytes.
module _ (file : List ℕ) (m : Machine) (coded : Coded file m) where
  byte_is : (i : ℕ) → i < 1 + 2 * (m.states * m.symbols) → get_or file i 0 ≡ file_byte m i
  byte_is zero h = coded.first
  byte_is (suc j) h =
      let k = j / 2 in
      elim (cases_eq (j % 2) 0) [
        | inl even ↦
            let place : suc j ≡ 1 + 2 * k = omega arith in
            ap (λ i. get_or file i 0) place ∙ coded.high k (omega arith) ∙ ap (entry_byte (nth_entry m k)) (sym even)
        | inr odd ↦
            let place : suc j ≡ 2 + 2 * k = omega arith in
            let one : 1 ≡ j % 2 = omega arith in
            ap (λ i. get_or file i 0) place ∙ coded.low k (omega arith) ∙ ap (entry_byte (nth_entry m k)) one
      ]

  pub coded_is : file ≡ file_of m
  coded_is = fill_by_all (file_byte m) file _ 0 coded.long byte_is
