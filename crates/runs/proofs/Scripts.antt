-- Where the reader of a script stands among the records.
use Rattle.std.proofs.Common.{◌≡◌, ℕ, ◌+◌, ◌<◌, ◌≤◌, List, Some, None, ap, ◌∙◌, subst, arith}
use Rattle.std.specs.declared.iter.Enumerate.{Enumerate}
use Rattle.runs.specs.declared.record.Record.{Record}
use Rattle.runs.specs.declared.script.Script.{Script}
use Rattle.runs.specs.Script.{records_in, record_in, Yields}

-- It is to read the record whose index is counted.
pub record StandsIn (script : List ℕ) (e : Enumerate Script) : Type 0 where
  pub bytes : e.iter.bytes.now ≡ script
  pub index : e.iter.index ≡ e.count
  pub within : e.count ≤ records_in script

module _ (script : List ℕ) (e t : Enumerate Script) (stands : StandsIn script e) where
  pub has_record : (r : Record) → Yields e.iter (Some r) t.iter → e.count < records_in script
  has_record r y = omega (arith, subst (λ s. e.iter.index < records_in s) stands.bytes y.0, stands.index)

  pub reads_record : (r : Record) → Yields e.iter (Some r) t.iter → r ≡ record_in script e.count
  reads_record r y =
      y.1 ∙ ap (λ s. record_in s e.iter.index) stands.bytes ∙ ap (record_in script) stands.index

  pub stands_next : (r : Record) → Yields e.iter (Some r) t.iter → t.count ≡ e.count + 1 → StandsIn script t
  stands_next r y counted = record {
    bytes = ap (λ b. b.now) y.2 ∙ stands.bytes;
    index = omega (arith, y.3, stands.index, counted);
    within = omega (arith, has_record r y, counted);
  }

  pub stands_last : Yields e.iter None t.iter → e.count ≡ records_in script
  stands_last y =
      omega (arith, subst (λ s. records_in s ≤ e.iter.index) stands.bytes y.0, stands.index, stands.within)
