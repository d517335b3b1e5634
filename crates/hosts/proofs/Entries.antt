-- Entries are equal where their parts are.
use Rattle.std.proofs.Common.{◌≡◌, ◌<◌}
use mathlib.Core.HLevel.{is_prop→PathP}
use Rattle.std.proofs.Props.{props}
use Rattle.hosts.specs.declared.entry.Entry.{Entry}

pub entries_equal : (x y : Entry) → x.next ≡ y.next → x.symbol ≡ y.symbol → x.motion ≡ y.motion → x ≡ y
entries_equal x y p q m = λ i. record {
  next = p i;
  symbol = q i;
  motion = m i;
  next_fits = is_prop→PathP (λ j. p j < 16) (λ j. Prim.hlevel props) x.next_fits y.next_fits i;
  symbol_fits = is_prop→PathP (λ j. q j < 16) (λ j. Prim.hlevel props) x.symbol_fits y.symbol_fits i;
}
