use Rattle.std.proofs.Common.{sym, refl}
use Rattle.thin.proofs.Numbers.{named_more, not_numeral}
use Rattle.thin.proofs.input.number.Goals as goal

pub returns-then-not-is_ascii_digit : goal.returns-then-not-is_ascii_digit
returns-then-not-is_ascii_digit c =
    (not_numeral _ c.loop-byte.byte-index c.loop-byte-test.true (sym c.if-not-is_ascii_digit.ensures.value), refl)

pub loop-byte-preserved : goal.loop-byte-preserved
loop-byte-preserved c =
    named_more c.loop-byte.invariant c.loop-byte-test.true (sym c.if-not-is_ascii_digit.ensures.value) c.saturating_mul.ensures
    c.saturating_add-number.ensures
