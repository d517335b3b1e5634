use Rattle.std.proofs.Common.{◌≡◌, Bool, true, false, ◌&&◌, ◌||◌, refl, ap, ◌∙◌, ap₂}
use mathlib.Core.Bool.{beq}
use lib.Bits.{bit_and, bit_or}
use Rattle.toom.specs.Rows.{column}
use Rattle.toom.specs.Vote.{vote_of}
use Rattle.toom.proofs.Columns.{column_and, column_or, narrow_and, narrow_or}
use Rattle.toom.proofs.rows.vote_row.Goals as goal

-- The vote of bits, by words' operations.
majority : (n e o : Bool) → ((n && e) || (o && (n || e))) ≡ vote_of beq n e o
majority true true true = refl
majority true true false = refl
majority true false true = refl
majority true false false = refl
majority false true true = refl
majority false true false = refl
majority false false true = refl
majority false false false = refl

pub returns : goal.returns
returns c =
    let side = c.args.side in
    let own = c.args.own in
    let north = c.args.north in
    let east = c.turned-east.result in
    let turned = c.turned-east.ensures in
    let n = c.requires.north in
    record {
      narrow =
          narrow_or side (bit_and north east) (bit_and own (bit_or north east)) (narrow_and side north east n turned.narrow)
          (narrow_and side own (bit_or north east) c.requires.own (narrow_or side north east n turned.narrow));
      columns = λ k h.
          column_or (bit_and north east) (bit_and own (bit_or north east)) k
          ∙ ap₂ ◌||◌ (column_and north east k) (column_and own (bit_or north east) k ∙ ap (λ b. column own k && b) (column_or north east k))
          ∙ ap (λ b. (column north k && b) || (column own k && (column north k || b))) (turned.columns k h)
          ∙ majority (column north k) _ (column own k);
    }
