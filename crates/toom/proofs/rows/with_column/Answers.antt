use Rattle.std.proofs.Common.{◌≡◌, ◌-◌, ◌*◌, ◌%◌, ◌^◌, ◌≤◌, ◌||◌, eqb, sym, ap, ◌∙◌, subst, mod-eq_of_lt, arith}
use mathlib.Core.Bool.{and-true}
use Rattle.toom.specs.Rows.{column, Narrow}
use Rattle.toom.proofs.Columns.{column_or, narrow_or, column_one, narrow_one, one_below}
use Rattle.toom.proofs.rows.with_column.Goals as goal

pub returns : goal.returns
returns c =
    let side = c.args.side in
    let row = c.args.row in
    let at = c.args.at in
    let wide : side ≤ 64 = omega arith in
    let mark : 1 * 2 ^ (63 - at) % 2 ^ 64 ≡ 1 * 2 ^ (63 - at) = mod-eq_of_lt (one_below 1 (63 - at) 64 (omega arith) (omega arith)) in
    record {
      narrow =
          narrow_or side row _ c.requires.row
          (subst (λ w. Narrow side w) (sym mark) (narrow_one side 1 at wide (omega arith) c.requires.at));
      columns = λ k h.
          column_or row _ k
          ∙ ap (λ b. column row k || b) (ap (λ w. column w k) mark ∙ column_one 1 at k (omega arith) (omega arith) (omega arith) ∙ and-true (eqb k at));
    }
