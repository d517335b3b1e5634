use Rattle.std.proofs.Common.{◌≡◌, ℕ, ◌<◌, ◌≤◌, false, refl, ap, subst, arith}
use Rattle.toom.specs.Shadow.{marks}
use Rattle.toom.proofs.Stretching.{looks_first, looks_on, looks_past, stretch_read, fewer_left}
use Rattle.toom.proofs.shadow.stretches.StretchesIterator.next.Goals as goal

pub loop-row-init : goal.loop-row-init
loop-row-init c =
    let at = c.args.self.now in
    record { same = refl; looks = looks_first at.shadow.now at.row at.column }

pub returns-in-Some-clause-steps : goal.returns-in-Some-clause-steps
returns-in-Some-clause-steps c =
    let same = c.loop-row.invariant.same in
    let found = stretch_read c.args.self.now c.loop-row.self same c.loop-row.row c.loop-row.column c.loop-row.invariant.looks c.in-Some.span c.in-Some.ensures c.loop-row-test.true in
    (found, ap (λ t. t.shadow) same, refl, refl)

pub returns-in-Some-clause-goes : goal.returns-in-Some-clause-goes
returns-in-Some-clause-goes c =
    let at = c.args.self.now in
    let same = c.loop-row.invariant.same in
    let found = stretch_read at c.loop-row.self same c.loop-row.row c.loop-row.column c.loop-row.invariant.looks c.in-Some.span c.in-Some.ensures c.loop-row-test.true in
    record {
      on = λ _. (tt, tt, omega (arith, ap (λ t. t.shadow.now.side) same, fewer_left at.shadow.now at.row at.column _ found));
      keeps = tt;
      rests = λ _. tt;
    }

pub loop-row-preserved : goal.loop-row-preserved
loop-row-preserved c =
    let at = c.args.self.now in
    let row = c.loop-row.row in
    let column = c.loop-row.column in
    record {
      same = c.loop-row.invariant.same;
      looks =
          looks_on at.shadow.now at.row at.column row column c.loop-row.invariant.looks
          (subst (λ t. (k : ℕ) → column ≤ k → k < 64 → marks t.shadow.now row k ≡ false) c.loop-row.invariant.same
          c.in_default.ensures);
    }

pub returns-clause-steps : goal.returns-clause-steps
returns-clause-steps c =
    let at = c.args.self.now in (
      looks_past at.shadow.now at.row at.column c.loop-row.row c.loop-row.column c.loop-row.invariant.looks c.loop-row-test.false,
      ap (λ t. t.shadow) c.loop-row.invariant.same,
      omega arith,
    )
