use Rattle.std.proofs.Common.{◌≡◌, ◌+◌, ◌-◌, ◌*◌, add-mul, mul-le-mul_right, subst, arith}
use Rattle.plate.specs.Beside.{RepeatsLine}
use Rattle.plate.specs.Sweep.{Swept}
use Rattle.plate.proofs.RepeatedLine.{repeats_more, repeats_once}
use Rattle.plate.proofs.Sweeps.{swept_copied}
use Rattle.plate.proofs.resting.repeat_line.Goals as goal

pub loop-done-init : goal.loop-done-init
loop-done-init g c =
    let n = c.args.shape.planes in
    let copies = c.copies-line.ensures in
    let moved =
    swept_copied c.args.to (2 * c.copies-line.result) (2 * c.copies-line.result + n - 2 * c.copies-line.result) n
    c.args.cells.now c.copy_within.new.self (omega arith) c.copy_within.ensures.by_index in (
      omega arith,
      c.requires.some,
      repeats_once n c.args.shape.side c.args.to c.args.cells.now c.copy_within.new.self
          (rw copies at moved),
    )

pub copy_within-requires-in-loop-done-clause-dest_in_bounds :
    goal.copy_within-requires-in-loop-done-clause-dest_in_bounds
copy_within-requires-in-loop-done-clause-dest_in_bounds g c =
    let n = c.args.shape.planes in
    let done = c.loop-done.done in
    let more = c.min-more.result in
    omega (
      arith,
      c.min-more.ensures,
      add-mul done more n,
      mul-le-mul_right {m = done + more} {n = c.args.count} n (omega (arith, c.min-more.ensures)),
    )

pub loop-done-preserved : goal.loop-done-preserved
loop-done-preserved g c =
    let n = c.args.shape.planes in
    let done = c.loop-done.done in
    let more = c.min-more.result in (
      omega arith,
      omega (arith, c.min-more.ensures),
      repeats_more n c.args.shape.side c.args.to c.args.cells.now done more c.loop-done.cells c.copy_within-in-loop-done.new.self
          (omega (arith, c.min-more.ensures)) c.loop-done.invariant.2
          (swept_copied (c.args.to + done * n) c.args.to (c.args.to + more * n - c.args.to) (more * n)
          c.loop-done.cells c.copy_within-in-loop-done.new.self (omega arith) c.copy_within-in-loop-done.ensures.by_index),
    )

pub returns : goal.returns
returns g c =
    let n = c.args.shape.planes in
    let last : c.loop-done.done ≡ c.args.count = omega (arith, c.loop-done.invariant.1) in
    subst (λ m. Swept c.args.to (m * n) (RepeatsLine n c.args.shape.side c.args.cells.now) c.args.cells.now c.loop-done.cells) last c.loop-done.invariant.2
