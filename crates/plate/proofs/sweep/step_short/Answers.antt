use Rattle.std.proofs.Common.{◌≡◌, ◌+◌, get_or, sym, ap, ◌∙◌, subst, arith}
use Rattle.hosts.specs.Ring.{right_of}
use Rattle.hosts.proofs.Rings.{right_below}
use Rattle.plate.specs.Sweep.{Steps, Swept}
use Rattle.plate.proofs.Rings.{right_more}
use Rattle.plate.proofs.ShortRings.{left_after}
use Rattle.plate.proofs.Sweeps.{apart_out, swept_more, swept_none, three}
use Rattle.plate.proofs.sweep.step_short.Goals as goal

pub cell_at-next-requires : goal.cell_at-next-requires
cell_at-next-requires g c = omega (arith, c.right.ensures, right_below c.args.n c.loop-i.i c.loop-i-test.true)

pub loop-i-init : goal.loop-i-init
loop-i-init g c = (
  swept_none c.args.to _ c.args.cells.now,
  λ d. c.cell_at-left.ensures d,
  λ some d. c.cell_at-own.ensures d ∙ ap (λ m. get_or c.args.cells.now m d) (let e : c.args.from ≡ c.args.from + 0 = omega arith in e),
)

pub loop-i-preserved : goal.loop-i-preserved
loop-i-preserved g c =
    let n = c.args.n in
    let to = c.args.to in
    let from = c.args.from in
    let host = g.H.Host.meaning c.args.host.now in
    let i = c.loop-i.i in
    let old = c.args.cells.now in
    let mid = c.loop-i.cells in
    let below = c.loop-i-test.true in
    let swept = c.loop-i.invariant.0 in
    let next : (d : _) → c.cell_at-next.result ≡ get_or old (from + right_of n i) d =
    λ d. c.cell_at-next.ensures d ∙ ap (λ m. get_or mid (from + m) d) c.right.ensures
    ∙ swept.outside (from + right_of n i) d (apart_out to from n c.requires.apart (right_of n i) i (right_below n i below) (omega arith)) in (
      subst (λ ys. Swept to (i + 1) (Steps host from n old) old ys) (sym c.put.ensures)
          (swept_more to i (Steps host from n old) old mid c.answer.result swept (omega arith)
          (λ d. c.answer.ensures ∙ three host (c.loop-i.invariant.1 d) (c.loop-i.invariant.2 below d) (next d))),
      λ d. c.loop-i.invariant.2 below d ∙ ap (λ m. get_or old (from + m) d) (sym (left_after n i)),
      λ more d. next d ∙ ap (λ m. get_or old (from + m) d) (right_more n i more),
    )

pub returns : goal.returns
returns g c =
    let last : c.loop-i.i ≡ c.args.n = omega arith in
    subst (λ m. Swept c.args.to m (Steps (g.H.Host.meaning c.args.host.now) c.args.from c.args.n c.args.cells.now) c.args.cells.now c.loop-i.cells) last
    c.loop-i.invariant.0
