use Rattle.std.proofs.Common.{◌+◌, is_some, sym, ap, subst, add-mul, one-mul, arith}
use Rattle.std.proofs.lemmas.Bool.{both_ways}
use Rattle.plate.specs.Painted.{Painted, BlocksPainted}
use Rattle.plate.proofs.Paints.{blocks_more}
use Rattle.plate.proofs.laying.paint_blocks.Goals as goal
use Rattle.plate.proofs.laying.paint_blocks.Goals.{in-Some, in_default}

pub loop-byte-preserved : goal.loop-byte-preserved
loop-byte-preserved g c =
    let i = c.loop-byte.byte-index in
    let w = c.args.w in (
      omega (arith, add-mul i 1 w, one-mul w),
      elim c.match-from_byte.branch [
        | in-Some s ↦
            let block = subst (λ at. Painted at w s.in-Some.cell c.loop-byte.cells s.paint.new.cells) c.loop-byte.invariant.0 s.paint.ensures in
            subst (λ ys. BlocksPainted g.C.Kind.cell_of c.args.from (i + 1) w c.args.tape.now c.args.cells.now ys) (sym s.cells-is)
            (blocks_more g.C.Kind.cell_of c.args.from i w c.args.tape.now s.in-Some.cell c.args.cells.now c.loop-byte.cells
            s.paint.new.cells c.loop-byte.invariant.1 (sym s.in-Some.ensures) block)
        | in_default s ↦
            absurd {A = BlocksPainted g.C.Kind.cell_of c.args.from (c.loop-byte.byte-index + 1) c.args.w c.args.tape.now c.args.cells.now c.match-from_byte.cells}
            (both_ways _ (ap is_some (sym s.in_default.ensures)) (c.requires.named i c.loop-byte-test.true))
      ],
    )
