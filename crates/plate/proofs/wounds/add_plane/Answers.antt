use Rattle.std.proofs.Common.{◌≡◌, ◌+◌, ◌*◌, ◌<◌, ◌≤◌, length, slice_range, refl, arith}
use Rattle.plate.proofs.WoundLooks.{MarksStay, stay_refl, stay_more, part_long, row_more}
use Rattle.plate.proofs.Grids.{block_in}
use Rattle.plate.proofs.wounds.add_plane.Goals as goal
use Rattle.plate.proofs.wounds.add_plane.Goals.{then-not-are_all+in_ok-room, else-not-are_all}

pub loop-row-preserved : goal.loop-row-preserved
loop-row-preserved g c =
    let row = c.loop-row.row in
    let side = c.args.wounds.now.side in
    let plane = c.args.plane.now in
    let cell = c.args.cell in
    let s = c.loop-row.wounds in
    let before = c.loop-row.invariant.0 in
    let looked = c.loop-row.invariant.1 in
    let same = before.side in
    let long = c.side-side.ensures.side in
    let hr : row < side = omega (arith, long, c.loop-row-test.true) in
    elim c.if-not-are_all.branch [
      | then-not-are_all+in_ok-room w ↦
          let t = w.add_row.new.wounds in
          let stay : MarksStay s t = record { side = w.add_row.ensures.side; marks = w.add_row.ensures.stay } in
          let clear = rw (long, same) at w.add_row.ensures.clear in
          rw w.wounds-is (stay_more _ s t before stay, row_more plane cell s t side row same hr stay looked clear)
      | else-not-are_all w ↦
          let fits : row * side + side ≤ length plane = omega (arith, block_in side side row hr, c.requires) in
          let wide : length (slice_range plane (row * side) (row * side + side)) ≡ side = part_long plane (row * side) side fits in
          let alike = rw long at w.if-not-are_all.ensures in
          rw w.wounds-is (before, row_more plane cell s s side row same hr (stay_refl s) looked (λ q d hq clear. alike refl q d (omega (arith, wide))))
    ]
