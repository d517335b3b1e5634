use Rattle.std.proofs.Common.{◌≡◌, ◌≤◌, length, Some, sym, ◌∙◌, arith, rules}
use Rattle.plate.specs.Board.{side_of, standing}
use Rattle.plate.specs.Faults.{map_fault}
use Rattle.plate.specs.Plates.{board, members}
use Rattle.reports.proofs.Reporting.{reports, whole_fits}
use Rattle.reports.proofs.Told.{map_accepted, map_long, read_accepted, report_asked, told}
use Rattle.reports.proofs.report.try_report.Goals as goal

pub returns-in_err-map : goal.returns-in_err-map
returns-in_err-map g c =
    let k = members g.C.PartialEq.eq g.C.Kind.byte_of g.C.Kind.cell_of in
    let l = c.in_ok-laid.laid in
    let b = board c.args.plate.now in
    let stands : standing b ≡ Some l = ◌∙◌ {c = Some l} (sym c.standing.ensures) c.in_ok-laid.ensures.ok_part in
    let narrow : side_of l ≤ 64 = omega (arith, c.side-side.ensures.side, c.side-side.ensures.sized.1) in
    absurd (map_accepted k b l stands narrow 4096 (map_fault c.in_err-map.field-0.0) (omega arith) c.in_err-map.ensures.outcome.0)

pub returns-in_err-reading : goal.returns-in_err-reading
returns-in_err-reading g c =
    let k = members g.C.PartialEq.eq g.C.Kind.byte_of g.C.Kind.cell_of in
    let l = c.in_ok-laid.laid in
    let b = board c.args.plate.now in
    let stands : standing b ≡ Some l = ◌∙◌ {c = Some l} (sym c.standing.ensures) c.in_ok-laid.ensures.ok_part in
    let narrow : side_of l ≤ 64 = omega (arith, c.side-side.ensures.side, c.side-side.ensures.sized.1) in
    absurd (read_accepted k b l stands narrow c.in_err-reading.field-0.0 c.in_err-reading.ensures)

pub page-requires : goal.page-requires
page-requires g c =
    let k = members g.C.PartialEq.eq g.C.Kind.byte_of g.C.Kind.cell_of in
    let l = c.in_ok-laid.laid in
    let b = board c.args.plate.now in
    let stands : standing b ≡ Some l = ◌∙◌ {c = Some l} (sym c.standing.ensures) c.in_ok-laid.ensures.ok_part in
    let narrow : side_of l ≤ 64 = omega (arith, c.side-side.ensures.side, c.side-side.ensures.sized.1) in
    let maps = c.in_ok-map.ensures.outcome.1.0 in
    let sides = c.side-side.ensures.side in
    let told = told k b l stands narrow maps c.side-side.result sides _ c.in_ok-reading.ensures in record {
      map = map_long k b l stands narrow maps c.side-side.result sides (omega arith);
      room = whole_fits k b l stands _ told c.args.out.now c.new-text.result c.new-text.ensures.len c.new-text.ensures.bytes narrow (omega arith);
    }

pub returns : goal.returns
returns g c =
    let k = members g.C.PartialEq.eq g.C.Kind.byte_of g.C.Kind.cell_of in
    let l = c.in_ok-laid.laid in
    let b = board c.args.plate.now in
    let stands : standing b ≡ Some l = ◌∙◌ {c = Some l} (sym c.standing.ensures) c.in_ok-laid.ensures.ok_part in
    let narrow : side_of l ≤ 64 = omega (arith, c.side-side.ensures.side, c.side-side.ensures.sized.1) in
    let maps = c.in_ok-map.ensures.outcome.1.0 in
    let sides = c.side-side.ensures.side in
    let told = told k b l stands narrow maps c.side-side.result sides _ c.in_ok-reading.ensures in (
      report_asked k b l stands narrow (length c.args.out.now) (omega arith),
      reports k b l stands _ told c.args.out.now c.new-text.result c.new-text.ensures.len c.new-text.ensures.bytes c.page.ensures
          c.len.ensures (search rules),
    )
