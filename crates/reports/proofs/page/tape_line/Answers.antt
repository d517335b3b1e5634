use Rattle.std.proofs.Common.{codes, ap, arith}
use Rattle.std.proofs.lemmas.List.{take_all}
use Rattle.std.specs.List.{flat_map}
use Rattle.reports.specs.Hex.{pair}
use Rattle.reports.proofs.Lines.{rest_fits, line_written}
use Rattle.reports.proofs.Pieces.{element_fits, element_more}
use Rattle.reports.proofs.Texts.{appends_as}
use Rattle.reports.proofs.page.tape_line.Goals as goal

pub push_pair-requires : goal.push_pair-requires
push_pair-requires c =
    let tape = c.args.tape.now in
    element_fits pair tape c.push_str.new.self (rest_fits c.args.text.now (codes "tape ") (flat_map pair tape) c.requires c.push_str.ensures)
    c.loop-byte.byte-index (omega arith) c.loop-byte.invariant

pub loop-byte-preserved : goal.loop-byte-preserved
loop-byte-preserved c =
    let tape = c.args.tape.now in
    element_more pair tape c.push_str.new.self (rest_fits c.args.text.now (codes "tape ") (flat_map pair tape) c.requires c.push_str.ensures)
    c.loop-byte.byte-index (omega arith) c.loop-byte.invariant c.push_pair.ensures

pub returns : goal.returns
returns c =
    let tape = c.args.tape.now in
    line_written c.args.text.now (codes "tape ") (flat_map pair tape) c.requires c.push_str.ensures
    (appends_as (ap (flat_map pair) (take_all c.loop-byte.byte-index tape (omega arith))) c.loop-byte.invariant) c.end_line.ensures
