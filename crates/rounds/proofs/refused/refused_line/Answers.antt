use Rattle.std.proofs.Common.{decimal}
use Rattle.reports.proofs.Texts.{appends_as, fits_front}
use Rattle.rounds.proofs.RefusedLine.{after_place, line_written, room_blank, room_place}
use Rattle.rounds.proofs.refused.refused_line.Goals as goal

pub push_decimal-requires-2 : goal.push_decimal-requires-2
push_decimal-requires-2 c =
    let r = c.args.refusal in
    let word = appends_as c.text.ensures c.push_str-3.ensures in
    fits_front c.push_str-4.new.self (decimal r.place) after_place
    (room_blank r c.requires c.push_str.ensures c.push_decimal.ensures c.push_str-2.ensures word c.push_str-4.ensures)

pub push-requires : goal.push-requires
push-requires c =
    let word = appends_as c.text.ensures c.push_str-3.ensures in
    room_place c.args.refusal c.requires c.push_str.ensures c.push_decimal.ensures c.push_str-2.ensures word c.push_str-4.ensures c.push_decimal-2.ensures

pub returns : goal.returns
returns c =
    let word = appends_as c.text.ensures c.push_str-3.ensures in
    line_written c.args.refusal c.requires c.push_str.ensures c.push_decimal.ensures c.push_str-2.ensures word c.push_str-4.ensures
    c.push_decimal-2.ensures c.push.ensures
