use Rattle.std.proofs.Common.{length, take, drop, ap, ◌∙◌}
use Rattle.round.proofs.Playing.{reply_put, written_back}
use Rattle.round.proofs.play_from.Goals as goal

pub returns : goal.returns
returns g c =
    let buffers = c.args.buffers.now in
    let len = c.in_ok-len.len in
    let read = c.fill.new.buffer in
    let file = take len c.deref.result.now in
    let left = c.deref_mut-2.result.now in
    let out = c.answer.new.out in
    let shown = c.deref-2.result.now in
    let filled = c.deref.ensures.value ∙ written_back buffers.input.len read (drop (length read) buffers.input.items) (c.fill.ensures.long ∙ c.deref_mut.ensures.len) in
    let answered = c.deref-2.ensures.value ∙ written_back buffers.out.len out (drop (length out) buffers.out.items) (c.answer.auto.out ∙ c.deref_mut-2.ensures.len) in
    record {
      replies =
          reply_put (g.W.Write.contents c.args.sink.now) (g.W.Write.contents c.write_all.new.self) (length c.deref_mut.result.now) len read file
          c.in_ok-written.written left out shown (g.R.Read.remaining c.args.source.now) (c.deref_mut.ensures.len ∙ buffers.input_bytes)
          c.in_ok-len.ensures.front (ap (take len) filled)
          (c.deref_mut-2.ensures.len ∙ buffers.out_bytes) c.in_ok-written.ensures.answered
          c.in_ok-written.ensures.within answered c.in_ok-write_all.ensures.bytes;
    }
