use Rattle.round.proofs.Buffers.new.Goals as goal

pub invariant_of-result : goal.invariant_of-result
invariant_of-result c = record { input_bytes = c.in_ok-vec.ensures.len; out_bytes = c.in_ok-vec-2.ensures.len }
