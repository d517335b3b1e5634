use Rattle.std.proofs.Common.{arith, rules}
use Rattle.thin.proofs.Thinnings.{early, one_more, last, thinning_pins}
use Rattle.thin.proofs.trace.thinning.Goals as goal

pub returns-in-Some : goal.returns-in-Some
returns-in-Some c =
    let torus = c.only_the_torus_counts.ensures in
    record {
      text = last torus.votes torus.marks c.loop-text.invariant c.in-Some.ending c.in-Some.ensures.cases c.in_ok-push_frame.ensures
          c.in_ok-push_ending.ensures;
      pinned = thinning_pins;
    }

pub loop-text-smaller : goal.loop-text-smaller
loop-text-smaller c =
    let torus = c.only_the_torus_counts.ensures in
    omega (arith, early torus.votes torus.marks c.loop-text.invariant c.in_default.ensures.cases)

pub loop-text-preserved : goal.loop-text-preserved
loop-text-preserved c =
    let torus = c.only_the_torus_counts.ensures in
    one_more torus.votes torus.marks c.loop-text.invariant c.vote_or_end.ensures.after c.in_default.ensures.cases c.in_ok-push_frame.ensures

pub returns-in_err-push_frame : goal.returns-in_err-push_frame
returns-in_err-push_frame c = record { text = search rules; pinned = thinning_pins }

pub returns-in_err-push_ending : goal.returns-in_err-push_ending
returns-in_err-push_ending c = record { text = search rules; pinned = thinning_pins }
