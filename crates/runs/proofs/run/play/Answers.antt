use Rattle.std.proofs.Common.{refl, ◌∙◌, rules}
use Rattle.plate.specs.Plates.{board, members}
use Rattle.runs.proofs.Playing.{all_played, beats_unrefused, done_upto, number_from, rest_unrefused, strike_unrefused, underway_first, underway_next}
use Rattle.runs.proofs.run.play.Goals as goal

pub loop-index-init : goal.loop-index-init
loop-index-init g c = record {
  underway =
      underway_first (members g.C.PartialEq.eq g.C.Kind.byte_of g.C.Kind.cell_of) (g.H.Host.meaning c.args.host.now) c.args.script.now c.args.beats
      (board c.args.plate.now) c.into_iter-index-iterator.result c.requires (search rules) (search rules) (search rules);
  same = refl;
}

pub overflow_sub-record : goal.overflow_sub-record
overflow_sub-record g c =
    number_from c.loop-index.invariant.underway c.next.new.self c.in-Some.index c.in-Some.record c.in-Some.ensures.steps

pub loop-index-preserved : goal.loop-index-preserved
loop-index-preserved g c = record {
  underway =
      underway_next c.loop-index.invariant.underway c.next.new.self c.in-Some.index c.in-Some.record c.in-Some.ensures.steps
      (board c.beat_on.new.plate) (board c.strike.new.self) c.in_ok-beat_on.ensures.outcome
      c.strike.result c.strike.ensures.outcome;
  same = c.strike.ensures.same ∙ c.beat_on.ensures.same ∙ c.loop-index.invariant.same;
}

pub returns-in_err-map_err-clause-outcome : goal.returns-in_err-map_err-clause-outcome
returns-in_err-map_err-clause-outcome g c =
    absurd
    (strike_unrefused c.loop-index.invariant.underway c.next.new.self c.in-Some.index c.in-Some.record c.in-Some.ensures.steps
    (board c.beat_on.new.plate) (board c.strike.new.self) c.in_ok-beat_on.ensures.outcome
    c.strike.result c.strike.ensures.outcome c.in_err-map_err.ensures.variant)

pub overflow_sub-beats : goal.overflow_sub-beats
overflow_sub-beats g c = done_upto c.loop-index.invariant.underway

pub returns-in_err-beat_on-clause-outcome : goal.returns-in_err-beat_on-clause-outcome
returns-in_err-beat_on-clause-outcome g c =
    absurd
    (beats_unrefused c.loop-index.invariant.underway c.next.new.self c.in-Some.index c.in-Some.record c.in-Some.ensures.steps _
    c.in_err-beat_on.ensures.outcome)

pub returns-in_err-beats-clause-outcome : goal.returns-in_err-beats-clause-outcome
returns-in_err-beats-clause-outcome g c = absurd (rest_unrefused c.loop-index.invariant.underway _ c.in_err-beats.ensures.outcome.0)

pub returns-clause-outcome : goal.returns-clause-outcome
returns-clause-outcome g c =
    all_played c.loop-index.invariant.underway c.next.new.self c.in-None.ensures.steps.0 (board c.beats.new.self)
    c.in_ok-beats.ensures.outcome.1
