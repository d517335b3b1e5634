use Rattle.std.proofs.Common.{◌*◌, sym, ◌∙◌, ap₂}
use Rattle.thin.proofs.Thinnings.{moved, goes_on, unlike}
use Rattle.thin.proofs.trace.vote_or_end.Goals as goal

pub returns-then-votes-side : goal.returns-then-votes-side
returns-then-votes-side c = record {
  after = c.vote.ensures;
  cases = (
    c.if-votes-side.true ∙ ap₂ ◌*◌ c.side.ensures.side c.side-else-eq.ensures.side,
    λ none. c.if-count-eq0.false (c.count.ensures ∙ none),
    moved c.args.shadow.now c.vote.new.self c.marks_pin.ensures.pin c.vote.ensures (unlike c.eq.ensures.decides c.if-eq.false),
  );
}

pub returns-else-votes-side : goal.returns-else-votes-side
returns-else-votes-side c = record {
  after = c.vote.ensures;
  cases = goes_on
      (λ none. c.if-count-eq0.false (c.count.ensures ∙ none))
      (moved c.args.shadow.now c.vote.new.self c.marks_pin.ensures.pin c.vote.ensures (unlike c.eq.ensures.decides c.if-eq.false))
      (λ e. c.if-votes-side.false (e ∙ sym (ap₂ ◌*◌ c.side.ensures.side c.side-else-eq.ensures.side)));
}
