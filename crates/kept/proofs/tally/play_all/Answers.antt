use Rattle.std.proofs.Common.{◌≡◌, ◌+◌, cond, sym, ap, ◌∙◌, subst, arith}
use Rattle.kept.specs.declared.tally.Tally.{Tally}
use Rattle.kept.specs.KeptFile.{pair_of}
use Rattle.kept.proofs.Counting.{Counted, none_counted, one_more, round_read}
use Rattle.kept.proofs.tally.play_all.Goals as goal
use Rattle.kept.proofs.tally.play_all.Goals.{then-agrees, else-agrees+in_ok-writeln}

pub loop-round-init : goal.loop-round-init
loop-round-init g c =
    let all = ap (λ s. s.rest.now) c.into_iter-round-iterator.ensures.into_iter_gives ∙ c.new-round-items.ensures.rest in
    subst (λ l. Counted c.args.packed.now l record { rounds = 0; agreeing = 0 }) (sym all) (none_counted c.args.packed.now)

pub loop-round-preserved : goal.loop-round-preserved
loop-round-preserved g c =
    let before = c.loop-round.round-iterator.rest.now in
    let after = c.next.new.self.rest.now in
    let round = c.in_ok-round.field-0 in
    let first = round_read before after c.in-Some.round round c.in_ok-round.was c.in-Some.ensures.steps.1 in
    let agreeing : c.if-agrees.tally.agreeing ≡ c.loop-round.tally.agreeing + cond c.agrees.result 1 0 = elim c.if-agrees.branch [
      | then-agrees w ↦ rw w.if-agrees.true (ap (λ t. t.agreeing) w.tally-is)
      | else-agrees+in_ok-writeln w ↦ rw w.if-agrees.false (let same = ap (λ (t : Tally). t.agreeing) w.tally-is in omega (arith, same))
    ] in
    let rounds : c.if-agrees.tally.rounds ≡ c.loop-round.tally.rounds = elim c.if-agrees.branch [
      | then-agrees w ↦ ap (λ t. t.rounds) w.tally-is
      | else-agrees+in_ok-writeln w ↦ ap (λ t. t.rounds) w.tally-is
    ] in
    one_more c.args.packed.now before c.loop-round.tally c.loop-round.invariant (pair_of round) after c.agrees.result _ first c.agrees.ensures
    (ap (λ n. n + 1) rounds) agreeing
