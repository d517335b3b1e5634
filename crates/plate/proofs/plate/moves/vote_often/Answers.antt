use Rattle.std.proofs.Common.{◌≡◌, ◌+◌, ◌-◌, sym, subst, add-one, arith}
use Rattle.plate.specs.BeatsCall.{VotedBy}
use Rattle.plate.proofs.BeatsLead.{votes_stay}
use Rattle.plate.proofs.plate.moves.vote_often.Goals as goal

pub loop-preserved : goal.loop-preserved
loop-preserved c =
    subst (λ m. VotedBy m c.args.shadow.now c.vote.new.self) (sym (add-one c.loop.counter)) (c.loop.shadow, c.loop.invariant, c.vote.ensures)

pub loop-2-init : goal.loop-2-init
loop-2-init c =
    let all : c.loop.counter ≡ c.min-first.result = omega arith in
    subst (λ m. VotedBy m c.args.shadow.now c.loop.shadow) all c.loop.invariant

pub returns-then-eq : goal.returns-then-eq
returns-then-eq c =
    let sum : c.loop-2.counter + (c.args.times - c.loop-2.counter) ≡ c.args.times = omega arith in
    let same = c.eq.ensures.decides.0 c.if-eq.true in
    subst (λ m. VotedBy m c.args.shadow.now c.vote-in-loop-2.new.self) sum
    (votes_stay c.loop-2.shadow c.vote-in-loop-2.new.self c.vote-in-loop-2.ensures same (c.args.times - c.loop-2.counter) c.loop-2.counter c.args.shadow.now c.loop-2.invariant)

pub loop-2-preserved : goal.loop-2-preserved
loop-2-preserved c =
    subst (λ m. VotedBy m c.args.shadow.now c.vote-in-loop-2.new.self) (sym (add-one c.loop-2.counter))
    (c.loop-2.shadow, c.loop-2.invariant, c.vote-in-loop-2.ensures)

pub returns : goal.returns
returns c =
    let all : c.loop-2.counter ≡ c.args.times = omega (arith, c.min-first.ensures) in
    subst (λ m. VotedBy m c.args.shadow.now c.loop-2.shadow) all c.loop-2.invariant
