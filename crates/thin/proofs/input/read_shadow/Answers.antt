use Rattle.std.proofs.Common.{◌≡◌, true, Ok, Err, Result, is_ok, ◌+◌, length, sym, ap, subst, arith, inl}
use Rattle.std.specs.Result.{MatchResult}
use Rattle.std.proofs.lemmas.Bool.{false≢true}
use Rattle.thin.proofs.Pieces.{few_lines}
use Rattle.thin.specs.Lines.{lines_left}
use Rattle.thin.specs.Words.{lines}
use Rattle.thin.proofs.Readings.{ReadTo, place_read}
use Rattle.thin.proofs.input.read_shadow.Goals as goal

accepted : {X E : Type 0} (A : Type 0) (Q : E → Type 0) (r : Result X E) → MatchResult r (λ _. A) Q → true ≡ is_ok r → A
accepted A Q (Ok x) m h = m
accepted A Q (Err e) m h = absurd (false≢true (sym h))

pub loop-index-init-derived : goal.loop-index-init-derived
loop-index-init-derived c =
    let all = few_lines c.args.text.now in
    let rest = ap length c.cut_line.ensures in
    let source = ap (λ s. length (lines_left s.iter)) c.into_iter-index-iterator.ensures.into_iter_gives in
    let count = ap (λ s. s.count) c.into_iter-index-iterator.ensures.into_iter_gives in
    let from = ap (λ s. length (lines_left s)) c.enumerate-index-items.ensures.source in
    ((tt, tt, inl (omega (arith, all, rest, source, count, from, c.enumerate-index-items.ensures.count, c.well_formed))), tt)

pub overflow_add-line : goal.overflow_add-line
overflow_add-line c =
    let steps = c.in-Some.ensures.steps in
    omega (arith, few_lines c.args.text.now, c.loop-index.invariant.count, ap length steps.0, steps.1, c.well_formed)

pub loop-index-preserved : goal.loop-index-preserved
loop-index-preserved c =
    let marked = accepted _ _ c.mark_place.result c.mark_place.ensures c.in_ok-map_err.ensures.variant in
    let steps = c.in-Some.ensures.steps in
    subst (λ n. ReadTo (lines c.args.text.now) c.mark_place.new.shadow (n + 1) (lines_left c.next.new.self.iter)) (sym steps.2)
    (place_read c.loop-index.invariant c.mark_place.new.shadow steps.0 marked.0 marked.1)
