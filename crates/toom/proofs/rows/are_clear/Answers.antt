use Rattle.std.proofs.Common.{◌≡◌, ◌↔◌, ℕ, ◌<◌, Bool, true, false, refl, List, length, MatchBool, IsTrue, All, arith, rules, tests}
use Rattle.std.proofs.lemmas.Bool.{false≢true}
use Rattle.std.proofs.lemmas.Iterator.{cases_from_all, YieldsList-from_slice}
use Rattle.std.specs.List.{AllWithin, HoldsAt}
use Rattle.toom.proofs.rows.are_clear.Goals as goal

each_or_some : (r : Bool) (xs : List ℕ)
    → MatchBool r (AllWithin (λ x. x ≡ 0) xs 0 (length xs)) ((k : ℕ) × (k < length xs) × HoldsAt (λ x. x ≡ 0 → ⊥) xs k)
    → IsTrue r ↔ All (λ x. x ≡ 0) xs
each_or_some true xs h = (λ _ k d l. h k d (omega arith) l, λ _. refl)
each_or_some false xs h = (λ e. absurd (false≢true e), λ all. absurd (h.2 0 (all h.0 0 h.1)))

pub returns : goal.returns
returns c =
    each_or_some _ c.args.rows.now
    (cases_from_all _ _ _ (λ x. x ≡ 0) (λ x. x ≡ 0 → ⊥) c.all.ensures.ran (YieldsList-from_slice c.args.rows.now cc)
    (λ x q k. search (rules, tests)) (λ x q k. search (rules, tests)))
