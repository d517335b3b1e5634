-- A round that was laid and run is laid still, so its report is not refused.
use Rattle.std.proofs.Common.{◌≡◌, ℕ, ◌≤◌, true, leb, List, [], ◌∷◌, Some, None, refl, ap, ◌∙◌, subst}
use Rattle.std.proofs.lemmas.Bool.{cond-true, le-leb}
use Rattle.plate.specs.Board.{Board}
use Rattle.plate.specs.Healing.{Healing, Matches}
use Rattle.plate.specs.History.{Call, Lay, Strike, Beat, Read, Map, Show, History, Reached, new}
use Rattle.plate.specs.Leads.{with_calls}
use Rattle.plate.specs.Members.{Members}
use Rattle.plate.specs.Plain.{Plain, after_call, plain}
use Rattle.reports.specs.ReportCall.{report_questions, report_questions_of}

-- A new plate is bare.
pub new_bare : {C : Type 0} (k : Members C) (b : Board C) → Reached k [] b → b.laid ≡ None
new_bare k b (new cells) = refl

module _ {C : Type 0} (k : Members C) where
  -- Once there is a plain machine, every call leaves one.
  laid_after : (call : Call C) (p : Plain C) → (q : Plain C) × (after_call k call (Some p) ≡ Some q)
  laid_after (Lay n side tape) p = (_, refl)
  laid_after (Strike plane row column byte) p = (_, refl)
  laid_after (Beat host) p = (_, refl)
  laid_after (Read before after) p = (_, refl)
  laid_after (Map before after) p = (_, refl)
  laid_after (Show before after) p = (_, refl)

  laid_still : (calls : List (Call C)) (h : History C) (p : Plain C) → plain k h ≡ Some p → (q : Plain C) × (plain k (with_calls calls h) ≡ Some q)
  laid_still [] h p is = (p, is)
  laid_still (call ∷ calls) h p is =
      let next = laid_after call p in laid_still calls ((call, true) ∷ h) next.0 (ap (after_call k call) is ∙ next.1)

  -- So a plate that such a history reached is laid, and its report is not refused if there is room for it.
  pub report_passes : (calls : List (Call C)) (n side : ℕ) (tape : List ℕ) (b : Board C) → Healing k (with_calls calls ((Lay n side tape, true) ∷ [])) b
      → (room : ℕ) → 12396 ≤ room → report_questions b room ≡ None
  report_passes calls n side tape b heals room enough =
      let q = laid_still calls ((Lay n side tape, true) ∷ []) _ refl in
      let agrees = subst (λ o. Matches o b) q.1 heals.outside in
      ap (λ o. report_questions_of o room) agrees.stands ∙ cond-true (leb 12396 room) _ _ (le-leb 12396 room enough)
