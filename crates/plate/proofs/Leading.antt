-- Calls that lead from plate to plate, one after another; and the histories that they carry on.
use Rattle.std.proofs.Common.{true, List, [], ◌∷◌, ◌++◌, sym, refl, subst}
use Rattle.plate.specs.Board.{Board}
use Rattle.plate.specs.History.{Call, History, Outcome, Reached, more}
use Rattle.plate.specs.Members.{Members}
use Rattle.plate.specs.Leads.{Leads, with_calls}

module _ {C : Type 0} (k : Members C) where
  pub leads_on : (calls later : List (Call C)) (a b c : Board C) → Leads k calls a b → Leads k later b c → Leads k (calls ++ later) a c
  leads_on [] later a b c first rest = subst (λ x. Leads k later x c) first rest
  leads_on (call ∷ calls) later a b c first rest = (first.0, first.1, leads_on calls later first.0 b c first.2 rest)

  -- one call more
  pub leads_one : (calls : List (Call C)) (call : Call C) (a b c : Board C) → Leads k calls a b → Outcome k call true b c
      → Leads k (calls ++ (call ∷ [])) a c
  leads_one calls call a b c first outcome = leads_on calls (call ∷ []) a b c first (c, outcome, refl)

  pub reached_with : (calls : List (Call C)) (h : History C) (a b : Board C) → Reached k h a → Leads k calls a b → Reached k (with_calls calls h) b
  reached_with [] h a b reached leads = subst (Reached k h) (sym leads) reached
  reached_with (call ∷ calls) h a b reached leads =
      reached_with calls ((call, true) ∷ h) leads.0 b (more call true reached leads.1) leads.2
