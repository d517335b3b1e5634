-- Beats one after another make a plate older.
use Rattle.std.proofs.Common.{◌≡◌, ℕ, zero, suc, ◌+◌, true, List, [], ◌∷◌, ◌++◌, sym, refl, subst, arith}
use Rattle.plate.specs.Board.{Board}
use Rattle.plate.specs.History.{Beat, Call, Outcome}
use Rattle.plate.specs.Leads.{Leads, beats_alone}
use Rattle.plate.specs.Members.{Members}
use Rattle.runs.proofs.Shapes.{LaidAs, beaten_on}

-- The plate keeps its shape, and is m beats older.
abbrev pub Older : {C : Type 0} → (m : ℕ) → (before after : Board C) → Type 0
Older m before after = (n side age : ℕ) → LaidAs n side age before → LaidAs n side (age + m) after

pub older_0 : {C : Type 0} (b : Board C) → Older 0 b b
older_0 b n side age laid = let sum : age ≡ age + 0 = omega arith in subst (λ j. LaidAs n side j b) sum laid

module _ {C : Type 0} (k : Members C) where
  -- Calls and one more.
  leads_split : (calls : List (Call C)) (call : Call C) (a c : Board C) → Leads k (calls ++ (call ∷ [])) a c
      → (b : Board C) × Leads k calls a b × Outcome k call true b c
  leads_split [] call a c (b, outcome, same) = (a, refl, subst (Outcome k call true a) (sym same) outcome)
  leads_split (first ∷ calls) call a c (b, outcome, rest) =
      let later = leads_split calls call b c rest in (later.0, (b, outcome, later.1), later.2)

  pub beats_older : (host : C → C → C → C) (m : ℕ) (a c : Board C) → Leads k (beats_alone host m) a c → Older m a c
  beats_older host zero a c same = subst (Older 0 a) (sym same) (older_0 a)
  beats_older host (suc m) a c leads = λ n side age laid.
      let split = leads_split (beats_alone host m) (Beat host) a c leads in
      let sum : age + m + 1 ≡ age + suc m = omega arith in
      subst (λ j. LaidAs n side j c) sum
      (beaten_on n side (age + m) split.0 c (beats_older host m a split.0 split.1 n side age laid) k.equal host split.2.1)
