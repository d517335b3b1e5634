-- The calls of a run, grown by one record and by beats.
use Rattle.std.proofs.Common.{◌≡◌, ℕ, zero, suc, ◌+◌, ◌<◌, ◌≤◌, cond, eqb, List, [], ◌∷◌, ◌++◌, map, filter, sym, refl, ap, ◌∙◌, ap₂, add-one, arith}
use Rattle.std.proofs.lemmas.List.FromFn.{filter_of_map_range_with_len_more}
use Rattle.std.proofs.lemmas.List.{append_assoc, append-nil, map-append}
use Rattle.std.proofs.lemmas.Bool.{eq-eqb, ne_eqb}
use Rattle.std.specs.List.{range_with_len}
use Rattle.plate.specs.History.{Call, Beat}
use Rattle.plate.specs.Leads.{beats_alone}
use Rattle.runs.specs.RunCall.{calls_upto, strike_of, strikes_numbered}
use Rattle.runs.specs.Script.{record_in}

abbrev number_of : List ℕ → ℕ → ℕ
number_of script j = (record_in script j).number

module _ {C : Type 0} (script : List ℕ) where
  abbrev strikes : (m b : ℕ) → List (Call C)
  strikes m b = strikes_numbered script m b

  -- the strike of one record more
  strikes_more : (m b : ℕ)
      → strikes (m + 1) b ≡ strikes m b ++ map strike_of (cond (eqb (number_of script m) b) (record_in script m ∷ []) [])
  strikes_more m b =
      ap (map strike_of) (filter_of_map_range_with_len_more (λ r. eqb r.number b) (record_in script) 0 m m (omega arith))
      ∙ map-append strike_of (filter (λ r. eqb r.number b) (map (record_in script) (range_with_len 0 m))) _

  strikes_here : (m b : ℕ) → number_of script m ≡ b → strikes (m + 1) b ≡ strikes m b ++ (strike_of (record_in script m) ∷ [])
  strikes_here m b at =
      strikes_more m b
      ∙ ap (λ t. strikes m b ++ map strike_of (cond t (record_in script m ∷ []) [])) (eq-eqb (number_of script m) b at)

  strikes_other : (m b : ℕ) → (number_of script m ≡ b → ⊥) → strikes (m + 1) b ≡ strikes m b
  strikes_other m b off =
      strikes_more m b
      ∙ ap (λ t. strikes m b ++ map strike_of (cond t (record_in script m ∷ []) [])) (ne_eqb (number_of script m) b off) ∙ append-nil (strikes m b)

  strikes_none : (m b : ℕ) → ((j : ℕ) → j < m → number_of script j < b) → strikes m b ≡ []
  strikes_none zero b earlier = refl
  strikes_none (suc m) b earlier =
      ap (λ j. strikes j b) (sym (add-one m))
      ∙ strikes_other m b (λ at. let less = earlier m (omega arith) in absurd (omega arith)) ∙ strikes_none m b (λ j h. earlier j (omega arith))

  module _ (host : C → C → C → C) where
    -- A record strikes at no earlier number than its own.
    calls_same : (m b : ℕ) → b < number_of script m → calls_upto host script (m + 1) b ≡ calls_upto host script m b
    calls_same m zero below = strikes_other m 0 (λ at. absurd (omega arith))
    calls_same m (suc b) below =
        ap₂ (λ x y. x ++ (Beat host ∷ y)) (calls_same m b (omega arith)) (strikes_other m (suc b) (λ at. absurd (omega arith)))

    pub calls_struck : (m b : ℕ) → number_of script m ≡ b
        → calls_upto host script (m + 1) b ≡ calls_upto host script m b ++ (strike_of (record_in script m) ∷ [])
    calls_struck m zero at = strikes_here m 0 at
    calls_struck m (suc b) at =
        ap₂ (λ x y. x ++ (Beat host ∷ y)) (calls_same m b (omega arith)) (strikes_here m (suc b) at)
        ∙ sym (append_assoc (calls_upto host script m b) (Beat host ∷ strikes m (suc b)) (strike_of (record_in script m) ∷ []))

    -- Past the numbers of all its records there are beats alone.
    pub calls_beaten : (m done i : ℕ) → ((j : ℕ) → j < m → number_of script j ≤ done)
        → calls_upto host script m (done + i) ≡ calls_upto host script m done ++ beats_alone host i
    calls_beaten m done zero earlier =
        let sum : done + 0 ≡ done = omega arith in ap (calls_upto host script m) sum ∙ sym (append-nil (calls_upto host script m done))
    calls_beaten m done (suc i) earlier =
        let sum : done + suc i ≡ suc (done + i) = omega arith in
        ap (calls_upto host script m) sum
        ∙ ap₂ (λ x y. x ++ (Beat host ∷ y)) (calls_beaten m done i earlier)
        (strikes_none m (suc (done + i)) (λ j h. let le = earlier j h in omega arith))
        ∙ append_assoc (calls_upto host script m done) (beats_alone host i) (Beat host ∷ [])
