-- Questions asked of one item after the other.
use Rattle.std.proofs.Common.{◌≡◌, ℕ, zero, suc, ◌+◌, ◌<◌, Bool, true, false, IsSome, IsNone, Some, None, Option, refl, ap, ◌∙◌, subst, inl, inr, add-one, arith}
use Rattle.std.proofs.lemmas.Bool.{cases_lt}
use Rattle.std.specs.Option.{option_or, unwrap_or}
use Rattle.hosts.specs.Refusal.{Refusal, ask, ask_each}

-- No refusal: the answer was yes, and so were the later ones.
pub ask_none : (good : Bool) (r : Refusal) (later : Option Refusal) → ask good r later ≡ None → (good ≡ true) × (later ≡ None)
ask_none true r later h = (refl, h)
ask_none false r later h = let z : ◌≡◌ {A = ℕ} 0 1 = cc in absurd (omega arith)

pub or_none : {X : Type 0} (o p : Option X) → option_or o p ≡ None → (o ≡ None) × (p ≡ None)
or_none None p h = (refl, h)
or_none (Some x) p h = let z : ◌≡◌ {A = ℕ} 0 1 = cc in absurd (omega arith)

pub none_is : {X : Type 0} (o : Option X) → IsNone o → o ≡ None
none_is None none = refl
none_is (Some x) none = cc

pub some_is : {X : Type 0} (o : Option X) (d x : X) → IsSome o → unwrap_or o d ≡ x → o ≡ Some x
some_is None d x some is = cc
some_is (Some y) d x some is = ap (λ z. Some z) is

module _ (q : ℕ → Option Refusal) where
  -- one item more
  pub asked_more : (k : ℕ) → ask_each q k ≡ None → q k ≡ None → ask_each q (k + 1) ≡ None
  asked_more k before here = ap (ask_each q) (add-one k) ∙ ap (λ o. option_or o (q k)) before ∙ here

  -- The first refusal is that of all items.
  pub asked_first : (n k : ℕ) (r : Refusal) → ask_each q k ≡ None → q k ≡ Some r → k < n → ask_each q n ≡ Some r
  asked_first zero k r before here within = absurd (omega arith)
  asked_first (suc n) k r before here within =
      elim (cases_lt k n) [
        | inl less ↦ ap (λ o. option_or o (q n)) (asked_first n k r before here less)
        | inr more ↦
            let last : k ≡ n = omega arith in
            ap (λ o. option_or o (q n)) (subst (λ i. ask_each q i ≡ None) last before) ∙ subst (λ i. q i ≡ Some r) last here
      ]

  -- No refusal of all items is none of each.
  pub asked_each : (n k : ℕ) → ask_each q n ≡ None → k < n → q k ≡ None
  asked_each zero k none within = absurd (omega arith)
  asked_each (suc n) k none within =
      let both = or_none (ask_each q n) (q n) none in
      elim (cases_lt k n) [
        | inl less ↦ asked_each n k both.0 less
        | inr more ↦ let last : n ≡ k = omega arith in subst (λ i. q i ≡ None) last both.1
      ]

  -- No refusal of each item is none of all.
  pub asked_all : (n : ℕ) → ((k : ℕ) → k < n → q k ≡ None) → ask_each q n ≡ None
  asked_all zero good = refl
  asked_all (suc n) good = ap (λ o. option_or o (q n)) (asked_all n (λ k h. good k (omega arith))) ∙ good n (omega arith)
