-- Two cells of three decide their vote. So the vote heals one wounded copy, and a plane outside the voted shadow.
use Rattle.std.proofs.Common.{◌≡◌, ℕ, ◌+◌, ◌≤◌, Bool, true, false, cond, ◌⊎◌, sym, refl, ap, ◌∙◌, inl, inr, arith}
use mathlib.Core.Bool.{beq}
use Rattle.std.proofs.lemmas.Bool.{both_ways, cond_both}
use Rattle.toom.specs.Torus.{Plane, next, Everywhere}
use Rattle.toom.specs.Vote.{vote_of, voted, thinned, OneWounded, HealsOutside}
use Rattle.toom.proofs.Modular.{next_below}

-- Two of three facts hold: of the north cell, of the east cell, of the place's own.
abbrev pub Two : (north east own : Type 0) → Type 0
Two north east own = (north × east) ⊎ ((north × own) ⊎ (east × own))

two_map : {N E O N' E' O' : Type 0} → (N → N') → (E → E') → (O → O') → Two N E O → Two N' E' O'
two_map f g h (inl (n, e)) = inl (f n, g e)
two_map f g h (inr (inl (n, o))) = inr (inl (f n, h o))
two_map f g h (inr (inr (e, o))) = inr (inr (g e, h o))

-- Two of three bits are as their vote.
two_voters : (north east own : Bool) → let v : Bool = vote_of beq north east own in Two (north ≡ v) (east ≡ v) (own ≡ v)
two_voters true true own = inl (refl, refl)
two_voters true false true = inr (inl (refl, refl))
two_voters true false false = inr (inr (refl, refl))
two_voters false true true = inr (inr (refl, refl))
two_voters false true false = inr (inl (refl, refl))
two_voters false false own = inl (refl, refl)

-- Of three, at most one wounded, two are whole.
two_whole : (north east own : Bool) → cond north 0 1 + cond east 0 1 + cond own 0 1 ≤ 1 → Two (north ≡ true) (east ≡ true) (own ≡ true)
two_whole true true own few = inl (refl, refl)
two_whole true false true few = inr (inl (refl, refl))
two_whole true false false few = absurd (omega arith)
two_whole false true true few = inr (inr (refl, refl))
two_whole false true false few = absurd (omega arith)
two_whole false false own few = absurd (omega arith)

-- Where the voted shadow is b, the shadow is b at two of the three places; so if P holds where the shadow is b, it holds at those two.
pub two_places : (side : ℕ) (shadow : Plane Bool) (b : Bool) (P : ℕ → ℕ → Type 0)
    → Everywhere side (λ r c. shadow r c ≡ b → P r c)
    → Everywhere side (λ r c. thinned side shadow r c ≡ b → Two (P (next side r) c) (P r (next side c)) (P r c))
two_places side shadow b P each r c r< c< is_b =
    two_map
    (λ e. each (next side r) c (next_below side r r<) c< (e ∙ is_b))
    (λ e. each r (next side c) r< (next_below side c c<) (e ∙ is_b))
    (λ e. each r c r< c< (e ∙ is_b))
    (two_voters (shadow (next side r) c) (shadow r (next side c)) (shadow r c))

module _ {C : Type 0} (equal : C → C → Bool) (same : (x : C) → equal x x ≡ true) (sound : (x y : C) → equal x y ≡ true → x ≡ y) where
  -- The vote of three cells is what two of them are.
  pub two_decide : (x north east own : C) → Two (north ≡ x) (east ≡ x) (own ≡ x) → vote_of equal north east own ≡ x
  two_decide x north east own two = cond_both (equal north east) north own (λ v. v ≡ x) (agree two) (differ two)
    where
      agree : Two (north ≡ x) (east ≡ x) (own ≡ x) → equal north east ≡ true → north ≡ x
      agree (inl (n, e)) h = n
      agree (inr (inl (n, o))) h = n
      agree (inr (inr (e, o))) h = sound north east h ∙ e

      differ : Two (north ≡ x) (east ≡ x) (own ≡ x) → equal north east ≡ false → own ≡ x
      differ (inl (n, e)) h = absurd (both_ways (equal north east) h (ap (equal north) (e ∙ sym n) ∙ same north))
      differ (inr (inl (n, o))) h = o
      differ (inr (inr (e, o))) h = o

  pub one_wounded : OneWounded equal
  one_wounded x north east own few =
      two_decide x north east own
      (two_map (sound north x) (sound east x) (sound own x) (two_whole (equal north x) (equal east x) (equal own x) few))

  -- If the cells where the shadow is b are x, those where the voted shadow is b are x.
  pub heals_where : (b : Bool) (side : ℕ) (shadow : Plane Bool) (plane : Plane C) (x : C)
      → Everywhere side (λ r c. shadow r c ≡ b → plane r c ≡ x)
      → Everywhere side (λ r c. thinned side shadow r c ≡ b → voted equal side plane r c ≡ x)
  heals_where b side shadow plane x each r c r< c< is_b =
      two_decide x (plane (next side r) c) (plane r (next side c)) (plane r c)
      (two_places side shadow b (λ r c. plane r c ≡ x) each r c r< c< is_b)

  pub heals_outside : HealsOutside equal
  heals_outside = heals_where false

-- The bits' own test is such an `equal`.
pub beq_same : (b : Bool) → beq b b ≡ true
beq_same true = refl
beq_same false = refl

pub beq_sound : (a b : Bool) → beq a b ≡ true → a ≡ b
beq_sound true true h = refl
beq_sound true false h = sym h
beq_sound false true h = h
beq_sound false false h = refl
