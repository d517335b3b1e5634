-- Parts of the memory that are written one after another.
use Rattle.std.proofs.Common.{◌≡◌, ℕ, ◌+◌, ◌-◌, ◌<◌, ◌≤◌, ◌≢◌, ◌⊎◌, List, length, get_or, set, sym, ap, ◌∙◌, subst, inl, inr, arith}
use Rattle.std.proofs.lemmas.List.{get_or-set_same, get_or-set_other, get_or_read}
use Rattle.std.proofs.lemmas.Bool.{cases_lt}
use Rattle.std.specs.List.{CopiedTo, SameBelow, SameFrom}
use Rattle.plate.specs.Sweep.{Apart, Wanted, Swept}

-- A place among those at `from` is none of the first n that are written.
pub apart_out : (to from count : ℕ) → Apart to from count → (j n : ℕ) → j < count → n ≤ count → (from + j < to) ⊎ (to + n ≤ from + j)
apart_out to from count apart j n h le = elim apart [ inl a ↦ inr (omega arith) | inr b ↦ inl (omega arith) ]

module _ {C : Type 0} where
  pub swept_none : (to : ℕ) (wanted : Wanted C) (xs : List C) → Swept to 0 wanted xs xs
  swept_none to wanted xs = record { inside = λ j d h. absurd (omega arith); outside = λ k d h. λ i. get_or xs k d }

  -- A run of cells that was copied from elsewhere.
  pub swept_copied : (to from m n : ℕ) (old new : List C) → m ≡ n
      → CopiedTo old new from to m × SameBelow old new to × SameFrom old new (to + m)
      → Swept to n (λ j d x. x ≡ get_or old (from + j) d) old new
  swept_copied to from m n old new same copied =
      record {
        inside = λ j d h.
            let place : from + (to + j - to) ≡ from + j = omega arith in
            copied.0 (to + j) d (omega arith) (omega arith) ∙ ap (λ k. get_or old k d) place;
        outside = λ k d h. elim h [ inl below ↦ copied.1 k d below | inr past ↦ copied.2 k d (omega arith) ];
      }

  -- One more place.
  pub swept_more : (to n : ℕ) (wanted : Wanted C) (old xs : List C) (x : C) → Swept to n wanted old xs → to + n < length xs
      → ((d : C) → wanted n d x) → Swept to (n + 1) wanted old (set xs (to + n) x)
  swept_more to n wanted old xs x w within here =
      record {
        inside = λ j d h.
            elim (cases_lt j n) [
              | inl l ↦
                  subst (λ y. wanted j d y) (sym (get_or-set_other xs (to + n) (to + j) x d (let ne : to + j ≢ to + n = omega arith in ne)))
                  (w.inside j d l)
              | inr g ↦
                  let same : n ≡ j = omega arith in
                  subst (λ m. wanted m d (get_or (set xs (to + n) x) (to + m) d)) same
                  (subst (λ y. wanted n d y) (sym (get_or-set_same xs (to + n) x d within)) (here d))
            ];
        outside = λ k d h.
            let ne : k ≢ to + n = elim h [ inl a ↦ λ e. omega arith | inr b ↦ λ e. omega arith ] in
            let out : (k < to) ⊎ (to + n ≤ k) = elim h [ inl a ↦ inl a | inr b ↦ inr (omega arith) ] in
            get_or-set_other xs (to + n) k x d ne ∙ w.outside k d out;
      }

  -- A part, and the part after it.
  pub swept_join : (to m n : ℕ) (first second all : Wanted C) (old mid new : List C)
      → Swept to m first old mid → Swept (to + m) n second mid new
      → ((j : ℕ) (d x : C) → j < m → first j d x → all j d x)
      → ((j : ℕ) (d x : C) → j < n → second j d x → all (m + j) d x)
      → Swept to (m + n) all old new
  swept_join to m n first second all old mid new a b f s =
      record {
        inside = λ j d h.
            elim (cases_lt j m) [
              | inl l ↦
                  let out : (to + j < to + m) ⊎ (to + m + n ≤ to + j) = inl (omega arith) in
                  subst (λ y. all j d y) (sym (b.outside (to + j) d out)) (f j d _ l (a.inside j d l))
              | inr g ↦
                  let same : m + (j - m) ≡ j = omega arith in
                  let place : to + m + (j - m) ≡ to + j = omega arith in
                  let low : j - m < n = omega arith in
                  subst (λ i. all i d (get_or new (to + j) d)) same
                  (subst (λ i. all (m + (j - m)) d (get_or new i d)) place (s (j - m) d _ low (b.inside (j - m) d low)))
            ];
        outside = λ k d h.
            let past : (k < to + m) ⊎ (to + m + n ≤ k) = elim h [ inl l ↦ inl (omega arith) | inr g ↦ inr (omega arith) ] in
            let out : (k < to) ⊎ (to + m ≤ k) = elim h [ inl l ↦ inl l | inr g ↦ inr (omega arith) ] in
            b.outside k d past ∙ a.outside k d out;
      }

  -- What is read at a place among those at `from` is still old.
  pub read_old : (to from count n : ℕ) (wanted : Wanted C) (old xs : List C) (x : C) → Swept to n wanted old xs → Apart to from count
      → n < count → from + count ≤ length xs → x ≡ get_or xs (from + n) x → (d : C) → x ≡ get_or old (from + n) d
  read_old to from count n wanted old xs x w apart h within is d =
      get_or_read xs (from + n) x (omega arith) is d ∙ w.outside (from + n) d (apart_out to from count apart n n h (omega arith))

-- A function of three, at equal arguments.
pub three : {C : Type 0} (f : C → C → C → C) {a b c x y z : C} → a ≡ x → b ≡ y → c ≡ z → f a b c ≡ f x y z
three f p q r i = f (p i) (q i) (r i)
