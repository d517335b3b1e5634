-- A ring with one live head, every cell stepped by the machine's rule, makes one step of the machine.
use Rattle.std.proofs.Common.{◌≡◌, ℕ, ◌<◌, Bool, true, false, cond, eqb, Some, None, Option, refl, ap, ◌∙◌, inl, inr}
use Rattle.std.proofs.lemmas.Bool.{cases_eq, eq-eqb, ne_eqb, and_right, not_from_true, cond_both}
use Rattle.std.specs.Option.{option_or}
use Rattle.toom.specs.declared.machine_cell.MachineCell.{MachineCell}
use Rattle.toom.specs.MachineCell.{head_of_cell, symbol_of_cell}
use Rattle.hosts.specs.declared.entry.Entry.{Entry}
use Rattle.hosts.specs.declared.entry.Motion.{Motion}
use Rattle.hosts.specs.declared.entry.Motion.TheVariants.{Stay, Left, Right}
use Rattle.hosts.specs.declared.machine.Machine.{Machine}
use Rattle.hosts.specs.Digit.{zero_digit, symbol_of, entered, written}
use Rattle.hosts.specs.MachineRule.{entry_at, live, foreign, entry_of, moving, arriving, new_head, new_symbol, machine_rule}
use Rattle.hosts.specs.Ring.{left_of, right_of, stepped}
use Rattle.hosts.specs.Table.{motion_code}
use Rattle.hosts.specs.Turing.{moved, turing_step, ring_of, configuration, StepsAsTuring}
use Rattle.hosts.proofs.Rings.{left_below, right_below, left_lands, right_lands}

-- The option if the test holds, else none.
abbrev when : Bool → Option Entry → Option Entry
when b o = cond b o None

abbrev same_motion : Motion → Motion → Bool
same_motion a b = eqb (motion_code a) (motion_code b)

moving_when : (motion : Motion) (e : Entry) (b : Bool)
    → moving motion (when b (Some e)) ≡ when (same_motion e.motion motion) (when b (Some e))
moving_when motion e true = refl
moving_when motion e false = cond_both (same_motion e.motion motion) None None (λ o. None ≡ o) (λ _. refl) (λ _. refl)

head_when : (e : Entry) (b : Bool) → new_head (when b (Some e)) ≡ cond b (entered e) zero_digit
head_when e true = refl
head_when e false = refl

symbol_when : (x : MachineCell) (e : Entry) (b : Bool) → new_symbol x (when b (Some e)) ≡ cond b (written e) (symbol_of x)
symbol_when x e true = refl
symbol_when x e false = refl

or_none : {X : Type 0} (o : Option X) → option_or o None ≡ o
or_none (Some x) = refl
or_none None = refl

-- Of the entries of a ring whose one live head is at p, that of place i.
abbrev entries : Entry → (p i : ℕ) → Option Entry
entries e p i = when (eqb i p) (Some e)

module _ (n i p : ℕ) (i< : i < n) (p< : p < n) (e : Entry) where
  -- Each motion leaves open one of the three ways to arrive at i: that from p, if the motion leads there.
  one_way : (motion : Motion)
      → option_or (when (same_motion motion Stay) (entries e p i))
      (option_or (when (same_motion motion Right) (entries e p (left_of n i))) (when (same_motion motion Left) (entries e p (right_of n i))))
      ≡ entries e (moved n motion p) i
  one_way Stay = or_none (entries e p i)
  one_way Left = ap (λ b. when b (Some e)) (left_lands n i p i< p<)
  one_way Right = or_none (entries e p (left_of n i)) ∙ ap (λ b. when b (Some e)) (right_lands n i p i< p<)

  arrives : arriving (entries e p (left_of n i)) (entries e p i) (entries e p (right_of n i)) ≡ entries e (moved n e.motion p) i
  arrives = rw (moving_when Stay e, moving_when Right e, moving_when Left e) (one_way e.motion)

module _ (m : Machine) (n p : ℕ) (cells : ℕ → MachineCell) (p< : p < n) (alive : live m (cells p) ≡ true)
    (alone : (i : ℕ) → i < n → (i ≡ p → ⊥) → head_of_cell (cells i) ≡ 0) where
  -- What the live head does.
  abbrev e : Entry
  e = entry_at m (head_of_cell (cells p)) (symbol_of_cell (cells p))

  entry_is : (i : ℕ) → i < n → entry_of m (cells i) ≡ entries e p i
  entry_is i i< =
      elim (cases_eq i p) [
        | inl here ↦ simp (here, alive, eq-eqb p p refl)
        | inr away ↦ simp (alone i i< away, ne_eqb i p away)
      ]

  -- The cell at p is live, and the others have no head.
  none_foreign : (i : ℕ) → i < n → foreign m (cells i) ≡ false
  none_foreign i i< =
      elim (cases_eq i p) [
        | inl here ↦ rw here (and_right _ _ (not_from_true _ alive))
        | inr away ↦ rw (alone i i< away)
      ]

  step_is : (i : ℕ) → i < n → stepped (machine_rule m) n cells i ≡ ring_of (turing_step m n (configuration cells p)) i
  step_is i i< =
      rw (
        none_foreign i i<,
        entry_is (left_of n i) (left_below n i i<),
        entry_is i i<,
        entry_is (right_of n i) (right_below n i i<),
        arrives n i p i< p< e,
        head_when e,
        symbol_when (cells i) e,
      )

pub steps_as_turing : StepsAsTuring
steps_as_turing = step_is
