-- A thinning, vote by vote.
use Rattle.std.proofs.Common.{◌≡◌, ℕ, ◌+◌, ◌*◌, ◌<◌, ◌≤◌, Bool, false, List, [], ◌++◌, sym, refl, ap, ◌∙◌, subst, ap₂, inl, inr, add-one, arith, below_more}
use Rattle.std.proofs.lemmas.Bool.{cases_lt, false≢true}
use Rattle.std.specs.Bool.{beq, Decides}
use Rattle.toom.specs.declared.shadow.Shadow.{Shadow}
use Rattle.toom.specs.Shadow.{marks, side_of_shadow, IsShadow, MarksPin}
use Rattle.toom.specs.ShadowCalls.{Voted}
use Rattle.toom.specs.Torus.{Plane, SameCounts, SameOnTorus}
use Rattle.toom.specs.Vote.{SameVotes, thinned, thinned_by}
use Rattle.thin.specs.declared.trace.Ending.{Ending}
use Rattle.thin.specs.declared.trace.Ending.TheVariants.{Empty, Unchanged, StillChanging}
use Rattle.thin.specs.Picture.{frame}
use Rattle.thin.specs.Trace.{Stays, NoMarks, Ends, GoesOn, Thinning, ThinningPins, frames, ending_line}
use Rattle.thin.proofs.Pictures.{joined_counting}
use Rattle.thin.proofs.Planes.{frame_same, ends_same, goes_on_same}

-- A shadow that its vote changes has changed marks.
pub moved : (s t : Shadow) → MarksPin → Voted s t → (t ≡ s → ⊥) → Stays (side_of_shadow s) (marks s) → ⊥
moved s t pin voted other stays =
    other (pin t s (side_of_shadow s) (thinned (side_of_shadow s) (marks s)) voted (record { sides = refl; places = λ r c h k. sym (stays r c h k) }))

-- Shadows that do not compare as equal are not equal.
pub unlike : {same : Bool} {s t : Shadow} → Decides same (s ≡ t) → same ≡ false → s ≡ t → ⊥
unlike decides differ e = false≢true (sym differ ∙ decides.1 e)

module _ {side : ℕ} {plane : Plane Bool} {votes : ℕ} where
  pub goes_on : (NoMarks side plane → ⊥) → (Stays side plane → ⊥) → (votes ≡ side * side → ⊥) → GoesOn side plane votes
  goes_on some moves early Empty e = some e
  goes_on some moves early Unchanged e = moves e.1
  goes_on some moves early StillChanging e = early e.0

  -- A thinning that goes on has not come to the limit.
  below_limit : GoesOn side plane votes → votes ≤ side * side → votes < side * side
  below_limit on h =
      elim (cases_lt votes (side * side)) [
        | inl l ↦ l
        | inr g ↦ absurd (on StillChanging (omega arith, on Empty, λ stays. on Unchanged (on Empty, stays)))
      ]

-- The shadow `now` is `start` after so many votes, at none of which the thinning ended, and the text has what was printed of those before.
pub record SoFar (start now : Shadow) (votes : ℕ) (text : List ℕ) : Type 0 where
  pub is : IsShadow now (side_of_shadow start) (thinned_by votes (side_of_shadow start) (marks start))
  pub before : (j : ℕ) → j < votes → GoesOn (side_of_shadow start) (thinned_by j (side_of_shadow start) (marks start)) j
  pub printed : text ≡ frames (side_of_shadow start) (marks start) votes
  pub within : votes ≤ side_of_shadow start * side_of_shadow start

module _ (same_votes : SameVotes beq) (counts : SameCounts) {start now : Shadow} {votes : ℕ} {text : List ℕ} (old : SoFar start now votes text) where
  same : SameOnTorus (side_of_shadow start) (marks now) (thinned_by votes (side_of_shadow start) (marks start))
  same = old.is.places

  frame_here : frame (side_of_shadow now) (marks now) ≡ frame (side_of_shadow start) (thinned_by votes (side_of_shadow start) (marks start))
  frame_here = ap (λ side. frame side (marks now)) old.is.sides ∙ frame_same counts same

  here_goes_on : GoesOn (side_of_shadow now) (marks now) votes → GoesOn (side_of_shadow start) (thinned_by votes (side_of_shadow start) (marks start)) votes
  here_goes_on on = goes_on_same same_votes counts same votes (subst (λ side. GoesOn side (marks now) votes) old.is.sides on)

  -- It has not come to the limit.
  pub early : GoesOn (side_of_shadow now) (marks now) votes → votes < side_of_shadow start * side_of_shadow start
  early on = below_limit (here_goes_on on) old.within

  printed_more : {more : List ℕ} → more ≡ text ++ frame (side_of_shadow now) (marks now) → more ≡ frames (side_of_shadow start) (marks start) (votes + 1)
  printed_more e =
      e ∙ ap (λ l. l ++ frame (side_of_shadow now) (marks now)) old.printed ∙ ap (λ l. frames (side_of_shadow start) (marks start) votes ++ l) frame_here
      ∙ joined_counting (λ j. frame (side_of_shadow start) (thinned_by j (side_of_shadow start) (marks start))) [] votes

  pub one_more : {next : Shadow} {more : List ℕ} → Voted now next → GoesOn (side_of_shadow now) (marks now) votes
      → more ≡ text ++ frame (side_of_shadow now) (marks now) → SoFar start next (votes + 1) more
  one_more {next} voted on e = record {
    is = record {
      sides = voted.sides ∙ old.is.sides;
      places = λ r c h k. rw add-one (
          (subst (λ side. IsShadow next side (thinned side (marks now))) old.is.sides voted).places r c h k ∙ same_votes _ _ _ same r c h k
          );
    };
    before = below_more _ votes old.before (here_goes_on on);
    printed = printed_more e;
    within = omega (arith, early on);
  }

  pub last : (ending : Ending) {more whole : List ℕ} → Ends (side_of_shadow now) (marks now) votes ending
      → more ≡ text ++ frame (side_of_shadow now) (marks now) → whole ≡ more ++ ending_line ending votes
      → Thinning (side_of_shadow start) (marks start) whole
  last ending ends e w = record {
    votes = votes;
    ending = ending;
    ends = ends_same same_votes counts same votes ending (subst (λ side. Ends side (marks now) votes ending) old.is.sides ends);
    first = old.before;
    whole = w ∙ ap (λ l. l ++ ending_line ending votes) (printed_more e);
  }

-- The endings exclude one another.
module _ (side : ℕ) (plane : Plane Bool) (votes : ℕ) where
  one_ending : (a b : Ending) → Ends side plane votes a → Ends side plane votes b → a ≡ b
  one_ending Empty Empty e f = refl
  one_ending Empty Unchanged e f = absurd (f.0 e)
  one_ending Empty StillChanging e f = absurd (f.1 e)
  one_ending Unchanged Empty e f = absurd (e.0 f)
  one_ending Unchanged Unchanged e f = refl
  one_ending Unchanged StillChanging e f = absurd (f.2 e.1)
  one_ending StillChanging Empty e f = absurd (e.1 f)
  one_ending StillChanging Unchanged e f = absurd (e.2 f.1)
  one_ending StillChanging StillChanging e f = refl

module _ {side : ℕ} {plane : Plane Bool} {s t : List ℕ} (a : Thinning side plane s) (b : Thinning side plane t) where
  -- Neither ends before the other.
  not_before : a.votes < b.votes → ⊥
  not_before h = b.first a.votes h a.ending a.ends

  same_end : a.votes ≡ b.votes → s ≡ t
  same_end e =
      let there = subst (λ n. Ends side (thinned_by n side plane) n a.ending) e a.ends in
      a.whole ∙ ap₂ (λ n ending. frames side plane (n + 1) ++ ending_line ending n) e (one_ending side (thinned_by b.votes side plane) b.votes a.ending b.ending there b.ends)
      ∙ sym b.whole

pub thinning_pins : ThinningPins
thinning_pins side plane s t a b =
    elim (cases_lt a.votes b.votes) [
      | inl l ↦ absurd (not_before a b l)
      | inr g ↦ elim (cases_lt b.votes a.votes) [ inl l ↦ absurd (not_before b a l) | inr h ↦ same_end a b (omega arith) ]
    ]
