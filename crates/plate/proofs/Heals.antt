-- The healing laws hold of every plate that calls can reach.
use Rattle.std.proofs.Common.{◌≡◌, ℕ, ◌-◌, ◌<◌, ◌≤◌, true, false, ◌++◌, Some, None, Option, sym, refl, ap, ◌∙◌, subst, inl, inr, arith}
use Rattle.std.proofs.lemmas.Bool.{cases_Bool}
use Rattle.std.specs.Bool.{beq}
use Rattle.toom.specs.Triangle.{LiesInTriangle, TriangleShrinks}
use Rattle.toom.specs.Vote.{HealsOutside, SameVotes}
use Rattle.plate.specs.BeatCall.{beat_questions_of}
use Rattle.plate.specs.Board.{Board, standing}
use Rattle.plate.specs.Healing.{Agrees, Matches, Quiet, beats_in, WoundsWithin, Healing, AlwaysHeals}
use Rattle.plate.specs.History.{Call, Lay, Strike, Beat, Read, Map, Show, History, refusal_on, Effect, Reached, new, more}
use Rattle.plate.specs.Members.{Members}
use Rattle.plate.specs.Plain.{Plain, after_call, plain}
use Rattle.plate.specs.StrikeCall.{strike_questions_of}
use Rattle.plate.proofs.Beats.{follows_beaten}
use Rattle.plate.proofs.Follows.{Follows, follows_laid}
use Rattle.plate.proofs.Quiet.{aged, quiet_ages}
use Rattle.plate.proofs.HealedReadings.{read_gives_run}
use Rattle.plate.proofs.Standing.{some_same}
use Rattle.plate.proofs.Strikes.{follows_struck}

-- The plate follows the plain machine, or there is none and the plate is bare.
abbrev Followed : {C : Type 0} → Option (Plain C) → Board C → Type 0
Followed None b = standing b ≡ None
Followed (Some p) b = Follows p b

followed_matches : {C : Type 0} (o : Option (Plain C)) (b : Board C) → Followed o b → Matches o b
followed_matches None b bare = bare
followed_matches (Some p) b follows = follows.agrees

-- A copy outside the shadow is no wound, so the wounds lie where the shadow lies.
wounds_in_shadow : {C : Type 0} (q : Plain C) (b : Board C) → Agrees q b → (row column m : ℕ) → LiesInTriangle q.side q.shadow row column m
    → WoundsWithin q b row column m
wounds_in_shadow q b agrees row column m lies = record {
  shadow = lies;
  copies = λ i r c d i< r< c< wrong.
      elim (cases_Bool (q.shadow r c)) [
        | inl marked ↦ lies r c r< c< marked
        | inr clear ↦ absurd (wrong (agrees.copies i r c d i< r< c< clear))
      ];
}

module _ {C : Type 0} (k : Members C) (reflexive : (x : C) → k.equal x x ≡ true) (exact : (x y : C) → k.equal x y ≡ true → x ≡ y)
    (heals_outside : HealsOutside k.equal) (same_votes : SameVotes beq) (triangle_shrinks : TriangleShrinks) where
  -- An accepted call. A bare plate refuses strikes and beats.
  call_followed : (call : Call C) (o : Option (Plain C)) (b b' : Board C) → Followed o b → refusal_on k b call ≡ None → Effect k call b b'
      → Followed (after_call k call o) b'
  call_followed (Lay n side tape) o b b' followed good effect = follows_laid k.named n side tape b b' good effect
  call_followed (Strike plane row column byte) None b b' bare good effect =
      let refused = ap (λ s. strike_questions_of k.named s plane row column byte) bare in
      let z : ◌≡◌ {A = ℕ} 0 1 = cc in absurd (omega arith)
  call_followed (Strike plane row column byte) (Some p) b b' follows good effect =
      follows_struck k.named plane row column byte p b b' follows good effect
  call_followed (Beat host) None b b' bare good effect =
      let refused = ap beat_questions_of bare in
      let z : ◌≡◌ {A = ℕ} 0 1 = cc in absurd (omega arith)
  call_followed (Beat host) (Some p) b b' follows good effect = follows_beaten k.equal heals_outside same_votes host p b b' follows effect
  call_followed (Read before after) o b b' followed good effect = subst (Followed o) (sym effect.1) followed
  call_followed (Map before after) o b b' followed good effect = subst (Followed o) (sym effect.1) followed
  call_followed (Show before after) o b b' followed good effect = subst (Followed o) (sym effect.1) followed

  reached_followed : {h : History C} {b : Board C} → Reached k h b → Followed (plain k h) b
  reached_followed (new cells) = refl
  reached_followed (more {h} {b} {b'} call true reached outcome) =
      call_followed call (plain k h) b b' (reached_followed reached) outcome.0 outcome.1
  reached_followed (more {h} {b} {b'} call false reached outcome) = subst (Followed (plain k h)) (sym outcome.2) (reached_followed reached)

  module _ (h : History C) (b : Board C) (followed : Followed (plain k h) b) where
    follows_at : (p : Plain C) → plain k h ≡ Some p → Follows p b
    follows_at p is = subst (λ o. Followed o b) is followed

    shadow_shrinks : (later earlier : History C) → h ≡ later ++ earlier → Quiet later
        → (p q : Plain C) → plain k earlier ≡ Some p → plain k h ≡ Some q
        → (row column m : ℕ) → m < p.side → beats_in later ≤ m → LiesInTriangle p.side p.shadow row column m
        → LiesInTriangle q.side q.shadow row column (m - beats_in later)
    shadow_shrinks later earlier cut quiet p q was is row column m below few lies =
        let old = quiet_ages k p later earlier quiet was in
        let same : aged p old.0 (beats_in later) ≡ q = some_same _ q (sym old.1 ∙ ap (plain k) (sym cut) ∙ is) in
        subst (λ q. LiesInTriangle q.side q.shadow row column (m - beats_in later)) same
        (triangle_shrinks p.side p.shadow row column m (beats_in later) below few lies)

    heals_followed : Healing k h b
    heals_followed = record {
      outside = followed_matches (plain k h) b followed;
      shrinks = λ later earlier cut quiet p q was is row column m below few lies.
          wounds_in_shadow q b (follows_at q is).agrees row column (m - beats_in later)
          (shadow_shrinks later earlier cut quiet p q was is row column m below few lies);
      reads = λ p is few. read_gives_run k reflexive exact p b (follows_at p is) few;
    }

  pub always_heals : AlwaysHeals k
  always_heals h b reached = heals_followed h b (reached_followed reached)
