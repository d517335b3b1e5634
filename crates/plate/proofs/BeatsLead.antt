-- Many beats of a plate's cells, and as many votes of its shadow, are beats of the plate.
use Rattle.std.proofs.Common.{◌≡◌, ℕ, zero, suc, ◌+◌, ◌≤◌, Bool, List, length, Some, None, Option, sym, refl, ap, ◌∙◌, subst, arith}
use Rattle.std.proofs.lemmas.Bool.{cond-true, cond_both, lt-ltb}
use Rattle.toom.specs.declared.shadow.Shadow.{Shadow}
use Rattle.toom.specs.Shadow.{side_of_shadow}
use Rattle.toom.specs.ShadowCalls.{Voted}
use Rattle.plate.specs.declared.laid.Laid.{Laid}
use Rattle.plate.specs.BeatCall.{CellsBeaten, beat_questions_of}
use Rattle.plate.specs.BeatsCall.{CellsBeatenBy, VotedBy}
use Rattle.plate.specs.Board.{Board, held, side_of, standing}
use Rattle.plate.specs.History.{Beat}
use Rattle.plate.specs.Leads.{Leads, beats_alone}
use Rattle.plate.specs.Members.{Members}
use Rattle.plate.proofs.Leading.{leads_one}
use Rattle.plate.proofs.PinnedLaid.{boards_equal, laids_equal}
use Rattle.plate.proofs.Standing.{standing_holds, stands_with}

-- What stands is what is laid.
laid_stands : {C : Type 0} (o : Option Laid) (cells : List C) (l : Laid) → held o cells ≡ Some l → o ≡ Some l
laid_stands None cells l e = e
laid_stands (Some m) cells l e =
    cond_both _ (Some m) None (λ o. o ≡ Some l → Some m ≡ Some l) (λ _ is. is) (λ _ is. let z : ◌≡◌ {A = ℕ} 0 1 = cc in absurd (omega arith)) e

-- The same plate m beats later, with this shadow.
abbrev pub aged : (l : Laid) (m : ℕ) → l.age + m ≤ 1048575 → Shadow → Laid
aged l m young shadow = record { planes = l.planes; age = l.age + m; shadow = shadow; some = l.some; few = l.few; young = young }

beaten_long : {C : Type 0} (equal : C → C → Bool) (host : C → C → C → C) (n side m : ℕ) (before after : List C)
    → CellsBeatenBy equal host n side m before after → length after ≡ length before
beaten_long equal host n side zero before after same = ap length same
beaten_long equal host n side (suc m) before after (between, rest, last) = last.long ∙ beaten_long equal host n side m before between rest

voted_side : (m : ℕ) (before after : Shadow) → VotedBy m before after → side_of_shadow after ≡ side_of_shadow before
voted_side zero before after same = ap side_of_shadow same
voted_side (suc m) before after (between, rest, last) = last.sides ∙ voted_side m before between rest

-- A shadow that a vote leaves stays however often it is voted.
pub votes_stay : (s t : Shadow) → Voted s t → t ≡ s → (m i : ℕ) (start : Shadow) → VotedBy i start s → VotedBy (i + m) start t
votes_stay s t vote same zero i start voted =
    let sum : i ≡ i + 0 = omega arith in subst (λ j. VotedBy j start t) sum (subst (VotedBy i start) (sym same) voted)
votes_stay s t vote same (suc m) i start voted =
    let sum : suc (i + m) ≡ i + suc m = omega arith in
    subst (λ j. VotedBy j start t) sum (s, subst (VotedBy (i + m) start) same (votes_stay s t vote same m i start voted), vote)

module _ {C : Type 0} (k : Members C) (host : C → C → C → C) (b : Board C) (l : Laid) (stood : standing b ≡ Some l) where
  abbrev later : (m : ℕ) → l.age + m ≤ 1048575 → Shadow → List C → Board C
  later m young shadow cells = record { laid = Some (aged l m young shadow); cells = cells }

  later_stands : (m : ℕ) (young : l.age + m ≤ 1048575) (shadow : Shadow) (cells : List C) → side_of_shadow shadow ≡ side_of l → length cells ≡ length b.cells
      → standing (later m young shadow cells) ≡ Some (aged l m young shadow)
  later_stands m young shadow cells sides long =
      stands_with (later m young shadow cells) (aged l m young shadow) l.planes (side_of l) refl refl sides (rw long (standing_holds b l stood))

  many_lead : (m : ℕ) (young : l.age + m ≤ 1048575) (shadow : Shadow) (cells : List C) → VotedBy m l.shadow shadow
      → CellsBeatenBy k.equal host l.planes (side_of l) m b.cells cells → Leads k (beats_alone host m) b (later m young shadow cells)
  many_lead zero young shadow cells unvoted same =
      let age : l.age + 0 ≡ l.age = omega arith in
      boards_equal (later 0 young shadow cells) b (aged l 0 young shadow) l refl (laid_stands b.laid b.cells l stood)
      (laids_equal (aged l 0 young shadow) l refl age unvoted) same
  many_lead (suc m) young shadow cells (mid, votes, vote) (between, rest, last) =
      let younger : l.age + m ≤ 1048575 = omega arith in
      let long = beaten_long k.equal host l.planes (side_of l) m b.cells between rest in
      let sides = voted_side m l.shadow mid votes in
      let stands = later_stands m younger mid between sides long in
      leads_one k (beats_alone host m) (Beat host) b (later m younger mid between) (later (suc m) young shadow cells)
      (many_lead m younger mid between votes rest) (
        ap beat_questions_of stands ∙ cond-true _ _ _ (lt-ltb (l.age + m) 1048575 (omega arith)),
        record {
          stood = aged l m younger mid;
          kept = aged l (suc m) young shadow;
          standing_before = stands;
          stands = refl;
          cells = subst (λ s. CellsBeaten k.equal host l.planes s between cells) (sym sides) last;
          shadow = vote;
          planes = refl;
          age = omega arith;
        },
      )

  -- The same of any plate that keeps this much.
  pub many_end : (m : ℕ) (cells : List C) (kept : Laid) → kept.planes ≡ l.planes → kept.age ≡ l.age + m → VotedBy m l.shadow kept.shadow
      → CellsBeatenBy k.equal host l.planes (side_of l) m b.cells cells
      → Leads k (beats_alone host m) b record { laid = Some kept; cells = cells }
  many_end m cells kept planes age voted beaten =
      let young : l.age + m ≤ 1048575 = omega (arith, kept.young) in
      subst (Leads k (beats_alone host m) b)
      (boards_equal (later m young kept.shadow cells) record { laid = Some kept; cells = cells } (aged l m young kept.shadow) kept refl refl
      (laids_equal (aged l m young kept.shadow) kept (sym planes) (sym age) refl) refl)
      (many_lead m young kept.shadow cells voted beaten)
