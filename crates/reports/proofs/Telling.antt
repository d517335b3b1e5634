-- A report tells of the faultless run, by the healing laws of the plate.
use Rattle.std.proofs.Common.{◌≡◌, ℕ, zero, suc, ◌<◌, Bool, true, false, cond, ltb, List, ◌++◌, length, get_or, drop, is_some, Some, None, Option, sym, refl, ap, ◌∙◌, subst, ap₂, inl, inr, ◌≢◌, arith}
use Rattle.std.proofs.lemmas.List.FromFn.{length-map-range_with_len}
use Rattle.std.proofs.lemmas.List.{ext_get_or, get_or_append_left}
use Rattle.std.proofs.lemmas.Bool.{both_ways, cases_Bool, cond-true, le-leb}
use Rattle.std.specs.Option.{option_map}
use Rattle.toom.specs.Shadow.{marks}
use Rattle.toom.specs.Torus.{Everywhere, total}
use Rattle.toom.specs.Vote.{wounded}
use Rattle.hosts.specs.Refusal.{Refusal, ask_each}
use Rattle.plate.specs.declared.laid.Laid.{Laid}
use Rattle.plate.specs.BeatCall.{copies, line}
use Rattle.plate.specs.Board.{Board, side_of, standing}
use Rattle.plate.specs.Healing.{Agrees, AlwaysHeals, Healing, Matches}
use Rattle.plate.specs.History.{History}
use Rattle.plate.specs.Members.{Members}
use Rattle.plate.specs.Plain.{FaultlessTape, FewerThanHalf, Plain, plain}
use Rattle.plate.specs.ReadCall.{Reads, plane_question, read_questions, read_questions_of, reading}
use Rattle.plate.proofs.Follows.{stood_alike}
use Rattle.plate.proofs.Standing.{some_same}
use Rattle.reports.specs.Report.{clear_mark, hurt_mark, last_line, last_of, place_mark, shadow_mark, tape_line}
use Rattle.reports.specs.Tells.{ReportsTell, map_at}
use Rattle.reports.proofs.Totals.{total_same}

total_none : (f : ℕ → ℕ) (n : ℕ) → ((k : ℕ) → k < n → f k ≡ 0) → total f n ≡ 0
total_none f zero none = refl
total_none f (suc n) none = omega (arith, total_none f n (λ k h. none k (omega arith)), none n (omega arith))

-- A place of the shadow has the mark `#` or `s`.
never_clear : (hurt shadowed : Bool) → shadowed ≡ true → cond hurt hurt_mark (cond shadowed shadow_mark clear_mark) ≢ clear_mark
never_clear true true marked clear = let z : ◌≡◌ {A = ℕ} 35 46 = clear in absurd (omega arith)
never_clear false true marked clear = let z : ◌≡◌ {A = ℕ} 115 46 = clear in absurd (omega arith)
never_clear hurt false marked clear = absurd (both_ways false refl marked)

-- The plate agrees with the plain machine.
module _ {C : Type 0} (k : Members C) (reflexive : (x : C) → k.equal x x ≡ true) (p : Plain C) (b : Board C) (agrees : Agrees p b)
    (l : Laid) (stands : standing b ≡ Some l) (d : C) where
  abbrev n : ℕ
  n = l.planes

  abbrev side : ℕ
  side = side_of l

  line_is_run : (i : ℕ) → i < n → Some (line b.cells n side d i) ≡ p.run i
  line_is_run i i< =
      let alike = stood_alike p b agrees l stands in
      ap Some (ap₂ (λ n side. line b.cells n side d i) alike.planes alike.sides) ∙ agrees.lines i d (omega (arith, alike.planes))

  hurts_mean : (x : ℕ → C) → ((i : ℕ) → i < n → p.run i ≡ Some (x i))
      → Everywhere side (λ r c. map_at k l b.cells d r c ≡ total (λ i. wounded k.equal (x i) (copies b.cells side d i r c)) n)
  hurts_mean x is r c r< c< =
      total_same _ _ n
      (λ i i<. ap (λ y. wounded k.equal y (copies b.cells side d i r c)) (some_same _ (x i) (line_is_run i i< ∙ is i i<)))

  copy_is_run : (i r c : ℕ) → i < n → r < side → c < side → marks l.shadow r c ≡ false → Some (copies b.cells side d i r c) ≡ p.run i
  copy_is_run i r c i< r< c< clear =
      let alike = stood_alike p b agrees l stands in
      let r<' : r < p.side = omega (arith, alike.sides) in
      let c<' : c < p.side = omega (arith, alike.sides) in
      ap (λ side. Some (copies b.cells side d i r c)) alike.sides
      ∙ agrees.copies i r c d (omega (arith, alike.planes)) r<' c<' (sym (alike.shadows r c r<' c<') ∙ clear)

  -- Outside the shadow every copy is its cell of the line.
  no_wound : (i r c : ℕ) → i < n → r < side → c < side → marks l.shadow r c ≡ false
      → wounded k.equal (line b.cells n side d i) (copies b.cells side d i r c) ≡ 0
  no_wound i r c i< r< c< clear =
      let own : copies b.cells side d i r c ≡ line b.cells n side d i =
      some_same _ _ (copy_is_run i r c i< r< c< clear ∙ sym (line_is_run i i<)) in
      ap (λ y. wounded k.equal (line b.cells n side d i) y) own ∙ cond-true _ _ _ (reflexive (line b.cells n side d i))

  no_hurt : Everywhere side (λ r c. marks l.shadow r c ≡ false → map_at k l b.cells d r c ≡ 0)
  no_hurt r c r< c< clear = total_none _ n (λ i i<. no_wound i r c i< r< c< clear)

  hurts_inside : Everywhere side (λ r c. (map_at k l b.cells d r c ≡ 0 → ⊥) → marks l.shadow r c ≡ true)
  hurts_inside r c r< c< hurt =
      elim (cases_Bool (marks l.shadow r c)) [
        | inl marked ↦ marked
        | inr clear ↦ absurd (hurt (no_hurt r c r< c< clear))
      ]

  outside_clear : Everywhere side (λ r c. marks l.shadow r c ≡ false → place_mark (map_at k l b.cells d r c) (marks l.shadow r c) ≡ clear_mark)
  outside_clear r c r< c< clear = ap₂ place_mark (no_hurt r c r< c< clear) clear

  inside_marked : Everywhere side (λ r c. marks l.shadow r c ≡ true → place_mark (map_at k l b.cells d r c) (marks l.shadow r c) ≢ clear_mark)
  inside_marked r c r< c< marked = never_clear (ltb 0 (map_at k l b.cells d r c)) (marks l.shadow r c) marked

-- A read into an output that just holds the tape.
module _ {C : Type 0} (k : Members C) (h : History C) (b : Board C) (heals : Healing k h b) (p : Plain C) (is : plain k h ≡ Some p)
    (few : FewerThanHalf p) (l : Laid) (stands : standing b ≡ Some l) (planes : l.planes ≡ p.n) where
  abbrev tape : List ℕ
  tape = reading k.equal k.byte l.planes (side_of l) b.cells

  tape_long : length tape ≡ l.planes
  tape_long = length-map-range_with_len _ 0 l.planes

  not_refused : (o : Option Refusal) → read_questions k.equal b (length tape) ≡ o → read_questions k.equal b (length tape) ≡ None
  not_refused None asked = asked
  not_refused (Some r) asked =
      absurd (both_ways false refl (heals.reads p is few tape tape false b (ap is_some asked, refl, refl) (omega (arith, tape_long))).0)

  accepted : read_questions k.equal b (length tape) ≡ None
  accepted = not_refused _ refl

  no_split : ask_each (plane_question k.equal b.cells (side_of l)) l.planes ≡ None
  no_split =
      sym (cond-true _ _ _ (le-leb l.planes (length tape) (omega (arith, tape_long))))
      ∙ sym (ap (λ o. read_questions_of k.equal o b.cells (length tape)) stands) ∙ accepted

  tape_byte : (i : ℕ) → i < l.planes → option_map k.byte (p.run i) ≡ Some (get_or tape i 0)
  tape_byte i i< =
      let read : Reads k.equal k.byte b tape (tape ++ drop l.planes tape) = record { stood = l; standing_before = stands; out = refl } in
      (heals.reads p is few tape (tape ++ drop l.planes tape) true b (accepted, (read, refl)) (omega (arith, tape_long))).1 i (omega arith)
      ∙ ap Some (get_or_append_left tape (drop l.planes tape) 0 i (omega (arith, tape_long)))

  tape_told : (names : List ℕ) → length names ≡ l.planes → FaultlessTape k p names → last_of k l b.cells ≡ tape_line names
  tape_told names long named =
      ap (λ o. last_line o tape) no_split
      ∙ ap tape_line (ext_get_or 0 tape names (tape_long ∙ sym long)
      (λ i i<. let below : i < l.planes = omega (arith, tape_long) in some_same _ _ (sym (tape_byte i below) ∙ named i (omega (arith, planes)))))

pub reports_tell : {C : Type 0} (k : Members C) → ((x : C) → k.equal x x ≡ true) → AlwaysHeals k → ReportsTell k
reports_tell k reflexive always_heals h b p l d reached is stands =
    let heals = always_heals h b reached in
    let agrees : Agrees p b = subst (λ o. Matches o b) is heals.outside in
    record {
      runs = λ i i<. (line b.cells l.planes (side_of l) d i, sym (line_is_run k reflexive p b agrees l stands d i i<));
      hurt_means = hurts_mean k reflexive p b agrees l stands d;
      hurt_inside = hurts_inside k reflexive p b agrees l stands d;
      marked_inside = inside_marked k reflexive p b agrees l stands d;
      clear_outside = outside_clear k reflexive p b agrees l stands d;
      tape_faultless = λ few. tape_told k h b heals p is few l stands (stood_alike p b agrees l stands).planes;
    }
