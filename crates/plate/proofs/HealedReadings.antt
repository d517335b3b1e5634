-- While the shadow covers fewer than half of the places, the majority of each plane is the faultless run's cell, and a read gives the run.
use Rattle.std.proofs.Common.{◌≡◌, ℕ, ◌+◌, ◌*◌, ◌<◌, ◌≤◌, Bool, true, false, cond, leb, List, ◌++◌, length, get_or, drop, is_some, Some, None, Option, unwrap_or, sym, refl, ap, ◌∙◌, ap₂, inl, inr, zero-add, mul-one, arith}
use Rattle.std.proofs.lemmas.Nat.{mul-add-lt}
use Rattle.std.proofs.lemmas.List.FromFn.{get_or-map-range_with_len, length-map-range_with_len}
use Rattle.std.proofs.lemmas.List.{get_or_append_left, get_or-drop, get_or-take}
use Rattle.std.proofs.lemmas.Bool.{both_ways, cases_Bool, cond-true, le-leb}
use Rattle.std.specs.Option.{option_map}
use Rattle.toom.specs.Torus.{total, count_marks}
use Rattle.hosts.specs.Refusal.{Refusal, ask, ask_each}
use Rattle.hosts.proofs.Questions.{asked_all}
use Rattle.plate.specs.Board.{Board, plane_of}
use Rattle.plate.specs.History.{Read, Outcome}
use Rattle.plate.specs.Layout.{copy_at}
use Rattle.plate.specs.Members.{Members}
use Rattle.plate.specs.Plain.{Plain}
use Rattle.plate.specs.ReadCall.{Reads, holders, majority_of, read_questions, read_questions_of, read_refusal, reading}
use Rattle.plate.proofs.Follows.{Follows, shape_held, stood_alike}
use Rattle.plate.proofs.MajoritiesMeet.{majority_found}
use Rattle.plate.proofs.Places.{plane_whole}
use Rattle.plate.proofs.Standing.{some_same}
use Rattle.plate.proofs.Totals.{sum_by_places, total_by_rows, totals_cover}

module _ {C : Type 0} (k : Members C) (reflexive : (x : C) → k.equal x x ≡ true) (exact : (x y : C) → k.equal x y ≡ true → x ≡ y)
    (p : Plain C) (b : Board C) (follows : Follows p b) (few : 2 * count_marks p.side p.shadow < p.side * p.side) where
  abbrev copies_of : ℕ → List C
  copies_of i = plane_of b.cells p.side i

  copy_is : (i r c : ℕ) (d : C) → r < p.side → c < p.side → get_or (copies_of i) (r * p.side + c) d ≡ get_or b.cells (copy_at p.side i r c) d
  copy_is i r c d r< c< =
      get_or-take (p.side * p.side) (drop (i * (p.side * p.side)) b.cells) (r * p.side + c) d (mul-add-lt r p.side c p.side r< c<)
      ∙ get_or-drop (i * (p.side * p.side)) b.cells (r * p.side + c) d

  module _ (i : ℕ) (i< : i < p.n) (x : C) (is : p.run i ≡ Some x) where
    -- A place is marked, or its copy is the run's cell.
    held_or_marked : (r c : ℕ) → r < p.side → c < p.side
        → 1 ≤ cond (k.equal (get_or (copies_of i) (r * p.side + c) x) x) 1 0 + cond (p.shadow r c) 1 0
    held_or_marked r c r< c< =
        elim (cases_Bool (p.shadow r c)) [
          | inl marked ↦ omega (arith, cond-true {A = ℕ} (p.shadow r c) 1 0 marked)
          | inr clear ↦
              let own : get_or (copies_of i) (r * p.side + c) x ≡ x =
              copy_is i r c x r< c< ∙ some_same _ x (follows.agrees.copies i r c x i< r< c< clear ∙ is) in
              omega (arith, cond-true {A = ℕ} _ 1 0 (ap (λ y. k.equal y x) own ∙ reflexive x))
        ]

    holders_by_rows : holders k.equal x (copies_of i)
        ≡ total (λ r. total (λ c. cond (k.equal (get_or (copies_of i) (r * p.side + c) x) x) 1 0) p.side) p.side
    holders_by_rows =
        sum_by_places (λ y. cond (k.equal y x) 1 0) (copies_of i) x
        ∙ ap (total _) (plane_whole b.cells p.n p.side i (shape_held p b follows.agrees) i<)
        ∙ total_by_rows (λ j. cond (k.equal (get_or (copies_of i) j x) x) 1 0) p.side p.side

    holders_and_marks : p.side * p.side ≤ holders k.equal x (copies_of i) + count_marks p.side p.shadow
    holders_and_marks =
        rw holders_by_rows
        (totals_cover _ _ p.side p.side
        (λ r r<. rw (mul-one p.side) at (totals_cover _ _ 1 p.side (λ c c<. held_or_marked r c r< c<))))

    pub majority_is_run : majority_of k.equal (copies_of i) ≡ Some x
    majority_is_run =
        majority_found k.equal exact (copies_of i) x
        (omega (arith, plane_whole b.cells p.n p.side i (shape_held p b follows.agrees) i<, holders_and_marks))

  some_majority : (i : ℕ) → i < p.n → (x : C) × (p.run i ≡ Some x) × (majority_of k.equal (copies_of i) ≡ Some x)
  some_majority i i< = let x = follows.runs i i< in (x.0, x.1, majority_is_run i i< x.0 x.1)

  -- The questions of a read on a plate of n planes of this side.
  abbrev asked : (n side room : ℕ) → Option Refusal
  asked n side room =
      ask (leb n room) (read_refusal 15 0)
      (ask_each (λ i. ask (is_some (majority_of k.equal (plane_of b.cells side i))) (read_refusal 16 i) None) n)

  -- None refuses a read with enough output.
  read_good : (room : ℕ) → p.n ≤ room → read_questions k.equal b room ≡ None
  read_good room enough =
      ap (λ o. read_questions_of k.equal o b.cells room) follows.agrees.stands
      ∙ ap₂ (λ n side. asked n side room) follows.agrees.planes follows.agrees.sides
      ∙ cond-true _ _ _ (le-leb p.n room enough)
      ∙ asked_all _ p.n (λ i i<. ap (λ o. ask (is_some o) (read_refusal 16 i) None) (some_majority i i<).2)

  read_byte : (i : ℕ) → i < p.n → option_map k.byte (p.run i) ≡ Some (get_or (reading k.equal k.byte p.n p.side b.cells) i 0)
  read_byte i i< =
      let x = some_majority i i< in
      let byte : get_or (reading k.equal k.byte p.n p.side b.cells) i 0 ≡ k.byte x.0 =
      get_or-map-range_with_len (λ j. unwrap_or (option_map k.byte (majority_of k.equal (copies_of j))) 0) 0 p.n i i 0 i< (zero-add i)
      ∙ ap (λ o. unwrap_or (option_map k.byte o) 0) x.2 in
      ap (option_map k.byte) x.1 ∙ ap Some (sym byte)

  -- The output begins with the reading.
  read_front : (before after : List ℕ) → Reads k.equal k.byte b before after → (i : ℕ) → i < p.n
      → get_or after i 0 ≡ get_or (reading k.equal k.byte p.n p.side b.cells) i 0
  read_front before after reads i i< =
      let alike = stood_alike p b follows.agrees reads.stood reads.standing_before in
      ap (λ out. get_or out i 0)
      (reads.out ∙ ap₂ (λ n side. reading k.equal k.byte n side b.cells ++ drop n before) alike.planes alike.sides)
      ∙ get_or_append_left (reading k.equal k.byte p.n p.side b.cells) (drop p.n before) 0 i
      (rw (length-map-range_with_len _ 0 p.n) i<)

  pub read_gives_run : (before after : List ℕ) (accepted : Bool) (b' : Board C) → Outcome k (Read before after) accepted b b' → p.n ≤ length before
      → (accepted ≡ true) × ((i : ℕ) → i < p.n → option_map k.byte (p.run i) ≡ Some (get_or after i 0))
  read_gives_run before after true b' outcome enough =
      (refl, λ i i<. read_byte i i< ∙ ap Some (sym (read_front before after outcome.1.0 i i<)))
  read_gives_run before after false b' outcome enough =
      absurd (both_ways (is_some (read_questions k.equal b (length before))) (ap is_some (read_good (length before) enough)) outcome.0)
