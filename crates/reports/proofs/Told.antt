-- What the plate answers to a report, and that the page of these answers is the report.
use Rattle.std.proofs.Common.{◌≡◌, ℕ, ◌*◌, ◌<◌, ◌≤◌, List, ◌++◌, map, length, get_or, replicate, take, drop, Some, None, Ok, Err, Option, Result, sym, refl, ap, ◌∙◌, arith}
use Rattle.std.proofs.lemmas.Nat.{mul-le}
use Rattle.std.proofs.lemmas.List.FromFn.{get_or-map-range_with_len, length-map-range_with_len}
use Rattle.std.proofs.lemmas.List.{append-nil, drop_all, length-replicate, length-take-le, take_at}
use Rattle.std.proofs.lemmas.Bool.{cond-true, le-leb}
use Rattle.std.specs.Borrow.{Bor}
use Rattle.std.specs.List.{range_with_len}
use Rattle.toom.specs.Shadow.{marks}
use Rattle.hosts.specs.Refusal.{Refusal, ask_each}
use Rattle.plate.specs.declared.laid.Laid.{Laid}
use Rattle.plate.specs.Board.{Board, side_of, standing}
use Rattle.plate.specs.MapCall.{Maps, hurt_at, map_questions, map_questions_of}
use Rattle.plate.specs.Members.{Members}
use Rattle.plate.specs.ReadCall.{Reads, plane_question, read_questions, read_questions_of, reading}
use Rattle.plate.proofs.PinnedLaid.{one_stands}
use Rattle.reports.specs.declared.fault.ReportFault.{ReportFault}
use Rattle.reports.specs.declared.fault.ReportFault.TheVariants.{Bare, Output}
use Rattle.reports.specs.Page.{page_of, reading_line}
use Rattle.reports.specs.Report.{last_line, last_of, page, report_of, tape_line}
use Rattle.reports.specs.ReportCall.{report_questions, report_questions_of}
use Rattle.reports.specs.TapeCall.{TapeRead, tape_fault}
use Rattle.reports.proofs.SamePages.{page_same}
use Rattle.reports.proofs.Splits.{split_any}

module _ {C : Type 0} (k : Members C) (b : Board C) (l : Laid) (stands : standing b ≡ Some l) (narrow : side_of l ≤ 64) where
  abbrev area : ℕ
  area = side_of l * side_of l

  area_low : area ≤ 4096
  area_low = mul-le (side_of l) (side_of l) 64 64 narrow narrow

  abbrev split_asked : Option Refusal
  split_asked = ask_each (plane_question k.equal b.cells (side_of l)) l.planes

  -- With room for the greatest plate the questions of each call find no fault of the plate or of the room.
  pub report_asked : (room : ℕ) → 12396 ≤ room → report_questions b room ≡ None
  report_asked room enough = ap (λ o. report_questions_of o room) stands ∙ cond-true _ _ _ (le-leb 12396 room enough)

  map_asked : (room : ℕ) → 4096 ≤ room → map_questions b room ≡ None
  map_asked room enough = ap (λ o. map_questions_of o room) stands ∙ cond-true _ _ _ (le-leb area room (omega (arith, area_low)))

  read_asked : (room : ℕ) → l.planes ≤ room → read_questions k.equal b room ≡ split_asked
  read_asked room enough =
      ap (λ o. read_questions_of k.equal o b.cells room) stands ∙ cond-true _ _ _ (le-leb l.planes room enough)

  pub map_accepted : (room : ℕ) (r : Refusal) → 4096 ≤ room → map_questions b room ≡ Some r → ⊥
  map_accepted room r enough refused =
      let none = map_asked room enough in
      let z : ◌≡◌ {A = ℕ} 0 1 = cc in omega arith

  tape_fault_low : (e : ReportFault) → (tape_fault e).number ≡ 16 → ⊥
  tape_fault_low Bare is = omega arith
  tape_fault_low Output is = omega arith

  -- The tape before the read.
  abbrev pub blank : List ℕ
  blank = take l.planes (replicate 4096 0)

  blank_long : length blank ≡ l.planes
  blank_long = length-take-le l.planes (replicate 4096 0) (omega (arith, length-replicate {A = ℕ} 4096 0, l.few))

  read_told : read_questions k.equal b (length blank) ≡ split_asked
  read_told = read_asked (length blank) (omega (arith, blank_long))

  pub read_accepted : (e : ReportFault) → read_questions k.equal b (length blank) ≡ Some (tape_fault e) → ⊥
  read_accepted e refused =
      tape_fault_low e
      (split_any (λ r. r.number ≡ 16) k.equal b.cells (side_of l) l.planes (λ i within. refl) (tape_fault e) (sym read_told ∙ refused))

  -- The map and the side, as the calls give them.
  module _ {zeros hurts : List ℕ} (maps : Maps k.equal b zeros hurts) (side : ℕ) (sides : side ≡ side_of l) where
    hurts_are : (d : C) → take area hurts ≡ map (hurt_at k.equal l.planes (side_of l) b.cells d) (range_with_len 0 area)
    hurts_are d =
        let same = one_stands b maps.stood l maps.standing_before stands in
        ap (take area) (maps.out d ∙ ap (λ m. map (hurt_at k.equal m.planes (side_of m) b.cells d) (range_with_len 0 (side_of m * side_of m))
        ++ drop (side_of m * side_of m) zeros) same)
        ∙ take_at _ (drop area zeros) area (length-map-range_with_len _ 0 area)

    hurt_is : (d : C) (j : ℕ) → j < area → get_or (take area hurts) j 0 ≡ hurt_at k.equal l.planes (side_of l) b.cells d j
    hurt_is d j within = ap (λ hs. get_or hs j 0) (hurts_are d) ∙ get_or-map-range_with_len _ 0 area j j 0 within (omega arith)

    pub map_long : 4096 ≤ length hurts → length (take (side * side) hurts) ≡ area
    map_long enough = ap (λ s. length (take (s * s) hurts)) sides ∙ length-take-le area hurts (omega (arith, area_low))

    abbrev tape : List ℕ
    tape = reading k.equal k.byte l.planes (side_of l) b.cells

    tape_is : (after : List ℕ) → Reads k.equal k.byte b blank after → after ≡ tape
    tape_is after is =
        let same = one_stands b is.stood l is.standing_before stands in
        is.out ∙ ap (λ m. reading k.equal k.byte m.planes (side_of m) b.cells ++ drop m.planes blank) same
        ∙ ap (λ xs. tape ++ xs) (drop_all l.planes blank (omega (arith, blank_long))) ∙ append-nil tape

    -- The reading, or the plane that has none.
    last_told : (o : Result (Bor (List ℕ)) ℕ) → TapeRead k b blank o → reading_line o ≡ last_of k l b.cells
    last_told (Ok after) is = ap tape_line (tape_is after.now is.1) ∙ ap (λ o. last_line o tape) (sym is.0 ∙ read_told)
    last_told (Err plane) is = ap (λ o. last_line o tape) (sym is ∙ read_told)

    pub told : (o : Result (Bor (List ℕ)) ℕ) → TapeRead k b blank o → (d : C) → page_of l (take (side * side) hurts) o ≡ report_of k l b.cells d
    told o reads d =
        ap (λ s. page_of l (take (s * s) hurts) o) sides
        ∙ page_same (side_of l) _ _ (hurt_is d) (marks l.shadow) l.age _
        ∙ ap (page l.age (side_of l) _ (marks l.shadow)) (last_told o reads)
