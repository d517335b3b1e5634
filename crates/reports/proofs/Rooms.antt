-- How long the parts of a report are.
use Rattle.std.proofs.Common.{◌≡◌, ℕ, ◌+◌, ◌*◌, ◌^◌, ◌<◌, ◌≤◌, Bool, List, [], ◌∷◌, ◌++◌, length, Some, None, codes, decimal, Option, sym, refl, ap, ◌∙◌, suc-mul, zero-mul, arith}
use Rattle.std.proofs.lemmas.Nat.{mul-le}
use Rattle.std.proofs.lemmas.List.FromFn.{length-range_with_len, length-map-range_with_len}
use Rattle.std.proofs.lemmas.Fmt.{length-decimal-le}
use Rattle.std.proofs.lemmas.List.{length-append}
use Rattle.std.specs.List.{range_with_len, flat_map}
use Rattle.toom.specs.Shadow.{marks}
use Rattle.toom.specs.Torus.{Plane, count_marks, total}
use Rattle.hosts.specs.Refusal.{Refusal, ask_each}
use Rattle.plate.specs.declared.laid.Laid.{Laid}
use Rattle.plate.specs.Board.{side_of}
use Rattle.plate.specs.MapCall.{hurt_at}
use Rattle.plate.specs.Members.{Members}
use Rattle.plate.specs.ReadCall.{plane_question, reading}
use Rattle.reports.specs.Hex.{pair}
use Rattle.reports.specs.Report.{last_line, number_line, page, report_of, row_line, rows, tape_line}
use Rattle.reports.specs.Text.{line_end}
use Rattle.reports.proofs.Splits.{IfAny, split_any}
use Rattle.reports.proofs.Totals.{map_low, marks_low}

joined_long : {X : Type 0} (f : X → List ℕ) (m : ℕ) → ((x : X) → length (f x) ≡ m) → (xs : List X) → length (flat_map f xs) ≡ length xs * m
joined_long f m each [] = sym (zero-mul m)
joined_long f m each (x ∷ xs) =
    omega (arith, length-append (f x) (flat_map f xs), each x, joined_long f m each xs, suc-mul (length xs) m)

-- A line of a number with at most m digits.
number_long : (word : List ℕ) (m n : ℕ) → 0 < m → n < 10 ^ m → n < 2 ^ 64 → length (number_line word n) ≤ length word + m + 1
number_long word m n some low small =
    omega (arith, length-append (word ++ decimal n) line_end, length-append word (decimal n), length-decimal-le m n some low small)

tape_long : (tape : List ℕ) → length (tape_line tape) ≡ 2 * length tape + 6
tape_long tape =
    omega (
      arith,
      length-append (codes "tape " ++ flat_map pair tape) line_end,
      length-append (codes "tape ") (flat_map pair tape),
      joined_long pair 2 (λ byte. refl) tape,
    )

rows_long : (side : ℕ) (hurts : ℕ → ℕ) (shadow : Plane Bool) → length (rows side hurts shadow) ≡ side * (side + 1)
rows_long side hurts shadow =
    joined_long (row_line side hurts shadow) (side + 1)
    (λ r. length-append _ line_end ∙ ap (λ n. n + 1) (length-map-range_with_len _ 0 side)) (range_with_len 0 side)
    ∙ ap (λ n. n * (side + 1)) (length-range_with_len 0 side)

parts_fit : (a b c d e : List ℕ) → length a ≤ 12 → length b ≤ 12 → length c ≤ 14 → length d ≤ 4160 → length e ≤ 8198
    → length (a ++ (b ++ (c ++ (d ++ e)))) ≤ 12396
parts_fit a b c d e p q r s t = simp length-append (omega arith)

page_fits : (age side : ℕ) (hurts : ℕ → ℕ) (shadow : Plane Bool) (last : List ℕ) → age ≤ 1048575 → side ≤ 64
    → total hurts (side * side) ≤ 16777216 → length last ≤ 8198 → length (page age side hurts shadow last) ≤ 12396
page_fits age side hurts shadow last young narrow low short =
    let few = marks_low side shadow narrow in
    let tall = mul-le side (side + 1) 64 65 narrow (omega arith) in
    parts_fit (number_line (codes "age ") age) (number_line (codes "shadow ") (count_marks side shadow))
    (number_line (codes "hurt ") (total hurts (side * side))) (rows side hurts shadow) last
    (number_long (codes "age ") 7 age (omega arith) (omega arith) (omega arith))
    (number_long (codes "shadow ") 4 (count_marks side shadow) (omega arith) (omega arith) (omega arith))
    (number_long (codes "hurt ") 8 (total hurts (side * side)) (omega arith) (omega arith) (omega arith))
    (omega (arith, rows_long side hurts shadow)) short

reading_long : {C : Type 0} (equal : C → C → Bool) (byte : C → ℕ) (n side : ℕ) (cells : List C) → length (reading equal byte n side cells) ≡ n
reading_long equal byte n side cells = length-map-range_with_len _ 0 n

last_fits : (o : Option Refusal) (tape : List ℕ) → IfAny (λ r. r.place < 4096) o → length tape ≤ 4096 → length (last_line o tape) ≤ 8198
last_fits None tape low short = omega (arith, tape_long tape)
last_fits (Some r) tape low short =
    let within = low r refl in
    omega (arith, number_long (codes "no majority ") 4 r.place (omega arith) (omega arith) (omega arith))

pub report_fits : {C : Type 0} (k : Members C) (l : Laid) → side_of l ≤ 64 → (cells : List C) (d : C) → length (report_of k l cells d) ≤ 12396
report_fits k l narrow cells d =
    let side = side_of l in
    page_fits l.age side (hurt_at k.equal l.planes side cells d) (marks l.shadow) (last_line _ _) l.young narrow
    (map_low k.equal l.planes side cells d l.few narrow)
    (last_fits (ask_each (plane_question k.equal cells side) l.planes) (reading k.equal k.byte l.planes side cells)
    (split_any (λ r. r.place < 4096) k.equal cells side l.planes (λ i within. omega (arith, l.few)))
    (omega (arith, reading_long k.equal k.byte l.planes side cells, l.few)))
