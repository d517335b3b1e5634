-- The pair at the front of bytes, and that bytes keep one list of pairs at most.
use Rattle.std.proofs.Common.{◌≡◌, ℕ, ◌+◌, ◌≤◌, List, [], ◌∷◌, ◌++◌, length, refl, sym, ap, ap₂, ◌∙◌, append_assoc, arith}
use Rattle.std.specs.List.{AllByRecursion, flat_map}
use Rattle.std.proofs.lemmas.Grind.{common_steps}
use Rattle.kept.specs.KeptFile.{IsKeepable, NoPairFirst, PairsPin, Pair, PairFirst, StringFirst, pair_bytes, string}
use Rattle.kept.proofs.Strings.{string_length, one_string}

-- A pair at the front is two byte strings, one after the other.
module _ (bytes : List ℕ) (pair : Pair) (later : List ℕ) (is : PairFirst bytes pair later) where
  file_first : StringFirst bytes pair.file (string pair.reply ++ later)
  file_first = record { whole = is.whole ∙ append_assoc (string pair.file) (string pair.reply) later; short = is.keepable.file }

  reply_second : StringFirst (string pair.reply ++ later) pair.reply later
  reply_second = record { whole = refl; short = is.keepable.reply }

  pub shorter : length later + 8 ≤ length bytes
  shorter =
      let whole = ap length is.whole in
      let file = string_length pair.file in
      let reply = string_length pair.reply in
      grind (arith, common_steps, whole, file, reply)

-- No pair stands where no byte string follows the round file.
pub no_reply : (bytes file between : List ℕ) → StringFirst bytes file between → ((first later : List ℕ) → StringFirst between first later → ⊥)
    → NoPairFirst bytes
no_reply bytes file between first none pair later is =
    let same = one_string bytes file pair.file between (string pair.reply ++ later) first (file_first bytes pair later is) in
    none pair.reply later record { whole = same.1; short = is.keepable.reply }

-- One pair at most stands at the front, and one list of bytes follows it.
one_pair : (bytes : List ℕ) (p q : Pair) (x y : List ℕ) → PairFirst bytes p x → PairFirst bytes q y → (p ≡ q) × (x ≡ y)
one_pair bytes p q x y one other =
    let files = one_string bytes p.file q.file _ _ (file_first bytes p x one) (file_first bytes q y other) in
    let second : StringFirst (string p.reply ++ x) q.reply y = record { whole = files.1; short = other.keepable.reply } in
    let replies = one_string (string p.reply ++ x) p.reply q.reply x y (reply_second bytes p x one) second in
    (ap₂ (λ file reply. record { file = file; reply = reply }) files.0 replies.0, replies.1)

-- The same of two lists of pairs, since a pair has bytes.
one_list : (ps qs : List Pair) → flat_map pair_bytes ps ≡ flat_map pair_bytes qs → AllByRecursion IsKeepable ps → AllByRecursion IsKeepable qs
    → ps ≡ qs
one_list [] [] e a b = refl
one_list [] (q ∷ qs) e a b = absurd (omega (arith, shorter [] q (flat_map pair_bytes qs) record { whole = e; keepable = b.0 }))
one_list (p ∷ ps) [] e a b = absurd (omega (arith, shorter [] p (flat_map pair_bytes ps) record { whole = sym e; keepable = a.0 }))
one_list (p ∷ ps) (q ∷ qs) e a b =
    let left = flat_map pair_bytes ps in
    let right = flat_map pair_bytes qs in
    let first : PairFirst (pair_bytes p ++ left) p left = record { whole = refl; keepable = a.0 } in
    let second : PairFirst (pair_bytes p ++ left) q right = record { whole = e; keepable = b.0 } in
    let same = one_pair (pair_bytes p ++ left) p q left right first second in
    ap₂ (λ x xs. x ∷ xs) same.0 (one_list ps qs same.1 a.1 b.1)

pub pins : PairsPin
pins = record {
  front = one_pair;
  whole = λ bytes ps qs keeps keeps'. one_list ps qs (sym keeps.whole ∙ keeps'.whole) keeps.each keeps'.each;
}
