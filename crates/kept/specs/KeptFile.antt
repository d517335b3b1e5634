-- A kept file: round files one after another, each with the reply that is kept for it.
use Rattle.std.specs.Prelude.{◌≡◌, ℕ, ◌^◌, ◌<◌, List, [], ◌++◌, length, Option, Result}
use Rattle.std.specs.Borrow.{Bor}
use Rattle.std.specs.Int.{w32, to_be_bytes}
use Rattle.std.specs.List.{AllByRecursion, flat_map}
use Rattle.std.specs.Option as options
use Rattle.std.specs.Result as results
use Rattle.kept.specs.declared.kept.CutOff.{CutOff}
use Rattle.kept.specs.declared.kept.Kept.{Kept}
use Rattle.kept.specs.declared.kept.KeptRound.{KeptRound}

-- A round file and a reply.
pub record Pair : Type 0 where
  pub file : List ℕ
  pub reply : List ℕ

-- A byte string stands in the file after its length, a number of four bytes, the highest first.
unfoldable pub string : List ℕ → List ℕ
string bytes = to_be_bytes w32 (length bytes) ++ bytes

-- A pair stands there as its two byte strings, the round file first.
abbrev pub pair_bytes : Pair → List ℕ
pair_bytes pair = string pair.file ++ string pair.reply

-- Their lengths are numbers of four bytes.
pub record IsKeepable (pair : Pair) : Type 0 where
  pub file : length pair.file < 2 ^ 32
  pub reply : length pair.reply < 2 ^ 32

-- The bytes are these pairs, in order, and nothing more.
pub record Keeps (bytes : List ℕ) (pairs : List Pair) : Type 0 where
  pub whole : bytes ≡ flat_map pair_bytes pairs
  pub each : AllByRecursion IsKeepable pairs

-- A byte string stands at the front of the bytes, and the later ones follow it.
pub record StringFirst (bytes first later : List ℕ) : Type 0 where
  pub whole : bytes ≡ string first ++ later
  pub short : length first < 2 ^ 32

-- The byte string at the front and what follows it; or none, and then no byte string stands there.
abbrev pub StringCut : List ℕ → Option (Bor (List ℕ) × Bor (List ℕ)) → Type 0
StringCut bytes r =
    options.MatchOption r ((first later : List ℕ) → StringFirst bytes first later → ⊥) (λ cut. StringFirst bytes cut.0.now cut.1.now)

-- A pair stands at the front of the bytes, and the later ones follow it.
pub record PairFirst (bytes : List ℕ) (pair : Pair) (later : List ℕ) : Type 0 where
  pub whole : bytes ≡ pair_bytes pair ++ later
  pub keepable : IsKeepable pair

-- At most one pair stands at the front of bytes, and at most one list of pairs is all of them.
pub record PairsPin : Type 0 where
  pub front : (bytes : List ℕ) (one other : Pair) (later later' : List ℕ) → PairFirst bytes one later → PairFirst bytes other later'
      → (one ≡ other) × (later ≡ later')
  pub whole : (bytes : List ℕ) (one other : List Pair) → Keeps bytes one → Keeps bytes other → one ≡ other

-- No pair stands at the front.
abbrev pub NoPairFirst : List ℕ → Type 0
NoPairFirst bytes = (pair : Pair) (later : List ℕ) → PairFirst bytes pair later → ⊥

-- What the two slices of the code's round hold.
abbrev pub pair_of : KeptRound → Pair
pair_of round = record { file = round.file.now; reply = round.reply.now }

-- The pair at the front and what follows it; or none, and then no pair stands there.
abbrev pub RoundCut : List ℕ → Option (KeptRound × Bor (List ℕ)) → Type 0
RoundCut bytes r = options.MatchOption r (NoPairFirst bytes) (λ cut. PairFirst bytes (pair_of cut.0) cut.1.now)

-- What the reader answers, and what it leaves to be read: none if no bytes are left; else the pair at the front, and then what follows it is left;
-- or, if no pair stands there, that the file is malformed, and then nothing is left.
abbrev pub Yields : (before : Kept) → Option (Result KeptRound CutOff) → (after : Kept) → Type 0
Yields before r after =
    options.MatchOption r ((before.rest.now ≡ []) × (after ≡ before))
    (λ item. (before.rest.now ≡ [] → ⊥)
    × results.MatchResult item (λ round. PairFirst before.rest.now (pair_of round) after.rest.now)
    (λ _. NoPairFirst before.rest.now × (after.rest.now ≡ [])))
