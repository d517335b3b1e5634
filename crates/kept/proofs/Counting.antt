-- What has been counted of a kept file while some of it is left to read.
use Rattle.std.proofs.Common.{◌≡◌, ℕ, ◌+◌, ◌≤◌, Bool, cond, List, [], ◌∷◌, ◌++◌, length, refl, sym, ap, ◌∙◌, append_assoc, append-nil, Ok, Result, MatchResult, arith}
use Rattle.std.specs.List.{AllByRecursion, AllZip, count_by, flat_map}
use Rattle.std.proofs.lemmas.Grind.{common_steps}
use Rattle.std.proofs.lemmas.List.Concat.{flat_map-append}
use Rattle.std.proofs.lemmas.List.Sums.{sum_by-append}
use Rattle.std.proofs.lemmas.Result.{MatchResult-at_ok}
use Rattle.kept.specs.declared.kept.CutOff.{CutOff}
use Rattle.kept.specs.declared.kept.KeptRound.{KeptRound}
use Rattle.kept.specs.declared.tally.Tally.{Tally}
use Rattle.kept.specs.Agreement.{Compared}
use Rattle.kept.specs.KeptFile.{IsKeepable, NoPairFirst, Pair, PairFirst, pair_bytes, pair_of}
use Rattle.kept.proofs.Pairs.{shorter}

abbrev pub PairCompared : Pair → Bool → Type 0
PairCompared pair agrees = Compared pair.file pair.reply agrees

-- The pairs that were read, and whether each agrees. There are no more of them than bytes that were read.
pub record Counted (bytes rest : List ℕ) (tally : Tally) : Type 0 where
  pub pairs : List Pair
  pub agree : List Bool
  pub whole : bytes ≡ flat_map pair_bytes pairs ++ rest
  pub each : AllByRecursion IsKeepable pairs
  pub compared : AllZip PairCompared pairs agree
  pub rounds : tally.rounds ≡ length pairs
  pub agreeing : tally.agreeing ≡ count_by (λ agrees. agrees) agree
  pub room : tally.rounds + length rest ≤ length bytes
  pub fewer : tally.agreeing ≤ tally.rounds

pub none_counted : (bytes : List ℕ) → Counted bytes bytes record { rounds = 0; agreeing = 0 }
none_counted bytes = record {
  pairs = [];
  agree = [];
  whole = refl;
  each = tt;
  compared = tt;
  rounds = refl;
  agreeing = refl;
  room = omega arith;
  fewer = omega arith;
}

each_more : {X : Type 0} (P : X → Type 0) (xs : List X) (x : X) → AllByRecursion P xs → P x → AllByRecursion P (xs ++ x ∷ [])
each_more P [] x all here = (here, tt)
each_more P (y ∷ xs) x all here = (all.0, each_more P xs x all.1 here)

zip_more : {A B : Type 0} (R : A → B → Type 0) (xs : List A) (ys : List B) (x : A) (y : B) → AllZip R xs ys → R x y
    → AllZip R (xs ++ x ∷ []) (ys ++ y ∷ [])
zip_more R [] [] x y all here = (here, tt)
zip_more R [] (b ∷ ys) x y all here = absurd all
zip_more R (a ∷ xs) [] x y all here = absurd all
zip_more R (a ∷ xs) (b ∷ ys) x y all here = (all.0, zip_more R xs ys x y all.1 here)

count_more : (agree : List Bool) (agrees : Bool)
    → count_by (λ agrees. agrees) (agree ++ agrees ∷ []) ≡ count_by (λ agrees. agrees) agree + cond agrees 1 0
count_more agree agrees = sum_by-append (λ agrees. cond agrees 1 0) agree (agrees ∷ []) ∙ omega arith

pub round_read : (before after : List ℕ) (item : Result KeptRound CutOff) (round : KeptRound) → item ≡ Ok round
    → MatchResult item (λ round. PairFirst before (pair_of round) after) (λ _. NoPairFirst before × (after ≡ []))
    → PairFirst before (pair_of round) after
round_read before after item round is =
    MatchResult-at_ok (λ round. PairFirst before (pair_of round) after) (λ _. NoPairFirst before × (after ≡ [])) round is

module _ (bytes rest : List ℕ) (tally : Tally) (old : Counted bytes rest tally) where
  pub one_more : (pair : Pair) (later : List ℕ) (agrees : Bool) (more : Tally) → PairFirst rest pair later → PairCompared pair agrees
      → more.rounds ≡ tally.rounds + 1 → more.agreeing ≡ tally.agreeing + cond agrees 1 0 → Counted bytes later more
  one_more pair later agrees more first compares rounds agreeing = record {
    pairs = old.pairs ++ pair ∷ [];
    agree = old.agree ++ agrees ∷ [];
    whole = old.whole ∙ ap (λ l. flat_map pair_bytes old.pairs ++ l) first.whole
        ∙ sym (append_assoc (flat_map pair_bytes old.pairs) (pair_bytes pair) later)
        ∙ ap (λ l. l ++ later) (sym (flat_map-append pair_bytes old.pairs (pair ∷ []) ∙ ap (λ l. flat_map pair_bytes old.pairs ++ l) (append-nil (pair_bytes pair))));
    each = each_more IsKeepable old.pairs pair old.each first.keepable;
    compared = zip_more PairCompared old.pairs old.agree pair agrees old.compared compares;
    rounds = grind (arith, common_steps, rounds, old.rounds);
    agreeing = omega (arith, agreeing, old.agreeing, count_more old.agree agrees);
    room = omega (arith, shorter rest pair later first, old.room, rounds);
    fewer = grind (arith, common_steps, old.fewer, rounds, agreeing);
  }
