-- Planes that are the same on the torus: the neighbours of its places are on it, so their votes are the same; and so are the sums of their marks.
use Rattle.std.proofs.Common.{Bool, cond, ap}
use Rattle.toom.specs.Torus.{SameCounts, next}
use Rattle.toom.specs.Vote.{SameVotes, vote_of}
use Rattle.toom.proofs.Modular.{next_below}
use Rattle.toom.proofs.RowWords.{total_same}

pub same_votes : {C : Type 0} (equal : C → C → Bool) → SameVotes equal
same_votes equal side plane other same r c r< c< =
    let north = same (next side r) c (next_below side r r<) c< in
    let east = same r (next side c) r< (next_below side c c<) in
    let own = same r c r< c< in
    λ j. vote_of equal (north j) (east j) (own j)

pub same_counts : SameCounts
same_counts side plane other same =
    total_same _ _ side (λ r r<. total_same _ _ side (λ c c<. ap (λ mark. cond mark 1 0) (same r c r< c<)))
