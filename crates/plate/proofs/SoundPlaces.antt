-- Places that are no wounds, added to a set one after another.
use Rattle.std.proofs.Common.{◌≡◌, ℕ, ◌<◌, Bool, Option, Some, refl, ◌∙◌, subst, inl, inr, arith}
use Rattle.toom.specs.declared.shadow.Shadow.{Shadow}
use Rattle.toom.specs.Torus.{Plane, next}
use Rattle.toom.specs.Shadow.{IsShadow, marks, no_marks}
use Rattle.toom.specs.ShadowCalls.{Emptied}
use Rattle.plate.specs.Beside.{InEither, ReadsEither, SoundAdded}
use Rattle.plate.proofs.SweptPlaces.{next_below}

pub emptied : (side : ℕ) (r : Option Shadow) (s : Shadow) → Emptied side r → r ≡ Some s → IsShadow s side no_marks
emptied side r s is same = subst (λ m. Emptied side m) same is

module _ (wounds : Plane Bool) where
  pub added_none : (s : Shadow) → SoundAdded wounds s s
  added_none s = record { side = refl; stay = λ r c hr hc marked. marked; sound = λ r c hr hc marked. inl marked }

  pub added_more : (s t u : Shadow) → SoundAdded wounds s t → SoundAdded wounds t u → SoundAdded wounds s u
  added_more s t u first second = record {
    side = second.side ∙ first.side;
    stay = λ r c hr hc marked.
        second.stay r c (omega (arith, first.side)) (omega (arith, first.side)) (first.stay r c hr hc marked);
    sound = λ r c hr hc marked.
        elim (second.sound r c (omega (arith, first.side)) (omega (arith, first.side)) marked) [
          | inl before ↦ first.sound r c hr hc before
          | inr out ↦ inr out
        ];
  }

  module _ (s t : Shadow) (added : SoundAdded wounds s t) where
    pub either_stays : (r c : ℕ) → r < s.side → c < s.side → InEither wounds (marks s) r c → InEither wounds (marks t) r c
    either_stays r c hr hc either = elim either [ inl wound ↦ inl wound | inr marked ↦ inr (added.stay r c hr hc marked) ]

    pub reads_stay : (side r c : ℕ) → s.side ≡ side → r < side → c < side → ReadsEither side wounds (marks s) r c → ReadsEither side wounds (marks t) r c
    reads_stay side r c sides hr hc reads = (
      either_stays (next side r) c (omega (arith, sides, next_below side r hr)) (omega (arith, sides)) reads.0,
      either_stays r (next side c) (omega (arith, sides)) (omega (arith, sides, next_below side c hc)) reads.1,
    )
