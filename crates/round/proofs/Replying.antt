-- A reply whose error is mapped is still that reply.
use Rattle.std.proofs.Common.{◌≡◌, ℕ, List, replicate, IfOk, Some, Ok, Err, Result, MatchResult, is_ok, sym, ◌∙◌, subst}
use Rattle.plate.specs.Members.{Members}
use Rattle.rounds.specs.declared.fault.RefusedFault.{RefusedFault}
use Rattle.rounds.specs.Memory.{round_cells}
use Rattle.rounds.specs.PlayCall.{Entrant}
use Rattle.rounds.specs.ReplyCall.{Replies}
use Rattle.round.specs.Answer.{Replied}

-- What holds of an answer holds of it once its error is mapped.
pub ok_kept : {X D E : Type 0} (r : Result X D) (s : Result X E) (P : X → Type 0) (Q : D → Type 0) → MatchResult r (λ x. s ≡ Ok x) Q
    → is_ok s ≡ is_ok r → IfOk r P → IfOk s P
ok_kept (Ok x) s P Q cases variant holds = subst (λ s. IfOk s P) (sym cases) holds
ok_kept (Err d) (Ok x) P Q cases variant holds = cc
ok_kept (Err d) (Err e) P Q cases variant holds = tt

pub replied : {C H : Type 0} (k : Members C) (e : Entrant C H) (file : List ℕ) (r : Result ℕ RefusedFault) (made cells cells' : List C) (out out' : List ℕ)
    (blank : C) → k.named 0 ≡ Some blank → made ≡ replicate round_cells blank → cells ≡ made → Replies k e file r cells cells' out out'
    → IfOk r (λ n. Replied k e file n out out')
replied k e file (Ok n) made cells cells' out out' blank named all same replies = record {
  blank = blank;
  cells' = cells';
  named = named;
  replies = subst (λ c. Replies k e file (Ok n) c cells' out out') (same ∙ all) replies;
}
replied k e file (Err f) made cells cells' out out' blank named all same replies = tt
