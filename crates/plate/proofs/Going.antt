-- An answered call carries every history on, and the healing laws with it; and so do calls that are asked together.
use Rattle.std.proofs.Common.{true, false, List, ◌∷◌, Ok, Err, Option, Result, sym, subst}
use Rattle.hosts.specs.Refusal.{Refusal}
use Rattle.plate.specs.Board.{Board}
use Rattle.plate.specs.Healing.{AlwaysHeals}
use Rattle.plate.specs.History.{Call, Reached, more}
use Rattle.plate.specs.Leads.{AnswersCalls, GoesOnBy, with_calls}
use Rattle.plate.specs.Members.{Members}
use Rattle.plate.specs.Plates.{Answers, GoesOn}
use Rattle.plate.proofs.Leading.{reached_with}

pub goes_on : {C X E : Type 0} (k : Members C) → AlwaysHeals k
    → (refusal : E → Refusal) (call : Call C) (r : Result X E) (b b' : Board C) → Answers k refusal call r b b' → GoesOn k call r b b'
goes_on k heals refusal call (Ok x) b b' o h reached =
    let now = more call true reached o in (now, heals ((call, true) ∷ h) b' now)
goes_on k heals refusal call (Err e) b b' o h reached =
    let now = more call false reached o.1 in (now, heals ((call, false) ∷ h) b' now)

pub goes_on_by : {C X E : Type 0} (k : Members C) → AlwaysHeals k
    → (refusal : E → Refusal) (asked : Option Refusal) (calls : List (Call C)) (r : Result X E) (b b' : Board C)
    → AnswersCalls k refusal asked calls r b b' → GoesOnBy k calls r b b'
goes_on_by k heals refusal asked calls (Ok x) b b' o h reached =
    let later = reached_with k calls h b b' reached o.1 in (later, heals (with_calls calls h) b' later)
goes_on_by k heals refusal asked calls (Err e) b b' o h reached =
    let stays = subst (Reached k h) (sym o.1) reached in (stays, heals h b' stays)
