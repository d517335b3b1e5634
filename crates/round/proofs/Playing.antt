-- The reply to what was read is put after what was written.
use Rattle.std.proofs.Common.{◌≡◌, ℕ, ◌+◌, ◌≤◌, List, ◌++◌, IfSome, None, Some, Option, length, drop, replicate, take, sym, ap, ◌∙◌, subst, length-take-le}
use Rattle.std.proofs.Math.Seq.{take-append_seam}
use Rattle.std.proofs.lemmas.List.{length-replicate}
use Rattle.std.specs.Io.KnownBytes.{Appends}
use Rattle.reports.specs.ReportCall.{report_bytes}
use Rattle.rounds.specs.RoundFile.{max_round}
use Rattle.round.specs.Answer.{Answered, AppendsReply}
use Rattle.round.proofs.Elsewhere.{answered_elsewhere}

module _ (before after : Option (List ℕ)) (room n : ℕ) (buffer file : List ℕ) (written : ℕ) (left out shown : List ℕ) where
  pub reply_put : (source : Option (List ℕ)) → room ≡ (max_round + 1) → IfSome source (λ bytes. take n buffer ≡ take room bytes) → file ≡ take n buffer
      → length left ≡ report_bytes → Answered file written left out → written ≤ length out → shown ≡ out → Appends before after (take written shown)
      → IfSome source (λ bytes. AppendsReply (take (max_round + 1) bytes) before after)
  reply_put None whole read front long answered within shows appends = tt
  reply_put (Some bytes) whole read front long answered within shows appends =
      let of : file ≡ take (max_round + 1) bytes = front ∙ read ∙ ap (λ m. take m bytes) whole in
      let zeros = replicate report_bytes 0 in
      let rest = drop written zeros in
      let text = ap (take written) shows in (
        take written out,
        record {
          n = written;
          out = take written out ++ rest;
          answered =
              answered_elsewhere written left out zeros (long ∙ sym (length-replicate {A = ℕ} report_bytes 0)) (take (max_round + 1) bytes)
              (subst (λ f. Answered f written left out) of answered);
          text_of = sym (ap (λ m. take m (take written out ++ rest)) (sym (length-take-le written out within)) ∙ take-append_seam (take written out) rest);
        },
        subst (Appends before after) text appends,
      )

-- A vector whose slice was written holds what the slice does.
pub written_back : (len : ℕ) (slice rest : List ℕ) → length slice ≡ len → take len (slice ++ rest) ≡ slice
written_back len slice rest whole = ap (λ m. take m (slice ++ rest)) (sym whole) ∙ take-append_seam slice rest
