-- A reply stands at the front of every output that is as long.
use Rattle.std.proofs.Common.{◌≡◌, ℕ, List, ◌++◌, length, drop, take, None, Some, Ok, Err, Result, refl, ap, ◌∙◌, subst}
use Rattle.std.proofs.Math.Seq.{take-append_seam}
use Rattle.plate.specs.Board.{Board}
use Rattle.plate.specs.Members.{Members}
use Rattle.reports.specs.Report.{report_of}
use Rattle.reports.specs.ReportCall.{Reports}
use Rattle.rounds.specs.declared.fault.PlayFault.{PlayFault}
use Rattle.rounds.specs.declared.file_kind.FileKind.{FileKind}
use Rattle.rounds.specs.declared.file_kind.FileKind.TheVariants.{Bits, MachineCells, Other}
use Rattle.rounds.specs.PlayCall.{Entrant, PlayAnswers, play_fault, play_questions}
use Rattle.rounds.specs.RefusedCall.{refused_line, refused_questions}
use Rattle.rounds.specs.ReplyCall.{Replies, Tells}
use Rattle.rounds.specs.RoundFile.{kind_in}
use Rattle.round.specs.Answer.{Answered, Replied, RepliedTo}
use Rattle.round.proofs.Pinning.{oks_same}

front : (n : ℕ) (text rest out' : List ℕ) → n ≡ length text → out' ≡ text ++ rest → take n out' ≡ text
front n text rest out' long is = ap (take n) is ∙ ap (λ m. take m (text ++ rest)) long ∙ take-append_seam text rest

module _ (n : ℕ) (out out' other : List ℕ) (long : length out ≡ length other) where
  reports : {C : Type 0} (k : Members C) (b : Board C) (m : ℕ) (written : List ℕ) → Reports k b m out written
      → Reports k b m other (take m written ++ drop m other)
  reports k b m written r = record {
    stood = r.stood;
    standing_before = r.standing_before;
    answers = r.answers;
    out = λ d. ap (λ t. t ++ drop m other) (front m (report_of k r.stood b.cells d) (drop m out) written (r.answers d) (r.out d));
  }

  replies : {C H : Type 0} (k : Members C) (e : Entrant C H) (file : List ℕ) (cells cells' : List C) (answer : Result ℕ PlayFault) (written : List ℕ)
      → PlayAnswers k e file answer cells cells' out written → Tells answer written (Ok n) out'
      → Replies k e file (Ok n) cells cells' other (take n out' ++ drop n other)
  replies k e file cells cells' (Ok m) written plays tells = record {
    answer = Ok m;
    written = take m written ++ drop m other;
    plays = (
      subst (λ l. play_questions k e file (length cells) l ≡ None) long plays.0,
      record {
        host = plays.1.host;
        enters = plays.1.enters;
        performs = record {
          laid = plays.1.performs.laid;
          played = plays.1.performs.played;
          lays = plays.1.performs.lays;
          runs = plays.1.performs.runs;
          reports = reports k plays.1.performs.played m written plays.1.performs.reports;
          memory = plays.1.performs.memory;
        };
      },
    );
    tells = (
      tells.0,
      ap (λ x. take n x ++ drop n other) tells.1 ∙ ap (λ j. take j written ++ drop j other) (oks_same n m tells.0),
    );
  }
  replies k e file cells cells' (Err f) written plays tells = record {
    answer = Err f;
    written = other;
    plays = (subst (λ l. play_questions k e file (length cells) l ≡ Some (play_fault f)) long plays.0, plays.1, refl);
    tells = (
      subst (λ l. refused_questions l ≡ None) (ap length plays.2 ∙ long) tells.0,
      tells.1,
      ap (λ t. t ++ drop n other) (front n (refused_line (play_fault f)) (drop n written) out' tells.1 tells.2),
    );
  }

  replied : {C H : Type 0} (k : Members C) (e : Entrant C H) (file : List ℕ) → Replied k e file n out out'
      → Replied k e file n other (take n out' ++ drop n other)
  replied k e file r = record {
    blank = r.blank;
    cells' = r.cells';
    named = r.named;
    replies = replies k e file _ r.cells' r.replies.answer r.replies.written r.replies.plays r.replies.tells;
  }

  of_kind : (kind : FileKind) (file : List ℕ) → RepliedTo kind file n out out' → RepliedTo kind file n other (take n out' ++ drop n other)
  of_kind MachineCells file = replied _ _ file
  of_kind Bits file = replied _ _ file
  of_kind (Other number) file = replied _ _ file

  pub answered_elsewhere : (file : List ℕ) → Answered file n out out' → Answered file n other (take n out' ++ drop n other)
  answered_elsewhere file = of_kind (kind_in file) file
