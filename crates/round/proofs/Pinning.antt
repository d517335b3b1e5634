-- A file has one reply.
use Rattle.std.proofs.Common.{◌≡◌, ℕ, Bool, List, replicate, take, Ok, Result, sym, ap, ◌∙◌, subst}
use Rattle.toom.specs.declared.bit.Bit.{Bit}
use Rattle.toom.specs.declared.machine_cell.MachineCell.{MachineCell}
use Rattle.toom.specs.Bit.{bit_of_byte, byte_of_bit, equal_bits}
use Rattle.toom.specs.MachineCell.{byte_of_machine_cell, equal_machine_cells, machine_cell_of_byte}
use Rattle.hosts.specs.declared.machine.Machine.{Machine}
use Rattle.hosts.specs.MachineFile.{MachineIn, machine_questions}
use Rattle.hosts.specs.MachineRule.{machine_rule}
use Rattle.plate.specs.Members.{Members}
use Rattle.plate.specs.Plates.{members}
use Rattle.plate.proofs.Standing.{some_same}
use Rattle.reports.specs.ReportCall.{report_bytes}
use Rattle.rounds.specs.declared.fault.RefusedFault.{RefusedFault}
use Rattle.rounds.specs.declared.file_kind.FileKind.{FileKind}
use Rattle.rounds.specs.declared.file_kind.FileKind.TheVariants.{Bits, MachineCells, Other}
use Rattle.rounds.specs.Memory.{round_cells}
use Rattle.rounds.specs.PlayCall.{Entrant, entrant}
use Rattle.rounds.specs.PlayPins.{ReplyPins}
use Rattle.rounds.specs.ReplyCall.{Replies}
use Rattle.rounds.specs.RoundFile.{kind_in}
use Rattle.round.specs.Answer.{OneReplyEach, Replied, RepliedTo}
use Rattle.round.proofs.Answering.{all_same, bits_entrant}

abbrev machine_cells : Members MachineCell
machine_cells = members equal_machine_cells byte_of_machine_cell machine_cell_of_byte

abbrev machine_entrant : Entrant MachineCell Machine
machine_entrant = entrant MachineCells machine_questions MachineIn machine_rule

abbrev all_bits : Members Bit
all_bits = members equal_bits byte_of_bit bit_of_byte

pub oks_same : (n m : ℕ) → ◌≡◌ {A = Result ℕ RefusedFault} (Ok n) (Ok m) → n ≡ m
oks_same n m same = cc

module _ (file : List ℕ) (n n' : ℕ) (out out₁ out₂ : List ℕ) where
  one_reply : {C H : Type 0} (k : Members C) (e : Entrant C H) → ReplyPins k e → Replied k e file n out out₁ → Replied k e file n' out out₂
      → (n ≡ n') × (out₁ ≡ out₂)
  one_reply k e reply_pins x y =
      let blank : x.blank ≡ y.blank = some_same x.blank y.blank (sym x.named ∙ y.named) in
      let same =
      reply_pins file (replicate round_cells y.blank) x.cells' y.cells' out out₁ out₂ (Ok n) (Ok n')
      (subst (λ b. Replies k e file (Ok n) (replicate round_cells b) x.cells' out out₁) blank x.replies) y.replies in
      (oks_same n n' same.0, same.2)

  module _ (machines : ReplyPins machine_cells machine_entrant) (bits : ReplyPins all_bits bits_entrant) where
    answers_pin : (kind : FileKind) → RepliedTo kind file n out out₁ → RepliedTo kind file n' out out₂ → (n ≡ n') × (out₁ ≡ out₂)
    answers_pin MachineCells = one_reply machine_cells machine_entrant machines
    answers_pin Bits = one_reply all_bits bits_entrant bits
    answers_pin (Other number) = one_reply all_bits bits_entrant bits

-- Bits are the same where `equal_bits` says so.
with_equal_bits : (equal : Bit → Bit → Bool) → ((x y : Bit) → equal x y ≡ equal_bits x y)
    → ReplyPins (members equal byte_of_bit bit_of_byte) bits_entrant → ReplyPins all_bits bits_entrant
with_equal_bits equal same =
    subst (λ (e : Bit → Bit → Bool). ReplyPins (members e byte_of_bit bit_of_byte) bits_entrant) (all_same equal same)

pub one_reply_each : (equal : Bit → Bit → Bool) → ((x y : Bit) → equal x y ≡ equal_bits x y) → ReplyPins machine_cells machine_entrant
    → ReplyPins (members equal byte_of_bit bit_of_byte) bits_entrant → OneReplyEach
one_reply_each equal equals machines bits file text other x y =
    let same =
    answers_pin file x.n y.n (replicate report_bytes 0) x.out y.out machines (with_equal_bits equal equals bits) (kind_in file) x.answered y.answered in
    x.text_of ∙ ap (λ m. take m x.out) same.0 ∙ ap (take y.n) same.1 ∙ sym y.text_of
