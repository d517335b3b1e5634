-- The reply of one kind of cell answers the files of that kind, and that of bits every file of another number too.
use Rattle.std.proofs.Common.{◌≡◌, ℕ, ◌⊎◌, Bool, List, IfOk, Result, sym, ◌∙◌, inl, inr, subst}
use Rattle.rounds.specs.declared.file_kind.FileKind.{FileKind}
use Rattle.rounds.specs.declared.file_kind.FileKind.TheVariants.{Bits, Other}
use Rattle.toom.specs.declared.bit.Bit.{Bit}
use Rattle.toom.specs.Bit.{bit_of_byte, byte_of_bit, equal_bits}
use Rattle.hosts.specs.declared.elementary.Elementary.{Elementary}
use Rattle.hosts.specs.Elementary.{wolfram}
use Rattle.plate.specs.Plates.{members}
use Rattle.rounds.specs.Hosts.{RuleIn, rule_questions}
use Rattle.rounds.specs.PlayCall.{Entrant, entrant}
use Rattle.rounds.specs.RoundFile.{kind_in}
use Rattle.round.specs.Answer.{Answered, BitsReplied, Replied, RepliedTo}

abbrev pub bits_entrant : Entrant Bit Elementary
bits_entrant = entrant Bits rule_questions RuleIn (λ (host : Elementary). wolfram host.rule)

pub all_same : (equal : Bit → Bit → Bool) → ((x y : Bit) → equal x y ≡ equal_bits x y) → equal ≡ equal_bits
all_same equal same i x y = same x y i

module _ {E : Type 0} (file : List ℕ) (r : Result ℕ E) (out out' : List ℕ) (kind : FileKind) (is : kind ≡ kind_in file) where
  pub answered_as : (k : FileKind) → kind ≡ k → IfOk r (λ n. RepliedTo k file n out out') → IfOk r (λ n. Answered file n out out')
  answered_as k same = subst (λ k. IfOk r (λ n. RepliedTo k file n out out')) (sym same ∙ is)

  -- Bits are the same where `equal_bits` says so.
  with_equal_bits : (equal : Bit → Bit → Bool) → ((x y : Bit) → equal x y ≡ equal_bits x y)
      → IfOk r (λ n. Replied (members equal byte_of_bit bit_of_byte) bits_entrant file n out out') → IfOk r (λ n. BitsReplied file n out out')
  with_equal_bits equal same =
      subst (λ (e : Bit → Bit → Bool). IfOk r (λ n. Replied (members e byte_of_bit bit_of_byte) bits_entrant file n out out')) (all_same equal same)

  pub answered_as_bits : (equal : Bit → Bit → Bool) → ((x y : Bit) → equal x y ≡ equal_bits x y)
      → (kind ≡ Bits) ⊎ ((number : ℕ) × (kind ≡ Other number))
      → IfOk r (λ n. Replied (members equal byte_of_bit bit_of_byte) bits_entrant file n out out') → IfOk r (λ n. Answered file n out out')
  answered_as_bits equal same (inl bits) replied = answered_as Bits bits (with_equal_bits equal same replied)
  answered_as_bits equal same (inr other) replied = answered_as (Other other.0) other.1 (with_equal_bits equal same replied)
