-- While no lay and no strike is accepted, the plain machine's shadow is voted once for each beat, and only the run changes besides.
use Rattle.std.proofs.Common.{◌≡◌, ℕ, ◌+◌, true, false, [], ◌∷◌, ◌++◌, Some, Option, sym, refl, ap, ◌∙◌, zero-add, one-add}
use Rattle.std.proofs.lemmas.Bool.{both_ways}
use Rattle.toom.specs.Vote.{thinned_by}
use Rattle.hosts.specs.Ring.{stepped}
use Rattle.plate.specs.Healing.{Quiet, quiet_call, beats_in, beats_of}
use Rattle.plate.specs.History.{Call, Lay, Strike, Beat, Read, Map, Show, History}
use Rattle.plate.specs.Members.{Members}
use Rattle.plate.specs.Plain.{Plain, lifted, beaten, after_call, plain}

-- The plain machine after j beats, if its run is now this one.
abbrev pub aged : {C : Type 0} → Plain C → (run : ℕ → Option C) → ℕ → Plain C
aged p run j = record { n = p.n; side = p.side; run = run; shadow = thinned_by j p.side p.shadow }

module _ {C : Type 0} (k : Members C) (p : Plain C) where
  -- o is the plain machine j beats on.
  abbrev pub Aged : Option (Plain C) → ℕ → Type 0
  Aged o j = (run : ℕ → Option C) × (o ≡ Some (aged p run j))

  quiet_step : (call : Call C) (o : Option (Plain C)) (j : ℕ) → quiet_call call ≡ true → Aged o j → Aged (after_call k call o) (beats_of call + j)
  quiet_step (Lay n side tape) o j quiet a = absurd (both_ways false refl quiet)
  quiet_step (Strike plane row column byte) o j quiet a = absurd (both_ways false refl quiet)
  quiet_step (Beat host) o j quiet (run, is) =
      (stepped (lifted host) p.n run, ap (beaten host) is ∙ ap (λ m. Some (aged p (stepped (lifted host) p.n run) m)) (sym (one-add j)))
  quiet_step (Read before after) o j quiet a = rw (zero-add j) a
  quiet_step (Map before after) o j quiet a = rw (zero-add j) a
  quiet_step (Show before after) o j quiet a = rw (zero-add j) a

  pub quiet_ages : (later earlier : History C) → Quiet later → plain k earlier ≡ Some p → Aged (plain k (later ++ earlier)) (beats_in later)
  quiet_ages [] earlier quiet is = (p.run, is)
  quiet_ages ((call, true) ∷ later) earlier (quiet, rest) is =
      quiet_step call (plain k (later ++ earlier)) (beats_in later) quiet (quiet_ages later earlier rest is)
  quiet_ages ((call, false) ∷ later) earlier quiet is = quiet_ages later earlier quiet is
