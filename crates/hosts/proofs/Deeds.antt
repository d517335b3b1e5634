-- The deeds of a table, and that a step by deeds is the machine's rule.
use mathlib.Core.HLevel.{is_prop→PathP}
use Rattle.std.proofs.Common.{◌≡◌, ℕ, ◌+◌, ◌*◌, ◌/◌, ◌<◌, ◌≤◌, ◌&&◌, ◌==◌, Bool, true, false, cond, not, List, length, get_or, set, replicate, Some, None, Option, refl, sym, ap, ◌∙◌, inl, inr, arith}
use Rattle.std.proofs.Props.{props}
use Rattle.std.proofs.lemmas.List.{get_or_past, get_or-set_other, length-set, get_or_default}
use Rattle.std.proofs.lemmas.Grind.{get_or-set_at}
use Rattle.std.proofs.lemmas.Bool.{cases_lt, cases_eq, cond_both, ne_eqb}
use Rattle.std.specs.Option.{option_or, unwrap_or}
use Rattle.toom.specs.declared.machine_cell.MachineCell.{MachineCell}
use Rattle.toom.specs.MachineCell.{byte_of_machine_cell, head_of_cell, symbol_of_cell}
use Rattle.toom.specs.MachineCells.{cells_equal}
use Rattle.hosts.specs.declared.entry.Entry.{Entry}
use Rattle.hosts.specs.declared.entry.Motion.{Motion}
use Rattle.hosts.specs.declared.entry.Motion.TheVariants.{Stay, Left, Right}
use Rattle.hosts.specs.declared.machine.Machine.{Machine}
use Rattle.hosts.specs.declared.machine.deed.Deed.{Deed}
use Rattle.hosts.specs.Deed.{deed_of, deed_at, low_digit, Done, first_of}
use Rattle.hosts.specs.Digit.{Digit, zero_digit, cell, head_of, symbol_of, entered}
use Rattle.hosts.specs.MachineRule.{entry_at, live, entry_of, moving, arriving, new_head, new_symbol, machine_rule}
use Rattle.hosts.specs.Sent.{sent, staying, writing}
use Rattle.hosts.specs.Table.{blank, slot, motion_code}
use Rattle.hosts.proofs.Questions.{none_is, some_is}

module _ (table : List (Option Entry)) where
  -- The deeds of the first n slots are there.
  pub record DoneTo (deeds : List Deed) (n : ℕ) : Type 0 where
    pub long : length deeds ≡ 256
    pub each : (i : ℕ) → i < n → Done table deeds i

  pub done_none : (d : Deed) → DoneTo (replicate 256 d) 0
  done_none d = record { long = refl; each = λ i h. absurd (omega arith) }

  pub done_more : (deeds : List Deed) (n : ℕ) (d : Deed) → DoneTo deeds n → n < 256 → d ≡ deed_at table n → DoneTo (set deeds n d) (n + 1)
  done_more deeds n d to within is =
      let long = to.long in
      record {
        long = length-set deeds n d ∙ long;
        each = λ i h.
            elim (cases_eq i n) [
              | inl here ↦ get_or-set_at deeds n i d (deed_at table i) here (omega arith) ∙ is ∙ ap (deed_at table) (sym here)
              | inr away ↦ get_or-set_other deeds n i d (deed_at table i) away ∙ to.each i (omega arith)
            ];
      }

  pub done_all : (deeds : List Deed) → DoneTo deeds 256 → (i : ℕ) → Done table deeds i
  done_all deeds to i =
      let long = to.long in
      elim (cases_lt i 256) [ inl h ↦ to.each i h | inr h ↦ get_or_past deeds i (deed_at table i) (omega arith) ]

digits_equal : (a b : Digit) → a.value ≡ b.value → a ≡ b
digits_equal a b p = λ i. record { value = p i; fits = is_prop→PathP (λ j. p j < 16) (λ j. Prim.hlevel props) a.fits b.fits i }

-- An entry enters a state, which is no 0.
abbrev Enters : Option Entry → Type 0
Enters None = 0 ≤ 0
Enters (Some e) = 1 ≤ e.next

sent_is : (motion : Motion) (o : Option Entry) → (sent motion o).value ≡ (new_head (moving motion o)).value
sent_is motion None = refl
sent_is motion (Some e) = go (motion_code e.motion == motion_code motion) where
  go : (t : Bool) → (cond t (entered e) zero_digit).value ≡ (new_head (cond t (Some e) None)).value
  go true = refl
  go false = refl

-- A head that is sent, else what comes after it.
or_else : (motion : Motion) (o p : Option Entry) (rest : ℕ) → Enters o → rest ≡ (new_head p).value
    → cond ((sent motion o).value == 0) rest (sent motion o).value ≡ (new_head (option_or (moving motion o) p)).value
or_else motion None p rest some same = same
or_else motion (Some e) p rest some same = go (motion_code e.motion == motion_code motion) where
  go : (t : Bool)
      → cond ((cond t (entered e) zero_digit).value == 0) rest (cond t (entered e) zero_digit).value
      ≡ (new_head (option_or (cond t (Some e) None) p)).value
  go true = rw (ne_eqb e.next 0 (λ z. omega (arith, some))) refl
  go false = same

module _ (c : MachineCell) (el er : Option Entry) (some_left : Enters el) (e : Entry) where
  arrives : cond ((sent Right el).value == 0) (sent Left er).value (sent Right el).value
      ≡ (new_head (option_or (moving Right el) (moving Left er))).value
  arrives = or_else Right el (moving Left er) _ some_left (sent_is Left er)

  -- The rule, by whether the centre has no head, and whether it is live.
  abbrev rule : (t b : Bool) → MachineCell
  rule t b =
      cond (not t && not b) c
      (cell (new_head (arriving el (cond b (Some e) None) er)) (new_symbol c (cond b (Some e) None)))

  -- The byte of the rule's cell, by deeds.
  bytes : (t b : Bool) → (head_of_cell c == 0) ≡ t → Enters (cond b (Some e) None)
      → 16 * first_of (staying (head_of c) (cond b (Some e) None)).value (sent Right el).value (sent Left er).value
      + (writing (symbol_of c) (cond b (Some e) None)).value
      ≡ byte_of_machine_cell (rule t b)
  bytes true true is some =
      ap (λ h. 16 * h + e.symbol) (or_else Stay (Some e) (option_or (moving Right el) (moving Left er)) _ some arrives)
  bytes false true is some =
      ap (λ h. 16 * h + e.symbol) (or_else Stay (Some e) (option_or (moving Right el) (moving Left er)) _ some arrives)
  bytes true false is some = rw is (ap (λ h. 16 * h + symbol_of_cell c) arrives)
  bytes false false is some = rw is (omega arith)

module _ (m : Machine) (x : MachineCell) where
  -- A cell's slot is its byte.
  slot_of : entry_at m (head_of_cell x) (symbol_of_cell x) ≡ unwrap_or (slot m.table (byte_of_machine_cell x)) blank
  slot_of = let same : 16 * head_of_cell x + symbol_of_cell x ≡ byte_of_machine_cell x = omega arith in ap (λ k. unwrap_or (slot m.table k) blank) same

  slot_entry : slot m.table (byte_of_machine_cell x) ≡ entry_of m x
  slot_entry =
      cond_both (live m x) (Some (entry_at m (head_of_cell x) (symbol_of_cell x))) None (λ o. slot m.table (byte_of_machine_cell x) ≡ o)
      (λ h. some_is _ blank _ (m.used (byte_of_machine_cell x) h).0 (sym slot_of)) (λ h. none_is _ (m.unused (byte_of_machine_cell x) h))

  pub deed_is : deed_at m.table (byte_of_machine_cell x) ≡ deed_of (head_of x) (symbol_of x) (entry_of m x)
  deed_is =
      let heads : low_digit (byte_of_machine_cell x / 16) ≡ head_of x = digits_equal _ _ (omega arith) in
      let symbols : low_digit (byte_of_machine_cell x) ≡ symbol_of x = digits_equal _ _ refl in
      λ i. deed_of (heads i) (symbols i) (slot_entry i)

  pub looked_up : (d : Deed) → byte_of_machine_cell x < length m.deeds → get_or m.deeds (byte_of_machine_cell x) d ≡ deed_of (head_of x) (symbol_of x) (entry_of m x)
  looked_up d within = get_or_default m.deeds (byte_of_machine_cell x) d (deed_at m.table (byte_of_machine_cell x)) within ∙ m.done (byte_of_machine_cell x) ∙ deed_is

  enters : Enters (entry_of m x)
  enters =
      cond_both (live m x) (Some (entry_at m (head_of_cell x) (symbol_of_cell x))) None Enters
      (λ h. let enters = (m.used (byte_of_machine_cell x) h).1.0 in rw slot_of enters) (λ _. omega arith)

module _ (m : Machine) (l c r : MachineCell) where
  abbrev by_deeds : MachineCell → Deed
  by_deeds x = deed_of (head_of x) (symbol_of x) (entry_of m x)

  -- A step by deeds is the machine's rule.
  pub rule_by_deeds : (own left right : Deed) (x : MachineCell) → own ≡ by_deeds c → left ≡ by_deeds l → right ≡ by_deeds r
      → byte_of_machine_cell x ≡ 16 * first_of own.stays left.goes_right right.goes_left + own.symbol → x ≡ machine_rule m l c r
  rule_by_deeds own left right x p q s is =
      let e = entry_at m (head_of_cell c) (symbol_of_cell c) in
      let t = head_of_cell c == 0 in
      cells_equal x (machine_rule m l c r)
      (is ∙ (λ i. 16 * first_of (p i).stays (q i).goes_right (s i).goes_left + (p i).symbol)
      ∙ bytes c (entry_of m l) (entry_of m r) (enters m l) e t (live m c) refl (enters m c))
