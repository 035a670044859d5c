-- Refusals of the check are exact (01, "The numbers"): the file's numbers come first, then each of 11 to 15 is given exactly when the table
-- says so, in its order and at its place. Assumes nothing.
use Prim.Native.Nat.{ℕ}
use mathlib.Core.Bool.{Bool, true, false, true≢false}
use mathlib.Core.List.{List}
use mathlib.Core.Logic.{◌↔◌}
use mathlib.Core.Option.{Option, none, some}
use mathlib.Core.Path.{◌≡◌, refl, sym, ap, ◌∙◌, subst}
use Rattle.below.proofs.Laws.Says.{test-fails, fails-test}
use Rattle.bits.specs.Bytes.{same_bytes}
use Rattle.bits.proofs.Laws.Bytes.{same_bytes_equal, same_bytes_refl}
use Rattle.circuit.specs.Circuit.{Circuit}
use Rattle.circuit.specs.Outcome.{Outcome, taken, refused, refuse_if}
use Rattle.file.specs.CircuitIn.{circuit_in}
use Rattle.records.specs.Tables.{accepted_kinds, Tables, replies, attacks, tables_of, circuit_part}
use Rattle.checker.specs.Answer.{answer_of}
use Rattle.checker.specs.Check.{judged_by, tables_checked, check_of}
use Rattle.checker.specs.CheckRow.{Judged, thirteen, fourteen, fifteen, TablesBroken, CheckRow, of_file, eleven, twelve, in_tables}
use Rattle.checker.specs.Lowest.{LowestReply, LowestAttack}
use Rattle.checker.specs.Rules.{bad_reply_tables, bad_attack_table, reset_outside, reset_unranked}
use Rattle.checker.specs.Rules.{broken_reply, some_reply_broken, broken_attack, some_attack_broken}
use Rattle.checker.specs.WrongReset.{ResetNotHeld, ResetOfRankZero}
use Rattle.checker.specs.WrongTables.{WrongReplies, WrongAttacks}
use Rattle.checker.proofs.Laws.Lowest.{lowest_reply, reply_lowest, lowest_attack, attack_lowest}
use Rattle.checker.proofs.Laws.Stages.{misshapen_refused, other_refused, same_goes_on, file_refused, answer_refused}
use Rattle.checker.proofs.Laws.WrongTables.{replies_wrong, attacks_wrong, reset_not_held, reset_of_rank_zero}

-- what an outcome says: a refusal has its row
abbrev Said : (ℕ → ℕ → Type 0) → Outcome Tables → Type 0
Said R (taken t) = Unit {0}
Said R (refused number place) = R number place

-- each test says its statement, and the last finds the lowest place
record Says (bad reset broken : Bool) (lowest : ℕ) (Wrong Reset : Type 0) (Lowest : ℕ → Type 0) : Type 0 where
  wrong : (bad ≡ true) ↔ Wrong
  badly : (reset ≡ true) ↔ Reset
  finds : broken ≡ true → Lowest lowest
  found : (place : ℕ) → Lowest place → (broken ≡ true) × (lowest ≡ place)

module _ (lowest : ℕ) (Wrong Reset : Type 0) (Lowest : ℕ → Type 0) (t : Tables) where
  tests_say : (bad reset broken : Bool) → Says bad reset broken lowest Wrong Reset Lowest
      → Said (Judged Wrong Reset Lowest) (judged_by bad reset broken lowest t)
  unfolding refuse_if
  tests_say true reset broken w = thirteen refl refl (w.wrong.0 refl)
  tests_say false true broken w = fourteen refl refl (test-fails false w.wrong refl) (w.badly.0 refl)
  tests_say false false true w = fifteen refl (test-fails false w.wrong refl) (test-fails false w.badly refl) (w.finds refl)
  tests_say false false false w = tt

  judged_refuses : (bad reset broken : Bool) (number place : ℕ) → Says bad reset broken lowest Wrong Reset Lowest
      → Judged Wrong Reset Lowest number place → judged_by bad reset broken lowest t ≡ refused number place
  unfolding refuse_if
  judged_refuses bad reset broken number place w (thirteen n p a) = rw (n, p, w.wrong.1 a)
  judged_refuses bad reset broken number place w (fourteen n p a b) = rw (n, p, fails-test bad w.wrong a, w.badly.1 b)
  judged_refuses bad reset broken number place w (fifteen n a b l) =
      let (is, at) = w.found place l in
      rw (n, fails-test bad w.wrong a, fails-test reset w.badly b, is, at)

module _ (c : Circuit) where
  replies_say : (region : List ℕ) (kind : ℕ) (table : List ℕ)
      → Says (bad_reply_tables c region kind table) (reset_outside c region) (some_reply_broken c region kind table) (broken_reply c region kind table)
      (WrongReplies c region kind table) (ResetNotHeld region) (LowestReply c region kind table)
  replies_say region kind table =
      record {
        wrong = replies_wrong c region kind table;
        badly = reset_not_held c region;
        finds = lowest_reply c region kind table;
        found = reply_lowest c region kind table;
      }

  attacks_say : (table : List ℕ)
      → Says (bad_attack_table c table) (reset_unranked c table) (some_attack_broken c table) (broken_attack c table)
      (WrongAttacks c table) (ResetOfRankZero c table) (LowestAttack c table)
  attacks_say table =
      record {
        wrong = attacks_wrong c table;
        badly = reset_of_rank_zero c table;
        finds = lowest_attack c table;
        found = attack_lowest c table;
      }

  -- and of tables
  tables_say : (t : Tables) → Said (TablesBroken c t) (tables_checked c t)
  unfolding tables_checked
  tables_say (replies circuit region kind table) = tests_say _ _ _ _ _ _ _ _ (replies_say region kind table)
  tables_say (attacks circuit table) = tests_say _ _ _ _ _ _ _ _ (attacks_say table)

  tables_refuse : (t : Tables) (number place : ℕ) → TablesBroken c t number place → tables_checked c t ≡ refused number place
  unfolding tables_checked
  tables_refuse (replies circuit region kind table) number place w = judged_refuses _ _ _ _ _ _ _ _ number place (replies_say region kind table) w
  tables_refuse (attacks circuit table) number place w = judged_refuses _ _ _ _ _ _ _ _ number place (attacks_say table) w

module _ (file certificate : List ℕ) where
  abbrev Rowed : Outcome Tables → Type 0
  Rowed = Said (CheckRow file certificate)

  -- behind a file that is read
  module _ (c : Circuit) (read : circuit_in file ≡ taken c) where
    map-said : (t : Tables) → tables_of accepted_kinds certificate ≡ some t → circuit_part t ≡ file → (o : Outcome Tables) → Said (TablesBroken c t) o → Rowed o
    map-said t shape same (taken u) w = tt
    map-said t shape same (refused number place) w = in_tables c read t shape same w

    differ : (t : Tables) → same_bytes (circuit_part t) file ≡ false → circuit_part t ≡ file → ⊥
    differ t e f = true≢false (sym (same_bytes_refl file) ∙ sym (ap (λ (l : List ℕ). same_bytes l file) f) ∙ e)

    same_said : (t : Tables) → tables_of accepted_kinds certificate ≡ some t → (b : Bool) → same_bytes (circuit_part t) file ≡ b → Rowed
        (check_of file certificate)
    same_said t shape false e = subst Rowed (sym (other_refused file certificate c read t shape e)) (twelve refl refl c read t shape (differ t e))
    same_said t shape true e =
        subst Rowed (sym (same_goes_on file certificate c read t shape e))
        (map-said t shape (same_bytes_equal _ _ e) (tables_checked c t) (tables_say c t))

    shape_said : (o : Option Tables) → tables_of accepted_kinds certificate ≡ o → Rowed (check_of file certificate)
    shape_said none e = subst Rowed (sym (misshapen_refused file certificate c read e)) (eleven refl refl c read e)
    shape_said (some t) e = same_said t e (same_bytes (circuit_part t) file) refl

  said : (o : Outcome Circuit) → circuit_in file ≡ o → Rowed (check_of file certificate)
  said (taken c) e = shape_said c e (tables_of accepted_kinds certificate) refl
  said (refused number place) e = subst Rowed (sym (file_refused file certificate number place e)) (of_file e)

  row_refused : (number place : ℕ) → CheckRow file certificate number place → check_of file certificate ≡ refused number place
  row_refused number place (of_file e) = file_refused file certificate number place e
  row_refused number place (eleven n p c read e) = rw (n, p) (misshapen_refused file certificate c read e)
  row_refused number place (twelve n p c read t e d) = rw (n, p) (other_refused file certificate c read t e (by (same_bytes (circuit_part t) file) refl))
    where
      by : (b : Bool) → same_bytes (circuit_part t) file ≡ b → same_bytes (circuit_part t) file ≡ false
      by true f = absurd (d (same_bytes_equal _ _ f))
      by false f = f
  row_refused number place (in_tables c read t e same w) =
      same_goes_on file certificate c read t e (ap (λ (l : List ℕ). same_bytes l file) same ∙ same_bytes_refl file) ∙ tables_refuse c t number place w

  -- a certificate is refused with a number and a place exactly if the table says so
  pub check_refused_exactly : (number place : ℕ) → (answer_of file certificate ≡ refused number place) ↔ CheckRow file certificate number place
  check_refused_exactly number place =
      let both = answer_refused file certificate number place in
      (λ e. subst Rowed (both.0 e) (said (circuit_in file) refl), λ w. both.1 (row_refused number place w))
