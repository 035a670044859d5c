-- What 13, 14 and 15 in turn come to, by their three tests. Assumes nothing.
use Prim.Native.Nat.{ℕ}
use mathlib.Core.Bool.{Bool, true, false}
use mathlib.Core.Path.{◌≡◌, refl}
use Rattle.circuit.specs.Circuit.{Circuit}
use Rattle.circuit.specs.Outcome.{Outcome, taken, refused, ◌>>=◌, ◌>>◌, refuse_if}
use Rattle.circuit.proofs.Laws.Outcome.{refused_is-not_taken}
use Rattle.records.specs.Tables.{Tables, replies, attacks}
use Rattle.checker.specs.Check.{judged_by, tables_checked}
use Rattle.checker.specs.Numbers.{bad_table, bad_reset, broken_step}
use Rattle.checker.specs.Rules.{bad_reply_tables, bad_attack_table, reset_outside, reset_unranked}
use Rattle.checker.specs.Rules.{broken_reply, some_reply_broken, broken_attack, some_attack_broken}

module _ (bad reset broken : Bool) (lowest : ℕ) (t : Tables) where
  pub judged_bad : bad ≡ true → judged_by bad reset broken lowest t ≡ refused bad_table 0
  unfolding refuse_if
  judged_bad e = rw e

  module _ (sized : bad ≡ false) where
    pub judged_reset : reset ≡ true → judged_by bad reset broken lowest t ≡ refused bad_reset 0
    unfolding refuse_if
    judged_reset e = rw (sized, e)

    pub judged_broken : reset ≡ false → broken ≡ true → judged_by bad reset broken lowest t ≡ refused broken_step lowest
    unfolding refuse_if
    judged_broken e f = rw (sized, e, f)

    pub judged_fine : reset ≡ false → broken ≡ false → judged_by bad reset broken lowest t ≡ taken t
    unfolding refuse_if
    judged_fine e f = rw (sized, e, f)

-- what is taken is what was judged, and no test refused it
pub record Fine (bad reset broken : Bool) (t u : Tables) : Type 0 where
  pub sized : bad ≡ false
  pub reset_is : reset ≡ false
  pub rule : broken ≡ false
  pub same : t ≡ u

pub fine_judged : (bad reset broken : Bool) (lowest : ℕ) (t u : Tables) → judged_by bad reset broken lowest t ≡ taken u → Fine bad reset broken t u
unfolding refuse_if
fine_judged true reset broken lowest t u e = absurd (refused_is-not_taken _ _ u e)
fine_judged false true broken lowest t u e = absurd (refused_is-not_taken _ _ u e)
fine_judged false false true lowest t u e = absurd (refused_is-not_taken _ _ u e)
fine_judged false false false lowest t u e = record { sized = refl; reset_is = refl; rule = refl; same = cc }

module _ {B : Type 0} (f : Tables → Outcome B) where
  judged_then : (bad reset broken : Bool) (lowest : ℕ) (t : Tables)
      → (judged_by bad reset broken lowest t >>= f) ≡ (judged_by bad reset broken lowest t >> f t)
  unfolding refuse_if
  judged_then true reset broken lowest t = refl
  judged_then false true broken lowest t = refl
  judged_then false false true lowest t = refl
  judged_then false false false lowest t = refl

  -- what follows the judging of tables is told of these
  pub tables_then : (c : Circuit) (t : Tables) → (tables_checked c t >>= f) ≡ (tables_checked c t >> f t)
  unfolding tables_checked
  tables_then c (replies circuit region kind table) =
      judged_then (bad_reply_tables c region kind table) (reset_outside c region) (some_reply_broken c region kind table) (broken_reply c region kind table) _
  tables_then c (attacks circuit table) =
      judged_then (bad_attack_table c table) (reset_unranked c table) (some_attack_broken c table) (broken_attack c table) _
