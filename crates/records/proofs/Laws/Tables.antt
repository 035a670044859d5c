-- What the tables of a certificate say of its bytes: the records that they were split from, and where each part lies. Assumes nothing.
use Prim.Native.Nat.{ℕ}
use native.Mathlib.Omega.{arith}
use mathlib.Core.Bool.{Bool, true, false, cond, ◌&&◌}
use mathlib.Core.List.{List}
use mathlib.Core.Option.{none, some}
use mathlib.Core.Path.{◌≡◌, refl, sym, ap, ◌∙◌}
use borrow.Author.Tests.{eqb-true}
use lib.Dec.{eqb}
use lib.ListN.{length}
use Rattle.below.specs.Among.{member}
use Rattle.bits.proofs.Laws.Bytes.{both_true}
use Rattle.records.specs.Record.{Split, whole, cut, split, circuit_kind, region_kind, attack_kind}
use Rattle.records.specs.Tables.{Tables, replies, attacks, third_of, second_of, first_of, tables_of, circuit_part}

-- the third record, where it is there
pub record Third (accepted circuit region : List ℕ) (s : Split) (t : Tables) : Type 0 where
  pub kind : ℕ
  pub table : List ℕ
  pub rest : List ℕ
  pub is : s ≡ whole kind table rest
  pub taken : member kind accepted ≡ true
  pub ends : length rest ≡ 0
  pub gives : t ≡ replies circuit region kind table

third : (accepted circuit region : List ℕ) (s : Split) (t : Tables) → third_of accepted circuit region s ≡ some t → Third accepted circuit region s t
unfolding third_of
third accepted circuit region cut t e = absurd (let z : ◌≡◌ {A = ℕ} 0 1 = cc in omega arith)
third accepted circuit region (whole kind table rest) t e = by (member kind accepted && eqb (length rest) 0) refl e
  where
    by :
        (b : Bool) → (member kind accepted && eqb (length rest) 0) ≡ b → cond b (some (replies circuit region kind table)) none ≡ some t
        → Third accepted circuit region (whole kind table rest) t
    by true f e =
        let (fine, last) = both_true (member kind accepted) (eqb (length rest) 0) f in
        record { kind = kind; table = table; rest = rest; is = refl; taken = fine; ends = eqb-true _ _ last; gives = cc }
    by false f e = absurd (let z : ◌≡◌ {A = ℕ} 0 1 = cc in omega arith)

-- the second record: a region and a third, or the attack table
pub data Second (accepted circuit : List ℕ) (s : Split) (t : Tables) : Type 0 where
  with_region : (region rest : List ℕ) → s ≡ whole region_kind region rest → Third accepted circuit region (split rest) t → Second accepted circuit s t
  with_attacks : (table rest : List ℕ) → s ≡ whole attack_kind table rest → length rest ≡ 0 → t ≡ attacks circuit table → Second accepted circuit s t

second : (accepted circuit : List ℕ) (s : Split) (t : Tables) → second_of accepted circuit s ≡ some t → Second accepted circuit s t
unfolding second_of
second accepted circuit cut t e = absurd (let z : ◌≡◌ {A = ℕ} 0 1 = cc in omega arith)
second accepted circuit (whole kind table rest) t e = by (eqb kind region_kind) (eqb kind attack_kind && eqb (length rest) 0) refl refl e
  where
    by :
        (a b : Bool) → eqb kind region_kind ≡ a → (eqb kind attack_kind && eqb (length rest) 0) ≡ b
        → cond a (third_of accepted circuit table (split rest)) (cond b (some (attacks circuit table)) none) ≡ some t
        → Second accepted circuit (whole kind table rest) t
    by true b f g e = with_region table rest (ap (λ (k : ℕ). whole k table rest) (eqb-true _ _ f)) (third accepted circuit table (split rest) t e)
    by false true f g e =
        let (sort, last) = both_true (eqb kind attack_kind) (eqb (length rest) 0) g in
        with_attacks table rest (ap (λ (k : ℕ). whole k table rest) (eqb-true _ _ sort)) (eqb-true _ _ last) cc
    by false false f g e = absurd (let z : ◌≡◌ {A = ℕ} 0 1 = cc in omega arith)

-- the circuit record and what is behind it
pub record First (accepted certificate : List ℕ) (t : Tables) : Type 0 where
  pub circuit : List ℕ
  pub rest : List ℕ
  pub is : split certificate ≡ whole circuit_kind circuit rest
  pub behind : Second accepted circuit (split rest) t

pub tables-first : (accepted certificate : List ℕ) (t : Tables) → tables_of accepted certificate ≡ some t → First accepted certificate t
unfolding tables_of first_of
tables-first accepted certificate t e = by (split certificate) refl e
  where
    kinds :
        (kind : ℕ) (circuit rest : List ℕ) → split certificate ≡ whole kind circuit rest → (b : Bool) → eqb kind circuit_kind ≡ b
        → cond b (second_of accepted circuit (split rest)) none ≡ some t → First accepted certificate t
    kinds kind circuit rest f true g e =
        record {
          circuit = circuit;
          rest = rest;
          is = f ∙ ap (λ (k : ℕ). whole k circuit rest) (eqb-true _ _ g);
          behind = second accepted circuit (split rest) t e;
        }
    kinds kind circuit rest f false g e = absurd (let z : ◌≡◌ {A = ℕ} 0 1 = cc in omega arith)

    by : (s : Split) → split certificate ≡ s → first_of accepted s ≡ some t → First accepted certificate t
    by cut f e = absurd (let z : ◌≡◌ {A = ℕ} 0 1 = cc in omega arith)
    by (whole kind circuit rest) f e = kinds kind circuit rest f (eqb kind circuit_kind) refl e

-- a certificate with tables begins with the record of its circuit part
pub tables_begin :
    (accepted certificate : List ℕ) (t : Tables) → tables_of accepted certificate ≡ some t
    → (rest : List ℕ) × (split certificate ≡ whole circuit_kind (circuit_part t) rest)
unfolding circuit_part
tables_begin accepted certificate t e = by (tables-first accepted certificate t e)
  where
    inner :
        (circuit rest : List ℕ) → split certificate ≡ whole circuit_kind circuit rest → Second accepted circuit (split rest) t
        → split certificate ≡ whole circuit_kind (circuit_part t) rest
    inner circuit rest f (with_region region behind g w) = f ∙ ap (λ (u : Tables). whole circuit_kind (circuit_part u) rest) (sym w.gives)
    inner circuit rest f (with_attacks table behind g n w) = f ∙ ap (λ (u : Tables). whole circuit_kind (circuit_part u) rest) (sym w)

    by : First accepted certificate t → (rest : List ℕ) × (split certificate ≡ whole circuit_kind (circuit_part t) rest)
    by w = (w.rest, inner w.circuit w.rest w.is w.behind)

-- the reply record is of a kind that is accepted
pub kind_taken :
    (accepted certificate circuit region : List ℕ) (kind : ℕ) (table : List ℕ)
    → tables_of accepted certificate ≡ some (replies circuit region kind table) → member kind accepted ≡ true
kind_taken accepted certificate circuit region kind table e = by (tables-first accepted certificate (replies circuit region kind table) e)
  where
    inner : (first : List ℕ) (s : Split) → Second accepted first s (replies circuit region kind table) → member kind accepted ≡ true
    inner first s (with_region states behind g w) =
        let gives : replies circuit region kind table ≡ replies first states w.kind w.table = w.gives in
        let same : kind ≡ w.kind = cc in
        ap (λ (k : ℕ). member k accepted) same ∙ w.taken
    inner first s (with_attacks contents behind g n w) = absurd (let z : ◌≡◌ {A = ℕ} 0 1 = cc in omega arith)

    by : First accepted certificate (replies circuit region kind table) → member kind accepted ≡ true
    by w = inner w.circuit (split w.rest) w.behind
