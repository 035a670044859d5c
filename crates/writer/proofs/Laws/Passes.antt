-- What is written passes (the mission's rule 3): the certificate of a circuit that was read from a file passes the check against that
-- file, and the check takes its tables. Assumes nothing.
use Prim.Native.Nat.{ℕ, ◌+◌, ◌^◌, ◌<◌, ◌≤◌}
use native.Mathlib.Decide.{dec_le}
use native.Mathlib.Omega.{arith}
use mathlib.Core.Bool.{Bool, true, false, cond, not}
use mathlib.Core.List.{List, ◌++◌}
use mathlib.Core.Option.{some}
use mathlib.Core.Path.{◌≡◌, refl, sym, ap, ◌∙◌}
use lib.ListN.{length, take, drop}
use lib.Seq.{take_at}
use lib.Pow.{pow_mono}
use Rattle.below.specs.Among.{among, member}
use Rattle.bits.specs.Bytes.{same_bytes}
use Rattle.bits.proofs.Laws.SameBytes.{equal_same_bytes}
use Rattle.circuit.specs.Answer.{no_room, buffer_after}
use Rattle.circuit.specs.Circuit.{Circuit, latch_count, uncontrollable_count, controllable_count}
use Rattle.circuit.specs.Limits.{base}
use Rattle.circuit.specs.Outcome.{Outcome, taken, ◌>>=◌}
use Rattle.circuit.proofs.Laws.Answer.{fitted_taken, fitted_refused}
use Rattle.circuit.proofs.Laws.Outcome.{refused_is-not_taken, test_passes}
use Rattle.file.specs.CircuitIn.{circuit_in}
use Rattle.game.specs.Attack.{attack}
use Rattle.game.specs.CircuitGame.{circuit_game, is_realizable}
use Rattle.game.specs.Rank.{rank, in_region}
use Rattle.game.specs.Reply.{reply}
use Rattle.records.specs.AttackTable.{attack_length}
use Rattle.records.specs.Record.{reply_kind, packed_kind}
use Rattle.records.specs.RegionBits.{region_length}
use Rattle.records.specs.Tables.{accepted_kinds, Tables, replies, attacks, tables_of, circuit_part}
use Rattle.records.proofs.Laws.Lengths.{length_region, length_attacks}
use Rattle.records.proofs.Laws.ReplyTable.{length-table_bytes}
use Rattle.records.proofs.Laws.WrittenShape.{replies_shape, attacks_shape}
use Rattle.checker.specs.Check.{or_bad_shape, tables_checked, chain_of, check_of}
use Rattle.checker.specs.Numbers.{other_circuit}
use Rattle.checker.proofs.Laws.Pass.{TablesPass, tables_taken}
use Rattle.checker.proofs.Laws.Retired.{none_retired}
use Rattle.writer.specs.Answer.{Verdict, certificate_for, verdict_for}
use Rattle.writer.specs.Certificate.{reply_certificate, attack_certificate, certificate_of}
use Rattle.writer.proofs.Laws.Certified.{replies_of, attacks_of}
use Rattle.writer.proofs.Laws.Longest.{bytes_longest}
use Rattle.writer.proofs.Laws.RulesKept.{own_region, own_replies, own_attacks, replies_pass, attacks_pass}
use Rattle.file.proofs.Laws.Within.{Within, read_within}

-- the tables of the certificate of a circuit
unfoldable pub own_tables : (kind : ℕ) → List ℕ → Circuit → Tables
own_tables kind file c = cond (is_realizable c) (replies file (own_region c) kind (own_replies kind c)) (attacks file (own_attacks c))

-- a kind of reply record that the check takes
pub record Accepted (kind : ℕ) : Type 0 where
  pub taken_kind : member kind accepted_kinds ≡ true
  pub narrow : kind < 2 ^ 16

pub bytes_accepted : Accepted reply_kind
unfolding member among
bytes_accepted = record { taken_kind = refl; narrow = omega arith }

pub packed_accepted : Accepted packed_kind
unfolding member among
packed_accepted = record { taken_kind = refl; narrow = omega arith }

-- a certificate whose tables pass, of this circuit file, passes
pub passes_of :
    (file certificate : List ℕ) (c : Circuit) (t : Tables) → circuit_in file ≡ taken c → tables_of accepted_kinds certificate ≡ some t
    → circuit_part t ≡ file → TablesPass c t → check_of file certificate ≡ taken t
unfolding check_of chain_of or_bad_shape
passes_of file certificate c t reads shape same fine =
    rw (reads, shape)
    (test_passes (not (same_bytes (circuit_part t) file)) other_circuit 0 _ (ap not (equal_same_bytes (circuit_part t) file same))
    ∙ none_retired t (tables_checked c t)
    ∙ tables_taken c t fine)

module _ (file : List ℕ) (c : Circuit) (within : Within file c) where
  few : 2 ^ latch_count c ≤ 2 ^ base.latches
  few = pow_mono within.few_latches

  pub reply-tables :
      (kind : ℕ) → Accepted kind
      → tables_of accepted_kinds (reply_certificate kind file c) ≡ some (replies file (own_region c) kind (own_replies kind c))
  unfolding reply_certificate own_region own_replies region_length
  reply-tables kind accepted =
      let long = bytes_longest kind (latch_count c) (uncontrollable_count c) (controllable_count c) within.few_controls in
      let places = pow_mono {i = latch_count c + uncontrollable_count c} {j = base.latches + base.uncontrollable}
      (omega (arith, within.few_latches, within.few_readings)) in
      replies_shape accepted_kinds file (omega (arith, within.short)) kind (own_region c) (own_replies kind c) accepted.taken_kind accepted.narrow
      (omega (arith, length_region (in_region (circuit_game c)) (latch_count c), few))
      (omega (
        arith,
        length-table_bytes kind (reply (circuit_game c)) (latch_count c) (uncontrollable_count c) (controllable_count c),
        long,
        places,
      ))

  pub attack-tables : tables_of accepted_kinds (attack_certificate file c) ≡ some (attacks file (own_attacks c))
  unfolding attack_certificate own_attacks attack_length
  attack-tables =
      attacks_shape accepted_kinds file (omega (arith, within.short)) (own_attacks c)
      (omega (arith, length_attacks (rank (circuit_game c)) (attack (circuit_game c)) (latch_count c), few))

-- what is written passes
pub written_passes :
    (kind : ℕ) → Accepted kind → (file : List ℕ) (c : Circuit) → circuit_in file ≡ taken c
    → check_of file (certificate_of kind file c) ≡ taken (own_tables kind file c)
unfolding own_tables circuit_part
written_passes kind accepted file c reads = by (is_realizable c) refl
  where
    within : Within file c
    within = read_within file c reads

    by :
        (b : Bool) → is_realizable c ≡ b
        → check_of file (certificate_of kind file c)
        ≡ taken (cond (is_realizable c) (replies file (own_region c) kind (own_replies kind c)) (attacks file (own_attacks c)))
    by true e =
        rw (replies_of kind file c e, e)
        (passes_of file (reply_certificate kind file c) c (replies file (own_region c) kind (own_replies kind c)) reads
        (reply-tables file c within kind accepted) refl
        (replies_pass c kind e))
    by false e =
        rw (attacks_of kind file c e, e)
        (passes_of file (attack_certificate file c) c (attacks file (own_attacks c)) reads (attack-tables file c within) refl
        (attacks_pass c within.few_latches e))

-- where a verdict is told, the certificate stands at the front of the buffer: the verdict is the circuit's, the count is the certificate's
-- length, and so many bytes of the buffer are the certificate
pub buffer_holds :
    (kind : ℕ) (file : List ℕ) (c : Circuit) (before after : List ℕ) (v : Verdict) → verdict_for kind file (taken c) (length before) ≡ taken v
    → after ≡ buffer_after (certificate_for kind file (taken c) (length before)) before
    → (v.realizable ≡ is_realizable c) × (v.count ≡ length (certificate_of kind file c)) × (take v.count after ≡ certificate_of kind file c)
unfolding certificate_for verdict_for buffer_after
buffer_holds kind file c before after v told written =
    elim (dec_le (length certificate) (length before)) [
      | yes h ↦ fits h
      | no h ↦ absurd (refused_is-not_taken no_room 0 v (sym (ap verdict (fitted_refused certificate (length before) (omega arith))) ∙ told))
    ]
  where
    certificate : List ℕ
    certificate = certificate_of kind file c

    verdict : Outcome (List ℕ) → Outcome Verdict
    verdict o = o >>= λ bytes. taken (record { realizable = is_realizable c; count = length bytes })

    fits : length certificate ≤ length before → (v.realizable ≡ is_realizable c) × (v.count ≡ length certificate) × (take v.count after ≡ certificate)
    fits h =
        let says : taken v ≡ verdict (taken certificate) = sym told ∙ ap verdict (fitted_taken certificate (length before) h) in
        let is : v ≡ record { realizable = is_realizable c; count = length certificate } = cc in
        let stands : after ≡ certificate ++ drop (length certificate) before = written ∙ ap (λ (o : Outcome (List ℕ)). buffer_after o before)
        (fitted_taken certificate (length before) h) in (
          (λ x. (is x).realizable),
          (λ x. (is x).count),
          (λ x. take (is x).count (stands x)) ∙ take_at certificate (drop (length certificate) before) (length certificate) refl,
        )
