-- Our own certificate (the mission's rule 3, last sentence): given the room it is written and passes, and what is read of it is the region,
-- the replies, the ranks and the attacks of the circuit's game. A refusal writes nothing. Assumes nothing.
use Prim.Native.Nat.{ℕ, ◌*◌, ◌/◌, ◌%◌, ◌^◌, ◌<◌, ◌≤◌}
use native.Mathlib.Omega.{arith}
use mathlib.Core.Bool.{Bool, true, false, ◌&&◌}
use mathlib.Core.List.{List}
use mathlib.Core.Logic.{◌↔◌}
use mathlib.Core.Path.{◌≡◌, refl, sym, ap, ◌∙◌, subst}
use lib.Dec.{ltb}
use lib.ListN.{length, take, drop}
use lib.Seq.{get_or-take}
use Rattle.std.specs.Prelude.{Result}
use Rattle.bits.specs.Bit.{bit, one_if}
use Rattle.bits.specs.ByteBit.{byte_bit}
use Rattle.circuit.specs.Answer.{fitted, buffer_after}
use Rattle.circuit.specs.Circuit.{Circuit, latch_count}
use Rattle.circuit.specs.Outcome.{Outcome, taken, refused, ◌>>=◌}
use Rattle.circuit.proofs.Laws.Answer.{fitted_taken}
use Rattle.circuit.proofs.Laws.Outcome.{refused_is-not_taken, bind_taken}
use Rattle.text.proofs.Laws.Outcome.{moved}
use Rattle.file.specs.CircuitIn.{circuit_in}
use Rattle.file.specs.WriterRow.{WriterRow}
use Rattle.file.proofs.Laws.Exact.{told_refused, no_room_exactly}
use Rattle.game.specs.Attack.{attack}
use Rattle.game.specs.CircuitGame.{circuit_game, is_realizable}
use Rattle.game.specs.Rank.{rank, in_region}
use Rattle.game.specs.Reply.{reply}
use Rattle.game.proofs.Laws.Reply.{reply_outside as no_reply}
use Rattle.records.specs.AttackTable.{stored_rank, stored_attack}
use Rattle.records.specs.Passed.{reply_in}
use Rattle.records.specs.RegionBits.{region_length, holds_state, region_bytes}
use Rattle.records.specs.ReplyTable.{stored_reply}
use Rattle.records.specs.Tables.{Tables, replies, attacks}
use Rattle.records.proofs.Laws.Lengths.{length_region}
use Rattle.records.proofs.Laws.Passed.{reply-inside, reply_outside}
use Rattle.bits.proofs.Laws.BitBytes.{bit_of_bytes}
use Rattle.checker.specs.Answer.{Starts, of_replies, of_attacks, starts_of, answer_of}
use Rattle.checker.specs.Check.{check_of}
use Rattle.checker.specs.StoredFor.{reply_at}
use Rattle.checker.proofs.Laws.ReadPassed.{RepliesTook, replies_took, bits_are, replies_are_lem, AttacksTook, attacks_took, ranks_are_lem, attacks_are_lem}
use Rattle.checker.proofs.Laws.ReadPassed.{took_answers}
use Rattle.circuit.specs.declared.numbers.Refusal.{Refusal}
use Rattle.writer.specs.declared.Certified.{Certified}
use Rattle.writer.specs.Answer.{Verdict, certified_outcome, certificate_for, verdict_for, CertifiedAs}
use Rattle.writer.specs.Certificate.{certificate_of}
use Rattle.writer.proofs.Laws.Passes.{Accepted, own_tables, written_passes, buffer_holds}
use Rattle.writer.proofs.Laws.RulesKept.{own_region, own_replies, own_attacks, holds_is, stored_is, rank_is, attack-is}
use Rattle.file.proofs.Laws.Within.{read_within}

-- what is told of bytes that are written
abbrev told : Circuit → Outcome (List ℕ) → Outcome Verdict
told c o = o >>= λ bytes. taken (record { realizable = is_realizable c; count = length bytes })

-- a refusal writes nothing
pub refused_certifies_nothing :
    (kind : ℕ) (file : List ℕ) (circuit : Outcome Circuit) (before after : List ℕ) (r : Result Certified Refusal) (number place : ℕ)
    → CertifiedAs kind file circuit before after r
    → certified_outcome r ≡ refused number place → after ≡ before
unfolding certificate_for verdict_for buffer_after
refused_certifies_nothing kind file (refused n p) before after r number place w e = w.bytes
refused_certifies_nothing kind file (taken c) before after r number place w e =
    by (fitted (certificate_of kind file c) (length before)) (sym e ∙ w.answer) w.bytes
  where
    by : (o : Outcome (List ℕ)) → refused number place ≡ told c o → after ≡ buffer_after o before → after ≡ before
    by (taken bytes) f g = absurd (refused_is-not_taken number place _ f)
    by (refused n p) f g = g

-- it is refused exactly with the file's number, or with 10
pub verdict_refused_exactly :
    (kind : ℕ) (file : List ℕ) (room number place : ℕ)
    → (verdict_for kind file (circuit_in file) room ≡ refused number place) ↔ WriterRow file (certificate_of kind file) room number place
unfolding verdict_for
verdict_refused_exactly kind file room number place =
    let row = no_room_exactly file (certificate_of kind file) room number place in
    (λ e. row.0 ((by (circuit_in file)).0 e), λ t. (by (circuit_in file)).1 (row.1 t))
  where
    by :
        (o : Outcome Circuit)
        → (verdict_for kind file o room ≡ refused number place) ↔ ((o >>= λ c. fitted (certificate_of kind file c) room) ≡ refused number place)
    by (taken c) = told_refused (fitted (certificate_of kind file c) room) (λ bytes. record { realizable = is_realizable c; count = length bytes }) number place
    by (refused n p) = (λ e. moved n p number place e, λ e. moved n p number place e)

pub certify_refused_exactly :
    (kind : ℕ) (file before after : List ℕ) (r : Result Certified Refusal) (number place : ℕ) → CertifiedAs kind file (circuit_in file) before after r
    → (certified_outcome r ≡ refused number place) ↔ WriterRow file (certificate_of kind file) (length before) number place
certify_refused_exactly kind file before after r number place w =
    let row = verdict_refused_exactly kind file (length before) number place in (λ e. row.0 (sym w.answer ∙ e), λ t. w.answer ∙ row.1 t)

-- a certificate that was written, as it is told: its bytes stand at the front of the buffer, and it passes
pub record Passing (kind : ℕ) (file : List ℕ) (c : Circuit) (after : List ℕ) (v : Verdict) : Type 0 where
  pub starts : Starts
  pub right : v.realizable ≡ is_realizable c
  pub counted : v.count ≡ length (certificate_of kind file c)
  pub stands : take v.count after ≡ certificate_of kind file c
  pub passes : answer_of file (take v.count after) ≡ taken starts

pub told_passes :
    (kind : ℕ) → Accepted kind → (file : List ℕ) (c : Circuit) (before after : List ℕ) (v : Verdict) → circuit_in file ≡ taken c
    → verdict_for kind file (circuit_in file) (length before) ≡ taken v
    → after ≡ buffer_after (certificate_for kind file (circuit_in file) (length before)) before
    → Passing kind file c after v
told_passes kind accepted file c before after v reads told written =
    let says : verdict_for kind file (taken c) (length before) ≡ taken v =
    subst (λ (o : Outcome Circuit). verdict_for kind file o (length before) ≡ taken v) reads told in
    let leaves : after
    ≡ buffer_after (certificate_for kind file (taken c) (length before)) before = subst
    (λ (o : Outcome Circuit). after ≡ buffer_after (certificate_for kind file o (length before)) before) reads written in
    let (verdict, counted, stands) = buffer_holds kind file c before after v says leaves in
    record {
      starts = starts_of c (own_tables kind file c);
      right = verdict;
      counted = counted;
      stands = stands;
      passes =
          ap (answer_of file) stands
          ∙ took_answers file (certificate_of kind file c) c reads (own_tables kind file c) (written_passes kind accepted file c reads);
    }

-- given the room it is told
pub room_certifies :
    (kind : ℕ) → Accepted kind → (file : List ℕ) (c : Circuit) (before after : List ℕ) (r : Result Certified Refusal) → circuit_in file ≡ taken c
    → CertifiedAs kind file (circuit_in file) before after r → length (certificate_of kind file c) ≤ length before
    → (v : Verdict) × (certified_outcome r ≡ taken v) × Passing kind file c after v
unfolding verdict_for
room_certifies kind accepted file c before after r reads w room =
    let v : Verdict = record { realizable = is_realizable c; count = length (certificate_of kind file c) } in
    let says : verdict_for kind file (circuit_in file) (length before) ≡ taken v = ap (λ (o : Outcome Circuit). verdict_for kind file o (length before)) reads
    ∙ ap (told c) (fitted_taken (certificate_of kind file c) (length before) room) in
    (v, w.answer ∙ says, told_passes kind accepted file c before after v reads says w.bytes)

-- a verdict is told of a file that is read only
pub told_reads :
    (kind : ℕ) (file : List ℕ) (room : ℕ) (v : Verdict) → verdict_for kind file (circuit_in file) room ≡ taken v → (c : Circuit) × (circuit_in file ≡ taken c)
unfolding verdict_for
told_reads kind file room v told =
    let (c, reads, rest) =
    bind_taken (circuit_in file)
    (λ c. fitted (certificate_of kind file c) room >>= λ bytes. taken (record { realizable = is_realizable c; count = length bytes })) v told in
    (c, reads)

module _ (kind : ℕ) (accepted : Accepted kind) (file : List ℕ) (c : Circuit) (reads : circuit_in file ≡ taken c) where
  abbrev own : List ℕ
  own = certificate_of kind file c

  -- the tables that the check took are our own
  own_taken : (t : Tables) → check_of file own ≡ taken t → own_tables kind file c ≡ t
  own_taken t e = let same : taken (own_tables kind file c) ≡ taken t = sym (written_passes kind accepted file c reads) ∙ e in cc

  replies_own :
      (circuit states : List ℕ) (read : ℕ) (bytes : List ℕ) → check_of file own ≡ taken (replies circuit states read bytes)
      → (states ≡ own_region c) × (read ≡ kind) × (bytes ≡ own_replies kind c)
  unfolding own_tables
  replies_own circuit states read bytes e = by (is_realizable c) refl (own_taken (replies circuit states read bytes) e)
    where
      by :
          (b : Bool) → is_realizable c ≡ b → own_tables kind file c ≡ replies circuit states read bytes
          → (states ≡ own_region c) × (read ≡ kind) × (bytes ≡ own_replies kind c)
      by true f g = (cc, cc, cc)
      by false f g = absurd (let z : ◌≡◌ {A = ℕ} 0 1 = cc in omega arith)

  attacks_own : (circuit bytes : List ℕ) → check_of file own ≡ taken (attacks circuit bytes) → bytes ≡ own_attacks c
  unfolding own_tables
  attacks_own circuit bytes e = by (is_realizable c) refl (own_taken (attacks circuit bytes) e)
    where
      by : (b : Bool) → is_realizable c ≡ b → own_tables kind file c ≡ attacks circuit bytes → bytes ≡ own_attacks c
      by true f g = absurd (let z : ◌≡◌ {A = ℕ} 0 1 = cc in omega arith)
      by false f g = cc

  -- the region and the replies that are read are the game's
  module _ (region table read L U C : ℕ) (pass : answer_of file own ≡ taken (of_replies region table read L U C)) where
    abbrev w : RepliesTook file own c reads region table read L U C
    w = replies_took file own c reads region table read L U C pass

    are : (w.region_bytes ≡ own_region c) × (read ≡ kind) × (w.table_bytes ≡ own_replies kind c)
    are = replies_own w.circuit_bytes w.region_bytes read w.table_bytes w.checks

    -- the kind that was asked for
    pub own_kind : read ≡ kind
    own_kind = are.1

    -- the region record, byte by byte
    region_bytes_lem : take (region_length L) (drop region own) ≡ region_bytes (in_region (circuit_game c)) L
    unfolding own_region
    region_bytes_lem =
        let as_own : w.region_bytes ≡ region_bytes (in_region (circuit_game c)) L = are.0 ∙ ap (region_bytes (in_region (circuit_game c))) w.latches in
        let long : length w.region_bytes ≡ region_length L = ap length as_own ∙ length_region (in_region (circuit_game c)) L in
        ap (λ (n : ℕ). take n (drop region own)) (sym long) ∙ sym w.region_front ∙ as_own

    -- each bit of the region record: 1 for a state of the region, else 0; a bit that stands for no state is 0
    pub own_bit : (i : ℕ) → i < 8 * region_length L → byte_bit (drop region own) i ≡ one_if (ltb i (2 ^ L) && in_region (circuit_game c) i)
    unfolding byte_bit region_bytes region_length
    own_bit i within =
        ap (λ (b : ℕ). bit b (i % 8)) (sym (get_or-take (region_length L) (drop region own) (i / 8) 0 (omega arith)))
        ∙ ap (λ (l : List ℕ). byte_bit l i) region_bytes_lem
        ∙ bit_of_bytes (in_region (circuit_game c)) (2 ^ L) i within

    module _ (s : ℕ) (state : s < 2 ^ L) where
      below : s < 2 ^ latch_count c
      below = subst (λ (n : ℕ). s < 2 ^ n) (sym w.latches) state

      pub own_region_lem : holds_state (drop region own) L s ≡ in_region (circuit_game c) s
      unfolding circuit_game
      own_region_lem =
          sym (bits_are file own c reads region table read L U C pass s)
          ∙ ap (λ (l : List ℕ). holds_state l (latch_count c) s) are.0 ∙ holds_is c s below

      abbrev stored : (state reading : ℕ) → ℕ
      stored = stored_reply read (drop table own) L U C

      pub own_reply_lem : (r : ℕ) → r < 2 ^ U → reply_in (drop region own) L stored s r ≡ reply (circuit_game c) s r
      unfolding circuit_game
      own_reply_lem r reading = by (in_region (circuit_game c) s) refl
        where
          by : (b : Bool) → in_region (circuit_game c) s ≡ b → reply_in (drop region own) L stored s r ≡ reply (circuit_game c) s r
          by true e =
              reply-inside (drop region own) L stored s r (own_region_lem ∙ e)
              ∙ sym (replies_are_lem file own c reads region table read L U C pass s r)
              ∙ (λ i. reply_at c (are.1 i) (are.2 i) s r)
              ∙ stored_is c kind s r below (subst (λ (n : ℕ). r < 2 ^ n) (sym w.readings) reading)
          by false e = reply_outside (drop region own) L stored s r (own_region_lem ∙ e) ∙ sym (no_reply (circuit_game c) s r e)

  -- and so are the ranks and the attacks
  module _ (table L U : ℕ) (pass : answer_of file own ≡ taken (of_attacks table L U)) (s : ℕ) (state : s < 2 ^ L) where
    abbrev v : AttacksTook file own c reads table L U
    v = attacks_took file own c reads table L U pass

    is : v.table_bytes ≡ own_attacks c
    is = attacks_own v.circuit_bytes v.table_bytes v.checks

    lower : s < 2 ^ latch_count c
    lower = subst (λ (n : ℕ). s < 2 ^ n) (sym v.latches) state

    pub own_rank : stored_rank (drop table own) L s ≡ rank (circuit_game c) s
    unfolding circuit_game
    own_rank =
        sym (ranks_are_lem file own c reads table L U pass s)
        ∙ ap (λ (l : List ℕ). stored_rank l (latch_count c) s) is
        ∙ rank_is c (read_within file c reads).few_latches s lower

    pub own_attack : stored_attack (drop table own) L s ≡ attack (circuit_game c) s
    unfolding circuit_game
    own_attack =
        sym (attacks_are_lem file own c reads table L U pass s)
        ∙ ap (λ (l : List ℕ). stored_attack l (latch_count c) s) is
        ∙ attack-is c (read_within file c reads).few_latches s lower
