-- Reading a passed certificate by the starts and counts that the check answers (01, "The certificate"): what is read there is what the
-- check judged, so it holds when played. Assumes nothing.
use Prim.Native.Nat.{ℕ, ◌+◌, ◌-◌, ◌^◌, ◌<◌, min}
use native.Mathlib.Omega.{arith}
use mathlib.Core.Bool.{Bool, true, false, not, ◌||◌, true≢false}
use mathlib.Core.List.{List, [], ◌∷◌}
use mathlib.Core.Logic.{◌⊎◌}
use mathlib.Core.Option.{some}
use mathlib.Core.Path.{◌≡◌, refl, sym, ap, ap₂, ◌∙◌, subst, subst₂}
use borrow.Author.Tests.{eqb-true, not-false}
use lib.Dec.{eqb}
use lib.ListN.{length, take, drop}
use Rattle.below.specs.Among.{member}
use Rattle.bits.specs.Digits.{AllBelow}
use Rattle.circuit.specs.Circuit.{Circuit, latch_count, uncontrollable_count, controllable_count}
use Rattle.circuit.specs.Limits.{base}
use Rattle.circuit.specs.Outcome.{taken, ◌>>=◌}
use Rattle.circuit.proofs.Laws.Outcome.{bind_taken}
use Rattle.file.specs.CircuitIn.{circuit_in}
use Rattle.file.proofs.Laws.Within.{read_within}
use Rattle.game.specs.CircuitGame.{circuit_game, is_realizable}
use Rattle.game.specs.Game.{Game}
use Rattle.game.specs.Play.{RepliesHold, Strategy, ErrsWithin}
use Rattle.records.specs.AttackTable.{attack_length, stored_rank, stored_attack}
use Rattle.records.specs.CircuitRecord.{circuit_record}
use Rattle.records.specs.PackedReplies.{packed_reply}
use Rattle.records.specs.Passed.{reply_in}
use Rattle.records.specs.Record.{reply_kind, packed_kind, head_length}
use Rattle.records.specs.RegionBits.{region_length, holds_state, unused_bit_set}
use Rattle.records.specs.ReplyBytes.{byte_reply}
use Rattle.records.specs.ReplyTable.{table_length, stored_reply, unused_reply_bit}
use Rattle.records.specs.Shape.{shape_of}
use Rattle.records.specs.Tables.{accepted_kinds, Tables, replies, attacks}
use Rattle.records.specs.Part.{part}
use Rattle.records.proofs.Laws.CircuitRecord.{record_is_part}
use Rattle.records.proofs.Laws.Parts.{reply-parts, attack-parts}
use Rattle.records.proofs.Laws.Passed.{reply-inside, region_in_front, stored_in_front, ranks_in_front, attacks_in_front}
use Rattle.records.proofs.Laws.ReplyTable.{stored_packed, stored_byte}
use Rattle.records.proofs.Laws.Shape.{kinds_are}
use Rattle.records.proofs.Laws.Tables.{kind_taken}
use Rattle.checker.specs.Answer.{Starts, of_replies, of_attacks, starts_of, answer_of}
use Rattle.checker.specs.Check.{check_of}
use Rattle.checker.specs.Rules.{bad_reply_tables, bad_attack_table}
use Rattle.checker.specs.StoredFor.{held_at, reply_at, rank_at, attack_at}
use Rattle.checker.proofs.Laws.Means.{passes_for, replies_hold, replies_realizable, attacks_err, attacks_unrealizable}
use Rattle.checker.proofs.Laws.Pass.{RepliesPass, AttacksPass, pass_is}

-- none of four
none_of : (a u b d : Bool) → ((not a || u) || (not b || d)) ≡ false → (a ≡ true) × (b ≡ true)
none_of true false true d e = (refl, refl)
none_of true false false d e = absurd (true≢false e)
none_of true true b d e = absurd (true≢false e)
none_of false u b d e = absurd (true≢false e)

-- tables that pass have their lengths
replies_long :
    (c : Circuit) (region : List ℕ) (kind : ℕ) (table : List ℕ) → RepliesPass c region kind table
    → (length region ≡ region_length (latch_count c))
    × (length table ≡ table_length kind (latch_count c) (uncontrollable_count c) (controllable_count c))
unfolding bad_reply_tables
replies_long c region kind table p =
    let long : ℕ = table_length kind (latch_count c) (uncontrollable_count c) (controllable_count c) in
    let states : Bool = eqb (length region) (region_length (latch_count c)) in
    let places : Bool = eqb (length table) long in
    let used : Bool = unused_reply_bit kind table (latch_count c) (uncontrollable_count c) (controllable_count c) in
    let (one, two) = none_of states (unused_bit_set region (latch_count c)) places used p.sized in
    (eqb-true _ _ one, eqb-true _ _ two)

attacks_long : (c : Circuit) (table : List ℕ) → AttacksPass c table → length table ≡ attack_length (latch_count c)
unfolding bad_attack_table
attacks_long c table p = eqb-true _ _ (not-false _ p.sized)

-- a part of a list is the front of what is behind its start
part_front : (bytes table : List ℕ) (start end : ℕ) → table ≡ part start end bytes → end ≡ start + length table → table ≡ take (length table) (drop start bytes)
part_front bytes table start end e f =
    let long : end - start ≡ length table = omega arith in
    e ∙ ap (λ (n : ℕ). take n (drop start bytes)) long

-- replies that differ outside the set alone hold alike
hold_inside :
    (g : Game) (set : ℕ → Bool) (given other : ℕ → ℕ → ℕ) → ((s r : ℕ) → set s ≡ true → other s r ≡ given s r) → (s : ℕ) (rs : List ℕ)
    → RepliesHold g set given s rs → RepliesHold g set other s rs
hold_inside g set given other same s [] h = h
hold_inside g set given other same s (r ∷ rs) (e, below, clear, rest) =
    let on = hold_inside g set given other same (g.step s r (given s r)).next rs rest in
    subst (λ (k : ℕ). (set s ≡ true) × (k < g.controls) × ((g.step s r k).error ≡ false) × RepliesHold g set other (g.step s r k).next rs)
    (sym (same s r e)) (e, below, clear, on)

-- equal tables have equal parts
same_replies :
    (a b : List ℕ) (k : ℕ) (d a₂ b₂ : List ℕ) (k₂ : ℕ) (d₂ : List ℕ) → some (replies a b k d) ≡ some (replies a₂ b₂ k₂ d₂)
    → (b ≡ b₂) × (d ≡ d₂)
same_replies a b k d a₂ b₂ k₂ d₂ e = (cc, cc)

same_attacks : (a b a₂ b₂ : List ℕ) → some (attacks a b) ≡ some (attacks a₂ b₂) → b ≡ b₂
same_attacks a b a₂ b₂ e = cc

module _ (file certificate : List ℕ) (c : Circuit) (read : circuit_in file ≡ taken c) where
  -- the tables that a check took, and its answer as their starts
  pub record Took (starts : Starts) : Type 0 where
    pub tables : Tables
    pub checks : check_of file certificate ≡ taken tables
    pub starts_are : starts_of c tables ≡ starts

  pub took : (starts : Starts) → answer_of file certificate ≡ taken starts → Took starts
  unfolding answer_of
  took starts e =
      let (d, reads, e1) = bind_taken (circuit_in file) (λ d. check_of file certificate >>= λ t. taken (starts_of d t)) starts e in
      let (t, checks, e2) = bind_taken (check_of file certificate) (λ t. taken (starts_of d t)) starts e1 in
      let same : d ≡ c = cc in
      let is : starts_of d t ≡ starts = cc in
      record { tables = t; checks = checks; starts_are = ap (λ (b : Circuit). starts_of b t) (sym same) ∙ is }

  -- and back: what the check took tells its answer
  pub took_answers : (t : Tables) → check_of file certificate ≡ taken t → answer_of file certificate ≡ taken (starts_of c t)
  unfolding answer_of
  took_answers t e = rw (read, e)

  -- the certificate's circuit record is the file, byte by byte
  carries_file : (starts : Starts) → answer_of file certificate ≡ taken starts → circuit_record certificate ≡ file
  carries_file starts e =
      let t = took starts e in
      let p = pass_is file certificate t.tables t.checks in
      record_is_part accepted_kinds certificate t.tables p.tables ∙ p.same

  -- the tables of a reply certificate that passes are the fronts of what is behind their starts
  pub record RepliesTook (region table kind L U C : ℕ) : Type 0 where
    pub circuit_bytes : List ℕ
    pub region_bytes : List ℕ
    pub table_bytes : List ℕ
    pub checks : check_of file certificate ≡ taken (replies circuit_bytes region_bytes kind table_bytes)
    pub fine : RepliesPass c region_bytes kind table_bytes
    pub accepted : member kind accepted_kinds ≡ true
    pub latches : latch_count c ≡ L
    pub readings : uncontrollable_count c ≡ U
    pub controls : controllable_count c ≡ C
    pub region_front : region_bytes ≡ take (length region_bytes) (drop region certificate)
    pub table_front : table_bytes ≡ take (length table_bytes) (drop table certificate)

  pub replies_took :
      (region table kind L U C : ℕ) → answer_of file certificate ≡ taken (of_replies region table kind L U C) → RepliesTook region table kind L U C
  unfolding starts_of shape_of
  replies_took region table kind L U C e = let w = took (of_replies region table kind L U C) e in by w.tables w.checks w.starts_are
    where
      lies :
          (circuit states bytes : List ℕ) → check_of file certificate ≡ taken (replies circuit states kind bytes)
          → starts_of c (replies circuit states kind bytes) ≡ of_replies region table kind L U C → RepliesTook region table kind L U C
      lies circuit states bytes f g =
          let begins : head_length + length circuit + head_length ≡ region = cc in
          let starts : head_length + length circuit + head_length + length states + head_length ≡ table = cc in
          let p = pass_is file certificate (replies circuit states kind bytes) f in
          let there = reply-parts certificate _ _ _ _ (sym (ap shape_of p.tables)) in
          let (states_are_lem, bytes-are) = same_replies _ _ _ _ _ _ _ _ (sym p.tables ∙ there.tables) in
          record {
            circuit_bytes = circuit;
            region_bytes = states;
            table_bytes = bytes;
            checks = f;
            fine = passes_for file certificate (replies circuit states kind bytes) c f read;
            accepted = kind_taken accepted_kinds certificate circuit states kind bytes p.tables;
            latches = cc;
            readings = cc;
            controls = cc;
            region_front = part_front certificate states _ _ states_are_lem refl ∙ ap (λ (n : ℕ). take (length states) (drop n certificate)) begins;
            table_front = part_front certificate bytes _ _ bytes-are refl ∙ ap (λ (n : ℕ). take (length bytes) (drop n certificate)) starts;
          }

      by : (t : Tables) → check_of file certificate ≡ taken t → starts_of c t ≡ of_replies region table kind L U C → RepliesTook region table kind L U C
      by (attacks circuit bytes) f g = absurd (let z : ◌≡◌ {A = ℕ} 0 1 = cc in omega arith)
      by (replies circuit states read bytes) f g =
          let same : read ≡ kind = cc in
          lies circuit states bytes (f ∙ ap (λ (k : ℕ). taken (replies circuit states k bytes)) same)
          (sym (ap (λ (k : ℕ). starts_of c (replies circuit states k bytes)) same) ∙ g)

  -- and so is that of an attack certificate
  pub record AttacksTook (table L U : ℕ) : Type 0 where
    pub circuit_bytes : List ℕ
    pub table_bytes : List ℕ
    pub checks : check_of file certificate ≡ taken (attacks circuit_bytes table_bytes)
    pub fine : AttacksPass c table_bytes
    pub latches : latch_count c ≡ L
    pub table_front : table_bytes ≡ take (length table_bytes) (drop table certificate)

  pub attacks_took : (table L U : ℕ) → answer_of file certificate ≡ taken (of_attacks table L U) → AttacksTook table L U
  unfolding starts_of shape_of
  attacks_took table L U e = let w = took (of_attacks table L U) e in by w.tables w.checks w.starts_are
    where
      by : (t : Tables) → check_of file certificate ≡ taken t → starts_of c t ≡ of_attacks table L U → AttacksTook table L U
      by (replies circuit states kind bytes) f g = absurd (let z : ◌≡◌ {A = ℕ} 0 1 = cc in omega arith)
      by (attacks circuit bytes) f g =
          let starts : head_length + length circuit + head_length ≡ table = cc in
          let p = pass_is file certificate (attacks circuit bytes) f in
          let there = attack-parts certificate _ _ (sym (ap shape_of p.tables)) in
          let bytes-are = same_attacks _ _ _ _ (sym p.tables ∙ there.tables) in
          record {
            circuit_bytes = circuit;
            table_bytes = bytes;
            checks = f;
            fine = passes_for file certificate (attacks circuit bytes) c f read;
            latches = cc;
            table_front = part_front certificate bytes _ _ bytes-are refl ∙ ap (λ (n : ℕ). take (length bytes) (drop n certificate)) starts;
          }

  module _ (region table kind L U C : ℕ) (pass : answer_of file certificate ≡ taken (of_replies region table kind L U C)) where
    abbrev judged : RepliesTook region table kind L U C
    judged = replies_took region table kind L U C pass

    long :
        (length judged.region_bytes ≡ region_length (latch_count c))
        × (length judged.table_bytes ≡ table_length kind (latch_count c) (uncontrollable_count c) (controllable_count c))
    long = replies_long c judged.region_bytes kind judged.table_bytes judged.fine

    -- the bytes from each start on
    abbrev region_on : List ℕ
    region_on = drop region certificate

    abbrev replies_on : List ℕ
    replies_on = drop table certificate

    -- the region's bits and the replies are those of the records
    pub bits_are : (s : ℕ) → held_at c judged.region_bytes s ≡ holds_state region_on L s
    bits_are s =
        ap₂ (λ (l : List ℕ) (n : ℕ). holds_state l n s) judged.region_front judged.latches
        ∙ region_in_front region_on (length judged.region_bytes) L s (long.0 ∙ ap region_length judged.latches)

    pub replies_are_lem : (s r : ℕ) → reply_at c kind judged.table_bytes s r ≡ stored_reply kind replies_on L U C s r
    replies_are_lem s r =
        (λ i. stored_reply kind (judged.table_front i) (judged.latches i) (judged.readings i) (judged.controls i) s r)
        ∙ stored_in_front replies_on (length judged.table_bytes) L s kind U C r
        (long.1 ∙ λ i. table_length kind (judged.latches i) (judged.readings i) (judged.controls i))

    -- the counts lie within a circuit's limits, so look-ups by the kind read the same
    few_latches_lem : L ≡ min L base.latches
    few_latches_lem = omega (arith, judged.latches, (read_within file c read).few_latches)

    few_readings_lem : U ≡ min U base.uncontrollable
    few_readings_lem = omega (arith, judged.readings, (read_within file c read).few_readings)

    few_controls_lem : C ≡ min C base.controllable
    few_controls_lem = omega (arith, judged.controls, (read_within file c read).few_controls)

    pub bytes_read : kind ≡ reply_kind → (s r : ℕ) → stored_reply kind replies_on L U C s r ≡ byte_reply replies_on L U s r
    bytes_read e s r = stored_byte kind replies_on L U C s r (λ (p : kind ≡ packed_kind). let z : reply_kind ≡ packed_kind = sym e ∙ p in omega (arith, z))

    pub packed_read :
        kind ≡ packed_kind → (s r : ℕ)
        → stored_reply kind replies_on L U C s r
        ≡ packed_reply replies_on (min L base.latches) (min U base.uncontrollable) (min C base.controllable) s r
    packed_read e s r = stored_packed kind replies_on L U C s r e ∙ λ i. packed_reply replies_on (few_latches_lem i) (few_readings_lem i) (few_controls_lem i)
        s r

    -- for every finite run of readings a reply is read, the error is 0 and the state stays in the region that is read
    pub replies_hold_as_read :
        (rs : List ℕ) → AllBelow (2 ^ U) rs
        → RepliesHold (circuit_game c) (holds_state region_on L) (reply_in region_on L (stored_reply kind replies_on L U C)) 0 rs
    replies_hold_as_read rs h =
        let below = subst (λ (n : ℕ). AllBelow (2 ^ n) rs) (sym judged.readings) h in
        let stored = replies_hold c judged.region_bytes kind judged.table_bytes judged.fine rs below in
        let read : ℕ → ℕ → ℕ = stored_reply kind replies_on L U C in
        let set : ◌≡◌ {A = ℕ → Bool} (held_at c judged.region_bytes) (holds_state region_on L) = λ i s. bits_are s i in
        let answers : ◌≡◌ {A = ℕ → ℕ → ℕ} (reply_at c kind judged.table_bytes) read = λ i s r. replies_are_lem s r i in
        hold_inside (circuit_game c) (holds_state region_on L) read (reply_in region_on L read) (λ s r e. reply-inside region_on L read s r e) 0 rs
        (subst₂ (λ (f : ℕ → Bool) (g : ℕ → ℕ → ℕ). RepliesHold (circuit_game c) f g 0 rs) set answers stored)

    pub replies_realizable_as_read : is_realizable c ≡ true
    replies_realizable_as_read = replies_realizable c judged.region_bytes kind judged.table_bytes judged.fine

  module _ (table L U : ℕ) (pass : answer_of file certificate ≡ taken (of_attacks table L U)) where
    abbrev judged_attacks : AttacksTook table L U
    judged_attacks = attacks_took table L U pass

    abbrev attacks_on : List ℕ
    attacks_on = drop table certificate

    wide : length judged_attacks.table_bytes ≡ attack_length L
    wide = attacks_long c judged_attacks.table_bytes judged_attacks.fine ∙ ap attack_length judged_attacks.latches

    -- the ranks and attacks are those of the record
    pub ranks_are_lem : (s : ℕ) → rank_at c judged_attacks.table_bytes s ≡ stored_rank attacks_on L s
    ranks_are_lem s =
        ap₂ (λ (l : List ℕ) (n : ℕ). stored_rank l n s) judged_attacks.table_front judged_attacks.latches
        ∙ ranks_in_front attacks_on (length judged_attacks.table_bytes) L s wide

    pub attacks_are_lem : (s : ℕ) → attack_at c judged_attacks.table_bytes s ≡ stored_attack attacks_on L s
    attacks_are_lem s =
        ap₂ (λ (l : List ℕ) (n : ℕ). stored_attack l n s) judged_attacks.table_front judged_attacks.latches
        ∙ attacks_in_front attacks_on (length judged_attacks.table_bytes) L s wide

    -- against every strategy of controls the error is 1 no later than the step given by the rank that is read of state 0
    pub attacks_err_as_read : (σ : Strategy) → ErrsWithin (circuit_game c) (stored_attack attacks_on L) σ [] (stored_rank attacks_on L 0) 0
    attacks_err_as_read σ =
        let attacked : ◌≡◌ {A = ℕ → ℕ} (attack_at c judged_attacks.table_bytes) (stored_attack attacks_on L) = λ i s. attacks_are_lem s i in
        subst₂ (λ (f : ℕ → ℕ) (n : ℕ). ErrsWithin (circuit_game c) f σ [] n 0) attacked (ranks_are_lem 0)
        (attacks_err c judged_attacks.table_bytes judged_attacks.fine σ)

    pub attacks_unrealizable_as_read : is_realizable c ≡ false
    attacks_unrealizable_as_read = attacks_unrealizable c judged_attacks.table_bytes judged_attacks.fine

-- a certificate passes only for a file that is read
pub passed_reads : (file certificate : List ℕ) (starts : Starts) → answer_of file certificate ≡ taken starts → (c : Circuit) × (circuit_in file ≡ taken c)
unfolding answer_of
passed_reads file certificate starts e =
    let (c, reads, rest) = bind_taken (circuit_in file) (λ d. check_of file certificate >>= λ t. taken (starts_of d t)) starts e in
    (c, reads)

-- a reply certificate passes only with a reply record of kind 3 or 5
pub passed_kind :
    (file certificate : List ℕ) (region table kind L U C : ℕ) → answer_of file certificate ≡ taken (of_replies region table kind L U C)
    → (kind ≡ reply_kind) ⊎ (kind ≡ packed_kind)
passed_kind file certificate region table kind L U C e =
    let (c, reads) = passed_reads file certificate (of_replies region table kind L U C) e in
    kinds_are kind (replies_took file certificate c reads region table kind L U C e).accepted

pub carries_its_file : (file certificate : List ℕ) (starts : Starts) → answer_of file certificate ≡ taken starts → circuit_record certificate ≡ file
carries_its_file file certificate starts e = let (c, reads) = passed_reads file certificate starts e in carries_file file certificate c reads starts e

-- no file has both kinds pass
pub never_both_as_read :
    (file one other : List ℕ) (region table kind L U C table₂ L₂ U₂ : ℕ) → answer_of file one ≡ taken (of_replies region table kind L U C)
    → answer_of file other ≡ taken (of_attacks table₂ L₂ U₂) → ⊥
never_both_as_read file one other region table kind L U C table₂ L₂ U₂ e f =
    let (c, reads) = passed_reads file one (of_replies region table kind L U C) e in
    true≢false (sym (replies_realizable_as_read file one c reads region table kind L U C e)
    ∙ attacks_unrealizable_as_read file other c reads table₂ L₂ U₂ f)
