-- What the code writes for a solved circuit are the tables of its certificate: the region of the states of rank 0, the replies by the kind of
-- their record, and the ranks with the attacks. Assumes nothing.
use Prim.Native.Nat.{ℕ, ◌+◌, ◌*◌, ◌/◌, ◌%◌, ◌^◌, ◌<◌}
use native.Mathlib.Nat.{mul-le-mul}
use native.Mathlib.Omega.{arith}
use mathlib.Core.Bool.{cond, not}
use mathlib.Core.List.{List, [], ◌∷◌, ◌++◌}
use mathlib.Core.Path.{◌≡◌, sym, ap, ap₂, ◌∙◌}
use lib.Dec.{ltb, eqb}
use lib.ListN.{get_or, take}
use lib.Pow.{pow-add}
use lib.Seq.{get_or-take}
use Rattle.below.specs.Table.{table}
use Rattle.below.proofs.Laws.Table.{get_or_table}
use Rattle.bits.specs.BitBytes.{bit_byte, bit_bytes}
use Rattle.bits.specs.Digits.{digits}
use Rattle.bits.specs.InTurn.{in_turn}
use Rattle.bits.specs.Packed.{packed_bytes}
use Rattle.bits.proofs.Laws.BitBytes.{bit_bytes_same}
use Rattle.bits.proofs.Laws.InTurn.{in_turn_same}
use Rattle.bits.proofs.Laws.Packed.{packed_same}
use Rattle.circuit.specs.Circuit.{Circuit, latch_count, uncontrollable_count, controllable_count}
use Rattle.game.specs.Attack.{attack}
use Rattle.game.specs.CircuitGame.{circuit_game}
use Rattle.game.specs.Rank.{rank, in_region}
use Rattle.game.specs.Reply.{reply}
use Rattle.keeping.specs.RankList.{ranks_in}
use Rattle.records.specs.AttackTable.{attack_bytes}
use Rattle.records.specs.PackedReplies.{packed_reply_bytes}
use Rattle.records.specs.Record.{packed_kind}
use Rattle.records.specs.RegionBits.{region_bytes}
use Rattle.records.specs.ReplyBytes.{reply_bytes, reply_length}
use Rattle.records.specs.ReplyTable.{table_bytes}
use Rattle.records.proofs.Laws.Rows.{rows_in_turn}
use Rattle.region.specs.RegionTable.{region_table}
use Rattle.region.proofs.Laws.RegionByte.{region_front}
use Rattle.solver.specs.Over.{rank_zero}
use Rattle.solver.specs.declared.Solution.{Solution}
use Rattle.circuit.specs.declared.counts.Counts.{Counts}
use Rattle.solver.proofs.Laws.RankTable.{rank_in_table}
use Rattle.solver.proofs.Laws.Solution.{replies_front, attack_in_table}
use Rattle.writer.specs.Inner.Cells.{cells_of}
use Rattle.writer.specs.Inner.Rows.{attack_row}
use Rattle.writer.specs.Inner.Solved.{Few, Solved}
use Rattle.writer.proofs.Laws.Solved.{controls_are, few_states, few_readings, ranks_are, replies_are, attacks_are}

module _ (c : Circuit) (n : Counts) (s : Solution) (few : Few n) (solved : Solved c n s) where
  abbrev L : ℕ
  L = latch_count c

  abbrev U : ℕ
  U = uncontrollable_count c

  rank_is : (t : ℕ) → t < 2 ^ L → get_or s.ranks t 0 ≡ rank (circuit_game c) t
  unfolding circuit_game ranks_in
  rank_is t h = ap (λ (l : List ℕ). get_or l t 0) (ranks_are c n s few solved) ∙ rank_in_table (circuit_game c) (few_states c n s few solved) t h

  zero_is : (t : ℕ) → t < 2 ^ L → rank_zero s.ranks t ≡ in_region (circuit_game c) t
  unfolding rank_zero in_region ranks_in
  zero_is t h = ap (λ (m : ℕ). not (ltb 0 m)) (rank_is t h)

  pub region_written :
      (states bytes : ℕ) → states ≡ 2 ^ L → bytes ≡ (states + 7) / 8
      → take bytes (region_table (rank_zero s.ranks) states) ≡ region_bytes (in_region (circuit_game c)) L
  unfolding region_bytes bit_bytes circuit_game
  region_written states bytes e f =
      region_front (rank_zero s.ranks) states bytes (omega (arith, e, f, few_states c n s few solved))
      ∙ ap (table (bit_byte (rank_zero s.ranks) states)) f
      ∙ ap (bit_bytes (rank_zero s.ranks)) e
      ∙ bit_bytes_same (rank_zero s.ranks) (in_region (circuit_game c)) (2 ^ L) zero_is

  pub replies_written : take (2 ^ (L + U)) s.replies ≡ reply_bytes (reply (circuit_game c)) L U
  unfolding reply_bytes reply_length circuit_game
  replies_written =
      ap₂ take (pow-add 2 L U) (replies_are c n s few solved)
      ∙ replies_front (circuit_game c) (mul-le-mul (few_states c n s few solved) (few_readings c n s few solved))
      ∙ ap (table (λ i. reply (circuit_game c) (i / 2 ^ U) (i % 2 ^ U))) (sym (pow-add 2 L U))

  -- a reply of the list is that of its place
  cell-is : (k : ℕ) → k < 2 ^ (L + U) → get_or s.replies k 0 ≡ reply (circuit_game c) (k / 2 ^ U) (k % 2 ^ U)
  unfolding reply_bytes reply_length
  cell-is k h =
      sym (get_or-take (2 ^ (L + U)) s.replies k 0 h)
      ∙ ap (λ (l : List ℕ). get_or l k 0) replies_written
      ∙ get_or_table (λ i. reply (circuit_game c) (i / 2 ^ U) (i % 2 ^ U)) (2 ^ (L + U)) k 0 h

  packed_is :
      packed_bytes (λ k. get_or s.replies k 0) (controllable_count c) (2 ^ (L + U))
      ≡ packed_reply_bytes (reply (circuit_game c)) L U (controllable_count c)
  unfolding packed_reply_bytes
  packed_is =
      packed_same (λ k. get_or s.replies k 0) (λ k. reply (circuit_game c) (k / 2 ^ U) (k % 2 ^ U)) (controllable_count c) (2 ^ (L + U)) cell-is

  pub cells_written :
      (kind states readings : ℕ) → states ≡ 2 ^ L → readings ≡ 2 ^ U
      → cells_of kind s.replies (states * readings) n.controls ≡ table_bytes kind (reply (circuit_game c)) L U (controllable_count c)
  unfolding cells_of table_bytes
  cells_written kind states readings e f =
      (λ i. cells_of kind s.replies (e i * f i) (controls_are c n s few solved i))
      ∙ ap (λ (m : ℕ). cells_of kind s.replies m (controllable_count c)) (sym (pow-add 2 L U))
      ∙ (λ i. cond (eqb kind packed_kind) (packed_is i) (replies_written i))

  pub attacks_written :
      (states : ℕ) → states ≡ 2 ^ L
      → in_turn (attack_row (λ t. get_or s.ranks t 0) (λ t. get_or s.attacks t 0)) states
      ≡ attack_bytes (rank (circuit_game c)) (attack (circuit_game c)) L
  unfolding attack_bytes attack_row circuit_game
  attacks_written states e =
      ap (in_turn _) e
      ∙ in_turn_same _ (attack_row (rank (circuit_game c)) (attack (circuit_game c))) (2 ^ L)
      (λ t h. ap₂ (λ (r a : ℕ). digits 256 2 r ++ (a ∷ [])) (rank_is t h) (at t h))
      ∙ rows_in_turn (attack_row (rank (circuit_game c)) (attack (circuit_game c))) (2 ^ L)
    where
      at : (t : ℕ) → t < 2 ^ L → get_or s.attacks t 0 ≡ attack (circuit_game c) t
      at t h =
          ap (λ (l : List ℕ). get_or l t 0) (attacks_are c n s few solved) ∙ attack_in_table (circuit_game c) (few_states c n s few solved) t h
