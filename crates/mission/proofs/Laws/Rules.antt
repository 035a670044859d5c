-- The three rules of the mission, sentence by sentence. A promise stands here as it stands at its function: `ReadAs`, `WrittenAs` and
-- `CertifiedAs` say which answer and which buffer a call may leave, `answer_of` what a check answers, `read_answer` and the like what other
-- languages are answered. What holds for every such answer holds for the code. Each proof cites the law that carries it. Assumes nothing.
use Prim.Native.Nat.{ℕ, ◌*◌, ◌^◌, ◌<◌, ◌≤◌, min}
use lib.Pow.{pow_mono}
use mathlib.Core.Bool.{true, false, ◌&&◌}
use mathlib.Core.List.{List, [], Memᴰ}
use mathlib.Core.Logic.{◌↔◌, ◌⊎◌, ◌≢◌}
use mathlib.Core.Path.{◌≡◌, sym, ◌∙◌, subst}
use lib.Dec.{ltb}
use lib.ListN.{length, take, drop}
use Rattle.bits.specs.Bit.{one_if}
use Rattle.bits.specs.ByteBit.{byte_bit}
use Rattle.below.specs.Among.{member}
use Rattle.bits.specs.Digits.{AllBelow}
use Rattle.std.specs.Prelude.{Result, Ok}
use Rattle.circuit.specs.Answer.{outcome_of, ReadAs, WrittenAs, count_of, buffer_after}
use Rattle.circuit.specs.Circuit.{Circuit, Gate, latch_count, uncontrollable_count, controllable_count, too_many}
use Rattle.circuit.specs.Limits.{base}
use Rattle.circuit.specs.Outcome.{taken, refused}
use Rattle.circuit.specs.Reset.{is_reset}
use Rattle.circuit.specs.Stored.{meant, solvable}
use Rattle.circuit.specs.declared.Circuit.{Circuit as Value}
use Rattle.circuit.specs.declared.numbers.Refusal.{Refusal}
use Rattle.circuit.proofs.Laws.Answer.{read_decided, written_decided, refused_writes_nothing}
use Rattle.text.specs.Above.{Operands}
use Rattle.text.specs.InList.{All, Pairs}
use Rattle.text.specs.Printed.{printed}
use Rattle.text.specs.Row.{Row}
use Rattle.text.specs.TextFile.{TextFile, circuit_of}
use Rattle.text.specs.WellFormed.{WellFormed, Known, ReachesItself, of_inputs_and_latches, defined_in}
use Rattle.text.specs.Written.{text_of}
use Rattle.text.proofs.Laws.TakenExactly.{taken_exactly, written_once}
use Rattle.text.proofs.Laws.Exact.{refused_exactly, taken_circuit}
use Rattle.text.proofs.Laws.GateOrder.{same_gates, gates_above, in_order_operands, in_order_no_circle, in_order_as_before}
use Rattle.text.proofs.Laws.Outcome.{taken_is}
use Rattle.step.specs.Defined.{defined_by}
use Rattle.step.specs.NextIn.{next_in}
use Rattle.step.specs.Settled.{Settled}
use Rattle.step.specs.Step.{error_of, next_of, step}
use Rattle.step.specs.Value.{Valuation, literal_value, valuation}
use Rattle.step.proofs.Laws.Settled.{valuation_settled}
use Rattle.step.proofs.Laws.SettledOnce.{settled_agree, error_settled, next_settled}
use Rattle.game.specs.Alike.{Alike}
use Rattle.game.specs.Attack.{attack}
use Rattle.game.specs.CircuitGame.{circuit_game, is_realizable}
use Rattle.game.specs.Play.{RepliesHold, Strategy, ErrsWithin}
use Rattle.game.specs.Rank.{AreRanks, rank, in_region}
use Rattle.game.specs.Region.{IsRegion}
use Rattle.game.specs.Reply.{reply}
use Rattle.game.specs.Verdict.{Realizable}
use Rattle.game.proofs.Laws.Alike.{equal_is_alike}
use Rattle.game.proofs.Laws.CircuitGame.{circuit_proper}
use Rattle.game.proofs.Laws.Rank.{ranks_are_lem}
use Rattle.game.proofs.Laws.Region.{region_is_largest}
use Rattle.game.proofs.Laws.Verdict.{realizable_sound, realizable_complete}
use Rattle.keeping.specs.RankList.{ranks_in}
use Rattle.solver.specs.RankTable.{rank_table}
use Rattle.solver.proofs.Laws.RankTable.{rank_in_table}
use Rattle.records.specs.AttackTable.{stored_rank, stored_attack}
use Rattle.records.specs.CircuitRecord.{circuit_record}
use Rattle.records.specs.Kinds.{reply_kind_number}
use Rattle.records.specs.PackedReplies.{packed_reply, packed_reply_bytes}
use Rattle.records.specs.Passed.{reply_in}
use Rattle.records.specs.Record.{reply_kind, packed_kind}
use Rattle.records.specs.RegionBits.{region_length, holds_state}
use Rattle.records.specs.ReplyBytes.{byte_reply, reply_bytes}
use Rattle.records.specs.ReplyTable.{stored_reply}
use Rattle.records.specs.declared.kinds.ReplyKind.{ReplyKind}
use Rattle.records.specs.declared.kinds.ReplyKind.TheVariants.{Bytes, Packed}
use Rattle.records.proofs.Laws.PackedReplies.{packed_reads_as_bytes as packed-as-bytes}
use Rattle.file.specs.CircuitIn.{circuit_in}
use Rattle.file.specs.WriterRow.{WriterRow}
use Rattle.file.proofs.Laws.Exact.{reader_refused_exactly}
use Rattle.file.proofs.Laws.Numbered.{file_numbered, writer_numbered as row-numbered}
use Rattle.file.proofs.Laws.Read.{taken_means}
use Rattle.file.proofs.Laws.Within.{read_within}
use Rattle.printer.specs.FilePrinted.{file_printed}
use Rattle.printer.proofs.Laws.ReadsBack.{print_reads_back, count_refused_exactly, print_refused_exactly}
use Rattle.checker.specs.Answer.{Starts, of_replies, of_attacks, answer_of, checked_outcome}
use Rattle.checker.specs.CheckRow.{CheckRow}
use Rattle.checker.specs.declared.Passed.{Passed}
use Rattle.checker.proofs.Laws.Answer.{same_outcome_same_answer}
use Rattle.checker.proofs.Laws.Exact.{check_refused_exactly}
use Rattle.checker.proofs.Laws.Numbered.{check_numbered}
use Rattle.checker.proofs.Laws.ReadPassed.{
  passed_reads,
  passed_kind,
  replies_took,
  bytes_read,
  packed_read,
  carries_its_file,
  never_both_as_read,
  replies_hold_as_read,
  replies_realizable_as_read,
  attacks_err_as_read,
  attacks_unrealizable_as_read,
}
use Rattle.writer.specs.Answer.{Verdict, CertifiedAs, certified_outcome, certificate_for, verdict_for}
use Rattle.writer.specs.Certificate.{certificate_of}
use Rattle.writer.specs.declared.Certified.{Certified}
use Rattle.writer.proofs.Laws.Decided.{certified_decided}
use Rattle.writer.proofs.Laws.Longest.{longest_certificate}
use Rattle.writer.proofs.Laws.OwnCertificate.{
  refused_certifies_nothing,
  verdict_refused_exactly,
  certify_refused_exactly,
  room_certifies,
  own_kind,
  own_bit,
  own_region_lem,
  own_reply_lem,
  own_rank,
  own_attack,
}
use Rattle.writer.proofs.Laws.Passes.{Accepted, bytes_accepted, packed_accepted}
use Rattle.capi.specs.Plain.{read_answer, step_answer, certify_answer, check_answer, print_answer}
use Rattle.capi.specs.Stepped.{file_stepped}
use Rattle.capi.specs.declared.CertifyAnswer.{CertifyAnswer}
use Rattle.capi.specs.declared.CheckAnswer.{CheckAnswer}
use Rattle.capi.specs.declared.PrintAnswer.{PrintAnswer}
use Rattle.capi.specs.declared.ReadAnswer.{ReadAnswer}
use Rattle.capi.specs.declared.StepAnswer.{StepAnswer}
use Rattle.capi.proofs.Laws.Zero.{
  zero_read,
  number_read,
  zero_stepped,
  number_stepped,
  zero_certified,
  number-certified,
  zero_replies,
  zero_attacks,
  zero_kind,
  number_checked,
  zero_printed,
  number-printed,
}
use Rattle.mission.proofs.Laws.InOrder.{read_in_order}

-- RULE 1. Every input is met.
--
-- "A file or table of any content gets the numbered reply that its faults call for." Each refusal has its row in the table of numbers, and each
-- row is refused so: of the reader, of the checker, of the writer of certificates and of the printer.
pub reader_refuses_exactly : (file : List ℕ) (r : Result Value Refusal) (number place : ℕ) → ReadAs (circuit_in file) r
    → (outcome_of r ≡ refused number place) ↔ Row base file number place
unfolding circuit_in
reader_refuses_exactly file r number place w = (
  λ e. (refused_exactly base file number place).0 ((reader_refused_exactly file r number place w).0 e),
  λ t. (reader_refused_exactly file r number place w).1 ((refused_exactly base file number place).1 t),
)

pub checker_refuses_exactly : (file certificate : List ℕ) (a : Result Passed Refusal) (number place : ℕ) → checked_outcome a ≡ answer_of file certificate
    → (checked_outcome a ≡ refused number place) ↔ CheckRow file certificate number place
checker_refuses_exactly file certificate a number place w =
    (λ e. (check_refused_exactly file certificate number place).0 (sym w ∙ e), λ t. w ∙ (check_refused_exactly file certificate number place).1 t)

pub writer_refuses_exactly :
    (kind : ℕ) (file before after : List ℕ) (r : Result Certified Refusal) (number place : ℕ) → CertifiedAs kind file (circuit_in file) before after r
    → (certified_outcome r ≡ refused number place) ↔ WriterRow file (certificate_of kind file) (length before) number place
writer_refuses_exactly kind file before after r number place w = certify_refused_exactly kind file before after r number place w

pub printer_refuses_exactly : (file before after : List ℕ) (r : Result ℕ Refusal) (number place : ℕ)
    → WrittenAs (file_printed file (length before)) before after r → (outcome_of r ≡ refused number place) ↔ WriterRow file printed (length before)
    number place
printer_refuses_exactly file before after r number place w = print_refused_exactly file before after r number place w

-- A refusal's number is one of the table's, and never 0.
pub reader_numbered :
    (file : List ℕ) (r : Result Value Refusal) (number place : ℕ) → ReadAs (circuit_in file) r → outcome_of r ≡ refused number place
    → (1 ≤ number) × ((number ≤ 9) ⊎ (number ≡ 16))
reader_numbered file r number place w e = file_numbered file number place ((reader_refused_exactly file r number place w).0 e)

pub checker_numbered :
    (file certificate : List ℕ) (a : Result Passed Refusal) (number place : ℕ) → checked_outcome a ≡ answer_of file certificate
    → checked_outcome a ≡ refused number place
    → (1 ≤ number) × (number ≤ 16)
checker_numbered file certificate a number place w e = check_numbered file certificate number place (sym w ∙ e)

pub writer_numbered :
    (kind : ℕ) (file before after : List ℕ) (r : Result Certified Refusal) (number place : ℕ) → CertifiedAs kind file (circuit_in file) before after r
    → certified_outcome r ≡ refused number place
    → (1 ≤ number) × ((number ≤ 10) ⊎ (number ≡ 16))
writer_numbered kind file before after r number place w e =
    row-numbered file (certificate_of kind file) (length before) number place ((certify_refused_exactly kind file before after r number place w).0 e)

pub printer_numbered :
    (file before after : List ℕ) (r : Result ℕ Refusal) (number place : ℕ) → WrittenAs (file_printed file (length before)) before after r
    → outcome_of r ≡ refused number place
    → (1 ≤ number) × ((number ≤ 10) ⊎ (number ≡ 16))
printer_numbered file before after r number place w e = row-numbered file printed (length before) number place
    ((print_refused_exactly file before after r number place w).0 e)

-- "no caller has to check first": no promise has a condition on what the call is given, and each decides its answer and its buffer.
pub reader_decided : (file : List ℕ) (r s : Result Value Refusal) → ReadAs (circuit_in file) r → ReadAs (circuit_in file) s → r ≡ s
reader_decided file r s v w = read_decided (circuit_in file) r s v w

pub checker_decided : (file certificate : List ℕ) (a b : Result Passed Refusal) → checked_outcome a ≡ answer_of file certificate
    → checked_outcome b ≡ answer_of file certificate → a ≡ b
checker_decided file certificate a b e f = same_outcome_same_answer a b (e ∙ sym f)

pub writer_decided :
    (kind : ℕ) (file before l m : List ℕ) (r s : Result Certified Refusal) → CertifiedAs kind file (circuit_in file) before l r
    → CertifiedAs kind file (circuit_in file) before m s → (r ≡ s) × (l ≡ m)
writer_decided kind file before l m r s v w = certified_decided kind file (circuit_in file) before l m r s v w

pub printer_decided : (file before l m : List ℕ) (r s : Result ℕ Refusal) → WrittenAs (file_printed file (length before)) before l r
    → WrittenAs (file_printed file (length before)) before m s → (r ≡ s) × (l ≡ m)
printer_decided file before l m r s v w = written_decided (file_printed file (length before)) before l m r s v w

-- "a refusal writes nothing into a lent buffer."
pub writer_refusal_writes_nothing :
    (kind : ℕ) (file before after : List ℕ) (r : Result Certified Refusal) (number place : ℕ) → CertifiedAs kind file (circuit_in file) before after r
    → certified_outcome r ≡ refused number place → after ≡ before
writer_refusal_writes_nothing kind file before after r number place w e =
    refused_certifies_nothing kind file (circuit_in file) before after r number place w e

pub printer_refusal_writes_nothing : (file before after : List ℕ) (r : Result ℕ Refusal) (number place : ℕ)
    → WrittenAs (file_printed file (length before)) before after r → outcome_of r ≡ refused number place → after ≡ before
printer_refusal_writes_nothing file before after r number place w e = refused_writes_nothing (file_printed file (length before)) before after r number place w e

-- RULE 2.
--
-- "The circuit read is the one that the AIGER text means." A file is read as a circuit exactly if it is, byte by byte, the text written for
-- a file as the format asks, within the limits, whose circuit it is; it is the text of one such file only; and the value read stands for it,
-- for the step (`meant`) and for solver, writer and checker (`solvable`).
pub read_exactly : (file : List ℕ) (c : Circuit) → (circuit_in file ≡ taken c) ↔
    ((f : TextFile) × (file ≡ text_of f) × WellFormed base f × (too_many base (circuit_of f) ≡ false) × (circuit_of f ≡ c))
unfolding circuit_in
read_exactly file c = (
  λ e. let (f, g, few, is) = (taken_circuit base file c).0 e in let (text, well) = (taken_exactly file f).0 g in (f, text, well, few, is),
  λ w. (taken_circuit base file c).1 (w.0, (taken_exactly file w.0).1 (w.1, w.2), w.3, w.4),
)

pub text_of_one : (f g : TextFile) → WellFormed base f → WellFormed base g → text_of f ≡ text_of g → f ≡ g
text_of_one f g v w e = written_once f g v w e

pub reader_stores : (file : List ℕ) (r : Result Value Refusal) (v : Value) → ReadAs (circuit_in file) r → r ≡ Ok v
    → (c : Circuit) × (circuit_in file ≡ taken c) × (meant v ≡ c) × (solvable (meant v) ≡ c)
reader_stores file r v w e = let m = taken_means file r w v e in (m.circuit, m.read, m.meant_is, m.solvable-is)

-- "operands may be any defined variable, evaluation follows dependency" (02, T-01): the gates of the circuit are those of the text's lines, each
-- behind the gates that it uses. "Step answers for files already taken don't change": where operands stand above their gates (01, rule 4) a file
-- is taken still, and its circuit has the gates in the order of their lines, as before.
pub gates_of-lines : (f : TextFile) → WellFormed base f → (g : Gate) → Memᴰ g (circuit_of f).gates ↔ Memᴰ g f.gates
gates_of-lines f w = same_gates f w.no_circle

pub gates_follow_dependency : (f : TextFile) → WellFormed base f → Operands (of_inputs_and_latches f) (circuit_of f).gates
gates_follow_dependency f w = gates_above f w.no_circle w.operands

module _ (f : TextFile) (once : Pairs (λ v w. v ≢ w) (defined_in f)) (above : Operands (of_inputs_and_latches f) f.gates) where
  pub operands_still_defined : All (λ (g : Gate). Known (defined_in f) g.left × Known (defined_in f) g.right) f.gates
  operands_still_defined = in_order_operands f once above

  pub still_no_circle : (i : ℕ) → ReachesItself f.gates i → ⊥
  still_no_circle = in_order_no_circle f once above

  pub gates_as_before : (circuit_of f).gates ≡ f.gates
  gates_as_before = in_order_as_before f once above

-- What its lines mean in a step, by no order of evaluation (`Settled`): each latch and input has its bit of state, reading or control, and each
-- gate is true exactly if both of its operands are. There is such a valuation, the one of the step; any two agree on each variable that the
-- circuit defines; and by any of them the error is the value of the output literal, and the next state the number that the values of the
-- next-state literals form.
module _ (file : List ℕ) (c : Circuit) (reads : circuit_in file ≡ taken c) (s r k : ℕ) where
  pub read_is_settled : Settled c s r k (valuation c s r k)
  read_is_settled = valuation_settled c (read_in_order file c reads) s r k

  pub settled_is_unique : (a b : Valuation) → Settled c s r k a → Settled c s r k b → (v : ℕ) → member v (defined_by c) ≡ true → a v ≡ b v
  settled_is_unique a b x y = settled_agree c s r k a b x y (read_in_order file c reads)

  pub error_is_settled : (val : Valuation) → Settled c s r k val → error_of c s r k ≡ literal_value val c.output
  error_is_settled val x = error_settled c (read_in_order file c reads) s r k val x

  pub next_is_settled : (val : Valuation) → Settled c s r k val → next_of c s r k ≡ next_in val c.latches
  next_is_settled val x = next_settled c (read_in_order file c reads) s r k val x

-- "'Realizable' exactly if some set of states holds the reset state and, for each of its states and each reading, some control gives error 0
-- and a next state in the set."
pub realizable_if : (c : Circuit) → Realizable (circuit_game c) (is_reset c) → is_realizable c ≡ true
unfolding is_realizable
realizable_if c w = realizable_complete (circuit_game c) (circuit_proper c) (is_reset c) w

pub realizable_only_if : (c : Circuit) → is_realizable c ≡ true → Realizable (circuit_game c) (is_reset c)
unfolding is_realizable
realizable_only_if c e = realizable_sound (circuit_game c) (circuit_proper c) (is_reset c) e

-- "The region reported is the largest such set." The states of rank 0 in the solver's table are that set. In our own certificate, which is
-- what stands in the buffer (`certificate_passes`), each bit of the region record is 1 for a state of that set and 0 else, a bit that stands
-- for no state too; and region, replies, ranks and attacks are read as the game's. `kind` is that of the reply record that was asked for: 3, or
-- 5 for packed replies.
pub region_largest : (c : Circuit) → IsRegion (circuit_game c) (λ s. in_region (circuit_game c) s ≡ true)
region_largest c = region_is_largest (circuit_game c) (circuit_proper c)

pub ranks_reported : (file : List ℕ) (c : Circuit) → circuit_in file ≡ taken c → (s : ℕ) → s < (circuit_game c).states
    → ranks_in (rank_table (circuit_game c)) s ≡ rank (circuit_game c) s
unfolding circuit_game
ranks_reported file c e s h = rank_in_table (circuit_game c) (pow_mono (read_within file c e).few_latches) s h

pub ranks_right : (c : Circuit) → AreRanks (circuit_game c) (rank (circuit_game c))
ranks_right c = ranks_are_lem (circuit_game c) (circuit_proper c)

module _ (kind : ℕ) (accepted : Accepted kind) (file : List ℕ) (c : Circuit) (reads : circuit_in file ≡ taken c) where
  abbrev own : List ℕ
  own = certificate_of kind file c

  module _ (region table read L U C : ℕ) (pass : answer_of file own ≡ taken (of_replies region table read L U C)) where
    pub kind_reported : read ≡ kind
    kind_reported = own_kind kind accepted file c reads region table read L U C pass

    pub region_bit_reported : (i : ℕ) → i < 8 * region_length L → byte_bit (drop region own) i ≡ one_if (ltb i (2 ^ L) && in_region (circuit_game c) i)
    region_bit_reported i h = own_bit kind accepted file c reads region table read L U C pass i h

    pub region_reported : (s : ℕ) → s < 2 ^ L → holds_state (drop region own) L s ≡ in_region (circuit_game c) s
    region_reported s h = own_region_lem kind accepted file c reads region table read L U C pass s h

    pub reply_reported :
        (s r : ℕ) → s < 2 ^ L → r < 2 ^ U
        → reply_in (drop region own) L (stored_reply read (drop table own) L U C) s r ≡ reply (circuit_game c) s r
    reply_reported s r h l = own_reply_lem kind accepted file c reads region table read L U C pass s h r l

  module _ (table L U : ℕ) (pass : answer_of file own ≡ taken (of_attacks table L U)) where
    pub rank_reported : (s : ℕ) → s < 2 ^ L → stored_rank (drop table own) L s ≡ rank (circuit_game c) s
    rank_reported s h = own_rank kind accepted file c reads table L U pass s h

    pub attack_reported : (s : ℕ) → s < 2 ^ L → stored_attack (drop table own) L s ≡ attack (circuit_game c) s
    attack_reported s h = own_attack kind accepted file c reads table L U pass s h

-- "Every reply read from the packed table equals the one of the byte table, shown once for all C." (02, T-07): of any table of replies below
-- 2^C; and of our own two certificates of a file, at the starts that their checks answer.
pub packed_reads_as_bytes :
    (replies : ℕ → ℕ → ℕ) (L U C : ℕ) → ((s r : ℕ) → s < 2 ^ L → r < 2 ^ U → replies s r < 2 ^ C) → (s r : ℕ)
    → packed_reply (packed_reply_bytes replies L U C) L U C s r ≡ byte_reply (reply_bytes replies L U) L U s r
packed_reads_as_bytes replies L U C small s r = packed-as-bytes replies L U C small s r

module _ (file : List ℕ) (c : Circuit) (reads : circuit_in file ≡ taken c) (region table kind L U C region₂ table₂ kind₂ L₂ U₂ C₂ : ℕ) where
  abbrev in_bytes : List ℕ
  in_bytes = certificate_of reply_kind file c

  abbrev packed : List ℕ
  packed = certificate_of packed_kind file c

  pub own_replies-agree :
      answer_of file in_bytes ≡ taken (of_replies region table kind L U C) → answer_of file packed ≡ taken (of_replies region₂ table₂ kind₂ L₂ U₂ C₂)
      → (s r : ℕ) → s < 2 ^ L → r < 2 ^ U
      → reply_in (drop region₂ packed) L₂ (stored_reply kind₂ (drop table₂ packed) L₂ U₂ C₂) s r
      ≡ reply_in (drop region in_bytes) L (stored_reply kind (drop table in_bytes) L U C) s r
  own_replies-agree one other s r h l =
      let a = replies_took file in_bytes c reads region table kind L U C one in
      let b = replies_took file packed c reads region₂ table₂ kind₂ L₂ U₂ C₂ other in
      let state = subst (λ (n : ℕ). s < 2 ^ n) (sym a.latches ∙ b.latches) h in
      let reading = subst (λ (n : ℕ). r < 2 ^ n) (sym a.readings ∙ b.readings) l in
      own_reply_lem packed_kind packed_accepted file c reads region₂ table₂ kind₂ L₂ U₂ C₂ other s state r reading
      ∙ sym (own_reply_lem reply_kind bytes_accepted file c reads region table kind L U C one s h r l)

-- "A printed circuit reads back as the same circuit." What a printer counted stands at the front of its buffer; whatever is asked of the circuit
-- that is read there is answered alike (`Alike`).
module _ (file : List ℕ) (c : Circuit) (before after : List ℕ) (r : Result ℕ Refusal) (n : ℕ) (reads : circuit_in file ≡ taken c)
    (w : WrittenAs (file_printed file (length before)) before after r) (told : outcome_of r ≡ taken n) where
  pub print_read : circuit_in (take n after) ≡ taken c
  print_read = print_reads_back file c reads before after r n w told

  pub print_read_alike : (d : Circuit) → circuit_in (take n after) ≡ taken d → Alike c d
  print_read_alike d e = equal_is_alike c d (taken_is c d (sym print_read ∙ e))

-- RULE 3.
--
-- "A certificate that passes for a circuit, whoever made it, carries that circuit byte by byte and holds when played." It passes only for a file
-- that is read; its circuit record is that file.
pub pass_reads : (file certificate : List ℕ) (starts : Starts) → answer_of file certificate ≡ taken starts → (c : Circuit) × (circuit_in file ≡ taken c)
pass_reads file certificate starts e = passed_reads file certificate starts e

pub pass_carries : (file certificate : List ℕ) (starts : Starts) → answer_of file certificate ≡ taken starts → circuit_record certificate ≡ file
pass_carries file certificate starts e = carries_its_file file certificate starts e

module _ (file certificate : List ℕ) (c : Circuit) (reads : circuit_in file ≡ taken c) where
  -- "Reply table: from reset, for each finite run of readings, a reply is there, the error stays 0, the state stays in the region.": by what
  -- `region_bit` and, by the kind that the check answers, `reply` or `packed_reply` read at the starts that it answers.
  module _ (region table kind L U C : ℕ) (pass : answer_of file certificate ≡ taken (of_replies region table kind L U C)) where
    abbrev stored : (state reading : ℕ) → ℕ
    stored = stored_reply kind (drop table certificate) L U C

    pub replies_hold :
        (rs : List ℕ) → AllBelow (2 ^ U) rs
        → RepliesHold (circuit_game c) (holds_state (drop region certificate) L) (reply_in (drop region certificate) L stored) 0 rs
    replies_hold rs h = replies_hold_as_read file certificate c reads region table kind L U C pass rs h

    pub either_kind : (kind ≡ reply_kind) ⊎ (kind ≡ packed_kind)
    either_kind = passed_kind file certificate region table kind L U C pass

    pub stored_as_bytes : kind ≡ reply_kind → (s r : ℕ) → stored s r ≡ byte_reply (drop table certificate) L U s r
    stored_as_bytes e s r = bytes_read file certificate c reads region table kind L U C pass e s r

    pub stored_as_packed :
        kind ≡ packed_kind → (s r : ℕ)
        → stored s r ≡ packed_reply (drop table certificate) (min L base.latches) (min U base.uncontrollable) (min C base.controllable) s r
    stored_as_packed e s r = packed_read file certificate c reads region table kind L U C pass e s r

    pub replies_realizable : is_realizable c ≡ true
    replies_realizable = replies_realizable_as_read file certificate c reads region table kind L U C pass

  -- "Attack table: whichever controls are chosen, even after seeing the reading, the error is 1 no later than the step given by the rank of
  -- the reset state.": by what `attack` and `rank` read there. Each attack is a reading; a control may be any number, its bits above C aren't
  -- read.
  module _ (table L U : ℕ) (pass : answer_of file certificate ≡ taken (of_attacks table L U)) where
    pub attacks_err : (σ : Strategy) → ErrsWithin (circuit_game c) (stored_attack (drop table certificate) L) σ [] (stored_rank (drop table certificate) L 0) 0
    attacks_err σ = attacks_err_as_read file certificate c reads table L U pass σ

    pub attacks_unrealizable : is_realizable c ≡ false
    attacks_unrealizable = attacks_unrealizable_as_read file certificate c reads table L U pass

pub never_both :
    (file one other : List ℕ) (region table kind L U C table₂ L₂ U₂ : ℕ) → answer_of file one ≡ taken (of_replies region table kind L U C)
    → answer_of file other ≡ taken (of_attacks table₂ L₂ U₂) → ⊥
never_both file one other region table kind L U C table₂ L₂ U₂ e f =
    never_both_as_read file one other region table kind L U C table₂ L₂ U₂ e f

-- "Each circuit that is read gets, given the room, a certificate from our own solver, and that one passes." What is counted stands at the
-- front of the buffer and is the certificate of the definition, so what rule 2 says of `certificate_of` is said of what was written. 49,298
-- bytes are room for each, of either kind.
pub certificate_passes :
    (kind : ℕ) → Accepted kind → (file : List ℕ) (c : Circuit) (before after : List ℕ) (r : Result Certified Refusal) → circuit_in file ≡ taken c
    → CertifiedAs kind file (circuit_in file) before after r → length (certificate_of kind file c) ≤ length before
    → (v : Verdict) × (starts : Starts) × (certified_outcome r ≡ taken v) × (v.realizable ≡ is_realizable c)
    × (v.count ≡ length (certificate_of kind file c)) × (take v.count after ≡ certificate_of kind file c)
    × (answer_of file (take v.count after) ≡ taken starts)
certificate_passes kind accepted file c before after r reads w room =
    let (v, told, p) = room_certifies kind accepted file c before after r reads w room in
    (v, p.starts, told, p.right, p.counted, p.stands, p.passes)

pub both-kinds : Accepted reply_kind × Accepted packed_kind
both-kinds = (bytes_accepted, packed_accepted)

-- Those are the kinds that `certify` can be asked for.
pub each_kind : (kind : ReplyKind) → Accepted (reply_kind_number kind)
each_kind Bytes = bytes_accepted
each_kind Packed = packed_accepted

pub room_enough : (kind : ℕ) (file : List ℕ) (c : Circuit) → circuit_in file ≡ taken c → length (certificate_of kind file c) ≤ 49298
room_enough kind file c reads = longest_certificate kind file c reads

-- FROM OTHER LANGUAGES. What the functions of `capi` answer are plain numbers: 0 says that nothing was refused, and then the rules above
-- speak of the rest of the answer; any other number is the refusal's, and has with its place its row in the table of numbers.
module _ (file : List ℕ) where
  pub zero_is_read :
      (a : ReadAnswer) → a ≡ read_answer (circuit_in file) → a.number ≡ 0
      → (c : Circuit) × (circuit_in file ≡ taken c) × (a.latches ≡ latch_count c) × (a.readings ≡ uncontrollable_count c)
      × (a.controls ≡ controllable_count c)
  zero_is_read a is z = zero_read file a is z

  pub read_number_refused : (a : ReadAnswer) → a ≡ read_answer (circuit_in file) → 1 ≤ a.number → Row base file a.number a.place
  unfolding circuit_in
  read_number_refused a is h = (refused_exactly base file a.number a.place).0 (number_read file a is h)

  module _ (s r k : ℕ) (a : StepAnswer) (is : a ≡ step_answer (file_stepped file s r k)) where
    pub zero_is_stepped : a.number ≡ 0 → (c : Circuit) × (circuit_in file ≡ taken c) × (a.error ≡ (step c s r k).error) × (a.next ≡ (step c s r k).next)
    zero_is_stepped z = zero_stepped file s r k a is z

    pub step-number_refused : 1 ≤ a.number → Row base file a.number a.place
    unfolding circuit_in
    step-number_refused h = (refused_exactly base file a.number a.place).0 (number_stepped file s r k a is h)

  module _ (kind : ℕ) (accepted : Accepted kind) (before : List ℕ) (a : CertifyAnswer)
      (is : a ≡ certify_answer (verdict_for kind file (circuit_in file) (length before))) where
    pub zero_is-certified :
        (after : List ℕ) → after ≡ buffer_after (certificate_for kind file (circuit_in file) (length before)) before → a.number ≡ 0
        → (c : Circuit) × (starts : Starts) × (circuit_in file ≡ taken c) × (a.realizable ≡ is_realizable c)
        × (take a.bytes after ≡ certificate_of kind file c) × (answer_of file (take a.bytes after) ≡ taken starts)
    zero_is-certified after written z = zero_certified kind accepted file before a is after written z

    pub certify_number_refused : 1 ≤ a.number → WriterRow file (certificate_of kind file) (length before) a.number a.place
    certify_number_refused h =
        (verdict_refused_exactly kind file (length before) a.number a.place).0 (number-certified kind accepted file before a is h)

  module _ (certificate : List ℕ) (a : CheckAnswer) (is : a ≡ check_answer (answer_of file certificate)) where
    pub zero_passes_replies :
        a.number ≡ 0 → (a.kind ≡ 4 → ⊥)
        → answer_of file certificate ≡ taken (of_replies a.region a.table a.kind a.latches a.readings a.controls)
    zero_passes_replies z k = zero_replies file certificate a is z k

    pub zero_passes_attacks : a.number ≡ 0 → a.kind ≡ 4 → answer_of file certificate ≡ taken (of_attacks a.table a.latches a.readings)
    zero_passes_attacks z k = zero_attacks file certificate a is z k

    pub zero_passes_either : a.number ≡ 0 → (a.kind ≡ 3) ⊎ ((a.kind ≡ 5) ⊎ (a.kind ≡ 4))
    zero_passes_either z = zero_kind file certificate a is z

    pub check_number_refused : 1 ≤ a.number → CheckRow file certificate a.number a.place
    check_number_refused h = (check_refused_exactly file certificate a.number a.place).0 (number_checked file certificate a is h)

  module _ (before : List ℕ) (a : PrintAnswer) (is : a ≡ print_answer (count_of (file_printed file (length before)))) where
    pub zero_is-printed :
        (after : List ℕ) → after ≡ buffer_after (file_printed file (length before)) before → a.number ≡ 0
        → (c : Circuit) × (circuit_in file ≡ taken c) × (circuit_in (take a.bytes after) ≡ taken c)
    zero_is-printed after written z = zero_printed file before a is after written z

    pub print_number_refused : 1 ≤ a.number → WriterRow file printed (length before) a.number a.place
    print_number_refused h = (count_refused_exactly file (length before) a.number a.place).0 (number-printed file before a is h)
