-- What a printer leaves at the front of its buffer is read as the circuit that was printed; and when it is refused (01, "The numbers").
-- Assumes nothing.
use Prim.Native.Nat.{ℕ}
use mathlib.Core.List.{List}
use mathlib.Core.Logic.{◌↔◌}
use mathlib.Core.Path.{◌≡◌, sym, ap, ◌∙◌}
use lib.ListN.{length, take}
use Rattle.std.specs.Prelude.{Result}
use Rattle.circuit.specs.Answer.{WrittenAs, outcome_of, count_of}
use Rattle.circuit.specs.Circuit.{Circuit}
use Rattle.circuit.specs.declared.numbers.Refusal.{Refusal}
use Rattle.circuit.specs.Outcome.{Outcome, taken, refused, ◌>>=◌}
use Rattle.circuit.proofs.Laws.Answer.{counted-stands, fitted-is}
use Rattle.circuit.proofs.Laws.Outcome.{bind_taken}
use Rattle.file.specs.CircuitIn.{circuit_in}
use Rattle.file.specs.WriterRow.{WriterRow}
use Rattle.file.proofs.Laws.Exact.{told_refused, no_room_exactly}
use Rattle.text.specs.Printed.{printed, printed_into}
use Rattle.text.proofs.Laws.PrintedReadsBack.{printed_reads_back}
use Rattle.printer.specs.FilePrinted.{file_printed}

module _ (file : List ℕ) (c : Circuit) (reads : circuit_in file ≡ taken c) (before after : List ℕ) (r : Result ℕ Refusal) (n : ℕ) where
  -- the print stands at the front
  pub print_stands : WrittenAs (file_printed file (length before)) before after r → outcome_of r ≡ taken n → printed c ≡ take n after
  unfolding file_printed printed_into
  print_stands w e =
      fitted-is (printed c) (take n after) (length before)
      (sym (ap (λ (o : Outcome Circuit). o >>= λ d. printed_into d (length before)) reads)
      ∙ counted-stands (file_printed file (length before)) before after r n w e)

  pub print_reads_back : WrittenAs (file_printed file (length before)) before after r → outcome_of r ≡ taken n → circuit_in (take n after) ≡ taken c
  unfolding circuit_in
  print_reads_back w e = ap circuit_in (sym (print_stands w e)) ∙ printed_reads_back file c reads

-- what is counted is counted of a circuit that was read
pub counted_reads : (file : List ℕ) (room n : ℕ) → count_of (file_printed file room) ≡ taken n → (c : Circuit) × (circuit_in file ≡ taken c)
unfolding count_of file_printed
counted_reads file room n e =
    let (bytes, prints, rest) = bind_taken (file_printed file room) (λ l. taken (length l)) n e in
    let (c, reads, fits) = bind_taken (circuit_in file) (λ c. printed_into c room) bytes prints in
    (c, reads)

-- a printer is refused exactly with the file's number, or with 10
pub count_refused_exactly :
    (file : List ℕ) (room number place : ℕ)
    → (count_of (file_printed file room) ≡ refused number place) ↔ WriterRow file printed room number place
unfolding file_printed printed_into count_of
count_refused_exactly file room number place =
    let told = told_refused (file_printed file room) length number place in
    let row = no_room_exactly file printed room number place in
    (λ e. row.0 (told.0 e), λ t. told.1 (row.1 t))

pub print_refused_exactly :
    (file before after : List ℕ) (r : Result ℕ Refusal) (number place : ℕ) → WrittenAs (file_printed file (length before)) before after r
    → (outcome_of r ≡ refused number place) ↔ WriterRow file printed (length before) number place
print_refused_exactly file before after r number place w =
    let row = count_refused_exactly file (length before) number place in (λ e. row.0 (sym w.answer ∙ e), λ t. w.answer ∙ row.1 t)
