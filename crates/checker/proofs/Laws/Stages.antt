-- The check for a file that is read is 11, 12 and then the judging of the tables; a file that isn't read decides it; and its answer is told of
-- the tables. Assumes nothing.
use Prim.Native.Nat.{ℕ}
use mathlib.Core.Bool.{true, false}
use mathlib.Core.List.{List}
use mathlib.Core.Logic.{◌↔◌}
use mathlib.Core.Option.{none, some}
use mathlib.Core.Path.{◌≡◌, refl, sym, ◌∙◌}
use Rattle.bits.specs.Bytes.{same_bytes}
use Rattle.circuit.specs.Circuit.{Circuit}
use Rattle.circuit.specs.Outcome.{Outcome, taken, refused, ◌>>=◌, refuse_if}
use Rattle.file.specs.CircuitIn.{circuit_in}
use Rattle.file.proofs.Laws.Exact.{told_refused}
use Rattle.records.specs.Tables.{accepted_kinds, Tables, tables_of, circuit_part}
use Rattle.checker.specs.Answer.{starts_of, answer_of}
use Rattle.checker.specs.Check.{or_bad_shape, tables_checked, chain_of, check_of}
use Rattle.checker.specs.Numbers.{bad_shape, other_circuit}
use Rattle.checker.proofs.Laws.Retired.{none_retired}

module _ (file certificate : List ℕ) where
  -- a file that is read
  module _ (c : Circuit) (read : circuit_in file ≡ taken c) where
    pub misshapen_refused : tables_of accepted_kinds certificate ≡ none → check_of file certificate ≡ refused bad_shape 0
    unfolding check_of chain_of or_bad_shape
    misshapen_refused e = rw (read, e)

    module _ (t : Tables) (e : tables_of accepted_kinds certificate ≡ some t) where
      pub other_refused : same_bytes (circuit_part t) file ≡ false → check_of file certificate ≡ refused other_circuit 0
      unfolding check_of chain_of or_bad_shape refuse_if
      other_refused f = rw (read, e, f)

      pub same_goes_on : same_bytes (circuit_part t) file ≡ true → check_of file certificate ≡ tables_checked c t
      unfolding check_of chain_of or_bad_shape refuse_if
      same_goes_on f = rw (read, e, f) (none_retired t (tables_checked c t))

    pub answer_told : (o : Outcome Tables) → check_of file certificate ≡ o → answer_of file certificate ≡ (o >>= λ t. taken (starts_of c t))
    unfolding answer_of
    answer_told o e = rw (read, e)

  -- one that isn't
  module _ (number place : ℕ) (read : circuit_in file ≡ refused number place) where
    pub file_refused : check_of file certificate ≡ refused number place
    unfolding check_of chain_of
    file_refused = rw read

    pub file_answered : answer_of file certificate ≡ refused number place
    unfolding answer_of
    file_answered = rw read

  -- the answer is a refusal exactly if the check is
  pub answer_refused : (number place : ℕ) → (answer_of file certificate ≡ refused number place) ↔ (check_of file certificate ≡ refused number place)
  answer_refused number place = by (circuit_in file) refl
    where
      by : (o : Outcome Circuit) → circuit_in file ≡ o
          → (answer_of file certificate ≡ refused number place) ↔ (check_of file certificate ≡ refused number place)
      by (taken c) read =
          let both = told_refused (check_of file certificate) (starts_of c) number place in
          let told = answer_told c read (check_of file certificate) refl in
          (λ e. both.0 (sym told ∙ e), λ e. told ∙ both.1 e)
      by (refused n p) read =
          let answered : answer_of file certificate ≡ refused n p = file_answered n p read in
          let checked : check_of file certificate ≡ refused n p = file_refused n p read in
          (λ e. cc, λ e. cc)
