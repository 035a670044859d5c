-- What a reader's promise decides, and what a writer may answer: the count of bytes that fit and stand at the front, or 10 at 0 with the buffer as
-- it was. Assumes nothing.
use Prim.Native.Nat.{ℕ, ◌<◌, ◌≤◌}
use native.Mathlib.Omega.{arith}
use mathlib.Core.List.{List}
use mathlib.Core.Path.{◌≡◌, refl, sym, ap, ◌∙◌}
use lib.Dec.{ltb}
use lib.ListN.{length, take, drop}
use lib.Seq.{take_at}
use borrow.Author.Tests.{lt-ltb, le-ltb}
use Rattle.bits.specs.Wrote.{Wrote}
use Rattle.bits.proofs.Laws.Wrote.{sets_front}
use Rattle.std.specs.Prelude.{Result, Ok, Err}
use Rattle.circuit.specs.declared.Circuit.{Circuit as Value}
use Rattle.circuit.specs.declared.numbers.Fault.TheVariants.{NoRoom}
use Rattle.circuit.specs.declared.numbers.Refusal.{Refusal}
use Rattle.circuit.specs.Answer.{outcome_of, ReadAs, no_room, fitted, count_of, buffer_after, WrittenAs}
use Rattle.circuit.specs.Circuit.{Circuit}
use Rattle.circuit.specs.Outcome.{Outcome, taken, refused, refuse_if}
use Rattle.circuit.proofs.Laws.Fault.{same_number}
use Rattle.circuit.proofs.Laws.Outcome.{refused_is-not_taken, passed_test}

pub fitted_taken : (bytes : List ℕ) (room : ℕ) → length bytes ≤ room → fitted bytes room ≡ taken bytes
unfolding fitted refuse_if
fitted_taken bytes room h = rw (le-ltb room (length bytes) h)

pub fitted_refused : (bytes : List ℕ) (room : ℕ) → room < length bytes → fitted bytes room ≡ refused no_room 0
unfolding fitted refuse_if
fitted_refused bytes room h = rw (lt-ltb room (length bytes) h)

pub written_bytes : (bytes before after : List ℕ) (n : ℕ) → length bytes ≤ length before → Wrote bytes 0 before after n
    → WrittenAs (fitted bytes (length before)) before after (Ok n)
unfolding outcome_of count_of buffer_after
written_bytes bytes before after n h w =
    rw (fitted_taken bytes (length before) h)
    (record { answer = ap {B = Outcome ℕ} taken (omega (arith, w.answer)); bytes = w.stand (omega arith) ∙ sets_front before bytes h })

pub written_refused : (bytes buffer : List ℕ) → length buffer < length bytes
    → WrittenAs (fitted bytes (length buffer)) buffer buffer (Err (record { fault = NoRoom; place = 0 }))
unfolding outcome_of count_of buffer_after
written_refused bytes buffer h = rw (fitted_refused bytes (length buffer) h) (record { answer = refl; bytes = refl })

-- an outcome has one answer
pub same_answer : {A : Type 0} (r s : Result A Refusal) → outcome_of r ≡ outcome_of s → r ≡ s
unfolding outcome_of
same_answer {A} (Ok a) (Ok b) e = ap {B = Result A Refusal} Ok cc
same_answer (Ok a) (Err s) e = cc
same_answer (Err r) (Ok b) e = cc
same_answer {A} (Err r) (Err s) e =
    let fault : r.fault ≡ s.fault = same_number r.fault s.fault cc in
    let place : r.place ≡ s.place = cc in
    λ x. Err (record { fault = fault x; place = place x })

-- the promise of a writer decides its answer and every byte of its buffer
pub written_decided : (outcome : Outcome (List ℕ)) (before l m : List ℕ) (r s : Result ℕ Refusal) → WrittenAs outcome before l r → WrittenAs outcome before m s
    → (r ≡ s) × (l ≡ m)
written_decided outcome before l m r s v w = (same_answer r s (v.answer ∙ sym w.answer), v.bytes ∙ sym w.bytes)

-- a refusal writes nothing
pub refused_writes_nothing : (outcome : Outcome (List ℕ)) (before after : List ℕ) (r : Result ℕ Refusal) (number place : ℕ) → WrittenAs outcome before after r
    → outcome_of r ≡ refused number place → after ≡ before
unfolding count_of buffer_after
refused_writes_nothing (taken bytes) before after r number place w e = absurd (refused_is-not_taken number place (length bytes) (sym e ∙ w.answer))
refused_writes_nothing (refused n p) before after r number place w e = w.bytes

-- what is counted stands at the front
pub counted-stands : (outcome : Outcome (List ℕ)) (before after : List ℕ) (r : Result ℕ Refusal) (n : ℕ) → WrittenAs outcome before after r
    → outcome_of r ≡ taken n → outcome ≡ taken (take n after)
unfolding count_of buffer_after
counted-stands (taken bytes) before after r n w e =
    let told : taken n ≡ taken (length bytes) = sym e ∙ w.answer in
    let long : length bytes ≡ n = cc in
    ap {B = Outcome (List ℕ)} taken (sym (ap (take n) w.bytes ∙ take_at bytes (drop (length bytes) before) n long))
counted-stands (refused number place) before after r n w e = absurd (refused_is-not_taken number place n (sym w.answer ∙ e))

-- what fits is written as it is
pub fitted-is : (bytes out : List ℕ) (room : ℕ) → fitted bytes room ≡ taken out → bytes ≡ out
unfolding fitted
fitted-is bytes out room e = let told : taken bytes ≡ taken out = (passed_test (ltb room (length bytes)) no_room 0 (taken bytes) out e).1 in cc

-- the promise of a reader decides its answer
pub read_decided : (outcome : Outcome Circuit) (r s : Result Value Refusal) → ReadAs outcome r → ReadAs outcome s → r ≡ s
read_decided outcome r s v w = same_answer r s (v ∙ sym w)
