-- What a writer of certificates answers where the bytes of the certificate were written or refused: the verdict with their count, or the
-- refusal. Assumes nothing.
use Rattle.std.proofs.Common.{ℕ, true, false, List, ◌≡◌, ◌∙◌, sym, ap, refl, length}
use Rattle.std.specs.Prelude.{Result, Ok, Err}
use Rattle.circuit.specs.Answer.{outcome_of, fitted, count_of, buffer_after, WrittenAs}
use Rattle.circuit.specs.Circuit.{Circuit}
use Rattle.circuit.specs.Outcome.{Outcome, taken, refused, ◌>>=◌}
use Rattle.circuit.specs.declared.numbers.Refusal.{Refusal}
use Rattle.game.specs.CircuitGame.{is_realizable}
use Rattle.writer.specs.declared.Certified.{Certified}
use Rattle.writer.specs.Answer.{Verdict, verdict_of, certified_outcome, certificate_for, verdict_for, CertifiedAs}
use Rattle.writer.specs.Certificate.{reply_certificate, attack_certificate, certificate_of}

pub replies_of : (kind : ℕ) (file : List ℕ) (c : Circuit) → is_realizable c ≡ true → certificate_of kind file c ≡ reply_certificate kind file c
unfolding certificate_of
replies_of kind file c e = rw e

pub attacks_of : (kind : ℕ) (file : List ℕ) (c : Circuit) → is_realizable c ≡ false → certificate_of kind file c ≡ attack_certificate file c
unfolding certificate_of
attacks_of kind file c e = rw e

module _ (kind : ℕ) (file : List ℕ) (c : Circuit) where
  -- what is told of the count of the bytes
  abbrev told : Outcome ℕ → Outcome Verdict
  told o = o >>= λ n. taken (record { realizable = is_realizable c; count = n })

  abbrev of_bytes : Outcome (List ℕ) → Outcome Verdict
  of_bytes o = o >>= λ bytes. taken (record { realizable = is_realizable c; count = length bytes })

  told_count : (o : Outcome (List ℕ)) → told (count_of o) ≡ of_bytes o
  unfolding count_of
  told_count (taken bytes) = refl
  told_count (refused number place) = refl

  certified_written :
      (bytes before after : List ℕ) (r : Result ℕ Refusal) (a : Result Certified Refusal) → certificate_of kind file c ≡ bytes
      → WrittenAs (fitted bytes (length before)) before after r → certified_outcome a ≡ told (outcome_of r) → CertifiedAs kind file (taken c) before after a
  unfolding certificate_for verdict_for
  certified_written bytes before after r a is w e =
      record {
        answer = e ∙ ap told w.answer ∙ told_count (fitted bytes (length before)) ∙ ap of_bytes (ap (λ (l : List ℕ). fitted l (length before)) (sym is));
        bytes = w.bytes ∙ ap (λ (l : List ℕ). buffer_after (fitted l (length before)) before) (sym is);
      }

  pub certified_ok :
      (bytes before after : List ℕ) (n : ℕ) (v : Certified) → certificate_of kind file c ≡ bytes
      → verdict_of v ≡ record { realizable = is_realizable c; count = n }
      → WrittenAs (fitted bytes (length before)) before after (Ok n) → CertifiedAs kind file (taken c) before after (Ok v)
  unfolding certified_outcome outcome_of
  certified_ok bytes before after n v is e w = certified_written bytes before after (Ok n) (Ok v) is w (ap {B = Outcome Verdict} taken e)

  pub certified_err :
      (bytes before after : List ℕ) (x : Refusal) → certificate_of kind file c ≡ bytes → WrittenAs (fitted bytes (length before)) before after (Err x)
      → CertifiedAs kind file (taken c) before after (Err x)
  unfolding certified_outcome outcome_of
  certified_err bytes before after x is w = certified_written bytes before after (Err x) (Err x) is w refl
