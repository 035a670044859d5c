-- The rows of an attack table, stored one behind the other. Assumes nothing.
use Rattle.std.proofs.Common.{ℕ, ◌+◌, ◌*◌, ◌/◌, ◌%◌, ◌≤◌, List, [], ◌∷◌, ◌++◌, ◌≡◌, ◌∙◌, sym, ap, length, get_or, take, drop, arith, subst}
use lib.Seq.{take_at}
use Rattle.bits.specs.Digits.{digits}
use Rattle.bits.specs.InTurn.{in_turn}
use Rattle.bits.specs.Wrote.{Wrote, put_at}
use Rattle.bits.proofs.Laws.InTurn.{wrote_none, wrote_turn}
use Rattle.bits.proofs.Laws.Wrote.{wrote_put, sets_front}
use Rattle.records.proofs.Laws.Rows.{length_row, length_rows}
use Rattle.writer.specs.Inner.Rows.{attack_row}

module _ (ranks attacks : ℕ → ℕ) where
  pub length_attack_rows : (n : ℕ) → length (in_turn (attack_row ranks attacks) n) ≡ 3 * n
  unfolding attack_row
  length_attack_rows = length_rows (attack_row ranks attacks) (length_row ranks attacks)

  pub no_rows : (buffer : List ℕ) → Wrote (in_turn (attack_row ranks attacks) 0) 0 buffer buffer (3 * 0)
  no_rows buffer = wrote_none (attack_row ranks attacks) 0 buffer

  pub one_row_more :
      (n : ℕ) {before between after : List ℕ} → Wrote (in_turn (attack_row ranks attacks) n) 0 before between (3 * n)
      → after ≡ put_at between (3 * n) (digits 256 2 (ranks n) ++ (attacks n ∷ []))
      → Wrote (in_turn (attack_row ranks attacks) (n + 1)) 0 before after (3 * (n + 1))
  unfolding attack_row
  one_row_more n w e = wrote_turn (attack_row ranks attacks) n w (wrote_put (omega (arith, length_row ranks attacks n)) e)

  pub rows_in_front :
      (n i : ℕ) {before after : List ℕ} → n ≡ i → 3 * n ≤ length before → Wrote (in_turn (attack_row ranks attacks) i) 0 before after (3 * i)
      → take (3 * n) after ≡ in_turn (attack_row ranks attacks) n
  rows_in_front n i {before} {after} e room w =
      let rows : List ℕ = in_turn (attack_row ranks attacks) n in
      let stands : Wrote rows 0 before after (3 * n) = subst (λ (k : ℕ). Wrote (in_turn (attack_row ranks attacks) k) 0 before after (3 * k)) (sym e) w in
      ap (take (3 * n)) (stands.stand (omega (arith, length_attack_rows n)) ∙ sets_front before rows (omega (arith, length_attack_rows n)))
      ∙ take_at rows (drop (length rows) before) (3 * n) (length_attack_rows n)
