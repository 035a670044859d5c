-- A page has at most 138,258 bytes (01, "Listings to compare"): verdict and counts, then for each of 1,024 states a number of four digits, in
-- or out, and 32 replies of three digits. So that much room is enough for every file. Assumes nothing.
use Prim.Native.Nat.{ℕ, zero, suc, ◌+◌, ◌*◌, ◌-◌, ◌^◌, ◌<◌, ◌≤◌}
use native.Mathlib.Nat.{mul-suc, mul-zero}
use native.Mathlib.Omega.{arith}
use mathlib.Core.Bool.{Bool, true, false, cond}
use mathlib.Core.List.{List, [], ◌∷◌, ◌++◌, flat_map}
use mathlib.Core.Path.{◌≡◌, refl, ap, ◌∙◌}
use lib.ListN.{length, drop, length-append}
use lib.Pow.{pow_mono}
use Rattle.std.specs.Prelude.{Result}
use Rattle.below.specs.Least.{least}
use Rattle.below.specs.Table.{table}
use Rattle.below.proofs.Laws.Least.{least_le}
use Rattle.bits.specs.Bit.{one_if}
use Rattle.bits.specs.InTurn.{in_turn}
use Rattle.circuit.specs.Answer.{outcome_of, fitted, count_of, buffer_after}
use Rattle.circuit.specs.Circuit.{Circuit, latch_count, uncontrollable_count, controllable_count}
use Rattle.circuit.specs.Limits.{base}
use Rattle.circuit.specs.Outcome.{Outcome, taken, refused}
use Rattle.circuit.specs.declared.numbers.Refusal.{Refusal}
use Rattle.circuit.proofs.Laws.Answer.{fitted_taken}
use Rattle.decimal.proofs.Laws.InTurn.{flat_map_table}
use Rattle.file.specs.CircuitIn.{circuit_in}
use Rattle.file.proofs.Laws.Within.{Within, read_within}
use Rattle.game.specs.Attack.{attack}
use Rattle.game.specs.CircuitGame.{circuit_game, is_realizable}
use Rattle.game.specs.Game.{Game}
use Rattle.game.specs.Keeps.{keeps}
use Rattle.game.specs.Listing.{reply_line, attack_line, listing_of}
use Rattle.game.specs.Rank.{rank, in_region, defeats}
use Rattle.game.specs.Reply.{reply}
use Rattle.game.proofs.Laws.Rank.{rank_at-most}
use Rattle.page.specs.Field.{field}
use Rattle.text.specs.Written.{number_line}
use Rattle.text.proofs.Laws.Decimal.{length-decimal-most}
use Rattle.listing.specs.Page.{PageAs, verdict_word, listing_text, refusal_text, page_for, page_of}
use Rattle.listing.proofs.Laws.Line.{line_table}
use Rattle.listing.proofs.Laws.Place.{refusal_small}

-- texts of at most so many bytes, one behind the other
in_turn-most : (f : ℕ → List ℕ) (width n : ℕ) → ((i : ℕ) → i < n → length (f i) ≤ width) → length (in_turn f n) ≤ width * n
unfolding in_turn
in_turn-most f width zero most = omega (arith, mul-zero width)
in_turn-most f width (suc n) most =
    omega (arith, length-append (in_turn f n) (f n), in_turn-most f width n (λ i h. most i (omega arith)), most n (omega arith), mul-suc width n)

field-most : (k n : ℕ) → n < 10 ^ suc k → length (field n) ≤ suc (suc k)
field-most k n h = omega (arith, length-decimal-most k n h)

two_most : (a b i j : ℕ) → a < 10 ^ suc i → b < 10 ^ suc j → length (number_line (a ∷ b ∷ [])) ≤ i + j + 4
unfolding number_line
two_most a b i j h l =
    omega (arith, length-append {A = ℕ}, length-decimal-most i a h, length-decimal-most j b l)

three_most : (a b c i j k : ℕ) → a < 10 ^ suc i → b < 10 ^ suc j → c < 10 ^ suc k → length (number_line (a ∷ b ∷ c ∷ [])) ≤ i + j + k + 6
unfolding number_line
three_most a b c i j k h l m =
    omega (arith, length-append {A = ℕ}, length-decimal-most i a h, length-decimal-most j b l, length-decimal-most k c m)

one_if-most : (b : Bool) → one_if b < 10
unfolding one_if
one_if-most true = omega arith
one_if-most false = omega arith

reply-most : (g : Game) (s r : ℕ) → reply g s r ≤ g.controls
unfolding reply
reply-most g s r = by (in_region g s)
  where
    by : (b : Bool) → cond b (least (keeps g (in_region g) s r) g.controls) 0 ≤ g.controls
    by true = least_le (keeps g (in_region g) s r) g.controls
    by false = omega arith

attack-most : (g : Game) (s : ℕ) → attack g s ≤ g.readings
unfolding attack
attack-most g s = by (in_region g s)
  where
    by : (b : Bool) → cond b 0 (least (defeats g (rank g) (rank g s - 1) s) g.readings) ≤ g.readings
    by true = omega arith
    by false = least_le (defeats g (rank g) (rank g s - 1) s) g.readings

-- the lines of the states
abbrev lines_of : Game → (realizable : Bool) → List ℕ
lines_of g b = flat_map number_line (table (λ s. cond b (reply_line g s) (attack_line g s)) g.states)

module _ (g : Game) (states : g.states ≤ 1024) (readings : g.readings ≤ 32) (controls : g.controls ≤ 256) where
  reply_line-most : (s : ℕ) → s < g.states → length (number_line (reply_line g s)) ≤ 135
  unfolding reply_line
  reply_line-most s h =
      let row : length (in_turn (λ r. field (reply g s r)) g.readings) ≤ 4 * g.readings =
      in_turn-most (λ r. field (reply g s r)) 4 g.readings (λ r l. field-most 2 (reply g s r) (omega (arith, reply-most g s r))) in
      omega (
        arith,
        simp length-append at (ap length (line_table s (one_if (in_region g s)) (reply g s) g.readings)),
        length-decimal-most 3 s (omega arith),
        field-most 0 (one_if (in_region g s)) (one_if-most (in_region g s)),
      )

  attack_line-most : (s : ℕ) → s < g.states → length (number_line (attack_line g s)) ≤ 13
  unfolding attack_line
  attack_line-most s h =
      omega (arith, three_most s (rank g s) (attack g s) 3 3 1 (omega arith) (omega (arith, rank_at-most g s)) (omega (arith, attack-most g s)))

  lines-most : (b : Bool) → length (verdict_word b) + length (lines_of g b) ≤ 138251
  unfolding verdict_word
  lines-most true =
      omega
      (arith, ap length (flat_map_table number_line (reply_line g) g.states), in_turn-most (λ s. number_line (reply_line g s)) 135 g.states reply_line-most)
  lines-most false =
      omega
      (arith, ap length (flat_map_table number_line (attack_line g) g.states), in_turn-most (λ s. number_line (attack_line g s)) 13 g.states attack_line-most)

lengths : (a b d : List ℕ) → length (a ++ b ++ d) ≡ length a + length b + length d
lengths a b d = omega (arith, length-append {A = ℕ})

module _ (c : Circuit) where
  abbrev counts_line : List ℕ
  counts_line = number_line (latch_count c ∷ uncontrollable_count c ∷ controllable_count c ∷ [])

  text_long : length (listing_text (listing_of c)) ≡ length (verdict_word (is_realizable c)) + length counts_line + length
      (lines_of (circuit_game c) (is_realizable c))
  unfolding listing_text listing_of
  text_long = lengths (verdict_word (is_realizable c)) counts_line (lines_of (circuit_game c) (is_realizable c))

  few_states : latch_count c ≤ base.latches → (circuit_game c).states ≤ 1024
  unfolding circuit_game
  few_states h = pow_mono h

  few_readings_lem : uncontrollable_count c ≤ base.uncontrollable → (circuit_game c).readings ≤ 32
  unfolding circuit_game
  few_readings_lem h = pow_mono h

  few_controls_lem : controllable_count c ≤ base.controllable → (circuit_game c).controls ≤ 256
  unfolding circuit_game
  few_controls_lem h = pow_mono h

  listing_most : (file : List ℕ) → circuit_in file ≡ taken c → length (listing_text (listing_of c)) ≤ 138258
  listing_most file e =
      let w : Within file c = read_within file c e in
      omega (
        arith,
        text_long,
        lines-most (circuit_game c) (few_states w.few_latches) (few_readings_lem w.few_readings) (few_controls_lem w.few_controls) (is_realizable c),
        three_most (latch_count c) (uncontrollable_count c) (controllable_count c) 1 0 0 (omega (arith, w.few_latches)) (omega (arith, w.few_readings))
            (omega (arith, w.few_controls)),
      )

refusal_most : (number place : ℕ) → number < 10 ^ 2 → place < 10 ^ 5 → length (refusal_text number place) ≤ 138258
unfolding refusal_text
refusal_most number place n p = omega (arith, two_most number place 1 4 n p)

pub longest_page : (file : List ℕ) → length (page_of file) ≤ 138258
unfolding page_of page_for
longest_page file = by (circuit_in file) refl
  where
    by : (o : Outcome Circuit) → circuit_in file ≡ o → length (page_for o) ≤ 138258
    by (taken c) e = listing_most c file e
    by (refused number place) e = let (n, p) = refusal_small file number place e in refusal_most number place n p

-- given that much room, the page stands at the front, whatever the file
pub room_lists :
    (file before after : List ℕ) (r : Result ℕ Refusal) → 138258 ≤ length before → PageAs (page_of file) before after r
    → (outcome_of r ≡ taken (length (page_of file))) × (after ≡ page_of file ++ drop (length (page_of file)) before)
unfolding count_of buffer_after
room_lists file before after r room w =
    let fits : fitted (page_of file) (length before) ≡ taken (page_of file) = fitted_taken (page_of file) (length before) (omega (arith, longest_page file)) in
    (w.answer ∙ ap count_of fits, w.bytes ∙ ap (λ (o : Outcome (List ℕ)). buffer_after o before) fits)
