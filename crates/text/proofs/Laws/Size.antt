-- How long the text of a file can be that names its inputs at most (01, "Printing"): a line of n numbers of at most four digits has at most 5n
-- bytes. Assumes nothing.
use Prim.Native.Nat.{ℕ, suc, ◌+◌, ◌*◌, ◌^◌, ◌≤◌}
use native.Mathlib.Omega.{arith}
use native.Mathlib.Nat.{mul-suc}
use mathlib.Core.List.{List, [], ◌∷◌, ◌++◌, flat_map}
use mathlib.Core.Option.{none}
use mathlib.Core.Path.{◌≡◌}
use lib.ListN.{length, length-append}
use Rattle.bits.specs.Digits.{AllBelow}
use Rattle.circuit.specs.Limits.{base}
use Rattle.text.specs.Headed.{row_of}
use Rattle.text.specs.Header.{word}
use Rattle.text.specs.InList.{All}
use Rattle.text.specs.Number.{decimal}
use Rattle.text.specs.Symbol.{Symbol, prefix}
use Rattle.text.specs.TextFile.{TextFile}
use Rattle.text.specs.WellFormed.{Defining, LatchLine, GateLine}
use Rattle.text.specs.Written.{number_line, symbol_line, comment_text, text_of}
use Rattle.text.proofs.Laws.Header.{header_for}
use Rattle.text.proofs.Laws.Lists.{all_weaker}
use Rattle.text.proofs.Laws.Number.{decimal-length}
use Rattle.text.proofs.Laws.PrintedSymbols.{PrintedAt}
use Rattle.text.proofs.Laws.Rules.{input_row, latch_row, gate_row}

pub number_line-length : (n : ℕ) (ns : List ℕ) → AllBelow (10 ^ 4) (n ∷ ns) → length (number_line (n ∷ ns)) ≤ 5 * suc (length ns)
unfolding number_line
number_line-length n [] a = omega (arith, length-append (decimal n) (10 ∷ []), decimal-length n 3 a.0)
number_line-length n (m ∷ ns) a = omega (arith, length-append (decimal n) (32 ∷ number_line (m ∷ ns)), decimal-length n 3 a.0, number_line-length m ns a.1)

flat-length : {A : Type 0} (f : A → List ℕ) (b : ℕ) (xs : List A) → All (λ x. length (f x) ≤ b) xs → length (flat_map f xs) ≤ b * length xs
unfolding flat_map
flat-length f b [] a = omega arith
flat-length f b (x ∷ xs) a = omega (arith, length-append (f x) (flat_map f xs), a.0, flat-length f b xs a.1, mul-suc b (length xs))

-- the header's numbers: four digits, two, two, one and four
header_length : (f : TextFile) → f.largest ≤ base.variable → length f.inputs ≤ base.inputs → length f.latches ≤ base.latches
    → length f.gates ≤ base.variable → length (number_line (row_of (header_for f))) ≤ 18
unfolding number_line
header_length f m i l a =
    omega (
      arith,
      length-append (decimal f.largest) (32 ∷ (decimal (length f.inputs)
          ++ (32 ∷ (decimal (length f.latches) ++ (32 ∷ (decimal 1 ++ (32 ∷ (decimal (length f.gates) ++ (10 ∷ []))))))))),
      length-append (decimal (length f.inputs)) (32 ∷ (decimal (length f.latches)
          ++ (32 ∷ (decimal 1 ++ (32 ∷ (decimal (length f.gates) ++ (10 ∷ []))))))),
      length-append (decimal (length f.latches)) (32 ∷ (decimal 1 ++ (32 ∷ (decimal (length f.gates) ++ (10 ∷ []))))),
      length-append (decimal 1) (32 ∷ (decimal (length f.gates) ++ (10 ∷ []))),
      length-append (decimal (length f.gates)) (10 ∷ []),
      decimal-length f.largest 3 (omega arith),
      decimal-length (length f.inputs) 1 (omega arith),
      decimal-length (length f.latches) 1 (omega arith),
      decimal-length 1 0 (omega arith),
      decimal-length (length f.gates) 3 (omega arith),
    )

-- a printed symbol: a letter, a position twice, a space, the prefix and byte 10
symbol_length : (p n : ℕ) (s : Symbol) → n ≤ base.inputs → PrintedAt p n s → length (symbol_line s) ≤ 20
unfolding symbol_line
symbol_length p n s h a =
    rw a.name
    (omega (
      arith,
      length-append (decimal s.position) (32 ∷ (prefix ++ decimal s.position) ++ (10 ∷ [])),
      length-append (prefix ++ decimal s.position) (10 ∷ []),
      decimal-length s.position 1 (omega (arith, a.most)),
    ))

lengths : (a b c d e f g : List ℕ) → length (a ++ b ++ c ++ d ++ e ++ f ++ g) ≡ length a + length b + length c + length d + length e + length f + length g
lengths a b c d e f g = simp length-append

-- the parts of a file that were read or are printed
pub record Printable (f : TextFile) : Type 0 where
  pub largest : f.largest ≤ base.variable
  pub input_count : length f.inputs ≤ base.inputs
  pub latch_count : length f.latches ≤ base.latches
  pub room : length f.inputs + length f.latches + length f.gates ≤ f.largest
  pub inputs : All (Defining f.largest) f.inputs
  pub latches : All (LatchLine f.largest) f.latches
  pub output : f.output ≤ 2 * f.largest + 1
  pub gates : All (GateLine f.largest) f.gates
  pub symbols : All (PrintedAt 0 (length f.inputs)) f.symbols
  pub symbol_count : length f.symbols ≤ length f.inputs
  pub comment : f.comment ≡ none

-- 22 bytes of header, 5 for an input, 10 for a latch, 5 for the output, 15 for a gate, 20 for a name
pub text_length : (f : TextFile) → Printable f → length (text_of f) ≤ 15157
unfolding text_of comment_text
text_length f p =
    rw p.comment
    (omega (
      arith,
      lengths (word ++ number_line (row_of (header_for f))) is ls (number_line (f.output ∷ [])) gs ss [],
      header_length f p.largest p.input_count p.latch_count (omega (arith, p.room, p.largest)),
      flat-length (λ x. number_line (input_row x)) 5 f.inputs (all_weaker (Defining f.largest) (λ x. length (number_line (input_row x)) ≤ 5)
          (λ x d. number_line-length x [] (omega (arith, d.most, p.largest), tt)) f.inputs p.inputs),
      flat-length (λ x. number_line (latch_row x)) 10 f.latches (all_weaker (LatchLine f.largest) (λ x. length (number_line (latch_row x)) ≤ 10)
          (λ x d. number_line-length x.own (x.next ∷ []) (omega (arith, d.own.most, p.largest), (omega (arith, d.next, p.largest), tt)))
          f.latches p.latches),
      number_line-length f.output [] (omega (arith, p.output, p.largest), tt),
      flat-length (λ x. number_line (gate_row x)) 15 f.gates (all_weaker (GateLine f.largest) (λ x. length (number_line (gate_row x)) ≤ 15)
          (λ x d. number_line-length x.own (x.left ∷ x.right ∷ [])
          (omega (arith, d.own.most, p.largest), (omega (arith, d.left, p.largest), (omega (arith, d.right, p.largest), tt)))) f.gates p.gates),
      flat-length symbol_line 20 f.symbols (all_weaker (PrintedAt 0 (length f.inputs)) (λ s. length (symbol_line s) ≤ 20)
          (λ s a. symbol_length 0 (length f.inputs) s p.input_count a) f.symbols p.symbols),
      p.room,
      p.largest,
      p.input_count,
      p.symbol_count,
    ))
  where
    is : List ℕ
    is = flat_map (λ x. number_line (input_row x)) f.inputs

    ls : List ℕ
    ls = flat_map (λ x. number_line (latch_row x)) f.latches

    gs : List ℕ
    gs = flat_map (λ x. number_line (gate_row x)) f.gates

    ss : List ℕ
    ss = flat_map symbol_line f.symbols
