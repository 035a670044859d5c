-- A file from its first byte on: length, header, limits, and then its lines. Assumes nothing.
use Prim.Native.Nat.{ℕ, ◌+◌, ◌<◌, ◌≤◌}
use native.Mathlib.Nat.{zero-add}
use mathlib.Core.Bool.{true, false, ◌&&◌}
use mathlib.Core.List.{List, [], ◌∷◌}
use mathlib.Core.Option.{none, some}
use mathlib.Core.Path.{◌≡◌, sym, ap, ◌∙◌}
use lib.Dec.{eqb, leb}
use lib.ListN.{length, take, drop}
use borrow.Author.Tests.{lt-ltb, le-ltb, leb-true, eqb-true}
use Rattle.bits.proofs.Laws.Bytes.{both_true}
use Rattle.circuit.specs.Limits.{base}
use Rattle.circuit.specs.Outcome.{refused, refuse_if}
use Rattle.fields.proofs.Laws.Position.{lines-behind, first_line_takes}
use Rattle.reader.specs.Inner.LinesAs.{circuit_of_lines}
use Rattle.reader.specs.Inner.Few.{Few}
use Rattle.text.specs.Header.{Header, header_numbers, header_of, within_limits}
use Rattle.text.specs.Line.{lines, first_line}
use Rattle.text.specs.Numbers.{file_too_long, bad_header, header_limit}
use Rattle.text.specs.Read.{or_bad_header, lines_read, file_read, circuit_read}

-- what a header within the limits says
pub within_says : (h : Header) → within_limits base h ≡ true → Few h
unfolding within_limits
within_says h e =
    let (abcd, room) = both_true (leb h.largest base.variable && leb h.inputs base.inputs && leb h.latches base.latches && eqb h.outputs
    base.outputs) (leb (h.inputs + h.latches + h.gates) h.largest) e in
    let (abc, one) = both_true (leb h.largest base.variable && leb h.inputs base.inputs && leb h.latches base.latches)
    (eqb h.outputs base.outputs) abcd in
    let (ab, most) = both_true (leb h.largest base.variable && leb h.inputs base.inputs) (leb h.latches base.latches) abc in
    let (large, few) = both_true (leb h.largest base.variable) (leb h.inputs base.inputs) ab in
    record {
      largest = leb-true h.largest base.variable large;
      inputs = leb-true h.inputs base.inputs few;
      latches = leb-true h.latches base.latches most;
      outputs = eqb-true h.outputs base.outputs one;
      gates = leb-true (h.inputs + h.latches + h.gates) h.largest room;
    }

module _ (bytes : List ℕ) where
  pub circuit_too_long : base.file < length bytes → circuit_read base bytes ≡ refused file_too_long 0
  unfolding circuit_read file_read refuse_if
  circuit_too_long h = rw (lt-ltb base.file (length bytes) h)

  module _ (fits : length bytes ≤ base.file) where
    pub circuit_headless : header_numbers (first_line bytes) ≡ none → circuit_read base bytes ≡ refused bad_header 1
    unfolding circuit_read file_read refuse_if first_line or_bad_header
    circuit_headless e = rw (le-ltb base.file (length bytes) fits, e)

    module _ (h : Header) (numbers : header_numbers (first_line bytes) ≡ some (h.largest ∷ h.inputs ∷ h.latches ∷ h.outputs ∷ h.gates ∷ [])) where
      pub circuit_over : within_limits base h ≡ false → circuit_read base bytes ≡ refused header_limit 1
      unfolding circuit_read file_read refuse_if first_line or_bad_header header_of
      circuit_over e = rw (le-ltb base.file (length bytes) fits, numbers, e)

      pub circuit_lines : within_limits base h ≡ true → (end : ℕ) → end ≡ 0 + length (first_line bytes)
          → circuit_read base bytes ≡ circuit_of_lines (lines_read h (lines (drop end bytes)))
      unfolding circuit_read file_read refuse_if first_line or_bad_header circuit_of_lines header_of
      circuit_lines e end ends =
          rw (le-ltb base.file (length bytes) fits, numbers, e)
          (ap (λ (rest : List (List ℕ)). circuit_of_lines (lines_read h rest)) (lines-behind bytes
          ∙ ap (λ (k : ℕ). lines (drop k bytes)) (sym (ends ∙ zero-add (length (first_line bytes))))))

-- the first line is the part of the file up to its end
pub first_part : (bytes : List ℕ) (end : ℕ) → end ≡ 0 + length (first_line bytes) → take end bytes ≡ first_line bytes
first_part bytes end e = rw (e ∙ zero-add (length (first_line bytes))) (first_line_takes bytes)
