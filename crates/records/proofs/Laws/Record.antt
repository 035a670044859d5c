-- What holds of splitting bytes into a record and the rest: a record is read back as it was written, and whole bytes are a record and the
-- rest. Assumes nothing.
use Prim.Native.Nat.{ℕ, ◌+◌, ◌^◌, ◌<◌, ◌≤◌}
use native.Mathlib.Omega.{arith}
use native.Mathlib.Nat.{mod-eq_of_lt}
use mathlib.Core.Bool.{Bool, true, false, cond, ◌&&◌}
use mathlib.Core.List.{List, ◌++◌, append_assoc}
use mathlib.Core.Path.{◌≡◌, refl, sym, ap, ap₂, ◌∙◌}
use lib.Dec.{leb}
use lib.ListN.{length, take, drop, length-append, length-drop, take-append-drop}
use lib.Seq.{take_at, drop_at, drop-drop, length-take-le}
use borrow.Author.Tests.{leb-true, le-leb, lt-leb}
use Rattle.bits.specs.Digits.{digits, sum, AllBelow}
use Rattle.bits.proofs.Laws.AllBelow.{all_below_take, all_below_drop}
use Rattle.bits.proofs.Laws.Bytes.{both_true}
use Rattle.bits.proofs.Laws.Digits.{length_digits, sum-digits, digits_sum}
use Rattle.records.specs.Record.{whole, cut, split, contents_length, record_of, head_length}

-- whole where head and contents are there, else cut short
pub split_there :
    (bytes : List ℕ) → head_length ≤ length bytes → head_length + contents_length bytes ≤ length bytes
    → split bytes ≡ whole (sum 256 (take 2 (drop 4 bytes))) (take (contents_length bytes) (drop head_length bytes))
    (drop (head_length + contents_length bytes) bytes)
unfolding split
split_there bytes head there = rw (le-leb head_length (length bytes) head, le-leb (head_length + contents_length bytes) (length bytes) there)

pub split_headless : (bytes : List ℕ) → length bytes < head_length → split bytes ≡ cut
unfolding split
split_headless bytes short = rw (lt-leb head_length (length bytes) short)

pub split-cut : (bytes : List ℕ) → length bytes < head_length + contents_length bytes → split bytes ≡ cut
unfolding split
split-cut bytes short = rw (lt-leb (head_length + contents_length bytes) (length bytes) short) (by (leb head_length (length bytes)))
  where
    by :
        (b : Bool) → cond (b && false)
        (whole (sum 256 (take 2 (drop 4 bytes))) (take (contents_length bytes) (drop head_length bytes)) (drop (head_length + contents_length bytes) bytes)) cut
        ≡ cut
    by true = refl
    by false = refl

-- what a whole record says of the bytes it was split from
pub record IsWhole (bytes : List ℕ) (kind : ℕ) (contents rest : List ℕ) : Type 0 where
  pub within : head_length + length contents ≤ length bytes
  pub size : length contents ≡ contents_length bytes
  pub sort : kind ≡ sum 256 (take 2 (drop 4 bytes))
  pub inside : contents ≡ take (length contents) (drop head_length bytes)
  pub behind : rest ≡ drop (head_length + length contents) bytes

pub whole_is : (bytes : List ℕ) (kind : ℕ) (contents rest : List ℕ) → split bytes ≡ whole kind contents rest → IsWhole bytes kind contents rest
unfolding split
whole_is bytes kind contents rest e = by (leb head_length (length bytes) && leb (head_length + contents_length bytes) (length bytes)) refl e
  where
    full :
        (leb head_length (length bytes) && leb (head_length + contents_length bytes) (length bytes)) ≡ true
        → whole (sum 256 (take 2 (drop 4 bytes))) (take (contents_length bytes) (drop head_length bytes)) (drop (head_length + contents_length bytes) bytes)
        ≡ whole kind contents rest → IsWhole bytes kind contents rest
    full t e =
        let (head, there) = both_true (leb head_length (length bytes)) (leb (head_length + contents_length bytes) (length bytes)) t in
        let fits : head_length + contents_length bytes ≤ length bytes = leb-true _ _ there in
        let same : contents ≡ take (contents_length bytes) (drop head_length bytes) = cc in
        let cut = length-take-le (contents_length bytes) (drop head_length bytes) (omega (arith, length-drop head_length bytes)) in
        let long : length contents ≡ contents_length bytes = ap length same ∙ cut in
        let sorted : kind ≡ sum 256 (take 2 (drop 4 bytes)) = cc in
        let left : rest ≡ drop (head_length + contents_length bytes) bytes = cc in
        record {
          within = omega arith;
          size = long;
          sort = sorted;
          inside = same ∙ ap (λ (n : ℕ). take n (drop head_length bytes)) (sym long);
          behind = left ∙ ap (λ (n : ℕ). drop (head_length + n) bytes) (sym long);
        }

    by :
        (b : Bool) → (leb head_length (length bytes) && leb (head_length + contents_length bytes) (length bytes)) ≡ b
        → cond b (whole (sum 256 (take 2 (drop 4 bytes))) (take (contents_length bytes) (drop head_length bytes))
        (drop (head_length + contents_length bytes) bytes)) cut ≡ whole kind contents rest → IsWhole bytes kind contents rest
    by true t e = full t e
    by false t e = absurd (let z : ◌≡◌ {A = ℕ} 0 1 = cc in omega arith)

-- bytes laid out as a record: four of the length, two of the kind, contents and rest
laid_splits :
    (four two contents rest : List ℕ) → length four ≡ 4 → length two ≡ 2 → sum 256 four ≡ length contents
    → split (four ++ (two ++ (contents ++ rest))) ≡ whole (sum 256 two) contents rest
unfolding contents_length
laid_splits four two contents rest long short sized =
    split_there bytes (omega (arith, total)) (omega (arith, total, size)) ∙ (λ i. whole (sort i) (inside i) (behind i))
  where
    bytes : List ℕ
    bytes = four ++ (two ++ (contents ++ rest))

    total : length (four ++ (two ++ (contents ++ rest))) ≡ 6 + length contents + length rest
    total = simp length-append (omega arith)

    size : sum 256 (take 4 (four ++ (two ++ (contents ++ rest)))) ≡ length contents
    size = ap (sum 256) (take_at four (two ++ (contents ++ rest)) 4 long) ∙ sized

    past : drop 4 (four ++ (two ++ (contents ++ rest))) ≡ two ++ (contents ++ rest)
    past = drop_at four (two ++ (contents ++ rest)) 4 long

    headless : drop 6 (four ++ (two ++ (contents ++ rest))) ≡ contents ++ rest
    headless = sym (drop-drop 2 4 (four ++ (two ++ (contents ++ rest)))) ∙ ap (drop 2) past ∙ drop_at two (contents ++ rest) 2 short

    sort : sum 256 (take 2 (drop 4 (four ++ (two ++ (contents ++ rest))))) ≡ sum 256 two
    sort = ap (sum 256) (ap (take 2) past ∙ take_at two (contents ++ rest) 2 short)

    inside : take (sum 256 (take 4 (four ++ (two ++ (contents ++ rest))))) (drop 6 (four ++ (two ++ (contents ++ rest)))) ≡ contents
    inside = ap₂ take size headless ∙ take_at contents rest (length contents) refl

    behind : drop (6 + sum 256 (take 4 (four ++ (two ++ (contents ++ rest))))) (four ++ (two ++ (contents ++ rest))) ≡ rest
    behind =
        ap (λ (n : ℕ). drop (6 + n) (four ++ (two ++ (contents ++ rest)))) size ∙ sym (drop-drop (length contents) 6 (four ++ (two ++ (contents ++ rest))))
        ∙ ap (drop (length contents)) headless ∙ drop_at contents rest (length contents) refl

record_laid : (kind : ℕ) (contents rest : List ℕ) → record_of kind contents ++ rest ≡ digits 256 4 (length contents) ++
    (digits 256 2 kind ++ (contents ++ rest))
unfolding record_of
record_laid kind contents rest = simp append_assoc

-- a record is read back as it was written
pub split_record :
    (kind : ℕ) (contents rest : List ℕ) → length contents < 2 ^ 32 → kind < 2 ^ 16 → split (record_of kind contents ++ rest) ≡ whole kind contents rest
split_record kind contents rest small sorted =
    ap split (record_laid kind contents rest)
    ∙ laid_splits (digits 256 4 (length contents)) (digits 256 2 kind) contents rest (length_digits 256 4 (length contents)) (length_digits 256 2 kind)
    (sum-digits 256 4 (length contents) (omega arith) ∙ mod-eq_of_lt small)
    ∙ ap (λ (k : ℕ). whole k contents rest) (sum-digits 256 2 kind (omega arith) ∙ mod-eq_of_lt sorted)

-- whole bytes are a record and the rest
pub whole_record :
    (bytes : List ℕ) (kind : ℕ) (contents rest : List ℕ) → AllBelow 256 bytes → split bytes ≡ whole kind contents rest
    → bytes ≡ record_of kind contents ++ rest
unfolding contents_length
whole_record bytes kind contents rest below e =
    sym (ap₂ (λ (four l : List ℕ). four ++ l) size (ap₂ (λ (two l : List ℕ). two ++ l) sort back) ∙ laid)
    ∙ sym (record_laid kind contents rest)
  where
    is : IsWhole bytes kind contents rest
    is = whole_is bytes kind contents rest e

    four : length (take 4 bytes) ≡ 4
    four = length-take-le 4 bytes (omega (arith, is))

    two : length (take 2 (drop 4 bytes)) ≡ 2
    two = length-take-le 2 (drop 4 bytes) (omega (arith, is, length-drop 4 bytes))

    size : digits 256 4 (length contents) ≡ take 4 bytes
    size =
        ap (digits 256 4) is.size ∙ sym (ap (λ (w : ℕ). digits 256 w (sum 256 (take 4 bytes))) four)
        ∙ digits_sum 256 (take 4 bytes) (all_below_take 256 4 bytes below)

    sort : digits 256 2 kind ≡ take 2 (drop 4 bytes)
    sort =
        ap (digits 256 2) is.sort ∙ sym (ap (λ (w : ℕ). digits 256 w (sum 256 (take 2 (drop 4 bytes)))) two)
        ∙ digits_sum 256 (take 2 (drop 4 bytes)) (all_below_take 256 2 (drop 4 bytes) (all_below_drop 256 4 bytes below))

    back : contents ++ rest ≡ drop 2 (drop 4 bytes)
    back =
        ap₂ (λ (a b : List ℕ). a ++ b) is.inside (is.behind ∙ sym (drop-drop (length contents) 6 bytes))
        ∙ take-append-drop (length contents) (drop 6 bytes) ∙ sym (drop-drop 2 4 bytes)

    laid : take 4 bytes ++ (take 2 (drop 4 bytes) ++ drop 2 (drop 4 bytes)) ≡ bytes
    laid = ap (λ (l : List ℕ). take 4 bytes ++ l) (take-append-drop 2 (drop 4 bytes)) ∙ take-append-drop 4 bytes
