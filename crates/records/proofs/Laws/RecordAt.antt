-- The code's answer for a record at a place: by the bytes there, and what it says of them. Assumes nothing.
use Prim.Native.Nat.{ℕ, ◌+◌, ◌-◌, ◌*◌, ◌<◌, ◌≤◌}
use native.Mathlib.Omega.{arith}
use mathlib.Core.List.{List}
use mathlib.Core.Path.{◌≡◌, refl, sym, ap, ap₂, ◌∙◌}
use lib.ListN.{length, get_or, take, drop, length-drop}
use lib.Seq.{drop-drop, length-take-le}
use Rattle.std.specs.Prelude.{Some, None}
use Rattle.bits.specs.Digits.{sum}
use Rattle.bits.proofs.Laws.Sum.{sum_two, sum_four}
use Rattle.records.specs.Part.{bytes_of}
use Rattle.records.specs.Record.{Split, whole, cut, split, contents_length, head_length}
use Rattle.records.specs.RecordAt.{record_at, contents_at}
use Rattle.records.specs.declared.record.Record.{Record}
use Rattle.records.proofs.Laws.Record.{split_there, split_headless, split-cut, whole_is}

-- by the bytes from the place on
module _ (at : ℕ) (bytes : List ℕ) where
  pub headless : length bytes < head_length → None ≡ record_at at (split bytes)
  unfolding record_at
  headless h = rw (split_headless bytes h) refl

  module _ (head : head_length ≤ length bytes) where
    pub length_of_bytes :
        contents_length bytes ≡ get_or bytes 0 0 + get_or bytes 1 0 * 256 + get_or bytes 2 0 * 65536 + get_or bytes 3 0 * 16777216
    unfolding contents_length
    length_of_bytes = omega (arith, sum_four bytes 0 (omega arith), sum_two 256 bytes 0 (omega arith), sum_two 256 bytes 2 (omega arith))

    pub kind_of_bytes : sum 256 (take 2 (drop 4 bytes)) ≡ get_or bytes 4 0 + get_or bytes 5 0 * 256
    kind_of_bytes = omega (arith, sum_two 256 bytes 4 (omega arith))

    pub cut_short : (n : ℕ) → n ≡ contents_length bytes → length bytes - head_length < n → None ≡ record_at at (split bytes)
    unfolding record_at
    cut_short n e h = rw (split-cut bytes (omega arith)) refl

    pub there :
        (kind n : ℕ) → kind ≡ sum 256 (take 2 (drop 4 bytes)) → n ≡ contents_length bytes → n ≤ length bytes - head_length
        → Some (record { kind = kind; contents = record { start = at + head_length; end = at + head_length + n } }) ≡ record_at at (split bytes)
    unfolding record_at
    there kind n k e h =
        let long = length-take-le (contents_length bytes) (drop head_length bytes) (omega (arith, length-drop head_length bytes)) in
        rw (split_there bytes head (omega arith), long)
        (λ i. Some (record { kind = k i; contents = record { start = at + head_length; end = at + head_length + e i } }))

-- a whole record, by its place
pub record Found (bytes : List ℕ) (at : ℕ) (r : Record) : Type 0 where
  pub splits : split (drop at bytes) ≡ whole r.kind (bytes_of r.contents bytes) (drop r.contents.end bytes)
  pub lies : r.contents ≡ contents_at at (bytes_of r.contents bytes)
  pub begins : r.contents.start ≡ at + head_length
  pub ordered : r.contents.start ≤ r.contents.end
  pub within : r.contents.end ≤ length bytes

pub found_record : (bytes : List ℕ) (at : ℕ) (r : Record) → Some r ≡ record_at at (split (drop at bytes)) → Found bytes at r
unfolding record_at
found_record bytes at r e = by (split (drop at bytes)) refl e
  where
    by : (s : Split) → split (drop at bytes) ≡ s → Some r ≡ record_at at s → Found bytes at r
    by (whole k contents rest) f e =
        let is = whole_is (drop at bytes) k contents rest f in
        let same : r ≡ record { kind = k; contents = contents_at at contents } = cc in
        let begins : r.contents.start ≡ at + head_length = ap (λ (x : Record). x.contents.start) same in
        let ends : r.contents.end ≡ at + head_length + length contents = ap (λ (x : Record). x.contents.end) same in
        let sort : k ≡ r.kind = sym (ap (λ (x : Record). x.kind) same) in
        let long : length contents ≡ r.contents.end - r.contents.start = omega arith in
        let past : at + (head_length + length contents) ≡ r.contents.end = omega arith in
        let inside : contents ≡ bytes_of r.contents bytes =
        is.inside ∙ ap (take (length contents)) (drop-drop head_length at bytes)
        ∙ ap₂ (λ (n m : ℕ). take n (drop m bytes)) long (sym begins) in
        let behind : rest ≡ drop r.contents.end bytes =
        is.behind ∙ drop-drop (head_length + length contents) at bytes ∙ ap (λ (n : ℕ). drop n bytes) past in
        record {
          splits = f ∙ (λ i. whole (sort i) (inside i) (behind i));
          lies = ap (λ (x : Record). x.contents) same ∙ ap (contents_at at) inside;
          begins = begins;
          ordered = omega arith;
          within = omega (arith, is.within, length-drop at bytes);
        }
    by cut f e = cc

pub found_none : (bytes : List ℕ) (at : ℕ) → None ≡ record_at at (split (drop at bytes)) → split (drop at bytes) ≡ cut
unfolding record_at
found_none bytes at e = by (split (drop at bytes)) refl e
  where
    by : (s : Split) → split (drop at bytes) ≡ s → None ≡ record_at at s → split (drop at bytes) ≡ cut
    by (whole k contents rest) f e = cc
    by cut f e = f
