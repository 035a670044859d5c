-- What the code's answers say of the numbers of a line from a place on (01, "The file"). Assumes nothing.
use Rattle.std.specs.Prelude.{ℕ, ◌≤◌, List, [], ◌∷◌, ◌≡◌, length, get_or, take, drop, Option, Some, None}
use Rattle.std.proofs.Math.Option.{none, some}
use Rattle.fields.specs.declared.row.Field.{Field}
use Rattle.fields.specs.declared.row.Row.{Row}
use Rattle.text.specs.Line.{fields, prepend, numbers_of}

-- a number before a space, or before the byte 10 that ends the line
pub record MoreAt (s : List ℕ) (at v next : ℕ) : Type 0 where
  pub more : (ps : List ℕ) → fields (32 ∷ ps) (drop at s) ≡ prepend v (fields ps (drop next s))
  pub last : fields (10 ∷ []) (drop at s) ≡ none

pub record LastAt (s : List ℕ) (at v : ℕ) : Type 0 where
  pub more : (ps : List ℕ) → fields (32 ∷ ps) (drop at s) ≡ none
  pub last : fields (10 ∷ []) (drop at s) ≡ some (v ∷ [])

pub record NoneAt (s : List ℕ) (at : ℕ) : Type 0 where
  pub more : (ps : List ℕ) → fields (32 ∷ ps) (drop at s) ≡ none
  pub last : fields (10 ∷ []) (drop at s) ≡ none

abbrev pub NextAt : List ℕ → (at v : ℕ) → Option ℕ → Type 0
NextAt s at v (Some next) = MoreAt s at v next
NextAt s at v None = LastAt s at v

abbrev pub FieldAt : List ℕ → ℕ → Option Field → Type 0
FieldAt s at (Some f) = NextAt s at f.value f.next
FieldAt s at None = NoneAt s at

-- the line has n numbers, these, and no other count of them; what isn't there is 0
pub record IsRow (s : List ℕ) (at n : ℕ) (numbers : List ℕ) : Type 0 where
  pub least : 1 ≤ n
  pub most : n ≤ 5
  pub five : length numbers ≡ 5
  pub is : numbers_of n (drop at s) ≡ some (take n numbers)
  pub only : (k : ℕ) → 1 ≤ k → (k ≡ n → ⊥) → numbers_of k (drop at s) ≡ none
  pub others : (i : ℕ) → n ≤ i → get_or numbers i 0 ≡ 0

-- or as many as no line may have
abbrev pub RowAt : List ℕ → (at : ℕ) → Option Row → Type 0
RowAt s at (Some r) = IsRow s at r.count r.numbers
RowAt s at None = (k : ℕ) → 1 ≤ k → k ≤ 5 → numbers_of k (drop at s) ≡ none
