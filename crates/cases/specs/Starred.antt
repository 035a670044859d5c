-- The starred cases (01, "Listings to compare"), as rows: what is asked, and what 01 expects. Assumes nothing.
use Rattle.std.specs.Prelude.{ℕ, List, [], ◌∷◌, length}
use Prim.Native.String.{String}
use Rattle.bits.specs.Bytes.{ascii}
use Rattle.checker.specs.Check.{check_of}
use Rattle.circuit.specs.Outcome.{Outcome, taken, refused, ◌>>=◌}
use Rattle.file.specs.CircuitIn.{circuit_in}
use Rattle.listing.specs.Page.{page_of}
use Rattle.records.specs.Record.{reply_kind}
use Rattle.writer.specs.Certificate.{certificate_of}

-- a file is solved, or the certificate of another file is checked against it
pub data Asked : Type 0 where
  solve : (file : String) → Asked
  check : (file other : String) → Asked

-- the lengths of a file and of its certificate
pub record Lengths : Type 0 where
  pub file_bytes : ℕ
  pub certificate_bytes : ℕ

-- the page that is printed, with the lengths or the refusal; or how the check came out
pub data Told : Type 0 where
  printed : (page : List ℕ) → Outcome Lengths → Told
  checked : Outcome (Unit {0}) → Told

unfoldable pub lengths_of : String → Outcome Lengths
lengths_of file =
    circuit_in (ascii file)
    >>= λ c.
    taken (record { file_bytes = length (ascii file); certificate_bytes = length (certificate_of reply_kind (ascii file) c) })

unfoldable pub answer_to : Asked → Told
answer_to (solve file) = printed (page_of (ascii file)) (lengths_of file)
answer_to (check file other) =
    checked
    (circuit_in (ascii other) >>= λ c. check_of (ascii file) (certificate_of reply_kind (ascii other) c) >>= λ t. taken tt)

abbrev pub P : String
P = "aag 4 2 1 1 1\n2\n4\n6 4\n8\n8 2 5\ni1 controllable_hold\n"

abbrev pub Q : String
Q = "aag 6 2 1 1 3\n2\n4\n6 4\n13\n8 2 5\n10 6 4\n12 9 11\ni1 controllable_hold\n"

abbrev pub R : String
R = "aag 6 2 1 1 3\n2\n4\n6 0\n13\n8 2 5\n10 6 4\n12 9 11\ni1 controllable_hold\n"

pub record Row : Type 0 where
  pub asked : Asked
  pub expected : Told

-- a listing, of a file and with a certificate of these lengths
abbrev listed : String → (file_bytes certificate_bytes : ℕ) → Told
listed page file_bytes certificate_bytes =
    printed (ascii page) (taken (record { file_bytes = file_bytes; certificate_bytes = certificate_bytes }))

abbrev pub starred : List Row
starred =
    record { asked = solve P; expected = listed "realizable 1 1 1\n0 1 0 1\n1 1 0 1\n" 51 74 }
    ∷ record { asked = solve Q; expected = listed "unrealizable 1 1 1\n0 2 1\n1 1 1\n" 67 85 }
    ∷ record { asked = solve R; expected = listed "realizable 1 1 1\n0 1 0 1\n1 0 0 0\n" 67 90 }
    ∷ record { asked = solve "aag 0 0 0 1 0\n0\n"; expected = listed "realizable 0 0 0\n0 1 0\n" 16 36 }
    ∷ record { asked = solve "aag 0 0 0 1 0\n1\n"; expected = listed "unrealizable 0 0 0\n0 1 0\n" 16 31 }
    ∷ record { asked = solve "aag 1 1 0 1 0\n2\n2\n"; expected = listed "unrealizable 0 1 0\n0 1 1\n" 18 33 }
    ∷ record {
      asked = solve "aag 1 1 0 1 0\n2\n2\ni0 controllable_x\n";
      expected = listed "realizable 0 0 1\n0 1 0\n" 36 56;
    }
    ∷ record { asked = solve ""; expected = printed (ascii "refused 2 1\n") (refused 2 1) }
    ∷ record {
      asked = solve "aag 6 2 1 1 3\n2\n4\n6 4\n13\n8 2 5\n10 6 4\n12 9 15\ni1 controllable_hold\n";
      expected = printed (ascii "refused 5 8\n") (refused 5 8);
    }
    ∷ record { asked = check Q R; expected = checked (refused 12 0) }
    ∷ []
