-- The listing as text (01, "Listings to compare"): the page that the verdict program prints for a file. Numbers are decimal, single spaces
-- part the fields, and every line ends in byte 10. Assumes nothing.
use Rattle.std.specs.Prelude.{ℕ, Bool, cond, length, Result}
use mathlib.Core.List.{List, [], ◌∷◌, ◌++◌, flat_map}
use Rattle.bits.specs.Bytes.{ascii}
use Rattle.circuit.specs.Answer.{WrittenAs, fitted}
use Rattle.circuit.specs.Circuit.{Circuit}
use Rattle.circuit.specs.Outcome.{Outcome, taken, refused}
use Rattle.circuit.specs.declared.numbers.Refusal.{Refusal}
use Rattle.file.specs.CircuitIn.{circuit_in}
use Rattle.game.specs.Listing.{Listing, listing_of}
use Rattle.text.specs.Written.{number_line}

unfoldable pub verdict_word : (realizable : Bool) → List ℕ
verdict_word realizable = cond realizable (ascii "realizable ") (ascii "unrealizable ")

-- the verdict, L, U, C; then a line for each state
unfoldable pub listing_text : Listing → List ℕ
listing_text l = verdict_word l.realizable ++ number_line l.counts ++ flat_map number_line l.states

-- a refusal prints `refused`, number, place
unfoldable pub refusal_text : (number place : ℕ) → List ℕ
refusal_text number place = ascii "refused " ++ number_line (number ∷ place ∷ [])

unfoldable pub page_for : Outcome Circuit → List ℕ
page_for (taken c) = listing_text (listing_of c)
page_for (refused number place) = refusal_text number place

unfoldable pub page_of : (file : List ℕ) → List ℕ
page_of file = page_for (circuit_in file)

-- a writer's answer and its buffer, before and after, say that this page was written, or 10 where the buffer is shorter than it
abbrev pub PageAs : (page before after : List ℕ) → Result ℕ Refusal → Type 0
PageAs page before after r = WrittenAs (fitted page (length before)) before after r
