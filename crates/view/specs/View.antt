-- A view (01, "The certificate"): the lent certificate bytes with the starts of its region and replies. Assumes nothing.
use Rattle.std.specs.Prelude.{ℕ, List}
use Rattle.std.specs.Borrow.{Bor}
use Rattle.view.specs.declared.View.{View}

abbrev pub view_of : Bor (List ℕ) → (region replies : ℕ) → View
view_of certificate region replies = record { certificate = certificate; region = region; replies = replies }
