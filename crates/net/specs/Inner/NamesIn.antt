-- The names of variables that the making of a net (specs/NetOf.antt) holds in a list. Assumes nothing.
use Rattle.std.specs.Prelude.{ℕ, List, get_or}
use Rattle.net.specs.NetOf.{Names}

unfoldable pub names_in : List ℕ → Names
names_in names = λ v. get_or names v 0
