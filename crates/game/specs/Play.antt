-- Plays (the mission's rule 3): what it means that a reply table or an attack table holds when played. Assumes nothing.
use Rattle.std.specs.Prelude.{ℕ, zero, suc, ◌<◌, Bool, true, false, List, [], ◌∷◌, ◌⊎◌, ◌≡◌}
use Rattle.game.specs.Game.{Game}

-- for this run of readings from state s: a reply is there, the error is 0, the state stays in the set, and so on
abbrev pub RepliesHold : Game → (ℕ → Bool) → (ℕ → ℕ → ℕ) → (state : ℕ) → List ℕ → Type 0
RepliesHold g set replies s [] = set s ≡ true
RepliesHold g set replies s (r ∷ rs) =
    (set s ≡ true)
    × (replies s r < g.controls)
    × ((g.step s r (replies s r)).error ≡ false)
    × RepliesHold g set replies (g.step s r (replies s r)).next rs

-- what was seen of a step that is over
pub record Seen : Type 0 where
  pub state : ℕ
  pub reading : ℕ
  pub control : ℕ

-- a strategy of controls: a function of all that was seen, the present state and reading included
abbrev pub Strategy : Type 0
Strategy = List Seen → (state reading : ℕ) → ℕ

-- against this strategy, with the readings that the table of attacks gives, the error is 1 within so many steps from state s; each attack
-- that is used is a reading
abbrev pub ErrsWithin : Game → (ℕ → ℕ) → Strategy → List Seen → ℕ → (state : ℕ) → Type 0
ErrsWithin g attacks σ past zero s = ⊥
ErrsWithin g attacks σ past (suc n) s =
    (attacks s < g.readings)
    × (((g.step s (attacks s) (σ past s (attacks s))).error ≡ true)
    ⊎ ErrsWithin g attacks σ
    (record { state = s; reading = attacks s; control = σ past s (attacks s) } ∷ past)
    n
    (g.step s (attacks s) (σ past s (attacks s))).next)
