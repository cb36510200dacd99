-- Versions as they come about. `rising`: moments never fall, and no key has two versions at one moment. `last_moment`: the moment of the last write.
use Rattle.std.specs.Prelude.{ℕ, Bool, true, not, ◌&&◌, List, [], ◌∷◌, ◌==◌, nat_le, nat_lt}
use Rattle.value.specs.Versions.{pick, every, same, Version}

unfoldable pub rising : List Version → Bool
rising [] = true
rising (v ∷ vs) = every (λ u. nat_le v.moment u.moment && not (same v.key u.key && v.moment == u.moment)) vs && rising vs

unfoldable pub last_moment : List Version → ℕ
last_moment [] = 0
last_moment (v ∷ vs) = pick (nat_lt v.moment (last_moment vs)) (last_moment vs) v.moment
