-- What waits to be written to the file.
use Rattle.std.specs.Prelude.{ℕ, Bool, cond, List, [], ◌∷◌, ◌++◌}
use Rattle.console.specs.declared.device.Waiting.{Waiting}

-- with one page more, if there is a page of that number
abbrev pub with_page : Bool → ℕ → List ℕ → List Waiting → List Waiting
with_page b at page ws = cond b (ws ++ record { at = at; page = page } ∷ []) ws
