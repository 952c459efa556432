-- Lists of lists, without where they lie in memory.
use Rattle.std.specs.Prelude.{ℕ, List, map}
use Rattle.std.specs.Global.{Vec}

abbrev pub lists_of : List (Vec ℕ) → List (List ℕ)
lists_of all = map (λ (v : Vec ℕ). v.items) all
