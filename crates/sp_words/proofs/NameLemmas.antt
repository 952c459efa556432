-- A name among names, as a search by bytes finds it.
use Rattle.std.proofs.Common.{◌≡◌, ℕ, Bool, List, get_or, IsTrue, Contains, sym, ◌∙◌, ◌↔◌}
use Rattle.std.specs.List.{list_any}
use Rattle.std.specs.Str.{bytes_eq}
use Rattle.std.proofs.lemmas.Slice.Eq.{bytes_eq-Decides}
use Rattle.std.proofs.lemmas.List.Folds.{Any-from_list_any, list_any_at}

pub among_decided : (names : List (List ℕ)) (name : List ℕ) (b : Bool) → b ≡ list_any (λ word. bytes_eq word name) names → IsTrue b ↔ Contains names name
among_decided names name b e = (
  (λ yes. let found = Any-from_list_any (λ word. bytes_eq word name) names (sym e ∙ yes) in
      let same : found.1 ≡ name = (bytes_eq-Decides found.1 name).0 found.4 in
      (found.0, found.2, rw same at found.3)),
  λ (k, lt, same). e ∙ list_any_at (λ word. bytes_eq word name) names k name lt ((bytes_eq-Decides (get_or names k name) name).1 same),
)
