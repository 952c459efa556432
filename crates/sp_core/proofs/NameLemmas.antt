-- Names of ports.
use Rattle.std.proofs.Common.{◌≡◌, ℕ, ◌<◌, ◌≤◌, Bool, true, false, List, [], ◌∷◌, map, drop, length, nat_eq, eq-eqb, eqb-true, length-drop, arith, get_or, IsTrue, Contains, refl, sym, ◌∙◌, ap, ◌↔◌}
use Rattle.std.proofs.Math.Decide.{dec_lt}
use Rattle.std.proofs.lemmas.List.{drop_all}
use Rattle.std.specs.List.{list_any}
use Rattle.std.specs.Str.{bytes_eq}
use Rattle.std.proofs.lemmas.Slice.Eq.{bytes_eq-Decides}
use Rattle.std.proofs.lemmas.List.Folds.{Any-from_list_any, list_any_at}
use Rattle.sp_words.specs.declared.interface.PortDecl.{PortDecl}
use Rattle.sp_words.specs.Ports.{plain_port}
use Rattle.sp_core.specs.MemoryRules.{are_ports_of}

-- a test that tells whether a name is among names is the search by bytes
same_test : (a b : Bool) → (a ≡ true → b ≡ true) → (b ≡ true → a ≡ true) → a ≡ b
same_test true b f g = sym (f refl)
same_test false true f g = g refl
same_test false false f g = refl

pub among_test : (names : List (List ℕ)) (name : List ℕ) (b : Bool) → (IsTrue b ↔ Contains names name) → b ≡ list_any (λ word. bytes_eq word name) names
among_test names name b h = same_test b (list_any (λ word. bytes_eq word name) names)
    (λ yes. let found = h.0 yes in list_any_at (λ word. bytes_eq word name) names found.0 name found.1 ((bytes_eq-Decides (get_or names found.0 name) name).1 found.2))
    (λ yes. let found = Any-from_list_any (λ word. bytes_eq word name) names yes in
    let same : found.1 ≡ name = (bytes_eq-Decides found.1 name).0 found.4 in
    h.1 (found.0, found.2, rw same at found.3))

-- where no memory is left, all ports are there
pub ports_done : (at : ℕ) (ports : List PortDecl) → at ≤ length ports → are_ports_of (map plain_port (drop at ports)) [] ≡ nat_eq at (length ports)
ports_done at ports le = elim (dec_lt at (length ports)) [
  | yes lt ↦ go (drop at ports) (omega (arith, length-drop at ports, lt)) (nat_eq at (length ports)) refl lt
  | no ge ↦ let e : at ≡ length ports = omega (arith, le, ge) in ap (λ xs. are_ports_of (map plain_port xs) []) (drop_all at ports (omega (arith, e))) ∙ sym (eq-eqb at (length ports) e)
]
  where
    go : (xs : List PortDecl) → 1 ≤ length xs → (b : Bool) → nat_eq at (length ports) ≡ b → at < length ports → are_ports_of (map plain_port xs) [] ≡ b
    go [] some b e lt = absurd (omega (arith, some))
    go (x ∷ xs) some false e lt = refl
    go (x ∷ xs) some true e lt = let same : at ≡ length ports = eqb-true at (length ports) e in absurd (omega (arith, same, lt))
