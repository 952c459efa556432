-- What a scope shows of its map.
use Rattle.std.proofs.Common.{◌≡◌, ℕ, Bool, true, false, cond, List, [], ◌∷◌, ◌++◌, map, Option, Some, None, is_some, String, Global, refl, sym, ap, ◌∙◌}
use Rattle.std.specs.Prelude.{string_bytes, MatchOption, option_map}
use Rattle.std.specs.Option.{option_copied}
use Rattle.std.specs.Map as entries
use Rattle.std.specs.Str.{bytes_eq}
use denote.Ref.{Bor}
use Rattle.sp_types.specs.Visible.{PlainSymbol, lookup}
use Rattle.sp_types.proofs.ScopeLemmas.{map_push}
use Rattle.sp_typed.specs.declared.scope.Entry.{Entry}
use Rattle.sp_typed.specs.declared.scope.Scope.{Scope}
use Rattle.sp_typed.specs.Expressions.{symbol_if}
use Rattle.sp_typed.specs.Named.{Meant, Here, find, given, give, meant_by}
use Rattle.sp_typed.specs.Plain.{meant, here_of}

-- an entry of the map, as it is shown
abbrev pub entry_of : String Global × Entry → List ℕ × Meant
entry_of e = (string_bytes e.0, meant e.1)

-- the test of the bytes of a name
abbrev pub is_named : List ℕ → String Global → Bool
is_named name k = bytes_eq name (string_bytes k)

find_here : (b : Bool) (x : Meant) (e : Entry) (r : Option Meant) (s : Option Entry) → x ≡ meant e → r ≡ option_map meant s
    → cond b (Some x) r ≡ option_map meant (cond b (Some e) s)
find_here true x e r s p q = ap Some p
find_here false x e r s p q = q

-- a name is found among what is shown as in the map
pub find_shown : (name : List ℕ) (es : List (String Global × Entry)) → find (map entry_of es) name ≡ option_map meant (entries.lookup (is_named name) es)
unfolding find
find_shown name [] = refl
find_shown name (e ∷ es) = find_here (bytes_eq name (string_bytes e.0)) (meant e.1) e.1 _ _ refl (find_shown name es)

pub found : (r : Option (Bor Entry)) (o : Option Entry) (p : Option Meant) → option_copied r ≡ o → p ≡ option_map meant o
    → MatchOption r (p ≡ None) (λ s. p ≡ Some (meant s.now))
found None o p e f = f ∙ ap (option_map meant) (sym e)
found (Some s) o p e f = f ∙ ap (option_map meant) (sym e)

some_shown : (o : Option Entry) → is_some (option_map meant o) ≡ is_some o
some_shown None = refl
some_shown (Some s) = refl

abbrev here : List (List ℕ × Meant) → ℕ → ℕ → ℕ → Here
here names m v c = record { names = names; mems = m; vals = v; counters = c }

-- a name that is there already, and one that isn't
pub given_there : (s : Scope) (name : List ℕ) (symbol : PlainSymbol) (n : ℕ) → true ≡ is_some (entries.lookup (is_named name) s.names.entries)
    → here_of s ≡ give (here_of s) name symbol n
unfolding given
given_there s name symbol n e =
    let there : is_some (meant_by (here_of s) name) ≡ true = ap is_some (find_shown name s.names.entries) ∙ some_shown _ ∙ sym e in
    sym (ap (λ b. here (cond b (map entry_of s.names.entries) (map entry_of s.names.entries ++ (name, record { symbol = symbol; number = n }) ∷ [])) s.mems s.vals s.counters) there)

pub given_new : (s t : Scope) (name : List ℕ) (key : String Global) (e : Entry) → false ≡ is_some (entries.lookup (is_named name) s.names.entries)
    → t.names.entries ≡ s.names.entries ++ (key, e) ∷ [] → t.mems ≡ s.mems → t.vals ≡ s.vals → t.counters ≡ s.counters → string_bytes key ≡ name
    → here_of t ≡ give (here_of s) name (meant e).symbol e.number
unfolding given
given_new s t name key e absent added ms vs cs named =
    let absent2 : is_some (meant_by (here_of s) name) ≡ false = ap is_some (find_shown name s.names.entries) ∙ some_shown _ ∙ sym absent in
    ap (λ es. here (map entry_of es) t.mems t.vals t.counters) added
    ∙ ap (λ m. here (map entry_of (s.names.entries ++ (key, e) ∷ [])) m t.vals t.counters) ms
    ∙ ap (λ m. here (map entry_of (s.names.entries ++ (key, e) ∷ [])) s.mems m t.counters) vs
    ∙ ap (λ m. here (map entry_of (s.names.entries ++ (key, e) ∷ [])) s.mems s.vals m) cs
    ∙ ap (λ ns. here ns s.mems s.vals s.counters) (map_push entry_of s.names.entries (key, e))
    ∙ ap (λ k. here (map entry_of s.names.entries ++ (k, meant e) ∷ []) s.mems s.vals s.counters) named
    ∙ sym (ap (λ b. here (cond b (map entry_of s.names.entries) (map entry_of s.names.entries ++ (name, meant e) ∷ [])) s.mems s.vals s.counters) absent2)

abbrev seen_entry : List ℕ × Meant → List ℕ × PlainSymbol
seen_entry e = (e.0, e.1.symbol)

seen_here : (b : Bool) (m : Meant) (r : Option PlainSymbol) (s : Option Meant) → r ≡ symbol_if s → cond b (Some m.symbol) r ≡ symbol_if (cond b (Some m) s)
seen_here true m r s e = refl
seen_here false m r s e = e

-- what a name stands for, as the rules of types see it
pub seen_symbol : (names : List (List ℕ × Meant)) (name : List ℕ) → lookup (map seen_entry names) name ≡ symbol_if (find names name)
unfolding find lookup
seen_symbol [] name = refl
seen_symbol (e ∷ es) name = seen_here (bytes_eq name e.0) e.1 _ _ (seen_symbol es name)
