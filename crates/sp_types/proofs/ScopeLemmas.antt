-- What a scope shows of its map.
use Rattle.std.proofs.Common.{◌≡◌, ℕ, Bool, true, false, cond, List, [], ◌∷◌, ◌++◌, ◌||◌, map, length, take, Option, Some, None, is_some, String, Global, refl, sym, ap, ◌∙◌, subst, zero, suc, ◌+◌}
use Rattle.std.specs.Prelude.{string_bytes, MatchOption, option_map}
use Rattle.std.specs.Option.{option_copied}
use Rattle.std.specs.List.{list_any}
use Rattle.std.specs.Map as entries
use Rattle.std.specs.Str.{bytes_eq}
use denote.Ref.{Bor}
use Rattle.sp_types.specs.declared.scope.Symbol.{Symbol}
use Rattle.sp_types.specs.declared.scope.Scope.{Scope}
use Rattle.sp_types.specs.Plain.{plain_symbol, visible_of}
use Rattle.sp_types.specs.Visible.{PlainSymbol, Visible, lookup, declare, is_busy, symbol_of}

-- an entry of the map, as it is shown
abbrev pub entry_of : String Global × Symbol → List ℕ × PlainSymbol
entry_of e = (string_bytes e.0, plain_symbol e.1)

-- the test of the bytes of a name
abbrev pub is_named : List ℕ → String Global → Bool
is_named name k = bytes_eq name (string_bytes k)

lookup_here : (b : Bool) (x : PlainSymbol) (e : Symbol) (r : Option PlainSymbol) (s : Option Symbol) → x ≡ plain_symbol e → r ≡ option_map plain_symbol s
    → cond b (Some x) r ≡ option_map plain_symbol (cond b (Some e) s)
lookup_here true x e r s p q = ap Some p
lookup_here false x e r s p q = q

-- a name is looked up among what is shown as in the map
pub lookup_shown : (name : List ℕ) (es : List (String Global × Symbol)) → lookup (map entry_of es) name ≡ option_map plain_symbol (entries.lookup (is_named name) es)
unfolding lookup
lookup_shown name [] = refl
lookup_shown name (e ∷ es) = lookup_here (bytes_eq name (string_bytes e.0)) (plain_symbol e.1) e.1 _ _ refl (lookup_shown name es)

pub found : (r : Option (Bor Symbol)) (o : Option Symbol) (p : Option PlainSymbol) → option_copied r ≡ o → p ≡ option_map plain_symbol o
    → MatchOption r (p ≡ None) (λ s. p ≡ Some (plain_symbol s.now))
found None o p e f = f ∙ ap (option_map plain_symbol) (sym e)
found (Some s) o p e f = f ∙ ap (option_map plain_symbol) (sym e)

pub some_shown : (o : Option Symbol) → is_some (option_map plain_symbol o) ≡ is_some o
some_shown None = refl
some_shown (Some s) = refl

pub map_push : {A B : Type 0} (f : A → B) (xs : List A) (x : A) → map f (xs ++ x ∷ []) ≡ map f xs ++ f x ∷ []
map_push f [] x = refl
map_push f (y ∷ ys) x = ap (λ zs. f y ∷ zs) (map_push f ys x)

pub not_there : {A : Type 0} (o : Option A) → is_some o ≡ false → o ≡ None
not_there None e = refl
not_there (Some a) e = absurd (cc)

pub any_shown : (p : List ℕ → Bool) (xs : List (String Global)) → list_any p (map string_bytes xs) ≡ list_any (λ x. p (string_bytes x)) xs
any_shown p [] = refl
any_shown p (x ∷ xs) = ap (λ b. p (string_bytes x) || b) (any_shown p xs)

-- a name that is there already, and one that isn't
pub declared_there : (s : Scope) (name : List ℕ) (symbol : PlainSymbol) → true ≡ is_some (entries.lookup (is_named name) s.names.entries) → visible_of s ≡ declare (visible_of s) name symbol
unfolding declare
declared_there s name symbol e =
    let there : is_some (symbol_of (visible_of s) name) ≡ true = ap is_some (lookup_shown name s.names.entries) ∙ some_shown _ ∙ sym e in
    sym (ap (λ b. cond b (visible_of s) (record { names = map entry_of s.names.entries ++ (name, symbol) ∷ []; busy = map string_bytes s.busy.items })) there)

pub declared_new : (s t : Scope) (name : List ℕ) (key : String Global) (symbol : Symbol) → false ≡ is_some (entries.lookup (is_named name) s.names.entries)
    → t.names.entries ≡ s.names.entries ++ (key, symbol) ∷ [] → t.busy.items ≡ s.busy.items → string_bytes key ≡ name
    → visible_of t ≡ declare (visible_of s) name (plain_symbol symbol)
unfolding declare
declared_new s t name key symbol e added kept named =
    let absent : is_some (symbol_of (visible_of s) name) ≡ false = ap is_some (lookup_shown name s.names.entries) ∙ some_shown _ ∙ sym e in
    let shown : List (List ℕ × PlainSymbol) → List (List ℕ) → Visible = λ ns bs. record { names = ns; busy = bs } in
    ap (λ es. shown (map entry_of es) (map string_bytes t.busy.items)) added
    ∙ ap (λ bs. shown (map entry_of (s.names.entries ++ (key, symbol) ∷ [])) (map string_bytes bs)) kept
    ∙ ap (λ ns. shown ns (map string_bytes s.busy.items)) (map_push entry_of s.names.entries (key, symbol))
    ∙ ap (λ n. shown (map entry_of s.names.entries ++ (n, plain_symbol symbol) ∷ []) (map string_bytes s.busy.items)) named
    ∙ sym (ap (λ b. cond b (visible_of s) (shown (map entry_of s.names.entries ++ (name, plain_symbol symbol) ∷ []) (map string_bytes s.busy.items))) absent)

pub take_shown : {A B : Type 0} (f : A → B) (n : ℕ) (xs : List A) → map f (take n xs) ≡ take n (map f xs)
take_shown f zero xs = refl
take_shown f (suc n) [] = refl
take_shown f (suc n) (x ∷ xs) = ap (λ ys. f x ∷ ys) (take_shown f n xs)
