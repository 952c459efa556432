-- The names of ports, each of them once.
use Rattle.std.proofs.Common.{◌≡◌, ℕ, Bool, true, false, ◌||◌, List, [], ◌∷◌, ◌++◌, map, String, Global, string_bytes, refl, sym, ap, ◌∙◌}
use Rattle.std.specs.Prelude.{if◌then◌else◌}
use Rattle.std.specs.List.{list_any}
use Rattle.std.specs.Str.{bytes_eq}
use Rattle.std.specs.Cmp.Lexicographic.{nat_list_eq_equiv}
use Rattle.std.specs.String.{string_eq}
use Rattle.indexmap.specs.IndexSet.{insert_key}
use Rattle.sp_words.specs.declared.interface.PortDecl.{PortDecl}
use Rattle.sp_words.specs.Ports.{plain_port}
use Rattle.sp_setup.specs.Checks.{is_port}

-- whether a key is this name
abbrev pub is_name : List ℕ → String Global → Bool
is_name key name = bytes_eq key (string_bytes name)

or_false : (b : Bool) → (b || false) ≡ b
or_false true = refl
or_false false = refl

or_assoc : (a b c : Bool) → (a || (b || c)) ≡ ((a || b) || c)
or_assoc true b c = refl
or_assoc false b c = refl

at_end : (key : List ℕ) (names : List (String Global)) (name : String Global) → list_any (is_name key) (names ++ name ∷ []) ≡ (list_any (is_name key) names || is_name key name)
at_end key [] name = or_false (is_name key name)
at_end key (n ∷ names) name = ap (λ b. is_name key n || b) (at_end key names name) ∙ or_assoc (is_name key n) (list_any (is_name key) names) (is_name key name)

-- a key that is a name is as any key of that name
as_the_name : (key : List ℕ) (name : String Global) (names : List (String Global)) → is_name key name ≡ true → list_any (is_name key) names ≡ list_any (string_eq name) names
as_the_name key name [] h = refl
as_the_name key name (n ∷ names) h = ap (λ b. b || list_any (is_name key) names) (nat_list_eq_equiv.congr key (string_bytes name) (string_bytes n) h) ∙ ap (λ b. string_eq name n || b) (as_the_name key name names h)

-- one more name
pub named : (key : List ℕ) (names : List (String Global)) (name : String Global) → list_any (is_name key) (insert_key string_eq names name) ≡ (list_any (is_name key) names || is_name key name)
named key names name = by (list_any (string_eq name) names) refl (is_name key name) refl
  where
    by : (there : Bool) → list_any (string_eq name) names ≡ there → (here : Bool) → is_name key name ≡ here → list_any (is_name key) (insert_key string_eq names name) ≡ (list_any (is_name key) names || is_name key name)
    by true e true h =
        let all = as_the_name key name names h ∙ e in
        ap (λ (b : Bool). list_any (is_name key) (if b then names else names ++ name ∷ [])) e ∙ all ∙ sym (ap (λ b. b || is_name key name) all)
    by true e false h = rw (e, h) (sym (or_false (list_any (is_name key) names)))
    by false e b h = rw e (at_end key names name)

-- a port is one of the first names, or of those that are left
pub one_more : (key : List ℕ) (after names : List (String Global)) (name : String Global) (left rest : List PortDecl) (port : PortDecl) → after ≡ insert_key string_eq names name → string_bytes name ≡ string_bytes port.name → left ≡ port ∷ rest
    → (list_any (is_name key) after || is_port (map plain_port rest) key) ≡ (list_any (is_name key) names || is_port (map plain_port left) key)
one_more key after names name left rest port e same turn =
    ap (λ l. list_any (is_name key) l || is_port (map plain_port rest) key) e
    ∙ ap (λ b. b || is_port (map plain_port rest) key) (named key names name)
    ∙ sym (or_assoc (list_any (is_name key) names) (is_name key name) (is_port (map plain_port rest) key))
    ∙ ap (λ b. list_any (is_name key) names || (b || is_port (map plain_port rest) key)) (ap (bytes_eq key) same ∙ nat_list_eq_equiv.symm key (string_bytes port.name))
    ∙ sym (ap (λ l. list_any (is_name key) names || is_port (map plain_port l) key) turn)

pub none_left : (key : List ℕ) (names : List (String Global)) (left : List PortDecl) → left ≡ [] → (list_any (is_name key) names || is_port (map plain_port left) key) ≡ list_any (is_name key) names
none_left key names left e = ap (λ l. list_any (is_name key) names || is_port (map plain_port l) key) e ∙ or_false (list_any (is_name key) names)

pub none_yet : (key : List ℕ) (names : List (String Global)) (ports : List PortDecl) → names ≡ [] → (list_any (is_name key) names || is_port (map plain_port ports) key) ≡ is_port (map plain_port ports) key
none_yet key names ports e = ap (λ l. list_any (is_name key) l || is_port (map plain_port ports) key) e
