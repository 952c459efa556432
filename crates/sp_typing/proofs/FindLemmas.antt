-- What is found among names, and one more of them.
use Rattle.std.proofs.Common.{◌≡◌, ℕ, Bool, true, false, cond, List, [], ◌∷◌, ◌++◌, ◌||◌, Option, Some, None, is_some, refl, sym, ap, ◌∙◌, inl, inr, true≢false}
use Rattle.std.specs.Prelude.{◌⊎◌}
use Rattle.std.specs.List.{list_any}
use Rattle.std.specs.Str.{bytes_eq}
use Rattle.std.proofs.lemmas.List.Folds.{list_any-append}
use Rattle.std.proofs.lemmas.Slice.Eq.{bytes_eq-Decides}
use Rattle.sp_types.proofs.GrowthLemmas.{Grows}
use Rattle.sp_types.specs.Visible.{PlainSymbol, Visible, lookup, symbol_of, declare, is_busy, with_acc}
use Rattle.sp_typed.specs.Expressions.{symbol_if}
use Rattle.sp_typed.specs.Named.{Meant, find, given}

abbrev pub Found : Type 0
Found = List (List ℕ × Meant)

pub same_bytes : (a : List ℕ) → bytes_eq a a ≡ true
same_bytes a = (bytes_eq-Decides a a).1 refl

-- ---- names before others

found_first : (b : Bool) (x : Meant) (r s : Option Meant) (m : Meant) → cond b (Some x) r ≡ Some m → (r ≡ Some m → s ≡ Some m) → cond b (Some x) s ≡ Some m
found_first true x r s m e h = e
found_first false x r s m e h = h e

pub find_before : (ns ms : Found) (name : List ℕ) (m : Meant) → find ns name ≡ Some m → find (ns ++ ms) name ≡ Some m
unfolding find
find_before [] ms name m e = absurd (cc)
find_before (n ∷ ns) ms name m e = found_first (bytes_eq name n.0) n.1 (find ns name) (find (ns ++ ms) name) m e (find_before ns ms name m)

some_first : {A : Type 0} (b : Bool) (x : A) (r s : Option A) → is_some (cond b (Some x) r) ≡ true → (is_some r ≡ true → is_some s ≡ true) → is_some (cond b (Some x) s) ≡ true
some_first true x r s e h = refl
some_first false x r s e h = h e

pub some_before : (ns ms : Found) (name : List ℕ) → is_some (find ns name) ≡ true → is_some (find (ns ++ ms) name) ≡ true
unfolding find
some_before [] ms name e = absurd (true≢false (sym e))
some_before (n ∷ ns) ms name e = some_first (bytes_eq name n.0) n.1 (find ns name) (find (ns ++ ms) name) e (some_before ns ms name)

seen_before : (ns ms : List (List ℕ × PlainSymbol)) (name : List ℕ) → is_some (lookup ns name) ≡ true → is_some (lookup (ns ++ ms) name) ≡ true
unfolding lookup
seen_before [] ms name e = absurd (true≢false (sym e))
seen_before (n ∷ ns) ms name e = some_first (bytes_eq name n.0) n.1 (lookup ns name) (lookup (ns ++ ms) name) e (seen_before ns ms name)

symbol_first : (b : Bool) (x : PlainSymbol) (r s : Option PlainSymbol) (y : PlainSymbol) → cond b (Some x) r ≡ Some y → (r ≡ Some y → s ≡ Some y) → cond b (Some x) s ≡ Some y
symbol_first true x r s y e h = e
symbol_first false x r s y e h = h e

symbol_before : (ns ms : List (List ℕ × PlainSymbol)) (name : List ℕ) (y : PlainSymbol) → lookup ns name ≡ Some y → lookup (ns ++ ms) name ≡ Some y
unfolding lookup
symbol_before [] ms name y e = absurd (cc)
symbol_before (n ∷ ns) ms name y e = symbol_first (bytes_eq name n.0) n.1 (lookup ns name) (lookup (ns ++ ms) name) y e (symbol_before ns ms name y)

pub symbol_grows : (s t : Visible) → Grows s t → (name : List ℕ) (y : PlainSymbol) → symbol_of s name ≡ Some y → symbol_of t name ≡ Some y
symbol_grows s t g name y e = ap (λ ns. lookup ns name) g.names_is ∙ symbol_before s.names g.names name y e

-- ---- names after others

later_first : (b : Bool) (x : Meant) (r s t : Option Meant) → is_some (cond b (Some x) r) ≡ false → (is_some r ≡ false → s ≡ t) → cond b (Some x) s ≡ t
later_first true x r s t e h = absurd (true≢false e)
later_first false x r s t e h = h e

pub find_after : (ns ms : Found) (name : List ℕ) → is_some (find ns name) ≡ false → find (ns ++ ms) name ≡ find ms name
unfolding find
find_after [] ms name e = refl
find_after (n ∷ ns) ms name e = later_first (bytes_eq name n.0) n.1 (find ns name) (find (ns ++ ms) name) (find ms name) e (find_after ns ms name)

-- ---- one more at the end

last_found : (b : Bool) (text name : List ℕ) (new m : Meant) → bytes_eq name text ≡ b → cond b (Some new) None ≡ Some m → (None ≡ Some m) ⊎ ((text ≡ name) × (new ≡ m))
last_found true text name new m t e =
    let f : new ≡ m = cc in
    inr (sym ((bytes_eq-Decides name text).0 t), f)
last_found false text name new m t e = absurd (cc)

first_found : {Q : Type 0} (b : Bool) (x : Meant) (r s : Option Meant) (m : Meant) → cond b (Some x) s ≡ Some m → (s ≡ Some m → (r ≡ Some m) ⊎ Q) → (cond b (Some x) r ≡ Some m) ⊎ Q
first_found true x r s m e h = inl e
first_found false x r s m e h = h e

-- what is found was there before, or is the new one
pub find_end : (ns : Found) (text : List ℕ) (new m : Meant) (name : List ℕ) → find (ns ++ (text, new) ∷ []) name ≡ Some m → (find ns name ≡ Some m) ⊎ ((text ≡ name) × (new ≡ m))
unfolding find
find_end [] text new m name e = last_found (bytes_eq name text) text name new m refl e
find_end (n ∷ ns) text new m name e =
    first_found (bytes_eq name n.0) n.1 (find ns name) (find (ns ++ (text, new) ∷ []) name) m e (find_end ns text new m name)

either_some : (b : Bool) (x : Meant) (r : Option Meant) → is_some r ≡ true → is_some (cond b (Some x) r) ≡ true
either_some true x r e = refl
either_some false x r e = e

pub some_end : (ns : Found) (text : List ℕ) (new : Meant) → is_some (find (ns ++ (text, new) ∷ []) text) ≡ true
unfolding find
some_end [] text new = ap (λ b. is_some (cond b (Some new) None)) (same_bytes text)
some_end (n ∷ ns) text new = either_some (bytes_eq text n.0) n.1 (find (ns ++ (text, new) ∷ []) text) (some_end ns text new)

pub given_new : (ns : Found) (text : List ℕ) (symbol : PlainSymbol) (n : ℕ) → is_some (find ns text) ≡ false → given ns text symbol n ≡ ns ++ (text, record { symbol = symbol; number = n }) ∷ []
unfolding given
given_new ns text symbol n e = ap (λ b. cond b ns (ns ++ (text, record { symbol = symbol; number = n }) ∷ [])) e

given_there : (ns : Found) (text : List ℕ) (symbol : PlainSymbol) (n : ℕ) → is_some (find ns text) ≡ true → given ns text symbol n ≡ ns
unfolding given
given_there ns text symbol n e = ap (λ b. cond b ns (ns ++ (text, record { symbol = symbol; number = n }) ∷ [])) e

only_one : (b : Bool) (new : Meant) → (is_some (cond b (Some new) None) ≡ false) ⊎ (cond b (Some new) None ≡ Some new)
only_one true new = inr refl
only_one false new = inl refl

-- a name that wasn't there is found after one more only as that one
found_alone : (text : List ℕ) (new : Meant) (name : List ℕ) → (is_some (find ((text, new) ∷ []) name) ≡ false) ⊎ (find ((text, new) ∷ []) name ≡ Some new)
unfolding find
found_alone text new name = only_one (bytes_eq name text) new

moved : (a b : Option Meant) (new : Meant) → a ≡ b → (is_some b ≡ false) ⊎ (b ≡ Some new) → (is_some a ≡ false) ⊎ (a ≡ Some new)
moved a b new e (inl f) = inl (ap is_some e ∙ f)
moved a b new e (inr f) = inr (e ∙ f)

given_by : (b : Bool) (ns : Found) (text : List ℕ) (symbol : PlainSymbol) (n : ℕ) (name : List ℕ) → is_some (find ns text) ≡ b → is_some (find ns name) ≡ false
    → (is_some (find (given ns text symbol n) name) ≡ false) ⊎ (find (given ns text symbol n) name ≡ Some (record { symbol = symbol; number = n }))
given_by true ns text symbol n name t e = inl (ap (λ l. is_some (find l name)) (given_there ns text symbol n t) ∙ e)
given_by false ns text symbol n name t e =
    let new : Meant = record { symbol = symbol; number = n } in
    moved (find (given ns text symbol n) name) (find ((text, new) ∷ []) name) new
    (ap (λ l. find l name) (given_new ns text symbol n t) ∙ find_after ns ((text, new) ∷ []) name e) (found_alone text new name)

pub given_cases : (ns : Found) (text : List ℕ) (symbol : PlainSymbol) (n : ℕ) (name : List ℕ) → is_some (find ns name) ≡ false
    → (is_some (find (given ns text symbol n) name) ≡ false) ⊎ (find (given ns text symbol n) name ≡ Some (record { symbol = symbol; number = n }))
given_cases ns text symbol n name e = given_by (is_some (find ns text)) ns text symbol n name refl e

pub declared_new : (seen : Visible) (text : List ℕ) (symbol : PlainSymbol) → is_some (symbol_of seen text) ≡ false → (declare seen text symbol).names ≡ seen.names ++ (text, symbol) ∷ []
unfolding declare
declared_new seen text symbol e =
    let shown : Bool → Visible = λ b. cond b seen (record { names = seen.names ++ (text, symbol) ∷ []; busy = seen.busy }) in
    ap (λ b. (shown b).names) e

pub symbol_some : (o : Option Meant) → is_some (symbol_if o) ≡ is_some o
symbol_some None = refl
symbol_some (Some m) = refl

-- ---- accumulators

or_true : (a b : Bool) → b ≡ true → (a || b) ≡ true
or_true true b e = refl
or_true false b e = e

pub busy_grows : (s t : Visible) → Grows s t → (name : List ℕ) → is_busy s name ≡ true → is_busy t name ≡ true
unfolding is_busy
busy_grows s t g name e =
    ap (list_any (λ acc. bytes_eq acc name)) g.busy_is ∙ list_any-append (λ acc. bytes_eq acc name) s.busy g.busy ∙ ap (λ b. b || list_any (λ acc. bytes_eq acc name) g.busy) e

pub busy_acc : (s : Visible) (acc : List ℕ) → is_busy (with_acc s acc) acc ≡ true
unfolding is_busy
busy_acc s acc =
    list_any-append (λ a. bytes_eq a acc) s.busy (acc ∷ [])
    ∙ or_true (list_any (λ a. bytes_eq a acc) s.busy) (bytes_eq acc acc || false) (ap (λ b. b || false) (same_bytes acc))

pub visible_grows : (s t : Visible) → Grows s t → (name : List ℕ) → is_some (symbol_of s name) ≡ true → is_some (symbol_of t name) ≡ true
visible_grows s t g name e = ap (λ ns. is_some (lookup ns name)) g.names_is ∙ seen_before s.names g.names name e
