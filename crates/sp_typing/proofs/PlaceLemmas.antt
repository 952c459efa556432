-- One more name at a place.
use Rattle.std.proofs.Common.{◌≡◌, ℕ, zero, suc, true, false, List, [], ◌∷◌, ◌++◌, map, Some, None, is_some, refl, sym, ap, subst, ◌∙◌, inl, inr, true≢false, arith}
use Rattle.std.specs.Prelude.{◌⊎◌, Contains, slice_index_or}
use Rattle.std.proofs.lemmas.List.Elements.{Contains-append_left, Contains-append_right, Contains-append_cases}
use Rattle.sp_words.specs.declared.kind.Kind.{Kind}
use Rattle.sp_words.specs.declared.types.Ty.{Ty}
use Rattle.sp_tree.specs.PlainProgram.{PlainProgram}
use Rattle.sp_tree.specs.Typing.{Scope, IsFresh, visible, mem_at, with_mem, with_val, with_counter}
use Rattle.sp_types.proofs.ScopeLemmas.{map_push}
use Rattle.sp_types.specs.Visible.{PlainSymbol, memory, value, counter, Visible, symbol_of, declare, lookup}
use Rattle.sp_typed.proofs.ScopeLemmas.{seen_symbol}
use Rattle.sp_typed.specs.Expressions.{symbol_if}
use Rattle.sp_typed.specs.Laws.{Stands}
use Rattle.sp_typed.specs.Named.{Meant, find, given}
use Rattle.sp_typing.specs.Places.{NamedBy, Place}
use Rattle.sp_typing.proofs.FindLemmas.{Found, find_end, some_before, some_end, given_new, declared_new, symbol_some}

-- ---- elements

pub first_or_rest : {A : Type 0} (y : A) (ys : List A) (x : A) → Contains (y ∷ ys) x → (y ≡ x) ⊎ Contains ys x
first_or_rest y ys x (zero, lt, e) = inl e
first_or_rest y ys x (suc k, lt, e) = inr (k, omega (arith, lt), e)

pub one_more : {A : Type 0} (y : A) (ys : List A) (x : A) → Contains ys x → Contains (y ∷ ys) x
one_more y ys x h = (suc h.0, omega (arith, h.1), h.2)

pub at_first : {A : Type 0} (x : A) (xs : List A) → Contains (x ∷ xs) x
at_first x xs = (0, omega arith, refl)

or_left : {A B C : Type 0} → A ⊎ B → (B → C) → A ⊎ C
or_left (inl a) f = inl a
or_left (inr b) f = inr (f b)

or_map : {A B C : Type 0} → A ⊎ B → (A → C) → C ⊎ B
or_map (inl a) f = inl (f a)
or_map (inr b) f = inr b

either : {A B C : Type 0} → A ⊎ B → (A → C) → (B → C) → C
either (inl a) f g = f a
either (inr b) f g = g b

-- one more in the middle of three lists, and in the last
in_middle : {A : Type 0} (xs ys zs : List A) (y x : A) → Contains (xs ++ (y ∷ ys) ++ zs) x → (y ≡ x) ⊎ Contains (xs ++ ys ++ zs) x
in_middle xs ys zs y x h =
    either (Contains-append_cases (xs ++ (y ∷ ys)) zs x h)
    (λ f. either (Contains-append_cases xs (y ∷ ys) x f)
    (λ g. inr (Contains-append_left (xs ++ ys) zs x (Contains-append_left xs ys x g)))
    (λ g. or_left (first_or_rest y ys x g) (λ k. Contains-append_left (xs ++ ys) zs x (Contains-append_right xs ys x k))))
    (λ f. inr (Contains-append_right (xs ++ ys) zs x f))

in_last : {A : Type 0} (xs ys zs : List A) (y x : A) → Contains (xs ++ ys ++ (y ∷ zs)) x → (y ≡ x) ⊎ Contains (xs ++ ys ++ zs) x
in_last xs ys zs y x h =
    either (Contains-append_cases (xs ++ ys) (y ∷ zs) x h)
    (λ f. inr (Contains-append_left (xs ++ ys) zs x f))
    (λ f. or_left (first_or_rest y zs x f) (λ k. Contains-append_right (xs ++ ys) zs x k))

-- ---- a scope that shows more

pub record Wider (scope wider : Scope) : Type 0 where
  pub mems : (m : ℕ) → Contains scope.mems m → Contains wider.mems m
  pub vals : (v : ℕ × Ty) → Contains scope.vals v → Contains wider.vals v
  pub counters : (c : ℕ) → Contains scope.counters c → Contains wider.counters c

wider_mem : (scope : Scope) (m : ℕ) → Wider scope (with_mem scope m)
wider_mem scope m = record { mems = one_more m scope.mems; vals = λ v h. h; counters = λ c h. h }

wider_val : (scope : Scope) (v : ℕ) (ty : Ty) → Wider scope (with_val scope v ty)
wider_val scope v ty = record { mems = λ m h. h; vals = one_more (v, ty) scope.vals; counters = λ c h. h }

wider_counter : (scope : Scope) (c : ℕ) → Wider scope (with_counter scope c)
wider_counter scope c = record { mems = λ m h. h; vals = λ v h. h; counters = one_more c scope.counters }

module _ (p : PlainProgram) where
  pub stands_wider : (scope wider : Scope) (s : PlainSymbol) (n : ℕ) → Wider scope wider → Stands p scope s n → Stands p wider s n
  stands_wider scope wider (memory kind (Some ty) dims) n w h = (record { seen = w.mems n h.0.seen; is_kind = h.0.is_kind; is_type = h.0.is_type }, h.1)
  stands_wider scope wider (memory kind None dims) n w h = h
  stands_wider scope wider (value (Some ty)) n w h = w.vals (n, ty) h
  stands_wider scope wider (value None) n w h = h
  stands_wider scope wider counter n w h = w.counters n h

  module _ (scope : Scope) (names : Found) (seen : Visible) (at : Place p scope names seen.names) where
    -- what a name stands for in the tree, as the rules see it
    pub seen_is : (text : List ℕ) → symbol_of seen text ≡ symbol_if (find names text)
    seen_is text = ap (λ ns. lookup ns text) at.same ∙ seen_symbol names text

    pub found_none : (text : List ℕ) → is_some (symbol_of seen text) ≡ false → is_some (find names text) ≡ false
    found_none text e = sym (symbol_some (find names text)) ∙ ap is_some (sym (seen_is text)) ∙ e

    -- a name that isn't visible in the tree may be given in the program
    pub fresh : (text : List ℕ) → is_some (symbol_of seen text) ≡ false → IsFresh p scope text
    fresh text e h = true≢false (sym (at.shown text h) ∙ found_none text e)

    stands_case : (wider : Scope) (text name : List ℕ) (new m : Meant) → Wider scope wider → Stands p wider new.symbol new.number
        → (find names name ≡ Some m) ⊎ ((text ≡ name) × (new ≡ m)) → Stands p wider m.symbol m.number
    stands_case wider text name new m w h (inl e) = stands_wider scope wider m.symbol m.number w (at.agree name m e)
    stands_case wider text name new m w h (inr e) = let P : Meant → Type 0 = λ x. Stands p wider x.symbol x.number in subst P e.1 h

    named_case : (text name : List ℕ) (new m : Meant) → NamedBy p new.symbol new.number text
        → (find names name ≡ Some m) ⊎ ((text ≡ name) × (new ≡ m)) → NamedBy p m.symbol m.number name
    named_case text name new m h (inl e) = at.named name m e
    named_case text name new m h (inr e) =
        let P : Meant → Type 0 = λ x. NamedBy p x.symbol x.number name in
        let Q : List ℕ → Type 0 = λ t. NamedBy p new.symbol new.number t in
        subst P e.1 (subst Q e.0 h)

    shown_case : (wider : Scope) (text name : List ℕ) (new : Meant) → (text ≡ name) ⊎ Contains (visible p scope) name → is_some (find (names ++ (text, new) ∷ []) name) ≡ true
    shown_case wider text name new (inl e) = ap (λ t. is_some (find (names ++ (text, new) ∷ []) t)) (sym e) ∙ some_end names text new
    shown_case wider text name new (inr h) = some_before names ((text, new) ∷ []) name (at.shown name h)

    place_given : (wider : Scope) (text : List ℕ) (symbol : PlainSymbol) (n : ℕ) → is_some (symbol_of seen text) ≡ false → Wider scope wider → Stands p wider symbol n → NamedBy p symbol n text
        → ((name : List ℕ) → Contains (visible p wider) name → (text ≡ name) ⊎ Contains (visible p scope) name)
        → Place p wider (given names text symbol n) (declare seen text symbol).names
    place_given wider text symbol n free w stands named shows =
        let new : Meant = record { symbol = symbol; number = n } in
        let e = given_new names text symbol n (found_none text free) in record {
          agree = λ name m f. stands_case wider text name new m w stands (find_end names text new m name (ap (λ ns. find ns name) (sym e) ∙ f));
          same = declared_new seen text symbol free ∙ ap (λ ns. ns ++ (text, symbol) ∷ []) at.same
              ∙ sym (map_push (λ (entry : List ℕ × Meant). (entry.0, entry.1.symbol)) names (text, new)) ∙ ap (map (λ (entry : List ℕ × Meant). (entry.0, entry.1.symbol))) (sym e);
          shown = λ name h. ap (λ ns. is_some (find ns name)) e ∙ shown_case wider text name new (shows name h);
          named = λ name m f. named_case text name new m named (find_end names text new m name (ap (λ ns. find ns name) (sym e) ∙ f));
        }

    -- ---- a memory, a value, a counter

    abbrev shown_mems : List (List ℕ)
    shown_mems = map (λ m. (mem_at p m).name) scope.mems

    abbrev shown_vals : List (List ℕ)
    shown_vals = map (λ (v : ℕ × Ty). slice_index_or p.vals v.0 []) scope.vals

    abbrev shown_counters : List (List ℕ)
    shown_counters = map (λ c. slice_index_or p.counters c []) scope.counters

    pub give_mem : (text : List ℕ) (kind : Kind) (ty : Ty) (dims : List ℕ) (n : ℕ) → is_some (symbol_of seen text) ≡ false
        → (mem_at p n).name ≡ text → (mem_at p n).kind ≡ kind → (mem_at p n).ty ≡ ty → (mem_at p n).dims ≡ dims
        → Place p (with_mem scope n) (given names text (memory kind (Some ty) dims) n) (declare seen text (memory kind (Some ty) dims)).names
    give_mem text kind ty dims n free name is_kind is_ty is_dims =
        place_given (with_mem scope n) text (memory kind (Some ty) dims) n free (wider_mem scope n)
        (record { seen = at_first n scope.mems; is_kind = is_kind; is_type = is_ty }, is_dims) name
        (λ other h. or_map (first_or_rest (mem_at p n).name (visible p scope) other h) (λ e. sym name ∙ e))

    pub give_val : (text : List ℕ) (ty : Ty) (n : ℕ) → is_some (symbol_of seen text) ≡ false → slice_index_or p.vals n [] ≡ text
        → Place p (with_val scope n ty) (given names text (value (Some ty)) n) (declare seen text (value (Some ty))).names
    give_val text ty n free name =
        place_given (with_val scope n ty) text (value (Some ty)) n free (wider_val scope n ty) (at_first (n, ty) scope.vals) tt
        (λ other h. or_map (in_middle shown_mems shown_vals shown_counters (slice_index_or p.vals n []) other h) (λ e. sym name ∙ e))

    pub give_counter : (text : List ℕ) (n : ℕ) → is_some (symbol_of seen text) ≡ false → slice_index_or p.counters n [] ≡ text
        → Place p (with_counter scope n) (given names text counter n) (declare seen text counter).names
    give_counter text n free name =
        place_given (with_counter scope n) text counter n free (wider_counter scope n) (at_first n scope.counters) tt
        (λ other h. or_map (in_last shown_mems shown_vals shown_counters (slice_index_or p.counters n []) other h) (λ e. sym name ∙ e))
