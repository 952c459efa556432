-- One more name at a place, in the program and in its tree.
use Rattle.std.proofs.Common.{◌≡◌, ℕ, zero, suc, Bool, true, false, if◌then◌else◌, List, [], ◌∷◌, ◌++◌, map, slice_index_or, Contains, Some, None, is_some, refl, sym, ap, subst, ◌∙◌, inl, inr, arith}
use Rattle.std.specs.Prelude.{◌⊎◌}
use Rattle.std.specs.Str.{bytes_eq}
use Rattle.std.proofs.lemmas.Slice.Eq.{bytes_eq-Decides}
use Rattle.std.proofs.lemmas.List.Elements.{Contains-append_left, Contains-append_right, Contains-append_cases}
use Rattle.sp_words.specs.declared.types.Ty.{Ty}
use Rattle.sp_tree.specs.PlainProgram.{PlainProgram}
use Rattle.sp_tree.specs.Typing.{Scope, mem_at, visible, IsFresh, with_mem, with_val, with_counter}
use Rattle.sp_types.specs.Visible.{PlainSymbol, memory, value, counter}
use Rattle.sp_typed.specs.Named.{Meant, find, given}
use Rattle.sp_retyped.specs.Shown.{Shown}

-- ---- elements

pub first_or_rest : {A : Type 0} (y : A) (ys : List A) (x : A) → Contains (y ∷ ys) x → (y ≡ x) ⊎ Contains ys x
first_or_rest y ys x (zero, lt, e) = inl e
first_or_rest y ys x (suc k, lt, e) = inr (k, omega (arith, lt), e)

pub one_more : {A : Type 0} (y : A) (ys : List A) (x : A) → Contains ys x → Contains (y ∷ ys) x
one_more y ys x h = (suc h.0, omega (arith, h.1), h.2)

pub at_first : {A : Type 0} (x : A) (xs : List A) → Contains (x ∷ xs) x
at_first x xs = (0, omega arith, refl)

-- ---- names that are found

abbrev Found : Type 0
Found = List (List ℕ × Meant)

find_old : (ns ms : Found) (name : List ℕ) (x : Meant) → find ns name ≡ Some x → find (ns ++ ms) name ≡ Some x
unfolding find
find_old [] ms name x e = absurd (cc)
find_old (n ∷ ns) ms name x e = go (bytes_eq name n.0) e (λ h. find_old ns ms name x h)
  where
    go : (b : Bool) → (if b then Some n.1 else find ns name) ≡ Some x → (find ns name ≡ Some x → find (ns ++ ms) name ≡ Some x) → (if b then Some n.1 else find (ns ++ ms) name) ≡ Some x
    go true h f = h
    go false h f = f h

find_none : (ns ms : Found) (name : List ℕ) → find ns name ≡ None → find (ns ++ ms) name ≡ find ms name
unfolding find
find_none [] ms name e = refl
find_none (n ∷ ns) ms name e = go (bytes_eq name n.0) e (λ h. find_none ns ms name h)
  where
    go : (b : Bool) → (if b then Some n.1 else find ns name) ≡ None → (find ns name ≡ None → find (ns ++ ms) name ≡ find ms name) → (if b then Some n.1 else find (ns ++ ms) name) ≡ find ms name
    go true h f = absurd (cc)
    go false h f = f h

pub same_bytes : (w : List ℕ) → bytes_eq w w ≡ true
same_bytes w = (bytes_eq-Decides w w).1 refl

other_bytes : (name w : List ℕ) → (w ≡ name → ⊥) → bytes_eq name w ≡ false
other_bytes name w h = go (bytes_eq name w) refl
  where
    go : (b : Bool) → bytes_eq name w ≡ b → b ≡ false
    go false e = refl
    go true e = absurd (h (sym ((bytes_eq-Decides name w).0 e)))

last_is : (w : List ℕ) (x : Meant) → find ((w, x) ∷ []) w ≡ Some x
unfolding find
last_is w x = rw (same_bytes w) refl

last_other : (name w : List ℕ) (x : Meant) → (w ≡ name → ⊥) → find ((w, x) ∷ []) name ≡ None
unfolding find
last_other name w x h = rw (other_bytes name w h) refl

pub given_fresh : (ns : Found) (w : List ℕ) (s : PlainSymbol) (n : ℕ) → find ns w ≡ None → given ns w s n ≡ ns ++ (w, record { symbol = s; number = n }) ∷ []
unfolding given
given_fresh ns w s n e = ap (λ o. if is_some o then ns else ns ++ (w, record { symbol = s; number = n }) ∷ []) e

module _ (p : PlainProgram) where
  -- the name that is given is found, those before are found as before, and no other one is
  module _ (scope : Scope) (ns : Found) (h : Shown p scope ns) (w : List ℕ) (s : PlainSymbol) (n : ℕ) (fresh : IsFresh p scope w) where
    none_there : find ns w ≡ None
    none_there = h.fresh w fresh

    kept : (name : List ℕ) (x : Meant) → find ns name ≡ Some x → find (given ns w s n) name ≡ Some x
    kept name x e = ap (λ l. find l name) (given_fresh ns w s n none_there) ∙ find_old ns _ name x e

    new_is : find (given ns w s n) w ≡ Some (record { symbol = s; number = n })
    new_is = ap (λ l. find l w) (given_fresh ns w s n none_there) ∙ find_none ns _ w none_there ∙ last_is w _

    other : (name : List ℕ) → (Contains (visible p scope) name → ⊥) → (w ≡ name → ⊥) → find (given ns w s n) name ≡ None
    other name no_old no_new = ap (λ l. find l name) (given_fresh ns w s n none_there) ∙ find_none ns _ name (h.fresh name no_old) ∙ last_other name w _ no_new

  pub shown_mem : (scope : Scope) (ns : Found) (m : ℕ) → Shown p scope ns → IsFresh p scope (mem_at p m).name
      → Shown p (with_mem scope m) (given ns (mem_at p m).name (memory (mem_at p m).kind (Some (mem_at p m).ty) (mem_at p m).dims) m)
  shown_mem scope ns m h fresh = record {
    mem = λ x at. by x (first_or_rest m scope.mems x at);
    val = λ v ty at. kept scope ns h w s m fresh _ _ (h.val v ty at);
    counter_is = λ c at. kept scope ns h w s m fresh _ _ (h.counter_is c at);
    fresh = λ name no. other scope ns h w s m fresh name (λ at. no (one_more w (visible p scope) name at)) (λ e. no (subst (Contains (w ∷ visible p scope)) e (at_first w (visible p scope))));
  }
    where
      w : List ℕ
      w = (mem_at p m).name

      s : PlainSymbol
      s = memory (mem_at p m).kind (Some (mem_at p m).ty) (mem_at p m).dims

      by : (x : ℕ) → (m ≡ x) ⊎ Contains scope.mems x → find (given ns w s m) (mem_at p x).name ≡ Some (record { symbol = memory (mem_at p x).kind (Some (mem_at p x).ty) (mem_at p x).dims; number = x })
      by x (inl e) = subst (λ y. find (given ns w s m) (mem_at p y).name ≡ Some (record { symbol = memory (mem_at p y).kind (Some (mem_at p y).ty) (mem_at p y).dims; number = y })) e (new_is scope ns h w s m fresh)
      by x (inr at) = kept scope ns h w s m fresh _ _ (h.mem x at)

  -- a name more in the middle of what is visible, and at its end
  pub in_middle : (xs ys zs : List (List ℕ)) (w name : List ℕ) → Contains (xs ++ ys ++ zs) name → Contains (xs ++ (w ∷ ys) ++ zs) name
  in_middle xs ys zs w name at = by (Contains-append_cases (xs ++ ys) zs name at)
    where
      inner : Contains xs name ⊎ Contains ys name → Contains (xs ++ (w ∷ ys)) name
      inner (inl h) = Contains-append_left xs (w ∷ ys) name h
      inner (inr h) = Contains-append_right xs (w ∷ ys) name (one_more w ys name h)

      by : Contains (xs ++ ys) name ⊎ Contains zs name → Contains (xs ++ (w ∷ ys) ++ zs) name
      by (inl h) = Contains-append_left (xs ++ (w ∷ ys)) zs name (inner (Contains-append_cases xs ys name h))
      by (inr h) = Contains-append_right (xs ++ (w ∷ ys)) zs name h

  middle_is : (xs ys zs : List (List ℕ)) (w : List ℕ) → Contains (xs ++ (w ∷ ys) ++ zs) w
  middle_is xs ys zs w = Contains-append_left (xs ++ (w ∷ ys)) zs w (Contains-append_right xs (w ∷ ys) w (at_first w ys))

  pub at_end : (xs zs : List (List ℕ)) (w name : List ℕ) → Contains (xs ++ zs) name → Contains (xs ++ (w ∷ zs)) name
  at_end xs zs w name at = by (Contains-append_cases xs zs name at)
    where
      by : Contains xs name ⊎ Contains zs name → Contains (xs ++ (w ∷ zs)) name
      by (inl h) = Contains-append_left xs (w ∷ zs) name h
      by (inr h) = Contains-append_right xs (w ∷ zs) name (one_more w zs name h)

  abbrev mem_names : Scope → List (List ℕ)
  mem_names scope = map (λ m. (mem_at p m).name) scope.mems

  abbrev val_names : Scope → List (List ℕ)
  val_names scope = map (λ (v : ℕ × Ty). slice_index_or p.vals v.0 []) scope.vals

  abbrev counter_names : Scope → List (List ℕ)
  counter_names scope = map (λ c. slice_index_or p.counters c []) scope.counters

  pub shown_val : (scope : Scope) (ns : Found) (v : ℕ) (ty : Ty) → Shown p scope ns → IsFresh p scope (slice_index_or p.vals v [])
      → Shown p (with_val scope v ty) (given ns (slice_index_or p.vals v []) (value (Some ty)) v)
  shown_val scope ns v ty h fresh = record {
    mem = λ x at. kept scope ns h w s v fresh _ _ (h.mem x at);
    val = λ x t at. by x t (first_or_rest (v, ty) scope.vals (x, t) at);
    counter_is = λ c at. kept scope ns h w s v fresh _ _ (h.counter_is c at);
    fresh = λ name no. other scope ns h w s v fresh name
        (λ at. no (in_middle (mem_names scope) (val_names scope) (counter_names scope) w name at))
        (λ e. no (subst (Contains (mem_names scope ++ (w ∷ val_names scope) ++ counter_names scope)) e (middle_is (mem_names scope) (val_names scope) (counter_names scope) w)));
  }
    where
      w : List ℕ
      w = slice_index_or p.vals v []

      s : PlainSymbol
      s = value (Some ty)

      by : (x : ℕ) (t : Ty) → ◌≡◌ {A = ℕ × Ty} (v, ty) (x, t) ⊎ Contains scope.vals (x, t) → find (given ns w s v) (slice_index_or p.vals x []) ≡ Some (record { symbol = value (Some t); number = x })
      by x t (inl e) = subst (λ (y : ℕ × Ty). find (given ns w s v) (slice_index_or p.vals y.0 []) ≡ Some (record { symbol = value (Some y.1); number = y.0 })) e (new_is scope ns h w s v fresh)
      by x t (inr at) = kept scope ns h w s v fresh _ _ (h.val x t at)

  pub shown_counter : (scope : Scope) (ns : Found) (c : ℕ) → Shown p scope ns → IsFresh p scope (slice_index_or p.counters c [])
      → Shown p (with_counter scope c) (given ns (slice_index_or p.counters c []) counter c)
  shown_counter scope ns c h fresh = record {
    mem = λ x at. kept scope ns h w counter c fresh _ _ (h.mem x at);
    val = λ x t at. kept scope ns h w counter c fresh _ _ (h.val x t at);
    counter_is = λ x at. by x (first_or_rest c scope.counters x at);
    fresh = λ name no. other scope ns h w counter c fresh name
        (λ at. no (at_end (mem_names scope ++ val_names scope) (counter_names scope) w name at))
        (λ e. no (subst (Contains (mem_names scope ++ val_names scope ++ (w ∷ counter_names scope))) e (Contains-append_right (mem_names scope ++ val_names scope) (w ∷ counter_names scope) w (at_first w (counter_names scope)))));
  }
    where
      w : List ℕ
      w = slice_index_or p.counters c []

      by : (x : ℕ) → (c ≡ x) ⊎ Contains scope.counters x → find (given ns w counter c) (slice_index_or p.counters x []) ≡ Some (record { symbol = counter; number = x })
      by x (inl e) = subst (λ y. find (given ns w counter c) (slice_index_or p.counters y []) ≡ Some (record { symbol = counter; number = y })) e (new_is scope ns h w counter c fresh)
      by x (inr at) = kept scope ns h w counter c fresh _ _ (h.counter_is x at)
