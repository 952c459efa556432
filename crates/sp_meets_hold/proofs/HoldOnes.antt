-- Two accesses that touch one element: their forms have one value each.
use Rattle.std.proofs.Common.{◌≡◌, ℕ, Bool, true, false, ◌||◌, ℤ, pos, ◌+ℤ◌, List, [], ◌∷◌, map, Option, Some, None, inl, inr, refl, sym, ap, ◌∙◌, subst, if◌then◌else◌}
use Rattle.std.specs.Prelude.{◌⊎◌, IfSome}
use Rattle.std.specs.Ordering.{int_eq}
use Rattle.std.proofs.lemmas.Bool.{and_parts, false≢true, or_cases}
use Rattle.std.proofs.lemmas.Bool.Decides.{Decides-int_eq}
use Rattle.std.proofs.lemmas.List.Elements.{All-head, All-tail}
use Rattle.sp_words.specs.declared.kind.Kind.{Kind}
use Rattle.sp_words.specs.declared.kind.Kind.TheVariants.{Reg, Sram, Fifo, LineBuf, Dram, ArgIn, ArgOut}
use Rattle.sp_words.specs.Memory.{Contents}
use Rattle.sp_affine.specs.Affine.{Affine, dot, value_of, symbol_value}
use Rattle.sp_core.specs.Accesses.{word_in}
use Rattle.sp_core.specs.Declarations.{kind_of, dims, is_among}
use Rattle.sp_core.specs.Events.{Act}
use Rattle.sp_core.specs.Forms.{PlainForms, held_word, symbol_in, are_indices}
use Rattle.sp_core.specs.Meeting.{changes, element}
use Rattle.sp_core.specs.PlainCore.{PlainCore}
use Rattle.sp_core.specs.Store.{Store}
use Rattle.sp_deps.specs.Groups.{AreOneElement, TouchOne, HaveLength}
use Rattle.sp_patterns.specs.Patterns.{patterns_of}
use Rattle.sp_meets.specs.Sites.{is_changed, has_changed, known_inside}
use Rattle.sp_along.specs.AlongSymbols.{holds_symbol}
use Rattle.sp_touched.specs.Touched.{IsInside, IsOfSymbol, AreSymbols}
use Rattle.sp_meets_hold.proofs.HoldElements.{same_indices}

-- one element, of which one access at least changes it: the same indices, or none
pub same_places : (k : Kind) (ds is js : List ℕ) (a b : Act) → IsInside k ds is a → IsInside k ds js b → element k ds is ≡ element k ds js → (changes a || changes b) ≡ true → (is ≡ js) ⊎ ((is ≡ []) ⊎ (js ≡ []))
same_places Sram ds is js a b h k e c = inl (same_indices ds is js h k e)
same_places Dram ds is js a b h k e c = inl (same_indices ds is js h k e)
same_places Reg ds is js a b h k e c = elim (or_cases (changes a) (changes b) c) [ inl x ↦ inr (inl (h x)) | inr x ↦ inr (inr (k x)) ]
same_places Fifo ds is js a b h k e c = elim (or_cases (changes a) (changes b) c) [ inl x ↦ inr (inl (h x)) | inr x ↦ inr (inr (k x)) ]
same_places LineBuf ds is js a b h k e c = elim (or_cases (changes a) (changes b) c) [ inl x ↦ inr (inl (h x)) | inr x ↦ inr (inr (k x)) ]
same_places ArgIn ds is js a b h k e c = elim (or_cases (changes a) (changes b) c) [ inl x ↦ inr (inl (h x)) | inr x ↦ inr (inr (k x)) ]
same_places ArgOut ds is js a b h k e c = elim (or_cases (changes a) (changes b) c) [ inl x ↦ inr (inl (h x)) | inr x ↦ inr (inr (k x)) ]

-- forms that aren't changed inside of the controller
pub touch_one : (ch dh : List ℕ) (F G : Option (List Affine)) (xs ys : List ℤ) (symbols : ℕ → ℤ) → ((fs gs : List Affine) → F ≡ Some fs → G ≡ Some gs → has_changed dh gs ≡ false → AreOneElement fs gs xs ys symbols) → TouchOne (known_inside ch F) (known_inside dh G) xs ys symbols
touch_one ch dh None G xs ys symbols f = tt
touch_one ch dh (Some fs) None xs ys symbols f = go (has_changed ch fs)
  where
    go : (b : Bool) → TouchOne (if b then None else Some fs) None xs ys symbols
    go true = tt
    go false = tt
touch_one ch dh (Some fs) (Some gs) xs ys symbols f = go (has_changed ch fs) (has_changed dh gs) refl
  where
    go : (b c : Bool) → has_changed dh gs ≡ c → TouchOne (if b then None else Some fs) (if c then None else Some gs) xs ys symbols
    go true c e = tt
    go false true e = tt
    go false false e = f fs gs refl refl e

pub known_length : (ch : List ℕ) (F : Option (List Affine)) (n : ℕ) → HaveLength n F → HaveLength n (known_inside ch F)
known_length ch None n h = tt
known_length ch (Some fs) n h = go (has_changed ch fs)
  where
    go : (b : Bool) → HaveLength n (if b then None else Some fs)
    go true = tt
    go false = h

neither : (a b : Bool) → (a || b) ≡ false → (a ≡ false) × (b ≡ false)
neither true b h = absurd (false≢true (sym h))
neither false b h = (refl, h)

module _ (core : PlainCore) where
  abbrev forms : PlainForms
  forms = patterns_of core

  -- a symbol that isn't changed has one word in both stores
  same_symbol : (s u : Store) (dh : List ℕ) (o : Option ℕ) → ((m : ℕ) → holds_symbol (kind_of core m) ≡ true → is_among m dh ≡ false → s m ≡ u m) → IfSome o (λ m. holds_symbol (kind_of core m) ≡ true) → is_changed dh o ≡ false →
      symbol_value o (symbol_in core forms u) ≡ symbol_value o (symbol_in core forms s)
  same_symbol s u dh None same h e = refl
  same_symbol s u dh (Some m) same h e = ap (λ (c : Option Contents). held_word core forms (word_in (kind_of core m) (dims core m) [] c)) (sym (same m h e))

  one_element : (s u : Store) (dh : List ℕ) (fs gs : List Affine) (is : List ℤ) (xs ys : List ℤ) → ((m : ℕ) → holds_symbol (kind_of core m) ≡ true → is_among m dh ≡ false → s m ≡ u m) → AreSymbols core gs → has_changed dh gs ≡ false →
      are_indices core forms fs is xs (symbol_in core forms s) ≡ true → are_indices core forms gs is ys (symbol_in core forms u) ≡ true → AreOneElement fs gs xs ys (symbol_in core forms s)
  one_element s u dh [] gs is xs ys same h c e f = tt
  one_element s u dh (a ∷ fs) [] is xs ys same h c e f = tt
  one_element s u dh (a ∷ fs) (b ∷ gs) [] xs ys same h c e f = absurd (false≢true e)
  one_element s u dh (a ∷ fs) (b ∷ gs) (i ∷ is) xs ys same h c e f =
      let p = and_parts (int_eq (value_of a xs (symbol_in core forms s)) i) (are_indices core forms fs is xs (symbol_in core forms s)) e in
      let q = and_parts (int_eq (value_of b ys (symbol_in core forms u)) i) (are_indices core forms gs is ys (symbol_in core forms u)) f in
      let n = neither (is_changed dh b.symbol) (has_changed dh gs) c in
      let first : value_of a xs (symbol_in core forms s) ≡ i = (Decides-int_eq _ _).0 p.0 in
      let second : value_of b ys (symbol_in core forms u) ≡ i = (Decides-int_eq _ _).0 q.0 in
      let symbol = same_symbol s u dh b.symbol same (All-head (IsOfSymbol core) b gs h) n.0 in
      (first ∙ sym second ∙ ap (λ z. (dot b.coefs ys +ℤ b.constant) +ℤ z) symbol, one_element s u dh fs gs is xs ys same (All-tail (IsOfSymbol core) b gs h) n.1 p.1 q.1)

  no_forms : (fs : List Affine) (xs : List ℤ) (symbols : ℕ → ℤ) → are_indices core forms fs [] xs symbols ≡ true → fs ≡ []
  no_forms [] xs symbols h = refl
  no_forms (f ∷ fs) xs symbols h = absurd (false≢true h)

  nothing_second : (fs : List Affine) (xs ys : List ℤ) (symbols : ℕ → ℤ) → AreOneElement fs [] xs ys symbols
  nothing_second [] xs ys symbols = tt
  nothing_second (f ∷ fs) xs ys symbols = tt

  -- by where the two accesses are
  pub ones : (s u : Store) (dh : List ℕ) (fs gs : List Affine) (is js : List ℕ) (xs ys : List ℤ) → ((m : ℕ) → holds_symbol (kind_of core m) ≡ true → is_among m dh ≡ false → s m ≡ u m) → AreSymbols core gs → has_changed dh gs ≡ false →
      are_indices core forms fs (map pos is) xs (symbol_in core forms s) ≡ true → are_indices core forms gs (map pos js) ys (symbol_in core forms u) ≡ true → (is ≡ js) ⊎ ((is ≡ []) ⊎ (js ≡ [])) → AreOneElement fs gs xs ys (symbol_in core forms s)
  ones s u dh fs gs is js xs ys same h c e f (inl w) = one_element s u dh fs gs (map pos is) xs ys same h c e (subst (λ z. are_indices core forms gs (map pos z) ys (symbol_in core forms u) ≡ true) (sym w) f)
  ones s u dh fs gs is js xs ys same h c e f (inr (inl w)) =
      let none : fs ≡ [] = no_forms fs xs (symbol_in core forms s) (subst (λ z. are_indices core forms fs (map pos z) xs (symbol_in core forms s) ≡ true) w e) in
      subst (λ z. AreOneElement z gs xs ys (symbol_in core forms s)) (sym none) tt
  ones s u dh fs gs is js xs ys same h c e f (inr (inr w)) =
      let none : gs ≡ [] = no_forms gs ys (symbol_in core forms u) (subst (λ z. are_indices core forms gs (map pos z) ys (symbol_in core forms u) ≡ true) w f) in
      subst (λ z. AreOneElement fs z xs ys (symbol_in core forms s)) (sym none) (nothing_second fs xs ys (symbol_in core forms s))
