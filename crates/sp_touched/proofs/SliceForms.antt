-- The indices of the words of a slice, over its first indices and counters of its own.
use Rattle.std.proofs.Common.{◌≡◌, ℕ, zero, suc, ◌+◌, ◌-◌, ◌<◌, ◌≤◌, Bool, true, false, ◌&&◌, ℤ, pos, negsuc, ◌+ℤ◌, ◌-ℤ◌, List, [], ◌∷◌, ◌++◌, length, map, replicate, append_assoc, length-append, Option, Some, None, inl, inr, refl, sym, ap, ◌∙◌, subst, arith, cond, lt-ltb, le-ltb}
use Rattle.std.specs.Prelude.{All, int_le, option_map}
use Rattle.std.specs.Ordering.{int_eq}
use Rattle.std.proofs.lemmas.Bool.{and_parts, and_from, cases_lt, false≢true, leb-true, lt-ltb}
use Rattle.std.proofs.lemmas.Bool.Decides.{Decides-int_eq}
use Rattle.std.proofs.lemmas.Int.{ints}
use Rattle.std.proofs.lemmas.List.Elements.{All-nil, All-cons, All-head, All-tail}
use Rattle.sp_affine.specs.Affine.{Affine, dot, value_of}
use Rattle.sp_core.specs.Elements.{natural, is_below, are_inside, length_between}
use Rattle.sp_core.specs.Events.{first_of}
use Rattle.sp_core.specs.Forms.{PlainForms, are_indices, are_known_indices}
use Rattle.sp_core.specs.PlainCore.{PlainCore}
use Rattle.sp_core.specs.Transfers.{Part, index, between, lengths, are_parts_inside, places_of}
use Rattle.sp_deps.specs.Groups.{HaveLength}
use Rattle.sp_meets.specs.Sites.{unit, with_more, slice_indices}
use Rattle.sp_touched.proofs.Slots.{AreBelow, AreUpTo, dot_none, dot_unit, more_value, unit_length, replicate_length}

-- parts as their spans are: an index, or a range
abbrev pub AreParts : List Bool → List Part → Type 0
AreParts [] [] = Unit {0}
AreParts (true ∷ rs) (between a b ∷ ps) = AreParts rs ps
AreParts (false ∷ rs) (index i ∷ ps) = AreParts rs ps
AreParts _ _ = ⊥

-- whole numbers
below_number : (i : ℤ) (d : ℕ) → is_below i d ≡ true → pos (natural i) ≡ i
below_number (pos n) d h = refl
below_number (negsuc n) d h = absurd (false≢true h)

at_least_number : (a : ℤ) → int_le (pos 0) a ≡ true → pos (natural a) ≡ a
at_least_number (pos n) h = refl
at_least_number (negsuc n) h = absurd (false≢true h)

sum_number : (a : ℤ) (k : ℕ) → pos (natural a) ≡ a → pos (natural a + k) ≡ a +ℤ pos k
sum_number a k e = ap (λ z. z) (split (natural a) k) ∙ ap (λ z. z +ℤ pos k) e
  where
    split : (n k : ℕ) → pos (n + k) ≡ pos n +ℤ pos k
    split n k = omega (arith, ints)

natural_less : (b a : ℕ) → natural (pos b -ℤ pos a) ≡ b - a
natural_less b zero = omega arith
natural_less b (suc a) = elim (cases_lt b (suc a)) [
  | inl l ↦ ap (λ t. natural (cond t (negsuc (suc a - suc b)) (pos (b - suc a)))) (lt-ltb b (suc a) l) ∙ omega arith
  | inr l ↦ ap (λ t. natural (cond t (negsuc (suc a - suc b)) (pos (b - suc a)))) (le-ltb b (suc a) l)
]

none_less : (n a : ℕ) → natural (negsuc n -ℤ pos a) ≡ 0
none_less n zero = ap (λ t. natural (cond t (negsuc (suc n - 1)) (pos (0 - suc n)))) (lt-ltb 0 (suc n) (omega arith))
none_less n (suc a) = refl

pub length_inside : (a b : ℤ) (d : ℕ) → int_le (pos 0) a ≡ true → int_le b (pos d) ≡ true → length_between a b ≤ d
length_inside (negsuc a) b d e h = absurd (false≢true e)
length_inside (pos a) (negsuc b) d e h = let z = none_less b a in omega (arith, z)
length_inside (pos a) (pos b) d e h = let q = natural_less b a in let w : b ≤ d = leb-true b d h in omega arith

offset_inside : (a b : ℤ) (d k : ℕ) → int_le (pos 0) a ≡ true → int_le b (pos d) ≡ true → k < length_between a b → natural a + k < d
offset_inside (negsuc a) b d k e h l = absurd (false≢true e)
offset_inside (pos a) (negsuc b) d k e h l = absurd (omega (arith, none_less b a, l))
offset_inside (pos a) (pos b) d k e h l = let q = natural_less b a in let w : b ≤ d = leb-true b d h in omega arith

-- the words of a slice are inside of its DRAM
pub places_inside : (ds : List ℕ) (parts : List Part) (o : List ℕ) → are_parts_inside ds parts ≡ true → AreBelow (lengths parts) o → are_inside ds (map pos (places_of parts o)) ≡ true
places_inside [] [] o h l = refl
places_inside [] (p ∷ parts) o h l = absurd (false≢true h)
places_inside (d ∷ ds) [] o h l = absurd (false≢true h)
places_inside (d ∷ ds) (index i ∷ parts) o h l =
    let q = and_parts (is_below i d) (are_parts_inside ds parts) h in
    and_from (is_below (pos (natural i)) d) (are_inside ds (map pos (places_of parts o))) (ap (λ z. is_below z d) (below_number i d q.0) ∙ q.0) (places_inside ds parts o q.1 l)
places_inside (d ∷ ds) (between a b ∷ parts) [] h l = absurd l
places_inside (d ∷ ds) (between a b ∷ parts) (k ∷ o) h l =
    let q = and_parts (int_le (pos 0) a && int_le b (pos d)) (are_parts_inside ds parts) h in
    let r = and_parts (int_le (pos 0) a) (int_le b (pos d)) q.0 in
    and_from (is_below (pos (natural a + k)) d) (are_inside ds (map pos (places_of parts o))) (lt-ltb (natural a + k) d (offset_inside a b d k r.0 r.1 l.0)) (places_inside ds parts o q.1 l.1)

-- offsets below lengths that are no longer than dimensions are inside
pub offsets_inside : (ds ns o : List ℕ) → AreUpTo ns ds → AreBelow ns o → are_inside ds (map pos o) ≡ true
offsets_inside [] [] [] u b = refl
offsets_inside [] [] (k ∷ o) u b = absurd b
offsets_inside (d ∷ ds) [] o u b = absurd u
offsets_inside [] (n ∷ ns) o u b = absurd u
offsets_inside (d ∷ ds) (n ∷ ns) [] u b = absurd b
offsets_inside (d ∷ ds) (n ∷ ns) (k ∷ o) u b = and_from (is_below (pos k) d) (are_inside ds (map pos o)) (lt-ltb k d (less k n d b.0 u.0)) (offsets_inside ds ns o u.1 b.1)
  where
    less : (k n d : ℕ) → k < n → n ≤ d → k < d
    less k n d h l = omega (arith, h, l)

pub below_length : (ns o : List ℕ) → AreBelow ns o → length o ≡ length ns
below_length [] [] b = refl
below_length [] (k ∷ o) b = absurd b
below_length (n ∷ ns) [] b = absurd b
below_length (n ∷ ns) (k ∷ o) b = ap suc (below_length ns o b.1)

module _ (core : PlainCore) (forms : PlainForms) (counters : List ℤ) (symbols : ℕ → ℤ) where
  -- over first indices that are the forms the places are the slice's forms
  slice_are : (n i : ℕ) (rs : List Bool) (parts : List Part) (fs : List Affine) (front o : List ℕ) (ds : List ℕ) → AreParts rs parts → All (λ f. length f.coefs ≡ length counters) fs → are_indices core forms fs (map first_of parts) counters symbols ≡ true →
      are_parts_inside ds parts ≡ true → length front ≡ i → length front + length o ≡ n → AreBelow (lengths parts) o →
      are_indices core forms (slice_indices n i rs fs) (map pos (places_of parts o)) (counters ++ map pos (front ++ o)) symbols ≡ true
  slice_are n i [] [] [] front o ds a l h p e s b = refl
  slice_are n i [] [] (f ∷ fs) front o ds a l h p e s b = absurd (false≢true h)
  slice_are n i [] (x ∷ parts) fs front o ds a l h p e s b = absurd a
  slice_are n i (true ∷ rs) [] fs front o ds a l h p e s b = absurd a
  slice_are n i (false ∷ rs) [] fs front o ds a l h p e s b = absurd a
  slice_are n i (true ∷ rs) (index x ∷ parts) fs front o ds a l h p e s b = absurd a
  slice_are n i (false ∷ rs) (between x y ∷ parts) fs front o ds a l h p e s b = absurd a
  slice_are n i (false ∷ rs) (index x ∷ parts) [] front o ds a l h p e s b = absurd (false≢true h)
  slice_are n i (true ∷ rs) (between x y ∷ parts) [] front o ds a l h p e s b = absurd (false≢true h)
  slice_are n i (false ∷ rs) (index x ∷ parts) (f ∷ fs) front o [] a l h p e s b = absurd (false≢true p)
  slice_are n i (true ∷ rs) (between x y ∷ parts) (f ∷ fs) front o [] a l h p e s b = absurd (false≢true p)
  slice_are n i (true ∷ rs) (between x y ∷ parts) (f ∷ fs) front [] (d ∷ ds) a l h p e s b = absurd b
  slice_are n i (false ∷ rs) (index x ∷ parts) (f ∷ fs) front o (d ∷ ds) a l h p e s b =
      let q = and_parts (is_below x d) (are_parts_inside ds parts) p in
      let k = and_parts (int_eq (value_of f counters symbols) x) (are_indices core forms fs (map first_of parts) counters symbols) h in
      let own = map pos (front ++ o) in
      let L = λ (f : Affine). length f.coefs ≡ length counters in
      and_from (int_eq (value_of (with_more (replicate n (pos 0)) f) (counters ++ own) symbols) (pos (natural x))) (are_indices core forms (slice_indices n i rs fs) (map pos (places_of parts o)) (counters ++ own) symbols)
      ((Decides-int_eq _ _).1 (more_value f (replicate n (pos 0)) counters own symbols (All-head L f fs l) ∙ nothing (value_of f counters symbols) (dot (replicate n (pos 0)) own) x ((Decides-int_eq (value_of f counters symbols) x).0 k.0) (dot_none n own) ∙ sym (below_number x d q.0)))
      (slice_are n i rs parts fs front o ds a (All-tail L f fs l) k.1 q.1 e s b)
    where
      nothing : (v z x : ℤ) → v ≡ x → z ≡ pos 0 → v +ℤ z ≡ x
      nothing v z x e f = omega (arith, ints, e, f)
  slice_are n i (true ∷ rs) (between x y ∷ parts) (f ∷ fs) front (j ∷ o) (d ∷ ds) a l h p e s b =
      let q = and_parts (int_le (pos 0) x && int_le y (pos d)) (are_parts_inside ds parts) p in
      let r = and_parts (int_le (pos 0) x) (int_le y (pos d)) q.0 in
      let k = and_parts (int_eq (value_of f counters symbols) x) (are_indices core forms fs (map first_of parts) counters symbols) h in
      let own = map pos (front ++ j ∷ o) in
      let L = λ (f : Affine). length f.coefs ≡ length counters in
      and_from (int_eq (value_of (with_more (unit n i) f) (counters ++ own) symbols) (pos (natural x + j))) (are_indices core forms (slice_indices n (suc i) rs fs) (map pos (places_of parts o)) (counters ++ own) symbols)
      ((Decides-int_eq _ _).1 (more_value f (unit n i) counters own symbols (All-head L f fs l)
      ∙ added (value_of f counters symbols) (dot (unit n i) own) x (pos j) ((Decides-int_eq (value_of f counters symbols) x).0 k.0) (one_of_them n i front j o e s) ∙ sym (sum_number x j (at_least_number x r.0))))
      (subst (λ z. are_indices core forms (slice_indices n (suc i) rs fs) (map pos (places_of parts o)) (counters ++ map pos z) symbols ≡ true) (append_assoc front (j ∷ []) o)
      (slice_are n (suc i) rs parts fs (front ++ j ∷ []) o ds a (All-tail L f fs l) k.1 q.1 (let g = length-append front (j ∷ []) in omega (arith, g, e)) (let g = length-append front (j ∷ []) in omega (arith, g, s)) b.1))
    where
      added : (v z x k : ℤ) → v ≡ x → z ≡ k → v +ℤ z ≡ x +ℤ k
      added v z x k e f = omega (arith, ints, e, f)

      map_both : (xs ys : List ℕ) → map pos (xs ++ ys) ≡ map pos xs ++ map pos ys
      map_both [] ys = refl
      map_both (x ∷ xs) ys = ap (λ zs. pos x ∷ zs) (map_both xs ys)

      map_length : (xs : List ℕ) → length (map pos xs) ≡ length xs
      map_length [] = refl
      map_length (x ∷ xs) = ap suc (map_length xs)

      one_of_them : (n i : ℕ) (front : List ℕ) (j : ℕ) (o : List ℕ) → length front ≡ i → length front + suc (length o) ≡ n → dot (unit n i) (map pos (front ++ j ∷ o)) ≡ pos j
      one_of_them n i front j o e s = ap (dot (unit n i)) (map_both front (j ∷ o)) ∙ dot_unit n i (map pos front) (pos j) (map pos o) (map_length front ∙ e) (omega (arith, e, s))

  pub slice_indices_are : (rs : List Bool) (parts : List Part) (row : Option (List Affine)) (o : List ℕ) (ds : List ℕ) → AreParts rs parts → HaveLength (length counters) row → are_known_indices core forms row (map first_of parts) counters symbols ≡ true →
      are_parts_inside ds parts ≡ true → AreBelow (lengths parts) o → are_known_indices core forms (option_map (slice_indices (length o) 0 rs) row) (map pos (places_of parts o)) (counters ++ map pos o) symbols ≡ true
  slice_indices_are rs parts None o ds a l h p b = refl
  slice_indices_are rs parts (Some fs) o ds a l h p b = slice_are (length o) 0 rs parts fs [] o ds a l h p refl (omega arith) b

-- how many coefficients they have
slice_long : (size n i : ℕ) (rs : List Bool) (fs : List Affine) → All (λ f. length f.coefs ≡ size) fs → All (λ f. length f.coefs ≡ size + n) (slice_indices n i rs fs)
slice_long size n i [] fs h = All-nil (λ f. length f.coefs ≡ size + n)
slice_long size n i (true ∷ rs) [] h = All-nil (λ f. length f.coefs ≡ size + n)
slice_long size n i (false ∷ rs) [] h = All-nil (λ f. length f.coefs ≡ size + n)
slice_long size n i (true ∷ rs) (f ∷ fs) h =
    let L = λ (f : Affine). length f.coefs ≡ size in
    All-cons (λ f. length f.coefs ≡ size + n) (with_more (unit n i) f) (slice_indices n (suc i) rs fs) (let a = All-head L f fs h in let b = unit_length n i in length-append f.coefs (unit n i) ∙ omega (arith, a, b)) (slice_long size n (suc i) rs fs (All-tail L f fs h))
slice_long size n i (false ∷ rs) (f ∷ fs) h =
    let L = λ (f : Affine). length f.coefs ≡ size in
    All-cons (λ f. length f.coefs ≡ size + n) (with_more (replicate n (pos 0)) f) (slice_indices n i rs fs) (let a = All-head L f fs h in let b = replicate_length n (pos 0) in length-append f.coefs (replicate n (pos 0)) ∙ omega (arith, a, b)) (slice_long size n i rs fs (All-tail L f fs h))

pub slice_length : (size n : ℕ) (rs : List Bool) (row : Option (List Affine)) → HaveLength size row → HaveLength (size + n) (option_map (slice_indices n 0 rs) row)
slice_length size n rs None h = tt
slice_length size n rs (Some fs) h = slice_long size n 0 rs fs h
