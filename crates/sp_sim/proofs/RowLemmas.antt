-- The word of a net, by its place.
use Rattle.std.proofs.Common.{◌≡◌, ◌≢◌, ℕ, zero, suc, ◌<◌, ◌≤◌, List, [], ◌∷◌, ◌==◌, map, length, get_or, set, replicate, slice_get, Some, Ok, Err, refl, sym, ap, ◌∙◌, arith, subst, ⊎_elim, eq-eqb, ne_eqb, eqb-true, if◌then◌else◌, add-one, false, Contains, ◌⊎◌, inl, inr}
use Rattle.std.specs.List.{zip}
use Rattle.std.specs.List.Sorted.{IsStrictlyIncreasing, IsBinarySearchResult}
use Rattle.std.specs.Ordering.{nat_cmp}
use Rattle.std.proofs.lemmas.Bool.{cond-true, cond-false, cases_eq, cases_lt, cases_Bool, false≢true}
use Rattle.std.proofs.lemmas.List.Sorted.{searched}
use Rattle.sp_sim.specs.Rows.{word_of, with_word, nets_of, IsDense, IsPlaceOf}

pub read_at : (xs : List ℕ) (i x : ℕ) → slice_get xs i ≡ Some x → get_or xs i 0 ≡ x
read_at [] i x e = absurd (cc)
read_at (y ∷ ys) zero x e = cc
read_at (y ∷ ys) (suc i) x e = read_at ys i x e

pub increasing_far : (ns : List ℕ) → IsStrictlyIncreasing ns → (i j : ℕ) → i < j → j < length ns → get_or ns i 0 < get_or ns j 0
increasing_far ns up i zero l b = absurd (omega arith)
increasing_far ns up i (suc j) l b =
    let step : get_or ns j 0 < get_or ns (suc j) 0 = subst (λ k. get_or ns j 0 < get_or ns k 0) (add-one j) (up j (omega arith)) in
    ⊎_elim (λ k. let far = increasing_far ns up i j k (omega arith) in omega arith)
    (λ k. let e : i ≡ j = omega arith in subst (λ n. get_or ns n 0 < get_or ns (suc j) 0) (sym e) step) (cases_lt i j)

pub increasing_up : (ns : List ℕ) → IsStrictlyIncreasing ns → (i j : ℕ) → i ≤ j → j < length ns → get_or ns i 0 ≤ get_or ns j 0
increasing_up ns up i j l b = ⊎_elim (λ k. let far = increasing_far ns up i j k b in omega arith)
    (λ k. let e : i ≡ j = omega arith in subst (λ n. get_or ns n 0 ≤ get_or ns j 0) (sym e) (omega arith)) (cases_lt i j)

word_of-place : (ns ws : List ℕ) (i net : ℕ) → i < length ns → length ws ≡ length ns → get_or ns i 0 ≡ net → ((k : ℕ) → k < i → get_or ns k 0 ≢ net) → word_of (zip ns ws) net ≡ get_or ws i 0
unfolding word_of
word_of-place [] ws i net l e here below = absurd (omega arith)
word_of-place (n ∷ ns) [] i net l e here below = absurd (omega arith)
word_of-place (n ∷ ns) (w ∷ ws) zero net l e here below = cond-true (n == net) w (word_of (zip ns ws) net) (eq-eqb n net here)
word_of-place (n ∷ ns) (w ∷ ws) (suc i) net l e here below =
    cond-false (n == net) w (word_of (zip ns ws) net) (ne_eqb n net (below 0 (omega arith)))
    ∙ word_of-place ns ws i net (omega arith) (omega arith) here (λ k h. below (suc k) (omega arith))

word_of-absent : (ns ws : List ℕ) (net : ℕ) → ((k : ℕ) → k < length ns → get_or ns k 0 ≢ net) → word_of (zip ns ws) net ≡ 0
unfolding word_of
word_of-absent [] ws net none = refl
word_of-absent (n ∷ ns) [] net none = refl
word_of-absent (n ∷ ns) (w ∷ ws) net none =
    cond-false (n == net) w (word_of (zip ns ws) net) (ne_eqb n net (none 0 (omega arith))) ∙ word_of-absent ns ws net (λ k h. none (suc k) (omega arith))

with_word-place : (ns ws : List ℕ) (i net v : ℕ) → i < length ns → length ws ≡ length ns → get_or ns i 0 ≡ net → ((k : ℕ) → k < i → get_or ns k 0 ≢ net) → with_word (zip ns ws) net v ≡ zip ns (set ws i v)
unfolding with_word
with_word-place [] ws i net v l e here below = absurd (omega arith)
with_word-place (n ∷ ns) [] i net v l e here below = absurd (omega arith)
with_word-place (n ∷ ns) (w ∷ ws) zero net v l e here below =
    cond-true (n == net) ((net, v) ∷ zip ns ws) ((n, w) ∷ with_word (zip ns ws) net v) (eq-eqb n net here) ∙ ap (λ m. (m, v) ∷ zip ns ws) (sym here)
with_word-place (n ∷ ns) (w ∷ ws) (suc i) net v l e here below =
    cond-false (n == net) ((net, v) ∷ zip ns ws) ((n, w) ∷ with_word (zip ns ws) net v) (ne_eqb n net (below 0 (omega arith)))
    ∙ ap (λ ps. (n, w) ∷ ps) (with_word-place ns ws i net v (omega arith) (omega arith) here (λ k h. below (suc k) (omega arith)))

with_word-absent : (ns ws : List ℕ) (net v : ℕ) → ((k : ℕ) → k < length ns → get_or ns k 0 ≢ net) → with_word (zip ns ws) net v ≡ zip ns ws
unfolding with_word
with_word-absent [] ws net v none = refl
with_word-absent (n ∷ ns) [] net v none = refl
with_word-absent (n ∷ ns) (w ∷ ws) net v none =
    cond-false (n == net) ((net, v) ∷ zip ns ws) ((n, w) ∷ with_word (zip ns ws) net v) (ne_eqb n net (none 0 (omega arith)))
    ∙ ap (λ ps. (n, w) ∷ ps) (with_word-absent ns ws net v (λ k h. none (suc k) (omega arith)))

-- the place of a net that a search found
pub place_found : (ns : List ℕ) (net i : ℕ) → IsStrictlyIncreasing ns → IsBinarySearchResult (λ y. nat_cmp y net) ns (Ok i) → IsPlaceOf ns net i
place_found ns net i up h =
    let at = searched ns net (Ok i) h (increasing_up ns up) in
    record { found = λ l. at.1; missing = λ past. let within = at.0 in absurd (omega (arith, past, within)) }

pub place_missing : (ns : List ℕ) (net i : ℕ) → IsStrictlyIncreasing ns → IsBinarySearchResult (λ y. nat_cmp y net) ns (Err i) → IsPlaceOf ns net (length ns)
place_missing ns net i up h =
    let at = searched ns net (Err i) h (increasing_up ns up) in
    record {
      found = λ l. absurd (omega (arith, l));
      missing = λ past k l e. ⊎_elim (λ b. let low = at.1 k b in omega (arith, low, e)) (λ b. let high = at.2 k b l in omega (arith, high, e)) (cases_lt k i);
    }

pub place_dense : (ns : List ℕ) (net : ℕ) → IsDense ns → IsPlaceOf ns net net
place_dense ns net own = record { found = λ l. own net l; missing = λ past k l e. let same = own k l in omega (arith, past, l, e, same) }

-- the word at the place of a net
module _ (ns ws : List ℕ) (net place : ℕ) (up : IsStrictlyIncreasing ns) (long : length ws ≡ length ns) (p : IsPlaceOf ns net place) where
  below : place < length ns → (k : ℕ) → k < place → get_or ns k 0 ≢ net
  below l k b e = let far = increasing_far ns up k place b l in let here = p.found l in omega (arith, far, here, e)

  pub place_word : place < length ws → word_of (zip ns ws) net ≡ get_or ws place 0
  place_word l = let m : place < length ns = omega arith in word_of-place ns ws place net m long (p.found m) (below m)

  pub place_put : (v : ℕ) → place < length ws → with_word (zip ns ws) net v ≡ zip ns (set ws place v)
  place_put v l = let m : place < length ns = omega arith in with_word-place ns ws place net v m long (p.found m) (below m)

  pub no_place_word : length ws ≤ place → word_of (zip ns ws) net ≡ 0
  no_place_word l = word_of-absent ns ws net (p.missing (omega arith))

  pub no_place_put : (v : ℕ) → length ws ≤ place → with_word (zip ns ws) net v ≡ zip ns ws
  no_place_put v l = with_word-absent ns ws net v (p.missing (omega arith))

abbrev zeros : ℕ → List ℕ
zeros n = replicate n 0

pub zip_zeros : (ns : List ℕ) → zip ns (zeros (length ns)) ≡ map (λ (n : ℕ). (n, 0)) ns
zip_zeros [] = refl
zip_zeros (n ∷ ns) = ap (λ ps. (n, 0) ∷ ps) (zip_zeros ns)

-- the word of a net after one was put
pub word_of-put_other : (row : List (ℕ × ℕ)) (net v other : ℕ) → other ≢ net → word_of (with_word row net v) other ≡ word_of row other
unfolding word_of with_word
word_of-put_other [] net v other d = refl
word_of-put_other (p ∷ ps) net v other d = ⊎_elim
    (λ e.
    let row : with_word (p ∷ ps) net v ≡ (net, v) ∷ ps = cond-true (p.0 == net) ((net, v) ∷ ps) (p ∷ with_word ps net v) e in
    ap (λ r. word_of r other) row
    ∙ cond-false (net == other) v (word_of ps other) (ne_eqb net other (λ k. d (sym k)))
    ∙ sym (cond-false (p.0 == other) p.1 (word_of ps other) (ne_eqb p.0 other (λ k. d (sym k ∙ eqb-true p.0 net e)))))
    (λ e.
    let row : with_word (p ∷ ps) net v ≡ p ∷ with_word ps net v = cond-false (p.0 == net) ((net, v) ∷ ps) (p ∷ with_word ps net v) e in
    ap (λ r. word_of r other) row
    ∙ ap (λ w. if p.0 == other then p.1 else w) (word_of-put_other ps net v other d))
    (cases_Bool (p.0 == net))

pub word_of-put : (row : List (ℕ × ℕ)) (net v : ℕ) → Contains (nets_of row) net → word_of (with_word row net v) net ≡ v
unfolding word_of with_word
word_of-put [] net v (k, l, e) = absurd (omega (arith, l))
word_of-put (p ∷ ps) net v (k, l, e) = ⊎_elim
    (λ t.
    let row : with_word (p ∷ ps) net v ≡ (net, v) ∷ ps = cond-true (p.0 == net) ((net, v) ∷ ps) (p ∷ with_word ps net v) t in
    ap (λ r. word_of r net) row ∙ cond-true (net == net) v (word_of ps net) (eq-eqb net net refl))
    (λ t.
    let row : with_word (p ∷ ps) net v ≡ p ∷ with_word ps net v = cond-false (p.0 == net) ((net, v) ∷ ps) (p ∷ with_word ps net v) t in
    ap (λ r. word_of r net) row ∙ cond-false (p.0 == net) p.1 (word_of (with_word ps net v) net) t ∙ word_of-put ps net v (later k l e t))
    (cases_Bool (p.0 == net))
  where
    later : (k : ℕ) → k < length (nets_of (p ∷ ps)) → get_or (nets_of (p ∷ ps)) k net ≡ net → (p.0 == net) ≡ false → Contains (nets_of ps) net
    later zero l e t = absurd (false≢true (sym t ∙ eq-eqb p.0 net e))
    later (suc k) l e t = (k, omega (arith, l), e)

pub nets_of-put : (row : List (ℕ × ℕ)) (net v : ℕ) → nets_of (with_word row net v) ≡ nets_of row
unfolding with_word
nets_of-put [] net v = refl
nets_of-put (p ∷ ps) net v = ⊎_elim
    (λ t. ap nets_of (cond-true (p.0 == net) ((net, v) ∷ ps) (p ∷ with_word ps net v) t) ∙ ap (λ n. n ∷ nets_of ps) (sym (eqb-true p.0 net t)))
    (λ t. ap nets_of (cond-false (p.0 == net) ((net, v) ∷ ps) (p ∷ with_word ps net v) t) ∙ ap (λ ns. p.0 ∷ ns) (nets_of-put ps net v))
    (cases_Bool (p.0 == net))

-- a net that doesn't stand in a row has the word 0
pub word_of-none : (row : List (ℕ × ℕ)) (net : ℕ) → (Contains (nets_of row) net → ⊥) → word_of row net ≡ 0
unfolding word_of
word_of-none [] net d = refl
word_of-none (p ∷ ps) net d =
    cond-false (p.0 == net) p.1 (word_of ps net) (ne_eqb p.0 net (λ e. d (0, omega arith, e)))
    ∙ word_of-none ps net (λ c. d (suc c.0, let l = c.1 in omega (arith, l), c.2))

-- whether a number stands in a list
pub stands : (ns : List ℕ) (n : ℕ) → Contains ns n ⊎ (Contains ns n → ⊥)
stands [] n = inr (λ c. let l = c.1 in omega arith)
stands (m ∷ ns) n = ⊎_elim
    (λ e. inl (0, omega arith, e))
    (λ d. ⊎_elim (λ c. inl (suc c.0, let l = c.1 in omega arith, c.2)) (λ none. inr (λ c. later d none c.0 c.1 c.2)) (stands ns n))
    (cases_eq m n)
  where
    later : (m ≡ n → ⊥) → (Contains ns n → ⊥) → (k : ℕ) → k < length (m ∷ ns) → get_or (m ∷ ns) k n ≡ n → ⊥
    later d none zero l e = d e
    later d none (suc k) l e = none (k, omega arith, e)

with_word-none : (row : List (ℕ × ℕ)) (net v : ℕ) → (Contains (nets_of row) net → ⊥) → with_word row net v ≡ row
unfolding with_word
with_word-none [] net v d = refl
with_word-none (p ∷ ps) net v d =
    cond-false (p.0 == net) ((net, v) ∷ ps) (p ∷ with_word ps net v) (ne_eqb p.0 net (λ e. d (0, omega arith, e)))
    ∙ ap (λ qs. p ∷ qs) (with_word-none ps net v (λ c. d (suc c.0, let l = c.1 in omega arith, c.2)))

-- right words stay right where a right word is put
pub put_right : (f : ℕ → ℕ) (row : List (ℕ × ℕ)) (net v n : ℕ) → f net ≡ v → word_of row n ≡ f n → word_of (with_word row net v) n ≡ f n
put_right f row net v n e r = ⊎_elim
    (λ same. ⊎_elim
    (λ c. ap (word_of (with_word row net v)) same ∙ word_of-put row net v c ∙ sym e ∙ ap f (sym same))
    (λ d. ap (λ ps. word_of ps n) (with_word-none row net v d) ∙ r)
    (stands (nets_of row) net))
    (λ d. word_of-put_other row net v n d ∙ r) (cases_eq n net)

-- the nets of a row are those that it was made of
pub nets_of-zip : (ns ws : List ℕ) → length ws ≡ length ns → nets_of (zip ns ws) ≡ ns
nets_of-zip [] ws e = refl
nets_of-zip (n ∷ ns) [] e = absurd (omega (arith, e))
nets_of-zip (n ∷ ns) (w ∷ ws) e = ap (λ ms. n ∷ ms) (nets_of-zip ns ws (omega (arith, e)))
