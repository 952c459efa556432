-- Cells at their places, and the nets that they drive and read.
use Rattle.std.proofs.Common.{◌≡◌, ℕ, zero, suc, ◌+◌, ◌<◌, ◌≤◌, ◌^◌, List, [], ◌∷◌, ◌++◌, Bool, true, false, cond, ◌==◌, length, get_or, take, drop, flat_map, count_by, Contains, refl, sym, ap, ◌∙◌, subst, arith, ⊎_elim, inl, inr, ◌⊎◌, drop-cons, take-append-drop, eq-eqb}
use Rattle.std.proofs.lemmas.Bool.{cases_eq, cases_Bool}
use Rattle.std.proofs.lemmas.List.{get_or_default, take_more, map-append, get_or-map, length-map}
use Rattle.std.proofs.lemmas.List.Elements.{All-contains, Contains-append_left, Contains-append_right, Contains-append_cases}
use Rattle.std.proofs.lemmas.List.Concat.{flat_map-append}
use Rattle.std.proofs.lemmas.List.Sums.{sum_by-cons}
use Rattle.sp_netlist.specs.declared.cell.Cell.{Cell}
use Rattle.sp_netlist.specs.Cells.{PlainCell, done_cell, plain_cell, plain_cells}
use Rattle.sp_netlist.specs.Rules.{drives, reads, driven_nets, read_nets, IsNetlist, IsRight}
use Rattle.sp_sim.specs.Rows.{word_of, with_word}
use Rattle.sp_sim.specs.Settling.{cell_at, IsRow}
use Rattle.sp_sim.proofs.RowLemmas.{word_of-put, word_of-put_other, nets_of-put}

-- the cell at a place stands between those before and after it
pub place_split : (cells : List PlainCell) (at : ℕ) → at < length cells → cells ≡ take at cells ++ cell_at cells at ∷ drop (suc at) cells
unfolding cell_at
place_split cells at l = sym (take-append-drop at cells) ∙ ap (λ r. take at cells ++ r) (drop-cons cells at (done_cell 0) l)

pub right_at : (cells : List PlainCell) → IsNetlist cells → (at : ℕ) → at < length cells → IsRight cells (take at cells) (cell_at cells at)
right_at cells h at l = h.right (take at cells) (cell_at cells at) (drop (suc at) cells) (place_split cells at l)

pub contains_flat : {Y : Type 0} (f : PlainCell → List Y) (cells : List PlainCell) (at : ℕ) (y : Y) → at < length cells → Contains (f (cell_at cells at)) y → Contains (flat_map f cells) y
contains_flat f cells at y l c =
    let x = cell_at cells at in
    let whole = Contains-append_right (flat_map f (take at cells)) (f x ++ flat_map f (drop (suc at) cells)) y (Contains-append_left (f x) (flat_map f (drop (suc at) cells)) y c) in
    subst (λ zs. Contains (flat_map f zs) y) (sym (place_split cells at l))
    (subst (λ ys. Contains ys y) (sym (flat_map-append f (take at cells) (x ∷ drop (suc at) cells))) whole)

pub flat_place : {X Y : Type 0} (f : X → List Y) (xs : List X) (d : X) (y : Y) → Contains (flat_map f xs) y → (at : ℕ) × (at < length xs) × Contains (f (get_or xs at d)) y
flat_place f [] d y c = let l = c.1 in absurd (omega arith)
flat_place f (x ∷ xs) d y c = ⊎_elim (λ h. (0, omega arith, h))
    (λ h. let rest = flat_place f xs d y h in (suc rest.0, let l = rest.1 in omega arith, rest.2)) (Contains-append_cases (f x) (flat_map f xs) y c)

-- a net that is driven has a driver
pub driver_place : (cells : List PlainCell) (net width : ℕ) → Contains (driven_nets cells) (net, width) → (at : ℕ) × (at < length cells) × Contains (drives cells (cell_at cells at)) (net, width)
unfolding cell_at
driver_place cells net width c = flat_place (drives cells) cells (done_cell 0) (net, width) c

pub drives_driven : (cells : List PlainCell) (at net width : ℕ) → at < length cells → Contains (drives cells (cell_at cells at)) (net, width) → Contains (driven_nets cells) (net, width)
drives_driven cells at net width l c = contains_flat (drives cells) cells at (net, width) l c

pub reads_driven : (cells : List PlainCell) → IsNetlist cells → (at net width : ℕ) → at < length cells → Contains (reads cells (cell_at cells at)) (net, width) → Contains (driven_nets cells) (net, width)
reads_driven cells h at net width l c = All-contains (Contains (driven_nets cells)) (read_nets cells) (net, width) h.read_driven (contains_flat (reads cells) cells at (net, width) l c)

pub count-cons : {X : Type 0} (p : X → Bool) (x : X) (xs : List X) → count_by p (x ∷ xs) ≡ cond (p x) 1 0 + count_by p xs
count-cons p x xs = sum_by-cons (λ y. cond (p y) 1 0) x xs

pub count_first : {X : Type 0} (p : X → Bool) (x : X) (xs : List X) → p x ≡ true → count_by p (x ∷ xs) ≡ 1 + count_by p xs
count_first p x xs e = count-cons p x xs ∙ ap (λ (b : Bool). cond b 1 0 + count_by p xs) e

pub count_skip : {X : Type 0} (p : X → Bool) (x : X) (xs : List X) → p x ≡ false → count_by p (x ∷ xs) ≡ count_by p xs
count_skip p x xs e = let h = count-cons p x xs ∙ ap (λ (b : Bool). cond b 1 0 + count_by p xs) e in omega (arith, h)

pub count_at : {X : Type 0} (p : X → Bool) (xs : List X) (i : ℕ) (d : X) → i < length xs → p (get_or xs i d) ≡ true → 1 ≤ count_by p xs
count_at p [] i d l e = absurd (omega arith)
count_at p (x ∷ xs) zero d l e = omega (arith, count_first p x xs e)
count_at p (x ∷ xs) (suc i) d l e = omega (arith, count-cons p x xs, count_at p xs i d (omega arith) e)

-- one element at most passes
pub one_place : {X : Type 0} (p : X → Bool) (xs : List X) (d : X) → count_by p xs ≤ 1 → (i j : ℕ) → i < length xs → j < length xs → p (get_or xs i d) ≡ true → p (get_or xs j d) ≡ true → i ≡ j
one_place p [] d one i j l m a b = absurd (omega arith)
one_place p (x ∷ xs) d one zero zero l m a b = refl
one_place p (x ∷ xs) d one zero (suc j) l m a b = absurd (omega (arith, count_first p x xs a, count_at p xs j d (omega arith) b))
one_place p (x ∷ xs) d one (suc i) zero l m a b = absurd (omega (arith, count_first p x xs b, count_at p xs i d (omega arith) a))
one_place p (x ∷ xs) d one (suc i) (suc j) l m a b = ap suc (one_place p xs d (omega (arith, count-cons p x xs)) i j (omega arith) (omega arith) a b)

-- a net has one width
pub one_width : (cells : List PlainCell) → IsNetlist cells → (net v w : ℕ) → Contains (driven_nets cells) (net, v) → Contains (driven_nets cells) (net, w) → v ≡ w
one_width cells h net v w a b =
    let nets = driven_nets cells in
    let here : get_or nets a.0 (net, v) ≡ (net, v) = a.2 in
    let there : get_or nets b.0 (net, v) ≡ (net, w) = get_or_default nets b.0 (net, v) (net, w) b.1 ∙ b.2 in
    let pass_a : (get_or nets a.0 (net, v)).0 == net ≡ true = ap (λ (p : ℕ × ℕ). p.0 == net) here ∙ eq-eqb net net refl in
    let pass_b : (get_or nets b.0 (net, v)).0 == net ≡ true = ap (λ (p : ℕ × ℕ). p.0 == net) there ∙ eq-eqb net net refl in
    let same = one_place (λ (p : ℕ × ℕ). p.0 == net) nets (net, v) (h.driven_once net) a.0 b.0 a.1 b.1 pass_a pass_b in
    ap (λ (p : ℕ × ℕ). p.1) (sym here ∙ ap (λ i. get_or nets i (net, v)) same ∙ there)

-- a row with another word of the net's width is a row
pub IsRow-put : (cells : List PlainCell) → IsNetlist cells → (row : List (ℕ × ℕ)) → IsRow cells row → (net width word : ℕ) → Contains (driven_nets cells) (net, width) → word < 2 ^ width → IsRow cells (with_word row net word)
IsRow-put cells h row r net width word c fits = record {
  covers = λ n w d. subst (λ ns. Contains ns n) (sym (nets_of-put row net word)) (r.covers n w d);
  only = λ n d. r.only n (subst (λ ns. Contains ns n) (nets_of-put row net word) d);
  fits = λ n w d. ⊎_elim
      (λ e.
      let same : width ≡ w = one_width cells h net width w c (subst (λ m. Contains (driven_nets cells) (m, w)) e d) in
      subst (λ m. word_of (with_word row net word) m < 2 ^ w) (sym e)
      (subst (λ v. v < 2 ^ w) (sym (word_of-put row net word (r.covers net width c))) (subst (λ v. word < 2 ^ v) same fits)))
      (λ e. subst (λ v. v < 2 ^ w) (sym (word_of-put_other row net word n e)) (r.fits n w d))
      (cases_eq n net);
}

-- declared cells as plain ones, along a list
pub plain_more : (cells : List Cell) (i : ℕ) (x : Cell) → i < length cells → x ≡ get_or cells i x → plain_cells (take (i + 1) cells) ≡ plain_cells (take i cells) ++ plain_cell x ∷ []
plain_more cells i x l e = ap plain_cells (take_more cells i x l) ∙ map-append plain_cell (take i cells) (get_or cells i x ∷ []) ∙ ap (λ y. plain_cells (take i cells) ++ plain_cell y ∷ []) (sym e)

pub plain_at : (cells : List Cell) (i : ℕ) (x : Cell) (d : PlainCell) → i < length cells → x ≡ get_or cells i x → get_or (plain_cells cells) i d ≡ plain_cell x
plain_at cells i x d l e = get_or-map plain_cell cells i x d l ∙ ap plain_cell (sym e)

pub length_plain : (cells : List Cell) → length (plain_cells cells) ≡ length cells
length_plain cells = length-map cells plain_cell

-- the place of the n-th element that passes
pub nth_place : {X : Type 0} (p : X → Bool) (xs : List X) (d : X) (n : ℕ) → n < count_by p xs → (at : ℕ) × (at < length xs) × (p (get_or xs at d) ≡ true) × (count_by p (take at xs) ≡ n)
nth_place p [] d n l = absurd (omega arith)
nth_place p (x ∷ xs) d n l = go (nth_place p xs d) n l (cases_Bool (p x))
  where
    go : ((k : ℕ) → k < count_by p xs → (at : ℕ) × (at < length xs) × (p (get_or xs at d) ≡ true) × (count_by p (take at xs) ≡ k))
        → (k : ℕ) → k < count_by p (x ∷ xs) → (p x ≡ true) ⊎ (p x ≡ false) → (at : ℕ) × (at < length (x ∷ xs)) × (p (get_or (x ∷ xs) at d) ≡ true) × (count_by p (take at (x ∷ xs)) ≡ k)
    go rest zero m (inl e) = (0, omega arith, e, refl)
    go rest (suc k) m (inl e) =
        let r = rest k (omega (arith, count_first p x xs e)) in
        (suc r.0, let b = r.1 in omega arith, r.2, count_first p x (take r.0 xs) e ∙ omega (arith, r.3))
    go rest k m (inr e) =
        let r = rest k (omega (arith, count_skip p x xs e)) in
        (suc r.0, let b = r.1 in omega arith, r.2, count_skip p x (take r.0 xs) e ∙ r.3)
