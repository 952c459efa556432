-- Rows that go round.
use Rattle.std.proofs.Common.{◌≡◌, ℕ, ◌+◌, ◌-◌, ◌*◌, ◌/◌, ◌%◌, ◌^◌, ◌<◌, ◌≤◌, ◌==◌, ◌⊎◌, inl, inr, Bool, true, false, nat_lt, if◌then◌else◌, refl, sym, ap, ◌∙◌, arith, lt-ltb, eq-eqb}
use Rattle.std.proofs.lemmas.Bool.{cases_lt}
use Rattle.std.proofs.lemmas.Nat.{div-mul-add, mod-mul-add, mul-add-lt}
use Rattle.sp_lines.specs.Turns.{row_after}
use Rattle.sp_lines.specs.Spots.{row_before}

within : (rows from by : ℕ) → from + by < rows → row_after rows from by ≡ from + by
within rows from by l = ap (λ (b : Bool). if b then from + by else from + by - rows) (lt-ltb (from + by) rows l)

past : (rows from by : ℕ) → rows ≤ from + by → row_after rows from by ≡ from + by - rows
past rows from by l = ap (λ (b : Bool). if b then from + by else from + by - rows) (not_below (nat_lt (from + by) rows) refl)
  where
    not_below : (b : Bool) → nat_lt (from + by) rows ≡ b → nat_lt (from + by) rows ≡ false
    not_below false e = e
    not_below true e = absurd (grind arith)

pub after_cases : (rows from by : ℕ) → ((from + by < rows) × (row_after rows from by ≡ from + by)) ⊎ ((rows ≤ from + by) × (row_after rows from by ≡ from + by - rows))
after_cases rows from by = go (cases_lt (from + by) rows)
  where
    go : (from + by < rows) ⊎ (rows ≤ from + by) → ((from + by < rows) × (row_after rows from by ≡ from + by)) ⊎ ((rows ≤ from + by) × (row_after rows from by ≡ from + by - rows))
    go (inl l) = inl (l, within rows from by l)
    go (inr l) = inr (l, past rows from by l)

pub after_below : (rows from by : ℕ) → from < rows → by ≤ rows → row_after rows from by < rows
after_below rows from by l m = go (after_cases rows from by)
  where
    go : ((from + by < rows) × (row_after rows from by ≡ from + by)) ⊎ ((rows ≤ from + by) × (row_after rows from by ≡ from + by - rows)) → row_after rows from by < rows
    go (inl h) = let a = h.0 in let b = h.1 in omega (arith, a, b)
    go (inr h) = let a = h.0 in let b = h.1 in omega (arith, a, b, l, m)

-- different rows are different from any first one on
pub after_same : (rows from a b : ℕ) → from < rows → a < rows → b < rows → row_after rows from a ≡ row_after rows from b → a ≡ b
after_same rows from a b l m n e = go (after_cases rows from a) (after_cases rows from b)
  where
    go : ((from + a < rows) × (row_after rows from a ≡ from + a)) ⊎ ((rows ≤ from + a) × (row_after rows from a ≡ from + a - rows))
        → ((from + b < rows) × (row_after rows from b ≡ from + b)) ⊎ ((rows ≤ from + b) × (row_after rows from b ≡ from + b - rows)) → a ≡ b
    go (inl h) (inl k) = let x = h.1 in let y = k.1 in omega (arith, x, y, e)
    go (inl h) (inr k) = let x = h.1 in let y = k.1 in let z = h.0 in let w = k.0 in omega (arith, x, y, z, w, e, l, n)
    go (inr h) (inl k) = let x = h.1 in let y = k.1 in let z = h.0 in let w = k.0 in omega (arith, x, y, z, w, e, l, m)
    go (inr h) (inr k) = let x = h.1 in let y = k.1 in let z = h.0 in let w = k.0 in omega (arith, x, y, z, w, e)

-- the number of a row tells its copy and its place there
pub same_copy : (rows a b p q : ℕ) → p < rows → q < rows → a * rows + p ≡ b * rows + q → a ≡ b
same_copy rows a b p q l m e = sym (div-mul-add a rows p l) ∙ ap (λ x. x / rows) e ∙ div-mul-add b rows q m

pub same_place : (rows a b p q : ℕ) → p < rows → q < rows → a * rows + p ≡ b * rows + q → p ≡ q
same_place rows a b p q l m e = sym (mod-mul-add a rows p l) ∙ ap (λ x. x % rows) e ∙ mod-mul-add b rows q m

-- how often a row went round
carried : (rows from by : ℕ) → (k : ℕ) × (k * rows + row_after rows from by ≡ from + by)
carried rows from by = go (after_cases rows from by)
  where
    go : ((from + by < rows) × (row_after rows from by ≡ from + by)) ⊎ ((rows ≤ from + by) × (row_after rows from by ≡ from + by - rows)) → (k : ℕ) × (k * rows + row_after rows from by ≡ from + by)
    go (inl h) = (0, let b = h.1 in omega (arith, b))
    go (inr h) = (1, let a = h.0 in let b = h.1 in omega (arith, a, b))

-- a row from the next one on is the next row from this one on
pub after_next : (rows from row : ℕ) → from < rows → row < rows → row_after rows (row_after rows from 1) row ≡ row_after rows from (row_after rows row 1)
after_next rows from row l m =
    let x = carried rows from 1 in
    let y = carried rows row 1 in
    let p = carried rows (row_after rows from 1) row in
    let q = carried rows from (row_after rows row 1) in
    let some : 1 ≤ rows = omega (arith, l) in
    let next = after_below rows from 1 l some in
    let other = after_below rows row 1 m some in
    let x1 = x.1 in
    let y1 = y.1 in
    let p1 = p.1 in
    let q1 = q.1 in
    same_place rows (x.0 + p.0) (y.0 + q.0) (row_after rows (row_after rows from 1) row) (row_after rows from (row_after rows row 1)) (after_below rows (row_after rows from 1) row next (omega (arith, m)))
    (after_below rows from (row_after rows row 1) l (omega (arith, other))) (omega (arith, x1, y1, p1, q1))

pub before_below : (turned : Bool) (rows row : ℕ) → row < rows → row_before turned rows row < rows
before_below false rows row l = l
before_below true rows row l = after_below rows row 1 l (omega (arith, l))

-- where a row stands after a cycle is where it stood before
pub before_is : (turned : Bool) (rows from later row : ℕ) → from < rows → row < rows → later ≡ (if turned then row_after rows from 1 else from) → row_after rows later row ≡ row_after rows from (row_before turned rows row)
before_is false rows from later row l m e = ap (λ x. row_after rows x row) e
before_is true rows from later row l m e = ap (λ x. row_after rows x row) e ∙ after_next rows from row l m

pub number_below : (rows copy place copies : ℕ) → copy < copies → place < rows → copy * rows + place < copies * rows
number_below rows copy place copies l m = let h = mul-add-lt copy rows place copies l m in omega (arith, h)

-- the gates of a row
pub row_is : (rows from by over below round net : ℕ) → rows < 2 ^ 31 → from < rows → by ≤ rows → over ≡ (from + by) % 2 ^ 32 → below ≡ (if nat_lt over rows then 1 else 0) → (rows ≤ over → round ≡ (over - rows) % 2 ^ 32)
    → net ≡ (if below == 1 then over else round) → net ≡ row_after rows from by
row_is rows from by over below round net small l m e f g h = go (after_cases rows from by)
  where
    exact : over ≡ from + by
    exact = omega (arith, e, l, m, small)

    bit : (b : Bool) → nat_lt over rows ≡ b → below ≡ (if b then 1 else 0)
    bit b k = f ∙ ap (λ (x : Bool). if x then 1 else 0) k

    not_below : rows ≤ over → (b : Bool) → nat_lt over rows ≡ b → nat_lt over rows ≡ false
    not_below l false e = e
    not_below l true e = absurd (grind arith)

    go : ((from + by < rows) × (row_after rows from by ≡ from + by)) ⊎ ((rows ≤ from + by) × (row_after rows from by ≡ from + by - rows)) → net ≡ row_after rows from by
    go (inl k) =
        let a = k.0 in
        let on = bit true (lt-ltb over rows (omega (arith, exact, a))) in
        h ∙ ap (λ (b : Bool). if b then over else round) (eq-eqb below 1 on) ∙ exact ∙ sym k.1
    go (inr k) =
        let a = k.0 in
        let high : rows ≤ over = omega (arith, exact, a) in
        let off : (below == 1) ≡ false = ap (λ n. n == 1) (bit false (not_below high (nat_lt over rows) refl)) in
        let r = g high in
        let s = k.1 in
        h ∙ ap (λ (b : Bool). if b then over else round) off ∙ omega (arith, r, s, exact, l, m, small)
