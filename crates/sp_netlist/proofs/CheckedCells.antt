-- A list of cells is a netlist where tests that compute say so.
use Rattle.std.proofs.Common.{◌≡◌, ℕ, ◌<◌, ◌≤◌, ◌^◌, List, [], ◌∷◌, ◌++◌, Bool, true, false, cond, not, ◌==◌, ◌&&◌, nat_lt, refl, sym, ap, ◌∙◌, append_assoc, append-nil, Contains, count_by, arith, subst, inl, inr, ◌⊎◌, eqb-true, ltb-true}
use Rattle.std.specs.List.{list_any, list_all}
use Rattle.std.proofs.lemmas.Bool.{false≢true, cases_Bool, and_parts, or_parts, or_cases, not-true}
use Rattle.std.proofs.lemmas.List.Elements.{All-contains, All-weaker}
use Rattle.std.proofs.lemmas.List.Sums.{AllPass-from_list_all}
use Rattle.sp_netlist.specs.Cells.{PlainCell}
use Rattle.sp_netlist.specs.Rules.{is_done, drives, reads, driven_nets, read_nets, is_computed, IsNetlist, IsRanked, IsRight}
use Rattle.sp_netlist.proofs.Splits.{count-cons_yes, count-cons_no, contains_tail, source, Source}

-- each cell is right after those before it
abbrev pub AllRight : List PlainCell → List PlainCell → List PlainCell → Type 0
AllRight cells before [] = Unit {0}
AllRight cells before (x ∷ xs) = IsRight cells before x × AllRight cells (before ++ x ∷ []) xs

all_right : (cells front rest : List PlainCell) → AllRight cells front rest → (b : List PlainCell) (x : PlainCell) (a : List PlainCell) → rest ≡ b ++ x ∷ a → IsRight cells (front ++ b) x
all_right cells front [] r [] x a e = absurd (cc)
all_right cells front [] r (y ∷ b) x a e = absurd (cc)
all_right cells front (z ∷ rest) r [] x a e =
    let ez : z ≡ x = cc in
    subst (IsRight cells (front ++ [])) ez (subst (λ zs. IsRight cells zs z) (sym (append-nil front)) r.0)
all_right cells front (z ∷ rest) r (y ∷ b) x a e =
    let ez : z ≡ y = cc in
    let er : rest ≡ b ++ x ∷ a = cc in
    subst (λ zs. IsRight cells zs x) (append_assoc front (z ∷ []) b ∙ ap (λ w. front ++ w ∷ b) ez) (all_right cells (front ++ z ∷ []) rest r.1 b x a er)

-- pairs with different firsts
abbrev pub distinct : List (ℕ × ℕ) → Bool
distinct [] = true
distinct (p ∷ ps) = not (list_any (λ q. q.0 == p.0) ps) && distinct ps

none_of_any : {X : Type 0} (p : X → Bool) (xs : List X) → list_any p xs ≡ false → count_by p xs ≡ 0
none_of_any p [] e = refl
none_of_any p (x ∷ xs) e = let parts = or_parts (p x) (list_any p xs) e in count-cons_no p x xs parts.0 ∙ none_of_any p xs parts.1

once : (ps : List (ℕ × ℕ)) → distinct ps ≡ true → (net : ℕ) → count_by (λ p. p.0 == net) ps ≤ 1
once [] e net = omega arith
once (p ∷ ps) e net = go (and_parts (not (list_any (λ (q : ℕ × ℕ). q.0 == p.0) ps)) (distinct ps) e) (once ps) (cases_Bool (p.0 == net))
  where
    test : ℕ × ℕ → Bool
    test q = q.0 == net

    go : (not (list_any (λ q. q.0 == p.0) ps) ≡ true) × (distinct ps ≡ true) → (distinct ps ≡ true → (n : ℕ) → count_by (λ q. q.0 == n) ps ≤ 1) → ((p.0 == net) ≡ true) ⊎ ((p.0 == net) ≡ false) → count_by (λ q. q.0 == net) (p ∷ ps) ≤ 1
    go parts rest (inr k) = omega (arith, count-cons_no (λ (q : ℕ × ℕ). q.0 == net) p ps k, rest parts.1 net)
    go parts rest (inl k) =
        let none = none_of_any (λ (q : ℕ × ℕ). q.0 == p.0) ps (not-true (list_any (λ (q : ℕ × ℕ). q.0 == p.0) ps) parts.0) in
        let none' = subst (λ n. count_by (λ (q : ℕ × ℕ). q.0 == n) ps ≡ 0) (eqb-true p.0 net k) none in
        omega (arith, count-cons_yes (λ (q : ℕ × ℕ). q.0 == net) p ps k, none')

-- a pair stands in a list
abbrev pub stands_in : List (ℕ × ℕ) → ℕ × ℕ → Bool
stands_in ps r = list_any (λ p. (p.0 == r.0) && (p.1 == r.1)) ps

stands : (ps : List (ℕ × ℕ)) (r : ℕ × ℕ) → stands_in ps r ≡ true → Contains ps r
stands [] r e = absurd (false≢true e)
stands (p ∷ ps) r e = go (λ k. stands ps r k) (or_cases ((p.0 == r.0) && (p.1 == r.1)) (stands_in ps r) e)
  where
    go : (stands_in ps r ≡ true → Contains ps r) → (((p.0 == r.0) && (p.1 == r.1)) ≡ true) ⊎ (stands_in ps r ≡ true) → Contains (p ∷ ps) r
    go rest (inr k) = contains_tail p r ps (rest k)
    go rest (inl k) =
        let parts = and_parts (p.0 == r.0) (p.1 == r.1) k in
        let e0 = eqb-true p.0 r.0 parts.0 in
        let e1 = eqb-true p.1 r.1 parts.1 in
        let same : p ≡ r = λ i. (e0 i, e1 i) in
        (0, omega arith, same)

-- the operands of a computed cell have ranks below its net's
abbrev pub rises : (ℕ → ℕ) → List PlainCell → PlainCell → Bool
rises rank cells x = cond (is_computed x) (list_all (λ a. list_all (λ n. nat_lt (rank a.0) (rank n.0)) (drives cells x)) (reads cells x)) true

ranked : (rank : ℕ → ℕ) (cells : List PlainCell) → list_all (rises rank cells) cells ≡ true → IsRanked cells
ranked rank cells e = (
  rank,
  λ a net f.
      let here = All-contains (λ x. rises rank cells x ≡ true) cells f.0 (AllPass-from_list_all (rises rank cells) cells e) f.1 in
      let test = ap (λ b. cond b (list_all (λ (p : ℕ × ℕ). list_all (λ (n : ℕ × ℕ). nat_lt (rank p.0) (rank n.0)) (drives cells f.0)) (reads cells f.0)) true) (sym f.2) ∙ here in
      go a net f.0 test (source (λ (p : ℕ × ℕ). p.0) (reads cells f.0) a f.3.0 f.3.1 f.3.2) (source (λ (p : ℕ × ℕ). p.0) (drives cells f.0) net f.4.0 f.4.1 f.4.2),
)
  where
    go : (a net : ℕ) (x : PlainCell) → list_all (λ p. list_all (λ n. nat_lt (rank p.0) (rank n.0)) (drives cells x)) (reads cells x) ≡ true
        → Source (λ (p : ℕ × ℕ). p.0) (reads cells x) a → Source (λ (p : ℕ × ℕ). p.0) (drives cells x) net → rank a < rank net
    go a net x t p q =
        let of_p = All-contains (λ (p : ℕ × ℕ). list_all (λ (n : ℕ × ℕ). nat_lt (rank p.0) (rank n.0)) (drives cells x) ≡ true) (reads cells x) p.item
        (AllPass-from_list_all (λ (p : ℕ × ℕ). list_all (λ (n : ℕ × ℕ). nat_lt (rank p.0) (rank n.0)) (drives cells x)) (reads cells x) t) p.stands in
        let of_q = All-contains (λ (n : ℕ × ℕ). nat_lt (rank p.item.0) (rank n.0) ≡ true) (drives cells x) q.item
        (AllPass-from_list_all (λ (n : ℕ × ℕ). nat_lt (rank p.item.0) (rank n.0)) (drives cells x) of_p) q.stands in
        let l = ltb-true (rank p.item.0) (rank q.item.0) of_q in
        let ea = ap rank p.gives in
        let en = ap rank q.gives in
        omega arith

-- what is tested of the nets
pub record Tested (rank : ℕ → ℕ) (cells : List PlainCell) : Type 0 where
  pub right : AllRight cells [] cells
  pub one_done : count_by is_done cells ≡ 1
  pub numbers : list_all (λ p. nat_lt p.0 (2 ^ 64)) (driven_nets cells) ≡ true
  pub driven_once : distinct (driven_nets cells) ≡ true
  pub read_driven : list_all (stands_in (driven_nets cells)) (read_nets cells) ≡ true
  pub ranked : list_all (rises rank cells) cells ≡ true

pub netlist : (rank : ℕ → ℕ) (cells : List PlainCell) → Tested rank cells → IsNetlist cells
netlist rank cells t = record {
  right = λ b x a e. all_right cells [] cells t.right b x a e;
  one_done = t.one_done;
  numbers = All-weaker (λ (p : ℕ × ℕ). nat_lt p.0 (2 ^ 64) ≡ true) (λ (p : ℕ × ℕ). p.0 < 2 ^ 64) (λ p e. ltb-true p.0 (2 ^ 64) e) (driven_nets cells) (AllPass-from_list_all (λ (p : ℕ × ℕ). nat_lt p.0 (2 ^ 64)) (driven_nets cells) t.numbers);
  driven_once = once (driven_nets cells) t.driven_once;
  read_driven = All-weaker (λ (r : ℕ × ℕ). stands_in (driven_nets cells) r ≡ true) (Contains (driven_nets cells)) (stands (driven_nets cells)) (read_nets cells) (AllPass-from_list_all (stands_in (driven_nets cells)) (read_nets cells) t.read_driven);
  ranked = ranked rank cells t.ranked;
}
