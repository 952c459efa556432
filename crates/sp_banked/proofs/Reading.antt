-- The words that readers find.
use Rattle.std.proofs.Common.{◌≡◌, ℕ, suc, ◌+◌, ◌*◌, ◌/◌, ◌%◌, ◌<◌, ◌==◌, Bool, true, false, ◌&&◌, ◌⊎◌, inl, inr, if◌then◌else◌, List, [], ◌∷◌, ◌++◌, length, take, Contains, slice_index_or, All, refl, sym, ap, subst, ◌∙◌, arith, eq-eqb, eqb-true}
use Rattle.std.proofs.lemmas.Nat.{div-mul-add, mod-mul-add}
use Rattle.std.proofs.lemmas.List.{get_or_default, take_more, map-append, length-map, length-take-le, get_or-take, get_or-map}
use Rattle.std.proofs.Math.Nat.{div-add-mod}
use Rattle.sp_netlist.specs.Draft.{Draft}
use Rattle.sp_netlist.specs.Signals.{Signals, Holds}
use Rattle.sp_gates.specs.Grows.{Grows}
use Rattle.sp_gates.proofs.Growing.{HasNet-stays}
use Rattle.sp_gates.proofs.Words.{always}
use Rattle.sp_taps.specs.declared.store.Store.{Store}
use Rattle.sp_requests.specs.declared.part.Request.{Request}
use Rattle.sp_requests.proofs.Found.{and_first, and_second, and_all}
use Rattle.sp_banked.specs.Readers.{FoundFit, AreApart, words_of, IsFound, RunsReader}

-- what holds of each element of a list holds of the one at a place
pub at_item : {X : Type 0} (P : X → Type 0) (xs : List X) (k : ℕ) (x : X) → All P xs → k < length xs → x ≡ slice_index_or xs k x → P x
at_item P xs k x h l e = subst P (sym e) (h k x l)

pub founds_kept : (a b : Draft) (width : ℕ) (stores : List Store) → Grows a b → All (FoundFit a width) stores → All (FoundFit b width) stores
founds_kept a b width stores g h = λ k d l. HasNet-stays a b _ width g (h k d l)

-- a choice by two numbers
pub chosen_at : (on same_copy same_bank : Bool) (net a b m n copy bank found other : ℕ) → net ≡ (if on then found else other) → on ≡ (same_copy && same_bank) → same_copy ≡ (a == m) → same_bank ≡ (b == n) → m ≡ copy → n ≡ bank
    → net ≡ (if (a == copy) && (b == bank) then found else other)
chosen_at on same_copy same_bank net a b m n copy bank found other e f g h i j = e ∙ rw (f, g, h, i, j) refl

split_last : (k n : ℕ) → k < n + 1 → (k < n) ⊎ (k ≡ n)
split_last k n h = grind arith

taken : (test : Bool) (x y : ℕ) → test ≡ true → (if test then x else y) ≡ x
taken test x y e = rw e refl

passed : (test : Bool) (x y : ℕ) → (test ≡ true → ⊥) → (if test then x else y) ≡ y
passed true x y h = absurd (h refl)
passed false x y h = refl

line_again : (c b banks i : ℕ) → c ≡ i / banks → b ≡ i % banks → c * banks + b ≡ i
line_again c b banks i e f = let d = div-add-mod i banks in let p = ap (λ n. n * banks) e in omega (arith, d, p, f)

-- one more bank is looked at
pub found_more : (s : Signals) (t copy bank : ℕ) (stores : List Store) (from i banks old net found : ℕ) (store : Store) → from + i < length stores → store ≡ slice_index_or stores (from + i) store → found ≡ s.net t store.found
    → s.net t net ≡ (if (s.net t copy == i / banks) && (s.net t bank == i % banks) then found else s.net t old)
    → IsFound s t copy bank stores from i banks old → IsFound s t copy bank stores from (i + 1) banks net
found_more s t copy bank stores from i banks old net found store within is word choice before c b small below at_copy at_bank other = go (split_last _ _ below)
  where
    go : (c * banks + b < i) ⊎ (c * banks + b ≡ i) → s.net t net ≡ s.net t (slice_index_or stores (from + (c * banks + b)) other).found
    go (inl less) =
        choice
        ∙ passed _ found (s.net t old)
        (λ both.
        let first : c ≡ i / banks = sym at_copy ∙ eqb-true _ _ (and_first _ _ both) in
        let second : b ≡ i % banks = sym at_bank ∙ eqb-true _ _ (and_second (s.net t copy == i / banks) _ both) in
        let same = line_again c b banks i first second in
        absurd (omega (arith, same, less)))
        ∙ before c b small less at_copy at_bank other
    go (inr here) =
        let row : i / banks ≡ c = ap (λ n. n / banks) (sym here) ∙ div-mul-add c banks b small in
        let column : i % banks ≡ b = ap (λ n. n % banks) (sym here) ∙ mod-mul-add c banks b small in
        choice
        ∙ taken _ found (s.net t old) (and_all _ _ (eq-eqb _ _ (at_copy ∙ sym row)) (eq-eqb _ _ (at_bank ∙ sym column)))
        ∙ word
        ∙ ap (λ (st : Store). s.net t st.found) (is ∙ get_or_default stores (from + i) store other within)
        ∙ ap (λ n. s.net t (slice_index_or stores (from + n) other).found) (sym here)

-- a reader's word comes from registers of the numbers that it asked with
pub reader_runs : (s : Signals) (stores : List Store) (lines banks copy bank word one : ℕ) (r : Request) → ((t : ℕ) → s.net t one ≡ 1)
    → Holds (λ t. s.net t copy) 0 (λ t. s.net t one) (λ t. s.net t r.copy) → Holds (λ t. s.net t bank) 0 (λ t. s.net t one) (λ t. s.net t r.bank)
    → ((t : ℕ) → IsFound s t copy bank stores (r.duplicate * lines) lines banks word)
    → Holds (λ t. s.net t r.word) 0 (λ t. s.net t one) (λ t. s.net t word) → RunsReader s stores lines banks r
reader_runs s stores lines banks copy bank word one r on copies numbers found holds t c b small below at_copy at_bank other =
    always (λ t. s.net t r.word) (λ t. s.net t word) (λ t. s.net t one) 0 holds on (suc t)
    ∙ found (suc t) c b small below
    (always (λ t. s.net t copy) (λ t. s.net t r.copy) (λ t. s.net t one) 0 copies on t ∙ at_copy)
    (always (λ t. s.net t bank) (λ t. s.net t r.bank) (λ t. s.net t one) 0 numbers on t ∙ at_bank)
    other

-- no earlier reader has the net of a later one
pub not_before : (reads : List Request) (k : ℕ) (r : Request) → AreApart reads → k < length reads → r ≡ slice_index_or reads k r → Contains (words_of (take k reads)) r.word → ⊥
not_before reads k r h l e (i, below, same) =
    let n : i < k = (let a = length-map (take k reads) (λ x. x.word) in let b = length-take-le k reads (omega (arith, l)) in omega (arith, a, b, below)) in
    let inside : i < length (take k reads) = (let b = length-take-le k reads (omega (arith, l)) in omega (arith, b, n)) in
    h i k r n l (ap (λ x. x.word) (sym (get_or-take k reads i r n)) ∙ sym (get_or-map (λ x. x.word) (take k reads) i r r.word inside) ∙ same ∙ ap (λ x. x.word) e)

-- one more reader's net
pub words_more : (reads : List Request) (k : ℕ) (r : Request) → k < length reads → r ≡ slice_index_or reads k r → words_of (take k reads) ++ r.word ∷ [] ≡ words_of (take (k + 1) reads)
words_more reads k r l e = sym (ap words_of (take_more reads k r l ∙ ap (λ x. take k reads ++ x ∷ []) (sym e)) ∙ map-append (λ x. x.word) (take k reads) (r ∷ []))
