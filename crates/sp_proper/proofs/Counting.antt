-- How many stages pass a test, in a program and in its core, and which is the first one.
use Rattle.std.proofs.Common.{◌≡◌, ℕ, suc, ◌+◌, ◌<◌, ◌≤◌, Bool, true, false, ◌||◌, not, cond, List, [], ◌∷◌, map, length, Option, None, Some, refl, sym, ◌∙◌, ap, arith, true≢false, if◌then◌else◌}
use Rattle.std.specs.List.{list_any, position_or_len}
use Rattle.std.specs.Prelude.{filter, count_by, position}
use Rattle.std.proofs.lemmas.Bool.{lt-ltb, false_from_ne_true}
use Rattle.std.proofs.lemmas.List.Sums.{sum_by-cons}
use Rattle.sp_tree.specs.Streams.{StreamStage}
use Rattle.sp_core.specs.PlainCore.{PlainNode}
use Rattle.sp_stream.specs.Proper.{place_from}
use Rattle.sp_stream.proofs.Ways.{or_elim, or_first, or_second}
use Rattle.sp_sugar.proofs.NumberLemmas.{either}

-- a stage of a block in the program: its tallies, the memories that it declares, and the numbers of the registers beside it
pub record Stage : Type 0 where
  pub of : StreamStage
  pub own : List ℕ
  pub from : ℕ
  pub until : ℕ

abbrev pub tallies_of : List Stage → List StreamStage
tallies_of ds = map (λ (d : Stage). d.of) ds

abbrev pub total : (Stage → ℕ) → List Stage → ℕ
total w [] = 0
total w (d ∷ ds) = w d + total w ds

abbrev pub one_where : (StreamStage → Bool) → Stage → ℕ
one_where test d = cond (test d.of) 1 0

pub total_count : (test : StreamStage → Bool) (ds : List Stage) → count_by test (tallies_of ds) ≡ total (one_where test) ds
total_count test [] = refl
total_count test (d ∷ ds) = sum_by-cons (λ x. cond (test x) 1 0) d.of (tallies_of ds) ∙ ap (λ n. cond (test d.of) 1 0 + n) (total_count test ds)

pub one_there : (test : StreamStage → Bool) (d : Stage) → test d.of ≡ true → 1 ≤ one_where test d
one_there test d e = let f : one_where test d ≡ 1 = ap (λ b. cond b 1 0) e in omega (arith, f)

pub none_there : (test : StreamStage → Bool) (ds : List Stage) → list_any test (tallies_of ds) ≡ false → total (one_where test) ds ≡ 0
none_there test [] e = refl
none_there test (d ∷ ds) e = either (test d.of)
    (λ g. absurd (true≢false (sym (or_first (test d.of) (list_any test (tallies_of ds)) g) ∙ e)))
    (λ g. let k : one_where test d ≡ 0 = ap (λ b. cond b 1 0) g in
    let rest = none_there test ds (sym (ap (λ b. b || list_any test (tallies_of ds)) g) ∙ e) in omega (arith, k, rest))

-- the first one that passes a test, by a running number
abbrev pub place_in : {X : Type 0} → ℕ → (X → Bool) → List X → Option ℕ
place_in n test [] = None
place_in n test (x ∷ xs) = if test x then Some n else place_in (n + 1) test xs

inside : (a b : ℕ) → Some a ≡ Some b → a ≡ b
inside a b e = ap (λ o. elim o [ Some z ↦ z | None ↦ a ]) e

found_is : {X : Type 0} (test : X → Bool) (xs : List X) (n a : ℕ) → place_in n test xs ≡ Some a → (position_or_len test xs < length xs) × (a ≡ n + position_or_len test xs)
found_is test [] n a e = absurd (true≢false (ap (λ o. elim o [ Some z ↦ true | None ↦ false ]) (sym e)))
found_is test (x ∷ xs) n a e = either (test x)
    (λ g. let k : position_or_len test (x ∷ xs) ≡ 0 = ap (λ b. cond (not b) (1 + position_or_len test xs) 0) g in
    let s : n ≡ a = inside n a (sym (ap (λ b. if b then Some n else place_in (n + 1) test xs) g) ∙ e) in
    (omega (arith, k), omega (arith, k, s)))
    (λ g. let k : position_or_len test (x ∷ xs) ≡ 1 + position_or_len test xs = ap (λ b. cond (not b) (1 + position_or_len test xs) 0) g in
    let is = found_is test xs (n + 1) a (sym (ap (λ b. if b then Some n else place_in (n + 1) test xs) g) ∙ e) in
    let lt = is.0 in let same = is.1 in
    (omega (arith, k, lt), omega (arith, k, same)))

pub position_is : {X : Type 0} (test : X → Bool) (xs : List X) (a : ℕ) → place_in 0 test xs ≡ Some a → position test xs ≡ Some a
position_is test xs a e =
    let is = found_is test xs 0 a e in
    let same = is.1 in
    let back : position_or_len test xs ≡ a = omega (arith, same) in
    ap (λ b. cond b (Some (position_or_len test xs)) None) (lt-ltb (position_or_len test xs) (length xs) is.0) ∙ ap Some back

module _ (Fit : Stage → PlainNode → Type 0) where
  -- each node does what its stage says
  abbrev pub Fits : List Stage → List PlainNode → Type 0
  Fits [] [] = Unit {0}
  Fits (d ∷ ds) (x ∷ xs) = Fit d x × Fits ds xs
  Fits _ _ = ⊥

  module _ (test : PlainNode → Bool) where
    pub most : (w : Stage → ℕ) → ((d : Stage) (x : PlainNode) → Fit d x → test x ≡ true → 1 ≤ w d) → (ds : List Stage) (xs : List PlainNode) → Fits ds xs → length (filter test xs) ≤ total w ds
    most w one [] [] h = omega arith
    most w one [] (x ∷ xs) h = absurd h
    most w one (d ∷ ds) [] h = absurd h
    most w one (d ∷ ds) (x ∷ xs) (h, hs) =
        let rest : length (filter test xs) ≤ total w ds = most w one ds xs hs in
        either (test x)
        (λ e. let k : length (filter test (x ∷ xs)) ≡ suc (length (filter test xs)) = ap (λ b. length (cond b (x ∷ filter test xs) (filter test xs))) e in omega (arith, k, rest, one d x h e))
        (λ e. let k : length (filter test (x ∷ xs)) ≡ length (filter test xs) = ap (λ b. length (cond b (x ∷ filter test xs) (filter test xs))) e in omega (arith, k, rest))

    module _ (passes : StreamStage → Bool) (one : (d : Stage) (x : PlainNode) → Fit d x → test x ≡ true → passes d.of ≡ true) where
      pub some : (ds : List Stage) (xs : List PlainNode) → Fits ds xs → list_any test xs ≡ true → list_any passes (tallies_of ds) ≡ true
      some [] [] h e = e
      some [] (x ∷ xs) h e = absurd h
      some (d ∷ ds) [] h e = absurd h
      some (d ∷ ds) (x ∷ xs) (h, hs) e =
          or_elim (test x) (list_any test xs) e
          (λ t. or_first (passes d.of) (list_any passes (tallies_of ds)) (one d x h t))
          (λ t. or_second (passes d.of) (list_any passes (tallies_of ds)) (some ds xs hs t))

      one_found : (ds : List Stage) (xs : List PlainNode) (n a : ℕ) → Fits ds xs → place_from n test xs ≡ Some a → 1 ≤ total (one_where passes) ds
      one_found [] [] n a h e = absurd (true≢false (ap (λ o. elim o [ Some z ↦ true | None ↦ false ]) (sym e)))
      one_found [] (x ∷ xs) n a h e = absurd h
      one_found (d ∷ ds) [] n a h e = absurd h
      one_found (d ∷ ds) (x ∷ xs) n a (h, hs) e = either (test x)
          (λ g. let k = one_there passes d (one d x h g) in omega (arith, k))
          (λ g. let k = one_found ds xs (n + 1) a hs (sym (ap (λ b. if b then Some n else place_from (n + 1) test xs) g) ∙ e) in omega (arith, k))

      -- the first node is that of the first stage, where no two stages pass the test
      pub placed : (ds : List Stage) (xs : List PlainNode) (n a : ℕ) → Fits ds xs → total (one_where passes) ds ≤ 1 → place_from n test xs ≡ Some a → place_in n passes (tallies_of ds) ≡ Some a
      placed [] [] n a h le e = e
      placed [] (x ∷ xs) n a h le e = absurd h
      placed (d ∷ ds) [] n a h le e = absurd h
      placed (d ∷ ds) (x ∷ xs) n a (h, hs) le e = either (test x)
          (λ g. ap (λ b. if b then Some n else place_in (n + 1) passes (tallies_of ds)) (one d x h g) ∙ sym (ap (λ b. if b then Some n else place_from (n + 1) test xs) g) ∙ e)
          (λ g. let f : place_from (n + 1) test xs ≡ Some a = sym (ap (λ b. if b then Some n else place_from (n + 1) test xs) g) ∙ e in
          let found : 1 ≤ total (one_where passes) ds = one_found ds xs (n + 1) a hs f in
          let passed : passes d.of ≡ false = false_from_ne_true (passes d.of) (λ t. let k = one_there passes d t in absurd (omega (arith, k, found, le))) in
          ap (λ b. if b then Some n else place_in (n + 1) passes (tallies_of ds)) passed ∙ placed ds xs (n + 1) a hs (omega (arith, le)) f)
