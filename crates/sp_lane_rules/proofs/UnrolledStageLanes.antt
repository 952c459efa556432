-- The stages of lanes stand lane by lane, and a combination after them.
use Rattle.std.proofs.Common.{◌≡◌, ℕ, zero, suc, ◌+◌, ◌-◌, ◌*◌, ◌≤◌, ◌⊎◌, inl, inr, Bool, true, false, ◌&&◌, ◌||◌, List, [], ◌∷◌, ◌++◌, length, map, Option, Some, None, refl, sym, ◌∙◌, ap, arith, ◌==◌, nat_lt}
use Rattle.std.proofs.lemmas.Bool.{and_from, lt-ltb, eq-eqb, ne_eqb, or_right}
use Rattle.std.proofs.lemmas.List.Folds.{list_all-append}
use Rattle.std.proofs.lemmas.Nat.{div-mul-add, mod-mul-add}
use Rattle.std.specs.List.{list_all}
use Rattle.std.specs.Prelude.{replicate, ◌/◌, ◌%◌}
use Rattle.sp_core.specs.NodeRules.{single_lanes, after_singles, count_zeros, are_lane_by_lane, is_of_all_lanes, are_stages, is_no_lane, are_lanes_right}
use Rattle.sp_core.specs.PlainCore.{PlainNode, PlainStages, no_stage, more_stage}
use Rattle.sp_lanes.specs.Unrolled.{stages_in, stages_by_lane, stage_after, left_as_they_are, node_in, nodes_in}
use Rattle.sp_lanes.specs.Within.{Within}

-- so many rows of n lanes each, from a lane on
abbrev rows : (l more n : ℕ) → List ℕ
rows l zero n = []
rows l (suc more) n = replicate n l ++ rows (suc l) more n

rows_less : (p l more n : ℕ) → l + more ≤ p → list_all (λ k. nat_lt k p) (rows l more n) ≡ true
rows_less p l zero n le = refl
rows_less p l (suc more) n le = list_all-append (λ k. nat_lt k p) (replicate n l) (rows (suc l) more n) ∙ and_from _ _ (row n) (rows_less p (suc l) more n (omega arith))
  where
    row : (n : ℕ) → list_all (λ k. nat_lt k p) (replicate n l) ≡ true
    row zero = refl
    row (suc n) = and_from _ _ (lt-ltb l p (omega arith)) (row n)

zeros_row : (n : ℕ) (xs : List ℕ) → count_zeros (replicate n 0 ++ xs) ≡ n + count_zeros xs
zeros_row zero xs = omega arith
zeros_row (suc n) xs = omega (arith, zeros_row n xs)

no_zeros_row : (n l : ℕ) (xs : List ℕ) → count_zeros (replicate n (suc l) ++ xs) ≡ count_zeros xs
no_zeros_row zero l xs = refl
no_zeros_row (suc n) l xs =
    ap (λ b. elim b as (λ _. ℕ) [ true ↦ 1 + count_zeros (replicate n (suc l) ++ xs) | false ↦ count_zeros (replicate n (suc l) ++ xs) ]) (ne_eqb (suc l) 0 (λ e. absurd (omega (arith, e))))
    ∙ no_zeros_row n l xs

no_zeros : (l more n : ℕ) → count_zeros (rows (suc l) more n) ≡ 0
no_zeros l zero n = refl
no_zeros l (suc more) n = no_zeros_row n l (rows (suc (suc l)) more n) ∙ no_zeros (suc l) more n

row_by_lane : (n l j m : ℕ) (xs : List ℕ) → j + m ≡ n → are_lane_by_lane n (suc l * n) xs ≡ true → are_lane_by_lane n (l * n + j) (replicate m l ++ xs) ≡ true
row_by_lane n l j zero xs e h = ap (λ i. are_lane_by_lane n i xs) {x = l * n + j} {y = suc l * n} (omega (arith, e)) ∙ h
row_by_lane n l j (suc m) xs e h =
    and_from _ _ (eq-eqb l ((l * n + j) / n) (sym (div-mul-add l n j (omega (arith, e)))))
    (ap (λ i. are_lane_by_lane n i (replicate m l ++ xs)) {x = l * n + j + 1} {y = l * n + suc j} (omega arith) ∙ row_by_lane n l (suc j) m xs (omega (arith, e)) h)

rows_by_lane : (n l more : ℕ) → 1 ≤ n → are_lane_by_lane n (l * n) (rows l more n) ≡ true
rows_by_lane n l zero one = eq-eqb ((l * n) % n) 0 (ap (λ i. i % n) {x = l * n} {y = l * n + 0} (omega arith) ∙ mod-mul-add l n 0 one)
rows_by_lane n l (suc more) one =
    ap (λ i. are_lane_by_lane n i (rows l (suc more) n)) {x = l * n} {y = l * n + 0} (omega arith)
    ∙ row_by_lane n l 0 n (rows (suc l) more n) (omega arith) (rows_by_lane n (suc l) more one)

no_rows : (l more : ℕ) → rows l more 0 ≡ []
no_rows l zero = refl
no_rows l (suc more) = no_rows (suc l) more

-- the stages of lanes with as many nodes each
abbrev EachLong : ℕ → List (List PlainNode) → Type 0
EachLong n [] = Unit {0}
EachLong n (nodes ∷ lists) = (length nodes ≡ n) × EachLong n lists

singles_in : (l : ℕ) (nodes : List PlainNode) (rest : PlainStages) → single_lanes (stages_in l nodes rest) ≡ replicate (length nodes) l ++ single_lanes rest
singles_in l [] rest = refl
singles_in l (node ∷ nodes) rest =
    ap (λ b. elim b as (λ _. List ℕ) [ true ↦ l ∷ single_lanes (stages_in l nodes rest) | false ↦ [] ]) (eq-eqb l l refl) ∙ ap (λ xs. l ∷ xs) (singles_in l nodes rest)

after_in : (l : ℕ) (nodes : List PlainNode) (rest : PlainStages) → after_singles (stages_in l nodes rest) ≡ after_singles rest
after_in l [] rest = refl
after_in l (node ∷ nodes) rest =
    ap (λ b. elim b as (λ _. PlainStages) [ true ↦ after_singles (stages_in l nodes rest) | false ↦ more_stage l l false node (stages_in l nodes rest) ]) (eq-eqb l l refl) ∙ after_in l nodes rest

singles_by_lane : (l n : ℕ) (lists : List (List PlainNode)) (rest : PlainStages) → EachLong n lists → single_lanes rest ≡ [] → single_lanes (stages_by_lane l lists rest) ≡ rows l (length lists) n
singles_by_lane l n [] rest h e = e
singles_by_lane l n (nodes ∷ lists) rest h e =
    singles_in l nodes (stages_by_lane (suc l) lists rest) ∙ ap (λ k. replicate k l ++ single_lanes (stages_by_lane (suc l) lists rest)) h.0
    ∙ ap (λ xs. replicate n l ++ xs) (singles_by_lane (suc l) n lists rest h.1 e)

after_by_lane : (l : ℕ) (lists : List (List PlainNode)) (rest : PlainStages) → after_singles (stages_by_lane l lists rest) ≡ after_singles rest
after_by_lane l [] rest = refl
after_by_lane l (nodes ∷ lists) rest = after_in l nodes (stages_by_lane (suc l) lists rest) ∙ after_by_lane (suc l) lists rest

stages_there_in : (l n : ℕ) (nodes : List PlainNode) (rest : PlainStages) → length nodes ≡ suc n → are_stages (stages_in l nodes rest) ≡ true
stages_there_in l n [] rest e = absurd (omega (arith, e))
stages_there_in l n (node ∷ nodes) rest e = refl

stages_rest_in : (l : ℕ) (nodes : List PlainNode) (rest : PlainStages) → are_stages rest ≡ true → are_stages (stages_in l nodes rest) ≡ true
stages_rest_in l [] rest e = e
stages_rest_in l (node ∷ nodes) rest e = refl

stages_rest : (l : ℕ) (lists : List (List PlainNode)) (rest : PlainStages) → are_stages rest ≡ true → are_stages (stages_by_lane l lists rest) ≡ true
stages_rest l [] rest e = e
stages_rest l (nodes ∷ lists) rest e = stages_rest_in l nodes (stages_by_lane (suc l) lists rest) (stages_rest (suc l) lists rest e)

-- a combination after them
single_after : (p : ℕ) (node : Option PlainNode) → 2 ≤ p → single_lanes (stage_after p node) ≡ []
single_after p None le = refl
single_after p (Some node) le = ap (λ b. elim b as (λ _. List ℕ) [ true ↦ 0 ∷ [] | false ↦ [] ]) (ne_eqb 0 (p - 1) (λ e. absurd (omega (arith, e))))

all_after : (p : ℕ) (node : Option PlainNode) → 2 ≤ p → is_of_all_lanes p (after_singles (stage_after p node)) ≡ true
all_after p None le = refl
all_after p (Some node) le =
    ap (λ b. is_of_all_lanes p (elim b as (λ _. PlainStages) [ true ↦ no_stage | false ↦ more_stage 0 (p - 1) true node no_stage ])) (ne_eqb 0 (p - 1) (λ e. absurd (omega (arith, e))))
    ∙ and_from _ _ refl (eq-eqb (p - 1) (p - 1) refl)

pub by_lane_right : (p n : ℕ) (lists : List (List PlainNode)) (node : Option PlainNode) → 2 ≤ p → length lists ≡ p → EachLong n lists → (1 ≤ n) ⊎ (are_stages (stage_after p node) ≡ true)
    → are_lanes_right p (stages_by_lane 0 lists (stage_after p node)) ≡ true
by_lane_right p n lists node le long each some = and_from _ _ (and_from _ _ (there lists long each some) less) (and_from _ _ by_lane (ap (is_of_all_lanes p) (after_by_lane 0 lists (stage_after p node)) ∙ all_after p node le))
  where
    singles : single_lanes (stages_by_lane 0 lists (stage_after p node)) ≡ rows 0 p n
    singles = singles_by_lane 0 n lists (stage_after p node) each (single_after p node le) ∙ ap (λ k. rows 0 k n) long

    less : list_all (λ l. nat_lt l p) (single_lanes (stages_by_lane 0 lists (stage_after p node))) ≡ true
    less = ap (list_all (λ l. nat_lt l p)) singles ∙ rows_less p 0 p n (omega arith)

    there : (lists : List (List PlainNode)) → length lists ≡ p → EachLong n lists → (1 ≤ n) ⊎ (are_stages (stage_after p node) ≡ true) → are_stages (stages_by_lane 0 lists (stage_after p node)) ≡ true
    there [] e h s = absurd (omega (arith, e, le))
    there (nodes ∷ lists) e h (inl one) = first n one h.0
      where
        first : (n : ℕ) → 1 ≤ n → length nodes ≡ n → are_stages (stages_by_lane 0 (nodes ∷ lists) (stage_after p node)) ≡ true
        first zero one e = absurd (omega arith)
        first (suc n) one e = stages_there_in 0 n nodes (stages_by_lane 1 lists (stage_after p node)) e
    there (nodes ∷ lists) e h (inr s) = stages_rest 0 (nodes ∷ lists) (stage_after p node) s

    zeros : (p : ℕ) → 2 ≤ p → count_zeros (rows 0 p n) ≡ n
    zeros zero le = absurd (omega arith)
    zeros (suc p) le = zeros_row n (rows 1 p n) ∙ omega (arith, no_zeros 0 p n)

    by_n : (n : ℕ) → count_zeros (rows 0 p n) ≡ n → (is_no_lane (rows 0 p n) || are_lane_by_lane (count_zeros (rows 0 p n)) 0 (rows 0 p n)) ≡ true
    by_n zero z = ap (λ xs. is_no_lane xs || are_lane_by_lane (count_zeros xs) 0 xs) (no_rows 0 p)
    by_n (suc n) z = or_right (is_no_lane (rows 0 p (suc n))) (are_lane_by_lane (count_zeros (rows 0 p (suc n))) 0 (rows 0 p (suc n)))
        (ap (λ k. are_lane_by_lane k 0 (rows 0 p (suc n))) z ∙ ap (λ i. are_lane_by_lane (suc n) i (rows 0 p (suc n))) {x = 0} {y = 0 * suc n} (omega arith) ∙ rows_by_lane (suc n) 0 p (omega arith))

    by_lane : (is_no_lane (single_lanes (stages_by_lane 0 lists (stage_after p node))) || are_lane_by_lane (count_zeros (single_lanes (stages_by_lane 0 lists (stage_after p node)))) 0 (single_lanes (stages_by_lane 0 lists (stage_after p node)))) ≡ true
    by_lane = ap (λ xs. is_no_lane xs || are_lane_by_lane (count_zeros xs) 0 xs) singles ∙ by_n n (zeros p le)

-- so many stages of a body are no combination
abbrev pub own_stages : PlainStages → ℕ
own_stages no_stage = 0
own_stages (more_stage first last true node rest) = own_stages rest
own_stages (more_stage first last false node rest) = suc (own_stages rest)

module _ (order : List ℕ) where
  nodes_long : (w : Within) (stages : PlainStages) → length (nodes_in order w stages) ≡ own_stages stages
  unfolding nodes_in node_in left_as_they_are
  nodes_long w no_stage = refl
  nodes_long w (more_stage first last true node rest) = nodes_long w rest
  nodes_long w (more_stage first last false node rest) = ap suc (nodes_long w rest)

  pub each_long : (lane : ℕ → Within) (stages : PlainStages) (xs : List ℕ) → EachLong (own_stages stages) (map (λ l. nodes_in order (lane l) stages) xs)
  each_long lane stages [] = tt
  each_long lane stages (x ∷ xs) = (nodes_long (lane x) stages, each_long lane stages xs)

  -- stages of one lane are left in their lanes
  singles_left : (w : Within) (stages : PlainStages) → single_lanes (left_as_they_are order w stages) ≡ single_lanes stages
  unfolding nodes_in node_in left_as_they_are
  singles_left w no_stage = refl
  singles_left w (more_stage first last comb node rest) = ap (λ xs. elim (first == last) as (λ _. List ℕ) [ true ↦ first ∷ xs | false ↦ [] ]) (singles_left w rest)

  all_left : (w : Within) (lanes : ℕ) (stages : PlainStages) → is_of_all_lanes lanes (left_as_they_are order w stages) ≡ is_of_all_lanes lanes stages
  unfolding nodes_in node_in left_as_they_are
  all_left w lanes no_stage = refl
  all_left w lanes (more_stage first last comb node no_stage) = refl
  all_left w lanes (more_stage first last comb node (more_stage f l c n rest)) = refl

  after_left : (w : Within) (lanes : ℕ) (stages : PlainStages) → is_of_all_lanes lanes (after_singles (left_as_they_are order w stages)) ≡ is_of_all_lanes lanes (after_singles stages)
  unfolding nodes_in node_in left_as_they_are
  after_left w lanes no_stage = refl
  after_left w lanes (more_stage first last comb node rest) = by (first == last) (after_left w lanes rest)
    where
      by : (b : Bool) → is_of_all_lanes lanes (after_singles (left_as_they_are order w rest)) ≡ is_of_all_lanes lanes (after_singles rest)
          → is_of_all_lanes lanes (elim b as (λ _. PlainStages) [ true ↦ after_singles (left_as_they_are order w rest) | false ↦ more_stage first last comb (node_in order w node) (left_as_they_are order w rest) ])
          ≡ is_of_all_lanes lanes (elim b as (λ _. PlainStages) [ true ↦ after_singles rest | false ↦ more_stage first last comb node rest ])
      by true e = e
      by false e = all_left w lanes (more_stage first last comb node rest)

  there_left : (w : Within) (stages : PlainStages) → are_stages (left_as_they_are order w stages) ≡ are_stages stages
  unfolding nodes_in node_in left_as_they_are
  there_left w no_stage = refl
  there_left w (more_stage first last comb node rest) = refl

  pub left_right : (w : Within) (lanes : ℕ) (stages : PlainStages) → are_lanes_right lanes stages ≡ true → are_lanes_right lanes (left_as_they_are order w stages) ≡ true
  left_right w lanes stages h =
      ap (λ b. (b && list_all (λ l. nat_lt l lanes) (single_lanes (left_as_they_are order w stages))) && ((is_no_lane (single_lanes (left_as_they_are order w stages)) || are_lane_by_lane (count_zeros (single_lanes (left_as_they_are order w stages))) 0 (single_lanes (left_as_they_are order w stages))) && is_of_all_lanes lanes (after_singles (left_as_they_are order w stages)))) (there_left w stages)
      ∙ ap (λ xs. (are_stages stages && list_all (λ l. nat_lt l lanes) xs) && ((is_no_lane xs || are_lane_by_lane (count_zeros xs) 0 xs) && is_of_all_lanes lanes (after_singles (left_as_they_are order w stages)))) (singles_left w stages)
      ∙ ap (λ b. (are_stages stages && list_all (λ l. nat_lt l lanes) (single_lanes stages)) && ((is_no_lane (single_lanes stages) || are_lane_by_lane (count_zeros (single_lanes stages)) 0 (single_lanes stages)) && b)) (after_left w lanes stages)
      ∙ h
