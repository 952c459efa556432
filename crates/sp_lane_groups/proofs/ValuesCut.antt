-- The groups of a controller in lanes, cut into their lanes.
use Rattle.std.proofs.Common.{◌≡◌, ℕ, zero, suc, ◌*◌, ◌<◌, ◌≤◌, ℤ, pos, ◌+ℤ◌, List, [], ◌∷◌, map, All, arith, refl, sym, ap, ◌∙◌, subst}
use Rattle.std.proofs.lemmas.List.Elements.{All-nil, All-cons, All-append, All-head, All-tail, All-push, All-map}
use Rattle.std.specs.Prelude.{filter, flat_map}
use Rattle.sp_core.specs.Elements.{index_value, numbers_below, count_below, values_below}
use Rattle.sp_core.specs.History.{Bounds, last_word}
use Rattle.sp_core.specs.PlainCore.{PlainCounter}
use Rattle.sp_core.specs.Scope.{plainly, in_lanes, loops_of, group_values}
use Rattle.sp_lane_groups.specs.LiveStores.{lane_values}
use Rattle.sp_lane_groups.specs.ValuesLanes.{live_lanes, iterations_of, AreFirst}
use Rattle.sp_lane_groups.specs.ValuesLaws.{GroupsAreIterations, FirstLanesAreLive}
use Rattle.sp_lane_groups.proofs.ValuesLists.{map_two, map_flat, flat_flat, flat_mapped}
use Rattle.sp_lane_groups.proofs.ValuesWhole.{lanes_at, is_live_at, live_before, masked_from, lanes_kept, lanes_some, lane_values_at, values_cut}

abbrev from_of : Bounds → ℤ
from_of b = index_value (last_word b.from)

abbrev until_of : Bounds → ℤ
until_of b = index_value (last_word b.until)

-- each value by itself
abbrev alone : ℤ → List ℤ
alone v = v ∷ []

abbrev singles : List ℤ → List (List ℤ)
singles vs = flat_map (λ v. map (λ (others : List ℤ). v ∷ others) ([] ∷ [])) vs

singles_are : (vs : List ℤ) → singles vs ≡ map alone vs
singles_are [] = refl
singles_are (v ∷ vs) = ap (λ xs. (v ∷ []) ∷ xs) (singles_are vs)

-- the last counter
last_cut : (c : PlainCounter) (b : Bounds) → 1 ≤ c.by → 1 ≤ c.par → group_values (loops_of plainly (c ∷ []) (b ∷ [])) ≡ flat_map (iterations_of (c ∷ []) (loops_of in_lanes (c ∷ []) (b ∷ []))) (group_values (loops_of in_lanes (c ∷ []) (b ∷ [])))
last_cut c b step some =
    let here : ℤ → List ℤ = lane_values_at (from_of b) (until_of b) c.by c.par step some in
    let cut : List ℤ → List (List ℤ) = iterations_of (c ∷ []) (loops_of in_lanes (c ∷ []) (b ∷ [])) in
    let many : List ℤ = values_below (from_of b) (until_of b) (c.by * c.par) in
    singles_are (values_below (from_of b) (until_of b) c.by)
    ∙ ap (map alone) (values_cut (from_of b) (until_of b) c.by c.par step some)
    ∙ map_flat alone here (λ v. cut (v ∷ [])) (λ v. map_two alone (λ l. v +ℤ pos (l * c.by)) (λ l. (v +ℤ pos (l * c.by)) ∷ []) (λ l. refl) (filter (is_live_at (from_of b) (until_of b) c.by c.par step some v) (numbers_below c.par))) many
    ∙ sym (flat_mapped cut alone (λ v. cut (v ∷ [])) (λ v. refl) many)
    ∙ ap (flat_map cut) (sym (singles_are many))

-- a counter before others, of one lane
one_before : (cut : List ℤ → List (List ℤ)) (more : List ℤ → List (List ℤ)) → ((v : ℤ) (values : List ℤ) → more (v ∷ values) ≡ map (λ others. v ∷ others) (cut values)) → (groups : List (List ℤ)) (vs : List ℤ)
    → flat_map (λ v. map (λ others. v ∷ others) (flat_map cut groups)) vs ≡ flat_map more (flat_map (λ v. map (λ others. v ∷ others) groups) vs)
one_before cut more h groups vs =
    sym (flat_flat more (λ v. map (λ others. v ∷ others) groups) (λ v. map (λ others. v ∷ others) (flat_map cut groups))
    (λ v. flat_mapped more (λ others. v ∷ others) (λ others. map (λ rest. v ∷ rest) (cut others)) (λ others. h v others) groups ∙ sym (map_flat (λ others. v ∷ others) cut (λ others. map (λ rest. v ∷ rest) (cut others)) (λ others. refl) groups)) vs)

pub groups_cut : GroupsAreIterations
groups_cut [] [] long last on = refl
groups_cut [] (b ∷ bounds) long last on = absurd (omega (arith, long))
groups_cut (c ∷ counters) [] long last on = absurd (omega (arith, long))
groups_cut (c ∷ []) (b ∷ []) long last on = last_cut c b on.0 on.1
groups_cut (c ∷ []) (b ∷ b2 ∷ bounds) long last on = absurd (omega (arith, long))
groups_cut (c ∷ d ∷ counters) (b ∷ []) long last on = absurd (omega (arith, long))
groups_cut (c ∷ d ∷ counters) (b ∷ b2 ∷ bounds) long last on =
    let groups : List (List ℤ) = group_values (loops_of in_lanes (d ∷ counters) (b2 ∷ bounds)) in
    let cut : List ℤ → List (List ℤ) = iterations_of (d ∷ counters) (loops_of in_lanes (d ∷ counters) (b2 ∷ bounds)) in
    let more : List ℤ → List (List ℤ) = iterations_of (c ∷ d ∷ counters) (loops_of in_lanes (c ∷ d ∷ counters) (b ∷ b2 ∷ bounds)) in
    ap (λ lists. flat_map (λ v. map (λ others. v ∷ others) lists) (values_below (from_of b) (until_of b) c.by)) (groups_cut (d ∷ counters) (b2 ∷ bounds) (omega (arith, long)) last.1 on.2)
    ∙ ap (λ n. flat_map (λ v. map (λ others. v ∷ others) (flat_map cut groups)) (values_below (from_of b) (until_of b) n)) (one_lane c.by c.par last.0)
    ∙ one_before cut more (λ v values. sym (map_two (λ others. v ∷ others) (λ l. lane_values (d ∷ counters) l values) (λ l. v ∷ lane_values (d ∷ counters) l values) (λ l. refl)
    (live_lanes (d ∷ counters) (loops_of in_lanes (d ∷ counters) (b2 ∷ bounds)) values))) groups (values_below (from_of b) (until_of b) (c.by * c.par))
  where
    one_lane : (m n : ℕ) → n ≡ 1 → m ≡ m * n
    one_lane m n e = subst (λ k. m ≡ m * k) (sym e) (omega arith)

-- what holds of each number below a bound
all_below : (P : ℕ → Type 0) (n : ℕ) → ((k : ℕ) → k < n → P k) → All P (numbers_below n)
all_below P zero h = All-nil P
all_below P (suc n) h = All-push P (numbers_below n) n (all_below P n (λ k lt. h k (omega (arith, lt)))) (h n (omega arith))

-- what holds of all ways to go on, with a value before
all_mapped : (P Q : List ℤ → Type 0) (v : ℤ) → ((values : List ℤ) → P values → Q (v ∷ values)) → (lists : List (List ℤ)) → All P lists → All Q (map (λ others. v ∷ others) lists)
all_mapped P Q v f [] h = All-nil Q
all_mapped P Q v f (x ∷ lists) h = All-cons Q (v ∷ x) (map (λ others. v ∷ others) lists) (f x (All-head P x lists h)) (all_mapped P Q v f lists (All-tail P x lists h))

all_before : (P Q : List ℤ → Type 0) (lists : List (List ℤ)) → ((v : ℤ) (values : List ℤ) → P values → Q (v ∷ values)) → All P lists → (vs : List ℤ) → All Q (flat_map (λ v. map (λ others. v ∷ others) lists) vs)
all_before P Q lists f h [] = All-nil Q
all_before P Q lists f h (v ∷ vs) = All-append Q (map (λ others. v ∷ others) lists) _ (all_mapped P Q v (f v) lists h) (all_before P Q lists f h vs)

abbrev HasFirst : List PlainCounter → List Bounds → List ℤ → Type 0
HasFirst counters bounds values = (count : ℕ) × AreFirst counters (loops_of in_lanes counters bounds) values count

last_first : (c : PlainCounter) (b : Bounds) → 1 ≤ c.by → 1 ≤ c.par → All (HasFirst (c ∷ []) (b ∷ [])) (group_values (loops_of in_lanes (c ∷ []) (b ∷ [])))
last_first c b step some =
    let value : ℕ → ℤ = λ g. from_of b +ℤ pos (g * (c.by * c.par)) in
    let n : ℕ = count_below (from_of b) (until_of b) (c.by * c.par) in
    subst (λ lists. All (HasFirst (c ∷ []) (b ∷ [])) lists) (sym (singles_are (map value (numbers_below n))))
    (All-map (HasFirst (c ∷ []) (b ∷ [])) alone (map value (numbers_below n)) (All-map (λ v. HasFirst (c ∷ []) (b ∷ []) (v ∷ [])) value (numbers_below n)
    (all_below (λ g. HasFirst (c ∷ []) (b ∷ []) (value g ∷ [])) n (λ g lt. (
      lanes_at (from_of b) (until_of b) c.by c.par step some g,
      record {
        some = lanes_some (from_of b) (until_of b) c.by c.par step some g lt;
        most = omega arith;
        live = live_before (from_of b) (until_of b) c.by c.par step some g;
        masked = masked_from (from_of b) (until_of b) c.by c.par step some g;
        all = lanes_kept (from_of b) (until_of b) c.by c.par step some g;
        values_long = refl;
      },
    )))))

pub first_are_live : FirstLanesAreLive
first_are_live [] [] long last on =
    All-cons (HasFirst [] []) [] [] (1, record { some = omega arith; most = omega arith; live = λ l lt. refl; masked = λ l ge lt. absurd (omega (arith, ge, lt)); all = refl; values_long = refl }) (All-nil (HasFirst [] []))
first_are_live [] (b ∷ bounds) long last on = absurd (omega (arith, long))
first_are_live (c ∷ counters) [] long last on = absurd (omega (arith, long))
first_are_live (c ∷ []) (b ∷ []) long last on = last_first c b on.0 on.1
first_are_live (c ∷ []) (b ∷ b2 ∷ bounds) long last on = absurd (omega (arith, long))
first_are_live (c ∷ d ∷ counters) (b ∷ []) long last on = absurd (omega (arith, long))
first_are_live (c ∷ d ∷ counters) (b ∷ b2 ∷ bounds) long last on =
    all_before (HasFirst (d ∷ counters) (b2 ∷ bounds)) (HasFirst (c ∷ d ∷ counters) (b ∷ b2 ∷ bounds)) (group_values (loops_of in_lanes (d ∷ counters) (b2 ∷ bounds)))
    (λ v values h. (h.0, record { some = h.1.some; most = h.1.most; live = h.1.live; masked = h.1.masked; all = h.1.all; values_long = ap suc h.1.values_long }))
    (first_are_live (d ∷ counters) (b2 ∷ bounds) (omega (arith, long)) last.1 on.2) (values_below (from_of b) (until_of b) (c.by * c.par))
