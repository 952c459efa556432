-- What the stages of a lane own is no copy of what their controller owns.
use Rattle.std.proofs.Common.{◌≡◌, ℕ, zero, suc, ◌*◌, ◌<◌, ◌≤◌, Bool, true, false, ◌&&◌, ◌||◌, not, List, [], ◌∷◌, ◌++◌, length, refl, sym, ◌∙◌, ap, subst, arith, inl, inr, ◌==◌, nat_lt}
use Rattle.std.proofs.lemmas.Bool.{and_parts, true≢false, eq-eqb}
use Rattle.std.proofs.lemmas.Bool.Decides.{eqb_tells}
use Rattle.std.proofs.lemmas.List.{append_assoc}
use Rattle.std.specs.Prelude.{flat_map}
use Rattle.sp_core.specs.Around.{Around, is_port_kind}
use Rattle.sp_core.specs.Declarations.{mem, is_among}
use Rattle.sp_core.specs.Invariant.{owned_in, owned_in_stages, IsRight}
use Rattle.sp_core.specs.NodeRules.{is_owned_once}
use Rattle.sp_core.specs.PlainCore.{PlainCounter, PlainNode, PlainStages, outer, no_stage, more_stage, PlainCore}
use Rattle.sp_lanes.specs.Order.{memory_order, occurrence}
use Rattle.sp_lanes.specs.Unrolled.{node_in, nodes_in}
use Rattle.sp_lanes.specs.Within.{Within}
use Rattle.sp_words.specs.declared.kind.Style.{Style}
use Rattle.sp_lane_rules.specs.Copies.{one_if, occurrences, copies_in, copies_in_stages, OwnsInLanes, OwnInLanes}
use Rattle.sp_lane_rules.proofs.CopiesFound.{are_apart}
use Rattle.sp_lane_rules.proofs.CopiesMemoryRules.{count_among, node_once}
use Rattle.sp_lane_rules.proofs.CopiesOwners.{among_count, no_copies, part_fits, Fits, node_owns}
use Rattle.sp_lane_rules.proofs.CopiesTotals.{span}
use Rattle.sp_lane_rules.proofs.UnrolledGivens.{append_none}
use Rattle.sp_lane_rules.proofs.UnrolledPlaces.{among_both}
use Rattle.sp_lane_groups.proofs.InnersOwners.{each_owned}

not_among : (n : ℕ) (xs : List ℕ) → occurrences n xs ≡ 0 → is_among n xs ≡ false
not_among n xs e = by (is_among n xs) refl
  where
    by : (b : Bool) → is_among n xs ≡ b → b ≡ false
    by true i = let some : 1 ≤ occurrences n xs = count_among n xs i in absurd (omega (arith, some, e))
    by false i = refl

none_counted : (n : ℕ) (xs : List ℕ) → is_among n xs ≡ false → occurrences n xs ≡ 0
none_counted n xs e = by (occurrences n xs) refl
  where
    by : (c : ℕ) → occurrences n xs ≡ c → c ≡ 0
    by zero i = refl
    by (suc c) i = absurd (true≢false (sym (among_count n xs (omega (arith, i))) ∙ e))

-- the second part of a list that is owned once
part_once : (core : PlainCore) (earlier xs ys : List ℕ) → is_owned_once core earlier (xs ++ ys) ≡ true → is_owned_once core (earlier ++ xs) ys ≡ true
part_once core earlier [] ys e = subst (λ l. is_owned_once core l ys ≡ true) (sym (append_none earlier)) e
part_once core earlier (m ∷ xs) ys e =
    let a = and_parts ((nat_lt m (length core.mems) && not (is_port_kind (mem core m).kind)) && not (is_among m earlier)) (is_owned_once core (earlier ++ m ∷ []) (xs ++ ys)) e in
    subst (λ l. is_owned_once core l ys ≡ true) (append_assoc earlier (m ∷ []) xs) (part_once core (earlier ++ m ∷ []) xs ys a.1)

-- what a controller owns its stages don't
pub stages_apart : (core : PlainCore) (around : Around) (earlier : List ℕ) (counters : List PlainCounter) (style : Style) (owned : List ℕ) (stages : PlainStages) → IsRight core around earlier (outer counters style owned stages)
    → (m : ℕ) → is_among m owned ≡ true → is_among m (owned_in_stages stages) ≡ false
stages_apart core around earlier counters style owned stages right m i = by (is_among m (owned_in_stages stages)) refl
  where
    or_last : (a b : Bool) → b ≡ true → (a || b) ≡ true
    or_last true b e = refl
    or_last false b e = e

    by : (b : Bool) → is_among m (owned_in_stages stages) ≡ b → b ≡ false
    by true j =
        let once : is_owned_once core (earlier ++ owned) (owned_in_stages stages) ≡ true = part_once core earlier owned (owned_in_stages stages) (node_once core (outer counters style owned stages) around earlier right) in
        let new : is_among m (earlier ++ owned) ≡ false = (each_owned core (earlier ++ owned) (owned_in_stages stages) once m j).new in
        absurd (true≢false (sym (among_both m earlier owned ∙ or_last (is_among m earlier) (is_among m owned) i) ∙ new))
    by false j = refl

-- a number is that of one copy of one memory
tells_copy : (order : List ℕ) (m k : ℕ) → k < occurrences m order → (x j : ℕ) → j < occurrences x order → one_if (occurrence x j order == occurrence m k order) ≡ one_if (x == m) * one_if (j == k)
tells_copy order m k l x j h = elim (eqb_tells (occurrence x j order) (occurrence m k order)) [
  | inl same ↦
      let a = are_apart order x j m k h l same.1 in
      ap one_if same.0 ∙ sym (ap (λ b. one_if b * one_if (j == k)) (eq-eqb x m a.0) ∙ ap (λ b. 1 * one_if b) (eq-eqb j k a.1))
  | inr apart ↦ ap one_if apart.0 ∙ sym (either apart.1)
]
  where
    either : (occurrence x j order ≡ occurrence m k order → ⊥) → one_if (x == m) * one_if (j == k) ≡ 0
    either ne = elim (eqb_tells x m) [
      | inr a ↦ ap (λ b. one_if b * one_if (j == k)) a.0 ∙ omega arith
      | inl s ↦ elim (eqb_tells j k) [
        | inr a ↦ ap (λ b. one_if (x == m) * one_if b) a.0 ∙ omega arith
        | inl t ↦ absurd (ne (ap (λ y. occurrence y j order) s.1 ∙ ap (λ y. occurrence m y order) t.1))
      ]
    ]

-- what is in none of two lists
neither : (xs ys : List ℕ) (n : ℕ) → is_among n (xs ++ ys) ≡ false → (is_among n xs ≡ false) × (is_among n ys ≡ false)
neither xs ys n e = by (is_among n xs) (is_among n ys) (sym (among_both n xs ys) ∙ e)
  where
    by : (a b : Bool) → (a || b) ≡ false → (a ≡ false) × (b ≡ false)
    by true b e = absurd (true≢false e)
    by false b e = (refl, e)

-- so no copy of it is owned in a node of a lane, nor in a lane's stages
module _ (core : PlainCore) (w : Within) (m k : ℕ) (lt : k < occurrences m (memory_order core)) where
  node_apart : (node : PlainNode) → OwnsInLanes node → Fits (memory_order core) (copies_in node) w → is_among m (owned_in node) ≡ false → is_among (occurrence m k (memory_order core)) (owned_in (node_in (memory_order core) w node)) ≡ false
  node_apart node own fits apart =
      let none : occurrences m (owned_in node) ≡ 0 = none_counted m (owned_in node) apart in
      not_among (occurrence m k (memory_order core)) (owned_in (node_in (memory_order core) w node))
      (node_owns (memory_order core) (occurrence m k (memory_order core)) m k (tells_copy (memory_order core) m k lt) node w own (omega (arith, none)) fits ∙ ap (λ n. span (w.copy * n) n k) (no_copies m node none))

  pub lane_apart : (stages : PlainStages) → OwnInLanes stages → Fits (memory_order core) (copies_in_stages stages) w → is_among m (owned_in_stages stages) ≡ false
      → is_among (occurrence m k (memory_order core)) (flat_map owned_in (nodes_in (memory_order core) w stages)) ≡ false
  unfolding nodes_in
  lane_apart no_stage own fits apart = refl
  lane_apart (more_stage first last true node rest) own fits apart =
      lane_apart rest own.2 (λ n. (part_fits w.copy (copies_in node n) (copies_in_stages rest n) (occurrences n (memory_order core)) (fits n)).1) (neither (owned_in node) (owned_in_stages rest) m apart).1
  lane_apart (more_stage first last false node rest) own fits apart =
      let i : ℕ = occurrence m k (memory_order core) in
      let p = neither (owned_in node) (owned_in_stages rest) m apart in
      among_both i (owned_in (node_in (memory_order core) w node)) (flat_map owned_in (nodes_in (memory_order core) w rest))
      ∙ ap (λ b. b || is_among i (flat_map owned_in (nodes_in (memory_order core) w rest)))
      (node_apart node own.0 (λ n. (part_fits w.copy (copies_in node n) (copies_in_stages rest n) (occurrences n (memory_order core)) (fits n)).0) p.0)
      ∙ lane_apart rest own.1 (λ n. (part_fits w.copy (copies_in node n) (copies_in_stages rest n) (occurrences n (memory_order core)) (fits n)).1) p.1
