-- What a controller with stages owns in one lane, its stages of another lane don't name.
use Rattle.std.proofs.Common.{◌≡◌, ◌⊎◌, ℕ, zero, suc, ◌+◌, ◌*◌, ◌<◌, Bool, true, false, cond, ◌||◌, List, [], ◌∷◌, ◌++◌, length, map, refl, sym, ◌∙◌, ap, subst, arith, inl, inr, nat_lt, ◌==◌}
use Rattle.std.proofs.lemmas.Bool.{and_parts, and_from, true≢false, ltb-true, eq-eqb, or_right}
use Rattle.std.proofs.lemmas.Bool.Decides.{eqb_tells}
use Rattle.std.specs.Prelude.{filter, flat_map}
use Rattle.sp_words.specs.declared.kind.Style.{Style}
use Rattle.sp_core.specs.Around.{Around, within, lanes_of, is_port_kind}
use Rattle.sp_core.specs.Declarations.{is_among, mem}
use Rattle.sp_core.specs.Elements.{numbers_below}
use Rattle.sp_core.specs.Invariant.{owned_in}
use Rattle.sp_core.specs.NodeRules.{is_node_right, is_owned_once}
use Rattle.sp_core.specs.PlainCore.{PlainCounter, PlainMem, PlainNode, PlainStages, outer, no_stage, more_stage, PlainCore}
use Rattle.sp_lanes.specs.Order.{memory_order, occurrence}
use Rattle.sp_lanes.specs.Unrolled.{unrolled, owned_in_lanes, node_in, nodes_in}
use Rattle.sp_lanes.specs.Within.{Within, in_lane, counters_in}
use Rattle.sp_lane_rules.specs.Copies.{occurrences, copies_in_stages, OwnInLanes}
use Rattle.sp_lane_rules.proofs.CopiesFound.{are_apart}
use Rattle.sp_lane_rules.proofs.CopiesMemoryRules.{count_among}
use Rattle.sp_lane_rules.proofs.CopiesOwners.{lane_fits, own_fits}
use Rattle.sp_lane_rules.specs.UnrolledPlaces.{GoTogether}
use Rattle.sp_lane_rules.proofs.UnrolledPlaces.{among_both, copy_there, lane_together}
use Rattle.sp_lane_rules.proofs.UnrolledWhole.{each_right}
use Rattle.sp_lane_rules.specs.CombinedStanding.{numbers_of, Combines, Combine}
use Rattle.sp_lane_rules.proofs.CombinedFollowing.{ZeroBut, zero_inside}
use Rattle.sp_lane_rules.proofs.CombinedTree.{node_kept}
use Rattle.sp_lane_groups.specs.LiveStores.{IsCopy}
use Rattle.sp_lane_groups.specs.InnersAlong.{StandsIn}
use Rattle.sp_lane_groups.proofs.InnersOwners.{each_owned}
use Rattle.sp_lane_trees.specs.OutersStages.{AllStandIn}
use Rattle.sp_lane_trees.proofs.StagesOwned.{lane_apart, stages_apart}
use Rattle.sp_lane_trees.proofs.StagesPassing.{neither}
use Rattle.sp_plan.specs.Named.{uses}
use Rattle.sp_overlap.proofs.Lanes.{or_choose}
use Rattle.sp_overlap.proofs.Parts.{among_left, among_right}
use Rattle.sp_lane_programs.proofs.LanesFree.{node_free}
use Rattle.sp_lane_programs.proofs.LanesPlaced.{EachOf}

-- what is filtered passes
passes : (p : ℕ → Bool) (xs : List ℕ) (m : ℕ) → is_among m (filter p xs) ≡ true → (p m ≡ true) × (is_among m xs ≡ true)
passes p [] m i = absurd (true≢false (sym i))
passes p (x ∷ xs) m i = by (p x) refl (passes p xs m) i
  where
    first : p x ≡ true → (b : Bool) → (m == x) ≡ b → (is_among m (filter p xs) ≡ true → (p m ≡ true) × (is_among m xs ≡ true)) → (b || is_among m (filter p xs)) ≡ true → (p m ≡ true) × ((b || is_among m xs) ≡ true)
    first e true s rest j = (subst (λ k. p k ≡ true) (sym (same s)) e, refl)
      where
        same : (m == x) ≡ true → m ≡ x
        same s = elim (eqb_tells m x) [ inl t ↦ t.1 | inr t ↦ absurd (true≢false (sym s ∙ t.0)) ]
    first e false s rest j = rest j

    by : (b : Bool) → p x ≡ b → (is_among m (filter p xs) ≡ true → (p m ≡ true) × (is_among m xs ≡ true)) → is_among m (cond b (x ∷ filter p xs) (filter p xs)) ≡ true → (p m ≡ true) × (is_among m (x ∷ xs) ≡ true)
    by true e rest j = first e (m == x) refl rest j
    by false e rest j = let r = rest j in (r.0, or_right (m == x) (is_among m xs) r.1)

-- what passes and is in a list is in what is filtered of it
stays : (p : ℕ → Bool) (xs : List ℕ) (m : ℕ) → p m ≡ true → is_among m xs ≡ true → is_among m (filter p xs) ≡ true
stays p [] m e i = i
stays p (x ∷ xs) m e i = elim (eqb_tells m x) [
  | inl same ↦ ap (λ b. is_among m (cond b (x ∷ filter p xs) (filter p xs))) (sym (ap p same.1) ∙ e) ∙ ap (λ b. b || is_among m (filter p xs)) same.0
  | inr apart ↦ by (p x) (stays p xs m e (sym (ap (λ b. b || is_among m xs) apart.0) ∙ i))
]
  where
    by : (b : Bool) → is_among m (filter p xs) ≡ true → is_among m (cond b (x ∷ filter p xs) (filter p xs)) ≡ true
    by true j = or_right (m == x) (is_among m (filter p xs)) j
    by false j = j

-- a number that is among these by a function is that of one of them
from_map : (f : ℕ → ℕ) (n : ℕ) (xs : List ℕ) → is_among n (map f xs) ≡ true → (m : ℕ) × (is_among m xs ≡ true) × (f m ≡ n)
from_map f n [] i = absurd (true≢false (sym i))
from_map f n (x ∷ xs) i = elim (eqb_tells n (f x)) [
  | inl same ↦ (x, ap (λ b. b || is_among x xs) (eq-eqb x x refl), sym same.1)
  | inr apart ↦ (
      let r = from_map f n xs (sym (ap (λ b. b || is_among n (map f xs)) apart.0) ∙ i) in
      (r.0, or_right (r.0 == x) (is_among r.0 xs) r.1, r.2)
      )
]

among_map : (f : ℕ → ℕ) (m : ℕ) (xs : List ℕ) → is_among m xs ≡ true → is_among (f m) (map f xs) ≡ true
among_map f m [] e = e
among_map f m (x ∷ xs) e = elim (eqb_tells m x) [
  | inl same ↦ ap (λ b. b || is_among (f m) (map f xs)) (eq-eqb (f m) (f x) (ap f same.1))
  | inr apart ↦ or_right (f m == f x) (is_among (f m) (map f xs)) (among_map f m xs (sym (ap (λ b. b || is_among m xs) apart.0) ∙ e))
]

not_there : (b : Bool) → (b ≡ true → ⊥) → b ≡ false
not_there true h = absurd (h refl)
not_there false h = refl

flat_two : (f : ℕ → List ℕ) (xs : List ℕ) (x n : ℕ) → is_among n (flat_map f (xs ++ x ∷ [])) ≡ true → (is_among n (flat_map f xs) ≡ true) ⊎ (is_among n (f x) ≡ true)
flat_two f [] x n i = elim (or_choose (is_among n (f x)) false (sym (among_both n (f x) []) ∙ i)) [ inl e ↦ inr e | inr e ↦ absurd (true≢false (sym e)) ]
flat_two f (y ∷ xs) x n i = elim (or_choose (is_among n (f y)) (is_among n (flat_map f (xs ++ x ∷ []))) (sym (among_both n (f y) (flat_map f (xs ++ x ∷ []))) ∙ i)) [
  | inl e ↦ inl (among_left n (f y) (flat_map f xs) e)
  | inr e ↦ elim (flat_two f xs x n e) [ inl k ↦ inl (among_right n (f y) (flat_map f xs) k) | inr k ↦ inr k ]
]

of_flat : (f : ℕ → List ℕ) (n p : ℕ) → is_among n (flat_map f (numbers_below p)) ≡ true → (l : ℕ) × (l < p) × (is_among n (f l) ≡ true)
of_flat f n zero i = absurd (true≢false (sym i))
of_flat f n (suc p) i = elim (flat_two f (numbers_below p) p n i) [
  | inl e ↦ (let r = of_flat f n p e in let lt : r.0 < suc p = omega (arith, r.1) in (r.0, lt, r.2))
  | inr e ↦ (let lt : p < suc p = omega arith in (p, lt, e))
]

module _ (core : PlainCore) (around inside : Around) (w : Within) (together : GoTogether core (unrolled core) around inside w) where
  abbrev declared : ℕ → Bool
  declared m = nat_lt m (length core.mems)

  -- a place in lanes with what stands around in the core, and no more
  abbrev narrow : Around
  narrow = record { counters = inside.counters; owned = map w.number (filter declared around.owned) }

  narrowed : GoTogether core (unrolled core) around narrow w
  narrowed = record {
    counters = together.counters;
    in_lanes = together.in_lanes;
    memories = λ m u.
        let a = and_parts (nat_lt m (length core.mems)) (is_port_kind (mem core m).kind || is_among m around.owned) u in
        let t = together.memories m u in
        let b = and_parts (nat_lt (w.number m) (length (unrolled core).mems)) (is_port_kind (mem (unrolled core) (w.number m)).kind || is_among (w.number m) inside.owned) t.0 in
        (and_from _ _ b.0 (ap (λ (x : PlainMem). is_port_kind x.kind || is_among (w.number m) narrow.owned) t.1 ∙ by m a.0 (is_port_kind (mem core m).kind) a.1), t.1);
  }
    where
      by : (m : ℕ) → declared m ≡ true → (b : Bool) → (b || is_among m around.owned) ≡ true → (b || is_among (w.number m) narrow.owned) ≡ true
      by m d true e = refl
      by m d false e = among_map w.number m (filter declared around.owned) (stays declared around.owned m d e)

  -- a memory that stands for none that is around
  module _ (n : ℕ) (there : n < length (unrolled core).mems) (no_port : is_port_kind (mem (unrolled core) n).kind ≡ false) (away : (m : ℕ) → is_among m around.owned ≡ true → declared m ≡ true → w.number m ≡ n → ⊥)
      (numbers : List ℕ) (zero_but : ZeroBut numbers w) where
    free : is_among n narrow.owned ≡ false
    free = not_there (is_among n narrow.owned) (λ i. (let r = from_map w.number n (filter declared around.owned) i in let p = passes declared around.owned r.0 r.1 in away r.0 p.1 p.0 r.2))

    node_names : (node : PlainNode) (earlier : List ℕ) → StandsIn core around inside earlier w node → Combines numbers node → is_among n (owned_in (node_in (memory_order core) w node)) ≡ false → uses (unrolled core) n (node_in (memory_order core) w node) ≡ false
    node_names node earlier h one own =
        node_free (unrolled core) n there no_port (node_in (memory_order core) w node) narrow (node_kept core node numbers around narrow w narrowed zero_but h.enough one (each_right core node around earlier h.right)) free own

    -- no stage of the lane names it
    pub stages_names : (stages : PlainStages) (earlier : List ℕ) → AllStandIn core around inside earlier w stages → Combine numbers stages → is_among n (flat_map owned_in (nodes_in (memory_order core) w stages)) ≡ false
        → EachOf (λ x. uses (unrolled core) n x ≡ false) (nodes_in (memory_order core) w stages)
    unfolding nodes_in
    stages_names no_stage earlier h one own = tt
    stages_names (more_stage first last true node rest) earlier h one own = stages_names rest (earlier ++ owned_in node) h.1 one.1 own
    stages_names (more_stage first last false node rest) earlier h one own =
        let p = neither (owned_in (node_in (memory_order core) w node)) (flat_map owned_in (nodes_in (memory_order core) w rest)) n own in
        (node_names node earlier h.0 one.0 p.0, stages_names rest (earlier ++ owned_in node) h.1 one.1 p.1)

each_all : {A : Type 0} (P : A → PlainNode → Type 0) (nodes : List PlainNode) → ((a : A) → EachOf (P a) nodes) → EachOf (λ x. (a : A) → P a x) nodes
each_all P [] h = tt
each_all P (node ∷ nodes) h = (λ a. (h a).0, each_all P nodes (λ a. (h a).1))

module _ (core : PlainCore) (around inside : Around) (earlier : List ℕ) (w : Within) (counters : List PlainCounter) (style : Style) (owned : List ℕ) (stages : PlainStages) (h : StandsIn core around inside earlier w (outer counters style owned stages)) (own : OwnInLanes stages)
    (numbers : List ℕ) (zero_but : ZeroBut numbers w) (combine : Combine (numbers_of counters ++ numbers) stages)
    (stand : (l : ℕ) → l < lanes_of counters → AllStandIn core (within around counters owned) (within inside (counters_in w counters) (owned_in_lanes (memory_order core) counters owned w)) (earlier ++ owned) (in_lane (memory_order core) counters owned w l) stages) where
  once : is_owned_once core earlier owned ≡ true
  once = (and_parts (is_node_right core around (outer counters style owned stages)) (is_owned_once core earlier owned) h.right.0).1

  abbrev in_this : ℕ → Within
  in_this l = in_lane (memory_order core) counters owned w l

  abbrev pub copy : (o l : ℕ) → ℕ
  copy o l = occurrence o (w.copy * lanes_of counters + l) (memory_order core)

  bound : (o l : ℕ) → is_among o owned ≡ true → l < lanes_of counters → w.copy * lanes_of counters + l < occurrences o (memory_order core)
  bound o l i lt = own_fits w.copy (lanes_of counters) l (occurrences o owned) (copies_in_stages stages o) (occurrences o (memory_order core)) lt (count_among o owned i) (h.enough o)

  -- a memory that the controller owns, in a lane
  pub record IsOwn (o l : ℕ) : Type 0 where
    pub among : is_among o owned ≡ true
    pub less : l < lanes_of counters

  away : (o j : ℕ) → IsOwn o j → (l : ℕ) → l < lanes_of counters → (l ≡ j → ⊥) → (m : ℕ) → is_among m (owned ++ around.owned) ≡ true → nat_lt m (length core.mems) ≡ true → (in_this l).number m ≡ copy o j → ⊥
  away o j is l lt ne m i d e = by (is_among m owned) refl
    where
      same_lane : (x l j : ℕ) → x + l ≡ x + j → l ≡ j
      same_lane x l j e = omega (arith, e)

      by : (b : Bool) → is_among m owned ≡ b → ⊥
      by true k =
          let there : copy m l ≡ copy o j = sym (ap (λ b. cond b (copy m l) (w.number m)) k) ∙ e in
          ne (same_lane (w.copy * lanes_of counters) l j (are_apart (memory_order core) m (w.copy * lanes_of counters + l) o (w.copy * lanes_of counters + j) (bound m l k lt) (bound o j is.among is.less) there).1)
      by false k =
          let outside : is_among m around.owned ≡ true = sym (ap (λ b. b || is_among m around.owned) k) ∙ sym (among_both m owned around.owned) ∙ i in
          let c : IsCopy (memory_order core) m (w.number m) = h.copies m (and_from (nat_lt m (length core.mems)) (is_port_kind (mem core m).kind || is_among m around.owned) d (or_right (is_port_kind (mem core m).kind) (is_among m around.owned) outside)) in
          let there : occurrence m c.0 (memory_order core) ≡ copy o j = c.2 ∙ sym (ap (λ b. cond b (copy m l) (w.number m)) k) ∙ e in
          let same : m ≡ o = (are_apart (memory_order core) m c.0 o (w.copy * lanes_of counters + j) c.1 (bound o j is.among is.less) there).0 in
          true≢false (sym is.among ∙ ap (λ x. is_among x owned) (sym same) ∙ k)

  -- what a node of a lane doesn't name: what the controller owns in other lanes
  abbrev pub IsOfLane : ℕ → PlainNode → Type 0
  IsOfLane l node = (other : (o : ℕ) × (j : ℕ) × IsOwn o j × (l ≡ j → ⊥)) → uses (unrolled core) (copy other.0 other.1) node ≡ false

  pub lanes_apart : (l : ℕ) → l < lanes_of counters → EachOf (IsOfLane l) (nodes_in (memory_order core) (in_this l) stages)
  lanes_apart l lt = each_all (λ (other : (o : ℕ) × (j : ℕ) × IsOwn o j × (l ≡ j → ⊥)) x. uses (unrolled core) (copy other.0 other.1) x ≡ false) (nodes_in (memory_order core) (in_this l) stages) each
    where
      each : (other : (o : ℕ) × (j : ℕ) × IsOwn o j × (l ≡ j → ⊥)) → EachOf (λ x. uses (unrolled core) (copy other.0 other.1) x ≡ false) (nodes_in (memory_order core) (in_this l) stages)
      each other =
          let o : ℕ = other.0 in
          let j : ℕ = other.1 in
          let lt_there : w.copy * lanes_of counters + j < occurrences o (memory_order core) = bound o j other.2.among other.2.less in
          let t = copy_there core o (w.copy * lanes_of counters + j) lt_there in
          stages_names core (within around counters owned) (within inside (counters_in w counters) (owned_in_lanes (memory_order core) counters owned w)) (in_this l) (together l lt) (copy o j) (ltb-true _ _ t.0)
          (ap (λ (x : PlainMem). is_port_kind x.kind) t.1 ∙ (each_owned core earlier owned once o other.2.among).no_port)
          (λ m i d e. away o j other.2 l lt other.3 m i d e)
          (numbers_of counters ++ numbers) (zero_inside (memory_order core) numbers counters owned w l zero_but) stages (earlier ++ owned) (stand l lt) combine
          (lane_apart core (in_this l) o (w.copy * lanes_of counters + j) lt_there stages own
          (λ n. lane_fits w.copy (lanes_of counters) l (occurrences n owned) (copies_in_stages stages n) (occurrences n (memory_order core)) lt (h.enough n)) (stages_apart core around earlier counters style owned stages h.right o other.2.among))
        where
          together : (l : ℕ) → l < lanes_of counters → GoTogether core (unrolled core) (within around counters owned) (within inside (counters_in w counters) (owned_in_lanes (memory_order core) counters owned w)) (in_this l)
          together l lt = lane_together core around inside w h.together counters owned l lt (λ m i. bound m l i lt)

  -- each memory that the controller owns in lanes is one of these
  pub from_lanes : (n : ℕ) → is_among n (owned_in_lanes (memory_order core) counters owned w) ≡ true → (o : ℕ) × (j : ℕ) × IsOwn o j × (copy o j ≡ n)
  from_lanes n i =
      let r = of_flat (λ l. map (in_this l).number owned) n (lanes_of counters) i in
      let s = from_map (in_this r.0).number n owned r.2 in
      (s.0, r.0, record { among = s.1; less = r.1 }, sym (ap (λ b. cond b (copy s.0 r.0) (w.number s.0)) s.1) ∙ s.2)
