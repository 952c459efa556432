-- The run of an inner body that ends in a combination.
use Rattle.std.proofs.Common.{◌≡◌, ℕ, ◌<◌, Bool, true, false, not, ◌&&◌, ◌||◌, cond, List, [], ◌∷◌, ◌++◌, length, Option, Some, None, refl, sym, ◌∙◌, ap, subst, inr, ◌==◌}
use Rattle.std.proofs.lemmas.Bool.{and_parts, and_from, true≢false, eqb-true, eq-eqb, ne_eqb}
use Rattle.std.specs.Prelude.{drop}
use Rattle.sp_words.specs.declared.types.Ty.{Ty}
use Rattle.sp_words.specs.declared.types.Ty.TheVariants.{Bit}
use Rattle.sp_tree.specs.declared.statement.Comb.{Comb}
use Rattle.sp_core.specs.Around.{Around, within, lanes_of}
use Rattle.sp_core.specs.Declarations.{is_among}
use Rattle.sp_core.specs.Footprint.{ListNames, AllPass}
use Rattle.sp_core.specs.Invariant.{IsCore}
use Rattle.sp_core.specs.NodeRules.{is_owned_once, are_counters_right, is_node_right}
use Rattle.sp_core.specs.OperationRules.{are_operations_right}
use Rattle.sp_core.specs.PlainCore.{PlainOp, PlainCounter, PlainCore, inner}
use Rattle.sp_core.specs.Scope.{Scope}
use Rattle.sp_core.specs.Step.{went, in_order}
use Rattle.sp_fitting.specs.Laws.{ListsFit, WordsFit}
use Rattle.sp_lanes.specs.Combined.{meeting}
use Rattle.sp_lanes.specs.Order.{memory_order}
use Rattle.sp_lanes.specs.Unrolled.{unrolled, owned_in_lanes, inner_ops, ops_in_lanes}
use Rattle.sp_lanes.specs.Within.{Within, in_lane, ops_in}
use Rattle.sp_lane_rules.specs.Copies.{OwnsInLanes}
use Rattle.sp_lane_groups.specs.RoomLaws.{PlacesHaveRoom}
use Rattle.sp_lane_cores.specs.LanedMarks.{Combination, folded, reduced, element, is_other}
use Rattle.sp_lane_groups.specs.LiveStores.{ArePlain}
use Rattle.sp_lane_rules.specs.UnrolledMeetings.{given_of}
use Rattle.sp_lane_rules.proofs.UnrolledGivens.{given_length}
use Rattle.sp_lane_groups.specs.Groups.{iteration, lanes_from, EachMasked}
use Rattle.sp_lane_groups.specs.Waiting.{ResetsFirst, waits_in}
use Rattle.sp_lane_groups.specs.InnersAlong.{GoesAlong, StandsIn}
use Rattle.sp_lane_groups.proofs.InnersInner.{inside_lanes, GroupsGo, inner_goes, alone_goes}
use Rattle.sp_lane_groups.proofs.JoinedBalanced.{Laws}
use Rattle.sp_lane_cores.specs.EndingsEnding.{IsOneWord, EndsIn}
use Rattle.sp_lane_trees.specs.CombinationsLaws.{CombinedInnersGo}
use Rattle.sp_lane_trees.proofs.CombinationsChain.{Asks}
use Rattle.sp_lane_trees.proofs.CombinationsCombining.{combining}
use Rattle.sp_lane_trees.proofs.CombinationsGroup.{combined_goes}
use Rattle.sp_lane_trees.proofs.CombinationsMoved.{drop_front}
use Rattle.sp_lane_trees.proofs.CombinationsRights.{right_parts, CombinesRight, combines_right, register_both}

pub not_same : (a b : ℕ) → not (a == b) ≡ true → a ≡ b → ⊥
not_same a b h e = true≢false (sym h ∙ ap not (eq-eqb a b e))

pub same_not : (a b : ℕ) → (a ≡ b → ⊥) → not (a == b) ≡ true
same_not a b h = ap not (ne_eqb a b h)

pub all_pass : (core : PlainCore) (is : ℕ → Bool) (owned : List ℕ) → ((m : ℕ) → is_among m owned ≡ true → is m ≡ true) → AllPass core is owned
all_pass core is [] h = tt
all_pass core is (m ∷ owned) h = (h m (ap (λ b. b || is_among m owned) (eq-eqb m m refl)), all_pass core is owned (λ k i. h k (later (k == m) (is_among k owned) i)))
  where
    later : (a b : Bool) → b ≡ true → (a || b) ≡ true
    later true b e = refl
    later false b e = e

-- a combination by its parts
pub record Parts (core : PlainCore) (owned : List ℕ) (ops : List PlainOp) (at : ℕ) : Type 0 where
  pub before : List PlainOp
  pub begun : Option ℕ
  pub word : ℕ
  pub acc : ℕ
  pub ty : Ty
  pub comb : Comb
  pub is : ℕ → Bool
  pub place : at ≡ length before
  pub list : ops ≡ before ++ combining begun at word acc ty comb
  pub earlier : word < at
  pub names : ListNames core is before
  pub owns : AllPass core is owned
  pub other : (m : ℕ) → is m ≡ true → (m ≡ acc → ⊥) × ((b : ℕ) → begun ≡ Some b → m ≡ b → ⊥)
  pub all : (m : ℕ) → (m ≡ acc → ⊥) → ((b : ℕ) → begun ≡ Some b → m ≡ b → ⊥) → is m ≡ true
  pub apart : (b : ℕ) → begun ≡ Some b → acc ≡ b → ⊥
  pub acc_out : is_among acc owned ≡ false
  pub flag_out : (b : ℕ) → begun ≡ Some b → is_among b owned ≡ false

module _ (core : PlainCore) (owned : List ℕ) (ops : List PlainOp) (at : ℕ) where
  -- what isn't other isn't owned
  out_of : (is : ℕ → Bool) → ((m : ℕ) → is_among m owned ≡ true → is m ≡ true) → (m : ℕ) → is m ≡ false → is_among m owned ≡ false
  out_of is h m e = by (is_among m owned) refl
    where
      by : (b : Bool) → is_among m owned ≡ b → b ≡ false
      by true i = absurd (true≢false (sym (h m i) ∙ e))
      by false i = refl

  pub parts_of : (c : Combination) → IsOneWord c → EndsIn core owned ops at c → Parts core owned ops at
  parts_of (folded word acc ty comb) one h = record {
    before = h.combined.before;
    begun = None;
    word = word;
    acc = acc;
    ty = ty;
    comb = comb;
    is = λ m. not (m == acc);
    place = sym h.combined.place;
    list = h.combined.is;
    earlier = subst (λ xs. (meeting xs).word < at) (ap (drop at) h.combined.is ∙ drop_front at h.combined.before (combining None at word acc ty comb) (sym h.combined.place)) h.earlier;
    names = h.combined.apart;
    owns = all_pass core (λ m. not (m == acc)) owned h.others;
    other = λ m i. (not_same m acc i, λ b e. absurd (nothing b e));
    all = λ m ne far. same_not m acc ne;
    apart = λ b e i. nothing b e;
    acc_out = out_of (λ m. not (m == acc)) h.others acc (ap not (eq-eqb acc acc refl));
    flag_out = λ b e. absurd (nothing b e);
  }
    where
      nothing : (b : ℕ) → ◌≡◌ {A = Option ℕ} None (Some b) → ⊥
      nothing b e = cc
  parts_of (reduced word acc begun ty comb) one h = record {
    before = h.combined.before;
    begun = Some begun;
    word = word;
    acc = acc;
    ty = ty;
    comb = comb;
    is = λ m. not (m == acc) && not (m == begun);
    place = sym h.combined.place;
    list = h.combined.is;
    earlier = subst (λ xs. (meeting xs).word < at) (ap (drop at) h.combined.is ∙ drop_front at h.combined.before (combining (Some begun) at word acc ty comb) (sym h.combined.place)) h.earlier;
    names = h.combined.apart;
    owns = all_pass core (λ m. not (m == acc) && not (m == begun)) owned h.others;
    other = λ m i. (let a = and_parts (not (m == acc)) (not (m == begun)) i in (not_same m acc a.0, λ b e j. not_same m begun a.1 (j ∙ sym (only b e))));
    all = λ m ne far. and_from (not (m == acc)) (not (m == begun)) (same_not m acc ne) (same_not m begun (far begun refl));
    apart = λ b e i. h.two (i ∙ sym (only b e));
    acc_out = out_of (λ m. not (m == acc) && not (m == begun)) h.others acc (ap (λ b. not b && not (acc == begun)) (eq-eqb acc acc refl));
    flag_out = λ b e. subst (λ k. is_among k owned ≡ false) (only b e) (out_of (λ m. not (m == acc) && not (m == begun)) h.others begun (second (not (begun == acc)) (begun == begun) (eq-eqb begun begun refl)));
  }
    where
      only : (b : ℕ) → Some begun ≡ Some b → begun ≡ b
      only b e = cc

      second : (a b : Bool) → b ≡ true → (a && not b) ≡ false
      second true b e = ap not e
      second false b e = refl
  parts_of (element mems word c dims acc begun ty comb) one h = absurd one

  -- its test tells the memories that aren't the combination's own, and it has the list's own operations before
  pub parts_is : (c : Combination) (one : IsOneWord c) (h : EndsIn core owned ops at c) → (parts_of c one h).is ≡ is_other c
  unfolding parts_of
  parts_is (folded word acc ty comb) one h = refl
  parts_is (reduced word acc begun ty comb) one h = refl
  parts_is (element mems word c dims acc begun ty comb) one h = absurd one

  pub parts_before : (c : Combination) (one : IsOneWord c) (h : EndsIn core owned ops at c) → (parts_of c one h).before ≡ h.combined.before
  unfolding parts_of
  parts_before (folded word acc ty comb) one h = refl
  parts_before (reduced word acc begun ty comb) one h = refl
  parts_before (element mems word c dims acc begun ty comb) one h = absurd one

module _ (core : PlainCore) (lists : ListsFit core) (fitting : WordsFit core) (room : PlacesHaveRoom core) (laws : Laws) (is : IsCore core) (owns : OwnsInLanes core.root) (turns : ℕ)
    (around inside : Around) (earlier : List ℕ) (w : Within) (counters : List PlainCounter) (owned : List ℕ) (ops : List PlainOp) (at : ℕ) (h : StandsIn core around inside earlier w (inner counters owned ops (Some at))) (c : Parts core owned ops at) where
  right : (is_node_right core around (inner counters owned ops (Some at)) ≡ true) × (is_owned_once core earlier owned ≡ true)
  right = and_parts (is_node_right core around (inner counters owned ops (Some at))) (is_owned_once core earlier owned) h.right

  list_right : are_operations_right core (within around counters owned) ops ≡ true
  list_right = (and_parts (are_counters_right core around counters) (are_operations_right core (within around counters owned) ops) right.0).1

  abbrev all : List PlainOp
  all = c.before ++ combining c.begun at c.word c.acc c.ty c.comb

  all_right : are_operations_right core (within around counters owned) all ≡ true
  all_right = subst (λ xs. are_operations_right core (within around counters owned) xs ≡ true) c.list list_right

  combines : CombinesRight core (within around counters owned) (given_of c.before) c.begun c.word c.acc c.ty
  combines =
      combines_right core (within around counters owned) (given_of c.before) c.begun at c.word c.acc c.ty c.comb (subst (λ n. c.word < n) (c.place ∙ sym (given_length c.before)) c.earlier)
      (right_parts core (within around counters owned) [] c.before (combining c.begun at c.word c.acc c.ty c.comb) all_right).1

  asks : (plain : ℕ → Scope) → Asks core plain owned c.before c.begun at c.word c.acc c.ty c.comb c.is
  asks plain = record {
    place = c.place;
    earlier = c.earlier;
    names = c.names;
    owns = c.owns;
    other = c.other;
    all = c.all;
    acc_both = register_both core (within around counters owned) c.ty c.acc combines.accumulator;
    flag_both = λ b e. register_both core (within around counters owned) Bit b (combines.flag b e);
    apart = c.apart;
  }

  abbrev Goes : Type 0
  Goes = GroupsGo core is owns lists room turns around inside earlier w counters owned ops (Some at) h

  tree_goes : (lanes_of counters == 1) ≡ false → Goes
  tree_goes several plain lanes count g s t after groups fits alike ran bits =
      let x =
      combined_goes core lists fitting laws is.memories around (inside_lanes core is owns lists room turns around inside earlier w counters owned ops (Some at) h) w counters owned plain lanes count g several c.before c.begun at c.word c.acc c.ty c.comb c.is (asks plain)
      (subst ArePlain c.list h.plain.1) all_right c.acc_out c.flag_out (subst (ResetsFirst (waits_in core owned)) c.list h.resets) s t after groups fits alike
      (subst (λ xs. in_order (λ l. iteration core (plain l) owned xs) (lanes_from 0 count) s ≡ went groups after) c.list ran) (subst (λ xs. EachMasked xs groups) c.list bits) in
      let own : List ℕ = owned_in_lanes (memory_order core) counters owned w in
      (x.0, x.1, ap (λ xs. iteration (unrolled core) lanes own xs t) lane_ops_are ∙ x.2, x.3, x.4)
    where
      lane_ops_are : inner_ops (memory_order core) w counters owned ops (Some at) ≡ ops_in_lanes (memory_order core) w counters owned all (Some at)
      lane_ops_are =
          ap (λ b. cond b (ops_in (in_lane (memory_order core) counters owned w 0) ops) (ops_in_lanes (memory_order core) w counters owned ops (Some at))) several
          ∙ ap (λ xs. ops_in_lanes (memory_order core) w counters owned xs (Some at)) c.list

  pub goes : GoesAlong core turns around w (inner counters owned ops (Some at))
  goes = by (lanes_of counters == 1) refl
    where
      by : (b : Bool) → (lanes_of counters == 1) ≡ b → GoesAlong core turns around w (inner counters owned ops (Some at))
      by true e =
          inner_goes core is owns lists room turns around inside earlier w counters owned ops (Some at) h (alone_goes core is owns lists room turns around inside earlier w counters owned ops (Some at) h (inr (eqb-true (lanes_of counters) 1 e)))
      by false e = inner_goes core is owns lists room turns around inside earlier w counters owned ops (Some at) h (tree_goes e)

pub combined_go : (core : PlainCore) → ListsFit core → WordsFit core → PlacesHaveRoom core → Laws → CombinedInnersGo core
combined_go core lists fitting room laws is owns turns around inside earlier w counters owned ops at c one ends h =
    goes core lists fitting room laws is owns turns around inside earlier w counters owned ops at h (parts_of core owned ops at c one ends)
