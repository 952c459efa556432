-- The stages of a body stand in each lane where its controller does.
use Rattle.std.proofs.Common.{◌≡◌, ◌⊎◌, inl, inr, ℕ, ◌+◌, ◌*◌, ◌<◌, ◌≤◌, Bool, true, false, ◌||◌, List, ◌++◌, Some, None, refl, sym, ◌∙◌, subst}
use Rattle.sp_core.specs.Around.{Around, within, lanes_of}
use Rattle.sp_core.specs.Declarations.{is_among}
use Rattle.sp_core.specs.Invariant.{owned_in, AreRight}
use Rattle.sp_core.specs.PlainCore.{PlainNode, PlainStages, inner, outer, fsm, branch, load, store, sparse, no_stage, more_stage, PlainCore}
use Rattle.sp_lanes.specs.Order.{memory_order}
use Rattle.sp_lanes.specs.Unrolled.{unrolled, owned_in_lanes}
use Rattle.sp_lanes.specs.Within.{Within, in_lane, counters_in}
use Rattle.sp_lane_rules.specs.Copies.{occurrences, copies_in, copies_in_stages}
use Rattle.sp_lane_rules.proofs.CopiesMemoryRules.{count_among}
use Rattle.sp_lane_rules.proofs.CopiesOwners.{lane_fits, own_fits, part_fits}
use Rattle.sp_lane_cores.specs.LanedMarks.{NoneCombines, LastCombines, IsLaned, AreLaned}
use Rattle.sp_lane_groups.specs.LiveStores.{AreCopies}
use Rattle.sp_lane_groups.proofs.LiveCopies.{copies_stand}
use Rattle.sp_lane_groups.specs.PlainNodes.{AreStagesPlain}
use Rattle.sp_lane_rules.specs.UnrolledPlaces.{GoTogether}
use Rattle.sp_lane_rules.proofs.UnrolledPlaces.{among_both, lane_together}
use Rattle.sp_lane_groups.specs.InnersAlong.{StagesResetFirst}
use Rattle.sp_lane_trees.specs.OutersLaws.{OutersStand}
use Rattle.sp_lane_trees.specs.OutersStages.{AllStandIn}

or_first : (a b : Bool) → a ≡ true → (a || b) ≡ true
or_first true b e = refl
or_first false b e = cc

among_more : (xs ys : List ℕ) (m : ℕ) → is_among m xs ≡ true → is_among m (xs ++ ys) ≡ true
among_more xs ys m e = among_both m xs ys ∙ or_first (is_among m xs) (is_among m ys) e

module _ (core : PlainCore) where
  abbrev Marked : PlainStages → Type 0
  Marked stages = NoneCombines core stages ⊎ ((is : ℕ → Bool) × LastCombines core is stages)

  after_one : (first last : ℕ) (node : PlainNode) (rest : PlainStages) → Marked (more_stage first last false node rest) → Marked rest
  after_one first last node rest (inl h) = inl h
  after_one first last node rest (inr (is, h)) = inr (is, h.1)

  -- the last stage is a combination
  last_laned : (first last : ℕ) (node : PlainNode) (rest : PlainStages) (is : ℕ → Bool) → LastCombines core is (more_stage first last true node rest) → IsLaned core node × (rest ≡ no_stage)
  last_laned first last (inner counters owned ops (Some at)) no_stage is h = ((h.0, (h.1.0, h.1.2)), refl)
  last_laned first last (inner counters owned ops (Some at)) (more_stage f l c n rest) is h = absurd h
  last_laned first last (inner counters owned ops None) rest is h = absurd h
  last_laned first last (outer counters style owned stages) rest is h = absurd h
  last_laned first last (fsm start state test body next) rest is h = absurd h
  last_laned first last (branch test one two) rest is h = absurd h
  last_laned first last (load d m spans) rest is h = absurd h
  last_laned first last (store d m spans) rest is h = absurd h
  last_laned first last (sparse kind d m index spans count par) rest is h = absurd h

  module _ (around inside : Around) (w : Within) (together : GoTogether core (unrolled core) around inside w) (copies : AreCopies core around w) where
    all_stand : (stages : PlainStages) (earlier : List ℕ) → Marked stages → AreLaned core stages → AreRight core around earlier stages → AreStagesPlain stages → StagesResetFirst core stages → ((m : ℕ) → is_among m around.owned ≡ true → is_among m earlier ≡ true)
        → ((m : ℕ) → (w.copy + 1) * copies_in_stages stages m ≤ occurrences m (memory_order core)) → AllStandIn core around inside earlier w stages
    all_stand no_stage earlier marked laned right plain resets before enough = tt
    all_stand (more_stage first last false node rest) earlier marked laned right plain resets before enough = (
      record {
        together = together;
        copies = copies;
        owned_before = before;
        enough = λ m. (part_fits w.copy (copies_in node m) (copies_in_stages rest m) (occurrences m (memory_order core)) (enough m)).0;
        right = right.0;
        laned = laned.0;
        plain = plain.0;
        resets = resets.0;
      },
      all_stand rest (earlier ++ owned_in node) (after_one first last node rest marked) laned.1 right.1 plain.1 resets.1 (λ m e. among_more earlier (owned_in node) m (before m e))
          (λ m. (part_fits w.copy (copies_in node m) (copies_in_stages rest m) (occurrences m (memory_order core)) (enough m)).1),
    )
    all_stand (more_stage first last true node rest) earlier (inl none) laned right plain resets before enough = absurd none
    all_stand (more_stage first last true node rest) earlier (inr (is, h)) laned right plain resets before enough =
        let l = last_laned first last node rest is h in (
          record {
            together = together;
            copies = copies;
            owned_before = before;
            enough = λ m. (part_fits w.copy (copies_in node m) (copies_in_stages rest m) (occurrences m (memory_order core)) (enough m)).0;
            right = right.0;
            laned = l.0;
            plain = plain.0;
            resets = resets.0;
          },
          all_stand rest (earlier ++ owned_in node) (subst Marked (sym l.1) (inl tt)) laned right.1 plain.1 resets.1 (λ m e. among_more earlier (owned_in node) m (before m e))
              (λ m. (part_fits w.copy (copies_in node m) (copies_in_stages rest m) (occurrences m (memory_order core)) (enough m)).1),
        )

pub outer_stands : (core : PlainCore) → OutersStand core
outer_stands core around inside earlier w counters style owned stages l first h =
    let fits : (m : ℕ) → is_among m owned ≡ true → w.copy * lanes_of counters + l < occurrences m (memory_order core) =
    λ m e. own_fits w.copy (lanes_of counters) l (occurrences m owned) (copies_in_stages stages m) (occurrences m (memory_order core)) first (count_among m owned e) (h.enough m) in
    all_stand core (within around counters owned) (within inside (counters_in w counters) (owned_in_lanes (memory_order core) counters owned w)) (in_lane (memory_order core) counters owned w l)
    (lane_together core around inside w h.together counters owned l first fits) ((copies_stand core).1 around w counters owned l h.copies fits) stages (earlier ++ owned) h.laned.1 h.laned.2 h.right.1 h.plain.1 h.resets
    (λ m e. among_both m earlier owned ∙ swapped (is_among m owned) (is_among m around.owned) (is_among m earlier) (h.owned_before m) (sym (among_both m owned around.owned) ∙ e))
    (λ m. lane_fits w.copy (lanes_of counters) l (occurrences m owned) (copies_in_stages stages m) (occurrences m (memory_order core)) first (h.enough m))
  where
    swapped : (a b c : Bool) → (b ≡ true → c ≡ true) → (a || b) ≡ true → (c || a) ≡ true
    swapped true b true f e = refl
    swapped true b false f e = refl
    swapped false b c f e = or_first c false (f e)
