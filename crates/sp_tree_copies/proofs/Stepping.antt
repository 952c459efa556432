-- What a walk over a loop adds, stage by stage.
use mathlib.Core.Path.{fun_ext}
use Rattle.std.proofs.Common.{◌≡◌, ℕ, suc, ◌+◌, ◌<◌, ◌≤◌, ◌^◌, Bool, true, if◌then◌else◌, List, [], ◌∷◌, ◌++◌, length, slice_index, Option, append_assoc, refl, sym, ap, subst, ◌∙◌, arith}
use Rattle.std.proofs.lemmas.Bool.{eq-eqb}
use Rattle.std.proofs.lemmas.List.{length-append}
use Rattle.std.specs.List.{AllZip}
use Rattle.sp_words.specs.declared.kind.Style.{Style}
use Rattle.sp_core.specs.Declarations.{is_among}
use Rattle.sp_core.specs.declared.node.Stage.{Stage}
use Rattle.sp_core.specs.Invariant.{owned_in, owned_in_stages}
use Rattle.sp_core.specs.Numbering.{node_count, node_count_in}
use Rattle.sp_core.specs.Plain.{plain_node, plain_stage_list}
use Rattle.sp_core.specs.PlainCore.{PlainCounter, PlainNode, PlainStages, outer, no_stage, more_stage, PlainCore}
use Rattle.sp_plan.specs.PlainPlan.{PlainNodePlan, PlainPlan, node_plan}
use Rattle.sp_plan.specs.Validity.{stage_count}
use Rattle.sp_time.specs.Beats.{slot_at}
use Rattle.sp_machine.specs.Timeline.{slots_of, slot_numbers as slots_by}
use Rattle.sp_tree_events.specs.CopiesStanding.{CopyNets, with_numbers, HaveNumbers}
use Rattle.sp_copy_nets.specs.Numbers.{HaveComing}
use Rattle.sp_copy_nets.specs.Table.{numbers_at, own_numbers, slot_numbers}
use Rattle.sp_tree_handed.specs.declared.owners.Keeping.{Keeping}
use Rattle.sp_tree_handed.specs.declared.owners.LoopTurns.{LoopTurns}
use Rattle.sp_tree_handed.specs.declared.owners.Renewal.{Renewal}
use Rattle.sp_tree_handed.specs.Owners.{first_use}
use Rattle.sp_tree_copies.specs.declared.numbers.LoopCopies.{LoopCopies}
use Rattle.sp_tree_copies.specs.declared.walk.Walk.{Walk}
use Rattle.sp_tree_copies.specs.Loops.{HasCopies, HasNumbers}
use Rattle.sp_tree_copies.specs.Naming.{bound_names, renewed_by, LoopNumbers}
use Rattle.sp_tree_copies.specs.Walks.{Adds, RenewsNext, nets_in, inside, inside_stage, IsNext, WalksNode, WalksStages, KeepsStanding}
use Rattle.sp_tree_copies.proofs.Nexting.{zip_at, first_next, second_next}
use Rattle.sp_tree_copies.proofs.Nodes.{among_left, among_right, slot_by, nets_at, stages_around, adds_as}
use Rattle.sp_tree_copies.proofs.Slots.{firsts_long, slot_below, used_below}
use Rattle.sp_tree_copies.proofs.Walking.{adds_none, adds_join}

-- where there is a net for each memory, the nets inside of a slot are those of the numbers
inside_all : (around : CopyNets) (owned : List ℕ) (nets : List (Option ℕ)) → length nets ≡ length owned → inside around owned nets ≡ with_numbers around owned (own_numbers owned nets)
inside_all around owned nets e = fun_ext (λ m. ap (λ b. if b then with_numbers around owned (own_numbers owned nets) m else around m) (eq-eqb (length nets) (length owned) e))

module _ (core : PlainCore) (plan : PlainPlan) (turns : List LoopTurns) (kept : List Keeping) (loops : List LoopCopies) where
  pub no_stages_walk : (k i : ℕ) (around : (stage : ℕ) → CopyNets) (a : Walk) → WalksStages core plan turns kept loops no_stage k i around a a
  no_stages_walk k i around a planned copied s zips near nets child w now now_kept next turn = record {
    names = [];
    renewed = [];
    kept = [];
    adds = adds_as core plan turns kept loops [] [] [] [] [] [] 0 (length now) 0 (length now_kept) a a refl refl refl (sym (ap (λ xs. length xs) turn.0)) (sym (ap (λ xs. length xs) turn.1)) (adds_none a);
    named = (refl, refl, refl);
  }

  pub stages_walk : (first last : ℕ) (comb : Bool) (node : PlainNode) (rest : PlainStages) (k i : ℕ) (around : (stage : ℕ) → CopyNets) (a b c : Walk) → WalksNode core plan turns kept loops node k (around i) a b → WalksStages core plan turns kept loops rest (k + node_count node) (suc i) around b c
      → WalksStages core plan turns kept loops (more_stage first last comb node rest) k i around a c
  stages_walk first last comb node rest k i around a b c f g planned copied s zips near nets child w now now_kept next turn =
      let x = f (omega (arith, planned)) (λ m h. copied m (among_left m (owned_in node) (owned_in_stages rest) h)) s zips near (nets i) (child i) w.0 turn.one turn.one_kept
      (first_next turns kept turn.one turn.other now turn.one_kept turn.other_kept now_kept a turn.turns_are turn.kept_are next) turn.first in
      let u = g (omega (arith, planned)) (λ m h. copied m (among_right m (owned_in node) (owned_in_stages rest) h)) s zips near nets child w.1 turn.other turn.other_kept
      (second_next turns kept turn.one turn.other now turn.one_kept turn.other_kept now_kept a turn.turns_are turn.kept_are next b x.adds.loops_are x.adds.states_are) turn.second in
      let l = ap (λ xs. length xs) turn.turns_are ∙ length-append turn.one turn.other in
      let q = ap (λ xs. length xs) turn.kept_are ∙ length-append turn.one_kept turn.other_kept in
      record {
        names = x.names ++ u.names;
        renewed = x.renewed ++ u.renewed;
        kept = x.kept ++ u.kept;
        adds = adds_as core plan turns kept loops _ _ _ _ _ _ _ (length now) _ (length now_kept) a c refl refl refl (sym l) (sym q) (adds_join x.names u.names x.renewed u.renewed x.kept u.kept (length turn.one) (length turn.other) (length turn.one_kept) (length turn.other_kept) a b c x.adds u.adds);
        named = record {
          one_names = x.names;
          other_names = u.names;
          one_renewed = x.renewed;
          other_renewed = u.renewed;
          one_kept = x.kept;
          other_kept = u.kept;
          names_are = refl;
          renewed_are = refl;
          kept_are = refl;
          first = x.named;
          second = u.named;
        };
      }

  -- the bounds of a loop, what it does to its memories, and then its stages
  loop_walks : (counters : List PlainCounter) (style : Style) (owned : List ℕ) (stages : PlainStages) (k : ℕ) (around : CopyNets) (a b m c : Walk) → Adds (bound_names around counters) [] [] 0 0 a b → RenewsNext core (node_plan plan k) stages owned turns loops b m
      → WalksStages core plan turns kept loops stages (suc k) 0 (inside_stage (node_plan plan k) around owned loops a.loops) m c → WalksNode core plan turns kept loops (outer counters style owned stages) k around a c
  loop_walks counters style owned stages k around a b m c bounds renews inside_walk planned copied s zips near env child w now now_kept next turn =
      let own : LoopTurns = turn.own in
      let z = bounds.loops_are in
      let y = bounds.states_are in
      let all : turns ≡ next.passed ++ (own ∷ (turn.rest ++ next.rest)) = next.turns_are ∙ ap (λ l. next.passed ++ (l ++ next.rest)) turn.turns_are in
      let zip = zip_at (HasCopies plan s) next.passed (turn.rest ++ next.rest) own loops (subst (λ ts. AllZip (HasCopies plan s) ts loops) all zips) in
      let has : HasNumbers plan s own zip.u = zip.holds (λ x h. copied x (among_left x owned (owned_in_stages stages) (subst (λ os. is_among x os ≡ true) turn.owned_are h))) in
      let fl = firsts_long _ _ s _ w.slots w.firsts w.places w.circuit.starts w.shaped in
      let fe = ap (λ xs. length xs) turn.firsts_are in
      let used = λ (x : ℕ). used_below core x stages (node_plan plan k) w.places w.arranged w.size in
      let at = next.loop in
      let fresh = renews next.passed (turn.rest ++ next.rest) own zip.gone zip.more zip.u all zip.are zip.long (omega (arith, z, at)) has.each (λ x. let u = used x in omega (arith, u, fl, fe)) in
      let z1 = fresh.loops_are in
      let y1 = fresh.states_are in
      let long = length-append next.passed (own ∷ []) in
      let begun : IsNext turns kept turn.rest now_kept m = record {
        passed = next.passed ++ own ∷ [];
        rest = next.rest;
        passed_kept = next.passed_kept;
        rest_kept = next.rest_kept;
        turns_are = all ∙ sym (append_assoc next.passed (own ∷ []) (turn.rest ++ next.rest));
        kept_are = next.kept_are;
        loop = omega (arith, z, z1, at, long);
        state = (let e = next.state in omega (arith, y, y1, e));
      } in
      let x = inside_walk (omega (arith, planned)) (λ x h. copied x (among_right x owned (owned_in_stages stages) h)) s zips _ _ w.child w.parts turn.rest now_kept begun turn.stages in
      let numbers : ℕ → CopyNets = λ slot. own_numbers owned (slot_numbers zip.u.numbers.items slot) in
      let coming : ℕ → CopyNets = λ slot. own_numbers owned (slot_numbers zip.u.coming.items slot) in
      let loop : LoopNumbers plan s child.start w.firsts owned = record {
        numbers = numbers;
        coming = coming;
        stand = λ v lt.
            subst (λ os. HaveNumbers plan s child.start (slice_index w.firsts v) os (own_numbers os (slot_numbers zip.u.numbers.items v))) turn.owned_are
            (subst (λ fs. HaveNumbers plan s child.start (slice_index fs v) own.owned.items (own_numbers own.owned.items (slot_numbers zip.u.numbers.items v))) turn.firsts_are
            (subst (λ st. HaveNumbers plan s st (slice_index own.firsts.items v) own.owned.items (own_numbers own.owned.items (slot_numbers zip.u.numbers.items v))) turn.start_is (has.stand v (omega (arith, lt, fe)))));
        come = λ v lt.
            subst (λ os. HaveComing plan s child.start (slice_index w.firsts v) os (own_numbers os (slot_numbers zip.u.coming.items v))) turn.owned_are
            (subst (λ fs. HaveComing plan s child.start (slice_index fs v) own.owned.items (own_numbers own.owned.items (slot_numbers zip.u.coming.items v))) turn.firsts_are
            (subst (λ st. HaveComing plan s st (slice_index own.firsts.items v) own.owned.items (own_numbers own.owned.items (slot_numbers zip.u.coming.items v))) turn.start_is (has.come v (omega (arith, lt, fe)))));
      } in
      let in_slot = λ (i : ℕ) (few : i < stage_count stages).
      (let size = w.size in
      let slot = slot_by (node_plan plan k) i (omega (arith, size, few)) in
      let place = slot_below w.places (slots_of (node_plan plan k)) w.arranged i (omega (arith, size, few)) in
      let nets = nets_at zip.gone zip.more zip.u loops a.loops (slice_index (slots_by (node_plan plan k)) i) zip.are (let zl = zip.long in omega (arith, at, zl)) in
      let lengths = has.long (slice_index (slots_by (node_plan plan k)) i) (omega (arith, place, slot, fl, fe)) ∙ ap (λ xs. length xs) turn.owned_are in
      ap (inside around owned) nets ∙ inside_all around owned (slot_numbers zip.u.numbers.items (slice_index (slots_by (node_plan plan k)) i)) lengths
      ∙ ap (λ v. with_numbers around owned (numbers v)) (sym slot)) in
      let named = stages_around core plan s stages _ (suc k) 0 _ w.child w.parts (inside_stage (node_plan plan k) around owned loops a.loops) (λ i. with_numbers around owned (numbers (slot_at (slots_of (node_plan plan k)) i).slot)) x.names x.renewed x.kept
      (λ i few. subst (λ j. inside_stage (node_plan plan k) around owned loops a.loops j ≡ with_numbers around owned (numbers (slot_at (slots_of (node_plan plan k)) j).slot)) {x = i} {y = 0 + i} (omega arith) (in_slot i few)) x.named in
      let renewed_in : List Renewal = renewed_by (first_use core (node_plan plan k) stages) w.firsts coming owned in
      let l = ap (λ xs. length xs) turn.turns_are in
      record {
        names = bound_names around counters ++ x.names;
        renewed = renewed_in ++ x.renewed;
        kept = x.kept;
        adds = adds_as core plan turns kept loops (bound_names around counters ++ x.names) (bound_names around counters ++ x.names) (renewed_by (first_use core (node_plan plan k) stages) own.firsts.items coming owned ++ x.renewed) (renewed_in ++ x.renewed) x.kept x.kept (0 + (1 + length turn.rest)) (length now) (0 + (0 + length now_kept)) (length now_kept) a c
            refl (ap (λ fs. renewed_by (first_use core (node_plan plan k) stages) fs coming owned ++ x.renewed) turn.firsts_are) refl (omega (arith, l)) (omega arith)
            (adds_join (bound_names around counters) x.names [] (renewed_by (first_use core (node_plan plan k) stages) own.firsts.items coming owned ++ x.renewed) [] x.kept 0 (1 + length turn.rest) 0 (0 + length now_kept) a b c bounds
            (adds_join [] x.names (renewed_by (first_use core (node_plan plan k) stages) own.firsts.items coming owned) x.renewed [] x.kept 1 (length turn.rest) 0 (length now_kept) b m c fresh x.adds));
        named = record { loop = loop; inside = x.names; rest = x.renewed; names_are = refl; renewed_are = refl; stages = named };
      }

  -- whatever comes of the stages that are left, all of the loop has come behind what was there before
  abbrev pub StagesSoFar : PlainNode → (k : ℕ) → (around : List (Option ℕ)) → PlainNodePlan → (owned : List ℕ) → (at : ℕ) → List Stage → (i number second : ℕ) → (before now : Walk) → Type 0
  StagesSoFar node k around p owned at left i number second before now =
      (number ≡ i) × ((m : ℕ) → is_among m (owned_in_stages (plain_stage_list left)) ≡ true → m < length around) × (second + node_count_in (plain_stage_list left) ≤ 2 ^ 30) × (second + node_count_in (plain_stage_list left) ≤ length plan.nodes)
      × ((after : Walk) → WalksStages core plan turns kept loops (plain_stage_list left) second i (inside_stage p (numbers_at around) owned loops at) now after → WalksNode core plan turns kept loops node k (numbers_at around) before after)
      × KeepsStanding core turns kept loops around before now

  pub loop_begins : (node : PlainNode) (counters own_counters : List PlainCounter) (style : Style) (owned own_owned : List ℕ) (stages left own_stages : List Stage) (k second : ℕ) (around : List (Option ℕ)) (p : PlainNodePlan) (a b m : Walk) → node ≡ outer counters style owned (plain_stage_list stages) → own_counters ≡ counters → own_owned ≡ owned
      → left ≡ stages → own_stages ≡ stages → p ≡ node_plan plan k → second ≡ suc k → ((x : ℕ) → is_among x (owned_in node) ≡ true → x < length around) → k + node_count node ≤ 2 ^ 30 → k + node_count node ≤ length plan.nodes
      → Adds (bound_names (numbers_at around) own_counters) [] [] 0 0 a b → KeepsStanding core turns kept loops around a b → RenewsNext core p (plain_stage_list own_stages) own_owned turns loops b m → KeepsStanding core turns kept loops around b m
      → StagesSoFar node k around p owned a.loops left 0 0 second a m
  loop_begins node counters own_counters style owned own_owned stages left own_stages k second around p a b m is counters_is owned_is left_is own_is p_is second_is mine small few f fs g gs =
      let whole : PlainNode = outer counters style owned (plain_stage_list stages) in
      let small' = subst (λ v. k + node_count v ≤ 2 ^ 30) is small in
      let few' = subst (λ v. k + node_count v ≤ length plan.nodes) is few in
      let bounds = subst (λ v. Adds (bound_names (numbers_at around) v) [] [] 0 0 a b) counters_is f in
      let fresh = subst (λ q. RenewsNext core q (plain_stage_list stages) owned turns loops b m) p_is (subst (λ v. RenewsNext core p (plain_stage_list v) owned turns loops b m) own_is (subst (λ v. RenewsNext core p (plain_stage_list own_stages) v turns loops b m) owned_is g)) in (
        refl,
        λ x h. subst (λ v. is_among x (owned_in v) ≡ true → x < length around) is (mine x) (among_right x owned (owned_in_stages (plain_stage_list stages)) (subst (λ l. is_among x (owned_in_stages (plain_stage_list l)) ≡ true) left_is h)),
        subst (λ l. second + node_count_in (plain_stage_list l) ≤ 2 ^ 30) (sym left_is) (omega (arith, second_is, small')),
        subst (λ l. second + node_count_in (plain_stage_list l) ≤ length plan.nodes) (sym left_is) (omega (arith, second_is, few')),
        λ after more. subst (λ v. WalksNode core plan turns kept loops v k (numbers_at around) a after) (sym is)
            (loop_walks counters style owned (plain_stage_list stages) k (numbers_at around) a b m after bounds fresh
            (subst (λ q. WalksStages core plan turns kept loops (plain_stage_list stages) (suc k) 0 (inside_stage q (numbers_at around) owned loops a.loops) m after) p_is
            (subst (λ v. WalksStages core plan turns kept loops (plain_stage_list stages) v 0 (inside_stage p (numbers_at around) owned loops a.loops) m after) second_is
            (subst (λ l. WalksStages core plan turns kept loops (plain_stage_list l) second 0 (inside_stage p (numbers_at around) owned loops a.loops) m after) left_is more)))),
        λ d all stand h. gs d all stand (fs d all stand h),
      )

  pub loop_goes : (node : PlainNode) (k : ℕ) (around : List (Option ℕ)) (p : PlainNodePlan) (owned : List ℕ) (at : ℕ) (left rest : List Stage) (x : Stage) (i number second count : ℕ) (table : List (Option ℕ)) (slot : ℕ) (nets : List (Option ℕ)) (a b c : Walk) → left ≡ x ∷ rest → StagesSoFar node k around p owned at left i number second a b
      → slot ≡ slice_index (slots_by p) number → nets ≡ nets_in loops at slot → ((m : ℕ) → numbers_at table m ≡ inside (numbers_at around) owned nets m) → count ≡ node_count (plain_node x.node) → WalksNode core plan turns kept loops (plain_node x.node) second (numbers_at table) b c
      → KeepsStanding core turns kept loops around b c → StagesSoFar node k around p owned at rest (i + 1) (number + 1) (second + count) a c
  loop_goes node k around p owned at left rest x i number second count table slot nets a b c cut inv slot_is nets_are table_is count_is f fs =
      let n = inv.0 in
      let small = subst (λ l. second + node_count_in (plain_stage_list l) ≤ 2 ^ 30) cut inv.2 in
      let few = subst (λ l. second + node_count_in (plain_stage_list l) ≤ length plan.nodes) cut inv.3 in
      let same : numbers_at table ≡ inside_stage p (numbers_at around) owned loops at i =
      fun_ext table_is ∙ ap (inside (numbers_at around) owned) (nets_are ∙ ap (nets_in loops at) (slot_is ∙ ap (λ j. slice_index (slots_by p) j) n)) in (
        omega (arith, n),
        λ m h. inv.1 m (subst (λ l. is_among m (owned_in_stages (plain_stage_list l)) ≡ true) (sym cut) (among_right m (owned_in (plain_node x.node)) (owned_in_stages (plain_stage_list rest)) h)),
        omega (arith, small, count_is),
        omega (arith, few, count_is),
        λ after more. inv.4 after (subst (λ l. WalksStages core plan turns kept loops (plain_stage_list l) second i (inside_stage p (numbers_at around) owned loops at) b after) (sym cut)
            (stages_walk x.first x.last x.comb (plain_node x.node) (plain_stage_list rest) second i (inside_stage p (numbers_at around) owned loops at) b c after (subst (λ v. WalksNode core plan turns kept loops (plain_node x.node) second v b c) same f)
            (subst (λ v. WalksStages core plan turns kept loops (plain_stage_list rest) (second + v) (suc i) (inside_stage p (numbers_at around) owned loops at) c after) count_is
            (subst (λ v. WalksStages core plan turns kept loops (plain_stage_list rest) (second + count) v (inside_stage p (numbers_at around) owned loops at) c after) {x = i + 1} {y = suc i} (omega arith) more)))),
        λ d all stand h. fs d all stand (inv.5 d all stand h),
      )

  pub loop_ends : (node : PlainNode) (k : ℕ) (around : List (Option ℕ)) (p : PlainNodePlan) (owned : List ℕ) (at : ℕ) (left : List Stage) (i number second : ℕ) (a b : Walk) → left ≡ [] → StagesSoFar node k around p owned at left i number second a b → WalksNode core plan turns kept loops node k (numbers_at around) a b
  loop_ends node k around p owned at left i number second a b none inv =
      inv.4 b (subst (λ l. WalksStages core plan turns kept loops (plain_stage_list l) second i (inside_stage p (numbers_at around) owned loops at) b b) (sym none) (no_stages_walk second i (inside_stage p (numbers_at around) owned loops at) b))

  pub stage_can : (node : PlainNode) (k : ℕ) (around : List (Option ℕ)) (p : PlainNodePlan) (owned : List ℕ) (at : ℕ) (left rest : List Stage) (x : Stage) (i number second : ℕ) (a b : Walk) (n : ℕ) → left ≡ x ∷ rest → n ≡ length around → StagesSoFar node k around p owned at left i number second a b
      → ((m : ℕ) → is_among m (owned_in (plain_node x.node)) ≡ true → m < n) × (second + node_count (plain_node x.node) ≤ 2 ^ 30) × (second + node_count (plain_node x.node) ≤ length plan.nodes)
  stage_can node k around p owned at left rest x i number second a b n cut long inv =
      let small = subst (λ l. second + node_count_in (plain_stage_list l) ≤ 2 ^ 30) cut inv.2 in
      let few = subst (λ l. second + node_count_in (plain_stage_list l) ≤ length plan.nodes) cut inv.3 in (
        λ m h. (let l = inv.1 m (subst (λ l. is_among m (owned_in_stages (plain_stage_list l)) ≡ true) (sym cut) (among_left m (owned_in (plain_node x.node)) (owned_in_stages (plain_stage_list rest)) h)) in omega (arith, l, long)),
        omega (arith, small),
        omega (arith, few),
      )
