-- The circuit of a loop in beats, where its stages go: one induction on the cycle.
use Rattle.std.proofs.Common.{◌≡◌, ℕ, zero, suc, ◌+◌, ◌<◌, ◌≤◌, List, map, sym, subst, arith}
use Rattle.sp_words.specs.declared.kind.Style.{Style}
use Rattle.sp_netlist.specs.declared.parts.Child.{Child}
use Rattle.sp_netlist.specs.Signals.{Signals}
use Rattle.sp_gates.specs.Tested.{is_on}
use Rattle.sp_core.specs.Around.{Around, Near}
use Rattle.sp_core.specs.Invariant.{IsRight}
use Rattle.sp_core.specs.Numbering.{counters_size, node_count, number_count}
use Rattle.sp_core.specs.PlainCore.{PlainCounter, PlainNode, PlainStages, outer, no_stage, more_stage, PlainCore}
use Rattle.sp_part_runs.specs.ControlParts.{Begins}
use Rattle.sp_part_runs.specs.BeatsLaws.{TellsMore}
use Rattle.sp_part_runs.specs.BeatsRuns.{slot_cycle, slot_found, groups_in}
use Rattle.sp_sequence.specs.declared.part.Chain.{Chain}
use Rattle.sp_sequence.specs.declared.part.Member.{Member}
use Rattle.sp_sequence.specs.declared.part.Slot.{Slot}
use Rattle.sp_part_runs.specs.SequencesChains.{Numbered, SaysWanted, turn}
use Rattle.sp_part_runs.specs.SequencesPlaces.{stage_at as stage_in, sizes}
use Rattle.sp_part_runs.specs.SequencesRuns.{shape_of}
use Rattle.sp_plan.specs.PlainPlan.{PlainPlan, node_plan}
use Rattle.sp_plan.specs.Validity.{stage_count}
use Rattle.sp_time.specs.Beats.{slot_at}
use Rattle.sp_machine.specs.Stamps.{Stamped}
use Rattle.sp_machine.specs.Timeline.{slots_of}
use Rattle.sp_machine.specs.Transfers.{Delays}
use Rattle.sp_overlap.specs.Whole.{IsTimed}
use Rattle.sp_node_runs.specs.Runs.{AreWithin, stage_at, node_at, number_at, stage_runs}
use Rattle.sp_node_runs.specs.RunsTold.{all_events}
use Rattle.sp_node_runs.specs.ControlBeating.{stage_rans, MemberDoes, SlotsDo}
use Rattle.sp_node_runs.specs.ControlLaws.{Does, IsStarted}
use Rattle.sp_node_runs.specs.ControlRuns.{rans}
use Rattle.sp_node_runs.proofs.ControlNumbering.{numbered_map}
use Rattle.sp_node_runs.specs.FitsLaws.{AllFit}
use Rattle.sp_node_runs.specs.BodiesGiven.{Nets}
use Rattle.sp_node_runs.specs.BodiesLaws.{own_near}
use Rattle.sp_node_runs.specs.BodiesTold.{AreAnsweredInTime}
use Rattle.sp_tree_runs.specs.BodiesScoped.{Scoped, placed, scoped_stages}
use Rattle.sp_tree_runs.specs.ControlTrees.{IsMember, AreMembers}
use Rattle.sp_tree_circuits.specs.Circuits.{MemberCircuit, Circuit, StageCircuits}
use Rattle.sp_tree_circuits.specs.Answers.{EachBound}
use Rattle.sp_tree_circuits.specs.Acts.{AreEventsOf, Acts, StagesAct}
use Rattle.sp_tree_circuits.proofs.Alike.{of_part}
use Rattle.sp_tree_circuits.specs.Given.{Laws}
use Rattle.sp_tree_circuits.proofs.Looping.{ran, outers, takes, Stepping, Looping, none_stepped, next_stepped}
use Rattle.sp_tree_circuits.proofs.Ready.{earlier as until_then, Ready, ready_earlier, part_of}
use Rattle.sp_tree_circuits.proofs.StageEvents.{all, in_stage, stage_of, from_first, up_to_last}
use Rattle.sp_tree_circuits.proofs.StageLists.{EachStage, each_from, stage_from, EachCircuit, both_give}
use Rattle.sp_tree_circuits.proofs.Stages.{numbered_both, numbered_step, at_place, has_place, in_slot}
use Rattle.sp_tree_circuits.proofs.StageStands.{stage_nets, stage_scoped, StageStands, none_stand, next_stand}
use Rattle.sp_tree_circuits.proofs.Wanted.{says_wanted, none_told}

-- the acts of stages that are ready and started
module _ (core : PlainCore) (plan : PlainPlan) (delays : Delays) (s : Signals) (events : List Stamped) (last : ℕ) (near : List Near) (nets : (stage : ℕ) → Nets) (qs : (stage : ℕ) → List Scoped) (child : (stage : ℕ) → Child) where
  -- where a stage is ready and started it acts
  abbrev pub StageGoes : (node : PlainNode) (j n i : ℕ) → Circuit core plan s node near (nets i) j (child i) → Type 0
  StageGoes node j n i w = (t : ℕ) → t ≤ last → Ready core plan delays s events node near (nets i) j n (qs i) t → IsStarted s (child i).start (rans core plan delays node j n (placed (qs i))) t → Acts core plan delays s events t node near (nets i) j n (qs i) (child i) w

  abbrev pub IsReady : (t : ℕ) → PlainNode → (j n i : ℕ) → Type 0
  IsReady t node j n i = Ready core plan delays s events node near (nets i) j n (qs i) t

  abbrev pub Begun : (t : ℕ) → PlainNode → (j n i : ℕ) → Type 0
  Begun t node j n i = IsReady t node j n i × IsStarted s (child i).start (rans core plan delays node j n (placed (qs i))) t

  pub stages_act : (t : ℕ) → t ≤ last → (stages : PlainStages) (j n i : ℕ) (w : StageCircuits core plan s stages near j i nets child) → EachCircuit core plan s near nets child StageGoes stages j n i w → EachStage (Begun t) stages j n i → StagesAct core plan delays s events t stages near j n i nets qs child w
  stages_act t le no_stage j n i w goes begun = tt
  stages_act t le (more_stage first final comb node rest) j n i w goes begun = (goes.0 t le begun.0.0 begun.0.1, stages_act t le rest (j + node_count node) (n + number_count node) (suc i) w.1 goes.1 begun.1)

module _ (core : PlainCore) (plan : PlainPlan) (delays : Delays) (laws : Laws core plan delays) (s : Signals) (events : List Stamped) (last : ℕ) (near : List Near) (env : Nets) (around : Around) (earlier : List ℕ) (k n : ℕ) (counters : List PlainCounter) (style : Style) (owned : List ℕ) (stages : PlainStages)
    (right : IsRight core around earlier (outer counters style owned stages)) (is : IsTimed (outer counters style owned stages)) (c : Child) (w : Circuit core plan s (outer counters style owned stages) near env k c)
    (answered : EachBound core plan s (AreAnsweredInTime s events last) near env w.draft n counters w.part.counters.items w.bounds) (qs : List Scoped) (t : ℕ) (le : t ≤ last) (ready : Ready core plan delays s events (outer counters style owned stages) near env k n qs t)
    (goes : EachCircuit core plan s (own_near counters near) (stage_nets core plan delays laws s events last near env around earlier k n counters style owned stages right is c w answered qs t le ready) w.child (StageGoes core plan delays s events last (own_near counters near) (stage_nets core plan delays laws s events last near env around earlier k n counters style owned stages right is c w answered qs t le ready) (stage_scoped core plan delays laws s events last near env around earlier k n counters style owned stages right is c w answered qs t le ready) w.child) stages (suc k) (n + counters_size counters) 0 w.parts) where
  abbrev whole : PlainNode
  whole = outer counters style owned stages

  abbrev number : (stage : ℕ) → ℕ
  number i = number_at stages (n + counters_size counters) i

  abbrev scoped : (stage : ℕ) → List Scoped
  scoped i = stage_scoped core plan delays laws s events last near env around earlier k n counters style owned stages right is c w answered qs t le ready i

  pub same : (i : ℕ) → placed (scoped_stages core plan delays counters owned stages k n i qs) ≡ stage_runs core plan delays counters owned stages k n i (placed qs)
  same i = laws.parts.stages k n counters owned stages i qs

  abbrev ReadyAt : (u : ℕ) → PlainNode → (j m i : ℕ) → Type 0
  ReadyAt u node j m i = IsReady core plan delays s events last (own_near counters near) (stage_nets core plan delays laws s events last near env around earlier k n counters style owned stages right is c w answered qs t le ready) (stage_scoped core plan delays laws s events last near env around earlier k n counters style owned stages right is c w answered qs t le ready) w.child u node j m i

  -- what is asked of a stage
  pub stage_ready : (m : ℕ) → ((i : ℕ) → i < stage_count stages → StageStands core plan delays laws s events last near env around earlier k n counters style owned stages right is c w answered qs t le ready i m) → (i : ℕ) → i < stage_count stages → ReadyAt m (stage_at stages i) (node_at stages (suc k) i) (number i) i
  stage_ready m stands i few = record {
    from = ready.from;
    until = ready.until;
    did = record {
      done = laws.parts.stages_done k n counters style owned stages i qs ready.did.done;
      fits = subst (AllFit core plan delays (stage_at stages i)) (sym (same i)) ((laws.fits.outers k n counters style owned stages (placed qs) ready.did.fits).1 i);
      in_turn = subst (AreWithin core plan delays (stage_at stages i) (node_at stages (suc k) i) (number i) ready.from ready.until) (sym (same i))
          (laws.stages_turn k n counters style owned stages i (let z = w.size in omega (arith, z, few)) ready.from ready.until (placed qs) ready.did.in_turn);
    };
    told = subst (λ rs. AreEventsOf events (all_events core plan delays (stage_at stages i) (node_at stages (suc k) i) (number i) rs) (number i) (number_count (stage_at stages i))) (sym (same i))
        (of_part events (all core plan delays laws k n counters style owned stages qs ready.did.done is) (in_stage core plan delays laws k n counters style owned stages qs ready.did.done is i) n (number_count whole) (number i) (number_count (stage_at stages i)) ready.told
        (stage_of core plan delays laws k n counters style owned stages qs ready.did.done is i few) (let a = from_first stages (n + counters_size counters) i in omega (arith, a)) (let b = up_to_last stages (n + counters_size counters) i few in omega (arith, b)));
    stand = stands i few;
  }

  ready_stages : (m : ℕ) → ((i : ℕ) → i < stage_count stages → StageStands core plan delays laws s events last near env around earlier k n counters style owned stages right is c w answered qs t le ready i m) → EachStage (ReadyAt m) stages (suc k) (n + counters_size counters) 0
  ready_stages m stands = each_from (ReadyAt m) stages (suc k) (n + counters_size counters) 0 (λ i few. subst (ReadyAt m (stage_at stages i) (node_at stages (suc k) i) (number i)) {x = i} {y = 0 + i} (omega arith) (stage_ready m stands i few))

  -- each stage does its runs
  abbrev DoesSo : (u : ℕ) → PlainNode → (j m i : ℕ) → Type 0
  DoesSo u node j m i = Does s (w.child i) (rans core plan delays node j m (placed (scoped i))) u

  children_do : (m : ℕ) → m ≤ t → ((i : ℕ) → i < stage_count stages → StageStands core plan delays laws s events last near env around earlier k n counters style owned stages right is c w answered qs t le ready i m) → (i : ℕ) → i < stage_count stages → Does s (w.child i) (stage_rans core plan delays k n counters owned stages w.places i (placed qs)) m
  children_do m l stands i few =
      let each = both_give core plan s (own_near counters near) (stage_nets core plan delays laws s events last near env around earlier k n counters style owned stages right is c w answered qs t le ready) w.child (StageGoes core plan delays s events last (own_near counters near) (stage_nets core plan delays laws s events last near env around earlier k n counters style owned stages right is c w answered qs t le ready) (stage_scoped core plan delays laws s events last near env around earlier k n counters style owned stages right is c w answered qs t le ready) w.child) (ReadyAt m) (DoesSo m)
      (λ node j o i v runs so u a started. (part_of core plan delays s events u node (own_near counters near) (stage_nets core plan delays laws s events last near env around earlier k n counters style owned stages right is c w answered qs t le ready i) j o (scoped i) (w.child i) v
      (runs u (omega (arith, a, l, le)) (ready_earlier core plan delays s events node (own_near counters near) (stage_nets core plan delays laws s events last near env around earlier k n counters style owned stages right is c w answered qs t le ready i) j o (scoped i) m u a so) started)).ends)
      stages (suc k) (n + counters_size counters) 0 w.parts goes (ready_stages m stands) in
      subst (λ rs. Does s (w.child i) (rans core plan delays (stage_at stages i) (node_at stages (suc k) i) (number i) rs) m) (same i)
      (subst (DoesSo m (stage_at stages i) (node_at stages (suc k) i) (number i)) {x = 0 + i} {y = i} (omega arith) (stage_from (DoesSo m) stages (suc k) (n + counters_size counters) 0 each i few))

  -- members do them, and say whether they are wanted
  slots_do : (m : ℕ) → m ≤ t → ((i : ℕ) → i < stage_count stages → StageStands core plan delays laws s events last near env around earlier k n counters style owned stages right is c w answered qs t le ready i m)
      → ((x j i : ℕ) (mem : Member) → MemberCircuit s w.child counters stages w.nets w.rows w.places x j i mem → SaysWanted s mem.wanted (turn (slot_cycle (sizes w.places) x) (λ q. slot_found x q j) i) (λ q. slot_found x q j i) (groups_in (map (ran core plan delays laws s events last near env around earlier k n counters style owned stages right is c w answered qs t le ready) (placed qs))) m)
      → SlotsDo core plan delays k n counters owned stages w.places s (placed qs) m w.slots
  slots_do m l stands says =
      numbered_map _ _ 0 w.slots (λ x slot b f. numbered_map _ _ 0 slot.chains.items (λ j c d g. numbered_map (λ i mem. MemberCircuit s w.child counters stages w.nets w.rows w.places x j i mem) _ 0 c.members.items (λ i mem q h. one x j i mem h) g) f) w.members
    where
      one : (x j i : ℕ) (mem : Member) → MemberCircuit s w.child counters stages w.nets w.rows w.places x j i mem → MemberDoes core plan delays k n counters owned stages w.places s (shape_of w.slots) (placed qs) m x j i mem
      one x j i mem h = record {
        child = subst (λ (c : Child). Does s c (stage_rans core plan delays k n counters owned stages w.places (stage_in w.places x j i) (placed qs)) m) (sym h.part)
            (children_do m l stands (stage_in w.places x j i) (let a = (in_slot w.places (slots_of (node_plan plan k)) w.arranged x j i h.place).0 in let z = w.size in omega (arith, a, z)));
        wanted = subst (λ shape. SaysWanted s mem.wanted (turn (slot_cycle shape x) (λ q. slot_found x q j) i) (λ q. slot_found x q j i) (groups_in (map (ran core plan delays laws s events last near env around earlier k n counters style owned stages right is c w answered qs t le ready) (placed qs))) m) (sym w.shaped) (says x j i mem h);
      }

  -- all that is right up to a cycle
  record GoneTo (m : ℕ) : Type 0 where
    stepping : Stepping core plan delays laws s events last near env around earlier k n counters style owned stages right is c w answered qs t le ready m
    stands : (i : ℕ) → i < stage_count stages → StageStands core plan delays laws s events last near env around earlier k n counters style owned stages right is c w answered qs t le ready i m
    looping : Looping core plan delays laws s events last near env around earlier k n counters style owned stages right is c w answered qs t le ready m

  looping_at : (m : ℕ) → m ≤ t → IsStarted s c.start (rans core plan delays whole k n (placed qs)) m → Stepping core plan delays laws s events last near env around earlier k n counters style owned stages right is c w answered qs t le ready m → SlotsDo core plan delays k n counters owned stages w.places s (placed qs) m w.slots → Looping core plan delays laws s events last near env around earlier k n counters style owned stages right is c w answered qs t le ready m
  looping_at m l started stepping does =
      laws.loops s c.start w.nets.more w.part.step w.slots w.firsts c.done m k n counters style owned stages w.places ready.from ready.until (placed qs) w.circuit (outers core plan delays laws s events last near env around earlier k n counters style owned stages right is c w answered qs t le ready) ready.did.in_turn w.arranged w.shaped (takes core plan delays laws s events last near env around earlier k n counters style owned stages right is c w answered qs t le ready) stepping.1 does m (omega arith) started

  goes_to : (m : ℕ) → m ≤ t → IsStarted s c.start (rans core plan delays whole k n (placed qs)) m → GoneTo m
  goes_to zero l started =
      let stands = none_stand core plan delays laws s events last near env around earlier k n counters style owned stages right is c w answered qs t le ready in
      record {
        stepping = none_stepped core plan delays laws s events last near env around earlier k n counters style owned stages right is c w answered qs t le ready;
        stands = stands;
        looping = looping_at zero l started (none_stepped core plan delays laws s events last near env around earlier k n counters style owned stages right is c w answered qs t le ready) (slots_do zero l stands (λ x j i mem h. none_told core plan delays laws s events last near env around earlier k n counters style owned stages right is c w answered qs t le ready x j i mem));
      }
  goes_to (suc m) l started =
      let before = until_then (is_on s c.start) (Begins (rans core plan delays whole k n (placed qs))) (suc m) m (omega arith) started in
      let g = goes_to m (omega (arith, l)) before in
      let stepping = next_stepped core plan delays laws s events last near env around earlier k n counters style owned stages right is c w answered qs t le ready m (omega (arith, l)) before g.looping in
      let stands = next_stand core plan delays laws s events last near env around earlier k n counters style owned stages right is c w answered qs t le ready m l g.stepping g.looping in
      record {
        stepping = stepping;
        stands = stands;
        looping = looping_at (suc m) l started stepping (slots_do (suc m) l stands (λ x j i mem h. says_wanted core plan delays laws s events last near env around earlier k n counters style owned stages right is c w answered qs t le ready x j i mem h m stepping g.looping));
      }

  -- each stage is started in the cycles of its runs
  stage_started : (m : ℕ) → Looping core plan delays laws s events last near env around earlier k n counters style owned stages right is c w answered qs t le ready m → (i : ℕ) → i < stage_count stages → IsStarted s (w.child i).start (stage_rans core plan delays k n counters owned stages w.places i (placed qs)) m
  stage_started m g i few =
      let Started : ℕ → ℕ → ℕ → Type 0 = λ x j i. IsStarted s (w.child (stage_in w.places x j i)).start (stage_rans core plan delays k n counters owned stages w.places (stage_in w.places x j i) (placed qs)) m in
      let each = numbered_step _ (λ x (slot : Slot). Numbered (λ j (c : Chain). Numbered (λ i mem. Started x j i) 0 c.members.items) 0 slot.chains.items) 0 w.slots
      (λ x slot h. numbered_step _ (λ j (c : Chain). Numbered (λ i mem. Started x j i) 0 c.members.items) 0 slot.chains.items
      (λ j c h. numbered_step _ (λ i mem. Started x j i) 0 c.members.items
      (λ i mem h. subst (λ (c : Child). IsStarted s c.start (stage_rans core plan delays k n counters owned stages w.places (stage_in w.places x j i) (placed qs)) m) h.1.part h.0)
      (numbered_both (λ i (mem : Member). IsStarted s mem.child.start (stage_rans core plan delays k n counters owned stages w.places (stage_in w.places x j i) (placed qs)) m) (λ i mem. MemberCircuit s w.child counters stages w.nets w.rows w.places x j i mem) 0 c.members.items h.0 h.1))
      (numbered_both _ _ 0 slot.chains.items h.0 h.1))
      (numbered_both _ _ 0 w.slots g.starts w.members) in
      let h = has_place w.places (slots_of (node_plan plan k)) w.arranged i (let z = w.size in omega (arith, z, few)) in
      subst (λ o. IsStarted s (w.child o).start (stage_rans core plan delays k n counters owned stages w.places o (placed qs)) m) h.is
      (at_place Started w.slots w.places w.shaped each (slot_at (slots_of (node_plan plan k)) i).slot h.chain h.member h.place)

  -- what it is told up to a cycle, where it is started in time up to the cycle before
  pub record ToldTo (m : ℕ) : Type 0 where
    pub tells : TellsMore s w.nets.more w.slots m (map (ran core plan delays laws s events last near env around earlier k n counters style owned stages right is c w answered qs t le ready) (placed qs))
    pub stands : (i : ℕ) → i < stage_count stages → StageStands core plan delays laws s events last near env around earlier k n counters style owned stages right is c w answered qs t le ready i m
    pub members : AreMembers core plan delays s m w.child k n counters owned stages w.places (placed qs) w.slots
    pub begun : (u : ℕ) → suc u ≤ m → (i : ℕ) → i < stage_count stages → IsStarted s (w.child i).start (stage_rans core plan delays k n counters owned stages w.places i (placed qs)) u

  as_members : (m : ℕ) → ((x j i : ℕ) (mem : Member) → MemberCircuit s w.child counters stages w.nets w.rows w.places x j i mem → SaysWanted s mem.wanted (turn (slot_cycle (sizes w.places) x) (λ q. slot_found x q j) i) (λ q. slot_found x q j i) (groups_in (map (ran core plan delays laws s events last near env around earlier k n counters style owned stages right is c w answered qs t le ready) (placed qs))) m)
      → AreMembers core plan delays s m w.child k n counters owned stages w.places (placed qs) w.slots
  as_members m says =
      numbered_map _ _ 0 w.slots (λ x slot b f. numbered_map _ _ 0 slot.chains.items (λ j chain d g. numbered_map (λ i mem. MemberCircuit s w.child counters stages w.nets w.rows w.places x j i mem) _ 0 chain.members.items (λ i mem q h. one x j i mem h) g) f) w.members
    where
      one : (x j i : ℕ) (mem : Member) → MemberCircuit s w.child counters stages w.nets w.rows w.places x j i mem → IsMember core plan delays s m w.child k n counters owned stages w.places (shape_of w.slots) (placed qs) x j i mem
      one x j i mem h = record {
        stage = (let a = (in_slot w.places (slots_of (node_plan plan k)) w.arranged x j i h.place).0 in let z = w.size in omega (arith, a, z));
        part = h.part;
        wanted = subst (λ shape. SaysWanted s mem.wanted (turn (slot_cycle shape x) (λ q. slot_found x q j) i) (λ q. slot_found x q j i) (groups_in (map (ran core plan delays laws s events last near env around earlier k n counters style owned stages right is c w answered qs t le ready) (placed qs))) m) (sym w.shaped) (says x j i mem h);
      }

  pub told_to : (m : ℕ) → m ≤ t → ((u : ℕ) → suc u ≤ m → IsStarted s c.start (rans core plan delays whole k n (placed qs)) u) → ToldTo m
  told_to zero l started = record {
    tells = (none_stepped core plan delays laws s events last near env around earlier k n counters style owned stages right is c w answered qs t le ready).1;
    stands = none_stand core plan delays laws s events last near env around earlier k n counters style owned stages right is c w answered qs t le ready;
    members = as_members zero (λ x j i mem h. none_told core plan delays laws s events last near env around earlier k n counters style owned stages right is c w answered qs t le ready x j i mem);
    begun = λ u few i low. absurd (omega (arith, few));
  }
  told_to (suc m) l started =
      let g = goes_to m (omega (arith, l)) (started m (omega arith)) in
      let stepping = next_stepped core plan delays laws s events last near env around earlier k n counters style owned stages right is c w answered qs t le ready m (omega (arith, l)) (started m (omega arith)) g.looping in
      record {
        tells = stepping.1;
        stands = next_stand core plan delays laws s events last near env around earlier k n counters style owned stages right is c w answered qs t le ready m l g.stepping g.looping;
        members = as_members (suc m) (λ x j i mem h. says_wanted core plan delays laws s events last near env around earlier k n counters style owned stages right is c w answered qs t le ready x j i mem h m stepping g.looping);
        begun = λ u few i low. stage_started u (goes_to u (omega (arith, few, l)) (started u few)).looping i low;
      }

  pub loop_acts : IsStarted s c.start (rans core plan delays whole k n (placed qs)) t → Acts core plan delays s events t whole near env k n qs c w
  loop_acts started =
      let g = goes_to t (omega arith) started in
      let BegunSo : PlainNode → ℕ → ℕ → ℕ → Type 0 = λ node j m i. Begun core plan delays s events last (own_near counters near) (stage_nets core plan delays laws s events last near env around earlier k n counters style owned stages right is c w answered qs t le ready) (stage_scoped core plan delays laws s events last near env around earlier k n counters style owned stages right is c w answered qs t le ready) w.child t node j m i in (
        record { starts = started; ends = g.looping.ends },
        g.looping,
        stages_act core plan delays s events last (own_near counters near) (stage_nets core plan delays laws s events last near env around earlier k n counters style owned stages right is c w answered qs t le ready) (stage_scoped core plan delays laws s events last near env around earlier k n counters style owned stages right is c w answered qs t le ready) w.child t le stages (suc k) (n + counters_size counters) 0 w.parts goes
            (each_from BegunSo stages (suc k) (n + counters_size counters) 0 (λ i few. subst (BegunSo (stage_at stages i) (node_at stages (suc k) i) (number i)) {x = i} {y = 0 + i} (omega arith)
            (stage_ready t g.stands i few, subst (λ rs. IsStarted s (w.child i).start (rans core plan delays (stage_at stages i) (node_at stages (suc k) i) (number i) rs) t) (sym (same i)) (stage_started t g.looping i few)))),
      )
