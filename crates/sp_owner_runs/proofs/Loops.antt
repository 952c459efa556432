-- What the nets of a loop's slots do to the memories that it owns.
use Rattle.std.proofs.Common.{◌≡◌, ℕ, zero, suc, ◌+◌, ◌<◌, ◌≤◌, Bool, true, false, if◌then◌else◌, List, [], length, map, slice_index, Option, Some, None, refl, sym, ap, subst, ◌∙◌, arith}
use Rattle.std.specs.List.{Contains}
use Rattle.sp_words.specs.declared.kind.Style.{Style}
use Rattle.sp_netlist.specs.declared.parts.Child.{Child}
use Rattle.sp_netlist.specs.Signals.{Signals}
use Rattle.sp_gates.specs.Tested.{is_on}
use Rattle.sp_core.specs.Around.{Around, Near}
use Rattle.sp_core.specs.Declarations.{is_among}
use Rattle.sp_core.specs.Invariant.{owned_in_stages, IsRight}
use Rattle.sp_core.specs.Numbering.{counters_size}
use Rattle.sp_core.specs.PlainCore.{PlainCounter, PlainNode, PlainStages, outer, PlainCore}
use Rattle.sp_beat_words.specs.Numbers.{next_copy, copy_number, coming_number}
use Rattle.sp_part_runs.specs.BodiesRuns.{IsOnAt}
use Rattle.sp_part_runs.specs.BeatsRuns.{slot_cycle, groups_in}
use Rattle.sp_part_runs.specs.SequencesChains.{Numbered, At}
use Rattle.sp_part_runs.specs.SequencesPlaces.{sizes}
use Rattle.sp_plan.specs.PlainPlan.{PlainPlan, mem_plan, node_plan}
use Rattle.sp_plan.specs.Validity.{stage_count}
use Rattle.sp_time.specs.Beats.{slot_at}
use Rattle.sp_machine.specs.Stamps.{Stamped}
use Rattle.sp_machine.specs.Timeline.{slots_of}
use Rattle.sp_mem.specs.Copies.{copy_at}
use Rattle.sp_copy_nets.specs.Numbers.{IsComing}
use Rattle.sp_machine.specs.Transfers.{Delays}
use Rattle.sp_overlap.specs.Whole.{IsTimed}
use Rattle.sp_node_runs.specs.Runs.{Placed, over_at, stage_at, node_at, number_at}
use Rattle.sp_node_runs.specs.RunsTold.{all_events}
use Rattle.sp_node_runs.specs.ControlBeating.{AreOuters, beats_ran, TakeTime, LoopGoes}
use Rattle.sp_node_runs.specs.ControlLaws.{IsStarted}
use Rattle.sp_node_runs.specs.ControlRuns.{rans}
use Rattle.sp_node_runs.specs.BodiesGiven.{Nets}
use Rattle.sp_node_runs.specs.BodiesRows.{IsInStage}
use Rattle.sp_node_runs.proofs.BodiesListed.{none_there, mapped_to, mapped_from}
use Rattle.sp_tree_runs.specs.BodiesScoped.{Scoped, placed, scoped_stages}
use Rattle.sp_tree_circuits.specs.Circuits.{Circuit}
use Rattle.sp_tree_circuits.specs.Laws.{DidRuns}
use Rattle.sp_tree_events.specs.ActsRenewing.{Renews}
use Rattle.sp_tree_events.specs.CopiesLaws.{NumbersGo}
use Rattle.sp_tree_events.specs.CopiesStanding.{CopyNets, AreNumbered, with_numbers}
use Rattle.sp_tree_events.specs.OwnersOwning.{renewed, kept, Shows}
use Rattle.sp_tree_handed.specs.declared.owners.Renewal.{Renewal}
use Rattle.sp_tree_handed.specs.Owners.{first_use, renewal}
use Rattle.sp_tree_copies.specs.Naming.{HaveCopies, LoopNumbers, renewed_by}
use Rattle.sp_owner_runs.specs.Acting.{IsRenewed}
use Rattle.sp_owner_runs.specs.Given.{Laws}
use Rattle.sp_owner_runs.specs.Standing.{StandCopies}
use Rattle.sp_owner_runs.specs.Standing.{StandCopies}
use Rattle.sp_owner_runs.proofs.Among.{never_both, contains_among, among_contained}
use Rattle.sp_owner_runs.proofs.Apart.{of_core, not_of_stage, not_of_stages}
use Rattle.sp_owner_runs.proofs.Joining.{ActOn}
use Rattle.sp_owner_runs.proofs.Owned.{states_owned}
use Rattle.sp_tree_copies.proofs.Slots.{firsts_long, numbered_at, used_below}
use Rattle.sp_owner_runs.proofs.StageCopies.{of_run}
use Rattle.sp_owner_runs.proofs.StagePlaces.{has_place}
use Rattle.sp_owner_runs.proofs.Telling.{deed_is}

-- of one copy the number is 0
one_copy : (start first : ℕ → Bool) (t : ℕ) → copy_number start first 1 t ≡ 0
unfolding copy_number
one_copy start first zero = refl
one_copy start first (suc t) = by (start t) (first t) (one_copy start first t)
  where
    by : (a b : Bool) → copy_number start first 1 t ≡ 0 → (if a then 0 else (if b then next_copy 1 (copy_number start first 1 t) else copy_number start first 1 t)) ≡ 0
    by true b e = refl
    by false true e = ap (next_copy 1) e
    by false false e = e

coming_one : (start first : ℕ → Bool) (t : ℕ) → coming_number start first 1 t ≡ 0
coming_one start first t = by (first t) (one_copy start first t)
  where
    by : (b : Bool) → copy_number start first 1 t ≡ 0 → (if b then next_copy 1 (copy_number start first 1 t) else copy_number start first 1 t) ≡ 0
    by true e = ap (next_copy 1) e
    by false e = e

-- a net that has the number which comes has it in each cycle
comes_at : (s : Signals) (start first depth u : ℕ) (net : Option ℕ) → IsComing s start first depth net → copy_at s u net ≡ coming_number (is_on s start) (is_on s first) depth u
comes_at s start first depth u None e = sym (ap (λ d. coming_number (is_on s start) (is_on s first) d u) e ∙ coming_one (is_on s start) (is_on s first) u)
comes_at s start first depth u (Some net) h = h u

module _ (core : PlainCore) (plan : PlainPlan) (delays : Delays) (laws : Laws core plan delays) (have : HaveCopies core plan) (s : Signals) (t : ℕ) (near : List Near) (env : Nets) (around : Around) (earlier : List ℕ) (k n : ℕ) (counters : List PlainCounter) (style : Style) (owned : List ℕ) (stages : PlainStages) (from until : ℕ) (qs : List Scoped) (c : Child)
    (is : IsTimed (outer counters style owned stages)) (right : IsRight core around earlier (outer counters style owned stages)) (did : DidRuns core plan delays (outer counters style owned stages) k n from until qs) (w : Circuit core plan s (outer counters style owned stages) near env k c)
    (copies : CopyNets) (stand : StandCopies core plan delays s (outer counters style owned stages) k n qs copies (suc t)) (loop : LoopNumbers plan s c.start w.firsts owned)
    (started : IsStarted s c.start (rans core plan delays (outer counters style owned stages) k n (placed qs)) t) (goes : LoopGoes core plan delays k n counters owned stages w.places s w.part.step w.slots w.firsts c.done t style (placed qs)) where
  abbrev whole : PlainNode
  whole = outer counters style owned stages

  abbrev events : List Stamped
  events = all_events core plan delays whole k n (placed qs)

  abbrev first_by : (mem : ℕ) → ℕ
  first_by m = first_use core (node_plan plan k) stages m

  abbrev net_of : (mem : ℕ) → ℕ
  net_of m = slice_index w.firsts (first_by m)

  outers : AreOuters (placed qs)
  outers = (laws.fits.outers k n counters style owned stages (placed qs) did.fits).0

  takes : TakeTime core plan delays k n counters owned stages w.places (placed qs)
  takes = laws.takes k n counters style owned stages w.places (placed qs) did.fits is.1 w.arranged w.size

  long : length w.firsts ≡ length w.places
  long = firsts_long _ _ s _ w.slots w.firsts w.places w.circuit.starts w.shaped

  first_cycles : Numbered (λ x net. IsOnAt (is_on s net) (At (slot_cycle (sizes w.places) x) (groups_in (map (beats_ran core plan delays k n counters owned stages w.places) (placed qs)))) t) 0 w.firsts
  first_cycles = subst (λ shape. Numbered (λ x net. IsOnAt (is_on s net) (At (slot_cycle shape x) (groups_in (map (beats_ran core plan delays k n counters owned stages w.places) (placed qs)))) t) 0 w.firsts) w.shaped goes.first_cycles

  around_stand : (r : Placed) (u : ℕ) → Contains (placed qs) r → r.cycle < u → u < over_at core plan delays whole k n r → u ≤ suc t → AreNumbered s u copies r.copies
  around_stand r u there low high late =
      let x = mapped_from (λ (q : Scoped). q.run) qs r there in
      subst (λ (y : Placed). y.cycle < u → u < over_at core plan delays whole k n y → AreNumbered s u copies y.copies) x.2 (λ low high. stand x.0 u x.1 (omega (arith, low)) high late) low high

  numbers : NumbersGo core plan delays s c.start w.firsts loop.numbers t k n counters owned stages w.places copies (placed qs)
  numbers =
      laws.numbers s c.start w.firsts loop.numbers t k n counters style owned stages w.places copies from until (placed qs) outers did.in_turn w.arranged takes (let l = long in omega (arith, l))
      (λ m own. have m (of_core core around earlier counters style owned stages right m own)) loop.stand started first_cycles around_stand

  -- around each stage, as long as it goes on, the numbers of its slot stand
  abbrev pub slot_of : (stage : ℕ) → ℕ
  slot_of i = (slot_at (slots_of (node_plan plan k)) i).slot

  pub stage_stands : (i : ℕ) → i < stage_count stages → StandCopies core plan delays s (stage_at stages i) (node_at stages (suc k) i) (number_at stages (n + counters_size counters) i) (scoped_stages core plan delays counters owned stages k n i qs) (with_numbers copies owned (loop.numbers (slot_of i))) (suc t)
  stage_stands i few x u there low high late =
      let whose = of_run core plan delays k n counters owned stages i qs x there in
      let a = whose.group_run.cycle in
      let b = whose.group_run.took in
      let place = has_place w.places (slots_of (node_plan plan k)) w.arranged i (let z = w.size in omega (arith, z, few)) in
      let p = place.place.0 in
      let l = long in
      let at_work = subst (λ m. IsInStage core plan delays k n counters owned stages w.places whose.run.run whose.group_run.group m u) (sym place.is) (omega (arith, a, low), omega (arith, a, b, high)) in
      subst (AreNumbered s u (with_numbers copies owned (loop.numbers (slot_of i)))) (sym whose.group_run.copies)
      (numbers.stand whose.run.run whose.group_run.group (slot_of i) place.chain place.member u (mapped_to (λ (q : Scoped). q.run) qs whose.run whose.there) whose.group_run.below (omega (arith, p, l)) place.place at_work late)

  module _ (m : ℕ) (own : is_among m owned ≡ true) where
    below : first_by m < length w.firsts
    below = let b = used_below core m stages (node_plan plan k) w.places w.arranged w.size in let l = long in omega (arith, b, l)

    renews_so : Renews s events m (net_of m) (coming_number (is_on s c.start) (is_on s (net_of m)) (mem_plan plan m).depth) t
    renews_so =
        laws.loops s c.start w.firsts loop.numbers t k n counters style owned stages w.places copies (placed qs) m outers w.arranged takes is.1 own (not_of_stage core around earlier counters style owned stages right m own)
        (let l = long in omega (arith, l)) below
        (subst (λ x. IsOnAt (is_on s (net_of m)) (At (slot_cycle (sizes w.places) x) (groups_in (map (beats_ran core plan delays k n counters owned stages w.places) (placed qs)))) t)
        {x = 0 + first_by m} {y = first_by m} (omega arith)
        (numbered_at (λ x net. IsOnAt (is_on s net) (At (slot_cycle (sizes w.places) x) (groups_in (map (beats_ran core plan delays k n counters owned stages w.places) (placed qs)))) t) 0 w.firsts (first_by m) below first_cycles)) numbers

    comes : (u : ℕ) → copy_at s u (loop.coming (first_by m) m) ≡ coming_number (is_on s c.start) (is_on s (net_of m)) (mem_plan plan m).depth u
    comes u = comes_at s c.start (net_of m) (mem_plan plan m).depth u (loop.coming (first_by m) m) (loop.come (first_by m) below m own)

    shown : (u : ℕ) → u ≤ t → is_on s (net_of m) u ≡ true → Shows events u (copy_at s u (loop.coming (first_by m) m)) (renewed m)
    shown u le on = subst (λ copy. Shows events u copy (renewed m)) (sym (comes u)) (renews_so.only u le on)

    told : (u copy : ℕ) → u ≤ t → Shows events u copy (renewed m) → IsRenewed s u m copy (renewed_by first_by w.firsts loop.coming owned)
    told u copy le h =
        let x = renews_so.made u copy le h in
        (renewal m (net_of m) (loop.coming (first_by m) m), mapped_to (λ m. renewal m (net_of m) (loop.coming (first_by m) m)) owned m (contains_among m owned own), refl, x.0, comes u ∙ x.1)

  renewal_acts : (r : Renewal) (u : ℕ) → Contains (renewed_by first_by w.firsts loop.coming owned) r → u ≤ t → is_on s r.first u ≡ true → (is_among r.mem owned ≡ true) × Shows events u (copy_at s u r.copy) (renewed r.mem)
  renewal_acts r u there le on =
      let x = mapped_from (λ m. renewal m (net_of m) (loop.coming (first_by m) m)) owned r there in
      let own = among_contained x.0 owned x.1 in
      subst (λ (r : Renewal). is_on s r.first u ≡ true → (is_among r.mem owned ≡ true) × Shows events u (copy_at s u r.copy) (renewed r.mem)) x.2 (λ on. (own, shown x.0 own u le on)) on

  none_kept : (u copy m v : ℕ) → is_among m owned ≡ true → Shows events u copy (kept m v) → ⊥
  none_kept u copy m v own h = never_both (is_among m (owned_in_stages stages)) (states_owned stages m (deed_is core plan delays laws whole k n (placed qs) u copy (kept m v) h is)) (not_of_stages core around earlier counters style owned stages right m own)

  pub loop_acts : ActOn core s t events owned (renewed_by first_by w.firsts loop.coming owned) []
  loop_acts = record {
    renews = renewal_acts;
    keeps = λ k u there le on. absurd (none_there k there);
    all_renewals = λ u copy m le own counts h. told m own u copy le h;
    all_keepings = λ u copy m v le own h. absurd (none_kept u copy m v own h);
  }
