-- The words of a DRAM are those that stand in the timeline.
use Rattle.std.proofs.Common.{◌≡◌, ℕ, zero, suc, ◌<◌, ◌≤◌, ◌==◌, Bool, true, false, IsTrue, List, [], ◌∷◌, Option, Some, None, if◌then◌else◌, refl, sym, ap, subst, ◌∙◌, arith, eqb-true, eq-eqb}
use Rattle.std.specs.List.{Contains}
use Rattle.std.proofs.lemmas.Bool.{and_parts, and_from}
use Rattle.sp_words.specs.Memory.{Contents}
use Rattle.sp_words.specs.Ports.{PlainInput}
use Rattle.sp_netlist.specs.Signals.{Signals}
use Rattle.sp_core.specs.Declarations.{kind_of, dims, dram_number}
use Rattle.sp_core.specs.Elements.{row_major}
use Rattle.sp_core.specs.Events.{writes, Event, Moment, touches}
use Rattle.sp_core.specs.Meeting.{changes, element}
use Rattle.sp_core.specs.PlainCore.{PlainCore}
use Rattle.sp_plan.specs.PlainPlan.{PlainPlan}
use Rattle.sp_time.specs.Events.{change_at, changed_by}
use Rattle.sp_time.specs.Lists.{Each}
use Rattle.sp_time.specs.Places.{is_place}
use Rattle.sp_machine.specs.Found.{events_of, event_of, element_of, does, ActSees, Sees, one_cell}
use Rattle.sp_machine.specs.InOrder.{is_done, does_change}
use Rattle.sp_machine.specs.Stamps.{Stamped}
use Rattle.sp_machine.specs.Timeline.{core_timed}
use Rattle.sp_machine.specs.Transfers.{Delays}
use Rattle.sp_contents.specs.Found.{first_contents}
use Rattle.sp_contents.specs.Steady.{IsAllowed}
use Rattle.sp_transfer_runs.specs.Told.{DoesAt, AreFoundInDram}
use Rattle.sp_memory_words.specs.Moments.{IsAt, HappensWell}
use Rattle.sp_memory_words.specs.Registers.{standing}
use Rattle.sp_memory_words.proofs.Finding.{of_event, each_at, changed_at, stands_at_first}
use Rattle.sp_bank_words.specs.Accesses.{reads_in, writes_in}
use Rattle.sp_bank_words.proofs.Filtered.{read_from, write_from, write_to}
use Rattle.sp_dram_words.specs.Units.{StoreUnit, nets_of, word_after}
use Rattle.sp_dram_words.specs.Laws.{dram_dims, dram_size, dram_place, IsDramOf, DramsHold, LoadsFind, DramsEnd}
use Rattle.sp_dram_words.proofs.Units.{stores, word_stays, word_becomes}
use Rattle.sp_dram_words.proofs.Changes.{element_changed, one_word, cell_word, element_at, first_word, IsStored, change_stores, does_store, may_read, seen}

module _ (core : PlainCore) (plan : PlainPlan) (input : PlainInput) (run : List Stamped) (well : HappensWell core plan run (first_contents core input))
    (s : Signals) (last r : ℕ) (units : List StoreUnit) (is : IsDramOf core input s run last r units) where
  abbrev stands : (t i : ℕ) → Option Contents
  stands t i = standing core run (first_contents core input) t (dram_place core r i)

  abbrev change : (t i : ℕ) → Option Moment
  change t i = change_at does_change is_place (events_of core run) t (dram_place core r i)

  abbrev stamp : (t c : ℕ) → Event → Stamped
  stamp t c e = record { cycle = t; copy = c; moment = touches e }

  -- an event at the DRAM is at the place of its element
  at_place : (t c i : ℕ) (e : Event) → IsAt run t c (touches e) → e.mem ≡ dram_number core r → row_major (dram_dims core r) e.indices ≡ i → (event_of core (stamp t c e)).place ≡ dram_place core r i
  at_place t c i e there h at =
      let one : c ≡ 0 = is.one t c e there h in
      let place : element (kind_of core e.mem) (dims core e.mem) e.indices ≡ i = element_at core r e.mem e.indices h ∙ at in
      λ j. record { mem = h j; copy = one j; element = place j }

  -- one that writes is the change there
  write_changes : (t c i w : ℕ) (e : Event) → IsAt run t c (touches e) → e.mem ≡ dram_number core r → row_major (dram_dims core r) e.indices ≡ i → e.act ≡ writes w → change t i ≡ Some (touches e)
  write_changes t c i w e there h at act =
      of_event core (λ y. y.cycle ≡ t → y.place ≡ dram_place core r i → IsTrue (does_change y.act) → change_at does_change is_place (events_of core run) t (dram_place core r i) ≡ Some y.act) run (stamp t c e) refl
      (well.in_time.only t (dram_place core r i)) there refl (at_place t c i e there h at) (ap changes act)

  -- a unit stores by an event that is the change there
  record IsByEvent (t i word : ℕ) : Type 0 where
    event : Event
    changed : change t i ≡ Some (touches event)
    act : event.act ≡ writes word

  unit_changes : (t i : ℕ) (u : StoreUnit) → t ≤ last → Contains units u → stores (s.net t) i u.nets ≡ true → IsByEvent t i (s.net t u.nets.word)
  unit_changes t i u l there on =
      let parts = and_parts (s.net t u.nets.ready == 1) (s.net t u.nets.address == i) on in
      let acts = is.in_time.acts u there in
      let wrote = acts.enabled.only t l parts.0 in
      let d = wrote.2 in
      let from = write_from run (dram_number core r) t d.happens.copy d.event d.happens.there in
      let address : s.net t u.nets.address ≡ row_major (dram_dims core r) wrote.0 = acts.at t wrote.0 wrote.1 l d in
      let here : s.net t u.nets.address ≡ i = eqb-true _ _ parts.1 in
      let at : row_major (dram_dims core r) d.event.indices ≡ i = ap (row_major (dram_dims core r)) d.at ∙ sym address ∙ here in
      record { event = d.event; changed = write_changes t d.happens.copy i wrote.1 d.event from.there from.mem at d.does; act = d.does ∙ ap writes (sym (acts.words t wrote.0 wrote.1 l d)) }

  none_some : (x : Moment) (o : Option Moment) → o ≡ None → o ≡ Some x → ⊥
  none_some x o a b = absurd (cc (a, b))

  both_same : (x y : Moment) (o : Option Moment) → o ≡ Some x → o ≡ Some y → x ≡ y
  both_same x y o a b = cc (a, b)

  step : (t i : ℕ) → suc t ≤ suc last → i < dram_size core r → stands t i ≡ one_cell core (s.dram t r i) → stands (suc t) i ≡ one_cell core (s.dram (suc t) r i)
  step t i l below has = by (change t i) refl
    where
      late : t ≤ last
      late = omega (arith, l)

      goes : s.dram (suc t) r i ≡ word_after (nets_of units) (s.net t) i (s.dram t r i)
      goes = is.runs.goes t i below

      next : (o : Option Moment) → change t i ≡ o → stands (suc t) i ≡ changed_by (does core) o (stands t i)
      next o h = well.in_time.next t (dram_place core r i) ∙ ap (λ z. changed_by (does core) z (stands t i)) h

      becomes : (x : Moment) → change t i ≡ Some x → (st : IsStored core r x) → IsAt run t 0 x → s.dram (suc t) r i ≡ st.word
      becomes x some st there =
          let e = st.event in
          let here : IsAt run t 0 (touches e) = subst (IsAt run t 0) st.is there in
          let touched : element_of core (touches e) ≡ i = subst (λ y. element_of core y ≡ i) st.is (element_changed core run t (dram_place core r i) x some) in
          let at : row_major (dram_dims core r) e.indices ≡ i = sym (element_at core r e.mem e.indices st.mem_is) ∙ touched in
          let written : Contains (writes_in (dram_number core r) run) (stamp t 0 e) = write_to run (dram_number core r) t 0 e (record { there = here; mem = st.mem_is; word = st.word; act = st.act }) in
          let has_unit = is.in_time.has_each e.number t late (e, record { copy = 0; there = written; numbered = refl }) in
          let u = has_unit.0 in
          let d : DoesAt (writes_in (dram_number core r) run) u.number t e.indices (writes st.word) =
          record { event = e; happens = record { copy = 0; there = written; numbered = sym has_unit.2 }; at = refl; does = st.act } in
          let acts = is.in_time.acts u has_unit.1 in
          let ready : (s.net t u.nets.ready == 1) ≡ true = acts.enabled.on t late (e.indices, st.word, d) in
          let address : (s.net t u.nets.address == i) ≡ true = eq-eqb _ _ (acts.at t e.indices st.word late d ∙ at) in
          goes
          ∙ word_becomes (s.net t) i st.word units (s.dram t r i) (λ v k on. let c = unit_changes t i v late k on in one_word c.event e (s.net t v.nets.word) st.word (both_same (touches c.event) x (change t i) c.changed some ∙ st.is) c.act st.act)
          u has_unit.1 (and_from _ _ ready address)

      by : (o : Option Moment) → change t i ≡ o → stands (suc t) i ≡ one_cell core (s.dram (suc t) r i)
      by None none =
          next None none ∙ has
          ∙ ap (one_cell core) (sym (goes ∙ word_stays (s.net t) i (s.dram t r i) units (s.dram t r i) (λ u k on. let c = unit_changes t i u late k on in absurd (none_some (touches c.event) (change t i) none c.changed)) refl))
      by (Some x) some =
          let is_change = changed_at core run t (dram_place core r i) x some in
          let st = change_stores core r x is_change.mem is_change.changes (each_at (λ y. IsAllowed core y.moment) run _ well.allowed is_change.there) in
          next (Some x) some ∙ does_store core r x st (stands t i) ∙ ap (one_cell core) (sym (becomes x some st is_change.there))

  pub hold : (t i : ℕ) → t ≤ suc last → i < dram_size core r → stands t i ≡ one_cell core (s.dram t r i)
  hold zero i l below = stands_at_first core run (first_contents core input) (dram_place core r i) ∙ first_word core r input i ∙ ap (one_cell core) (sym (is.runs.begins i below))
  hold (suc t) i l below = step t i l below (hold t i (omega (arith, l)) below)

  pub find : (number : ℕ) → AreFoundInDram s r (dram_dims core r) (reads_in (dram_number core r) run) (suc last) number
  find number t indices w l d =
      let e = d.event in
      let from = read_from run (dram_number core r) t d.happens.copy e d.happens.there in
      let inside = may_read core r e.mem e.indices e.act w from.mem d.does (each_at (λ y. IsAllowed core y.moment) run _ well.allowed from.there) in
      let sees : ActSees core e.mem e.indices e.act (stands t (row_major (dram_dims core r) e.indices)) =
      subst (λ p. Sees core (touches e) (standing core run (first_contents core input) t p)) (at_place t d.happens.copy (row_major (dram_dims core r) e.indices) e from.there from.mem refl)
      (of_event core (λ y. Sees core y.act (standing core run (first_contents core input) y.cycle y.place)) run (stamp t d.happens.copy e) refl well.in_time.finds from.there) in
      let same : s.dram t r (row_major (dram_dims core r) e.indices) ≡ w =
      cell_word core _ w (sym (hold t (row_major (dram_dims core r) e.indices) l inside) ∙ seen core r e.mem e.indices e.act w (stands t (row_major (dram_dims core r) e.indices)) from.mem d.does sees) in
      subst (λ is. s.dram t r (row_major (dram_dims core r) is) ≡ w) d.at same

pub drams_hold : (core : PlainCore) (plan : PlainPlan) → DramsHold core plan
drams_hold core plan input run well s last r units is = hold core plan input run well s last r units is

pub loads_find : (core : PlainCore) (plan : PlainPlan) → LoadsFind core plan
loads_find core plan input run well s last r units is = find core plan input run well s last r units is

-- what is over by a cycle is by a later one
still_over : (core : PlainCore) (over t : ℕ) → over ≤ t → (run : List Stamped) → Each (λ (x : Stamped). x.cycle < over) run → Each (λ e. e.cycle < t) (events_of core run)
still_over core over t l [] h = tt
still_over core over t l (x ∷ run) h = by (is_done core x.moment) (still_over core over t l run h.1)
  where
    by : (b : Bool) → Each (λ e. e.cycle < t) (events_of core run) → Each (λ e. e.cycle < t) (if b then event_of core x ∷ events_of core run else events_of core run)
    by true rest = (let soon : x.cycle < over = h.0 in omega (arith, soon, l), rest)
    by false rest = rest

pub drams_end : (core : PlainCore) (plan : PlainPlan) (delays : Delays) → DramsEnd core plan delays
drams_end core plan delays input h end found well s last r units few is over all t i past l below =
    cell_word core _ _
    (sym (hold core plan input (core_timed core plan delays h).events well s last r units is t i l below)
    ∙ well.in_time.last t (dram_place core r i) (still_over core over t past (core_timed core plan delays h).events all) ∙ found.drams r i few below)
