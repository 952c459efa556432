-- A memory's copies hold the words of the timeline.
use Rattle.std.proofs.Common.{◌≡◌, ℕ, zero, suc, ◌+◌, ◌<◌, ◌≤◌, ◌==◌, inr, true, List, length, slice_index_or, All, Option, Some, None, refl, sym, ap, subst, ◌∙◌, arith, eq-eqb, eqb-true}
use Rattle.std.specs.List.{Contains}
use Rattle.std.specs.Prelude.{is_some}
use Rattle.std.proofs.lemmas.Bool.{false≢true}
use Rattle.sp_bank.specs.Places.{IsInside}
use Rattle.sp_words.specs.declared.kind.Kind.TheVariants.{Sram}
use Rattle.sp_words.specs.Memory.{Contents}
use Rattle.sp_netlist.specs.Signals.{Signals}
use Rattle.sp_gates.specs.Tested.{is_on}
use Rattle.sp_core.specs.declared.operation.OpKind.TheVariants as kind
use Rattle.sp_core.specs.Declarations.{mem, kind_of, dims}
use Rattle.sp_core.specs.Elements.{row_major}
use Rattle.sp_core.specs.Events.{reads, writes, Event, Moment, touches}
use Rattle.sp_core.specs.Forms.{PlainForms}
use Rattle.sp_core.specs.Meeting.{changes}
use Rattle.sp_core.specs.PlainCore.{PlainCore}
use Rattle.sp_plan.specs.PlainPlan.{PlainPlan, mem_plan}
use Rattle.sp_time.specs.Events.{content, change_at, changed_by}
use Rattle.sp_time.specs.Places.{Place, is_place}
use Rattle.sp_machine.specs.Found.{event_of, events_of, does, Sees, one_cell}
use Rattle.sp_machine.specs.InOrder.{memory_of, does_change}
use Rattle.sp_machine.specs.Stamps.{Stamped}
use Rattle.sp_mem.specs.declared.part.Touch.{Touch}
use Rattle.sp_mem.specs.Copies.{copy_at}
use Rattle.sp_requests.specs.Elements.{are_same, element_at, element_after}
use Rattle.sp_requests.proofs.Found.{and_first, and_second, and_all}
use Rattle.sp_requests.proofs.Writing.{same_indices, same_itself}
use Rattle.sp_banked.specs.declared.part.Banked.{Banked}
use Rattle.sp_banked.specs.Runs.{RunsBanked}
use Rattle.sp_banked.specs.Laws.{contents, BankedLaws}
use Rattle.sp_node_runs.specs.BodiesTold.{Happens}
use Rattle.sp_plan.specs.Ports.{has_banks}
use Rattle.sp_core_ports.specs.UsedPorts.{HasDuplicate}
use Rattle.sp_core_ports.specs.UsedReaders.{duplicate_at}
use Rattle.sp_core_ports.specs.CopiesLaws.{HasCopy}
use Rattle.sp_bank_words.specs.Accesses.{reads_in, writes_in, IsWriteOf, IsMemoryOf}
use Rattle.sp_bank_words.specs.Acting.{WriteGoes, IsAnswered, SomeReads, ReadGoes, MemoryGoes}
use Rattle.sp_bank_words.specs.Laws.{ServedInTime, AreFound, HoldsWords, WordsStand, MemoriesHoldWords}
use Rattle.sp_bank_words.proofs.Acts.{word_or, act_word, act_or, moment_act, sram_there}
use Rattle.sp_bank_words.proofs.Events.{each_at, word_behind, event_there, Comes, change_comes, first_content}
use Rattle.sp_bank_words.proofs.Filtered.{IsReadAt, IsWriteAt, read_from, write_from, write_to}
use Rattle.sp_bank_words.proofs.Serving.{zip_both, write_element, read_element, write_acts, read_inside, write_inside, duplicate_below, writes_have, served}
use Rattle.sp_bank_words.proofs.Elements.{one_number, passing, at_number, with_each, zip_map, is_here, element_kept, element_written}

module _ (core : PlainCore) (plan : PlainPlan) (forms : PlainForms) (s : Signals) (events : List Stamped) (first : Place → Option Contents) (m last : ℕ) (part : Banked) (reading writing : List ℕ)
    (sram : kind_of core m ≡ Sram) (found : AreFound core plan forms events first m) (empty : (c i : ℕ) → first (record { mem = m; copy = c; element = i }) ≡ None)
    (banked : RunsBanked s part) (is : IsMemoryOf core plan events m part reading writing) (goes : MemoryGoes core plan s m events last part reading writing) where
  abbrev served_all : ServedInTime core plan forms s events m last part reading
  served_all = served core plan forms s events m last part (sram_there core m sram).0 is.layout found.inside found.ports reading writing is goes

  abbrev each_write : (k : ℕ) (d : Touch) → k < length part.writes.items → (n : ℕ) × Contains writing n × WriteGoes s (writes_in m events) last n (slice_index_or part.writes.items k d)
  each_write k d b = writes_have core plan forms s events m last part (sram_there core m sram).0 is.layout found.inside found.ports reading writing is goes k d b

  abbrev at : (copy : ℕ) → List ℕ → Place
  at c x = record { mem = m; copy = c; element = row_major (dims core m) x }

  abbrev now : (cycle : ℕ) → Place → Option Contents
  now t p = content is_place (does core) (events_of core events) t first p

  abbrev change : (cycle : ℕ) → Place → Option Moment
  change t p = change_at does_change is_place (events_of core events) t p

  -- an event at the memory is at the place of its element
  its_place : (e : Event) (t c : ℕ) → e.mem ≡ m → (event_of core (record { cycle = t; copy = c; moment = touches e })).place ≡ at c e.indices
  its_place e t c p = rw (p, sram) refl

  in_layout : (x : List ℕ) → IsInside part.layout.dims.items x → IsInside (dims core m) x
  in_layout x h = subst (λ ds. IsInside ds x) is.layout.sizes h

  -- a write that is enabled at an element is the change there
  is_change : (w : Touch) (n t c : ℕ) (x : List ℕ) → WriteGoes s (writes_in m events) last n w → t ≤ last → is_here s t c x w ≡ true
      → (e : Event) × Happens (writes_in m events) n t e × (change t (at c x) ≡ Some (touches e))
  is_change w n t c x wg l here =
      let at_copy = and_first (is_on s w.enable t) _ (and_first _ (are_same (element_at s t w) x) here) in
      let a = write_acts s (writes_in m events) last n w wg t l at_copy in
      let number : copy_at s t w.copy ≡ c = eqb-true _ _ (and_second (is_on s w.enable t) _ (and_first _ (are_same (element_at s t w) x) here)) in
      let element : element_at s t w ≡ x = same_indices _ x (and_second _ (are_same (element_at s t w) x) here) in
      let h = write_from events m t a.copy a.event a.there in
      let place : (event_of core (record { cycle = t; copy = a.copy; moment = touches a.event })).place ≡ at c x =
      its_place a.event t a.copy h.mem ∙ ap (λ k. at k a.event.indices) (sym a.at_copy ∙ number) ∙ ap (at c) (sym a.element ∙ element) in (
        a.event,
        record { copy = a.copy; there = a.there; numbered = a.numbered },
        event_there core (λ e. e.cycle ≡ t → e.place ≡ at c x → does_change e.act ≡ true → change t (at c x) ≡ Some e.act) events (found.in_time.only t (at c x)) (record { cycle = t; copy = a.copy; moment = touches a.event }) h.there refl refl place (ap changes h.act),
      )

  -- the word of a write at an event
  its_word : (w : Touch) (n t : ℕ) (e : Event) → WriteGoes s (writes_in m events) last n w → t ≤ last → Happens (writes_in m events) n t e → e.act ≡ writes (s.net t w.word)
  its_word w n t e wg l h = ap act_or (sym (wg.acts.word t e l h refl)) ∙ ap writes (word_behind (s.net t) w.index.items w.word)

  -- where nothing changes, no write is enabled
  stays : (t c : ℕ) (x : List ℕ) → t ≤ last → change t (at c x) ≡ None → element_after s t c part.writes.items x (contents s part c t x) ≡ contents s part c t x
  stays t c x l none = element_kept s t c x part.writes.items (contents s part c t x) (λ k d b here.
      let w = each_write k d b in
      let r = is_change _ w.0 t c x w.2 l here in
      false≢true (ap is_some (sym none ∙ r.2)))

  -- where the event of a write is the change at an element, its word stands there
  by_write : (e : Event) (w : Touch) (t c v : ℕ) (x : List ℕ) → t ≤ last → IsInside part.layout.dims.items x → change t (at c x) ≡ Some (touches e) → Contains (writes_in m events) (record { cycle = t; copy = c; moment = touches e })
      → Contains part.writes.items w → WriteGoes s (writes_in m events) last e.number w → (event_of core (record { cycle = t; copy = c; moment = touches e })).place ≡ at c x
      → does core (touches e) (now t (at c x)) ≡ one_cell core v → element_after s t c part.writes.items x (contents s part c t x) ≡ v
  by_write e w t c v x l inside q there listed wg place gives =
      element_written s t c x part.writes.items (contents s part c t x) v each (inr (w, listed, and_all _ _ (and_all _ _ on (eq-eqb _ _ (wg.stands.copy t c e l there refl))) (ap (λ y. are_same y x) (element ∙ one) ∙ same_itself x)))
    where
      happens : Happens (writes_in m events) e.number t e
      happens = record { copy = c; there = there; numbered = refl }

      writes_it : IsWriteAt events m t c e
      writes_it = write_from events m t c e there

      on : is_on s w.enable t ≡ true
      on = wg.acts.enabled.on t l (e, happens)

      element : element_at s t w ≡ e.indices
      element = write_element s (writes_in m events) last e.number w wg t e l happens

      here : IsInside (dims core m) e.indices
      here = in_layout e.indices (write_inside core plan forms s events m last part (sram_there core m sram).0 is.layout found.inside found.ports t c e writes_it)

      one : e.indices ≡ x
      one = one_number (dims core m) e.indices x here (in_layout x inside) (ap (λ (p : Place). p.element) (sym (its_place e t c writes_it.mem) ∙ place))

      word : e.act ≡ writes v
      word = writes_it.act ∙ ap (λ z. writes (word_or z)) (stood e writes_it.word (now t (at c x)) writes_it.mem writes_it.act ∙ gives)
        where
          stood : (e : Event) (u : ℕ) (z : Option Contents) → e.mem ≡ m → e.act ≡ writes u → one_cell core u ≡ does core (touches e) z
          stood e u z p a = rw (p, a, sram) refl

      each : All (λ y. is_here s t c x y ≡ true → s.net t y.word ≡ v) part.writes.items
      each k d b h =
          let y = each_write k d b in
          let r = is_change _ y.0 t c x y.2 l h in
          ap act_word (sym (its_word _ y.0 t r.0 y.2 l r.1) ∙ ap moment_act (sym r.2 ∙ q) ∙ word)

  -- where something does, it is a write, and so are all that are enabled there
  becomes : (t c v : ℕ) (x : List ℕ) (a : Moment) → t ≤ last → IsInside part.layout.dims.items x → change t (at c x) ≡ Some a → does core a (now t (at c x)) ≡ one_cell core v
      → element_after s t c part.writes.items x (contents s part c t x) ≡ v
  becomes t c v x a l inside q gives = go come.stamped come.there come.cycle (ap (λ (p : Place). p.copy) come.place) of.0 of.1 of.2 of.3 of.4 come.place (sym come.act ∙ of.2)
    where
      come : Comes core events t (at c x) a
      come = change_comes core events t (at c x) a q

      of : IsWriteOf writing come.stamped
      of = is.all come.stamped come.there come.done (ap (λ (p : Place). p.mem) come.place) come.changes

      go : (y : Stamped) → Contains events y → y.cycle ≡ t → y.copy ≡ c → (e : Event) (u : ℕ) → y.moment ≡ touches e → e.act ≡ writes u → Contains writing e.number → (event_of core y).place ≡ at c x → a ≡ touches e
          → element_after s t c part.writes.items x (contents s part c t x) ≡ v
      go y there f g e u h act number place named =
          let same : y ≡ record { cycle = t; copy = c; moment = touches e } = λ i. record { cycle = f i; copy = g i; moment = h i } in
          let mem : e.mem ≡ m = ap memory_of (sym h) ∙ ap (λ (p : Place). p.mem) place in
          let w = at_number (WriteGoes s (writes_in m events) last) writing part.writes.items goes.each_write e.number number in
          by_write e w.0 t c v x l inside (q ∙ ap Some named) (write_to events m t c e (record { there = subst (Contains events) same there; mem = mem; word = u; act = act })) w.1 w.2 (ap (λ (z : Stamped). (event_of core z).place) (sym same) ∙ place)
          (subst (λ z. does core z (now t (at c x)) ≡ one_cell core v) named gives)

  -- so from one cycle to the next
  next : (t c w : ℕ) (x : List ℕ) → t ≤ last → IsInside part.layout.dims.items x → (now t (at c x) ≡ one_cell core w → contents s part c t x ≡ w) → now (suc t) (at c x) ≡ one_cell core w
      → (o : Option Moment) → change t (at c x) ≡ o → element_after s t c part.writes.items x (contents s part c t x) ≡ w
  next t c w x l inside rest h None q = stays t c x l q ∙ rest (ap (λ o. changed_by (does core) o (now t (at c x))) (sym q) ∙ sym (found.in_time.next t (at c x)) ∙ h)
  next t c w x l inside rest h (Some a) q = becomes t c w x a l inside q (ap (λ o. changed_by (does core) o (now t (at c x))) (sym q) ∙ sym (found.in_time.next t (at c x)) ∙ h)

  pub holds : (t : ℕ) → t ≤ suc last → HoldsWords core s events first m part t
  holds zero l c w x below inside h = absurd (false≢true (ap is_some (sym (empty c (row_major (dims core m) x)) ∙ sym (first_content (does core) (events_of core events) first (at c x)) ∙ h)))
  holds (suc t) l c w x below inside h = next t c w x (omega (arith, l)) inside (holds t (omega (arith, l)) c w x below inside) h _ refl

  -- a read that is enabled finds its element's word, in a duplicate whose reads are served
  abbrev Finds : Touch → Type 0
  Finds r = (t : ℕ) → t ≤ last → is_on s r.enable t ≡ true → SomeReads core plan s m (reads_in m events) r.duplicate t → r.duplicate < part.duplicates → copy_at s t r.copy < part.copies
      → s.net (suc (suc t)) r.word ≡ contents s part (copy_at s t r.copy) t (element_at s t r)

  all_find : BankedLaws → All Finds part.reads.items
  all_find laws k d b t l on some duplicate copy =
      let n = (slice_index_or part.reads.items k d).duplicate in
      passing (λ (x : Touch). x.duplicate == n) (λ r. is_on s r.enable t ≡ true → copy_at s t r.copy < part.copies → s.net (suc (suc t)) r.word ≡ contents s part (copy_at s t r.copy) t (element_at s t r)) part.reads.items
      (laws.finds s part banked t n duplicate (λ u less. served_all.writes u (omega (arith, less, l))) (served_all.reads t n l some)) k d b (eq-eqb n n refl) on copy

  -- so it is answered with the word of its event
  answer : (n : ℕ) (r : Touch) → r.duplicate ≡ duplicate_at core plan m n → ReadGoes core plan s m (reads_in m events) last n r → Finds r → IsAnswered s (reads_in m events) (suc (suc last)) n kind.Read r.word 2
  answer n r own rg finds t e h l w a =
      ap (λ k. s.net k r.word) later ∙ finds t small on (n, (e, h), sym own) duplicate copy ∙ ap (λ k. contents s part k t (element_at s t r)) number ∙ ap (contents s part h.copy t) element
      ∙ holds t (omega (arith, small)) h.copy w e.indices (subst (λ k. k < part.copies) number copy) (read_inside core plan forms s events m last part (sram_there core m sram).0 is.layout found.inside found.ports t h.copy e reads_it) stands
    where
      later : t + 2 ≡ suc (suc t)
      later = omega arith

      small : t ≤ last
      small = omega (arith, l)

      on : is_on s r.enable t ≡ true
      on = rg.on t small (e, h)

      reads_it : IsReadAt events m t h.copy e
      reads_it = read_from events m t h.copy e h.there

      number : copy_at s t r.copy ≡ h.copy
      number = rg.stands.copy t h.copy e small h.there h.numbered

      element : element_at s t r ≡ e.indices
      element = read_element s (reads_in m events) last n r core plan m rg t e small h

      act : e.act ≡ reads w
      act = ap act_or (sym a)

      duplicate : r.duplicate < part.duplicates
      duplicate =
          let here = each_at (λ (x : Stamped). HasDuplicate core plan x.moment) events found.served (record { cycle = t; copy = h.copy; moment = touches e }) reads_it.there in
          subst (λ k. k < part.duplicates) (ap (duplicate_at core plan m) h.numbered ∙ sym own)
          (subst (λ k. duplicate_at core plan m e.number < k) (sym is.duplicates) (duplicate_below core plan m e reads_it.mem (here (ap (λ k. has_banks (mem core k).kind) reads_it.mem ∙ ap has_banks (sram_there core m sram).0) (ap changes act))))

      copy : copy_at s t r.copy < part.copies
      copy = subst (λ k. k < part.copies) (sym number)
          (subst (λ k. h.copy < k) (ap (λ k. (mem_plan plan k).depth) reads_it.mem ∙ sym is.copies) (each_at (λ (x : Stamped). HasCopy core plan x.copy x.moment) events found.copied (record { cycle = t; copy = h.copy; moment = touches e }) reads_it.there (sram_there core e.mem (ap (kind_of core) reads_it.mem ∙ sram)).1))

      stands : now t (at h.copy e.indices) ≡ one_cell core w
      stands =
          ap (now t) (sym (its_place e t h.copy reads_it.mem))
          ∙ seen e w _ reads_it.mem act (event_there core (λ f. Sees core f.act (content is_place (does core) (events_of core events) f.cycle first f.place)) events found.in_time.finds (record { cycle = t; copy = h.copy; moment = touches e }) reads_it.there refl)
        where
          seen : (e : Event) (w : ℕ) (c : Option Contents) → e.mem ≡ m → e.act ≡ reads w → Sees core (touches e) c → c ≡ one_cell core w
          seen e w c p q = rw (p, q, sram) (λ h. h)

  pub stand : BankedLaws → WordsStand core s events first m part last reading
  stand laws = record {
    holds = holds;
    answers = zip_map _ _ reading part.reads.items (λ n r h. answer n r h.0.0 h.0.1 h.1)
        (with_each (λ n r. (r.duplicate ≡ duplicate_at core plan m n) × ReadGoes core plan s m (reads_in m events) last n r) Finds reading part.reads.items (zip_both _ _ reading part.reads.items is.each_read goes.each_read) (all_find laws));
  }

pub memories_hold_words : BankedLaws → (core : PlainCore) (plan : PlainPlan) (forms : PlainForms) → MemoriesHoldWords core plan forms
memories_hold_words laws core plan forms s events first m last part reading writing sram found empty banked is goes = stand core plan forms s events first m last part reading writing sram found empty banked is goes laws
