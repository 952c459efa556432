-- A line buffer's copies hold the words of the timeline.
use Rattle.std.proofs.Common.{◌≡◌, ℕ, zero, suc, ◌+◌, ◌<◌, ◌≤◌, ◌==◌, ◌⊎◌, inl, inr, Bool, true, false, List, [], ◌∷◌, drop, slice_index_or, All, Option, Some, None, refl, sym, ap, subst, ◌∙◌, arith, eq-eqb, eqb-true}
use Rattle.std.specs.List.{Contains}
use Rattle.std.specs.Prelude.{◌||◌, is_some, slice_index}
use Rattle.std.proofs.lemmas.Bool.{false≢true}
use Rattle.std.proofs.lemmas.List.Elements.{All-filter, filter_passes}
use Rattle.sp_bank.specs.Banking.{Banking}
use Rattle.sp_bank.specs.Places.{IsInside, bank as bank_number}
use Rattle.sp_words.specs.declared.kind.Kind.TheVariants.{LineBuf}
use Rattle.sp_words.specs.Memory.{Contents, rows, fresh_rows}
use Rattle.sp_netlist.specs.Signals.{Signals}
use Rattle.sp_gates.specs.Tested.{is_on}
use Rattle.sp_core.specs.declared.operation.OpKind.TheVariants as kind
use Rattle.sp_core.specs.Accesses.{word_in, with_word, with_new_row}
use Rattle.sp_core.specs.Declarations.{mem, kind_of, dims}
use Rattle.sp_core.specs.Events.{reads, writes, turns, Event, Moment, touches}
use Rattle.sp_core.specs.Forms.{PlainForms}
use Rattle.sp_core.specs.Meeting.{changes}
use Rattle.sp_core.specs.PlainCore.{PlainCore}
use Rattle.sp_plan.specs.PlainPlan.{PlainPlan, mem_plan}
use Rattle.sp_plan.specs.Ports.{has_banks, scheme_at}
use Rattle.sp_plan.specs.Validity.{schemes_of}
use Rattle.sp_time.specs.Events.{content, change_at, changed_by}
use Rattle.sp_time.specs.Places.{Place, is_place}
use Rattle.sp_machine.specs.Found.{event_of, events_of, does, Sees}
use Rattle.sp_machine.specs.InOrder.{memory_of, does_change}
use Rattle.sp_machine.specs.Stamps.{Stamped}
use Rattle.sp_mem.specs.declared.part.Fresh.{Fresh}
use Rattle.sp_mem.specs.declared.part.Touch.{Touch}
use Rattle.sp_mem.specs.Copies.{copy_at, is_at}
use Rattle.sp_places.specs.Layouts.{banking_of}
use Rattle.sp_requests.proofs.Found.{and_first, and_second, and_all}
use Rattle.sp_banked.specs.Runs.{reads_of}
use Rattle.sp_lines.specs.declared.part.Lines.{Lines}
use Rattle.sp_lines.specs.Turns.{is_turned}
use Rattle.sp_lines.specs.Spots.{read_spot, load_spot, AreServed, LoadsServed}
use Rattle.sp_lines.specs.Runs.{RunsLines}
use Rattle.sp_lines.specs.Buffers.{dims_of, buffer_loaded, buffer_turned, buffer, LinesLaws}
use Rattle.sp_node_runs.specs.BodiesTold.{Happens}
use Rattle.sp_core_ports.specs.UsedPorts.{Port, row_at, bank_at, port_of, HasDuplicate}
use Rattle.sp_core_ports.specs.UsedReaders.{duplicate_at}
use Rattle.sp_core_ports.specs.CopiesLaws.{HasCopy}
use Rattle.sp_bank_words.specs.Layouts.{banking_for}
use Rattle.sp_bank_words.specs.Accesses.{is_read, is_write, reads_in, writes_in, turns_in, IsWriteOf, IsTurnOf, IsLinesOf}
use Rattle.sp_bank_words.specs.Acting.{IsAnswered, SomeReads, ReadGoes, LoadGoes, TurnGoes, LinesGo}
use Rattle.sp_bank_words.specs.Laws.{AreFound}
use Rattle.sp_bank_words.specs.Buffers.{HoldsRows, RowsStand, LinesHoldWords}
use Rattle.sp_bank_words.proofs.Acts.{act_word, act_or, moment_act, moment_indices, is_turning, lines_there}
use Rattle.sp_bank_words.proofs.Events.{each_at, event_there, Comes, change_comes, first_content}
use Rattle.sp_bank_words.proofs.Elements.{passing, at_number, with_each, zip_map}
use Rattle.sp_bank_words.proofs.Filtered.{IsReadAt, IsWriteAt, IsTurnAt, read_from, write_from, write_to, turn_from, turn_to}
use Rattle.sp_bank_words.proofs.Loading.{none_loaded, some_loaded, none_turned, some_turned}
use Rattle.sp_bank_words.proofs.Serving.{zipped, zip_both, duplicate_below, one_element, read_acts, read_element}

-- one row and one bank of columns are one port
same_port : (scheme : Option Banking) (r : ℕ) (ds x y : List ℕ) → IsInside (r ∷ ds) x → IsInside (r ∷ ds) y → slice_index x 0 ≡ slice_index y 0 → bank_number (banking_for scheme 1) (drop 1 x) ≡ bank_number (banking_for scheme 1) (drop 1 y)
    → (row_at LineBuf scheme x ≡ row_at LineBuf scheme y) × (bank_at LineBuf scheme x ≡ bank_at LineBuf scheme y)
same_port None r ds x y h k e f = (refl, refl)
same_port (Some b) r ds [] y h k e f = absurd h
same_port (Some b) r ds (i ∷ x) [] h k e f = absurd k
same_port (Some b) r ds (i ∷ x) (j ∷ y) h k e f = (ap Some e, f)

module _ (core : PlainCore) (plan : PlainPlan) (m : ℕ) (lines : (mem core m).kind ≡ LineBuf) where
  abbrev scheme : Option Banking
  scheme = scheme_at (schemes_of plan) (Some m)

  abbrev line_port : (copy : ℕ) → (is_written : Bool) → (duplicate : ℕ) → (row : Option ℕ) → (bank : ℕ) → Port
  line_port c w d r b = record { mem = m; copy = c; is_written = w; duplicate = d; row = r; bank = b }

  read_port : (t c w : ℕ) (e : Event) → e.mem ≡ m → e.act ≡ reads w
      → port_of core plan (record { cycle = t; copy = c; moment = touches e }) ≡ Some (line_port c false (duplicate_at core plan m e.number) (row_at LineBuf scheme e.indices) (bank_at LineBuf scheme e.indices))
  read_port t c w e p q = rw (p, q, lines) refl

  write_port : (t c w : ℕ) (e : Event) → e.mem ≡ m → e.act ≡ writes w
      → port_of core plan (record { cycle = t; copy = c; moment = touches e }) ≡ Some (line_port c true 0 (row_at LineBuf scheme e.indices) (bank_at LineBuf scheme e.indices))
  write_port t c w e p q = rw (p, q, lines) refl

  one_port : (c c' d d' : ℕ) (r r' : Option ℕ) (b b' : ℕ) (w : Bool) → c ≡ c' → d ≡ d' → r ≡ r' → b ≡ b' → Some (line_port c w d r b) ≡ Some (line_port c' w d' r' b')
  one_port c c' d d' r r' b b' w e f g h = rw (e, f, g, h) refl

module _ (core : PlainCore) (plan : PlainPlan) (forms : PlainForms) (s : Signals) (events : List Stamped) (first : Place → Option Contents) (m last : ℕ) (part : Lines) (turning loading reading : List ℕ)
    (lines : kind_of core m ≡ LineBuf) (found : AreFound core plan forms events first m) (fresh : (c : ℕ) → first (record { mem = m; copy = c; element = 0 }) ≡ Some (rows (fresh_rows (dims core m))))
    (is : IsLinesOf core plan events m part turning loading reading) (goes : LinesGo core plan s m events last part turning loading reading) where
  its_kind : (mem core m).kind ≡ LineBuf
  its_kind = (lines_there core m lines).0

  -- what is read and what is loaded is inside, at a copy that there is
  inside_of : (t c : ℕ) (e : Event) → Contains events (record { cycle = t; copy = c; moment = touches e }) → e.mem ≡ m → (is_read e.act || is_write e.act) ≡ true → IsInside (part.rows ∷ part.layout.dims.items) e.indices
  inside_of t c e there p a = subst (λ ds. IsInside ds e.indices) (sym is.sizes) (found.inside (record { cycle = t; copy = c; moment = touches e }) e there refl p a)

  copy_below : (t c : ℕ) (e : Event) → Contains events (record { cycle = t; copy = c; moment = touches e }) → e.mem ≡ m → c < part.copies
  copy_below t c e there p =
      subst (λ k. c < k) (ap (λ k. (mem_plan plan k).depth) p ∙ sym is.copies)
      (each_at (λ (x : Stamped). HasCopy core plan x.copy x.moment) events found.copied (record { cycle = t; copy = c; moment = touches e }) there (lines_there core e.mem (ap (kind_of core) p ∙ lines)).1)

  -- a load that is enabled, with its event
  load_acts : (n : ℕ) (w : Touch) → LoadGoes core plan s m (writes_in m events) last part.rows n w → (t : ℕ) → t ≤ last → is_on s w.enable t ≡ true → (e : Event) × Happens (writes_in m events) n t e
  load_acts n w goes t l on = goes.enabled.only t l on

  ports_same : (x y : List ℕ) → IsInside (part.rows ∷ part.layout.dims.items) x → IsInside (part.rows ∷ part.layout.dims.items) y → slice_index x 0 ≡ slice_index y 0
      → bank_number (banking_of part.layout) (drop 1 x) ≡ bank_number (banking_of part.layout) (drop 1 y)
      → (row_at LineBuf (scheme core plan m its_kind) x ≡ row_at LineBuf (scheme core plan m its_kind) y) × (bank_at LineBuf (scheme core plan m its_kind) x ≡ bank_at LineBuf (scheme core plan m its_kind) y)
  ports_same x y h k e f =
      same_port (scheme core plan m its_kind) part.rows part.layout.dims.items x y h k e
      (ap (λ b. bank_number b (drop 1 x)) (sym is.banking) ∙ f ∙ ap (λ b. bank_number b (drop 1 y)) is.banking)

  module _ (t : ℕ) (l : t ≤ last) where
    -- an access that is enabled, with its event, its spot and its copy
    pub record At (list : List Stamped) (spot : List ℕ) (copy : ℕ) : Type 0 where
      pub number : ℕ
      pub event : Event
      pub at : ℕ
      pub there : Contains list (record { cycle = t; copy = at; moment = touches event })
      pub numbered : event.number ≡ number
      pub spot_is : spot ≡ event.indices
      pub copy_is : copy ≡ at

    loads_at : All (λ w. is_on s w.enable t ≡ true → At (writes_in m events) (load_spot part.rows s t w) (copy_at s t w.copy)) part.loads.items
    loads_at k d b on =
        let z = zipped (LoadGoes core plan s m (writes_in m events) last part.rows) loading part.loads.items goes.each_load k d b in
        let f = z.2.enabled.only t l on in
        record { number = z.0; event = f.0; at = f.1.copy; there = f.1.there; numbered = f.1.numbered; spot_is = z.2.spot t f.0 l f.1; copy_is = z.2.copy t f.1.copy f.0 l f.1.there f.1.numbered }

    pub loads_served : AreServed s t part (load_spot part.rows s t) part.loads.items
    loads_served = record {
      copies = λ k d b on. let a = loads_at k d b on in let h = write_from events m t a.at a.event a.there in subst (λ c. c < part.copies) (sym a.copy_is) (copy_below t a.at a.event h.there h.mem);
      inside = λ k d b on. let a = loads_at k d b on in let h = write_from events m t a.at a.event a.there in subst (IsInside (part.rows ∷ part.layout.dims.items)) (sym a.spot_is) (inside_of t a.at a.event h.there h.mem (ap (λ a. is_read a || is_write a) h.act));
      together = λ i k d li lk on also copy row bank.
          let a = loads_at i d li on in
          let b = loads_at k d lk also in
          let h = write_from events m t a.at a.event a.there in
          let g = write_from events m t b.at b.event b.there in
          let same = ports_same a.event.indices b.event.indices (inside_of t a.at a.event h.there h.mem (ap (λ a. is_read a || is_write a) h.act)) (inside_of t b.at b.event g.there g.mem (ap (λ a. is_read a || is_write a) g.act))
          (ap (λ x. slice_index x 0) (sym a.spot_is) ∙ row ∙ ap (λ x. slice_index x 0) b.spot_is)
          (ap (λ x. bank_number (banking_of part.layout) (drop 1 x)) (sym a.spot_is) ∙ bank ∙ ap (λ x. bank_number (banking_of part.layout) (drop 1 x)) b.spot_is) in
          let p = line_port core plan m its_kind b.at true 0 (row_at LineBuf (scheme core plan m its_kind) b.event.indices) (bank_at LineBuf (scheme core plan m its_kind) b.event.indices) in
          a.spot_is
          ∙ one_element core plan forms events found.ports t a.at b.at a.event b.event p h.there g.there
          (write_port core plan m its_kind t a.at h.word a.event h.mem h.act ∙ one_port core plan m its_kind _ _ 0 0 _ _ _ _ true (sym a.copy_is ∙ copy ∙ b.copy_is) refl same.0 same.1)
          (write_port core plan m its_kind t b.at g.word b.event g.mem g.act)
          ∙ sym b.spot_is;
    }

    -- the reads of a duplicate in which something is read
    module _ (d : ℕ) (some : SomeReads core plan s m (reads_in m events) d t) where
      abbrev ReadAt : Touch → Type 0
      ReadAt r = is_on s r.enable t ≡ true → (a : At (reads_in m events) (read_spot s t r) (copy_at s t r.copy)) × (duplicate_at core plan m a.number ≡ d)

      reads_at : All ReadAt (reads_of d part.reads.items)
      reads_at k r b on =
          let z = All-filter (λ (x : Touch). x.duplicate == d) (λ x. (n : ℕ) × Contains reading n × ((x.duplicate ≡ duplicate_at core plan m n) × ReadGoes core plan s m (reads_in m events) last n x)) part.reads.items
          (zipped _ reading part.reads.items (zip_both _ _ reading part.reads.items is.each_read goes.each_read)) k r b in
          let own : (slice_index_or (reads_of d part.reads.items) k r).duplicate ≡ d = eqb-true _ _ (filter_passes (λ (x : Touch). x.duplicate == d) part.reads.items k r b) in
          let f = z.2.1.only t l on (subst (λ i. SomeReads core plan s m (reads_in m events) i t) (sym own) some) in
          let a = read_acts s (reads_in m events) last z.0 _ core plan m z.2.1 t l f in
          (record { number = z.0; event = a.event; at = a.copy; there = a.there; numbered = a.numbered; spot_is = a.element; copy_is = a.at_copy }, sym z.2.0 ∙ own)

      pub reads_served : AreServed s t part (read_spot s t) (reads_of d part.reads.items)
      reads_served = record {
        copies = λ k r b on. let a = (reads_at k r b on).0 in let h = read_from events m t a.at a.event a.there in subst (λ c. c < part.copies) (sym a.copy_is) (copy_below t a.at a.event h.there h.mem);
        inside = λ k r b on. let a = (reads_at k r b on).0 in let h = read_from events m t a.at a.event a.there in subst (IsInside (part.rows ∷ part.layout.dims.items)) (sym a.spot_is) (inside_of t a.at a.event h.there h.mem (ap (λ a. is_read a || is_write a) h.act));
        together = λ i k r li lk on also copy row bank.
            let x = reads_at i r li on in
            let y = reads_at k r lk also in
            let a = x.0 in
            let b = y.0 in
            let h = read_from events m t a.at a.event a.there in
            let g = read_from events m t b.at b.event b.there in
            let same = ports_same a.event.indices b.event.indices (inside_of t a.at a.event h.there h.mem (ap (λ a. is_read a || is_write a) h.act)) (inside_of t b.at b.event g.there g.mem (ap (λ a. is_read a || is_write a) g.act))
            (ap (λ x. slice_index x 0) (sym a.spot_is) ∙ row ∙ ap (λ x. slice_index x 0) b.spot_is)
            (ap (λ x. bank_number (banking_of part.layout) (drop 1 x)) (sym a.spot_is) ∙ bank ∙ ap (λ x. bank_number (banking_of part.layout) (drop 1 x)) b.spot_is) in
            let p = line_port core plan m its_kind b.at false d (row_at LineBuf (scheme core plan m its_kind) b.event.indices) (bank_at LineBuf (scheme core plan m its_kind) b.event.indices) in
            a.spot_is
            ∙ one_element core plan forms events found.ports t a.at b.at a.event b.event p h.there g.there
            (read_port core plan m its_kind t a.at h.word a.event h.mem h.act ∙ one_port core plan m its_kind _ _ _ d _ _ _ _ false (sym a.copy_is ∙ copy ∙ b.copy_is) (ap (duplicate_at core plan m) a.numbered ∙ x.1) same.0 same.1)
            (read_port core plan m its_kind t b.at g.word b.event g.mem g.act ∙ one_port core plan m its_kind _ _ _ d _ _ _ _ false refl (ap (duplicate_at core plan m) b.numbered ∙ y.1) refl refl)
            ∙ sym b.spot_is;
      }

  abbrev at : (copy : ℕ) → Place
  at c = record { mem = m; copy = c; element = 0 }

  abbrev now : (cycle : ℕ) → Place → Option Contents
  now t p = content is_place (does core) (events_of core events) t first p

  abbrev change : (cycle : ℕ) → Place → Option Moment
  change t p = change_at does_change is_place (events_of core events) t p

  -- what a core's line buffer holds that is never made anew
  abbrev held : (copy cycle : ℕ) → Contents
  held c t = buffer s part (λ u. false) c t

  its_place : (e : Event) (t c : ℕ) → e.mem ≡ m → (event_of core (record { cycle = t; copy = c; moment = touches e })).place ≡ at c
  its_place e t c p = rw (p, lines) refl

  is_change : (t c : ℕ) (e : Event) → Contains events (record { cycle = t; copy = c; moment = touches e }) → e.mem ≡ m → changes e.act ≡ true → change t (at c) ≡ Some (touches e)
  is_change t c e there p alters =
      event_there core (λ f. f.cycle ≡ t → f.place ≡ at c → does_change f.act ≡ true → change t (at c) ≡ Some f.act) events (found.in_time.only t (at c)) (record { cycle = t; copy = c; moment = touches e }) there refl refl (its_place e t c p) alters

  -- a load, or a turn, that is enabled at a copy is the change there
  load_change : (n : ℕ) (w : Touch) (t c : ℕ) → LoadGoes core plan s m (writes_in m events) last part.rows n w → t ≤ last → is_at s t w.enable w.copy c ≡ true → (e : Event) × Happens (writes_in m events) n t e × (change t (at c) ≡ Some (touches e))
  load_change n w t c lg l here =
      let f = lg.enabled.only t l (and_first (is_on s w.enable t) _ here) in
      let number : copy_at s t w.copy ≡ c = eqb-true _ _ (and_second (is_on s w.enable t) _ here) in
      let same : f.1.copy ≡ c = sym (lg.copy t f.1.copy f.0 l f.1.there f.1.numbered) ∙ number in
      let h = write_from events m t f.1.copy f.0 f.1.there in
      (f.0, f.1, subst (λ k. change t (at k) ≡ Some (touches f.0)) same (is_change t f.1.copy f.0 h.there h.mem (ap changes h.act)))

  turn_change : (n : ℕ) (f : Fresh) (t c : ℕ) → TurnGoes core plan s m (turns_in m events) last n f → t ≤ last → is_at s t f.enable f.copy c ≡ true → (e : Event) × (e.act ≡ turns) × (change t (at c) ≡ Some (touches e))
  turn_change n f t c tg l here =
      let u = tg.enabled.only t l (and_first (is_on s f.enable t) _ here) in
      let number : copy_at s t f.copy ≡ c = eqb-true _ _ (and_second (is_on s f.enable t) _ here) in
      let same : u.1.copy ≡ c = sym (tg.copy t u.1.copy u.0 l u.1.there u.1.numbered) ∙ number in
      let h = turn_from events m t u.1.copy u.0 u.1.there in
      (u.0, h.act, subst (λ k. change t (at k) ≡ Some (touches u.0)) same (is_change t u.1.copy u.0 h.there h.mem (ap changes h.act)))

  each_load : All (λ w. (n : ℕ) × Contains loading n × LoadGoes core plan s m (writes_in m events) last part.rows n w) part.loads.items
  each_load = zipped _ loading part.loads.items goes.each_load

  each_turn : All (λ f. (n : ℕ) × Contains turning n × TurnGoes core plan s m (turns_in m events) last n f) part.turns.items
  each_turn = zipped _ turning part.turns.items goes.each_turn

  -- what a cycle leaves, by what its loads and its turns do
  after : (t c : ℕ) (b : Bool) (x y : Contents) → is_turned s t c part.turns.items ≡ b → buffer_loaded s t c part part.loads.items (held c t) ≡ x → buffer_turned b part x ≡ y → held c (suc t) ≡ y
  after t c b x y e f g = ap (λ d. buffer_turned d part (buffer_loaded s t c part part.loads.items (held c t))) e ∙ ap (buffer_turned b part) f ∙ g

  -- where nothing changes
  stays : (t c : ℕ) → t ≤ last → change t (at c) ≡ None → held c (suc t) ≡ held c t
  stays t c l none = after t c false (held c t) (held c t)
      (none_turned s t c part part.turns.items (λ k d b here. let z = each_turn k d b in let r = turn_change z.0 _ t c z.2 l here in false≢true (ap is_some (sym none ∙ r.2))))
      (none_loaded s t c part part.loads.items (held c t) (λ k d b here. let z = each_load k d b in let r = load_change z.0 _ t c z.2 l here in false≢true (ap is_some (sym none ∙ r.2))))
      refl

  -- where a load does
  by_load : (e : Event) (w : Touch) (t c : ℕ) → t ≤ last → change t (at c) ≡ Some (touches e) → Contains (writes_in m events) (record { cycle = t; copy = c; moment = touches e }) → Contains part.loads.items w
      → LoadGoes core plan s m (writes_in m events) last part.rows e.number w → now t (at c) ≡ Some (held c t) → does core (touches e) (now t (at c)) ≡ Some (held c (suc t))
  by_load e w t c l q there listed lg stood = ap (does core (touches e)) stood ∙ gives e writes_it.word (held c t) writes_it.mem writes_it.act ∙ ap Some (sym whole)
    where
      writes_it : IsWriteAt events m t c e
      writes_it = write_from events m t c e there

      happens : Happens (writes_in m events) e.number t e
      happens = record { copy = c; there = there; numbered = refl }

      gives : (e : Event) (u : ℕ) (z : Contents) → e.mem ≡ m → e.act ≡ writes u → does core (touches e) (Some z) ≡ Some (with_word LineBuf (dims_of part) e.indices u (Some z))
      gives e u z p a = rw (p, a, lines) refl

      on : is_at s t w.enable w.copy c ≡ true
      on = and_all _ _ (lg.enabled.on t l (e, happens)) (eq-eqb _ _ (lg.copy t c e l there refl))

      whole : held c (suc t) ≡ with_word LineBuf (dims_of part) e.indices writes_it.word (Some (held c t))
      whole = after t c false _ _
          (none_turned s t c part part.turns.items (λ k d b here. let z = each_turn k d b in let r = turn_change z.0 _ t c z.2 l here in
          false≢true (ap is_turning (sym writes_it.act ∙ ap moment_act (sym q ∙ r.2) ∙ r.1))))
          (some_loaded s t c part e.indices writes_it.word (held c t) part.loads.items (held c t) (λ k d b here.
          let z = each_load k d b in
          let r = load_change z.0 _ t c z.2 l here in
          (z.2.spot t r.0 l r.1 ∙ ap moment_indices (sym r.2 ∙ q), ap act_word (sym (z.2.word t r.0 l r.1) ∙ ap moment_act (sym r.2 ∙ q) ∙ writes_it.act)))
          refl w listed on)
          refl

  -- and where rows turn
  by_turn : (e : Event) (f : Fresh) (t c : ℕ) → t ≤ last → change t (at c) ≡ Some (touches e) → Contains (turns_in m events) (record { cycle = t; copy = c; moment = touches e }) → Contains part.turns.items f
      → TurnGoes core plan s m (turns_in m events) last e.number f → now t (at c) ≡ Some (held c t) → does core (touches e) (now t (at c)) ≡ Some (held c (suc t))
  by_turn e f t c l q there listed tg stood = ap (does core (touches e)) stood ∙ gives e (held c t) turns_it.mem turns_it.act ∙ ap (λ ds. Some (with_new_row ds (Some (held c t)))) (sym is.sizes) ∙ ap Some (sym whole)
    where
      turns_it : IsTurnAt events m t c e
      turns_it = turn_from events m t c e there

      gives : (e : Event) (z : Contents) → e.mem ≡ m → e.act ≡ turns → does core (touches e) (Some z) ≡ Some (with_new_row (dims core m) (Some z))
      gives e z p a = rw (p, a) refl

      on : is_at s t f.enable f.copy c ≡ true
      on = and_all _ _ (tg.enabled.on t l (e, record { copy = c; there = there; numbered = refl })) (eq-eqb _ _ (tg.copy t c e l there refl))

      whole : held c (suc t) ≡ with_new_row (dims_of part) (Some (held c t))
      whole = after t c true (held c t) _ (some_turned s t c part part.turns.items f listed on)
          (none_loaded s t c part part.loads.items (held c t) (λ k d b here. let z = each_load k d b in let r = load_change z.0 _ t c z.2 l here in
          let h = write_from events m t r.1.copy r.0 r.1.there in
          false≢true (ap is_turning (sym h.act ∙ ap moment_act (sym r.2 ∙ q) ∙ turns_it.act))))
          refl

  becomes : (t c : ℕ) (a : Moment) → t ≤ last → change t (at c) ≡ Some a → now t (at c) ≡ Some (held c t) → does core a (now t (at c)) ≡ Some (held c (suc t))
  becomes t c a l q stood = go come.stamped come.there come.cycle (ap (λ (p : Place). p.copy) come.place) (ap (λ (p : Place). p.mem) come.place) (sym come.act) (is.all come.stamped come.there come.done (ap (λ (p : Place). p.mem) come.place) come.changes)
    where
      come : Comes core events t (at c) a
      come = change_comes core events t (at c) a q

      go : (y : Stamped) → Contains events y → y.cycle ≡ t → y.copy ≡ c → memory_of y.moment ≡ m → a ≡ y.moment → IsWriteOf loading y ⊎ IsTurnOf turning y → does core a (now t (at c)) ≡ Some (held c (suc t))
      go y there f g own named (inl (e, u, h, act, number)) =
          let same : y ≡ record { cycle = t; copy = c; moment = touches e } = λ i. record { cycle = f i; copy = g i; moment = h i } in
          let w = at_number (LoadGoes core plan s m (writes_in m events) last part.rows) loading part.loads.items goes.each_load e.number number in
          ap (λ z. does core z (now t (at c))) (named ∙ h)
          ∙ by_load e w.0 t c l (q ∙ ap Some (named ∙ h)) (write_to events m t c e (record { there = subst (Contains events) same there; mem = ap memory_of (sym h) ∙ own; word = u; act = act })) w.1 w.2 stood
      go y there f g own named (inr (e, h, act, number)) =
          let same : y ≡ record { cycle = t; copy = c; moment = touches e } = λ i. record { cycle = f i; copy = g i; moment = h i } in
          let w = at_number (TurnGoes core plan s m (turns_in m events) last) turning part.turns.items goes.each_turn e.number number in
          ap (λ z. does core z (now t (at c))) (named ∙ h)
          ∙ by_turn e w.0 t c l (q ∙ ap Some (named ∙ h)) (turn_to events m t c e (record { there = subst (Contains events) same there; mem = ap memory_of (sym h) ∙ own; act = act })) w.1 w.2 stood

  next : (t c : ℕ) → t ≤ last → now t (at c) ≡ Some (held c t) → (o : Option Moment) → change t (at c) ≡ o → now (suc t) (at c) ≡ Some (held c (suc t))
  next t c l stood None q = found.in_time.next t (at c) ∙ ap (λ o. changed_by (does core) o (now t (at c))) q ∙ stood ∙ ap Some (sym (stays t c l q))
  next t c l stood (Some a) q = found.in_time.next t (at c) ∙ ap (λ o. changed_by (does core) o (now t (at c))) q ∙ becomes t c a l q stood

  -- a copy is what the timeline has there
  pub is_held : (t : ℕ) → t ≤ suc last → (c : ℕ) → now t (at c) ≡ Some (held c t)
  is_held zero l c = first_content (does core) (events_of core events) first (at c) ∙ fresh c ∙ ap (λ ds. Some (rows (fresh_rows ds))) (sym is.sizes)
  is_held (suc t) l c = next t c (omega (arith, l)) (is_held t (omega (arith, l)) c) _ refl

  all_served : (t : ℕ) → t ≤ suc last → LoadsServed s part t
  all_served t l u less = loads_served u (omega (arith, l, less))

  module _ (laws : LinesLaws) (runs : RunsLines s part) where
    holds : (t : ℕ) → t ≤ suc last → HoldsRows core plan s events first m part t
    holds t l c row column w below inside h =
        laws.shows s part (λ u. false) c t row column w (all_served t l) below (subst (λ ds. IsInside ds (row ∷ column ∷ [])) (sym is.sizes) inside)
        (ap (word_in LineBuf (dims_of part) (row ∷ column ∷ [])) (sym (is_held t l c)) ∙ h)

    -- a read that is enabled finds its word, in a duplicate whose reads are served
    abbrev Finds : Touch → Type 0
    Finds r = (t : ℕ) → t ≤ last → is_on s r.enable t ≡ true → SomeReads core plan s m (reads_in m events) r.duplicate t → r.duplicate < part.duplicates
        → (w : ℕ) → word_in LineBuf (dims_of part) (read_spot s t r) (Some (held (copy_at s t r.copy) t)) ≡ Some w → s.net (suc (suc t)) r.word ≡ w

    all_find : All Finds part.reads.items
    all_find k d b t l on some duplicate =
        let n = (slice_index_or part.reads.items k d).duplicate in
        passing (λ (x : Touch). x.duplicate == n) (λ r. is_on s r.enable t ≡ true → (w : ℕ) → word_in LineBuf (dims_of part) (read_spot s t r) (Some (held (copy_at s t r.copy) t)) ≡ Some w → s.net (suc (suc t)) r.word ≡ w) part.reads.items
        (laws.finds s part runs is.columns (λ u. false) t n duplicate (all_served t (omega (arith, l))) (reads_served t l n some)) k d b (eq-eqb n n refl) on

    answer : (n : ℕ) (r : Touch) → r.duplicate ≡ duplicate_at core plan m n → ReadGoes core plan s m (reads_in m events) last n r → Finds r → IsAnswered s (reads_in m events) (suc (suc last)) n kind.Read r.word 2
    answer n r own rg finds t e h l w a =
        ap (λ k. s.net k r.word) later
        ∙ finds t small (rg.on t small (e, h)) (n, (e, h), sym own) duplicate w
        (ap (λ x. word_in LineBuf (dims_of part) x (Some (held (copy_at s t r.copy) t))) (read_element s (reads_in m events) last n r core plan m rg t e small h)
        ∙ ap (λ c. word_in LineBuf (dims_of part) e.indices (Some (held c t))) (rg.stands.copy t h.copy e small h.there h.numbered)
        ∙ ap (word_in LineBuf (dims_of part) e.indices) (sym (is_held t (omega (arith, small)) h.copy)) ∙ stands)
      where
        later : t + 2 ≡ suc (suc t)
        later = omega arith

        small : t ≤ last
        small = omega (arith, l)

        reads_it : IsReadAt events m t h.copy e
        reads_it = read_from events m t h.copy e h.there

        act : e.act ≡ reads w
        act = ap act_or (sym a)

        duplicate : r.duplicate < part.duplicates
        duplicate =
            let here = each_at (λ (x : Stamped). HasDuplicate core plan x.moment) events found.served (record { cycle = t; copy = h.copy; moment = touches e }) reads_it.there in
            subst (λ k. k < part.duplicates) (ap (duplicate_at core plan m) h.numbered ∙ sym own)
            (subst (λ k. duplicate_at core plan m e.number < k) (sym is.duplicates) (duplicate_below core plan m e reads_it.mem (here (ap (λ k. has_banks (mem core k).kind) reads_it.mem ∙ ap has_banks its_kind) (ap changes act))))

        stands : word_in LineBuf (dims core m) e.indices (now t (at h.copy)) ≡ Some w
        stands =
            ap (λ p. word_in LineBuf (dims core m) e.indices (now t p)) (sym (its_place e t h.copy reads_it.mem))
            ∙ seen e w _ reads_it.mem act (event_there core (λ f. Sees core f.act (content is_place (does core) (events_of core events) f.cycle first f.place)) events found.in_time.finds (record { cycle = t; copy = h.copy; moment = touches e }) reads_it.there refl)
          where
            seen : (e : Event) (w : ℕ) (c : Option Contents) → e.mem ≡ m → e.act ≡ reads w → Sees core (touches e) c → word_in LineBuf (dims core m) e.indices c ≡ Some w
            seen e w c p q h = rw (p, q, lines) at h

    pub stand : RowsStand core plan s events first m part last reading
    stand = record {
      loads = loads_served;
      reads = λ t d l some. reads_served t l d some;
      holds = holds;
      answers = zip_map _ _ reading part.reads.items (λ n r h. answer n r h.0.0 h.0.1 h.1)
          (with_each (λ n r. (r.duplicate ≡ duplicate_at core plan m n) × ReadGoes core plan s m (reads_in m events) last n r) Finds reading part.reads.items (zip_both _ _ reading part.reads.items is.each_read goes.each_read) all_find);
    }

pub lines_hold_words : LinesLaws → (core : PlainCore) (plan : PlainPlan) (forms : PlainForms) → LinesHoldWords core plan forms
lines_hold_words laws core plan forms s events first m last part turning loading reading lines found fresh runs is goes = stand core plan forms s events first m last part turning loading reading lines found fresh is goes laws runs
