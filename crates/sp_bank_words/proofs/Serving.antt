-- Accesses that act in time are served.
use Rattle.std.proofs.Common.{◌≡◌, ℕ, zero, suc, ◌<◌, ◌≤◌, ◌==◌, inl, inr, Bool, true, false, List, [], ◌∷◌, map, length, slice_index_or, All, Option, Some, None, refl, sym, ap, subst, ◌∙◌, arith, eqb-true}
use Rattle.std.specs.List.{AllZip, Contains}
use Rattle.std.specs.Prelude.{◌||◌, ◌-◌, min, pos, replicate, ◌/◌, ◌%◌}
use Rattle.std.proofs.lemmas.Bool.{and_parts, ltb-true, false≢true}
use Rattle.std.proofs.lemmas.List.Elements.{All-filter, filter_passes}
use Rattle.sp_bank.specs.Banking.{Banking}
use Rattle.sp_bank.specs.Places.{IsInside, bank as bank_number, weighted}
use Rattle.sp_words.specs.declared.kind.Kind.TheVariants.{Sram}
use Rattle.sp_netlist.specs.Signals.{Signals}
use Rattle.sp_gates.specs.Tested.{is_on}
use Rattle.sp_core.specs.Declarations.{mem, dims}
use Rattle.sp_core.specs.Elements.{is_below, are_inside}
use Rattle.sp_core.specs.Events.{reads, writes, Event, Moment, touches}
use Rattle.sp_core.specs.Forms.{PlainForms}
use Rattle.sp_core.specs.PlainCore.{PlainCore}
use Rattle.sp_plan.specs.PlainPlan.{PlainPlan, mem_plan}
use Rattle.sp_plan.specs.Ports.{scheme_at}
use Rattle.sp_plan.specs.Validity.{schemes_of}
use Rattle.sp_time.specs.Lists.{Pairs}
use Rattle.sp_machine.specs.Stamps.{Stamped}
use Rattle.sp_core_ports.specs.UsedPorts.{Port, bank_at, port_of, UseNoPortTwice}
use Rattle.sp_core_ports.specs.UsedReaders.{readers_of, over_at, duplicate_at}
use Rattle.sp_mem.specs.declared.part.Touch.{Touch}
use Rattle.sp_mem.specs.Copies.{copy_at}
use Rattle.sp_places.specs.Layouts.{banking_of}
use Rattle.sp_requests.specs.Elements.{element_at, AreServed}
use Rattle.sp_banked.specs.declared.part.Banked.{Banked}
use Rattle.sp_banked.specs.Runs.{reads_of}
use Rattle.sp_part_runs.specs.ActsEntries.{index_of}
use Rattle.sp_node_runs.specs.BodiesTold.{Happens, SomeHappens}
use Rattle.sp_bank_words.specs.Layouts.{banking_for, IsLayoutOf}
use Rattle.sp_bank_words.specs.Accesses.{is_read, is_write, reads_in, writes_in, AreInside, IsMemoryOf}
use Rattle.sp_bank_words.specs.Acting.{StandsInTime, WriteGoes, SomeReads, ReadGoes, MemoryGoes}
use Rattle.sp_bank_words.specs.Laws.{ServedInTime, AccessesAreServed}
use Rattle.sp_bank_words.proofs.Acts.{sram_there}
use Rattle.sp_bank_words.proofs.Events.{two_there, no_signs, words_before}
use Rattle.sp_bank_words.proofs.Filtered.{IsReadAt, IsWriteAt, read_from, write_from}

one_more : {X : Type 0} (R : ℕ → X → Type 0) (n : ℕ) (ns : List ℕ) (x : X) (xs : List X) → R n x → All (λ y. (i : ℕ) × Contains ns i × R i y) xs → All (λ y. (i : ℕ) × Contains (n ∷ ns) i × R i y) (x ∷ xs)
one_more R n ns x xs h rest zero d l = (n, (0, omega arith, refl), h)
one_more R n ns x xs h rest (suc k) d l = let r = rest k d (omega (arith, l)) in let b = r.1.1 in (r.0, (suc r.1.0, omega (arith, b), r.1.2), r.2)

-- what holds at each two places of two lists holds of each of the second one with some of the first
pub zipped : {X : Type 0} (R : ℕ → X → Type 0) (ns : List ℕ) (xs : List X) → AllZip R ns xs → All (λ x. (n : ℕ) × Contains ns n × R n x) xs
zipped R [] [] h = λ k d l. absurd (omega (arith, l))
zipped R [] (x ∷ xs) h = absurd h
zipped R (n ∷ ns) [] h = absurd h
zipped R (n ∷ ns) (x ∷ xs) h = one_more R n ns x xs h.0 (zipped R ns xs h.1)

pub zip_both : {X : Type 0} (R Q : ℕ → X → Type 0) (ns : List ℕ) (xs : List X) → AllZip R ns xs → AllZip Q ns xs → AllZip (λ n x. R n x × Q n x) ns xs
zip_both R Q [] [] h k = tt
zip_both R Q [] (x ∷ xs) h k = absurd h
zip_both R Q (n ∷ ns) [] h k = absurd h
zip_both R Q (n ∷ ns) (x ∷ xs) h k = ((h.0, k.0), zip_both R Q ns xs h.1 k.1)

pub is_inside : (ds is : List ℕ) → are_inside ds (map pos is) ≡ true → IsInside ds is
is_inside [] [] h = tt
is_inside [] (i ∷ is) h = absurd (false≢true h)
is_inside (d ∷ ds) [] h = absurd (false≢true h)
is_inside (d ∷ ds) (i ∷ is) h = let a = and_parts (is_below (pos i) d) (are_inside ds (map pos is)) h in (ltb-true i d a.0, is_inside ds is a.1)

-- the bank of a port
no_weight : (n : ℕ) (x : List ℕ) → weighted (replicate n 0) x ≡ 0
no_weight zero x = refl
no_weight (suc n) [] = refl
no_weight (suc n) (y ∷ x) = let h = no_weight n x in omega (arith, h)

pub bank_for : (scheme : Option Banking) (rank : ℕ) (x : List ℕ) → bank_at Sram scheme x ≡ bank_number (banking_for scheme rank) x
bank_for None rank x = sym (ap (λ w. (w / 1) % 1) (no_weight rank x))
bank_for (Some b) rank x = refl

-- an event of an access, with its element and its copy on the access's nets
pub record Acting (s : Signals) (events : List Stamped) (number t : ℕ) (touch : Touch) : Type 0 where
  pub event : Event
  pub copy : ℕ
  pub there : Contains events (record { cycle = t; copy = copy; moment = touches event })
  pub numbered : event.number ≡ number
  pub element : element_at s t touch ≡ event.indices
  pub at_copy : copy_at s t touch.copy ≡ copy

module _ (s : Signals) (events : List Stamped) (last number : ℕ) (touch : Touch) where
  pub write_element : WriteGoes s events last number touch → (t : ℕ) (e : Event) → t ≤ last → Happens events number t e → element_at s t touch ≡ e.indices
  write_element goes t e l h =
      sym (no_signs (s.net t) touch.index.items (goes.stands.index t e l h)) ∙ ap (map index_of) (sym (words_before (s.net t) touch.index.items touch.word))
      ∙ sym (goes.acts.at t e l h)

  acting : StandsInTime s events last number touch → (t : ℕ) → t ≤ last → ((e : Event) → Happens events number t e → element_at s t touch ≡ e.indices) → SomeHappens events number t → Acting s events number t touch
  acting stands t l element found = record {
    event = found.0;
    copy = found.1.copy;
    there = found.1.there;
    numbered = found.1.numbered;
    element = element found.0 found.1;
    at_copy = stands.copy t found.1.copy found.0 l found.1.there found.1.numbered;
  }

  pub write_acts : WriteGoes s events last number touch → (t : ℕ) → t ≤ last → is_on s touch.enable t ≡ true → Acting s events number t touch
  write_acts goes t l on = acting goes.stands t l (λ e h. write_element goes t e l h) (goes.acts.enabled.only t l on)

  module _ (core : PlainCore) (plan : PlainPlan) (m : ℕ) where
    pub read_element : ReadGoes core plan s m events last number touch → (t : ℕ) (e : Event) → t ≤ last → Happens events number t e → element_at s t touch ≡ e.indices
    read_element goes t e l h = sym (no_signs (s.net t) touch.index.items (goes.stands.index t e l h)) ∙ sym (goes.at t e l h)

    pub read_acts : ReadGoes core plan s m events last number touch → (t : ℕ) → t ≤ last → SomeHappens events number t → Acting s events number t touch
    read_acts goes t l found = acting goes.stands t l (λ e h. read_element goes t e l h) found

-- the duplicate of a reader is one of those that the plan has
pub duplicate_below : (core : PlainCore) (plan : PlainPlan) (m : ℕ) (e : Event) → e.mem ≡ m → over_at e.number (readers_of core e.mem) < (mem_plan plan e.mem).duplicates → duplicate_at core plan m e.number < (mem_plan plan m).duplicates
duplicate_below core plan m e p h = below (over_at e.number (readers_of core m)) (mem_plan plan m).duplicates (subst (λ k. over_at e.number (readers_of core k) < (mem_plan plan k).duplicates) p h)
  where
    below : (a d : ℕ) → a < d → min a (d - 1) < d
    below a d l = omega arith

indices_of : Moment → List ℕ
indices_of (touches e) = e.indices
indices_of moment = []

module _ (core : PlainCore) (plan : PlainPlan) (forms : PlainForms) (events : List Stamped) (ports : Pairs (UseNoPortTwice core plan forms) events) where
  -- two events of one cycle that use one port are at one element
  pub one_element : (t c d : ℕ) (e f : Event) (p : Port) → Contains events (record { cycle = t; copy = c; moment = touches e }) → Contains events (record { cycle = t; copy = d; moment = touches f })
      → port_of core plan (record { cycle = t; copy = c; moment = touches e }) ≡ Some p → port_of core plan (record { cycle = t; copy = d; moment = touches f }) ≡ Some p → e.indices ≡ f.indices
  unfolding indices_of
  one_element t c d e f p a b g h = elim (two_there (UseNoPortTwice core plan forms) events ports _ _ a b) [
    | inl same ↦ ap (λ (x : Stamped). indices_of x.moment) same
    | inr (inl r) ↦ (r (refl, record { port = p; first = g; second = h })).4
    | inr (inr r) ↦ sym (r (refl, record { port = p; first = h; second = g })).4
  ]

module _ (core : PlainCore) (plan : PlainPlan) (m : ℕ) (sram : (mem core m).kind ≡ Sram) where
  abbrev sram_port : (copy : ℕ) → (is_written : Bool) → (duplicate bank : ℕ) → Port
  sram_port c w d b = record { mem = m; copy = c; is_written = w; duplicate = d; row = None; bank = b }

  abbrev sram_bank : List ℕ → ℕ
  sram_bank is = bank_at Sram (scheme_at (schemes_of plan) (Some m)) is

  pub read_port : (t c w : ℕ) (e : Event) → e.mem ≡ m → e.act ≡ reads w → port_of core plan (record { cycle = t; copy = c; moment = touches e }) ≡ Some (sram_port c false (duplicate_at core plan m e.number) (sram_bank e.indices))
  read_port t c w e p q = rw (p, q, sram) refl

  pub write_port : (t c w : ℕ) (e : Event) → e.mem ≡ m → e.act ≡ writes w → port_of core plan (record { cycle = t; copy = c; moment = touches e }) ≡ Some (sram_port c true 0 (sram_bank e.indices))
  write_port t c w e p q = rw (p, q, sram) refl

  one_port : (c c' d d' b b' : ℕ) (w : Bool) → c ≡ c' → d ≡ d' → b ≡ b' → Some (sram_port c w d b) ≡ Some (sram_port c' w d' b')
  one_port c c' d d' b b' w e f g = rw (e, f, g) refl

module _ (core : PlainCore) (plan : PlainPlan) (forms : PlainForms) (s : Signals) (events : List Stamped) (m last : ℕ) (part : Banked)
    (sram : (mem core m).kind ≡ Sram) (layout : IsLayoutOf core plan m part.layout) (within : AreInside core events m) (ports : Pairs (UseNoPortTwice core plan forms) events) where
  -- events of reads and writes are inside
  pub read_inside : (t c : ℕ) (e : Event) → IsReadAt events m t c e → IsInside part.layout.dims.items e.indices
  read_inside t c e r = subst (λ ds. IsInside ds e.indices) (sym layout.sizes) (within (record { cycle = t; copy = c; moment = touches e }) e r.there refl r.mem (ap (λ a. is_read a || is_write a) r.act))

  pub write_inside : (t c : ℕ) (e : Event) → IsWriteAt events m t c e → IsInside part.layout.dims.items e.indices
  write_inside t c e w = subst (λ ds. IsInside ds e.indices) (sym layout.sizes) (within (record { cycle = t; copy = c; moment = touches e }) e w.there refl w.mem (ap (λ a. is_read a || is_write a) w.act))

  -- one bank by the layout is one bank by the plan
  same_bank : (x y : List ℕ) → bank_number (banking_of part.layout) x ≡ bank_number (banking_of part.layout) y → sram_bank core plan m sram x ≡ sram_bank core plan m sram y
  same_bank x y h =
      bank_for (scheme_at (schemes_of plan) (Some m)) (length (dims core m)) x
      ∙ ap (λ b. bank_number b x) (sym layout.banking) ∙ h ∙ ap (λ b. bank_number b y) layout.banking
      ∙ sym (bank_for (scheme_at (schemes_of plan) (Some m)) (length (dims core m)) y)

  module _ (t : ℕ) (l : t ≤ last) where
    -- a write that has an event where it is enabled, and a read of a duplicate
    abbrev pub Writer : Touch → Type 0
    Writer w = is_on s w.enable t ≡ true → (n : ℕ) × Acting s (writes_in m events) n t w

    abbrev pub Reader : (duplicate : ℕ) → Touch → Type 0
    Reader d r = is_on s r.enable t ≡ true → (n : ℕ) × Acting s (reads_in m events) n t r × (duplicate_at core plan m n ≡ d)

    writer_inside : (w : Touch) → Writer w → is_on s w.enable t ≡ true → IsInside part.layout.dims.items (element_at s t w)
    writer_inside w acts on = let a = (acts on).1 in subst (IsInside part.layout.dims.items) (sym a.element) (write_inside t a.copy a.event (write_from events m t a.copy a.event a.there))

    reader_inside : (d : ℕ) (r : Touch) → Reader d r → is_on s r.enable t ≡ true → IsInside part.layout.dims.items (element_at s t r)
    reader_inside d r acts on = let a = (acts on).1 in subst (IsInside part.layout.dims.items) (sym a.element) (read_inside t a.copy a.event (read_from events m t a.copy a.event a.there))

    writers_together : (w v : Touch) → Writer w → Writer v → is_on s w.enable t ≡ true → is_on s v.enable t ≡ true → copy_at s t w.copy ≡ copy_at s t v.copy
        → bank_number (banking_of part.layout) (element_at s t w) ≡ bank_number (banking_of part.layout) (element_at s t v) → element_at s t w ≡ element_at s t v
    writers_together w v acts too on also copy bank =
        let a = (acts on).1 in
        let b = (too also).1 in
        let h = write_from events m t a.copy a.event a.there in
        let g = write_from events m t b.copy b.event b.there in
        let one : a.copy ≡ b.copy = sym a.at_copy ∙ copy ∙ b.at_copy in
        let two : sram_bank core plan m sram a.event.indices ≡ sram_bank core plan m sram b.event.indices =
        ap (sram_bank core plan m sram) (sym a.element) ∙ same_bank _ _ bank ∙ ap (sram_bank core plan m sram) b.element in
        a.element
        ∙ one_element core plan forms events ports t a.copy b.copy a.event b.event (sram_port core plan m sram b.copy true 0 (sram_bank core plan m sram b.event.indices)) h.there g.there
        (write_port core plan m sram t a.copy h.word a.event h.mem h.act ∙ one_port core plan m sram a.copy b.copy 0 0 _ _ true one refl two)
        (write_port core plan m sram t b.copy g.word b.event g.mem g.act)
        ∙ sym b.element

    readers_together : (d : ℕ) (r q : Touch) → Reader d r → Reader d q → is_on s r.enable t ≡ true → is_on s q.enable t ≡ true → copy_at s t r.copy ≡ copy_at s t q.copy
        → bank_number (banking_of part.layout) (element_at s t r) ≡ bank_number (banking_of part.layout) (element_at s t q) → element_at s t r ≡ element_at s t q
    readers_together d r q acts too on also copy bank =
        let a = (acts on).1 in
        let b = (too also).1 in
        let h = read_from events m t a.copy a.event a.there in
        let g = read_from events m t b.copy b.event b.there in
        let one : a.copy ≡ b.copy = sym a.at_copy ∙ copy ∙ b.at_copy in
        let first : duplicate_at core plan m a.event.number ≡ d = ap (duplicate_at core plan m) a.numbered ∙ (acts on).2 in
        let second : duplicate_at core plan m b.event.number ≡ d = ap (duplicate_at core plan m) b.numbered ∙ (too also).2 in
        let two : sram_bank core plan m sram a.event.indices ≡ sram_bank core plan m sram b.event.indices =
        ap (sram_bank core plan m sram) (sym a.element) ∙ same_bank _ _ bank ∙ ap (sram_bank core plan m sram) b.element in
        a.element
        ∙ one_element core plan forms events ports t a.copy b.copy a.event b.event (sram_port core plan m sram b.copy false d (sram_bank core plan m sram b.event.indices)) h.there g.there
        (read_port core plan m sram t a.copy h.word a.event h.mem h.act ∙ one_port core plan m sram a.copy b.copy _ d _ _ false one first two)
        (read_port core plan m sram t b.copy g.word b.event g.mem g.act ∙ one_port core plan m sram b.copy b.copy _ d _ _ false refl second refl)
        ∙ sym b.element

    pub writes_served : All Writer part.writes.items → AreServed s t part.layout part.writes.items
    writes_served all = record {
      inside = λ k d b on. writer_inside _ (all k d b) on;
      together = λ i k d a b on also copy bank. writers_together _ _ (all i d a) (all k d b) on also copy bank;
    }

    pub reads_served : (d : ℕ) → All (Reader d) (reads_of d part.reads.items) → AreServed s t part.layout (reads_of d part.reads.items)
    reads_served d all = record {
      inside = λ k r b on. reader_inside d _ (all k r b) on;
      together = λ i k r a b on also copy bank. readers_together d _ _ (all i r a) (all k r b) on also copy bank;
    }

  module _ (reading writing : List ℕ) (is : IsMemoryOf core plan events m part reading writing) (goes : MemoryGoes core plan s m events last part reading writing) where
    -- each access with its number
    abbrev pub WriteHas : Touch → Type 0
    WriteHas w = (n : ℕ) × Contains writing n × WriteGoes s (writes_in m events) last n w

    abbrev pub ReadHas : Touch → Type 0
    ReadHas r = (n : ℕ) × Contains reading n × ((r.duplicate ≡ duplicate_at core plan m n) × ReadGoes core plan s m (reads_in m events) last n r)

    pub writes_have : All WriteHas part.writes.items
    writes_have = zipped _ writing part.writes.items goes.each_write

    pub reads_have : All ReadHas part.reads.items
    reads_have = zipped _ reading part.reads.items (zip_both _ _ reading part.reads.items is.each_read goes.each_read)

    -- reads of a duplicate where something is read there
    pub some_readers : (t d : ℕ) (l : t ≤ last) → SomeReads core plan s m (reads_in m events) d t → All (Reader t l d) (reads_of d part.reads.items)
    some_readers t d l some k r b on =
        let z = All-filter (λ (x : Touch). x.duplicate == d) ReadHas part.reads.items reads_have k r b in
        let own : (slice_index_or (reads_of d part.reads.items) k r).duplicate ≡ d = eqb-true _ _ (filter_passes (λ (x : Touch). x.duplicate == d) part.reads.items k r b) in
        let found = z.2.1.only t l on (subst (λ i. SomeReads core plan s m (reads_in m events) i t) (sym own) some) in
        (z.0, read_acts s (reads_in m events) last z.0 _ core plan m z.2.1 t l found, sym z.2.0 ∙ own)

    -- and of one whose reads are enabled at events alone
    pub all_readers : (t d : ℕ) (l : t ≤ last) → AllZip (λ n r. (t : ℕ) → t ≤ last → is_on s r.enable t ≡ true → SomeHappens (reads_in m events) n t) reading part.reads.items → All (Reader t l d) (reads_of d part.reads.items)
    all_readers t d l alone k r b on =
        let z = All-filter (λ (x : Touch). x.duplicate == d) (λ x. (n : ℕ) × Contains reading n × (((x.duplicate ≡ duplicate_at core plan m n) × ReadGoes core plan s m (reads_in m events) last n x) × ((t : ℕ) → t ≤ last → is_on s x.enable t ≡ true → SomeHappens (reads_in m events) n t))) part.reads.items
        (zipped _ reading part.reads.items (zip_both _ _ reading part.reads.items (zip_both _ _ reading part.reads.items is.each_read goes.each_read) alone)) k r b in
        let own : (slice_index_or (reads_of d part.reads.items) k r).duplicate ≡ d = eqb-true _ _ (filter_passes (λ (x : Touch). x.duplicate == d) part.reads.items k r b) in
        (z.0, read_acts s (reads_in m events) last z.0 _ core plan m z.2.0.1 t l (z.2.1 t l on), sym z.2.0.0 ∙ own)

    pub served : ServedInTime core plan forms s events m last part reading
    served = record {
      writes = λ t l. writes_served t l (λ k d b on. let w = writes_have k d b in (w.0, write_acts s (writes_in m events) last w.0 _ w.2 t l on));
      reads = λ t d l some. reads_served t l d (some_readers t d l some);
      always = λ alone t d l. reads_served t l d (all_readers t d l alone);
    }

pub accesses_are_served : (core : PlainCore) (plan : PlainPlan) (forms : PlainForms) → AccessesAreServed core plan forms
accesses_are_served core plan forms s events m last part reading writing sram within ports is goes = served core plan forms s events m last part (sram_there core m sram).0 is.layout within ports reading writing is goes
