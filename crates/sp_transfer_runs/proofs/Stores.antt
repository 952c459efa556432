-- A store over all runs of its node.
use Rattle.std.proofs.Common.{◌≡◌, ℕ, suc, ◌+◌, ◌<◌, ◌≤◌, true, false, List, ◌++◌, refl, sym, ap, subst, ◌∙◌, arith}
use Rattle.std.specs.List.{Contains}
use Rattle.sp_netlist.specs.Signals.{Signals}
use Rattle.sp_gates.specs.Tested.{is_on}
use Rattle.sp_core.specs.Declarations.{dims, dram_number}
use Rattle.sp_core.specs.Elements.{row_major}
use Rattle.sp_core.specs.Events.{Act, reads, writes, Event, touches, spans_moments}
use Rattle.sp_core.specs.Numbering.{spans_size}
use Rattle.sp_core.specs.PlainCore.{PlainSpan, store, PlainCore}
use Rattle.sp_core.specs.Transfers.{lengths, has_none}
use Rattle.sp_plan.specs.PlainPlan.{PlainPlan}
use Rattle.sp_machine.specs.Stamps.{Stamped, stamped, moved as moved_by}
use Rattle.sp_machine.specs.Transfers.{Delays, word_cycle, look_cycle, transfer_took, store_run}
use Rattle.sp_part_runs.specs.BodiesRuns.{IsOnAt}
use Rattle.sp_part_runs.specs.ControlParts.{Begins}
use Rattle.sp_node_runs.specs.Runs.{Placed, told}
use Rattle.sp_node_runs.specs.RunsTold.{all_events}
use Rattle.sp_slices.specs.Slices.{WalksSlice}
use Rattle.sp_xfer.specs.declared.part.Store.{Store}
use Rattle.sp_xfer.specs.declared.part.Stored.{Stored}
use Rattle.sp_xfer.specs.Ahead.{RunsStore, look_offsets, store_wires_of}
use Rattle.sp_xfer.specs.Moving.{MovesSlice, words_at}
use Rattle.sp_node_runs.specs.BodiesSpans.{SpanNets}
use Rattle.sp_transfer_runs.specs.Runs.{taken_in, words_in, total_of, word_of, place_of, delay_in, moves_in, TellsWords, TransferRuns, Moves}
use Rattle.sp_transfer_runs.specs.Stores.{AreFoundLater, ReadsInTime, StoresInTime, StoreGoes, StoresWork, StoresDo}
use Rattle.sp_transfer_runs.specs.Told.{DoesAt, Reads}
use Rattle.sp_transfer_runs.specs.Words.{moves_of, parts_of, count_of, offset_of, SlicesAreWords}
use Rattle.sp_transfer_runs.proofs.Both as both
use Rattle.sp_transfer_runs.proofs.Both.{some_range, in_count}
use Rattle.sp_transfer_runs.proofs.Events.{chip_read, dram_write, store_happens, store_writes, store_reads, same_event}
use Rattle.sp_transfer_runs.proofs.Loads.{written_of}
use Rattle.sp_transfer_runs.proofs.Looks as ahead
use Rattle.sp_transfer_runs.proofs.Looks.{looks_rise}
use Rattle.sp_transfer_runs.proofs.Passing.{Apart, StartsAt}
use Rattle.sp_transfer_runs.proofs.Pipeline as pipeline
use Rattle.sp_transfer_runs.proofs.Runs as runs_of
use Rattle.sp_transfer_runs.proofs.Runs.{transfer_rans}

-- the word of a read
abbrev read_in : Act → ℕ
read_in (reads w) = w
read_in act = 0

read_of : (v w : ℕ) → reads v ≡ reads w → v ≡ w
read_of v w e = ap read_in e

module _ (law : SlicesAreWords) (core : PlainCore) (plan : PlainPlan) (delays : Delays) (s : Signals) (part : Store) (nets : Stored) (spanned : List SpanNets) (last k n r m : ℕ) (spans : List PlainSpan) (runs : List Placed)
    (h : RunsStore s part nets) (moves_are : part.moves.items ≡ moves_of spanned) (dims_are : part.dims.items ≡ dims core (dram_number core r))
    (rs : TransferRuns core plan delays s last (store r m spans) k n (dims core (dram_number core r)) spanned runs)
    (ready : IsOnAt (is_on s part.port.ready) (Moves delays k runs) last)
    (upto : ℕ) (in_time : upto ≤ last) (starts : IsOnAt (is_on s part.start) (Begins (transfer_rans delays k runs)) upto) where
  abbrev events : List Stamped
  events = all_events core plan delays (store r m spans) k n runs

  abbrev number : ℕ
  number = n + spans_size spans

  abbrev at : Placed → ℕ
  at q = q.cycle

  moving : MovesSlice s (store_wires_of part) (dims core (dram_number core r)) (moves_of spanned) nets.moving
  moving = subst (λ ms. MovesSlice s (store_wires_of part) (dims core (dram_number core r)) ms nets.moving) moves_are (subst (λ ds. MovesSlice s (store_wires_of part) ds part.moves.items nets.moving) dims_are h.moves)

  looks : WalksSlice s part.start nets.step (moves_of spanned) nets.look
  looks = subst (λ ms. WalksSlice s part.start nets.step ms nets.look) moves_are h.looks

  took : (q : Placed) → Contains runs q → (told core plan delays (store r m spans) k n q).took ≡ transfer_took (delay_in delays k q) (total_of q)
  took q c = runs_of.store_took core plan delays k n r m spans q (rs.did q c).is

  abbrev body : Placed → List Stamped
  body q = store_run (delay_in delays k q) core q.copies (n + spans_size spans) q.standing r m (parts_of (taken_in q.history)) (words_in q.history)

  abbrev chip : Placed → ℕ → List ℕ → ℕ → Stamped
  chip q = chip_read (delay_in delays k q) core q.copies (n + spans_size spans) q.standing r m (parts_of (taken_in q.history))

  abbrev dram : Placed → ℕ → List ℕ → ℕ → Stamped
  dram q = dram_write (delay_in delays k q) core q.copies (n + spans_size spans) q.standing r m (parts_of (taken_in q.history))

  events_are : (q : Placed) → Contains runs q → (told core plan delays (store r m spans) k n q).events ≡ stamped q.copies 0 (spans_moments n q.standing spans (taken_in q.history)) ++ body q
  events_are q c = runs_of.store_events core plan delays k n r m spans q (rs.did q c).is

  some : (q : Placed) → Contains runs q → (j : ℕ) → j < total_of q → has_none (lengths (parts_of (taken_in q.history))) ≡ false
  some q c j l = some_range (dims core (dram_number core r)) q (rs.did q c) j l

  count : (q : Placed) → Contains runs q → (j : ℕ) → j < total_of q → j < count_of (taken_in q.history)
  count q c j l = in_count (dims core (dram_number core r)) q (rs.did q c) j l

  is_read : (q : Placed) (j : ℕ) → Contains runs q → j < total_of q → Contains events (moved_by q.cycle (chip q j (offset_of (taken_in q.history) j) (word_of q j)))
  is_read q j c l = runs_of.put_in core plan delays (store r m spans) k n spans runs body events_are q c (chip q j (offset_of (taken_in q.history) j) (word_of q j))
      (store_happens (delay_in delays k q) core q.copies (n + spans_size spans) q.standing r m (parts_of (taken_in q.history)) (words_in q.history) (some q c j l) j (count q c j l) l).0

  is_written : (q : Placed) (j : ℕ) → Contains runs q → j < total_of q → Contains events (moved_by q.cycle (dram q j (offset_of (taken_in q.history) j) (word_of q j)))
  is_written q j c l = runs_of.put_in core plan delays (store r m spans) k n spans runs body events_are q c (dram q j (offset_of (taken_in q.history) j) (word_of q j))
      (store_happens (delay_in delays k q) core q.copies (n + spans_size spans) q.standing r m (parts_of (taken_in q.history)) (words_in q.history) (some q c j l) j (count q c j l) l).1

  -- each event is that of a word: where it is read, or where it moves
  pub record OfWord (place : Placed → ℕ → List ℕ) (when : Placed → ℕ → ℕ) (t : ℕ) (is : List ℕ) (w : ℕ) : Type 0 where
    pub run : Placed
    pub word : ℕ
    pub there : Contains runs run
    pub within : word < total_of run
    pub cycle : t ≡ when run word
    pub indices : is ≡ place run word
    pub gives : w ≡ word_of run word

  abbrev looks_in : Placed → ℕ → ℕ
  looks_in q j = q.cycle + look_cycle (delay_in delays k q) j

  abbrev offset_in : Placed → ℕ → List ℕ
  offset_in q j = offset_of (taken_in q.history) j

  of_read : (t : ℕ) (is : List ℕ) (w : ℕ) → DoesAt events number t is (reads w) → OfWord offset_in looks_in t is w
  of_read t is w d =
      let x : Stamped = record { cycle = t; copy = d.happens.copy; moment = touches d.event } in
      let (q, c, y, inside, same) = runs_of.take_out core plan delays (store r m spans) k n spans runs body events_are x d.event refl d.happens.numbered d.happens.there in
      let here : y.moment ≡ touches d.event = ap (λ (z : Stamped). z.moment) same in
      let found = store_reads (delay_in delays k q) core q.copies (n + spans_size spans) q.standing r m (parts_of (taken_in q.history)) (words_in q.history) y d.event w here d.does inside in
      let event = same_event _ d.event (ap (λ (z : Stamped). z.moment) found.is ∙ here) in
      let late : look_cycle (delay_in delays k q) found.word ≡ y.cycle = ap (λ (z : Stamped). z.cycle) found.is in
      let when : q.cycle + y.cycle ≡ t = ap (λ (z : Stamped). z.cycle) same in
      record { run = q; word = found.word; there = c; within = found.within; cycle = omega (arith, late, when); indices = sym d.at ∙ sym (ap (λ (e : Event). e.indices) event); gives = sym (read_of (word_of q found.word) w (ap (λ (e : Event). e.act) event ∙ d.does)) }

  of_write : (t : ℕ) (is : List ℕ) (w : ℕ) → DoesAt events number t is (writes w) → OfWord place_of (moves_in delays k) t is w
  of_write t is w d =
      let x : Stamped = record { cycle = t; copy = d.happens.copy; moment = touches d.event } in
      let (q, c, y, inside, same) = runs_of.take_out core plan delays (store r m spans) k n spans runs body events_are x d.event refl d.happens.numbered d.happens.there in
      let here : y.moment ≡ touches d.event = ap (λ (z : Stamped). z.moment) same in
      let found = store_writes (delay_in delays k q) core q.copies (n + spans_size spans) q.standing r m (parts_of (taken_in q.history)) (words_in q.history) y d.event w here d.does inside in
      let event = same_event _ d.event (ap (λ (z : Stamped). z.moment) found.is ∙ here) in
      let late : word_cycle (delay_in delays k q) found.word ≡ y.cycle = ap (λ (z : Stamped). z.cycle) found.is in
      let when : q.cycle + y.cycle ≡ t = ap (λ (z : Stamped). z.cycle) same in
      record { run = q; word = found.word; there = c; within = found.within; cycle = omega (arith, late, when); indices = sym d.at ∙ sym (ap (λ (e : Event). e.indices) event); gives = sym (written_of (word_of q found.word) w (ap (λ (e : Event). e.act) event ∙ d.does)) }

  the_read : (q : Placed) (j t : ℕ) → Contains runs q → j < total_of q → t ≡ looks_in q j → DoesAt events number t (offset_in q j) (reads (word_of q j))
  the_read q j t c l e = record {
    event = record { number = n + spans_size spans; standing = q.standing; mem = m; indices = offset_in q j; act = reads (word_of q j) };
    happens = record { copy = q.copies m; there = subst (λ u. Contains events (record { cycle = u; copy = q.copies m; moment = touches (record { number = n + spans_size spans; standing = q.standing; mem = m; indices = offset_in q j; act = reads (word_of q j) }) })) (sym e) (is_read q j c l); numbered = refl };
    at = refl;
    does = refl;
  }

  the_write : (q : Placed) (j t : ℕ) → Contains runs q → j < total_of q → t ≡ moves_in delays k q j → DoesAt events number t (place_of q j) (writes (word_of q j))
  the_write q j t c l e = record {
    event = record { number = n + spans_size spans; standing = q.standing; mem = dram_number core r; indices = place_of q j; act = writes (word_of q j) };
    happens = record { copy = q.copies (dram_number core r); there = subst (λ u. Contains events (record { cycle = u; copy = q.copies (dram_number core r); moment = touches (record { number = n + spans_size spans; standing = q.standing; mem = dram_number core r; indices = place_of q j; act = writes (word_of q j) }) })) (sym e) (is_written q j c l); numbered = refl };
    at = refl;
    does = refl;
  }

  tells : TellsWords delays k s (store_wires_of part) (dims core (dram_number core r)) runs upto
  tells = both.tells law core plan delays s (store_wires_of part) (dims core (dram_number core r)) spanned nets.moving last (store r m spans) k n runs moving rs took ready upto in_time starts

  apart : Apart at total_of (delay_in delays k) runs
  apart = both.apart law core plan delays s (store_wires_of part) (dims core (dram_number core r)) spanned nets.moving last (store r m spans) k n runs moving rs took ready upto in_time starts

  starts_at : IsOnAt (is_on s part.start) (StartsAt at total_of (delay_in delays k) runs) upto
  starts_at = both.starts_at law core plan delays s (store_wires_of part) (dims core (dram_number core r)) spanned nets.moving last (store r m spans) k n runs moving rs took ready upto in_time starts

  read_on : (q : Placed) (c : Contains runs q) (j : ℕ) → j < total_of q → looks_in q j ≤ upto → is_on s nets.read (looks_in q j) ≡ true
  read_on q c j l b = (ahead.read_at at total_of (delay_in delays k) (λ q. taken_in q.history) runs apart law s part.start nets.step part.port.ready nets.look spanned (dims core (dram_number core r)) looks h.steps (λ q c. (rs.did q c).slice) (λ q c. (rs.did q c).each) last rs.stand ready upto in_time starts_at nets.read h.reads some q c j l b).on

  read_where : (q : Placed) (c : Contains runs q) (j : ℕ) → j < total_of q → looks_in q j ≤ upto → look_offsets s part.start (moves_of spanned) nets.look.axes.items (looks_in q j) ≡ offset_in q j
  read_where q c j l b = (ahead.read_at at total_of (delay_in delays k) (λ q. taken_in q.history) runs apart law s part.start nets.step part.port.ready nets.look spanned (dims core (dram_number core r)) looks h.steps (λ q c. (rs.did q c).slice) (λ q c. (rs.did q c).each) last rs.stand ready upto in_time starts_at nets.read h.reads some q c j l b).offsets

  read_only : (t : ℕ) → t ≤ upto → is_on s nets.read t ≡ true → Reads events number t
  read_only t l e =
      let (q, j, c, b, is) =
      ahead.read_only at total_of (delay_in delays k) (λ q. taken_in q.history) runs apart law s part.start nets.step part.port.ready nets.look spanned (dims core (dram_number core r)) looks h.steps (λ q c. (rs.did q c).slice) (λ q c. (rs.did q c).each) last rs.stand ready upto in_time starts_at nets.read h.reads some t l e in
      (offset_in q j, word_of q j, the_read q j t c b is)

  read : ReadsInTime s events upto number nets.read nets.indices.items
  read = record {
    enabled = record {
      on = λ t l x. let (is, w, d) = x in let o = of_read t is w d in ap (is_on s nets.read) o.cycle ∙ read_on o.run o.there o.word o.within (subst (λ u. u ≤ upto) o.cycle l);
      only = read_only;
    };
    at = λ t is w l d. let o = of_read t is w d in
        o.indices ∙ sym (read_where o.run o.there o.word o.within (subst (λ u. u ≤ upto) o.cycle l))
        ∙ ap (λ ms. look_offsets s part.start ms nets.look.axes.items (looks_in o.run o.word)) (sym moves_are)
        ∙ sym (h.indices (looks_in o.run o.word)) ∙ ap (λ u. words_at s u nets.indices.items) (sym o.cycle);
  }

  -- the words that move
  comes : AreFoundLater s part.found events upto number → (q : Placed) (c : Contains runs q) (j : ℕ) → j < total_of q → moves_in delays k q j ≤ upto → s.net (moves_in delays k q j) part.port.word ≡ word_of q j
  comes right q c j l b =
      let first = looks_rise (delay_in delays k q) j (suc j) (omega arith) in
      let second = looks_rise (delay_in delays k q) (suc j) (suc (suc j)) (omega arith) in
      pipeline.comes at total_of (delay_in delays k) runs apart s part.start nets.step part.port.ready h.steps last ready upto in_time starts_at q c part.found part.port.word h.ahead j l b
      ∙ right (looks_in q j) (offset_in q j) (word_of q j) (omega (arith, b, first, second)) (the_read q j (looks_in q j) c l refl)

  stored : AreFoundLater s part.found events upto number → StoresInTime s (dims core (dram_number core r)) events upto number part.port.ready part.port.address part.port.word
  stored right = record {
    enabled = record {
      on = λ t l x. let (is, w, d) = x in let o = of_write t is w d in ready.on t (omega (arith, l, in_time)) (o.run, o.word, o.there, o.within, o.cycle);
      only = λ t l e. let (q, j, c, b, is) = ready.only t (omega (arith, l, in_time)) e in (place_of q j, word_of q j, the_write q j t c b is);
    };
    at = λ t is w l d. let o = of_write t is w d in ap (λ u. s.net u part.port.address) o.cycle ∙ tells.address o.run o.word o.there o.within (subst (λ u. u ≤ upto) o.cycle l) ∙ ap (row_major (dims core (dram_number core r))) (sym o.indices);
    words = λ t is w l d. let o = of_write t is w d in ap (λ u. s.net u part.port.word) o.cycle ∙ comes right o.run o.there o.word o.within (subst (λ u. u ≤ upto) o.cycle l) ∙ sym o.gives;
  }

  pub goes : StoreGoes core plan delays s part nets upto k n r m spans runs
  goes = record {
    ends = runs_of.over_in core plan delays (store r m spans) k n runs took (is_on s nets.moving.done) upto (both.ends law core plan delays s (store_wires_of part) (dims core (dram_number core r)) spanned nets.moving last (store r m spans) k n runs moving rs took ready upto in_time starts);
    asks = both.asks law core plan delays s (store_wires_of part) (dims core (dram_number core r)) spanned nets.moving last (store r m spans) k n runs moving rs took ready upto in_time starts;
    tells = tells;
    looks = read;
    acts = stored;
  }

pub stores_work : SlicesAreWords → (core : PlainCore) (plan : PlainPlan) (delays : Delays) → StoresWork core plan delays
stores_work law core plan delays s part nets spanned last k n r m spans runs h moves_are dims_are rs ready t l starts =
    goes law core plan delays s part nets spanned last k n r m spans runs h moves_are dims_are rs ready t l (runs_of.started_in core plan delays (store r m spans) k n runs (is_on s part.start) t starts)

pub stores_do : SlicesAreWords → (core : PlainCore) (plan : PlainPlan) (delays : Delays) → StoresDo core plan delays
stores_do law core plan delays s part nets spanned last k n r m spans runs h moves_are dims_are rs ready t l starts =
    (stores_work law core plan delays s part nets spanned last k n r m spans runs h moves_are dims_are rs ready t l starts).ends
