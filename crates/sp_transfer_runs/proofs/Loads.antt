-- A load over all runs of its node.
use Rattle.std.proofs.Common.{◌≡◌, ℕ, zero, suc, ◌+◌, ◌<◌, ◌≤◌, true, false, if◌then◌else◌, List, [], ◌++◌, refl, sym, ap, subst, ◌∙◌, arith}
use Rattle.std.specs.List.{Contains}
use Rattle.sp_words.specs.declared.kind.Kind.TheVariants.{LineBuf}
use Rattle.sp_netlist.specs.Signals.{Signals}
use Rattle.sp_gates.specs.Tested.{is_on}
use Rattle.sp_core.specs.Declarations.{dims, kind_of, dram_number}
use Rattle.sp_core.specs.Events.{Act, reads, writes, turns, Event, touches, spans_moments}
use Rattle.sp_core.specs.Numbering.{spans_size}
use Rattle.sp_core.specs.PlainCore.{PlainSpan, load, PlainCore}
use Rattle.sp_core.specs.Transfers.{loaded_at, lengths, has_none}
use Rattle.sp_plan.specs.PlainPlan.{PlainPlan}
use Rattle.sp_machine.specs.Stamps.{Stamped, stamped, moved as moved_by}
use Rattle.sp_machine.specs.Transfers.{Delays, word_cycle, transfer_took, load_run}
use Rattle.sp_part_runs.specs.BodiesRuns.{IsOnAt}
use Rattle.sp_part_runs.specs.ControlParts.{Begins}
use Rattle.sp_node_runs.specs.Runs.{Placed, told}
use Rattle.sp_node_runs.specs.RunsTold.{all_events}
use Rattle.sp_slices.specs.Slices.{offsets_of}
use Rattle.sp_xfer.specs.declared.part.Load.{Load}
use Rattle.sp_xfer.specs.declared.part.Loaded.{Loaded}
use Rattle.sp_xfer.specs.Moving.{MovesSlice, RunsLoad, wires_of, words_at}
use Rattle.sp_node_runs.specs.BodiesSpans.{SpanNets}
use Rattle.sp_transfer_runs.specs.Loads.{LoadAnswered, LoadGoes, LoadsWork, LoadsDo}
use Rattle.sp_transfer_runs.specs.Runs.{taken_in, words_in, total_of, word_of, place_of, delay_in, moves_in, Moves, Asks, TransferRuns}
use Rattle.sp_transfer_runs.specs.Told.{DoesAt, Writes, Turns}
use Rattle.sp_transfer_runs.specs.Words.{moves_of, parts_of, count_of, offset_of, MovesWord, SlicesAreWords}
use Rattle.sp_transfer_runs.proofs.Events.{dram_read, chip_write, rows_turned, load_happens, load_writes, load_turns, load_turned, load_some, same_event}
use Rattle.sp_transfer_runs.proofs.Ahead.{some_word}
use Rattle.sp_transfer_runs.proofs.Both as both
use Rattle.sp_transfer_runs.proofs.Both.{some_range, in_count}
use Rattle.sp_transfer_runs.proofs.Runs as runs_of
use Rattle.sp_transfer_runs.proofs.Runs.{transfer_rans}

-- the word of a write
abbrev word_in : Act → ℕ
word_in (writes w) = w
word_in act = 0

pub written_of : (v w : ℕ) → writes v ≡ writes w → v ≡ w
written_of v w e = ap word_in e

module _ (law : SlicesAreWords) (core : PlainCore) (plan : PlainPlan) (delays : Delays) (s : Signals) (part : Load) (nets : Loaded) (spanned : List SpanNets) (last k n r m dram : ℕ) (spans : List PlainSpan) (runs : List Placed)
    (h : RunsLoad s part nets) (moves_are : part.moves.items ≡ moves_of spanned) (dims_are : part.dims.items ≡ dims core (dram_number core r))
    (rs : TransferRuns core plan delays s last (load r m spans) k n (dims core (dram_number core r)) spanned runs)
    (answered : LoadAnswered delays s part dram (dims core (dram_number core r)) (all_events core plan delays (load r m spans) k n runs) last k (n + spans_size spans) runs)
    (upto : ℕ) (in_time : upto ≤ last) (starts : IsOnAt (is_on s part.start) (Begins (transfer_rans delays k runs)) upto) where
  abbrev events : List Stamped
  events = all_events core plan delays (load r m spans) k n runs

  abbrev number : ℕ
  number = n + spans_size spans

  moving : MovesSlice s (wires_of part) (dims core (dram_number core r)) (moves_of spanned) nets.moving
  moving = subst (λ ms. MovesSlice s (wires_of part) (dims core (dram_number core r)) ms nets.moving) moves_are (subst (λ ds. MovesSlice s (wires_of part) ds part.moves.items nets.moving) dims_are h.moves)

  took : (q : Placed) → Contains runs q → (told core plan delays (load r m spans) k n q).took ≡ transfer_took (delay_in delays k q) (total_of q)
  took q c = runs_of.load_took core plan delays k n r m spans q (rs.did q c).is

  word : (q : Placed) → Contains runs q → (j : ℕ) → j < total_of q → moves_in delays k q j ≤ upto → MovesWord s (wires_of part) (dims core (dram_number core r)) (moves_of spanned) nets.moving (taken_in q.history) j (moves_in delays k q j)
  word = both.word law core plan delays s (wires_of part) (dims core (dram_number core r)) spanned nets.moving last (load r m spans) k n runs moving rs took answered.ready upto in_time starts

  moved : IsOnAt (is_on s nets.moving.moved) (Moves delays k runs) upto
  moved = both.moved law core plan delays s (wires_of part) (dims core (dram_number core r)) spanned nets.moving last (load r m spans) k n runs moving rs took answered.ready upto in_time starts

  -- what happens on the chip and in the DRAM for a word
  abbrev body : Placed → List Stamped
  body q = load_run (delay_in delays k q) core q.copies (n + spans_size spans) q.standing r m (parts_of (taken_in q.history)) (words_in q.history)

  abbrev chip : Placed → ℕ → List ℕ → ℕ → Stamped
  chip q = chip_write (delay_in delays k q) core q.copies (n + spans_size spans) q.standing r m (parts_of (taken_in q.history))

  abbrev dram_at : Placed → ℕ → List ℕ → ℕ → Stamped
  dram_at q = dram_read (delay_in delays k q) core q.copies (n + spans_size spans) q.standing r m (parts_of (taken_in q.history))

  events_are : (q : Placed) → Contains runs q → (told core plan delays (load r m spans) k n q).events ≡ stamped q.copies 0 (spans_moments n q.standing spans (taken_in q.history)) ++ body q
  events_are q c = runs_of.load_events core plan delays k n r m spans q (rs.did q c).is

  some : (q : Placed) → Contains runs q → (j : ℕ) → j < total_of q → has_none (lengths (parts_of (taken_in q.history))) ≡ false
  some q c j l = some_range (dims core (dram_number core r)) q (rs.did q c) j l

  count : (q : Placed) → Contains runs q → (j : ℕ) → j < total_of q → j < count_of (taken_in q.history)
  count q c j l = in_count (dims core (dram_number core r)) q (rs.did q c) j l

  is_written : (q : Placed) (j : ℕ) → Contains runs q → j < total_of q → Contains events (moved_by q.cycle (chip q j (offset_of (taken_in q.history) j) (word_of q j)))
  is_written q j c l = runs_of.put_in core plan delays (load r m spans) k n spans runs body events_are q c (chip q j (offset_of (taken_in q.history) j) (word_of q j))
      (load_happens (delay_in delays k q) core q.copies (n + spans_size spans) q.standing r m (parts_of (taken_in q.history)) (words_in q.history) (some q c j l) j (count q c j l) l).1

  is_read : (q : Placed) (j : ℕ) → Contains runs q → j < total_of q → Contains events (moved_by q.cycle (dram_at q j (offset_of (taken_in q.history) j) (word_of q j)))
  is_read q j c l = runs_of.put_in core plan delays (load r m spans) k n spans runs body events_are q c (dram_at q j (offset_of (taken_in q.history) j) (word_of q j))
      (load_happens (delay_in delays k q) core q.copies (n + spans_size spans) q.standing r m (parts_of (taken_in q.history)) (words_in q.history) (some q c j l) j (count q c j l) l).0

  -- each event that writes is that of a word
  pub record OfWord (t : ℕ) (is : List ℕ) (w : ℕ) : Type 0 where
    pub run : Placed
    pub word : ℕ
    pub there : Contains runs run
    pub within : word < total_of run
    pub cycle : t ≡ suc (moves_in delays k run word)
    pub indices : is ≡ loaded_at core (kind_of core m) m (offset_of (taken_in run.history) word)
    pub gives : w ≡ word_of run word

  of_word : (t : ℕ) (is : List ℕ) (w : ℕ) → DoesAt events number t is (writes w) → OfWord t is w
  of_word t is w d =
      let x : Stamped = record { cycle = t; copy = d.happens.copy; moment = touches d.event } in
      let (q, c, y, inside, same) = runs_of.take_out core plan delays (load r m spans) k n spans runs body events_are x d.event refl d.happens.numbered d.happens.there in
      let here : y.moment ≡ touches d.event = ap (λ (z : Stamped). z.moment) same in
      let found = load_writes (delay_in delays k q) core q.copies (n + spans_size spans) q.standing r m (parts_of (taken_in q.history)) (words_in q.history) y d.event w here d.does inside in
      let event = same_event _ d.event (ap (λ (z : Stamped). z.moment) found.is ∙ here) in
      let late : suc (word_cycle (delay_in delays k q) found.word) ≡ y.cycle = ap (λ (z : Stamped). z.cycle) found.is in
      let when : q.cycle + y.cycle ≡ t = ap (λ (z : Stamped). z.cycle) same in
      record {
        run = q;
        word = found.word;
        there = c;
        within = found.within;
        cycle = omega (arith, late, when);
        indices = sym d.at ∙ sym (ap (λ (e : Event). e.indices) event);
        gives = sym (written_of (word_of q found.word) w (ap (λ (e : Event). e.act) event ∙ d.does));
      }

  -- the access is on where a word moved the cycle before
  late : (u : ℕ) → is_on s nets.write (suc u) ≡ is_on s nets.moving.moved u
  late u = h.writes (suc u) ∙ sym (h.moves.moved u)

  enabled : IsOnAt (is_on s nets.write) (Writes events number) upto
  enabled = record { on = on; only = only }
    where
      on : (t : ℕ) → t ≤ upto → Writes events number t → is_on s nets.write t ≡ true
      on t l (is, w, d) =
          let o = of_word t is w d in
          let e = o.cycle in
          ap (is_on s nets.write) o.cycle ∙ late (moves_in delays k o.run o.word) ∙ moved.on (moves_in delays k o.run o.word) (omega (arith, l, e)) (o.run, o.word, o.there, o.within, refl)

      only : (t : ℕ) → t ≤ upto → is_on s nets.write t ≡ true → Writes events number t
      only zero l e = absurd (let f = sym (h.writes zero) ∙ e in cc)
      only (suc u) l e =
          let (q, j, c, k', is) = moved.only u (omega (arith, l)) (sym (late u) ∙ e) in (
            loaded_at core (kind_of core m) m (offset_of (taken_in q.history) j),
            word_of q j,
            record {
              event = record { number = n + spans_size spans; standing = q.standing; mem = m; indices = loaded_at core (kind_of core m) m (offset_of (taken_in q.history) j); act = writes (word_of q j) };
              happens = record { copy = q.copies m; there = subst (λ t. Contains events (record { cycle = t; copy = q.copies m; moment = touches (record { number = n + spans_size spans; standing = q.standing; mem = m; indices = loaded_at core (kind_of core m) m (offset_of (taken_in q.history) j); act = writes (word_of q j) }) })) (omega (arith, is)) (is_written q j c k'); numbered = refl };
              at = refl;
              does = refl;
            },
          )

  written : (t : ℕ) (is : List ℕ) (w : ℕ) → t ≤ upto → DoesAt events number t is (writes w) → is ≡ loaded_at core (kind_of core m) m (words_at s t nets.indices.items)
  written t is w l d =
      let o = of_word t is w d in
      let e = o.cycle in
      let there = (word o.run o.there o.word o.within (omega (arith, l, e))).at.offset (count o.run o.there o.word o.within) in
      let nets_are : words_at s t nets.indices.items ≡ offset_of (taken_in o.run.history) o.word =
      ap (λ u. words_at s u nets.indices.items) o.cycle ∙ h.indices (moves_in delays k o.run o.word) ∙ ap (λ ms. words_at s (moves_in delays k o.run o.word) (offsets_of ms nets.moving.walk.axes.items)) moves_are ∙ there in
      o.indices ∙ ap (loaded_at core (kind_of core m) m) (sym nets_are)

  comes : (t : ℕ) (is : List ℕ) (w : ℕ) → t ≤ upto → DoesAt events number t is (writes w) → s.net t part.port.word ≡ w
  comes t is w l d =
      let o = of_word t is w d in
      let e = o.cycle in
      let u : ℕ = moves_in delays k o.run o.word in
      let in_upto : moves_in delays k o.run o.word ≤ upto = omega (arith, l, e) in
      let on : is_on s part.port.ready (moves_in delays k o.run o.word) ≡ true = answered.ready.on (moves_in delays k o.run o.word) (omega (arith, in_upto, in_time)) (o.run, o.word, o.there, o.within, refl) in
      let place = (word o.run o.there o.word o.within in_upto).address (count o.run o.there o.word o.within) in
      ap (λ v. s.net v part.port.word) o.cycle
      ∙ answered.unit.1 (moves_in delays k o.run o.word)
      ∙ ap (λ b. if b then s.dram (moves_in delays k o.run o.word) dram (s.net (moves_in delays k o.run o.word) part.port.address) else s.net (moves_in delays k o.run o.word) part.port.word) on
      ∙ ap (s.dram (moves_in delays k o.run o.word) dram) place
      ∙ answered.found (moves_in delays k o.run o.word) (place_of o.run o.word) (word_of o.run o.word) (omega (arith, in_upto, in_time)) (record {
        event = record { number = n + spans_size spans; standing = o.run.standing; mem = dram_number core r; indices = place_of o.run o.word; act = reads (word_of o.run o.word) };
        happens = record { copy = o.run.copies (dram_number core r); there = is_read o.run o.word o.there o.within; numbered = refl };
        at = refl;
        does = refl;
      })
      ∙ sym o.gives

  -- the rows of a line buffer turn where the slice is asked for
  rooms : IsOnAt (is_on s nets.moving.asks) (Asks delays k runs) upto
  rooms = both.makes_room law core plan delays s (wires_of part) (dims core (dram_number core r)) spanned nets.moving last (load r m spans) k n runs moving rs took answered.ready upto in_time starts

  abbrev turned : Placed → Stamped
  turned q = rows_turned (delay_in delays k q) core q.copies (n + spans_size spans) q.standing r m (parts_of (taken_in q.history))

  rows_turn_in_time : kind_of core m ≡ LineBuf → IsOnAt (is_on s nets.moving.asks) (Turns events number) upto
  rows_turn_in_time e = runs_of.same_cycles (is_on s nets.moving.asks) (Asks delays k runs) (Turns events number) upto to from rooms
    where
      to : (t : ℕ) → Asks delays k runs t → Turns events number t
      to t (q, c, l, is) = record {
        event = record { number = n + spans_size spans; standing = q.standing; mem = m; indices = []; act = turns };
        happens = record {
          copy = q.copies m;
          there = subst (λ u. Contains events (record { cycle = u; copy = q.copies m; moment = touches (record { number = n + spans_size spans; standing = q.standing; mem = m; indices = []; act = turns }) })) (let f : q.cycle + 1 ≡ t = omega (arith, is) in f)
              (runs_of.put_in core plan delays (load r m spans) k n spans runs body events_are q c (turned q) (load_turns (delay_in delays k q) core q.copies (n + spans_size spans) q.standing r m (parts_of (taken_in q.history)) (words_in q.history) (some q c 0 l) e));
          numbered = refl;
        };
        at = refl;
        does = refl;
      }

      from : (t : ℕ) → Turns events number t → Asks delays k runs t
      from t d =
          let x : Stamped = record { cycle = t; copy = d.happens.copy; moment = touches d.event } in
          let (q, c, y, inside, same) = runs_of.take_out core plan delays (load r m spans) k n spans runs body events_are x d.event refl d.happens.numbered d.happens.there in
          let here : y.moment ≡ touches d.event = ap (λ (z : Stamped). z.moment) same in
          let found = load_turned (delay_in delays k q) core q.copies (n + spans_size spans) q.standing r m (parts_of (taken_in q.history)) (words_in q.history) y d.event here d.does inside in
          let none = load_some (delay_in delays k q) core q.copies (n + spans_size spans) q.standing r m (parts_of (taken_in q.history)) (words_in q.history) y inside in
          let late : 1 ≡ y.cycle = ap (λ (z : Stamped). z.cycle) found in
          let when : q.cycle + y.cycle ≡ t = ap (λ (z : Stamped). z.cycle) same in
          (q, c, subst (λ i. 0 < i) (sym (rs.did q c).each) (some_word (lengths (parts_of (taken_in q.history))) none), omega (arith, late, when))

  pub goes : LoadGoes core plan delays s part nets upto k n r m spans runs
  goes = record {
    ends = runs_of.over_in core plan delays (load r m spans) k n runs took (is_on s nets.moving.done) upto (both.ends law core plan delays s (wires_of part) (dims core (dram_number core r)) spanned nets.moving last (load r m spans) k n runs moving rs took answered.ready upto in_time starts);
    asks = both.asks law core plan delays s (wires_of part) (dims core (dram_number core r)) spanned nets.moving last (load r m spans) k n runs moving rs took answered.ready upto in_time starts;
    makes_room = rooms;
    turns = rows_turn_in_time;
    tells = both.tells law core plan delays s (wires_of part) (dims core (dram_number core r)) spanned nets.moving last (load r m spans) k n runs moving rs took answered.ready upto in_time starts;
    acts = record { enabled = enabled; at = written; words = comes };
  }

pub loads_work : SlicesAreWords → (core : PlainCore) (plan : PlainPlan) (delays : Delays) → LoadsWork core plan delays
loads_work law core plan delays s part nets spanned last k n r m dram spans runs h moves_are dims_are rs answered t l starts =
    goes law core plan delays s part nets spanned last k n r m dram spans runs h moves_are dims_are rs answered t l (runs_of.started_in core plan delays (load r m spans) k n runs (is_on s part.start) t starts)

pub loads_do : SlicesAreWords → (core : PlainCore) (plan : PlainPlan) (delays : Delays) → LoadsDo core plan delays
loads_do law core plan delays s part nets spanned last k n r m dram spans runs h moves_are dims_are rs answered t l starts =
    (loads_work law core plan delays s part nets spanned last k n r m dram spans runs h moves_are dims_are rs answered t l starts).ends
