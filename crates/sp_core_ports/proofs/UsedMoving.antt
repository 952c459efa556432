-- The words of a transfer use ports one after another.
use Rattle.std.proofs.Common.{◌≡◌, ℕ, zero, suc, ◌+◌, ◌<◌, ◌≤◌, inl, inr, Bool, true, false, cond, List, [], ◌∷◌, ◌++◌, map, length, None, arith, refl, ap, ◌∙◌}
use Rattle.std.proofs.lemmas.Bool.{and_parts}
use Rattle.std.specs.List.{list_all}
use Rattle.std.specs.Prelude.{◌/◌, ◌&&◌, slice_index_or}
use Rattle.sp_core.specs.Around.{Around}
use Rattle.sp_core.specs.Declarations.{mem, kind_of, dram_number}
use Rattle.sp_core.specs.Events.{Act, Event, Standing, Moment, touches, slices, reads, writes, turns, dram_event, rows_turn, first_of, list_moments, spans_moments}
use Rattle.sp_core.specs.History.{Taken, one, both}
use Rattle.sp_core.specs.NodeRules.{is_span_right}
use Rattle.sp_core.specs.Numbering.{spans_size}
use Rattle.sp_core.specs.OperationRules.{is_bound}
use Rattle.sp_core.specs.PlainCore.{PlainSpan, single, range, PlainMem, no_mem, PlainCore}
use Rattle.sp_core.specs.Transfers.{Part, part_of, lengths, has_none, places_of, all_offsets}
use Rattle.sp_plan.specs.PlainPlan.{PlainPlan}
use Rattle.sp_plan.specs.Ports.{has_banks}
use Rattle.sp_time.specs.Lists.{Each, total}
use Rattle.sp_time.proofs.ListLemmas.{total_mono}
use Rattle.sp_words.specs.declared.kind.Kind.{Kind}
use Rattle.sp_words.specs.declared.kind.Kind.TheVariants.{LineBuf}
use Rattle.sp_machine.specs.Stamps.{Stamped, Copies, copy_of, stamp, stamped}
use Rattle.sp_machine.specs.Timeline.{timed}
use Rattle.sp_machine.specs.Transfers.{Delays, word_cycle, look_cycle, load_stamped, store_stamped, slice_stamped, load_run, store_run}
use Rattle.sp_ports.proofs.Inners.{HasNoPort, bound_ports}
use Rattle.sp_core_ports.specs.UsedLaws.{TransfersUseNoPortTwice}
use Rattle.sp_core_ports.specs.UsedPorts.{act_port, moment_port}
use Rattle.sp_core_ports.proofs.UsedAtPort.{IsFree, free_moment}
use Rattle.sp_core_ports.proofs.UsedRising.{Rises, rises_from, rising_pairs, free_then}

none_append : (core : PlainCore) (a b : List Moment) → Each (HasNoPort core) a → Each (HasNoPort core) b → Each (HasNoPort core) (a ++ b)
none_append core [] b h k = k
none_append core (x ∷ a) b h k = (h.0, none_append core a b h.1 k)

-- slices read no memory with banks
pub spans_ports : (core : PlainCore) (around : Around) (n : ℕ) (st : Standing) (spans : List PlainSpan) (taken : List Taken) → list_all (is_span_right core around) spans ≡ true → Each (HasNoPort core) (spans_moments n st spans taken)
spans_ports core around n st (single ops ∷ spans) (one es ∷ taken) h =
    let q = and_parts (is_bound core around ops) (list_all (is_span_right core around) spans) h in
    none_append core (list_moments n st ops es) (spans_moments (n + length ops) st spans taken) (bound_ports core around n st ops es q.0) (spans_ports core around (n + length ops) st spans taken q.1)
spans_ports core around n st (range a b ∷ spans) (both es fs ∷ taken) h =
    let q = and_parts (is_bound core around a && is_bound core around b) (list_all (is_span_right core around) spans) h in
    let two = and_parts (is_bound core around a) (is_bound core around b) q.0 in
    none_append core (list_moments n st a es ++ list_moments (n + length a) st b fs) (spans_moments (n + (length a + length b)) st spans taken)
    (none_append core (list_moments n st a es) (list_moments (n + length a) st b fs) (bound_ports core around n st a es two.0) (bound_ports core around (n + length a) st b fs two.1))
    (spans_ports core around (n + (length a + length b)) st spans taken q.1)
spans_ports core around n st [] taken h = tt
spans_ports core around n st (single ops ∷ spans) [] h = tt
spans_ports core around n st (single ops ∷ spans) (both es fs ∷ taken) h = tt
spans_ports core around n st (range a b ∷ spans) [] h = tt
spans_ports core around n st (range a b ∷ spans) (one es ∷ taken) h = tt

-- a memory past the last one has no banks
past_end : (ms : List PlainMem) (r : ℕ) → slice_index_or ms (length ms + r) no_mem ≡ no_mem
past_end [] zero = refl
past_end [] (suc r) = refl
past_end (m ∷ ms) r = ap (λ k. slice_index_or (m ∷ ms) k no_mem) (let e : suc (length ms) + r ≡ suc (length ms + r) = omega arith in e) ∙ past_end ms r

module _ (core : PlainCore) (plan : PlainPlan) where
  pub stamped_free : (copies : Copies) (cycle : ℕ) (ms : List Moment) → Each (HasNoPort core) ms → Each (IsFree core plan) (stamped copies cycle ms)
  stamped_free copies cycle [] h = tt
  stamped_free copies cycle (m ∷ ms) h = (free_moment core plan m (copy_of copies m) h.0, stamped_free copies cycle ms h.1)

  pub no_dram_banks : (r : ℕ) → has_banks (mem core (dram_number core r)).kind ≡ false
  no_dram_banks r = ap (λ (m : PlainMem). has_banks m.kind) (past_end core.mems r)

  -- rows turn by no port
  turn_free : (e : Event) (c : ℕ) → e.act ≡ turns → moment_port core plan c (touches e) ≡ None
  turn_free e c h = go (has_banks (mem core e.mem).kind)
    where
      go : (b : Bool) → cond b (act_port core plan e c e.act) None ≡ None
      go true = ap (act_port core plan e c) h
      go false = refl

  module _ (delay : ℕ → ℕ) (copies : Copies) (n : ℕ) (st : Standing) (r m : ℕ) (parts : List Part) where
    words_rise : (j k : ℕ) → j < k → word_cycle delay j < word_cycle delay k
    words_rise j k l = let a : total delay (j / 16 + 1) ≤ total delay (k / 16 + 1) = total_mono delay _ _ (omega arith) in omega arith

    looks_rise : (j : ℕ) → look_cycle delay j < look_cycle delay (suc j)
    looks_rise zero = omega arith
    looks_rise (suc zero) = omega arith
    looks_rise (suc (suc j)) = words_rise j (suc j) (omega arith)

    dram_free : (cycle : ℕ) (places : List ℕ) (act : Act) → IsFree core plan (stamp copies cycle (dram_event core n st r places act))
    dram_free cycle places act = free_moment core plan (dram_event core n st r places act) (copies (dram_number core r)) (no_dram_banks r)

    loads_rise : (j : ℕ) (offsets : List (List ℕ)) (words : List ℕ) → Rises core plan (suc (word_cycle delay j)) (load_stamped delay core copies n st r m parts j offsets words)
    loads_rise j (o ∷ offsets) (w ∷ words) =
        inl (
          dram_free (word_cycle delay j) (places_of parts o) (reads w),
          inr (
            (let q : suc (word_cycle delay j) ≤ suc (word_cycle delay j) = omega arith in q),
            rises_from core plan (suc (suc (word_cycle delay j))) (suc (word_cycle delay (suc j))) (let q : word_cycle delay j < word_cycle delay (suc j) = words_rise j (suc j) (omega arith) in omega arith) _ (loads_rise (suc j) offsets words),
          ),
        )
    loads_rise j [] words = tt
    loads_rise j (o ∷ offsets) [] = tt

    stores_rise : (j : ℕ) (offsets : List (List ℕ)) (words : List ℕ) → Rises core plan (look_cycle delay j) (store_stamped delay core copies n st r m parts j offsets words)
    stores_rise j (o ∷ offsets) (w ∷ words) =
        inr (
          (let q : look_cycle delay j ≤ look_cycle delay j = omega arith in q),
          inl (
            dram_free (word_cycle delay j) (places_of parts o) (writes w),
            rises_from core plan (suc (look_cycle delay j)) (look_cycle delay (suc j)) (let q : look_cycle delay j < look_cycle delay (suc j) = looks_rise j in omega arith) _ (stores_rise (suc j) offsets words),
          ),
        )
    stores_rise j [] words = tt
    stores_rise j (o ∷ offsets) [] = tt

    slice_rises : (es : List Stamped) → Rises core plan 0 es → Rises core plan 0 (slice_stamped delay core copies n st parts es)
    slice_rises es h = go (has_none (lengths parts))
      where
        asked : Moment
        asked = slices (record { number = n; standing = st; firsts = map first_of parts; lengths = lengths parts })

        go : (b : Bool) → Rises core plan 0 (elim b as (λ _. List Stamped) [ true ↦ [] | false ↦ stamped copies 1 (asked ∷ []) ++ es ])
        go true = tt
        go false = inl (refl, h)

    pub load_rises : (words : List ℕ) → Rises core plan 0 (load_run delay core copies n st r m parts words)
    load_rises words = slice_rises _ (turned (kind_of core m))
      where
        first : Rises core plan 0 (load_stamped delay core copies n st r m parts 0 (all_offsets parts) words)
        first = rises_from core plan 0 (suc (word_cycle delay 0)) (omega arith) _ (loads_rise 0 (all_offsets parts) words)

        turned : (kd : Kind) → Rises core plan 0 (stamped copies 1 (rows_turn core n st kd m) ++ load_stamped delay core copies n st r m parts 0 (all_offsets parts) words)
        turned LineBuf = inl (turn_free (record { number = n; standing = st; mem = m; indices = []; act = turns }) (copies m) refl, first)
        turned kd = first

    pub store_rises : (words : List ℕ) → Rises core plan 0 (store_run delay core copies n st r m parts words)
    store_rises words = slice_rises _ (stores_rise 0 (all_offsets parts) words)

pub transfers_use_none : (core : PlainCore) (plan : PlainPlan) (delays : Delays) → TransfersUseNoPortTwice core plan delays
unfolding timed
transfers_use_none core plan delays forms around r m spans k n st copies taken words right =
    let free : Each (IsFree core plan) (stamped copies 0 (spans_moments n st spans taken)) = stamped_free core plan copies 0 (spans_moments n st spans taken) (spans_ports core around n st spans taken right) in (
      rising_pairs core plan forms 0 _ (free_then core plan 0 (stamped copies 0 (spans_moments n st spans taken)) _ free (load_rises core plan (delays k st.path) copies (n + spans_size spans) st r m (map part_of taken) words)),
      rising_pairs core plan forms 0 _ (free_then core plan 0 (stamped copies 0 (spans_moments n st spans taken)) _ free (store_rises core plan (delays k st.path) copies (n + spans_size spans) st r m (map part_of taken) words)),
    )
