-- The read of a store acts as the circuit of its SRAM asks.
use Rattle.std.proofs.Common.{◌≡◌, ℕ, ◌<◌, ◌≤◌, ◌^◌, true, List, map, All, refl, sym, ap, subst, ◌∙◌}
use Rattle.std.specs.List.{Contains}
use Rattle.sp_words.specs.declared.kind.Kind.TheVariants.{Sram}
use Rattle.sp_netlist.specs.Signals.{Signals}
use Rattle.sp_gates.specs.Tested.{is_on}
use Rattle.sp_core.specs.Declarations.{dims, kind_of}
use Rattle.sp_core.specs.Events.{reads, Event, touches}
use Rattle.sp_core.specs.MemoryRules.{are_memories_right}
use Rattle.sp_core.specs.PlainCore.{PlainCore}
use Rattle.sp_hold.proofs.Orderly.{small_dims}
use Rattle.sp_plan.specs.PlainPlan.{PlainPlan}
use Rattle.sp_time.specs.Lists.{Each}
use Rattle.sp_machine.specs.Stamps.{Stamped}
use Rattle.sp_chosen_runs.specs.InsideLaws.{is_of_word, IsInside}
use Rattle.sp_mem.specs.declared.part.Touch.{Touch}
use Rattle.sp_mem.specs.Copies.{copy_at}
use Rattle.sp_node_runs.specs.BodiesTold.{Happens}
use Rattle.sp_transfer_runs.specs.Told.{DoesAt}
use Rattle.sp_memory_words.specs.Answers.{NamesCopies}
use Rattle.sp_bank_words.specs.Accesses.{reads_in}
use Rattle.sp_bank_words.specs.Acting.{ReadGoes}
use Rattle.sp_bank_words.proofs.Events.{each_at, no_signs}
use Rattle.sp_bank_words.proofs.Filtered.{read_from}
use Rattle.sp_access_nets.specs.declared.access.AccessNets.{AccessNets}
use Rattle.sp_memory_nets.proofs.ScalarPicked.{unmapped}
use Rattle.sp_memory_nets.specs.ArrayTouches.{IsReadBy}
use Rattle.sp_stored_cores.specs.ArrayStores.{ReadsInTime}
use Rattle.sp_stored_cores.proofs.ArrayLoading.{are_small, small_indices, on_chip}

module _ (core : PlainCore) (plan : PlainPlan) (s : Signals) (events : List Stamped) (last m : ℕ) (right : are_memories_right core ≡ true) (inside : Each (λ (x : Stamped). IsInside core x.moment) events) (sram : kind_of core m ≡ Sram) where
  small_event : (t c : ℕ) (e : Event) → Contains (reads_in m events) (record { cycle = t; copy = c; moment = touches e }) → All (λ i. i < 2 ^ 31) e.indices
  small_event t c e h =
      let r = read_from events m t c e h in
      small_indices (dims core e.mem) e.indices (each_at (λ (x : Stamped). IsInside core x.moment) events inside (record { cycle = t; copy = c; moment = touches e }) r.there (ap is_of_word r.act))
      (subst (λ j. are_small (dims core j) ≡ true) (sym r.mem) (small_dims core m right (on_chip core m sram)))

  module _ (a : AccessNets) (touch : Touch) (is : IsReadBy core plan a touch) (act : ReadsInTime s (reads_in m events) last a.number a.enable a.operands.items) (named : NamesCopies s (reads_in m events) last a.number a.copy) where
    -- its events read, each at its element
    abbrev word_of : (t : ℕ) (e : Event) → Happens (reads_in m events) a.number t e → ℕ
    word_of t e h = (read_from events m t h.copy e h.there).word

    read : (t : ℕ) (e : Event) (h : Happens (reads_in m events) a.number t e) → DoesAt (reads_in m events) a.number t e.indices (reads (word_of t e h))
    read t e h = record { event = e; happens = h; at = refl; does = (read_from events m t h.copy e h.there).act }

    at : (t : ℕ) (e : Event) → t ≤ last → Happens (reads_in m events) a.number t e → e.indices ≡ map (s.net t) touch.index.items
    at t e l h = act.at t e.indices (word_of t e h) l (read t e h) ∙ ap (map (s.net t)) (sym is.index)

    small : (t : ℕ) (e : Event) → t ≤ last → Happens (reads_in m events) a.number t e → All (λ net. s.net t net < 2 ^ 31) touch.index.items
    small t e l h = unmapped (s.net t) (λ i. i < 2 ^ 31) touch.index.items (subst (All (λ i. i < 2 ^ 31)) (at t e l h) (small_event t h.copy e h.there))

    pub store_goes : ReadGoes core plan s m (reads_in m events) last a.number touch
    store_goes = record {
      on = λ t l some. ap (λ n. is_on s n t) is.enable ∙ act.enabled.on t l (some.0.indices, word_of t some.0 some.1, read t some.0 some.1);
      only = λ t l on others. (let r = act.enabled.only t l (sym (ap (λ n. is_on s n t) is.enable) ∙ on) in (r.2.event, r.2.happens));
      at = λ t e l h. at t e l h ∙ sym (no_signs (s.net t) touch.index.items (small t e l h));
      stands = record {
        copy = λ t c e l there n. ap (copy_at s t) is.copy ∙ named t e (record { copy = c; there = there; numbered = n }) l;
        index = small;
      };
    }
