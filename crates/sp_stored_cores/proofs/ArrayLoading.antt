-- The write of a load acts as the circuit of its SRAM asks.
use Rattle.std.proofs.Common.{◌≡◌, ℕ, ◌<◌, ◌≤◌, ◌^◌, Bool, true, false, if◌then◌else◌, List, [], ◌∷◌, ◌++◌, length, map, nat_lt, nat_le, pos, All, Some, refl, sym, ap, subst, ◌∙◌, ltb-true, leb-true, arith}
use Rattle.std.specs.List.{Contains, list_all}
use Rattle.std.proofs.lemmas.Bool.{and_parts, false≢true}
use Rattle.std.proofs.lemmas.List.Elements.{All-cons}
use Rattle.sp_words.specs.declared.kind.Kind.TheVariants.{Sram, Dram}
use Rattle.sp_netlist.specs.Signals.{Signals}
use Rattle.sp_gates.specs.Tested.{is_on}
use Rattle.sp_core.specs.declared.operation.OpKind.TheVariants.{Write}
use Rattle.sp_core.specs.Declarations.{mem, dims, kind_of}
use Rattle.sp_core.specs.Elements.{is_below, are_inside}
use Rattle.sp_core.specs.Events.{writes, Event, touches}
use Rattle.sp_core.specs.MemoryRules.{are_memories_right}
use Rattle.sp_core.specs.PlainCore.{PlainCore}
use Rattle.sp_core.specs.Transfers.{loaded_at}
use Rattle.sp_hold.proofs.Orderly.{small_dims}
use Rattle.sp_time.specs.Lists.{Each}
use Rattle.sp_machine.specs.Stamps.{Stamped}
use Rattle.sp_chosen_runs.specs.InsideLaws.{is_of_word, IsInside}
use Rattle.sp_mem.specs.declared.part.Touch.{Touch}
use Rattle.sp_mem.specs.Copies.{copy_at}
use Rattle.sp_part_runs.specs.ActsEntries.{index_of, index_words, word_that_changes}
use Rattle.sp_node_runs.specs.BodiesTold.{Happens}
use Rattle.sp_xfer.specs.Moving.{words_at}
use Rattle.sp_transfer_runs.specs.Told.{DoesAt, WritesInTime}
use Rattle.sp_memory_words.specs.Answers.{NamesCopies}
use Rattle.sp_bank_words.specs.Accesses.{writes_in}
use Rattle.sp_bank_words.specs.Acting.{WriteGoes}
use Rattle.sp_bank_words.proofs.Events.{each_at, no_signs, words_before, word_behind}
use Rattle.sp_bank_words.proofs.Filtered.{write_from}
use Rattle.sp_access_nets.specs.declared.access.AccessNets.{AccessNets}
use Rattle.sp_memory_nets.proofs.ScalarPicked.{unmapped}
use Rattle.sp_memory_nets.specs.ArrayTouches.{IsWriteBy}
use Rattle.sp_stored_cores.proofs.ArrayLists.{ends}

abbrev pub are_small : List ℕ → Bool
are_small ds = list_all (λ d. nat_le d (2 ^ 26)) ds

-- indices inside of a memory have no sign
pub small_indices : (ds is : List ℕ) → are_inside ds (map pos is) ≡ true → are_small ds ≡ true → All (λ i. i < 2 ^ 31) is
small_indices [] [] h k = λ i d l. absurd (omega (arith, l))
small_indices [] (i ∷ is) h k = absurd (false≢true h)
small_indices (d ∷ ds) [] h k = λ i e l. absurd (omega (arith, l))
small_indices (d ∷ ds) (i ∷ is) h k =
    let a = and_parts (is_below (pos i) d) (are_inside ds (map pos is)) h in
    let b = and_parts (nat_le d (2 ^ 26)) (are_small ds) k in
    let below = ltb-true i d a.0 in
    let few = leb-true d (2 ^ 26) b.0 in
    All-cons (λ i. i < 2 ^ 31) i is (omega (arith, below, few)) (small_indices ds is a.1 b.1)

pub on_chip : (core : PlainCore) (m : ℕ) → kind_of core m ≡ Sram → nat_lt m (length core.mems) ≡ true
on_chip core m sram = by (nat_lt m (length core.mems)) refl sram
  where
    by : (b : Bool) → nat_lt m (length core.mems) ≡ b → (if b then (mem core m).kind else Dram) ≡ Sram → nat_lt m (length core.mems) ≡ true
    by true e h = e
    by false e h = absurd (cc (h))

module _ (core : PlainCore) (s : Signals) (events : List Stamped) (last m : ℕ) (right : are_memories_right core ≡ true) (inside : Each (λ (x : Stamped). IsInside core x.moment) events) (sram : kind_of core m ≡ Sram) where
  small_event : (t c : ℕ) (e : Event) → Contains (writes_in m events) (record { cycle = t; copy = c; moment = touches e }) → All (λ i. i < 2 ^ 31) e.indices
  small_event t c e h =
      let w = write_from events m t c e h in
      small_indices (dims core e.mem) e.indices (each_at (λ (x : Stamped). IsInside core x.moment) events inside (record { cycle = t; copy = c; moment = touches e }) w.there (ap is_of_word w.act))
      (subst (λ j. are_small (dims core j) ≡ true) (sym w.mem) (small_dims core m right (on_chip core m sram)))

  module _ (a : AccessNets) (touch : Touch) (is : IsWriteBy a touch) (some : 0 < length a.operands.items)
      (act : WritesInTime s (writes_in m events) last a.number (loaded_at core (kind_of core m) m) a.enable (index_words Write a.operands.items) (word_that_changes Write a.operands.items))
      (named : NamesCopies s (writes_in m events) last a.number a.copy) where
    -- its events write, each its word at its element
    abbrev word_of : (t : ℕ) (e : Event) → Happens (writes_in m events) a.number t e → ℕ
    word_of t e h = (write_from events m t h.copy e h.there).word

    wrote : (t : ℕ) (e : Event) (h : Happens (writes_in m events) a.number t e) → DoesAt (writes_in m events) a.number t e.indices (writes (word_of t e h))
    wrote t e h = record { event = e; happens = h; at = refl; does = (write_from events m t h.copy e h.there).act }

    at : (t : ℕ) (e : Event) → t ≤ last → Happens (writes_in m events) a.number t e → e.indices ≡ map (s.net t) touch.index.items
    at t e l h =
        act.at t e.indices (word_of t e h) l (wrote t e h) ∙ ap (λ kind. loaded_at core kind m (words_at s t (index_words Write a.operands.items))) sram
        ∙ ap (map (s.net t)) (sym is.index)

    small : (t : ℕ) (e : Event) → t ≤ last → Happens (writes_in m events) a.number t e → All (λ net. s.net t net < 2 ^ 31) touch.index.items
    small t e l h = unmapped (s.net t) (λ i. i < 2 ^ 31) touch.index.items (subst (All (λ i. i < 2 ^ 31)) (at t e l h) (small_event t h.copy e h.there))

    operands : a.operands.items ≡ touch.index.items ++ touch.word ∷ []
    operands = sym (ap (λ ns. ns ++ touch.word ∷ []) is.index ∙ ap (λ n. index_words Write a.operands.items ++ n ∷ []) is.word ∙ ends a.operands.items some)

    pub load_goes : WriteGoes s (writes_in m events) last a.number touch
    load_goes = record {
      acts = record {
        enabled = record {
          on = λ t l some. ap (λ n. is_on s n t) is.enable ∙ act.enabled.on t l (some.0.indices, word_of t some.0 some.1, wrote t some.0 some.1);
          only = λ t l on. (let w = act.enabled.only t l (sym (ap (λ n. is_on s n t) is.enable) ∙ on) in (w.2.event, w.2.happens));
        };
        at = λ t e l h. at t e l h ∙ sym (no_signs (s.net t) touch.index.items (small t e l h)) ∙ ap (map index_of) (sym (words_before (s.net t) touch.index.items touch.word));
        word = λ t e l h changes.
            ap (λ v. Some (writes v)) (word_behind (s.net t) touch.index.items touch.word ∙ ap (s.net t) is.word ∙ act.words t e.indices (word_of t e h) l (wrote t e h))
            ∙ ap Some (sym (write_from events m t h.copy e h.there).act);
        index = λ t e l h. subst (All (λ net. s.net t net < 2 ^ 31)) (is.index ∙ ap (index_words Write) operands) (small t e l h);
      };
      stands = record {
        copy = λ t c e l there n. ap (copy_at s t) is.copy ∙ named t e (record { copy = c; there = there; numbered = n }) l;
        index = small;
      };
    }
