-- The write of a load that acts in time, by hand.
use Rattle.std.proofs.Common.{◌≡◌, ℕ, ◌==◌, Bool, true, false, if◌then◌else◌, inl, inr, [], ◌∷◌, Some, refl, sym, ap, subst, ◌∙◌, arith, eq-eqb, eqb-true}
use Rattle.std.specs.List.{Contains}
use Rattle.std.proofs.lemmas.Bool.{false≢true}
use Rattle.sp_words.specs.declared.kind.Kind.TheVariants.{Sram}
use Rattle.sp_core.specs.declared.operation.OpKind.TheVariants.{Write}
use Rattle.sp_core.specs.Declarations.{kind_of}
use Rattle.sp_core.specs.Events.{reads, writes, Event, Moment, touches}
use Rattle.sp_core.specs.Transfers.{loaded_at}
use Rattle.sp_machine.specs.Stamps.{Stamped}
use Rattle.sp_mem.specs.Copies.{copy_at}
use Rattle.sp_part_runs.specs.ActsEntries.{index_words, word_that_changes}
use Rattle.sp_transfer_runs.specs.Told.{WritesInTime}
use Rattle.sp_tree_events.specs.ToldItems.{transfer, NodeHas}
use Rattle.sp_memory_words.specs.Answers.{NamesCopies}
use Rattle.sp_bank_words.specs.Accesses.{writes_in}
use Rattle.sp_bank_words.proofs.Acts.{act_word}
use Rattle.sp_access_nets.specs.declared.access.AccessNets.{AccessNets}
use Rattle.sp_memory_nets.proofs.ScalarPicked.{first_or_later, none_there}
use Rattle.sp_stored_cores.specs.ArrayExample.{loading_core, load_event, loading_events, loading_signals, IsItsWrite, WorkedLoad}
use Rattle.sp_stored_cores.specs.ArrayLoads.{IsLoading, LoadsInTime}

-- the event that writes
abbrev write : Stamped
write = record { cycle = 5; copy = 1; moment = touches (load_event 0 (writes 7)) }

one_event : (t c : ℕ) (e : Event) → Contains (write ∷ []) (record { cycle = t; copy = c; moment = touches e }) → write ≡ record { cycle = t; copy = c; moment = touches e }
one_event t c e there = elim (first_or_later write (record { cycle = t; copy = c; moment = touches e }) [] there) [ inl same ↦ same | inr later ↦ absurd (none_there (record { cycle = t; copy = c; moment = touches e }) later) ]

abbrev event_or : Moment → Event
event_or (touches e) = e
event_or moment = load_event 0 (writes 0)

its_event : (t c : ℕ) (e : Event) → Contains (write ∷ []) (record { cycle = t; copy = c; moment = touches e }) → load_event 0 (writes 7) ≡ e
its_event t c e there = ap (λ (x : Stamped). event_or x.moment) (one_event t c e there)

-- a net that is 1 in one cycle alone
only_there : (t n : ℕ) → ((if t == n then 1 else 0) == 1) ≡ true → t ≡ n
only_there t n h = eqb-true t n (go (t == n) h)
  where
    go : (b : Bool) → ((if b then 1 else 0) == 1) ≡ true → b ≡ true
    go true h = refl
    go false h = absurd (false≢true h)

on_there : (t n : ℕ) → t ≡ n → ((if t == n then 1 else 0) == 1) ≡ true
on_there t n e = rw (eq-eqb t n e) refl

acts : (last : ℕ) → WritesInTime loading_signals (writes_in 0 loading_events) last 2 (loaded_at loading_core Sram 0) 1 (3 ∷ []) 4
acts last = record {
  enabled = record {
    on = λ t l some. on_there t 5 (sym (ap (λ (x : Stamped). x.cycle) (one_event t some.2.happens.copy some.2.event some.2.happens.there)));
    only = λ t l on. (
      2 ∷ [],
      7,
      record {
        event = load_event 0 (writes 7);
        happens = record { copy = 1; there = (0, omega arith, ap (λ k. record { cycle = k; copy = 1; moment = touches (load_event 0 (writes 7)) }) (sym (only_there t 5 on))); numbered = refl };
        at = refl;
        does = refl;
      },
    );
  };
  at = λ t is w l d. sym d.at ∙ sym (ap (λ (x : Event). x.indices) (its_event t d.happens.copy d.event d.happens.there));
  words = λ t is w l d. ap (λ (x : Event). act_word x.act) (its_event t d.happens.copy d.event d.happens.there) ∙ ap act_word d.does;
}

names : (last : ℕ) → NamesCopies loading_signals (writes_in 0 loading_events) last 2 (Some 5)
names last t e h l = ap (λ (x : Stamped). x.copy) (one_event t h.copy e h.there)

-- the only transfer
of_load : (n dram m : ℕ) → NodeHas loading_core.root 0 n (transfer dram m) → (n ≡ 2) × (m ≡ 0)
of_load n dram m (inl (inl (inl h))) = absurd h
of_load n dram m (inl (inl (inr h))) = absurd h
of_load n dram m (inl (inr h)) = absurd h
of_load n dram m (inr h) = (h.0, h.2)

module _ (a : AccessNets) (is : IsItsWrite a) where
  its : IsLoading loading_core a
  its = record {
    dram = 0;
    stands = subst (λ n. NodeHas loading_core.root 0 n (transfer 0 a.mem)) (sym is.number_is) (subst (λ m. NodeHas loading_core.root 0 2 (transfer 0 m)) (sym is.mem_is) (inr (refl, refl, refl)));
    sram = ap (kind_of loading_core) is.mem_is;
    kind_is = is.kind_is;
    some = rw is.operands_are (omega arith);
    unanswered = is.unanswered;
  }

  only_access : (b : AccessNets) → Contains (a ∷ []) b → a ≡ b
  only_access b c = elim (first_or_later a b [] c) [ inl same ↦ same | inr later ↦ absurd (none_there b later) ]

  its_act : (last : ℕ) → WritesInTime loading_signals (writes_in a.mem loading_events) last a.number (loaded_at loading_core (kind_of loading_core a.mem) a.mem) a.enable (index_words Write a.operands.items) (word_that_changes Write a.operands.items)
  its_act last = rw (is.mem_is, is.number_is, is.enable_is, is.operands_are) (acts last)

  its_names : (last : ℕ) → NamesCopies loading_signals (writes_in a.mem loading_events) last a.number a.copy
  its_names last =
      subst (λ m. NamesCopies loading_signals (writes_in m loading_events) last a.number a.copy) (sym is.mem_is)
      (subst (λ n. NamesCopies loading_signals (writes_in 0 loading_events) last n a.copy) (sym is.number_is) (subst (NamesCopies loading_signals (writes_in 0 loading_events) last 2) (sym is.copy_is) (names last)))

  in_time : (last : ℕ) → LoadsInTime loading_core loading_signals loading_events last (a ∷ [])
  in_time last = record {
    is_loading = λ b c. subst (IsLoading loading_core) (only_access b c) its;
    all_loads = λ m n dram t sram stands happens. (let o = of_load n dram m stands in (a, (0, omega arith, refl), is.number_is ∙ sym o.0, is.mem_is ∙ sym o.1));
    act = λ b c. subst
        (λ (x : AccessNets). WritesInTime loading_signals (writes_in x.mem loading_events) last x.number (loaded_at loading_core (kind_of loading_core x.mem) x.mem) x.enable (index_words Write x.operands.items) (word_that_changes Write x.operands.items))
        (only_access b c) (its_act last);
    named = λ b c. subst (λ (x : AccessNets). NamesCopies loading_signals (writes_in x.mem loading_events) last x.number x.copy) (only_access b c) (its_names last);
  }

  not_all : NamesCopies loading_signals loading_events 4 2 a.copy → ⊥
  not_all h =
      let read : copy_at loading_signals 4 a.copy ≡ 0 = h 4 (load_event 1 (reads 7)) (record { copy = 0; there = (0, omega arith, refl); numbered = refl }) (omega arith) in
      absurd (let clash : 1 ≡ 0 = sym (ap (copy_at loading_signals 4) is.copy_is) ∙ read in omega (arith, clash))

pub worked_load : WorkedLoad
worked_load = record { in_time = λ a last is. in_time a is last; not_of_all = λ a is h. not_all a is h }
