-- The read of a store that acts in time, by hand.
use Rattle.std.specs.Prelude.{min}
use Rattle.std.proofs.Common.{◌≡◌, ℕ, ◌+◌, ◌-◌, ◌==◌, Bool, true, false, if◌then◌else◌, inl, inr, [], ◌∷◌, Some, refl, sym, ap, subst, ◌∙◌, arith, eq-eqb, eqb-true}
use Rattle.std.specs.List.{Contains}
use Rattle.std.proofs.lemmas.Bool.{false≢true}
use Rattle.sp_core.specs.declared.operation.OpKind.TheVariants.{Read}
use Rattle.sp_core.specs.Declarations.{kind_of}
use Rattle.sp_core.specs.Events.{reads, writes, Event, Moment, touches}
use Rattle.sp_core.specs.Latency.{read_latency}
use Rattle.sp_plan.specs.PlainPlan.{PlainPlan, mem_plan}
use Rattle.sp_machine.specs.Stamps.{Stamped}
use Rattle.sp_core_ports.specs.UsedReaders.{duplicate_at}
use Rattle.sp_mem.specs.Copies.{copy_at}
use Rattle.sp_transfer_runs.specs.Told.{Reads}
use Rattle.sp_tree_events.specs.ToldItems.{transfer, NodeHas}
use Rattle.sp_memory_words.specs.Answers.{IsAnswered, NamesCopies}
use Rattle.sp_bank_words.specs.Accesses.{reads_in}
use Rattle.sp_bank_words.proofs.Acts.{act_or, act_word}
use Rattle.sp_access_nets.specs.declared.access.AccessNets.{AccessNets}
use Rattle.sp_memory_nets.proofs.ScalarPicked.{first_or_later, none_there}
use Rattle.sp_stored_cores.specs.ArrayExampleStores.{storing_core, reading_core, store_event, storing_events, storing_signals, IsItsRead, WorkedStore}
use Rattle.sp_stored_cores.specs.ArrayStores.{IsStoring, ReadsInTime, StoresReadInTime}

-- the event that reads
abbrev read : Stamped
read = record { cycle = 4; copy = 1; moment = touches (store_event 0 (reads 7)) }

one_event : (t c : ℕ) (e : Event) → Contains (read ∷ []) (record { cycle = t; copy = c; moment = touches e }) → read ≡ record { cycle = t; copy = c; moment = touches e }
one_event t c e there = elim (first_or_later read (record { cycle = t; copy = c; moment = touches e }) [] there) [ inl same ↦ same | inr later ↦ absurd (none_there (record { cycle = t; copy = c; moment = touches e }) later) ]

abbrev event_or : Moment → Event
event_or (touches e) = e
event_or moment = store_event 0 (reads 0)

its_event : (t c : ℕ) (e : Event) → Contains (read ∷ []) (record { cycle = t; copy = c; moment = touches e }) → store_event 0 (reads 7) ≡ e
its_event t c e there = ap (λ (x : Stamped). event_or x.moment) (one_event t c e there)

its_cycle : (t c : ℕ) (e : Event) → Contains (read ∷ []) (record { cycle = t; copy = c; moment = touches e }) → 4 ≡ t
its_cycle t c e there = ap (λ (x : Stamped). x.cycle) (one_event t c e there)

-- a net that is 1 in one cycle alone
only_there : (t n : ℕ) → ((if t == n then 1 else 0) == 1) ≡ true → t ≡ n
only_there t n h = eqb-true t n (go (t == n) h)
  where
    go : (b : Bool) → ((if b then 1 else 0) == 1) ≡ true → b ≡ true
    go true h = refl
    go false h = absurd (false≢true h)

on_there : (t n : ℕ) → t ≡ n → ((if t == n then 1 else 0) == 1) ≡ true
on_there t n e = rw (eq-eqb t n e) refl

acts : (last : ℕ) → ReadsInTime storing_signals (reads_in 0 storing_events) last 2 1 (3 ∷ [])
acts last = record {
  enabled = record {
    on = λ t l some. on_there t 4 (sym (its_cycle t some.2.happens.copy some.2.event some.2.happens.there));
    only = λ t l on. (
      2 ∷ [],
      7,
      record {
        event = store_event 0 (reads 7);
        happens = record { copy = 1; there = (0, omega arith, ap (λ k. record { cycle = k; copy = 1; moment = touches (store_event 0 (reads 7)) }) (sym (only_there t 4 on))); numbered = refl };
        at = refl;
        does = refl;
      },
    );
  };
  at = λ t is w l d. sym d.at ∙ sym (ap (λ (x : Event). x.indices) (its_event t d.happens.copy d.event d.happens.there));
}

names : (last : ℕ) → NamesCopies storing_signals (reads_in 0 storing_events) last 2 (Some 5)
names last t e h l = ap (λ (x : Stamped). x.copy) (one_event t h.copy e h.there)

-- the only transfer
of_store : (n dram m : ℕ) → NodeHas storing_core.root 0 n (transfer dram m) → (n ≡ 2) × (m ≡ 0)
of_store n dram m (inl (inl (inl h))) = absurd h
of_store n dram m (inl (inl (inr h))) = absurd h
of_store n dram m (inl (inr h)) = absurd h
of_store n dram m (inr h) = (h.0, h.2)

-- two cycles later the word is there
word_there : (t w : ℕ) → 4 ≡ t → 7 ≡ w → storing_signals.net (t + 2) 4 ≡ w
word_there t w at is = subst (λ k. storing_signals.net (k + 2) 4 ≡ w) at is

is_answered : (last : ℕ) → IsAnswered storing_signals (reads_in 0 storing_events) last 2 Read 2 4
is_answered last t e h l w act =
    word_there t w (its_cycle t h.copy e h.there) (ap (λ (x : Event). act_word x.act) (its_event t h.copy e h.there) ∙ ap (λ o. act_word (act_or o)) (sym act))

module _ (a : AccessNets) (is : IsItsRead a) where
  its : IsStoring storing_core a
  its = record {
    dram = 0;
    stands = subst (λ n. NodeHas storing_core.root 0 n (transfer 0 a.mem)) (sym is.number_is) (subst (λ m. NodeHas storing_core.root 0 2 (transfer 0 m)) (sym is.mem_is) (inr (refl, refl, refl)));
    sram = ap (kind_of storing_core) is.mem_is;
    kind_is = is.kind_is;
    word = is.word;
    answer = is.answer_is;
    after = is.after_is ∙ sym (ap (λ m. read_latency (kind_of storing_core m)) is.mem_is);
  }

  only_access : (b : AccessNets) → Contains (a ∷ []) b → a ≡ b
  only_access b c = elim (first_or_later a b [] c) [ inl same ↦ same | inr later ↦ absurd (none_there b later) ]

  its_act : (last : ℕ) → ReadsInTime storing_signals (reads_in a.mem storing_events) last a.number a.enable a.operands.items
  its_act last = rw (is.mem_is, is.number_is, is.enable_is, is.operands_are) (acts last)

  its_names : (last : ℕ) → NamesCopies storing_signals (reads_in a.mem storing_events) last a.number a.copy
  its_names last =
      subst (λ m. NamesCopies storing_signals (reads_in m storing_events) last a.number a.copy) (sym is.mem_is)
      (subst (λ n. NamesCopies storing_signals (reads_in 0 storing_events) last n a.copy) (sym is.number_is) (subst (NamesCopies storing_signals (reads_in 0 storing_events) last 2) (sym is.copy_is) (names last)))

  in_time : (last : ℕ) → StoresReadInTime storing_core storing_signals storing_events last (a ∷ [])
  in_time last = record {
    is_storing = λ b c. subst (IsStoring storing_core) (only_access b c) its;
    all_stores = λ m n dram t sram stands happens. (let o = of_store n dram m stands in (a, (0, omega arith, refl), is.number_is ∙ sym o.0, is.mem_is ∙ sym o.1));
    act = λ b c. subst (λ (x : AccessNets). ReadsInTime storing_signals (reads_in x.mem storing_events) last x.number x.enable x.operands.items) (only_access b c) (its_act last);
    named = λ b c. subst (λ (x : AccessNets). NamesCopies storing_signals (reads_in x.mem storing_events) last x.number x.copy) (only_access b c) (its_names last);
  }

  not_all : NamesCopies storing_signals storing_events 6 2 a.copy → ⊥
  not_all h =
      let written : copy_at storing_signals 6 a.copy ≡ 0 = h 6 (store_event 1 (writes 7)) (record { copy = 0; there = (1, omega arith, refl); numbered = refl }) (omega arith) in
      absurd (let clash : 1 ≡ 0 = sym (ap (copy_at storing_signals 6) is.copy_is) ∙ written in omega (arith, clash))

no_longer : ReadsInTime storing_signals (reads_in 0 storing_events) 6 2 2 (3 ∷ []) → ⊥
no_longer h =
    let some : Reads (reads_in 0 storing_events) 2 6 = h.enabled.only 6 (omega arith) refl in
    absurd (let clash : 4 ≡ 6 = its_cycle 6 some.2.happens.copy some.2.event some.2.happens.there in omega (arith, clash))

duplicates : (plan : PlainPlan) → (mem_plan plan 0).duplicates ≡ 2 → (duplicate_at reading_core plan 0 1 ≡ 0) × (duplicate_at reading_core plan 0 4 ≡ 1)
duplicates plan e = (ap (λ d. min 0 (d - 1)) e, ap (λ d. min 1 (d - 1)) e)

pub worked_store : WorkedStore
worked_store = record { in_time = λ a last is. in_time a is last; answered = is_answered; not_of_all = λ a is h. not_all a is h; not_longer = no_longer; own_duplicate = duplicates }
