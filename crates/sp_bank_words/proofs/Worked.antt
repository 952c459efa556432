-- A write and a read that act in time, by hand.
use Rattle.std.proofs.Common.{◌≡◌, ℕ, zero, suc, ◌^◌, ◌<◌, ◌==◌, Bool, true, false, if◌then◌else◌, [], ◌∷◌, ◌++◌, map, Some, refl, sym, ap, subst, ◌∙◌, arith, eq-eqb, eqb-true}
use Rattle.std.specs.List.{Contains}
use Rattle.std.specs.Prelude.{All}
use Rattle.std.proofs.lemmas.Bool.{false≢true}
use Rattle.sp_gates.specs.Tested.{is_on}
use Rattle.sp_core.specs.declared.operation.OpKind.TheVariants as kind
use Rattle.sp_core.specs.Events.{Act, reads, writes, Event, Moment, touches, act_of}
use Rattle.sp_core.specs.PlainCore.{PlainCore}
use Rattle.sp_plan.specs.PlainPlan.{PlainPlan}
use Rattle.sp_machine.specs.Stamps.{Stamped}
use Rattle.sp_mem.specs.declared.part.Touch.{Touch}
use Rattle.sp_part_runs.specs.ActsEntries.{touched_at, index_words, word_that_changes}
use Rattle.sp_node_runs.specs.BodiesTold.{Happens}
use Rattle.sp_bank_words.specs.Accesses.{reads_in, writes_in}
use Rattle.sp_bank_words.specs.Acting.{WriteGoes, ReadGoes}
use Rattle.sp_bank_words.specs.Examples.{event, worked_events, worked_net, worked_signals, IsWorked, WorkedAccesses}
use Rattle.sp_bank_words.proofs.Acts.{act_word, act_or}
use Rattle.sp_bank_words.proofs.Events.{no_sign}

-- an event of a list of one
one_event : (x : Stamped) (n t : ℕ) (e : Event) → Happens (x ∷ []) n t e → (x.cycle ≡ t) × (x.moment ≡ touches e)
one_event x n t e h = go h.there
  where
    go : Contains (x ∷ []) (record { cycle = t; copy = h.copy; moment = touches e }) → (x.cycle ≡ t) × (x.moment ≡ touches e)
    go (zero, l, q) = (ap (λ (y : Stamped). y.cycle) q, ap (λ (y : Stamped). y.moment) q)
    go (suc k, l, q) = absurd (omega (arith, l))

one_copy : (x : Stamped) (t c : ℕ) (e : Event) → Contains (x ∷ []) (record { cycle = t; copy = c; moment = touches e }) → x.copy ≡ c
one_copy x t c e (zero, l, q) = ap (λ (y : Stamped). y.copy) q
one_copy x t c e (suc k, l, q) = absurd (omega (arith, l))

-- a net that is 1 in one cycle alone
only_there : (t n : ℕ) → ((if t == n then 1 else 0) == 1) ≡ true → t ≡ n
only_there t n h = eqb-true t n (go (t == n) h)
  where
    go : (b : Bool) → ((if b then 1 else 0) == 1) ≡ true → b ≡ true
    go true h = refl
    go false h = absurd (false≢true h)

there : (t n : ℕ) → t ≡ n → ((if t == n then 1 else 0) == 1) ≡ true
there t n e = rw (eq-eqb t n e) refl

event_or : Moment → Event
event_or (touches e) = e
event_or moment = event 0 (writes 0)

its_event : (n : ℕ) (act : Act) (x : Stamped) (t : ℕ) (e : Event) → x.moment ≡ touches (event n act) → Happens (x ∷ []) n t e → event n act ≡ e
unfolding event_or
its_event n act x t e q h = ap event_or (sym q ∙ (one_event x n t e h).1)

-- the indices of an access, and its copy
one_small : (t : ℕ) → All (λ net. worked_net t net < 2 ^ 31) (3 ∷ [])
one_small t zero d l = omega arith
one_small t (suc k) d l = absurd (omega (arith, l))

small : (t enable : ℕ) (touch : Touch) → IsWorked enable touch → All (λ net. worked_net t net < 2 ^ 31) touch.index.items
small t enable touch is = subst (λ ns. All (λ net. worked_net t net < 2 ^ 31) ns) (sym is.index_is) (one_small t)

small_write : (t : ℕ) (touch : Touch) → IsWorked 1 touch → All (λ net. worked_net t net < 2 ^ 31) (index_words kind.Write (touch.index.items ++ touch.word ∷ []))
small_write t touch is = subst (λ ns. All (λ net. worked_net t net < 2 ^ 31) (index_words kind.Write (ns ++ touch.word ∷ []))) (sym is.index_is) (one_small t)

worked_write : (touch : Touch) (last : ℕ) → IsWorked 1 touch → WriteGoes worked_signals (writes_in 0 worked_events) last 4 touch
worked_write touch last is = record {
  acts = record {
    enabled = record {
      on = λ t l some. subst (λ n. is_on worked_signals n t ≡ true) (sym is.enable_is) (there t 5 (sym (one_event _ 4 t some.0 some.1).0));
      only = λ t l on.
          let e : t ≡ 5 = only_there t 5 (subst (λ n. is_on worked_signals n t ≡ true) is.enable_is on) in
          (event 4 (writes 7), record { copy = 0; there = (0, omega arith, ap (λ k. record { cycle = k; copy = 0; moment = touches (event 4 (writes 7)) }) (sym e)); numbered = refl });
    };
    at = λ t e l h. ap (λ (x : Event). x.indices) (sym (its_event 4 (writes 7) _ t e refl h)) ∙ its_indices t touch is;
    word = λ t e l h c. its_word t touch is ∙ ap (λ (x : Event). Some x.act) (its_event 4 (writes 7) _ t e refl h);
    index = λ t e l h. small_write t touch is;
  };
  stands = record {
    copy = λ t c e l h n. rw is.copy_is (one_copy _ t c e h);
    index = λ t e l h. small t 1 touch is;
  };
}
  where
    its_indices : (t : ℕ) (touch : Touch) → IsWorked 1 touch → (2 ∷ []) ≡ touched_at kind.Write (map (worked_net t) (touch.index.items ++ touch.word ∷ []))
    its_indices t touch is = rw is.index_is (ap (λ i. i ∷ []) (sym (no_sign 2 (omega arith))))

    its_word : (t : ℕ) (touch : Touch) → IsWorked 1 touch → act_of kind.Write (word_that_changes kind.Write (map (worked_net t) (touch.index.items ++ touch.word ∷ []))) ≡ Some (writes 7)
    its_word t touch is = rw (is.index_is, is.word_is) refl

worked_read : (core : PlainCore) (plan : PlainPlan) (touch : Touch) (last : ℕ) → IsWorked 2 touch → ReadGoes core plan worked_signals 0 (reads_in 0 worked_events) last 6 touch
worked_read core plan touch last is = record {
  on = λ t l some. subst (λ n. is_on worked_signals n t ≡ true) (sym is.enable_is) (there t 9 (sym (one_event _ 6 t some.0 some.1).0));
  only = λ t l on others.
      let e : t ≡ 9 = only_there t 9 (subst (λ n. is_on worked_signals n t ≡ true) is.enable_is on) in
      (event 6 (reads 7), record { copy = 0; there = (0, omega arith, ap (λ k. record { cycle = k; copy = 0; moment = touches (event 6 (reads 7)) }) (sym e)); numbered = refl });
  at = λ t e l h. ap (λ (x : Event). x.indices) (sym (its_event 6 (reads 7) _ t e refl h)) ∙ its_indices t touch is;
  stands = record {
    copy = λ t c e l h n. rw is.copy_is (one_copy _ t c e h);
    index = λ t e l h. small t 2 touch is;
  };
}
  where
    its_indices : (t : ℕ) (touch : Touch) → IsWorked 2 touch → (2 ∷ []) ≡ touched_at kind.Read (map (worked_net t) touch.index.items)
    its_indices t touch is = rw is.index_is (ap (λ i. i ∷ []) (sym (no_sign 2 (omega arith))))

pub worked_accesses : WorkedAccesses
worked_accesses = record {
  write = worked_write;
  read = worked_read;
  stands = λ touch is. rw (is.enable_is, is.copy_is, is.index_is, is.word_is) refl;
  answered = λ last t e h l w a. ap act_word (ap (λ (x : Event). x.act) (its_event 6 (reads 7) _ t e refl h) ∙ sym (ap act_or a));
}
