-- A register's copies hold what stands at their places in the timeline.
use Rattle.std.proofs.Common.{◌≡◌, ℕ, zero, suc, ◌<◌, ◌≤◌, ◌⊎◌, inl, inr, Bool, true, false, List, [], nat_lt, length, slice_index, Option, Some, None, if◌then◌else◌, refl, sym, ap, subst, ◌∙◌, arith}
use Rattle.std.specs.List.{Contains}
use Rattle.std.proofs.lemmas.Bool.{true≢false}
use Rattle.sp_words.specs.declared.kind.Kind.{Kind}
use Rattle.sp_words.specs.declared.kind.Kind.TheVariants.{Reg, Sram, Fifo, LineBuf, Dram, ArgIn, ArgOut}
use Rattle.sp_words.specs.Memory.{Contents, fresh_of}
use Rattle.sp_netlist.specs.Signals.{Signals}
use Rattle.sp_core.specs.Declarations.{mem, kind_of, fresh}
use Rattle.sp_core.specs.Events.{Act, reads, writes, puts, takes, resets, turns, Moment, touches, slices, renews, keeps}
use Rattle.sp_core.specs.Meeting.{changes}
use Rattle.sp_core.specs.PlainCore.{PlainCore}
use Rattle.sp_plan.specs.PlainPlan.{PlainPlan}
use Rattle.sp_time.specs.Events.{change_at}
use Rattle.sp_time.specs.Places.{Place, is_place}
use Rattle.sp_machine.specs.Found.{events_of, does, act_does, written_to, one_cell}
use Rattle.sp_machine.specs.InOrder.{is_done, memory_of, does_change}
use Rattle.sp_machine.specs.Stamps.{Stamped}
use Rattle.sp_contents.specs.Steady.{IsAllowed, MayAct, IsFifo, IsLine}
use Rattle.sp_mem.specs.declared.part.Fresh.{Fresh}
use Rattle.sp_mem.specs.declared.part.Register.{Register}
use Rattle.sp_mem.specs.declared.part.Touch.{Touch}
use Rattle.sp_mem.specs.Copies.{is_at, first_word, freshened, written}
use Rattle.sp_memory_words.specs.Moments.{Writes, Freshens, HappensWell}
use Rattle.sp_memory_words.specs.Registers.{IsRegister, copy_place, standing, HasWord, IsRegisterOf, RegistersHold}
use Rattle.sp_memory_words.proofs.Asking.{written_stays, written_becomes, freshened_stays, freshened_becomes}
use Rattle.sp_memory_words.proofs.Finding.{IsOne, Next, unchanged, changed, next, is_the_change, each_at, stands_at_first}

pub one_of : (k : Kind) → IsRegister k → (core : PlainCore) → IsOne core k
one_of Reg h core = tt
one_of ArgOut h core = tt
one_of Sram h core = absurd h
one_of Fifo h core = absurd h
one_of LineBuf h core = absurd h
one_of Dram h core = absurd h
one_of ArgIn h core = absurd h

module _ (core : PlainCore) where
  -- a register isn't written in rows
  word_written : (k : Kind) → IsRegister k → (m : ℕ) (is : List ℕ) (w : ℕ) (c : Option Contents) → written_to core k m is w c ≡ one_cell core w
  word_written Reg h m is w c = refl
  word_written ArgOut h m is w c = refl
  word_written Sram h m is w c = absurd h
  word_written Fifo h m is w c = absurd h
  word_written LineBuf h m is w c = absurd h
  word_written Dram h m is w c = absurd h
  word_written ArgIn h m is w c = absurd h

  no_fifo : (k : Kind) → IsRegister k → IsFifo k → ⊥
  no_fifo Reg h f = f
  no_fifo ArgOut h f = f
  no_fifo Sram h f = h
  no_fifo Fifo h f = h
  no_fifo LineBuf h f = h
  no_fifo Dram h f = h
  no_fifo ArgIn h f = h

  no_line : (k : Kind) → IsRegister k → IsLine k → ⊥
  no_line Reg h f = f
  no_line ArgOut h f = f
  no_line Sram h f = h
  no_line Fifo h f = h
  no_line LineBuf h f = h
  no_line Dram h f = h
  no_line ArgIn h f = h

  abbrev Wrote : (n : ℕ) (is : List ℕ) → Act → Type 0
  Wrote n is a = (w : ℕ) × (a ≡ writes w) × ((c : Option Contents) → act_does core n is a c ≡ one_cell core w)

  abbrev Emptied : (n : ℕ) (is : List ℕ) → Act → Type 0
  Emptied n is a = (a ≡ resets) × ((c : Option Contents) → act_does core n is a c ≡ Some (fresh core n))

  act_changes : (n : ℕ) (is : List ℕ) (a : Act) → IsRegister (kind_of core n) → changes a ≡ true → MayAct core n is a → Wrote n is a ⊎ Emptied n is a
  act_changes n is (reads w) k d may = absurd (true≢false (sym d))
  act_changes n is (writes w) k d may = inl (w, refl, λ c. word_written (kind_of core n) k n is w c)
  act_changes n is (puts w) k d may = absurd (no_fifo (kind_of core n) k may)
  act_changes n is (takes w) k d may = absurd (no_fifo (kind_of core n) k may)
  act_changes n is resets k d may = inr (refl, λ c. refl)
  act_changes n is turns k d may = absurd (no_line (kind_of core n) k may)

  module _ (m : ℕ) (kind : IsRegister (kind_of core m)) where
    abbrev IsWritten : Moment → Type 0
    IsWritten x = (w : ℕ) × Writes m w x × ((c : Option Contents) → does core x c ≡ one_cell core w)

    abbrev IsFreshened : Moment → Type 0
    IsFreshened x = Freshens m core x × ((c : Option Contents) → does core x c ≡ Some (fresh core m))

    -- what changes a register writes a word or makes it fresh
    moment_changes : (x : Moment) → is_done core x ≡ true → memory_of x ≡ m → does_change x ≡ true → IsAllowed core x → IsWritten x ⊎ IsFreshened x
    moment_changes (touches e) d h c may = elim (act_changes e.mem e.indices e.act (subst (λ n. IsRegister (kind_of core n)) (sym h) kind) c may) [
      | inl w ↦ inl (w.0, (h, w.1), w.2)
      | inr r ↦ inr ((h, r.0), λ z. r.1 z ∙ ap (λ n. Some (fresh core n)) h)
    ]
    moment_changes (slices x) d h c may = absurd (true≢false (sym c))
    moment_changes (renews n) d h c may = inr ((h, d), λ z. ap (λ n. Some (fresh core n)) h)
    moment_changes (keeps n w) d h c may = inl (w, (h, refl), λ z. refl)

    -- of such a moment
    pub write_is : (w : ℕ) (x : Moment) → Writes m w x → (is_done core x ≡ true) × (memory_of x ≡ m) × (does_change x ≡ true)
    write_is w (touches e) h = (refl, h.0, ap changes h.1)
    write_is w (slices x) h = absurd h
    write_is w (renews n) h = absurd h
    write_is w (keeps n v) h = (refl, h.0, refl)

    pub fresh_is : (x : Moment) → Freshens m core x → (is_done core x ≡ true) × (memory_of x ≡ m) × (does_change x ≡ true)
    fresh_is (touches e) h = (refl, h.0, ap changes h.1)
    fresh_is (slices x) h = absurd h
    fresh_is (renews n) h = (h.1, h.0, refl)
    fresh_is (keeps n v) h = absurd h

    one_word : (v w : ℕ) (x : Moment) → Writes m v x → Writes m w x → v ≡ w
    one_word v w (touches e) h k = let same : writes v ≡ writes w = sym h.1 ∙ k.1 in cc (same)
    one_word v w (slices x) h k = absurd h
    one_word v w (renews n) h k = absurd h
    one_word v w (keeps n u) h k = sym h.1 ∙ k.1

    not_both : (w : ℕ) (x : Moment) → Writes m w x → Freshens m core x → ⊥
    not_both w (touches e) h k = let same : writes w ≡ resets = sym h.1 ∙ k.1 in absurd (cc (same))
    not_both w (slices x) h k = h
    not_both w (renews n) h k = h
    not_both w (keeps n u) h k = k

  cell_word : (v w : ℕ) → one_cell core w ≡ one_cell core v → w ≡ v
  cell_word v w e = cc (e)

  -- a fresh register has its start
  fresh_word : (k : Kind) (ds : List ℕ) (start : Option ℕ) → IsRegister k → HasWord core (Some (fresh_of k ds start [])) (first_word start)
  fresh_word Reg ds None h v e = absurd (cc (e))
  fresh_word Reg ds (Some w) h v e = cc (e)
  fresh_word ArgOut ds start h v e = absurd (cc (e))
  fresh_word Sram ds start h v e = absurd h
  fresh_word Fifo ds start h v e = absurd h
  fresh_word LineBuf ds start h v e = absurd h
  fresh_word Dram ds start h v e = absurd h
  fresh_word ArgIn ds start h v e = absurd h

  own_kind : (b : Bool) (k : Kind) → IsRegister (if b then k else Dram) → IsRegister k
  own_kind true k h = h
  own_kind false k h = absurd h

module _ (core : PlainCore) (plan : PlainPlan) (run : List Stamped) (first : Place → Option Contents) (well : HappensWell core plan run first)
    (m : ℕ) (s : Signals) (last : ℕ) (part : Register) (nets : List ℕ) (is : IsRegisterOf core plan m s run first last part nets) where
  abbrev one : IsOne core (kind_of core m)
  one = one_of (kind_of core m) is.kind core

  abbrev stands : (t c : ℕ) → Option Contents
  stands t c = standing core run first t (copy_place m c)

  -- a write that is enabled at a copy is the change there, and so is what makes it fresh
  write_changes : (t c : ℕ) (w : Touch) → t ≤ last → Contains part.writes.items w → is_at s t w.enable w.copy c ≡ true
      → (x : Moment) × Writes m (s.net t w.word) x × (change_at does_change is_place (events_of core run) t (copy_place m c) ≡ Some x)
  write_changes t c w l k h =
      let x = is.writes.only t c w l k h in
      let y = write_is core m is.kind (s.net t w.word) x.0 x.2 in
      (x.0, x.2, is_the_change core m one run first well.in_time t c x.0 x.1 y.0 y.1 y.2)

  fresh_changes : (t c : ℕ) (f : Fresh) → t ≤ last → Contains part.fresh.items f → is_at s t f.enable f.copy c ≡ true
      → (x : Moment) × Freshens m core x × (change_at does_change is_place (events_of core run) t (copy_place m c) ≡ Some x)
  fresh_changes t c f l k h =
      let x = is.fresh.only t c f l k h in
      let y = fresh_is core m is.kind x.0 x.2 in
      (x.0, x.2, is_the_change core m one run first well.in_time t c x.0 x.1 y.0 y.1 y.2)

  none_some : (x : Moment) (o : Option Moment) → o ≡ None → o ≡ Some x → ⊥
  none_some x o a b = absurd (cc (a, b))

  both_same : (x y : Moment) (o : Option Moment) → o ≡ Some x → o ≡ Some y → x ≡ y
  both_same x y o a b = cc (a, b)

  abbrev was : (t c : ℕ) → ℕ
  was t c = s.net t (slice_index nets c)

  step : (t c : ℕ) → suc t ≤ suc last → c < part.copies → HasWord core (stands t c) (was t c) → HasWord core (stands (suc t) c) (was (suc t) c)
  step t c l below has = by (next core m one run first well.in_time t c)
    where
      late : t ≤ last
      late = omega (arith, l)

      goes : was (suc t) c ≡ written s t c part.writes.items (freshened s t c (first_word part.first) part.fresh.items (was t c))
      goes = (is.runs.copies c below).goes t

      by : Next core m one run first well.in_time t c → HasWord core (stands (suc t) c) (was (suc t) c)
      by (unchanged none same) v e =
          goes
          ∙ written_stays s t c v part.writes.items _ (λ w k h. let x = write_changes t c w late k h in absurd (none_some x.0 _ none x.2))
          (freshened_stays s t c (first_word part.first) v part.fresh.items (was t c) (λ f k h. let x = fresh_changes t c f late k h in absurd (none_some x.0 _ none x.2)) (has v (sym same ∙ e)))
      by (changed x some is_change same) v e = elim (moment_changes core m is.kind x is_change.done is_change.mem is_change.changes (each_at (λ y. IsAllowed core y.moment) run _ well.allowed is_change.there)) [
        | inl w ↦
            let made = is.writes.made t c x late is_change.there (w.0, w.1) in
            goes
            ∙ written_becomes s t c w.0 part.writes.items _ (λ a k h. let y = write_changes t c a late k h in one_word core m is.kind _ w.0 x (subst (Writes m (s.net t a.word)) (both_same y.0 x _ y.2 some) y.1) w.1) made.0 made.1 made.2
            ∙ cell_word core v w.0 (sym (w.2 (stands t c)) ∙ sym same ∙ e)
        | inr f ↦
            let made = is.fresh.made t c x late is_change.there f.0 in
            goes
            ∙ written_stays s t c (first_word part.first) part.writes.items _ (λ a k h. let y = write_changes t c a late k h in absurd (not_both core m is.kind (s.net t a.word) x (subst (Writes m (s.net t a.word)) (both_same y.0 x _ y.2 some) y.1) f.0))
            (freshened_becomes s t c (first_word part.first) part.fresh.items (was t c) made.0 made.1 made.2)
            ∙ ap first_word is.start
            ∙ fresh_word core (mem core m).kind (mem core m).dims (mem core m).start (own_kind core (nat_lt m (length core.mems)) (mem core m).kind is.kind) v (sym (f.1 (stands t c)) ∙ sym same ∙ e)
      ]

  pub hold : (t c : ℕ) → t ≤ suc last → c < part.copies → HasWord core (stands t c) (was t c)
  hold zero c l below v e = (is.runs.copies c below).begins ∙ is.begins c below v (sym (stands_at_first core run first (copy_place m c)) ∙ e)
  hold (suc t) c l below v e = step t c l below (hold t c (omega (arith, l)) below) v e

pub registers_hold : (core : PlainCore) (plan : PlainPlan) → RegistersHold core plan
registers_hold core plan run first well m s last part nets is = hold core plan run first well m s last part nets is
