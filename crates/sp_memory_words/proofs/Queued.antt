-- The copies of a queue hold what stands at their places in the timeline.
use Rattle.std.proofs.Common.{◌≡◌, ℕ, zero, suc, ◌+◌, ◌<◌, ◌≤◌, ◌⊎◌, inl, inr, Bool, true, false, ◌||◌, List, [], ◌∷◌, ◌++◌, nat_lt, length, drop, slice_index, Option, Some, None, if◌then◌else◌, refl, sym, ap, subst, ◌∙◌, arith}
use Rattle.std.specs.List.{Contains}
use Rattle.std.proofs.lemmas.Bool.{true≢false}
use Rattle.sp_words.specs.declared.kind.Kind.{Kind}
use Rattle.sp_words.specs.declared.kind.Kind.TheVariants.{Reg, Sram, Fifo, LineBuf, Dram, ArgIn, ArgOut}
use Rattle.sp_words.specs.Memory.{Contents, fresh_of}
use Rattle.sp_netlist.specs.Signals.{Signals}
use Rattle.sp_core.specs.declared.operation.OpKind.TheVariants.{Deq}
use Rattle.sp_core.specs.Declarations.{mem, kind_of, fresh, room}
use Rattle.sp_core.specs.Events.{Act, reads, writes, puts, takes, resets, turns, Event, Moment, touches, slices, renews, keeps}
use Rattle.sp_core.specs.Meeting.{changes}
use Rattle.sp_core.specs.PlainCore.{PlainCore}
use Rattle.sp_core.specs.Store.{queue_of}
use Rattle.sp_plan.specs.PlainPlan.{PlainPlan}
use Rattle.sp_time.specs.Events.{change_at}
use Rattle.sp_time.specs.Places.{Place, is_place}
use Rattle.sp_machine.specs.Found.{events_of, does, act_does, Sees, ActSees}
use Rattle.sp_machine.specs.InOrder.{is_done, memory_of, does_change}
use Rattle.sp_machine.specs.Stamps.{Stamped}
use Rattle.sp_contents.specs.Steady.{IsAllowed, MayAct, MayWrite, IsLine, IsReg}
use Rattle.sp_mem.specs.declared.part.Fresh.{Fresh}
use Rattle.sp_mem.specs.declared.part.Touch.{Touch}
use Rattle.sp_mem.specs.Copies.{copy_at, is_at, written}
use Rattle.sp_taps.specs.declared.store.Store.{Store}
use Rattle.sp_ring.specs.Rings.{rest_of, queue_after}
use Rattle.sp_queue_copies.specs.Events.{is_freshened, is_touched}
use Rattle.sp_queue.specs.Laws.{copy_queue, MayTouch, QueueLaws}
use Rattle.sp_queue.specs.Takes.{RunsTakes}
use Rattle.sp_memory_words.specs.Moments.{IsAt, Puts, Takes, Freshens, HappensWell}
use Rattle.sp_memory_words.specs.Answers.{IsAnswered, NamesCopies, IsOf}
use Rattle.sp_memory_words.specs.Queues.{IsQueueOf, QueuesGo}
use Rattle.sp_memory_words.specs.Registers.{copy_place, standing}
use Rattle.sp_memory_words.proofs.Asking.{written_becomes}
use Rattle.sp_memory_words.proofs.Finding.{none_there, there, here, first_or_later, IsOne, IsChange, Next, unchanged, changed, next, finds, is_the_change, each_at, stands_at_first}
use Rattle.sp_memory_words.proofs.Reading.{IsChip, copy_below}

-- whether one of several tests is passed
or_true : (a b : Bool) → b ≡ true → (a || b) ≡ true
or_true true b h = refl
or_true false b h = h

from_or : (a b : Bool) → (a || b) ≡ true → (a ≡ true) ⊎ (b ≡ true)
from_or true b h = inl refl
from_or false b h = inr h

never : (b : Bool) → (b ≡ true → ⊥) → b ≡ false
never true h = absurd (h refl)
never false h = refl

module _ (s : Signals) (t c : ℕ) where
  touched_by : (list : List Touch) (a : Touch) → Contains list a → is_at s t a.enable a.copy c ≡ true → is_touched s t c list ≡ true
  touched_by [] a k h = absurd (none_there a k)
  touched_by (x ∷ list) a k h = elim (first_or_later x a list k) [
    | inl e ↦ ap (λ b. b || is_touched s t c list) (subst (λ y. is_at s t y.enable y.copy c ≡ true) (sym e) h)
    | inr j ↦ or_true (is_at s t x.enable x.copy c) (is_touched s t c list) (touched_by list a j h)
  ]

  touched_from : (list : List Touch) → is_touched s t c list ≡ true → (a : Touch) × Contains list a × (is_at s t a.enable a.copy c ≡ true)
  touched_from [] h = absurd (true≢false (sym h))
  touched_from (x ∷ list) h = elim (from_or (is_at s t x.enable x.copy c) (is_touched s t c list) h) [
    | inl y ↦ (x, here x x list refl, y)
    | inr y ↦ let r = touched_from list y in (r.0, there x r.0 list r.1, r.2)
  ]

  freshened_by : (fs : List Fresh) (f : Fresh) → Contains fs f → is_at s t f.enable f.copy c ≡ true → is_freshened s t c fs ≡ true
  freshened_by [] f k h = absurd (none_there f k)
  freshened_by (x ∷ fs) f k h = elim (first_or_later x f fs k) [
    | inl e ↦ ap (λ b. b || is_freshened s t c fs) (subst (λ y. is_at s t y.enable y.copy c ≡ true) (sym e) h)
    | inr j ↦ or_true (is_at s t x.enable x.copy c) (is_freshened s t c fs) (freshened_by fs f j h)
  ]

  freshened_from : (fs : List Fresh) → is_freshened s t c fs ≡ true → (f : Fresh) × Contains fs f × (is_at s t f.enable f.copy c ≡ true)
  freshened_from [] h = absurd (true≢false (sym h))
  freshened_from (x ∷ fs) h = elim (from_or (is_at s t x.enable x.copy c) (is_freshened s t c fs) h) [
    | inl y ↦ (x, here x x fs refl, y)
    | inr y ↦ let r = freshened_from fs y in (r.0, there x r.0 fs r.1, r.2)
  ]

-- the queue after a cycle, by what is asked in it
after_nothing : (f p t : Bool) (w : ℕ) (q : List ℕ) → f ≡ false → p ≡ false → t ≡ false → queue_after f p t w q ≡ q
after_nothing f p t w q a b c = ap (λ x. queue_after x p t w q) a ∙ ap (λ x. queue_after false x t w q) b ∙ ap (λ x. queue_after false false x w q) c

after_put : (f p t : Bool) (w : ℕ) (q : List ℕ) → f ≡ false → p ≡ true → t ≡ false → queue_after f p t w q ≡ q ++ w ∷ []
after_put f p t w q a b c = ap (λ x. queue_after x p t w q) a ∙ ap (λ x. queue_after false x t w q) b ∙ ap (λ x. queue_after false true x w q) c

after_take : (f p t : Bool) (w : ℕ) (q : List ℕ) → f ≡ false → p ≡ false → t ≡ true → queue_after f p t w q ≡ rest_of q
after_take f p t w q a b c = ap (λ x. queue_after x p t w q) a ∙ ap (λ x. queue_after false x t w q) b ∙ ap (λ x. queue_after false false x w q) c

after_fresh : (f p t : Bool) (w : ℕ) (q : List ℕ) → f ≡ true → queue_after f p t w q ≡ []
after_fresh f p t w q a = ap (λ x. queue_after x p t w q) a

rest_dropped : (q : List ℕ) → rest_of q ≡ drop 1 q
rest_dropped [] = refl
rest_dropped (x ∷ xs) = refl

abbrev IsQueue : Kind → Type 0
IsQueue Fifo = Unit {0}
IsQueue _ = ⊥

queue_one : (core : PlainCore) (k : Kind) → IsQueue k → IsOne core k
queue_one core Fifo h = tt
queue_one core Reg h = absurd h
queue_one core Sram h = absurd h
queue_one core LineBuf h = absurd h
queue_one core Dram h = absurd h
queue_one core ArgIn h = absurd h
queue_one core ArgOut h = absurd h

queue_chip : (k : Kind) → IsQueue k → IsChip k
queue_chip Fifo h = tt
queue_chip Reg h = tt
queue_chip Sram h = tt
queue_chip LineBuf h = tt
queue_chip Dram h = h
queue_chip ArgIn h = tt
queue_chip ArgOut h = tt

no_cells : (k : Kind) → IsQueue k → (ds is : List ℕ) → (MayWrite k ds is → ⊥) × (IsLine k → ⊥) × (IsReg k → ⊥)
no_cells Fifo h ds is = ((λ z. z), (λ z. z), λ z. z)
no_cells Reg h ds is = absurd h
no_cells Sram h ds is = absurd h
no_cells LineBuf h ds is = absurd h
no_cells Dram h ds is = absurd h
no_cells ArgIn h ds is = absurd h
no_cells ArgOut h ds is = absurd h

-- a fresh queue is empty
fresh_empty : (k : Kind) (ds : List ℕ) (start : Option ℕ) → IsQueue k → queue_of (Some (fresh_of k ds start [])) ≡ []
fresh_empty Fifo ds start h = refl
fresh_empty Reg ds start h = absurd h
fresh_empty Sram ds start h = absurd h
fresh_empty LineBuf ds start h = absurd h
fresh_empty Dram ds start h = absurd h
fresh_empty ArgIn ds start h = absurd h
fresh_empty ArgOut ds start h = absurd h

own_queue : (b : Bool) (k : Kind) → IsQueue (if b then k else Dram) → IsQueue k
own_queue true k h = h
own_queue false k h = absurd h

module _ (core : PlainCore) (m : ℕ) (kind : IsQueue (kind_of core m)) where
  -- what changes a queue
  data Change (x : Moment) : Type 0 where
    a_put : (w : ℕ) → Puts m w x → ((c : Option Contents) → queue_of (does core x c) ≡ queue_of c ++ w ∷ []) → Change x
    a_take : (w : ℕ) → Takes m w x → ((c : Option Contents) → queue_of (does core x c) ≡ drop 1 (queue_of c)) → Change x
    a_fresh : Freshens m core x → ((c : Option Contents) → queue_of (does core x c) ≡ []) → Change x

  at_mem : (n : ℕ) → n ≡ m → IsQueue (kind_of core n)
  at_mem n h = subst (λ k. IsQueue (kind_of core k)) (sym h) kind

  empty_at : (n : ℕ) → n ≡ m → queue_of (Some (fresh core n)) ≡ []
  empty_at n h = fresh_empty (mem core n).kind (mem core n).dims (mem core n).start (own_queue (nat_lt n (length core.mems)) (mem core n).kind (at_mem n h))

  by_act : (e : Event) (a : Act) → e.act ≡ a → e.mem ≡ m → changes a ≡ true → MayAct core e.mem e.indices a → Change (touches e)
  by_act e (reads w) at h d may = absurd (true≢false (sym d))
  by_act e (writes w) at h d may = absurd ((no_cells (kind_of core e.mem) (at_mem e.mem h) _ e.indices).0 may)
  by_act e (puts w) at h d may = a_put w (h, at) (λ c. ap (λ a. queue_of (act_does core e.mem e.indices a c)) at)
  by_act e (takes w) at h d may = a_take w (h, at) (λ c. ap (λ a. queue_of (act_does core e.mem e.indices a c)) at)
  by_act e resets at h d may = a_fresh (h, at) (λ c. ap (λ a. queue_of (act_does core e.mem e.indices a c)) at ∙ empty_at e.mem h)
  by_act e turns at h d may = absurd ((no_cells (kind_of core e.mem) (at_mem e.mem h) [] []).1 may)

  change_is : (x : Moment) → is_done core x ≡ true → memory_of x ≡ m → does_change x ≡ true → IsAllowed core x → Change x
  change_is (touches e) d h c may = by_act e e.act refl h c may
  change_is (slices x) d h c may = absurd (true≢false (sym c))
  change_is (renews n) d h c may = a_fresh (h, d) (λ z. empty_at n h)
  change_is (keeps n w) d h c may = absurd ((no_cells (kind_of core n) (at_mem n h) [] []).2 may)

  abbrev Done : Moment → Type 0
  Done x = (is_done core x ≡ true) × (memory_of x ≡ m) × (does_change x ≡ true)

  put_is : (w : ℕ) (x : Moment) → Puts m w x → Done x
  put_is w (touches e) h = (refl, h.0, ap changes h.1)
  put_is w (slices x) h = absurd h
  put_is w (renews n) h = absurd h
  put_is w (keeps n v) h = absurd h

  take_is : (w : ℕ) (x : Moment) → Takes m w x → Done x
  take_is w (touches e) h = (refl, h.0, ap changes h.1)
  take_is w (slices x) h = absurd h
  take_is w (renews n) h = absurd h
  take_is w (keeps n v) h = absurd h

  fresh_is : (x : Moment) → Freshens m core x → Done x
  fresh_is (touches e) h = (refl, h.0, ap changes h.1)
  fresh_is (slices x) h = absurd h
  fresh_is (renews n) h = (h.1, h.0, refl)
  fresh_is (keeps n v) h = absurd h

  -- of one moment
  one_put : (v w : ℕ) (x : Moment) → Puts m v x → Puts m w x → v ≡ w
  one_put v w (touches e) h k = let same : puts v ≡ puts w = sym h.1 ∙ k.1 in cc (same)
  one_put v w (slices x) h k = absurd h
  one_put v w (renews n) h k = absurd h
  one_put v w (keeps n u) h k = absurd h

  put_take : (v w : ℕ) (x : Moment) → Puts m v x → Takes m w x → ⊥
  put_take v w (touches e) h k = let same : puts v ≡ takes w = sym h.1 ∙ k.1 in absurd (cc (same))
  put_take v w (slices x) h k = h
  put_take v w (renews n) h k = h
  put_take v w (keeps n u) h k = h

  put_fresh : (v : ℕ) (x : Moment) → Puts m v x → Freshens m core x → ⊥
  put_fresh v (touches e) h k = let same : puts v ≡ resets = sym h.1 ∙ k.1 in absurd (cc (same))
  put_fresh v (slices x) h k = h
  put_fresh v (renews n) h k = h
  put_fresh v (keeps n u) h k = h

  take_fresh : (v : ℕ) (x : Moment) → Takes m v x → Freshens m core x → ⊥
  take_fresh v (touches e) h k = let same : takes v ≡ resets = sym h.1 ∙ k.1 in absurd (cc (same))
  take_fresh v (slices x) h k = h
  take_fresh v (renews n) h k = h
  take_fresh v (keeps n u) h k = h

  -- a put finds room, a take its word
  put_sees : (w : ℕ) (x : Moment) (c : Option Contents) → Puts m w x → Sees core x c → length (queue_of c) < room core m
  put_sees w (touches e) c h sees = subst (λ n. length (queue_of c) < room core n) h.0 (subst (λ a. ActSees core e.mem e.indices a c) h.1 sees)
  put_sees w (slices x) c h sees = absurd h
  put_sees w (renews n) c h sees = absurd h
  put_sees w (keeps n u) c h sees = absurd h

  take_sees : (w : ℕ) (x : Moment) (c : Option Contents) → Takes m w x → Sees core x c → (rest : List ℕ) × (queue_of c ≡ w ∷ rest)
  take_sees w (touches e) c h sees = subst (λ a. ActSees core e.mem e.indices a c) h.1 sees
  take_sees w (slices x) c h sees = absurd h
  take_sees w (renews n) c h sees = absurd h
  take_sees w (keeps n u) c h sees = absurd h

some_in : (xs ys rest : List ℕ) (w : ℕ) → xs ≡ ys → ys ≡ w ∷ rest → 0 < length xs
some_in xs ys rest w a b = subst (λ zs. 0 < length zs) (sym (a ∙ b)) (omega arith)

none_some : (x : Moment) (o : Option Moment) → o ≡ None → o ≡ Some x → ⊥
none_some x o a b = absurd (cc (a, b))

both_same : (x y : Moment) (o : Option Moment) → o ≡ Some x → o ≡ Some y → x ≡ y
both_same x y o a b = cc (a, b)

module _ (laws : QueueLaws) (core : PlainCore) (plan : PlainPlan) (run : List Stamped) (first : Place → Option Contents) (well : HappensWell core plan run first)
    (m : ℕ) (s : Signals) (last bank depth : ℕ) (stores : List Store) (fresh : List Fresh) (put_list take_list : List Touch) (is : IsQueueOf core plan m s run first last bank depth stores fresh put_list take_list) where
  kind : IsQueue (kind_of core m)
  kind = subst IsQueue (sym is.kind) tt

  abbrev one : IsOne core (kind_of core m)
  one = queue_one core (kind_of core m) kind

  abbrev stands : (t c : ℕ) → Option Contents
  stands t c = standing core run first t (copy_place m c)

  abbrev change : (t c : ℕ) → Option Moment
  change t c = change_at does_change is_place (events_of core run) t (copy_place m c)

  -- what is asked of a copy is the change there
  abbrev Asked : (t c : ℕ) → (Moment → Type 0) → Type 0
  Asked t c Is = (x : Moment) × IsAt run t c x × Is x × (change t c ≡ Some x)

  put_asked : (t c : ℕ) (a : Touch) → t ≤ last → Contains put_list a → is_at s t a.enable a.copy c ≡ true → Asked t c (Puts m (s.net t a.word))
  put_asked t c a l k h = let x = is.are_puts.only t c a l k h in let y = put_is core m kind _ x.0 x.2 in (x.0, x.1, x.2, is_the_change core m one run first well.in_time t c x.0 x.1 y.0 y.1 y.2)

  take_asked : (t c : ℕ) (a : Touch) → t ≤ last → Contains take_list a → is_at s t a.enable a.copy c ≡ true → Asked t c (λ x. (w : ℕ) × Takes m w x)
  take_asked t c a l k h = let x = is.are_takes.only t c a l k h in let y = take_is core m kind x.2.0 x.0 x.2.1 in (x.0, x.1, x.2, is_the_change core m one run first well.in_time t c x.0 x.1 y.0 y.1 y.2)

  fresh_asked : (t c : ℕ) (f : Fresh) → t ≤ last → Contains fresh f → is_at s t f.enable f.copy c ≡ true → Asked t c (Freshens m core)
  fresh_asked t c f l k h = let x = is.are_fresh.only t c f l k h in let y = fresh_is core m kind x.0 x.2 in (x.0, x.1, x.2, is_the_change core m one run first well.in_time t c x.0 x.1 y.0 y.1 y.2)

  -- where the change is no put, none is asked, and so on
  no_puts : (t c : ℕ) → t ≤ last → ((w : ℕ) (x : Moment) → Puts m w x → change t c ≡ Some x → ⊥) → is_touched s t c put_list ≡ false
  no_puts t c l no_put = never _ (λ h. let a = touched_from s t c put_list h in let y = put_asked t c a.0 l a.1 a.2 in no_put _ y.0 y.2 y.3)

  no_takes : (t c : ℕ) → t ≤ last → ((w : ℕ) (x : Moment) → Takes m w x → change t c ≡ Some x → ⊥) → is_touched s t c take_list ≡ false
  no_takes t c l no_take = never _ (λ h. let a = touched_from s t c take_list h in let y = take_asked t c a.0 l a.1 a.2 in no_take y.2.0 y.0 y.2.1 y.3)

  no_fresh : (t c : ℕ) → t ≤ last → ((x : Moment) → Freshens m core x → change t c ≡ Some x → ⊥) → is_freshened s t c fresh ≡ false
  no_fresh t c l none = never _ (λ h. let a = freshened_from s t c fresh h in let y = fresh_asked t c a.0 l a.1 a.2 in none y.0 y.2 y.3)

  abbrev held : (t c : ℕ) → List ℕ
  held t c = copy_queue s fresh put_list take_list c t

  step : (t c : ℕ) → t ≤ last → held t c ≡ queue_of (stands t c) → held (suc t) c ≡ queue_of (stands (suc t) c)
  step t c l has = by (next core m one run first well.in_time t c)
    where
      by_change : (x : Moment) → change t c ≡ Some x → IsChange core run t (copy_place m c) x → stands (suc t) c ≡ does core x (stands t c) → Change core m kind x → held (suc t) c ≡ queue_of (stands (suc t) c)
      by_change x some at same (a_put w is_put d) =
          let made = is.are_puts.made t c x l at.there (w, is_put) in
          after_put (is_freshened s t c fresh) (is_touched s t c put_list) (is_touched s t c take_list) (written s t c put_list 0) (held t c)
          (no_fresh t c l (λ y f o. put_fresh core m kind w x is_put (subst (Freshens m core) (both_same y x _ o some) f)))
          (touched_by s t c put_list made.0 made.1 made.2)
          (no_takes t c l (λ v y k o. put_take core m kind w v x is_put (subst (Takes m v) (both_same y x _ o some) k)))
          ∙ ap (λ v. held t c ++ v ∷ []) (written_becomes s t c w put_list 0 (λ a k h. let y = put_asked t c a l k h in one_put core m kind _ w x (subst (Puts m (s.net t a.word)) (both_same y.0 x _ y.3 some) y.2) is_put) made.0 made.1 made.2)
          ∙ ap (λ q. q ++ w ∷ []) has ∙ sym (d (stands t c)) ∙ ap queue_of (sym same)
      by_change x some at same (a_take w is_take d) =
          let made = is.are_takes.made t c x l at.there (w, is_take) in
          after_take (is_freshened s t c fresh) (is_touched s t c put_list) (is_touched s t c take_list) (written s t c put_list 0) (held t c)
          (no_fresh t c l (λ y f o. take_fresh core m kind w x is_take (subst (Freshens m core) (both_same y x _ o some) f)))
          (no_puts t c l (λ v y k o. put_take core m kind v w x (subst (Puts m v) (both_same y x _ o some) k) is_take))
          (touched_by s t c take_list made.0 made.1 made.2)
          ∙ rest_dropped (held t c) ∙ ap (drop 1) has ∙ sym (d (stands t c)) ∙ ap queue_of (sym same)
      by_change x some at same (a_fresh is_fresh d) =
          let made = is.are_fresh.made t c x l at.there is_fresh in
          after_fresh (is_freshened s t c fresh) (is_touched s t c put_list) (is_touched s t c take_list) (written s t c put_list 0) (held t c) (freshened_by s t c fresh made.0 made.1 made.2)
          ∙ sym (d (stands t c)) ∙ ap queue_of (sym same)

      by : Next core m one run first well.in_time t c → held (suc t) c ≡ queue_of (stands (suc t) c)
      by (unchanged none same) =
          after_nothing (is_freshened s t c fresh) (is_touched s t c put_list) (is_touched s t c take_list) (written s t c put_list 0) (held t c)
          (no_fresh t c l (λ x f o. none_some x _ none o)) (no_puts t c l (λ w x f o. none_some x _ none o)) (no_takes t c l (λ w x f o. none_some x _ none o))
          ∙ has ∙ ap queue_of (sym same)
      by (changed x some at same) = by_change x some at same (change_is core m kind x at.done at.mem at.changes (each_at (λ y. IsAllowed core y.moment) run _ well.allowed at.there))

  pub hold : (t c : ℕ) → t ≤ suc last → held t c ≡ queue_of (stands t c)
  hold zero c l = sym (ap queue_of (stands_at_first core run first (copy_place m c)) ∙ is.empty c)
  hold (suc t) c l = step t c (omega (arith, l)) (hold t c (omega (arith, l)))

  pub may : (t c : ℕ) → t ≤ last → MayTouch s depth fresh put_list take_list c t
  may t c l = record { room = has_room; some = has_some }
    where
      same : held t c ≡ queue_of (stands t c)
      same = hold t c (omega (arith, l))

      has_room : is_touched s t c put_list ≡ true → length (held t c) < depth
      has_room h =
          let a = touched_from s t c put_list h in
          let x = put_asked t c a.0 l a.1 a.2 in
          let d = put_is core m kind _ x.0 x.2 in
          let low = put_sees core m kind _ x.0 (stands t c) x.2 (finds core m one run first well.in_time t c x.0 x.1 d.0 d.1) in
          let deep = is.deep in
          let long : length (held t c) ≡ length (queue_of (stands t c)) = ap length same in
          omega (arith, low, deep, long)

      has_some : is_touched s t c take_list ≡ true → 0 < length (held t c)
      has_some h =
          let a = touched_from s t c take_list h in
          let x = take_asked t c a.0 l a.1 a.2 in
          let d = take_is core m kind x.2.0 x.0 x.2.1 in
          let rest : (rest : List ℕ) × (queue_of (stands t c) ≡ x.2.0 ∷ rest) = take_sees core m kind x.2.0 x.0 (stands t c) x.2.1 (finds core m one run first well.in_time t c x.0 x.1 d.0 d.1) in
          some_in (held t c) (queue_of (stands t c)) rest.0 x.2.0 same rest.1

  pub answers : (n : ℕ) (take : Touch) → RunsTakes s (length stores) stores take → IsOf run Deq n m → NamesCopies s run last n take.copy → IsAnswered s run (suc last) n Deq 2 take.word
  answers n take runs of names t e h l w act =
      let late : t ≤ last = omega (arith, l) in
      let at = (of t e h).0 in
      let copy : copy_at s t take.copy ≡ h.copy = names t e h late in
      let acts : takes w ≡ e.act = cc (act) in
      let is_take : Takes m w (touches e) = (at, sym acts) in
      let below : h.copy < length stores = subst (λ d. h.copy < d) (sym is.copies) (copy_below core plan run first well m (queue_chip (kind_of core m) kind) n t e h at) in
      let made = is.are_takes.made t h.copy (touches e) late h.there (w, is_take) in
      let rest = take_sees core m kind w (touches e) (stands t h.copy) is_take (finds core m one run first well.in_time t h.copy (touches e) h.there refl at) in
      let q : held t (copy_at s t take.copy) ≡ w ∷ rest.0 = ap (held t) copy ∙ hold t h.copy (omega (arith, late)) ∙ rest.1 in
      subst (λ u. s.net u take.word ≡ w) {x = suc (suc t)} {y = t + 2} (omega arith)
      (laws.first s bank depth (length stores) stores fresh put_list take_list is.runs refl take runs t (subst (λ c. c < length stores) (sym copy) below)
      (subst (λ c. is_touched s t c take_list ≡ true) (sym copy) (touched_by s t h.copy take_list made.0 made.1 made.2)) (λ u i. may u (copy_at s t take.copy) (omega (arith, i, late)))
      ∙ ap (λ xs. slice_index xs 0) q)

pub queues_go : QueueLaws → (core : PlainCore) (plan : PlainPlan) → QueuesGo core plan
queues_go laws core plan run first well m s last bank depth stores fresh put_list take_list is = record {
  hold = hold laws core plan run first well m s last bank depth stores fresh put_list take_list is;
  may = may laws core plan run first well m s last bank depth stores fresh put_list take_list is;
  answers = answers laws core plan run first well m s last bank depth stores fresh put_list take_list is;
}
