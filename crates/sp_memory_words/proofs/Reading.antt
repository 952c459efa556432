-- Reads of registers and arguments are answered.
use Rattle.std.proofs.Common.{◌≡◌, ℕ, zero, suc, ◌+◌, ◌<◌, ◌≤◌, inl, inr, List, [], length, slice_index, Option, Some, if◌then◌else◌, true, refl, sym, ap, subst, ◌∙◌, arith, le-ltb}
use Rattle.std.specs.List.{Contains, All}
use Rattle.std.proofs.lemmas.Bool.{cases_lt, true≢false}
use Rattle.sp_words.specs.declared.kind.Kind.{Kind}
use Rattle.sp_words.specs.declared.kind.Kind.TheVariants.{Reg, Sram, Fifo, LineBuf, Dram, ArgIn, ArgOut}
use Rattle.sp_words.specs.Memory.{Contents}
use Rattle.sp_netlist.specs.Signals.{Signals}
use Rattle.sp_core.specs.declared.operation.OpKind.TheVariants.{Read}
use Rattle.sp_core.specs.Declarations.{mem, kind_of}
use Rattle.sp_core.specs.Events.{Act, reads, writes, puts, takes, resets, turns, Event, Moment, touches, slices, renews, keeps, act_of}
use Rattle.sp_core.specs.Meeting.{changes}
use Rattle.sp_core.specs.PlainCore.{PlainCore}
use Rattle.sp_core.specs.Sequential.{has_reset}
use Rattle.sp_plan.specs.PlainPlan.{PlainPlan, mem_plan}
use Rattle.sp_time.specs.Places.{Place}
use Rattle.sp_machine.specs.Found.{ActSees, is_read_in, one_cell}
use Rattle.sp_machine.specs.InOrder.{does_change, memory_of}
use Rattle.sp_machine.specs.Stamps.{Stamped}
use Rattle.sp_contents.specs.Steady.{IsAllowed, MayAct, MayWrite, IsFifo, IsLine, IsMade, IsReg}
use Rattle.sp_core_ports.specs.CopiesLaws.{HasCopy}
use Rattle.sp_mem.specs.declared.part.Register.{Register}
use Rattle.sp_mem.specs.declared.part.Touch.{Touch}
use Rattle.sp_mem.specs.Runs.{RunsReader}
use Rattle.sp_node_runs.specs.BodiesTold.{Happens}
use Rattle.sp_memory_words.specs.Moments.{HappensWell}
use Rattle.sp_memory_words.specs.Answers.{IsAnswered, NamesCopies, IsOf, ReadsAtOnce}
use Rattle.sp_memory_words.specs.Registers.{IsRegister, copy_place, standing, IsRegisterOf, RegistersAnswer, ArgumentsAnswer}
use Rattle.sp_memory_words.proofs.Finding.{IsOne, Next, unchanged, changed, next, finds, each_at, stands_at_first}
use Rattle.sp_memory_words.proofs.Holding.{one_of, hold}

pub all_at : {A : Type 0} (P : A → Type 0) (xs : List A) (x : A) → All P xs → Contains xs x → P x
all_at P xs x all (k, l, e) = subst P e (all k x l)

-- what is no DRAM is a memory of the chip
abbrev pub IsChip : Kind → Type 0
IsChip Dram = ⊥
IsChip _ = Unit {0}

pub on_chip : (core : PlainCore) (m : ℕ) → IsChip (kind_of core m) → m < length core.mems
on_chip core m h = elim (cases_lt m (length core.mems)) [
  | inl l ↦ l
  | inr l ↦ absurd (subst IsChip (ap (λ b. if b then (mem core m).kind else Dram) (le-ltb m (length core.mems) l)) h)
]

register_chip : (k : Kind) → IsRegister k → IsChip k
register_chip Reg h = tt
register_chip ArgOut h = tt
register_chip Sram h = tt
register_chip Fifo h = tt
register_chip LineBuf h = tt
register_chip ArgIn h = tt
register_chip Dram h = h

module _ (core : PlainCore) (plan : PlainPlan) (run : List Stamped) (first : Place → Option Contents) (well : HappensWell core plan run first) (m : ℕ) where
  -- an event is at a copy that the plan has
  pub copy_below : IsChip (kind_of core m) → (n t : ℕ) (e : Event) (h : Happens run n t e) → e.mem ≡ m → h.copy < (mem_plan plan m).depth
  copy_below chip n t e h at =
      subst (λ k. k < length core.mems → h.copy < (mem_plan plan k).depth) at (each_at (λ x. HasCopy core plan x.copy x.moment) run _ well.copied h.there) (on_chip core m chip)

  -- a read finds its word there
  abbrev IsWord : Kind → Type 0
  IsWord LineBuf = ⊥
  IsWord _ = Unit {0}

  word_found : (k : Kind) → IsWord k → (n : ℕ) (is : List ℕ) (w : ℕ) (c : Option Contents) → is_read_in core k n is w c → c ≡ one_cell core w
  word_found Reg h n is w c r = r
  word_found Sram h n is w c r = r
  word_found Fifo h n is w c r = r
  word_found LineBuf h n is w c r = absurd h
  word_found Dram h n is w c r = r
  word_found ArgIn h n is w c r = r
  word_found ArgOut h n is w c r = r

  read_finds : IsOne core (kind_of core m) → IsWord (kind_of core m) → (n t : ℕ) (e : Event) (h : Happens run n t e) → e.mem ≡ m → (w : ℕ) → act_of Read w ≡ Some e.act → standing core run first t (copy_place m h.copy) ≡ one_cell core w
  read_finds one word n t e h at w act =
      let same : reads w ≡ e.act = cc (act) in
      let sees : ActSees core e.mem e.indices e.act (standing core run first t (copy_place m h.copy)) = finds core m one run first well.in_time t h.copy (touches e) h.there refl at in
      word_found (kind_of core e.mem) (subst (λ k. IsWord (kind_of core k)) (sym at) word) e.mem e.indices w (standing core run first t (copy_place m h.copy)) (subst (λ a. ActSees core e.mem e.indices a (standing core run first t (copy_place m h.copy))) (sym same) sees)

register_word : (k : Kind) → IsRegister k → (core : PlainCore) (plan : PlainPlan) (run : List Stamped) (first : Place → Option Contents) (well : HappensWell core plan run first) (m : ℕ) → IsWord core plan run first well m k
register_word Reg h core plan run first well m = tt
register_word ArgOut h core plan run first well m = tt
register_word Sram h core plan run first well m = tt
register_word Fifo h core plan run first well m = tt
register_word LineBuf h core plan run first well m = h
register_word Dram h core plan run first well m = tt
register_word ArgIn h core plan run first well m = tt

module _ (core : PlainCore) (plan : PlainPlan) (run : List Stamped) (first : Place → Option Contents) (well : HappensWell core plan run first)
    (m : ℕ) (s : Signals) (last : ℕ) (part : Register) (nets : List ℕ) (is : IsRegisterOf core plan m s run first last part nets) where
  below : (n t : ℕ) (e : Event) (h : Happens run n t e) → e.mem ≡ m → h.copy < part.copies
  below n t e h at = subst (λ d. h.copy < d) (sym is.copies) (copy_below core plan run first well m (register_chip (kind_of core m) is.kind) n t e h at)

  word_is : (n t : ℕ) (e : Event) (h : Happens run n t e) → t ≤ suc last → e.mem ≡ m → (w : ℕ) → act_of Read w ≡ Some e.act → s.net t (slice_index nets h.copy) ≡ w
  word_is n t e h l at w act =
      hold core plan run first well m s last part nets is t h.copy l (below n t e h at) w
      (read_finds core plan run first well m (one_of (kind_of core m) is.kind core) (register_word (kind_of core m) is.kind core plan run first well m) n t e h at w act)

  later : (n : ℕ) (reader : Touch) → Contains part.reads.items reader → IsOf run Read n m → NamesCopies s run last n reader.copy → IsAnswered s run (suc last) n Read 1 reader.word
  later n reader k of names t e h l w act =
      let late : t ≤ last = omega (arith, l) in
      let at = (of t e h).0 in
      subst (λ u. s.net u reader.word ≡ w) {x = suc t} {y = t + 1} (omega arith)
      (all_at (RunsReader s part.copies nets) part.reads.items reader is.runs.reads k t h.copy (below n t e h at) (names t e h late) ∙ word_is n t e h (omega (arith, late)) at w act)

  at_once : (n : ℕ) (copy : Option ℕ) (net : ℕ) → ReadsAtOnce s part.copies nets copy net → IsOf run Read n m → NamesCopies s run (suc last) n copy → IsAnswered s run (suc last) n Read 0 net
  at_once n copy net direct of names t e h l w act =
      let late : t ≤ suc last = omega (arith, l) in
      let at = (of t e h).0 in
      subst (λ u. s.net u net ≡ w) {x = t} {y = t + 0} (omega arith) (direct t h.copy (below n t e h at) (names t e h late) ∙ word_is n t e h late at w act)

pub registers_answer : (core : PlainCore) (plan : PlainPlan) → RegistersAnswer core plan
registers_answer core plan run first well m s last part nets is = record { later = later core plan run first well m s last part nets is; at_once = at_once core plan run first well m s last part nets is }

-- nothing changes an argument
module _ (core : PlainCore) where
  abbrev IsArgument : Kind → Type 0
  IsArgument ArgIn = Unit {0}
  IsArgument _ = ⊥

  no_act : (k : Kind) → IsArgument k → (is : List ℕ) (ds : List ℕ) → (MayWrite k ds is → ⊥) × (IsFifo k → ⊥) × (IsLine k → ⊥) × (IsMade k → ⊥) × (IsReg k → ⊥)
  no_act ArgIn h is ds = ((λ z. z), (λ z. z), (λ z. z), (λ z. z), λ z. z)
  no_act Reg h is ds = absurd h
  no_act Sram h is ds = absurd h
  no_act Fifo h is ds = absurd h
  no_act LineBuf h is ds = absurd h
  no_act Dram h is ds = absurd h
  no_act ArgOut h is ds = absurd h

  no_reset : (k : Kind) → IsArgument k → (start : Option ℕ) → has_reset k start ≡ true → ⊥
  no_reset ArgIn h start e = true≢false (sym e)
  no_reset Reg h start e = h
  no_reset Sram h start e = h
  no_reset Fifo h start e = h
  no_reset LineBuf h start e = h
  no_reset Dram h start e = h
  no_reset ArgOut h start e = h

  act_none : (n : ℕ) (is : List ℕ) (a : Act) → IsArgument (kind_of core n) → changes a ≡ true → MayAct core n is a → ⊥
  act_none n is (reads w) k d may = true≢false (sym d)
  act_none n is (writes w) k d may = (no_act (kind_of core n) k is _).0 may
  act_none n is (puts w) k d may = (no_act (kind_of core n) k is []).1 may
  act_none n is (takes w) k d may = (no_act (kind_of core n) k is []).1 may
  act_none n is resets k d may = no_reset (kind_of core n) k (mem core n).start may.0
  act_none n is turns k d may = (no_act (kind_of core n) k is []).2 may

  none_changes : (m : ℕ) → IsArgument (kind_of core m) → (x : Moment) → memory_of x ≡ m → does_change x ≡ true → IsAllowed core x → ⊥
  none_changes m k (touches e) h d may = act_none e.mem e.indices e.act (subst (λ n. IsArgument (kind_of core n)) (sym h) k) d may
  none_changes m k (slices x) h d may = true≢false (sym d)
  none_changes m k (renews n) h d may = (no_act (kind_of core n) (subst (λ n. IsArgument (kind_of core n)) (sym h) k) [] []).3 may.0
  none_changes m k (keeps n w) h d may = (no_act (kind_of core n) (subst (λ n. IsArgument (kind_of core n)) (sym h) k) [] []).4 may

argument_one : (core : PlainCore) (k : Kind) → IsArgument core k → IsOne core k
argument_one core ArgIn h = tt
argument_one core Reg h = absurd h
argument_one core Sram h = absurd h
argument_one core Fifo h = absurd h
argument_one core LineBuf h = absurd h
argument_one core Dram h = absurd h
argument_one core ArgOut h = absurd h

module _ (core : PlainCore) (plan : PlainPlan) (run : List Stamped) (first : Place → Option Contents) (well : HappensWell core plan run first) (m : ℕ) (kind : IsArgument core (kind_of core m)) where
  same_on : (t c : ℕ) → standing core run first t (copy_place m c) ≡ first (copy_place m c)
  same_on zero c = stands_at_first core run first (copy_place m c)
  same_on (suc t) c = by (next core m (argument_one core (kind_of core m) kind) run first well.in_time t c) (same_on t c)
    where
      by : Next core m (argument_one core (kind_of core m) kind) run first well.in_time t c → standing core run first t (copy_place m c) ≡ first (copy_place m c) → standing core run first (suc t) (copy_place m c) ≡ first (copy_place m c)
      by (unchanged none same) e = same ∙ e
      by (changed x some is_change same) e = absurd (none_changes core m kind x is_change.mem is_change.changes (each_at (λ y. IsAllowed core y.moment) run _ well.allowed is_change.there))

argument_word : (core : PlainCore) (plan : PlainPlan) (run : List Stamped) (first : Place → Option Contents) (well : HappensWell core plan run first) (m : ℕ) (k : Kind) → IsArgument core k → IsWord core plan run first well m k
argument_word core plan run first well m ArgIn h = tt
argument_word core plan run first well m Reg h = absurd h
argument_word core plan run first well m Sram h = absurd h
argument_word core plan run first well m Fifo h = absurd h
argument_word core plan run first well m LineBuf h = absurd h
argument_word core plan run first well m Dram h = absurd h
argument_word core plan run first well m ArgOut h = absurd h

pub arguments_answer : (core : PlainCore) (plan : PlainPlan) → ArgumentsAnswer core plan
arguments_answer core plan run first well m s net word kind begins port last n after of t e h l w act =
    let k : IsArgument core (kind_of core m) = subst (IsArgument core) (sym kind) tt in
    let at = (of t e h).0 in
    let found = read_finds core plan run first well m (argument_one core (kind_of core m) k) (argument_word core plan run first well m (kind_of core m) k) n t e h at w act in
    let same : one_cell core word ≡ one_cell core w = sym (begins h.copy) ∙ sym (same_on core plan run first well m k t h.copy) ∙ found in
    port (t + after) ∙ cc (same)
