-- What two moments at one port have in common.
use Rattle.std.proofs.Common.{◌≡◌, ℕ, ◌<◌, ◌⊎◌, inl, inr, Bool, true, false, cond, List, [], ◌∷◌, Option, Some, None, arith, refl, sym, ap, ◌∙◌}
use Rattle.std.proofs.lemmas.Bool.{true≢false, false≢true}
use Rattle.std.specs.Prelude.{is_some}
use Rattle.sp_bank.specs.Banking.{Banking}
use Rattle.sp_core.specs.Declarations.{mem}
use Rattle.sp_core.specs.Events.{Act, reads, writes, puts, takes, resets, turns, Event, Moment, touches, slices, renews, keeps}
use Rattle.sp_core.specs.Forms.{PlainForms}
use Rattle.sp_core.specs.Meeting.{changes}
use Rattle.sp_core.specs.PlainCore.{PlainCore}
use Rattle.sp_plan.specs.PlainPlan.{PlainPlan}
use Rattle.sp_plan.specs.Ports.{has_banks, scheme_at}
use Rattle.sp_plan.specs.Validity.{schemes_of}
use Rattle.sp_time.specs.Lists.{Each, Pairs}
use Rattle.sp_words.specs.declared.kind.Kind.{Kind}
use Rattle.sp_words.specs.declared.kind.Kind.TheVariants.{LineBuf}
use Rattle.sp_machine.specs.InOrder.{EachTwo}
use Rattle.sp_machine.specs.Stamps.{Stamped}
use Rattle.sp_ports.specs.Banks.{is_one_port, AreInBank, AreAtOnePort, SharePort, ShareNoPort}
use Rattle.sp_ports.proofs.Inners.{HasNoPort}
use Rattle.sp_core_ports.specs.UsedPorts.{Port, row_at, bank_at, port_at, act_port, event_port, moment_port, port_of, AreAtPort, UseOnePort, UseNoPortTwice}
use Rattle.sp_core_ports.specs.UsedReaders.{duplicate_at}

abbrev row_or : ℕ → Option ℕ → ℕ
row_or d None = d
row_or d (Some x) = x

-- one row and one bank
in_one_bank : (kind : Kind) (scheme : Option Banking) (is js : List ℕ) → row_at kind scheme is ≡ row_at kind scheme js → bank_at kind scheme is ≡ bank_at kind scheme js → AreInBank kind scheme is js
in_one_bank kind None is js r b = tt
in_one_bank LineBuf (Some x) (i ∷ is) (j ∷ js) r b = (ap (row_or 0) r, b)
in_one_bank LineBuf (Some x) (i ∷ is) [] r b = absurd (true≢false (ap is_some r))
in_one_bank LineBuf (Some x) [] (j ∷ js) r b = absurd (false≢true (ap is_some r))
in_one_bank LineBuf (Some x) [] [] r b = b
in_one_bank kind (Some x) is js r b = b

module _ (core : PlainCore) (plan : PlainPlan) where
  -- two accesses at one port: of one copy of a memory with banks, both reads by one duplicate or both writes, in one bank
  pub record AreTogether (c d : ℕ) (e f : Event) : Type 0 where
    pub copy : c ≡ d
    pub mem_is : e.mem ≡ f.mem
    pub banked : has_banks (mem core e.mem).kind ≡ true
    pub one_port : is_one_port e.act f.act ≡ true
    pub in_bank : AreInBank (mem core e.mem).kind (scheme_at (schemes_of plan) (Some e.mem)) e.indices f.indices
    pub by_act : ((changes e.act ≡ false) × (changes f.act ≡ false) × (duplicate_at core plan e.mem e.number ≡ duplicate_at core plan f.mem f.number)) ⊎ ((changes e.act ≡ true) × (changes f.act ≡ true))

  abbrev pub MomentsTogether : (c d : ℕ) → Moment → Moment → Type 0
  MomentsTogether c d (touches e) (touches f) = AreTogether c d e f
  MomentsTogether c d _ _ = ⊥

  nothing_at : (p : Port) → None ≡ Some p → ⊥
  nothing_at p e = false≢true (ap is_some e)

  abbrev port_or : Port → Option Port → Port
  port_or p None = p
  port_or p (Some q) = q

  one_port_of : (p q r : Port) → Some p ≡ Some r → Some q ≡ Some r → p ≡ q
  one_port_of p q r a b = ap (port_or r) a ∙ sym (ap (port_or r) b)

  -- by the parts of a port that both are at
  same_bank : (e f : Event) (c d x y : ℕ) (w v : Bool) → port_at core plan e c w x ≡ port_at core plan f d v y → AreInBank (mem core e.mem).kind (scheme_at (schemes_of plan) (Some e.mem)) e.indices f.indices
  same_bank e f c d x y w v q =
      let m : e.mem ≡ f.mem = ap (λ (p : Port). p.mem) q in
      in_one_bank (mem core e.mem).kind (scheme_at (schemes_of plan) (Some e.mem)) e.indices f.indices
      (ap (λ (p : Port). p.row) q ∙ ap (λ z. row_at (mem core z).kind (scheme_at (schemes_of plan) (Some z)) f.indices) (sym m))
      (ap (λ (p : Port). p.bank) q ∙ ap (λ z. bank_at (mem core z).kind (scheme_at (schemes_of plan) (Some z)) f.indices) (sym m))

  by_acts : (e f : Event) (c d : ℕ) (p : Port) → has_banks (mem core e.mem).kind ≡ true → (a b : Act) → e.act ≡ a → f.act ≡ b → act_port core plan e c a ≡ Some p → act_port core plan f d b ≡ Some p → AreTogether c d e f
  by_acts e f c d p banked (reads v) (reads w) ea fa x y =
      let q : port_at core plan e c false (duplicate_at core plan e.mem e.number) ≡ port_at core plan f d false (duplicate_at core plan f.mem f.number) = one_port_of _ _ p x y in
      record {
        copy = ap (λ (z : Port). z.copy) q;
        mem_is = ap (λ (z : Port). z.mem) q;
        banked = banked;
        one_port = ap (λ z. is_one_port z f.act) ea ∙ ap (is_one_port (reads v)) fa;
        in_bank = same_bank e f c d _ _ false false q;
        by_act = inl (ap changes ea, ap changes fa, ap (λ (z : Port). z.duplicate) q);
      }
  by_acts e f c d p banked (writes v) (writes w) ea fa x y =
      let q : port_at core plan e c true 0 ≡ port_at core plan f d true 0 = one_port_of _ _ p x y in
      record {
        copy = ap (λ (z : Port). z.copy) q;
        mem_is = ap (λ (z : Port). z.mem) q;
        banked = banked;
        one_port = ap (λ z. is_one_port z f.act) ea ∙ ap (is_one_port (writes v)) fa;
        in_bank = same_bank e f c d _ _ true true q;
        by_act = inr (ap changes ea, ap changes fa);
      }
  by_acts e f c d p banked (reads v) (writes w) ea fa x y = absurd (false≢true (ap (λ (z : Port). z.is_written) (one_port_of _ _ p x y)))
  by_acts e f c d p banked (writes v) (reads w) ea fa x y = absurd (true≢false (ap (λ (z : Port). z.is_written) (one_port_of _ _ p x y)))
  by_acts e f c d p banked (puts v) b ea fa x y = absurd (nothing_at p x)
  by_acts e f c d p banked (takes v) b ea fa x y = absurd (nothing_at p x)
  by_acts e f c d p banked resets b ea fa x y = absurd (nothing_at p x)
  by_acts e f c d p banked turns b ea fa x y = absurd (nothing_at p x)
  by_acts e f c d p banked a (puts v) ea fa x y = absurd (nothing_at p y)
  by_acts e f c d p banked a (takes v) ea fa x y = absurd (nothing_at p y)
  by_acts e f c d p banked a resets ea fa x y = absurd (nothing_at p y)
  by_acts e f c d p banked a turns ea fa x y = absurd (nothing_at p y)

  events_together : (e f : Event) (c d : ℕ) (p : Port) → event_port core plan c e ≡ Some p → event_port core plan d f ≡ Some p → AreTogether c d e f
  events_together e f c d p x y = go (has_banks (mem core e.mem).kind) refl (has_banks (mem core f.mem).kind) refl x y
    where
      go : (a : Bool) → has_banks (mem core e.mem).kind ≡ a → (b : Bool) → has_banks (mem core f.mem).kind ≡ b → cond a (act_port core plan e c e.act) None ≡ Some p → cond b (act_port core plan f d f.act) None ≡ Some p → AreTogether c d e f
      go true ea true eb x y = by_acts e f c d p ea e.act f.act refl refl x y
      go true ea false eb x y = absurd (nothing_at p y)
      go false ea b eb x y = absurd (nothing_at p x)

  moments_together : (m n : Moment) (c d : ℕ) (p : Port) → moment_port core plan c m ≡ Some p → moment_port core plan d n ≡ Some p → MomentsTogether c d m n
  moments_together (touches e) (touches f) c d p x y = events_together e f c d p x y
  moments_together (touches e) (slices z) c d p x y = absurd (nothing_at p y)
  moments_together (touches e) (renews m) c d p x y = absurd (nothing_at p y)
  moments_together (touches e) (keeps m w) c d p x y = absurd (nothing_at p y)
  moments_together (slices z) n c d p x y = absurd (nothing_at p x)
  moments_together (renews m) n c d p x y = absurd (nothing_at p x)
  moments_together (keeps m w) n c d p x y = absurd (nothing_at p x)

  pub together : (s t : Stamped) → AreAtPort core plan s t → MomentsTogether s.copy t.copy s.moment t.moment
  together s t h = moments_together s.moment t.moment s.copy t.copy h.port h.first h.second

  -- so they share a port of a bank
  shared : (m n : Moment) (c d : ℕ) → MomentsTogether c d m n → (c ≡ d) × AreAtOnePort core (schemes_of plan) m n
  shared (touches e) (touches f) c d h = (h.copy, (h.mem_is, h.banked, h.one_port, h.in_bank))
  shared (touches e) (slices z) c d h = absurd h
  shared (touches e) (renews m) c d h = absurd h
  shared (touches e) (keeps m w) c d h = absurd h
  shared (slices z) n c d h = absurd h
  shared (renews m) n c d h = absurd h
  shared (keeps m w) n c d h = absurd h

  pub shared_port : (s t : Stamped) → UseOnePort core plan s t → SharePort core (schemes_of plan) s t
  shared_port s t h =
      let q = shared s.moment t.moment s.copy t.copy (together s t h.1) in
      record { cycle = h.0; copy = q.0; port = q.1 }

  -- what shares no port uses none twice
  pub none_twice : (forms : PlainForms) (xs : List Stamped) → Pairs (ShareNoPort core forms (schemes_of plan)) xs → Pairs (UseNoPortTwice core plan forms) xs
  none_twice forms [] h = tt
  none_twice forms (x ∷ xs) h = (each xs h.0, none_twice forms xs h.1)
    where
      each : (ys : List Stamped) → Each (ShareNoPort core forms (schemes_of plan) x) ys → Each (UseNoPortTwice core plan forms x) ys
      each [] h = tt
      each (y ∷ ys) h = ((λ u. h.0 (shared_port x y u)), each ys h.1)

  -- moments without a port
  abbrev pub IsFree : Stamped → Type 0
  IsFree s = port_of core plan s ≡ None

  pub free_moment : (m : Moment) (c : ℕ) → HasNoPort core m → moment_port core plan c m ≡ None
  free_moment (touches e) c h = ap (λ b. cond b (act_port core plan e c e.act) None) h
  free_moment (slices z) c h = refl
  free_moment (renews m) c h = refl
  free_moment (keeps m w) c h = refl

  pub free_first : (forms : PlainForms) (s t : Stamped) → IsFree s → UseNoPortTwice core plan forms s t
  free_first forms s t f h = absurd (nothing_at h.1.port (sym f ∙ h.1.first))

  pub free_second : (forms : PlainForms) (s t : Stamped) → IsFree t → UseNoPortTwice core plan forms s t
  free_second forms s t f h = absurd (nothing_at h.1.port (sym f ∙ h.1.second))

  pub free_after : (forms : PlainForms) (s : Stamped) (xs : List Stamped) → IsFree s → Each (UseNoPortTwice core plan forms s) xs
  free_after forms s [] f = tt
  free_after forms s (x ∷ xs) f = (free_first forms s x f, free_after forms s xs f)

  pub free_before : (forms : PlainForms) (xs ys : List Stamped) → Each IsFree ys → EachTwo (UseNoPortTwice core plan forms) xs ys
  free_before forms [] ys f = tt
  free_before forms (x ∷ xs) ys f = (each ys f, free_before forms xs ys f)
    where
      each : (ys : List Stamped) → Each IsFree ys → Each (UseNoPortTwice core plan forms x) ys
      each [] f = tt
      each (y ∷ ys) f = (free_second forms x y f.0, each ys f.1)

  pub free_two : (forms : PlainForms) (xs ys : List Stamped) → Each IsFree xs → EachTwo (UseNoPortTwice core plan forms) xs ys
  free_two forms [] ys f = tt
  free_two forms (x ∷ xs) ys f = (free_after forms x ys f.0, free_two forms xs ys f.1)

  pub free_pairs : (forms : PlainForms) (xs : List Stamped) → Each IsFree xs → Pairs (UseNoPortTwice core plan forms) xs
  free_pairs forms [] f = tt
  free_pairs forms (x ∷ xs) f = (free_after forms x xs f.0, free_pairs forms xs f.1)

  -- and moments of two cycles
  pub in_turn : (forms : PlainForms) (s t : Stamped) → s.cycle < t.cycle → UseNoPortTwice core plan forms s t
  in_turn forms s t l h = let e : s.cycle ≡ t.cycle = h.0 in absurd (omega arith)
