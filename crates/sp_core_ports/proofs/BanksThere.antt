-- Each port that a run by a valid plan uses is one that the plan has.
use Rattle.std.proofs.Common.{◌≡◌, ℕ, ◌-◌, ◌<◌, ◌≤◌, Bool, true, false, cond, List, [], ◌∷◌, Option, Some, None, arith, refl, ap, subst}
use Rattle.std.proofs.lemmas.Bool.{false≢true}
use Rattle.std.specs.Prelude.{◌%◌, min, is_some}
use Rattle.sp_bank.specs.Banking.{Banking}
use Rattle.sp_core.specs.Declarations.{mem}
use Rattle.sp_core.specs.Events.{Act, reads, writes, Event, Moment, touches, slices, renews, keeps}
use Rattle.sp_core.specs.PlainCore.{PlainCore}
use Rattle.sp_plan.specs.PlainPlan.{PlainPlan, mem_plan}
use Rattle.sp_plan.specs.Ports.{has_banks, scheme_at}
use Rattle.sp_plan.specs.Validity.{schemes_of}
use Rattle.sp_time.specs.Lists.{Each}
use Rattle.sp_words.specs.declared.kind.Kind.{Kind}
use Rattle.sp_words.specs.declared.kind.Kind.TheVariants.{LineBuf}
use Rattle.sp_machine.specs.Stamps.{Stamped}
use Rattle.sp_machine.specs.Timeline.{core_timed}
use Rattle.sp_machine.specs.Transfers.{Delays}
use Rattle.sp_core_ports.specs.UsedPorts.{Port, bank_at, port_at, act_port, event_port, moment_port, port_of}
use Rattle.sp_core_ports.specs.UsedReaders.{readers_of, over_at, duplicate_at}
use Rattle.sp_core_ports.specs.CopiesLaws.{IsCopy, HasCopy}
use Rattle.sp_core_ports.proofs.CopiesDepths.{duplicates_some, runs_have_copies}
use Rattle.sp_core_ports.proofs.CoreWriting.{on_chip}
use Rattle.sp_core_ports.specs.BanksLaws.{AreInSpace, bank_count, IsThere, PortsAreThere}

abbrev port_or : Port → Option Port → Port
port_or p None = p
port_or p (Some q) = q

under : (a n : ℕ) → 0 < n → a % n < n
under a n l = omega arith

bank_below : (kind : Kind) (scheme : Option Banking) (is : List ℕ) → ((b : Banking) → scheme ≡ Some b → 0 < b.banks) → bank_at kind scheme is < bank_count scheme
bank_below kind None is h = omega arith
bank_below LineBuf (Some b) (row ∷ is) h = under _ b.banks (h b refl)
bank_below LineBuf (Some b) [] h = under _ b.banks (h b refl)
bank_below kind (Some b) is h = under _ b.banks (h b refl)

module _ (core : PlainCore) (plan : PlainPlan) (space : AreInSpace plan) (some : (m : ℕ) → has_banks (mem core m).kind ≡ true → 0 < (mem_plan plan m).duplicates) where
  port_there : (e : Event) (c x : ℕ) (w : Bool) → c < (mem_plan plan e.mem).depth → x < (mem_plan plan e.mem).duplicates → IsThere plan (port_at core plan e c w x)
  port_there e c x w l u = record {
    copy = l;
    duplicate = u;
    bank = bank_below (mem core e.mem).kind (scheme_at (schemes_of plan) (Some e.mem)) e.indices (λ b q. let s : 1 ≤ b.banks = (space e.mem b q).size.some_bank in omega arith);
  }

  act_there : (e : Event) (c : ℕ) (p : Port) → has_banks (mem core e.mem).kind ≡ true → c < (mem_plan plan e.mem).depth → (a : Act) → act_port core plan e c a ≡ Some p → IsThere plan p
  act_there e c p banked l (reads v) h =
      let d : 0 < (mem_plan plan e.mem).duplicates = some e.mem banked in
      subst (IsThere plan) (ap (port_or p) h) (port_there e c (duplicate_at core plan e.mem e.number) false l (below (over_at e.number (readers_of core e.mem)) (mem_plan plan e.mem).duplicates d))
    where
      below : (a d : ℕ) → 0 < d → min a (d - 1) < d
      below a d u = omega arith
  act_there e c p banked l (writes v) h = subst (IsThere plan) (ap (port_or p) h) (port_there e c 0 true l (some e.mem banked))
  act_there e c p banked l a h = absurd (false≢true (ap is_some h))

  event_there : (e : Event) (c : ℕ) (p : Port) → IsCopy core plan e.mem c → event_port core plan c e ≡ Some p → IsThere plan p
  event_there e c p copy h = go (has_banks (mem core e.mem).kind) refl h
    where
      go : (b : Bool) → has_banks (mem core e.mem).kind ≡ b → cond b (act_port core plan e c e.act) None ≡ Some p → IsThere plan p
      go true banked h = act_there e c p banked (copy (on_chip core e.mem banked)) e.act h
      go false banked h = absurd (false≢true (ap is_some h))

  moment_there : (m : Moment) (c : ℕ) (p : Port) → HasCopy core plan c m → moment_port core plan c m ≡ Some p → IsThere plan p
  moment_there (touches e) c p copy h = event_there e c p copy h
  moment_there (slices z) c p copy h = absurd (false≢true (ap is_some h))
  moment_there (renews m) c p copy h = absurd (false≢true (ap is_some h))
  moment_there (keeps m w) c p copy h = absurd (false≢true (ap is_some h))

  all_there : (es : List Stamped) → Each (λ (s : Stamped). HasCopy core plan s.copy s.moment) es → Each (λ (s : Stamped). (p : Port) → port_of core plan s ≡ Some p → IsThere plan p) es
  all_there [] h = tt
  all_there (s ∷ es) h = ((λ p q. moment_there s.moment s.copy p h.0 q), all_there es h.1)

pub ports_are_there : (core : PlainCore) (plan : PlainPlan) (delays : Delays) → PortsAreThere core plan delays
ports_are_there core plan delays forms meets w space h = all_there core plan space some (core_timed core plan delays h).events (runs_have_copies core plan delays forms meets w h)
  where
    some : (m : ℕ) → has_banks (mem core m).kind ≡ true → 0 < (mem_plan plan m).duplicates
    some m banked = duplicates_some core plan forms meets w m (on_chip core m banked) banked
