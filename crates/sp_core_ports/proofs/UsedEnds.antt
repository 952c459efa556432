-- What comes in order uses no end of a FIFO twice in one cycle, since each word that enters or leaves it changes it.
use Rattle.std.proofs.Common.{◌≡◌, ℕ, ◌<◌, true, List, [], ◌∷◌, arith, refl, sym, ap, ◌∙◌}
use Rattle.std.proofs.lemmas.Bool.{and_from, eq-eqb, false≢true}
use Rattle.std.specs.Prelude.{◌==◌}
use Rattle.sp_core.specs.Declarations.{kind_of, dims}
use Rattle.sp_core.specs.Events.{Act, puts, takes, Event, Moment, touches, slices, renews, keeps}
use Rattle.sp_core.specs.Meeting.{changes, element, is_one_element}
use Rattle.sp_core.specs.OperationRules.{is_fifo}
use Rattle.sp_core.specs.PlainCore.{PlainCore}
use Rattle.sp_time.specs.Lists.{Each}
use Rattle.sp_words.specs.declared.kind.Kind.{Kind}
use Rattle.sp_words.specs.declared.kind.Kind.TheVariants.{Fifo}
use Rattle.sp_machine.specs.InOrder.{is_done, does_change, share_place, AreInOrder}
use Rattle.sp_machine.specs.Stamps.{Stamped}
use Rattle.sp_core_ports.specs.UsedLaws.{OrderedUseNoEndTwice}
use Rattle.sp_core_ports.specs.UsedQueues.{is_one_end, AreAtOneEnd, UseNoEndTwice}

end_changes : (a b : Act) → is_one_end a b ≡ true → changes a ≡ true
end_changes (puts v) b h = refl
end_changes (takes v) b h = refl
end_changes a b h = absurd (false≢true h)

no_element : (kind : Kind) (dims indices : List ℕ) → is_fifo kind ≡ true → element kind dims indices ≡ 0
no_element Fifo ds is h = refl
no_element kind ds is h = absurd (false≢true h)

module _ (core : PlainCore) where
  events_clash : (e f : Event) → AreAtOneEnd core (touches e) (touches f) → share_place core (touches e) (touches f) ≡ true
  events_clash e f h =
      and_from (e.mem == f.mem) (is_one_element core e f) (eq-eqb _ _ h.0)
      (eq-eqb _ _ (no_element (kind_of core e.mem) (dims core e.mem) e.indices h.1 ∙ sym (no_element (kind_of core f.mem) (dims core f.mem) f.indices (sym (ap (λ m. is_fifo (kind_of core m)) h.0) ∙ h.1))))

  moments_clash : (m n : Moment) → AreAtOneEnd core m n → (is_done core m ≡ true) × (is_done core n ≡ true) × (share_place core m n ≡ true) × (does_change m ≡ true)
  moments_clash (touches e) (touches f) h = (refl, refl, events_clash e f h, end_changes e.act f.act h.2)
  moments_clash (touches e) (slices z) h = absurd h
  moments_clash (touches e) (renews m) h = absurd h
  moments_clash (touches e) (keeps m w) h = absurd h
  moments_clash (slices z) n h = absurd h
  moments_clash (renews m) n h = absurd h
  moments_clash (keeps m w) n h = absurd h

  two_ordered : (s t : Stamped) → AreInOrder core s t → UseNoEndTwice core s t
  two_ordered s t h cycle copy ends =
      let q = moments_clash s.moment t.moment ends in
      let l : s.cycle < t.cycle = h.for_change (record { first = q.0; second = q.1; copy = copy; place = q.2 }) q.3 in
      absurd (omega arith)

pub ordered_use_none : (core : PlainCore) → OrderedUseNoEndTwice core
ordered_use_none core [] h = tt
ordered_use_none core (x ∷ xs) h = (each xs h.0, ordered_use_none core xs h.1)
  where
    each : (ys : List Stamped) → Each (AreInOrder core x) ys → Each (UseNoEndTwice core x) ys
    each [] h = tt
    each (y ∷ ys) h = ((λ c d e. two_ordered core x y h.0 c d e), each ys h.1)
