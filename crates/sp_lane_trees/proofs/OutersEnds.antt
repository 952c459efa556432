-- The end of a group: no FIFO of a stream block holds more words than its depth.
use Rattle.std.proofs.Common.{◌≡◌, ℕ, Bool, true, false, ◌||◌, List, [], ◌∷◌, length, map, refl, sym, ◌∙◌, ap, subst, nat_le, ◌==◌}
use Rattle.std.proofs.lemmas.Bool.{true≢false, eq-eqb, or_right}
use Rattle.sp_words.specs.declared.kind.Style.{Style}
use Rattle.sp_words.specs.declared.kind.Style.TheVariants.{Stream}
use Rattle.sp_words.specs.Interface.{word_count}
use Rattle.sp_core.specs.Around.{Around, is_usable}
use Rattle.sp_core.specs.Declarations.{depth, is_among}
use Rattle.sp_core.specs.PlainCore.{PlainMem, PlainCore}
use Rattle.sp_core.specs.Scope.{Reading}
use Rattle.sp_core.specs.Sequential.{holds_depth, end_of_group}
use Rattle.sp_core.specs.Step.{Step, pure, ◌>>=◌, stop, ensure, look, in_order}
use Rattle.sp_core.specs.Store.{Store, queue_of}
use Rattle.sp_lanes.specs.Unrolled.{unrolled}
use Rattle.sp_lanes.specs.Within.{Within}
use Rattle.sp_lane_rules.specs.UnrolledPlaces.{GoTogether}
use Rattle.sp_lane_groups.specs.LiveStores.{AreCopies}
use Rattle.sp_lane_groups.proofs.LiveAlong.{Along, bind_along, look_along, ensure_along, did_go, store_of}
use Rattle.sp_lane_groups.proofs.InnersSteps.{Leaves, pure_leaves, bind_leaves, order_leaves}
use Rattle.sp_lane_trees.proofs.TransfersMoving.{Moves, pure_moves, bind_moves, memory_moves}

-- nothing is changed
module _ (core : PlainCore) (reading : Reading) (turns : ℕ) where
  abbrev pub Still : Store → Store → Type 0
  Still s t = s ≡ t

  pub still_none : (s : Store) → Still s s
  still_none s = refl

  pub still_both : (s t u : Store) → Still s t → Still t u → Still s u
  still_both s t u e f = e ∙ f

  abbrev pub Stays : {A : Type 0} → Step A → Type 0
  Stays step = Leaves Still still_none still_both step

  ensure_stays : (b : Bool) → Stays (ensure b)
  unfolding stop
  ensure_stays true = pure_leaves Still still_none still_both tt
  ensure_stays false = λ s after a e. absurd (true≢false (sym (ap did_go e)))

  look_stays : {A : Type 0} (at : Store → A) → Stays (look at)
  unfolding look
  look_stays at s after a e = ap (store_of s) e

  depth_stays : (m : ℕ) → Stays (holds_depth core reading turns m)
  depth_stays m =
      bind_leaves Still still_none still_both (look (λ s. queue_of (s m))) (λ ws. ensure (nat_le (length ws) (depth core m))) (look_stays (λ s. queue_of (s m))) (λ ws. ensure_stays (nat_le (length ws) (depth core m)))

  pub end_stays : (style : Style) (owned : List ℕ) → Stays (end_of_group core reading turns style owned)
  end_stays Stream owned = order_leaves Still still_none still_both (holds_depth core reading turns) depth_stays owned
  end_stays _ owned = pure_leaves Still still_none still_both []

module _ (core : PlainCore) (around inside : Around) (w : Within) (together : GoTogether core (unrolled core) around inside w) (copies : AreCopies core around w) (one two : Reading) (turns : ℕ) where
  abbrev Go : {A : Type 0} → Step A → Step A → Type 0
  Go step other = Moves core around inside w together copies step other

  depth_moves : (m : ℕ) → is_usable core around m ≡ true → Go (holds_depth core one turns m) (holds_depth (unrolled core) two turns (w.number m))
  depth_moves m u =
      memory_moves core around inside w together copies m u (holds_depth core one turns m) (holds_depth (unrolled core) two turns (w.number m))
      (bind_along m (w.number m) (look (λ s. queue_of (s m))) (look (λ s. queue_of (s (w.number m)))) (λ ws. ensure (nat_le (length ws) (depth core m))) (λ ws. ensure (nat_le (length ws) (depth (unrolled core) (w.number m))))
      (look_along m (w.number m) (λ s. queue_of (s m)) (λ s. queue_of (s (w.number m))) (λ s t e. ap queue_of e))
      (λ ws. subst (λ d. Along m (w.number m) (Unit {0}) (ensure (nat_le (length ws) (depth core m))) (ensure (nat_le (length ws) d))) (sym same) (ensure_along m (w.number m) (nat_le (length ws) (depth core m)))))
    where
      same : depth (unrolled core) (w.number m) ≡ depth core m
      same = ap (λ (x : PlainMem). word_count x.dims) (together.memories m u).1

  -- one after the other
  all_move : (owned : List ℕ) → ((m : ℕ) → is_among m owned ≡ true → is_usable core around m ≡ true) → Go (in_order (holds_depth core one turns) owned) (in_order (holds_depth (unrolled core) two turns) (map w.number owned))
  unfolding in_order
  all_move [] u = pure_moves core around inside w together copies []
  all_move (m ∷ owned) u =
      bind_moves core around inside w together copies (holds_depth core one turns m) (holds_depth (unrolled core) two turns (w.number m))
      (λ first. in_order (holds_depth core one turns) owned >>= (λ others. pure (first ∷ others))) (λ first. in_order (holds_depth (unrolled core) two turns) (map w.number owned) >>= (λ others. pure (first ∷ others)))
      (depth_moves m (u m (ap (λ b. b || is_among m owned) (eq-eqb m m refl))))
      (λ first. bind_moves core around inside w together copies (in_order (holds_depth core one turns) owned) (in_order (holds_depth (unrolled core) two turns) (map w.number owned)) (λ others. pure (first ∷ others)) (λ others. pure (first ∷ others))
      (all_move owned (λ k i. u k (or_right (k == m) (is_among k owned) i))) (λ others. pure_moves core around inside w together copies (first ∷ others)))

  pub ends_move : (style : Style) (owned : List ℕ) → ((m : ℕ) → is_among m owned ≡ true → is_usable core around m ≡ true) → Go (end_of_group core one turns style owned) (end_of_group (unrolled core) two turns style (map w.number owned))
  ends_move Stream owned u = all_move owned u
  ends_move _ owned u = pure_moves core around inside w together copies []
