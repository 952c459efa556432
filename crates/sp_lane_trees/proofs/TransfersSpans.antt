-- The parts of a slice in lanes.
use Rattle.std.proofs.Common.{◌≡◌, ℕ, true, List, [], ◌∷◌, refl}
use Rattle.std.proofs.lemmas.Bool.{and_parts}
use Rattle.std.specs.List.{list_all}
use Rattle.sp_core.specs.Around.{Around}
use Rattle.sp_core.specs.History.{one, both}
use Rattle.sp_core.specs.MemoryRules.{are_memories_right}
use Rattle.sp_core.specs.NodeRules.{is_span_right}
use Rattle.sp_core.specs.OperationRules.{is_bound}
use Rattle.sp_core.specs.Operations.{operations}
use Rattle.sp_core.specs.PlainCore.{PlainOp, PlainSpan, single, range, PlainCore}
use Rattle.sp_core.specs.Scope.{plainly, Scope}
use Rattle.sp_core.specs.Scope as scope
use Rattle.sp_core.specs.Sequential.{taken}
use Rattle.sp_core.specs.Step.{Step, pure, ◌>>=◌, in_order}
use Rattle.sp_core.specs.Store.{Store}
use Rattle.sp_fitting.specs.Laws.{ListsFit}
use Rattle.sp_lanes.specs.Unrolled.{unrolled}
use Rattle.sp_lanes.specs.Within.{Within, ops_in, span_in, spans_in}
use Rattle.sp_lane_rules.specs.UnrolledPlaces.{GoTogether}
use Rattle.sp_lane_groups.specs.LiveStores.{AreCopies, HaveRoom, LeavesOthers, ScopesAgree, ArePlain}
use Rattle.sp_lane_groups.specs.PlainNodes.{AreSpansPlain}
use Rattle.sp_lane_groups.proofs.InnersBounds.{bound_right}
use Rattle.sp_lane_groups.proofs.InnersFollows.{Follows, Same, pure_follows, bind_same, list_follows}

module _ (core : PlainCore) (around : Around) (w : Within) (Left : Store → Store → Type 0) (none : (t : Store) → Left t t) (both_left : (t u v : Store) → Left t u → Left u v → Left t v)
    (inside : Around) (together : GoTogether core (unrolled core) around inside w) (copies : AreCopies core around w) (rooms : HaveRoom core around w (unrolled core)) (plain in_lanes : Scope) (agree : ScopesAgree w plain in_lanes)
    (from_others : (t ended : Store) → LeavesOthers core around w t ended → Left t ended) (memories : are_memories_right core ≡ true) (lists : ListsFit core) (turns : ℕ) where
  abbrev pub Alike : {A : Type 0} → Step A → Step A → Type 0
  Alike step other = Follows core around w Left none both_left (Same core around w Left none both_left) step other

  pub bound_follows : (ops : List PlainOp) → ArePlain ops → is_bound core around ops ≡ true → Alike (operations core plain ops) (operations (unrolled core) in_lanes (ops_in w ops))
  bound_follows ops p e = list_follows core around w Left none both_left inside together copies rooms plain in_lanes agree from_others memories lists ops p (bound_right core around ops e)

  single_follows : (ops : List PlainOp) → ArePlain ops → is_bound core around ops ≡ true → Alike (taken core plainly turns plain (single ops)) (taken (unrolled core) scope.in_lanes turns in_lanes (single (ops_in w ops)))
  single_follows ops p e =
      bind_same core around w Left none both_left (Same core around w Left none both_left) (operations core plain ops) (operations (unrolled core) in_lanes (ops_in w ops)) (λ i. pure (one i)) (λ i. pure (one i))
      (bound_follows ops p e) (λ i. pure_follows core around w Left none both_left (Same core around w Left none both_left) (one i) (one i) refl)

  range_follows : (a b : List PlainOp) → ArePlain a → ArePlain b → is_bound core around a ≡ true → is_bound core around b ≡ true
      → Alike (taken core plainly turns plain (range a b)) (taken (unrolled core) scope.in_lanes turns in_lanes (range (ops_in w a) (ops_in w b)))
  range_follows a b p q e f =
      bind_same core around w Left none both_left (Same core around w Left none both_left) (operations core plain a) (operations (unrolled core) in_lanes (ops_in w a))
      (λ x. operations core plain b >>= (λ y. pure (both x y))) (λ x. operations (unrolled core) in_lanes (ops_in w b) >>= (λ y. pure (both x y))) (bound_follows a p e)
      (λ x. bind_same core around w Left none both_left (Same core around w Left none both_left) (operations core plain b) (operations (unrolled core) in_lanes (ops_in w b)) (λ y. pure (both x y)) (λ y. pure (both x y))
      (bound_follows b q f) (λ y. pure_follows core around w Left none both_left (Same core around w Left none both_left) (both x y) (both x y) refl))

  -- one after the other
  more_follow : (span : PlainSpan) (spans : List PlainSpan) → Alike (taken core plainly turns plain span) (taken (unrolled core) scope.in_lanes turns in_lanes (span_in w span))
      → Alike (in_order (taken core plainly turns plain) spans) (in_order (taken (unrolled core) scope.in_lanes turns in_lanes) (spans_in w spans))
      → Alike (in_order (taken core plainly turns plain) (span ∷ spans)) (in_order (taken (unrolled core) scope.in_lanes turns in_lanes) (spans_in w (span ∷ spans)))
  unfolding in_order
  more_follow span spans f g =
      bind_same core around w Left none both_left (Same core around w Left none both_left) (taken core plainly turns plain span) (taken (unrolled core) scope.in_lanes turns in_lanes (span_in w span))
      (λ x. in_order (taken core plainly turns plain) spans >>= (λ xs. pure (x ∷ xs))) (λ x. in_order (taken (unrolled core) scope.in_lanes turns in_lanes) (spans_in w spans) >>= (λ xs. pure (x ∷ xs))) f
      (λ x. bind_same core around w Left none both_left (Same core around w Left none both_left) (in_order (taken core plainly turns plain) spans) (in_order (taken (unrolled core) scope.in_lanes turns in_lanes) (spans_in w spans))
      (λ xs. pure (x ∷ xs)) (λ xs. pure (x ∷ xs)) g (λ xs. pure_follows core around w Left none both_left (Same core around w Left none both_left) (x ∷ xs) (x ∷ xs) refl))

  pub spans_follow : (spans : List PlainSpan) → AreSpansPlain spans → list_all (is_span_right core around) spans ≡ true → Alike (in_order (taken core plainly turns plain) spans) (in_order (taken (unrolled core) scope.in_lanes turns in_lanes) (spans_in w spans))
  unfolding in_order
  spans_follow [] p e = pure_follows core around w Left none both_left (Same core around w Left none both_left) [] [] refl
  spans_follow (single ops ∷ spans) p e =
      let a = and_parts (is_span_right core around (single ops)) (list_all (is_span_right core around) spans) e in
      more_follow (single ops) spans (single_follows ops p.0 a.0) (spans_follow spans p.1 a.1)
  spans_follow (range f t ∷ spans) p e =
      let a = and_parts (is_span_right core around (range f t)) (list_all (is_span_right core around) spans) e in
      let b = and_parts (is_bound core around f) (is_bound core around t) a.0 in
      more_follow (range f t) spans (range_follows f t p.0 p.1 b.0 b.1) (spans_follow spans p.2 a.1)
