-- Arguments and outputs of a core in lanes stand in their order.
use Rattle.std.proofs.Common.{◌≡◌, ◌⊎◌, inl, inr, ℕ, zero, suc, ◌+◌, ◌≤◌, Bool, true, false, not, List, [], ◌++◌, length, map, refl, sym, ◌∙◌, ap, subst, arith}
use Rattle.std.proofs.lemmas.Bool.{true≢false}
use Rattle.std.specs.Prelude.{filter}
use Rattle.sp_words.specs.declared.kind.Kind.{Kind}
use Rattle.sp_core.specs.Around.{is_port_kind}
use Rattle.sp_core.specs.Declarations.{mem, is_among}
use Rattle.sp_core.specs.Elements.{numbers_below}
use Rattle.sp_core.specs.Invariant.{owned_in}
use Rattle.sp_core.specs.Meaning.{numbers_of}
use Rattle.sp_core.specs.NodeRules.{is_owned_once}
use Rattle.sp_core.specs.PlainCore.{no_mem, PlainCore}
use Rattle.sp_lanes.specs.Order.{is_port, is_written, is_added, memories_in, memories_where, memory_order, occurrence, placed}
use Rattle.sp_lane_rules.specs.Copies.{occurrences}
use Rattle.sp_lane_rules.specs.CopiesRules.{ArePortsWritten}
use Rattle.sp_lane_rules.proofs.CopiesCounts.{node_kept, node_left, where_left}
use Rattle.sp_lane_rules.proofs.CopiesOwners.{no_copies, among_count}
use Rattle.sp_lane_rules.proofs.CopiesPortOrder.{filter_append, filter_none, filter_twice, listed, numbers_rise, owned_rise, base_past, base_free}
use Rattle.sp_lane_groups.proofs.InnersOwners.{each_owned}
use Rattle.sp_lane_rules.proofs.UnrolledGivens.{append_none}
use Rattle.sp_lane_trees.proofs.Numbers.{map_same, map_self, passes, fewer, below_once, below_place, numbers_at}

zero_or_more : (n : ℕ) → (n ≡ 0) ⊎ (1 ≤ n)
zero_or_more zero = inl refl
zero_or_more (suc n) = inr (omega arith)

module _ (core : PlainCore) (once : is_owned_once core [] (owned_in core.root) ≡ true) (written : ArePortsWritten core) (is : Kind → Bool) (are : (k : Kind) → is k ≡ true → is_port_kind k ≡ true) where
  abbrev test : ℕ → Bool
  test m = is (mem core m).kind

  free_when : (m : ℕ) (b : Bool) → is_port core m ≡ false → is (mem core m).kind ≡ b → b ≡ false
  free_when m true e f = absurd (true≢false (sym (are (mem core m).kind f) ∙ e))
  free_when m false e f = refl

  root_free : filter test (memories_in (is_written core) core.root) ≡ []
  root_free = filter_none test (memories_in (is_written core) core.root) (λ m c. by m (is_written core m) refl c)
    where
      by : (m : ℕ) (b : Bool) → is_written core m ≡ b → 1 ≤ occurrences m (memories_in (is_written core) core.root) → is (mem core m).kind ≡ false
      by m true e c = elim (zero_or_more (occurrences m (owned_in core.root))) [
        | inr some ↦ free_when m (is (mem core m).kind) (each_owned core [] (owned_in core.root) once m (among_count m (owned_in core.root) some)).no_port refl
        | inl none ↦ absurd (omega (arith, c, node_kept (is_written core) m core.root e, no_copies m core.root none))
      ]
      by m false e c = absurd (omega (arith, c, node_left (is_written core) m core.root e))

  added_free : filter test (memories_where core (is_added core)) ≡ []
  added_free = filter_none test (memories_where core (is_added core)) (λ m c. by m (is (mem core m).kind) refl c)
    where
      by : (m : ℕ) (b : Bool) → is (mem core m).kind ≡ b → 1 ≤ occurrences m (memories_where core (is_added core)) → b ≡ false
      by m true e c = absurd (omega (arith, c, where_left core (is_added core) m (ap not (written m (are (mem core m).kind e)))))
      by m false e c = refl

  in_order : filter test (memory_order core) ≡ filter test (numbers_below (length core.mems))
  in_order =
      filter_append test (memories_where core (is_written core)) (memories_where core (is_added core)) ∙ ap (λ l. filter test (memories_where core (is_written core)) ++ l) added_free
      ∙ append_none (filter test (memories_where core (is_written core)))
      ∙ (owned_rise test (is_written core) (λ m e. written m (are (mem core m).kind e)) (filter (is_port core) (numbers_below (length core.mems))) (placed (memories_in (is_written core) core.root) [])
      (base_past test (is_written core) (λ m e. written m (are (mem core m).kind e)) (memories_in (is_written core) core.root) root_free)
      (base_free test (is_written core) (λ m e. written m (are (mem core m).kind e)) (memories_in (is_written core) core.root) root_free) (numbers_rise (is_port core) (length core.mems)).0).0
      ∙ filter_twice test (is_port core) (λ m e. are (mem core m).kind e) (numbers_below (length core.mems))

  abbrev kept : List ℕ
  kept = filter test (numbers_below (length core.mems))

  kept_once : (m : ℕ) → occurrences m kept ≤ 1
  kept_once m = omega (arith, fewer test (numbers_below (length core.mems)) m, below_once m (length core.mems))

  -- in the core, and in lanes
  pub in_core : numbers_of is 0 core.mems ≡ kept
  in_core =
      ap (numbers_of is 0) (sym (listed core.mems no_mem)) ∙ numbers_at is (mem core) 0 (numbers_below (length core.mems)) kept_once
      ∙ map_same (λ m. 0 + occurrence m 0 (numbers_below (length core.mems))) (λ m. occurrence m 0 (numbers_below (length core.mems))) kept (λ m i. omega arith)
      ∙ map_same (λ m. occurrence m 0 (numbers_below (length core.mems))) (λ m. m) kept (λ m i. below_place m (length core.mems) (passes test (numbers_below (length core.mems)) m i).1) ∙ map_self kept

  pub in_lanes : numbers_of is 0 (map (mem core) (memory_order core)) ≡ map (λ m. occurrence m 0 (memory_order core)) (numbers_of is 0 core.mems)
  in_lanes =
      numbers_at is (mem core) 0 (memory_order core) (λ m. subst (λ l. occurrences m l ≤ 1) (sym in_order) (kept_once m))
      ∙ map_same (λ m. 0 + occurrence m 0 (memory_order core)) (λ m. occurrence m 0 (memory_order core)) (filter test (memory_order core)) (λ m i. omega arith)
      ∙ ap (map (λ m. occurrence m 0 (memory_order core))) (in_order ∙ sym in_core)

  -- each is a port of the core
  pub each_port : (m : ℕ) → is_among m (numbers_of is 0 core.mems) ≡ true → (is_port core m ≡ true) × (is_among m (numbers_below (length core.mems)) ≡ true)
  each_port m i = let r = passes test (numbers_below (length core.mems)) m (ap (is_among m) (sym in_core) ∙ i) in (are (mem core m).kind r.0, r.1)
