-- Copies hold as many words as their memories.
use Rattle.std.proofs.Common.{◌≡◌, ℕ, zero, suc, ◌+◌, ◌*◌, ◌<◌, ◌≤◌, true, false, cond, not, List, [], refl, sym, ◌∙◌, ap, subst, arith, ◌⊎◌, inl, inr, ◌==◌}
use Rattle.std.proofs.lemmas.Bool.{eq-eqb}
use Rattle.std.proofs.lemmas.Bool.Decides.{eqb_tells}
use Rattle.std.specs.Prelude.{max}
use Rattle.sp_words.specs.Interface.{word_count}
use Rattle.sp_core.specs.Around.{nothing}
use Rattle.sp_core.specs.Declarations.{is_stream, streamed, is_among, depth, room}
use Rattle.sp_core.specs.Invariant.{owned_in}
use Rattle.sp_core.specs.NodeRules.{is_owned_once}
use Rattle.sp_core.specs.PlainCore.{PlainMem, PlainCore}
use Rattle.sp_lanes.specs.Order.{memory_order, occurrence}
use Rattle.sp_lanes.specs.Unrolled.{unrolled}
use Rattle.sp_lanes.specs.Within.{outside}
use Rattle.sp_lane_rules.specs.Copies.{one_if, occurrences, copies_in, OwnsInLanes}
use Rattle.sp_lane_rules.proofs.CopiesCounts.{are_counted}
use Rattle.sp_lane_rules.proofs.CopiesFound.{are_apart, are_declared}
use Rattle.sp_lane_rules.proofs.CopiesMemoryRules.{node_once}
use Rattle.sp_lane_rules.proofs.CopiesOwned.{have_owners, once_most, once_valid}
use Rattle.sp_lane_rules.proofs.CopiesOwners.{among_count}
use Rattle.sp_lane_groups.specs.RoomLaws.{CopiesHaveRoom, PlacesHaveRoom}
use Rattle.sp_lane_groups.proofs.RoomPicked.{picked, streamed_is, others_than, both_count, none_among}
use Rattle.sp_lane_groups.proofs.RoomStreamed.{node_none}

zero_or_more : (n : ℕ) → (n ≡ 0) ⊎ (1 ≤ n)
zero_or_more zero = inl refl
zero_or_more (suc n) = inr (omega arith)

-- a number is that of one copy
tells_copy : (order : List ℕ) (m k : ℕ) → k < occurrences m order → (x j : ℕ) → j < occurrences x order
    → one_if (occurrence x j order == occurrence m k order) ≡ one_if (x == m) * one_if (j == k)
tells_copy order m k l x j h = elim (eqb_tells (occurrence x j order) (occurrence m k order)) [
  | inl same ↦ let a = are_apart order x j m k h l same.1 in
      let e : one_if (occurrence x j order == occurrence m k order) ≡ 1 = ap one_if same.0 in
      let f : one_if (x == m) ≡ 1 = ap one_if (eq-eqb x m a.0) in let g : one_if (j == k) ≡ 1 = ap one_if (eq-eqb j k a.1) in
      e ∙ sym (ap (λ n. n * one_if (j == k)) f ∙ omega (arith, g))
  | inr apart ↦ let e : one_if (occurrence x j order == occurrence m k order) ≡ 0 = ap one_if apart.0 in e ∙ sym (either apart.1)
]
  where
    either : (occurrence x j order ≡ occurrence m k order → ⊥) → one_if (x == m) * one_if (j == k) ≡ 0
    either ne = elim (eqb_tells x m) [
      | inr a ↦ ap (λ n. one_if n * one_if (j == k)) a.0 ∙ omega arith
      | inl s ↦ elim (eqb_tells j k) [
        | inr b ↦ ap (λ n. one_if (x == m) * one_if n) b.0 ∙ omega arith
        | inl t ↦ absurd (ne (ap (λ y. occurrence y j order) s.1 ∙ ap (λ y. occurrence m y order) t.1))
      ]
    ]

module _ (core : PlainCore) (once : is_owned_once core [] (owned_in core.root) ≡ true) (lanes : OwnsInLanes core.root) (m k : ℕ) (l : k < occurrences m (memory_order core)) where
  fits : (n : ℕ) → (0 + 1) * copies_in core.root n ≤ occurrences n (memory_order core)
  fits n = omega (arith, are_counted core n)

  -- it joins stages of a `Stream` block exactly where its memory does
  alike : is_among (occurrence m k (memory_order core)) (streamed (unrolled core).root) ≡ is_among m (streamed core.root)
  unfolding unrolled
  alike = elim (zero_or_more (occurrences m (picked is_stream false core.root))) [
    | inl none ↦
        let there : occurrences (occurrence m k (memory_order core)) (picked is_stream false (unrolled core).root) ≡ 0 =
        node_none (memory_order core) (occurrence m k (memory_order core)) m k (tells_copy (memory_order core) m k l) is_stream false core.root (outside (memory_order core)) lanes fits none in
        ap (is_among (occurrence m k (memory_order core))) (streamed_is (unrolled core).root) ∙ none_among (occurrence m k (memory_order core)) (picked is_stream false (unrolled core).root) there
        ∙ sym (ap (is_among m) (streamed_is core.root) ∙ none_among m (picked is_stream false core.root) none)
    | inr some ↦
        let most : occurrences m (owned_in core.root) ≤ 1 = once_most core [] (owned_in core.root) m once in
        let others : occurrences m (picked (others_than is_stream) true core.root) ≡ 0 = omega (arith, both_count m is_stream false core.root, most, some) in
        let there : occurrences (occurrence m k (memory_order core)) (picked (others_than is_stream) true (unrolled core).root) ≡ 0 =
        node_none (memory_order core) (occurrence m k (memory_order core)) m k (tells_copy (memory_order core) m k l) (others_than is_stream) true core.root (outside (memory_order core)) lanes fits others in
        let no_port = (once_valid core [] (owned_in core.root) m once (omega (arith, both_count m is_stream false core.root, some))).1 in
        let owner : occurrences (occurrence m k (memory_order core)) (owned_in (unrolled core).root) ≡ 1 = (have_owners core once lanes).0 m k l ∙ ap (λ b. one_if (not b)) no_port in
        ap (is_among (occurrence m k (memory_order core))) (streamed_is (unrolled core).root)
        ∙ among_count (occurrence m k (memory_order core)) (picked is_stream false (unrolled core).root) (omega (arith, owner, there, both_count (occurrence m k (memory_order core)) is_stream false (unrolled core).root))
        ∙ sym (ap (is_among m) (streamed_is core.root) ∙ among_count m (picked is_stream false core.root) some)
  ]

pub have_room : (core : PlainCore) → CopiesHaveRoom core
have_room core once lanes m k l =
    let n = occurrence m k (memory_order core) in
    let depths : depth (unrolled core) n ≡ depth core m = ap (λ (x : PlainMem). word_count x.dims) ((are_declared core).0 m k l).1 in
    ap (λ b. cond b (max (depth (unrolled core) n) 65536) (depth (unrolled core) n)) (alike core once lanes m k l)
    ∙ ap (λ d. cond (is_among m (streamed core.root)) (max d 65536) d) depths

pub places_room : (core : PlainCore) → PlacesHaveRoom core
places_room core is lanes around w copies m usable =
    let c = copies m usable in
    subst (λ n. room (unrolled core) n ≡ room core m) c.2 (have_room core (node_once core core.root nothing [] is.nodes) lanes m c.0 c.1)
