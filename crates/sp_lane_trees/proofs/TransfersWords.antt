-- The words that a transfer moves, in lanes.
use Rattle.std.proofs.Common.{◌≡◌, ℕ, ◌-◌, true, List, [], ◌∷◌, map, refl, sym, ◌∙◌, ap, subst}
use Rattle.std.specs.Prelude.{pos, slice_index}
use Rattle.sp_words.specs.declared.kind.Kind.{Kind}
use Rattle.sp_words.specs.declared.kind.Kind.TheVariants.{LineBuf}
use Rattle.sp_core.specs.Accesses.{word_in, with_word, with_new_row, written, read_in, write_in, turn_rows}
use Rattle.sp_core.specs.Around.{Around, is_usable}
use Rattle.sp_core.specs.Declarations.{kind_of, dims, dram_number}
use Rattle.sp_core.specs.Elements.{index_value, natural, are_inside}
use Rattle.sp_core.specs.History.{Taken, History, moved}
use Rattle.sp_core.specs.PlainCore.{PlainCore}
use Rattle.sp_core.specs.Step.{Step, pure, ◌>>=◌, ◌>>◌, ensure, look, in_order}
use Rattle.sp_core.specs.Transfers.{Part, part_of, lengths, has_none, are_parts_inside, do_fit, places_of, all_offsets, range_limits, loaded_at, make_room, load_words, store_words, transfer, load_slice, store_slice, has_place, place_at, gather_word, scatter_word}
use Rattle.sp_lanes.specs.Unrolled.{unrolled}
use Rattle.sp_lanes.specs.Within.{Within}
use Rattle.sp_lane_rules.specs.UnrolledPlaces.{GoTogether}
use Rattle.sp_lane_groups.specs.LiveStores.{AreCopies}
use Rattle.sp_lane_groups.proofs.LiveAlong.{Along, bind_along, look_along, change_along, written_along}
use Rattle.sp_lane_trees.proofs.TransfersMoving.{Alike, dram_alike, Moves, pure_moves, ensure_moves, bind_moves, order_moves, choice_moves, memory_moves, dram_moves}

-- a word that is read, one that is written, and rows that turn
module _ (core lanes : PlainCore) (m n : ℕ) (s : Alike core lanes m n) where
  read_along : (is : List ℕ) → Along m n ℕ (read_in core m is) (read_in lanes n is)
  read_along is = bind_along m n (look (λ u. word_in (kind_of core m) (dims core m) is (u m))) (look (λ u. word_in (kind_of lanes n) (dims lanes n) is (u n))) written written
      (look_along m n (λ u. word_in (kind_of core m) (dims core m) is (u m)) (λ u. word_in (kind_of lanes n) (dims lanes n) is (u n))
      (λ u v h. ap (λ k. word_in k (dims lanes n) is (v n)) s.kinds ∙ ap (λ d. word_in (kind_of core m) d is (v n)) s.sizes ∙ ap (word_in (kind_of core m) (dims core m) is) h))
      (λ o. written_along m n o)

  write_along : (is : List ℕ) (w : ℕ) → Along m n (Unit {0}) (write_in core m is w) (write_in lanes n is w)
  write_along is w = change_along m n (λ c. with_word (kind_of core m) (dims core m) is w c) (λ c. with_word (kind_of lanes n) (dims lanes n) is w c)
      (λ c. ap (λ k. with_word k (dims lanes n) is w c) s.kinds ∙ ap (λ d. with_word (kind_of core m) d is w c) s.sizes)

  turn_along : Along m n (Unit {0}) (turn_rows core m) (turn_rows lanes n)
  turn_along = change_along m n (λ c. with_new_row (dims core m) c) (λ c. with_new_row (dims lanes n) c) (λ c. ap (λ d. with_new_row d c) s.sizes)

module _ (core : PlainCore) (around inside : Around) (w : Within) (together : GoTogether core (unrolled core) around inside w) (copies : AreCopies core around w) where
  abbrev pub Go : {A : Type 0} → Step A → Step A → Type 0
  Go one two = Moves core around inside w together copies one two

  module _ (r : ℕ) where
    abbrev here : ℕ
    here = dram_number core r

    abbrev there : ℕ
    there = dram_number (unrolled core) r

    from_dram : (is : List ℕ) → Go (read_in core here is) (read_in (unrolled core) there is)
    from_dram is = dram_moves core around inside w together copies r (read_in core here is) (read_in (unrolled core) there is) (read_along core (unrolled core) here there (dram_alike core r) is)

    to_dram : (is : List ℕ) (x : ℕ) → Go (write_in core here is x) (write_in (unrolled core) there is x)
    to_dram is x = dram_moves core around inside w together copies r (write_in core here is x) (write_in (unrolled core) there is x) (write_along core (unrolled core) here there (dram_alike core r) is x)

    module _ (m : ℕ) (u : is_usable core around m ≡ true) (alike : Alike core (unrolled core) m (w.number m)) where
      abbrev n : ℕ
      n = w.number m

      reads : (is : List ℕ) → Go (read_in core m is) (read_in (unrolled core) n is)
      reads is = memory_moves core around inside w together copies m u (read_in core m is) (read_in (unrolled core) n is) (read_along core (unrolled core) m n alike is)

      writes : (is too : List ℕ) (x : ℕ) → too ≡ is → Go (write_in core m is x) (write_in (unrolled core) n too x)
      writes is too x e =
          subst (λ l. Go (write_in core m is x) (write_in (unrolled core) n l x)) (sym e)
          (memory_moves core around inside w together copies m u (write_in core m is x) (write_in (unrolled core) n is x) (write_along core (unrolled core) m n alike is x))

      -- where the words go, and the rows of a line buffer
      goes_same : (k : Kind) (offsets : List ℕ) → loaded_at (unrolled core) k n offsets ≡ loaded_at core k m offsets
      goes_same LineBuf offsets = ap (λ d. (slice_index d 0 - 1) ∷ slice_index offsets 0 ∷ []) alike.sizes
      goes_same _ offsets = refl

      at_same : (offsets : List ℕ) → loaded_at (unrolled core) (kind_of (unrolled core) n) n offsets ≡ loaded_at core (kind_of core m) m offsets
      at_same offsets = ap (λ k. loaded_at (unrolled core) k n offsets) alike.kinds ∙ goes_same (kind_of core m) offsets

      makes_room : (k : Kind) → Go (make_room core k m) (make_room (unrolled core) k n)
      makes_room LineBuf = memory_moves core around inside w together copies m u (turn_rows core m) (turn_rows (unrolled core) n) (turn_along core (unrolled core) m n alike)
      makes_room _ = pure_moves core around inside w together copies tt

      room_made : Go (make_room core (kind_of core m) m) (make_room (unrolled core) (kind_of (unrolled core) n) n)
      room_made = subst (λ k. Go (make_room core (kind_of core m) m) (make_room (unrolled core) k n)) (sym alike.kinds) (makes_room (kind_of core m))

      -- one word after the other
      load_one : (parts : List Part) (offsets : List ℕ)
          → Go (read_in core here (places_of parts offsets) >>= (λ x. write_in core m (loaded_at core (kind_of core m) m offsets) x >> pure x))
          (read_in (unrolled core) there (places_of parts offsets) >>= (λ x. write_in (unrolled core) n (loaded_at (unrolled core) (kind_of (unrolled core) n) n offsets) x >> pure x))
      load_one parts offsets =
          bind_moves core around inside w together copies (read_in core here (places_of parts offsets)) (read_in (unrolled core) there (places_of parts offsets))
          (λ x. write_in core m (loaded_at core (kind_of core m) m offsets) x >> pure x) (λ x. write_in (unrolled core) n (loaded_at (unrolled core) (kind_of (unrolled core) n) n offsets) x >> pure x)
          (from_dram (places_of parts offsets))
          (λ x. bind_moves core around inside w together copies (write_in core m (loaded_at core (kind_of core m) m offsets) x) (write_in (unrolled core) n (loaded_at (unrolled core) (kind_of (unrolled core) n) n offsets) x) (λ _. pure x) (λ _. pure x)
          (writes (loaded_at core (kind_of core m) m offsets) (loaded_at (unrolled core) (kind_of (unrolled core) n) n offsets) x (at_same offsets)) (λ _. pure_moves core around inside w together copies x))

      load_moves : (parts : List Part) → Go (load_words core r m parts) (load_words (unrolled core) r n parts)
      load_moves parts =
          let one : List ℕ → Step ℕ = λ offsets. read_in core here (places_of parts offsets) >>= (λ x. write_in core m (loaded_at core (kind_of core m) m offsets) x >> pure x) in
          let two : List ℕ → Step ℕ = λ offsets. read_in (unrolled core) there (places_of parts offsets) >>= (λ x. write_in (unrolled core) n (loaded_at (unrolled core) (kind_of (unrolled core) n) n offsets) x >> pure x) in
          bind_moves core around inside w together copies (make_room core (kind_of core m) m) (make_room (unrolled core) (kind_of (unrolled core) n) n) (λ _. in_order one (all_offsets parts)) (λ _. in_order two (all_offsets parts)) room_made
          (λ _. order_moves core around inside w together copies one two (load_one parts) (all_offsets parts))

      store_one : (parts : List Part) (offsets : List ℕ)
          → Go (read_in core m offsets >>= (λ x. write_in core here (places_of parts offsets) x >> pure x)) (read_in (unrolled core) n offsets >>= (λ x. write_in (unrolled core) there (places_of parts offsets) x >> pure x))
      store_one parts offsets =
          bind_moves core around inside w together copies (read_in core m offsets) (read_in (unrolled core) n offsets)
          (λ x. write_in core here (places_of parts offsets) x >> pure x) (λ x. write_in (unrolled core) there (places_of parts offsets) x >> pure x) (reads offsets)
          (λ x. bind_moves core around inside w together copies (write_in core here (places_of parts offsets) x) (write_in (unrolled core) there (places_of parts offsets) x) (λ _. pure x) (λ _. pure x)
          (to_dram (places_of parts offsets) x) (λ _. pure_moves core around inside w together copies x))

      store_moves : (parts : List Part) → Go (store_words core r m parts) (store_words (unrolled core) r n parts)
      store_moves parts =
          order_moves core around inside w together copies (λ offsets. read_in core m offsets >>= (λ x. write_in core here (places_of parts offsets) x >> pure x))
          (λ offsets. read_in (unrolled core) n offsets >>= (λ x. write_in (unrolled core) there (places_of parts offsets) x >> pure x)) (store_one parts) (all_offsets parts)

      -- a slice
      transfer_moves : (taken : List Taken) (one two : Step (List ℕ)) → Go one two → Go (transfer core r m taken one) (transfer (unrolled core) r n taken two)
      transfer_moves taken one two go =
          let parts : List Part = map part_of taken in
          let end : List ℕ → Step History = λ ws. pure (moved taken ws) in
          let fits_here : Step (Unit {0}) = ensure (do_fit (range_limits (kind_of core m) (dims core m)) (lengths parts)) in
          let fits_there : Step (Unit {0}) = ensure (do_fit (range_limits (kind_of (unrolled core) n) (dims (unrolled core) n)) (lengths parts)) in
          choice_moves core around inside w together copies (has_none (lengths parts)) (pure (moved taken []))
          (ensure (are_parts_inside (dims core here) parts) >> (fits_here >> (one >>= end))) (pure (moved taken [])) (ensure (are_parts_inside (dims (unrolled core) there) parts) >> (fits_there >> (two >>= end)))
          (pure_moves core around inside w together copies (moved taken []))
          (bind_moves core around inside w together copies (ensure (are_parts_inside (dims core here) parts)) (ensure (are_parts_inside (dims (unrolled core) there) parts)) (λ _. fits_here >> (one >>= end)) (λ _. fits_there >> (two >>= end))
          (ensure_moves core around inside w together copies (are_parts_inside (dims core here) parts) (are_parts_inside (dims (unrolled core) there) parts) (ap (λ d. are_parts_inside d parts) (dram_alike core r).sizes))
          (λ _. bind_moves core around inside w together copies fits_here fits_there (λ _. one >>= end) (λ _. two >>= end)
          (ensure_moves core around inside w together copies _ _
          (ap (λ k. do_fit (range_limits k (dims (unrolled core) n)) (lengths parts)) alike.kinds ∙ ap (λ d. do_fit (range_limits (kind_of core m) d) (lengths parts)) alike.sizes))
          (λ _. bind_moves core around inside w together copies one two end end go (λ ws. pure_moves core around inside w together copies (moved taken ws)))))

      pub load_slices : (taken : List Taken) → Go (load_slice core r m taken) (load_slice (unrolled core) r n taken)
      load_slices taken = transfer_moves taken (load_words core r m (map part_of taken)) (load_words (unrolled core) r n (map part_of taken)) (load_moves (map part_of taken))

      pub store_slices : (taken : List Taken) → Go (store_slice core r m taken) (store_slice (unrolled core) r n taken)
      store_slices taken = transfer_moves taken (store_words core r m (map part_of taken)) (store_words (unrolled core) r n (map part_of taken)) (store_moves (map part_of taken))

      -- a memory has a place k
      places : (k : ℕ) → Go (has_place core m k) (has_place (unrolled core) n k)
      places k = ensure_moves core around inside w together copies (are_inside (dims core m) (pos k ∷ [])) (are_inside (dims (unrolled core) n) (pos k ∷ [])) (ap (λ d. are_inside d (pos k ∷ [])) alike.sizes)

      inside_dram : (i : ℕ) → Go (ensure (are_inside (dims core here) (index_value i ∷ []))) (ensure (are_inside (dims (unrolled core) there) (index_value i ∷ [])))
      inside_dram i = ensure_moves core around inside w together copies (are_inside (dims core here) (index_value i ∷ [])) (are_inside (dims (unrolled core) there) (index_value i ∷ [])) (ap (λ d. are_inside d (index_value i ∷ [])) (dram_alike core r).sizes)

      -- a place that stands in this memory
      places_at : (k : ℕ) → Go (place_at core r m k) (place_at (unrolled core) r n k)
      places_at k =
          let end : ℕ → Step ℕ = λ i. ensure (are_inside (dims core here) (index_value i ∷ [])) >> pure i in
          let end_too : ℕ → Step ℕ = λ i. ensure (are_inside (dims (unrolled core) there) (index_value i ∷ [])) >> pure i in
          bind_moves core around inside w together copies (has_place core m k) (has_place (unrolled core) n k) (λ _. read_in core m (k ∷ []) >>= end) (λ _. read_in (unrolled core) n (k ∷ []) >>= end_too) (places k)
          (λ _. bind_moves core around inside w together copies (read_in core m (k ∷ [])) (read_in (unrolled core) n (k ∷ [])) end end_too (reads (k ∷ []))
          (λ i. bind_moves core around inside w together copies (ensure (are_inside (dims core here) (index_value i ∷ []))) (ensure (are_inside (dims (unrolled core) there) (index_value i ∷ []))) (λ _. pure i) (λ _. pure i)
          (inside_dram i) (λ _. pure_moves core around inside w together copies i)))

    -- words at places
    module _ (m p : ℕ) (u : is_usable core around m ≡ true) (v : is_usable core around p ≡ true) (alike : Alike core (unrolled core) m (w.number m)) (alike_places : Alike core (unrolled core) p (w.number p)) where
      pub gathers : (k : ℕ) → Go (gather_word core r m p k) (gather_word (unrolled core) r (w.number m) (w.number p) k)
      gathers k =
          let last : ℕ → ℕ → Step (ℕ × ℕ) = λ i x. write_in core m (k ∷ []) x >> pure (i, x) in
          let last_too : ℕ → ℕ → Step (ℕ × ℕ) = λ i x. write_in (unrolled core) (w.number m) (k ∷ []) x >> pure (i, x) in
          let second : ℕ → ℕ → Step (ℕ × ℕ) = λ i x. has_place core m k >> last i x in
          let second_too : ℕ → ℕ → Step (ℕ × ℕ) = λ i x. has_place (unrolled core) (w.number m) k >> last_too i x in
          bind_moves core around inside w together copies (place_at core r p k) (place_at (unrolled core) r (w.number p) k)
          (λ i. read_in core here (natural (index_value i) ∷ []) >>= second i) (λ i. read_in (unrolled core) there (natural (index_value i) ∷ []) >>= second_too i) (places_at p v alike_places k)
          (λ i. bind_moves core around inside w together copies (read_in core here (natural (index_value i) ∷ [])) (read_in (unrolled core) there (natural (index_value i) ∷ [])) (second i) (second_too i) (from_dram (natural (index_value i) ∷ []))
          (λ x. bind_moves core around inside w together copies (has_place core m k) (has_place (unrolled core) (w.number m) k) (λ _. last i x) (λ _. last_too i x) (places m u alike k)
          (λ _. bind_moves core around inside w together copies (write_in core m (k ∷ []) x) (write_in (unrolled core) (w.number m) (k ∷ []) x) (λ _. pure (i, x)) (λ _. pure (i, x)) (writes m u alike (k ∷ []) (k ∷ []) x refl)
          (λ _. pure_moves core around inside w together copies (i, x)))))

      pub scatters : (k : ℕ) → Go (scatter_word core r m p k) (scatter_word (unrolled core) r (w.number m) (w.number p) k)
      scatters k =
          let last : ℕ → ℕ → Step (ℕ × ℕ) = λ i x. write_in core here (natural (index_value i) ∷ []) x >> pure (i, x) in
          let last_too : ℕ → ℕ → Step (ℕ × ℕ) = λ i x. write_in (unrolled core) there (natural (index_value i) ∷ []) x >> pure (i, x) in
          bind_moves core around inside w together copies (place_at core r p k) (place_at (unrolled core) r (w.number p) k)
          (λ i. has_place core m k >> (read_in core m (k ∷ []) >>= last i)) (λ i. has_place (unrolled core) (w.number m) k >> (read_in (unrolled core) (w.number m) (k ∷ []) >>= last_too i)) (places_at p v alike_places k)
          (λ i. bind_moves core around inside w together copies (has_place core m k) (has_place (unrolled core) (w.number m) k) (λ _. read_in core m (k ∷ []) >>= last i) (λ _. read_in (unrolled core) (w.number m) (k ∷ []) >>= last_too i) (places m u alike k)
          (λ _. bind_moves core around inside w together copies (read_in core m (k ∷ [])) (read_in (unrolled core) (w.number m) (k ∷ [])) (last i) (last_too i) (reads m u alike (k ∷ []))
          (λ x. bind_moves core around inside w together copies (write_in core here (natural (index_value i) ∷ []) x) (write_in (unrolled core) there (natural (index_value i) ∷ []) x) (λ _. pure (i, x)) (λ _. pure (i, x)) (to_dram (natural (index_value i) ∷ []) x)
          (λ _. pure_moves core around inside w together copies (i, x)))))
