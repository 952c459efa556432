-- Transfers, in a store whose words fit, between a DRAM and a memory of its type.
use Rattle.std.proofs.Common.{◌≡◌, ℕ, Bool, true, false, List, [], ◌∷◌, length, map, All, refl, sym, subst}
use Rattle.std.proofs.lemmas.List.Elements.{All-nil}
use Rattle.std.specs.Prelude.{nat_lt}
use Rattle.sp_words.specs.declared.kind.Kind.{Kind}
use Rattle.sp_words.specs.declared.kind.Kind.TheVariants.{Reg, Sram, Fifo, LineBuf, Dram, ArgIn, ArgOut}
use Rattle.sp_words.specs.Words.{IsWord}
use Rattle.sp_core.specs.Declarations.{mem, dram, kind_of, dims, dram_number}
use Rattle.sp_core.specs.Elements.{index_value, natural}
use Rattle.sp_core.specs.History.{Taken, History, moved}
use Rattle.sp_core.specs.PlainCore.{PlainCore}
use Rattle.sp_core.specs.Step.{Step, pure, ◌>>=◌, ◌>>◌, ensure, in_order}
use Rattle.sp_core.specs.Transfers.{Part, part_of, lengths, has_none, places_of, all_offsets, are_parts_inside, do_fit, range_limits, loaded_at, make_room, load_words, store_words, transfer, load_slice, store_slice, place_at, gather_word, scatter_word}
use Rattle.sp_core.specs.Typed.{is_type}
use Rattle.sp_fitting.specs.Fitting.{type_at, OfDram}
use Rattle.sp_fitting.proofs.Contents.{type_of_mem, type_of_dram, same_word, same_word_back}
use Rattle.sp_fitting.proofs.Keeping.{Keeps, Anything, bind_keeps, pure_keeps, then_keeps, ensure_keeps, each_keeps, read_keeps, write_keeps, turn_keeps}

module _ (core : PlainCore) where
  -- a DRAM and a memory of one type
  pub record AreAlike (r m : ℕ) : Type 0 where
    pub loads : (w : ℕ) → OfDram core r w → IsWord (type_at core m) w
    pub stores : (w : ℕ) → IsWord (type_at core m) w → OfDram core r w

  pub alike : (r m : ℕ) → nat_lt m (length core.mems) ≡ true → is_type (mem core m).ty (dram core r).ty ≡ true → AreAlike r m
  alike r m there same = record {
    loads = λ w h. subst (λ t. IsWord t w) (sym (type_of_mem core m there)) (same_word_back (mem core m).ty (dram core r).ty w same (subst (λ t. IsWord t w) (type_of_dram core r) h));
    stores = λ w h. subst (λ t. IsWord t w) (sym (type_of_dram core r)) (same_word (mem core m).ty (dram core r).ty w same (subst (λ t. IsWord t w) (type_of_mem core m there) h));
  }

  room_keeps : (kind : Kind) (m : ℕ) → Keeps core Anything (make_room core kind m)
  room_keeps LineBuf m = turn_keeps core m
  room_keeps Reg m = pure_keeps core _ _ tt
  room_keeps Sram m = pure_keeps core _ _ tt
  room_keeps Fifo m = pure_keeps core _ _ tt
  room_keeps Dram m = pure_keeps core _ _ tt
  room_keeps ArgIn m = pure_keeps core _ _ tt
  room_keeps ArgOut m = pure_keeps core _ _ tt

  module _ (r m : ℕ) (same : AreAlike r m) where
    words_loaded : (parts : List Part) → Keeps core (All (OfDram core r)) (load_words core r m parts)
    words_loaded parts = then_keeps core _ _ _ (room_keeps (kind_of core m) m) (λ u.
        each_keeps core _ (OfDram core r) (λ o. bind_keeps core _ _ (OfDram core r) _ (read_keeps core (dram_number core r) (places_of parts o))
        (λ w p. then_keeps core _ _ _ (write_keeps core m (loaded_at core (kind_of core m) m o) w (same.loads w p)) (λ v. pure_keeps core _ w p))) (all_offsets parts))

    words_stored : (parts : List Part) → Keeps core (All (OfDram core r)) (store_words core r m parts)
    words_stored parts =
        each_keeps core _ (OfDram core r) (λ o. bind_keeps core _ _ (IsWord (type_at core m)) _ (read_keeps core m o)
        (λ w p. then_keeps core _ _ _ (write_keeps core (dram_number core r) (places_of parts o) w (same.stores w p)) (λ v. pure_keeps core _ w (same.stores w p)))) (all_offsets parts)

    abbrev Moved : List Taken → History → Type 0
    Moved ts h = (ws : List ℕ) × (h ≡ moved ts ws) × All (OfDram core r) ws

    transferred : (ts : List Taken) (move : Step (List ℕ)) → Keeps core (All (OfDram core r)) move → Keeps core (Moved ts) (transfer core r m ts move)
    transferred ts move f = go (has_none (lengths (map part_of ts)))
      where
        go : (none : Bool) → Keeps core (Moved ts) (elim none as (λ _. Step History) [ true ↦ pure (moved ts []) | false ↦ ensure (are_parts_inside (dims core (dram_number core r)) (map part_of ts)) >> (ensure (do_fit (range_limits (kind_of core m) (dims core m)) (lengths (map part_of ts))) >> (move >>= (λ ws. pure (moved ts ws)))) ])
        go true = pure_keeps core _ _ ([], refl, All-nil (OfDram core r))
        go false = then_keeps core _ _ _ (ensure_keeps core _) (λ u. then_keeps core _ _ _ (ensure_keeps core _) (λ v. bind_keeps core _ _ (All (OfDram core r)) _ f (λ ws h. pure_keeps core _ _ (ws, refl, h))))

    pub slice_loaded : (ts : List Taken) → Keeps core (Moved ts) (load_slice core r m ts)
    slice_loaded ts = transferred ts _ (words_loaded (map part_of ts))

    pub slice_stored : (ts : List Taken) → Keeps core (Moved ts) (store_slice core r m ts)
    slice_stored ts = transferred ts _ (words_stored (map part_of ts))

    place_found : (p k : ℕ) → Keeps core (IsWord (type_at core p)) (place_at core r p k)
    place_found p k = then_keeps core _ _ _ (ensure_keeps core _) (λ u. bind_keeps core _ _ (IsWord (type_at core p)) _ (read_keeps core p (k ∷ [])) (λ i h. then_keeps core _ _ _ (ensure_keeps core _) (λ v. pure_keeps core _ i h)))

    abbrev pub Picked : ℕ → ℕ × ℕ → Type 0
    Picked p w = IsWord (type_at core p) w.0 × OfDram core r w.1

    word_gathered : (p k : ℕ) → Keeps core (Picked p) (gather_word core r m p k)
    word_gathered p k = bind_keeps core _ _ (IsWord (type_at core p)) _ (place_found p k) (λ i h.
        bind_keeps core _ _ (OfDram core r) _ (read_keeps core (dram_number core r) (natural (index_value i) ∷ [])) (λ w q.
        then_keeps core _ _ _ (ensure_keeps core _) (λ u. then_keeps core _ _ _ (write_keeps core m (k ∷ []) w (same.loads w q)) (λ v. pure_keeps core _ (i, w) (h, q)))))

    word_scattered : (p k : ℕ) → Keeps core (Picked p) (scatter_word core r m p k)
    word_scattered p k = bind_keeps core _ _ (IsWord (type_at core p)) _ (place_found p k) (λ i h.
        then_keeps core _ _ _ (ensure_keeps core _) (λ u. bind_keeps core _ _ (IsWord (type_at core m)) _ (read_keeps core m (k ∷ [])) (λ w q.
        then_keeps core _ _ _ (write_keeps core (dram_number core r) (natural (index_value i) ∷ []) w (same.stores w q)) (λ v. pure_keeps core _ (i, w) (h, same.stores w q)))))

    pub all_gathered : (p : ℕ) (ks : List ℕ) → Keeps core (All (Picked p)) (in_order (gather_word core r m p) ks)
    all_gathered p ks = each_keeps core _ (Picked p) (word_gathered p) ks

    pub all_scattered : (p : ℕ) (ks : List ℕ) → Keeps core (All (Picked p)) (in_order (scatter_word core r m p) ks)
    all_scattered p ks = each_keeps core _ (Picked p) (word_scattered p) ks
