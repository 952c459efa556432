-- The loads of a core in a run: where what they read is found in the DRAMs, they go as the timeline says, and their writes act in time.
use Rattle.std.proofs.Common.{◌≡◌, ℕ, zero, suc, ◌+◌, ◌-◌, ◌<◌, List, [], ◌∷◌, ◌++◌, take, length, slice_index, slice_index_or, Option, None, refl, sym, ap, subst, ◌∙◌, arith}
use Rattle.std.proofs.lemmas.List.{length_push}
use Rattle.std.specs.List.{Contains}
use Rattle.sp_words.specs.declared.kind.Kind.{Kind}
use Rattle.sp_words.specs.declared.kind.Kind.TheVariants.{Sram, LineBuf}
use Rattle.sp_netlist.specs.declared.parts.Child.{Child}
use Rattle.sp_netlist.specs.Signals.{Setting, Signals}
use Rattle.sp_core.specs.declared.operation.OpKind.TheVariants.{Write}
use Rattle.sp_core.specs.Declarations.{kind_of}
use Rattle.sp_core.specs.Events.{writes, Event}
use Rattle.sp_core.specs.Numbering.{spans_size}
use Rattle.sp_core.specs.PlainCore.{PlainSpan, load, PlainCore}
use Rattle.sp_core.specs.Transfers.{loaded_at}
use Rattle.sp_plan.specs.PlainPlan.{PlainPlan}
use Rattle.sp_machine.specs.Stamps.{Stamped}
use Rattle.sp_machine.specs.Transfers.{Delays}
use Rattle.sp_part_runs.specs.ActsEntries.{index_words, word_that_changes}
use Rattle.sp_node_runs.specs.RunsTold.{all_events}
use Rattle.sp_node_runs.specs.BodiesGiven.{Nets}
use Rattle.sp_node_runs.specs.BodiesSpans.{SpanNets}
use Rattle.sp_node_runs.specs.BodiesTold.{Happens, SomeHappens}
use Rattle.sp_tree_events.specs.PartsAgreeing.{Agree, AgreeIn}
use Rattle.sp_tree_events.specs.ToldItems.{transfer, NodeHas}
use Rattle.sp_tree_events.specs.ToldLaws.{IsMoved}
use Rattle.sp_tree_runs.specs.BodiesScoped.{Scoped, placed}
use Rattle.sp_tree_circuits.specs.Circuits.{Circuit}
use Rattle.sp_transfer_runs.specs.Told.{WritesInTime}
use Rattle.sp_transfer_trees.specs.Trees.{TransferGoes}
use Rattle.sp_memory_words.specs.Answers.{NamesCopies}
use Rattle.sp_bank_words.specs.Accesses.{writes_in}
use Rattle.sp_access_nets.specs.declared.access.AccessNets.{AccessNets}
use Rattle.sp_access_nets.specs.Accesses.{copy_in}
use Rattle.sp_tree_handed.specs.declared.moves.Direction.TheVariants.{Load}
use Rattle.sp_dram_words.specs.Moves.{loads, NodeMoves, MovesAreItems}
use Rattle.sp_memory_nets.specs.ArrayKinds.{IsEmitted}
use Rattle.sp_stored_cores.specs.ArrayLoads.{LoadsInTime, LoadsWriteInWhole}
use Rattle.sp_stored_cores.specs.Loads.{Channel, took_by, IsLoadWrite, LoadStands, LoadsAre}
use Rattle.sp_stored_cores.proofs.Acting.{TransferActs}
use Rattle.sp_stored_cores.proofs.Moves.{Placed, HasSuch, by_access, by_number}

-- all but the last word, and the last one, of words with one more behind
all_at : (ws : List ℕ) (w n : ℕ) → n ≡ length ws → take n (ws ++ w ∷ []) ≡ ws
all_at [] w zero e = refl
all_at [] w (suc n) e = absurd (omega (arith, e))
all_at (x ∷ ws) w zero e = absurd (omega (arith, e))
all_at (x ∷ ws) w (suc n) e = ap (λ zs. x ∷ zs) (all_at ws w n (omega (arith, e)))

last_at : (ws : List ℕ) (w n : ℕ) → n ≡ length ws → slice_index (ws ++ w ∷ []) n ≡ w
last_at [] w zero e = refl
last_at [] w (suc n) e = absurd (omega (arith, e))
last_at (x ∷ ws) w zero e = absurd (omega (arith, e))
last_at (x ∷ ws) w (suc n) e = last_at ws w n (omega (arith, e))

before_last : (ws : List ℕ) (w : ℕ) → length (ws ++ w ∷ []) - 1 ≡ length ws
before_last ws w = let l = length_push ws w in omega (arith, l)

all_but_last : (ws : List ℕ) (w : ℕ) → take (length (ws ++ w ∷ []) - 1) (ws ++ w ∷ []) ≡ ws
all_but_last ws w = all_at ws w (length (ws ++ w ∷ []) - 1) (before_last ws w)

last_one : (ws : List ℕ) (w : ℕ) → slice_index (ws ++ w ∷ []) (length (ws ++ w ∷ []) - 1) ≡ w
last_one ws w = last_at ws w (length (ws ++ w ∷ []) - 1) (before_last ws w)

some_words : (ws : List ℕ) (w : ℕ) → 0 < length (ws ++ w ∷ [])
some_words [] w = omega arith
some_words (x ∷ ws) w = omega arith

-- a memory that is filled and has a circuit is an SRAM
pub is_sram : (k : Kind) → IsMoved k → IsEmitted k → k ≡ Sram
is_sram Sram m e = refl
is_sram LineBuf m e = absurd e
is_sram k m e = absurd m

-- what happens is like itself
pub of_itself : (whole : List Stamped) (low high : ℕ) → AgreeIn whole whole low high
of_itself whole low high n a b = record {
  into = λ t e h. (e, h, record { mem = refl; indices = refl; act = refl }, refl);
  back = λ t e h. (e, h, record { mem = refl; indices = refl; act = refl }, refl);
}

module _ (core : PlainCore) (plan : PlainPlan) (delays : Delays) (g : Setting) (s : Signals) (channels : (node : ℕ) → Channel) (bound : ℕ) (copies : List (Option ℕ)) (whole : List Stamped) where
  abbrev Stands : (r m : ℕ) (spans : List PlainSpan) (k n : ℕ) → List Scoped → Child → List SpanNets → AccessNets → Type 0
  Stands = LoadStands core g s channels bound copies

  -- what is known of a load before anything goes: what happens at its number in its runs is what happens in the whole
  pub record LoadKnown (r m : ℕ) (spans : List PlainSpan) (k n : ℕ) (qs : List Scoped) (c : Child) (nets : List SpanNets) (a : AccessNets) : Type 0 where
    pub stands : Stands r m spans k n qs c nets a
    pub agrees : Agree whole (all_events core plan delays (load r m spans) k n (placed qs)) (n + spans_size spans)

  -- and it stands in the core
  abbrev pub LoadPlaced : (r m : ℕ) (spans : List PlainSpan) (k n : ℕ) → List Scoped → Child → List SpanNets → AccessNets → Type 0
  LoadPlaced = Placed core plan delays s Load LoadKnown (NodeMoves core.root 0)

  -- it goes as the timeline says, up to a cycle
  pub record LoadGoing (t : ℕ) (r m : ℕ) (spans : List PlainSpan) (k n : ℕ) (qs : List Scoped) (c : Child) (nets : List SpanNets) (a : AccessNets) : Type 0 where
    pub place : LoadPlaced r m spans k n qs c nets a
    pub goes : TransferGoes core plan delays g s bound t (took_by g s channels bound) (load r m spans) k n qs c nets

  -- what it does, up to a cycle
  pub record LoadActs (t : ℕ) (r m : ℕ) (spans : List PlainSpan) (k n : ℕ) (qs : List Scoped) (c : Child) (nets : List SpanNets) (a : AccessNets) : Type 0 where
    pub place : LoadPlaced r m spans k n qs c nets a
    pub goes : TransferGoes core plan delays g s bound t (took_by g s channels bound) (load r m spans) k n qs c nets
    pub acts : TransferActs core plan delays s whole t (load r m spans) k n qs c nets

  -- its access
  module _ (r m : ℕ) (spans : List PlainSpan) (k n : ℕ) (qs : List Scoped) (c : Child) (nets : List SpanNets) (a : AccessNets) (p : LoadPlaced r m spans k n qs c nets a) where
    access : IsLoadWrite (n + spans_size spans) m (copy_in copies (n + spans_size spans)) p.is.stands.has.part p.is.stands.has.nets a
    access = p.is.stands.write

    pub number_stands : MovesAreItems core.root → NodeHas core.root 0 a.number (transfer r a.mem)
    number_stands items = subst (λ y. NodeHas core.root 0 a.number (transfer r y)) (sym access.mem_is) (subst (λ x. NodeHas core.root 0 x (transfer r m)) (sym access.number_is) (items.load_is 0 (n + spans_size spans) r m p.item))

    pub indices_are : index_words Write a.operands.items ≡ p.is.stands.has.nets.indices.items
    indices_are = ap (λ ws. index_words Write ws) access.operands ∙ all_but_last p.is.stands.has.nets.indices.items p.is.stands.has.part.port.word

    pub word_is : word_that_changes Write a.operands.items ≡ p.is.stands.has.part.port.word
    word_is = ap (λ ws. word_that_changes Write ws) access.operands ∙ last_one p.is.stands.has.nets.indices.items p.is.stands.has.part.port.word

    pub some_operands : 0 < length a.operands.items
    some_operands = subst (λ ws. 0 < length ws) (sym access.operands) (some_words p.is.stands.has.nets.indices.items p.is.stands.has.part.port.word)

  -- the writes of the loads act in time
  module _ (t : ℕ) (env : Nets) (c : Child) (w : Circuit core plan s core.root [] env 0 c) (qs : List Scoped) (loading : List AccessNets) (h : LoadsAre core plan delays s (LoadActs t) core.root [] env 0 0 qs c w loading) (items : MovesAreItems core.root)
      (moved : (x r m : ℕ) → NodeHas core.root 0 x (transfer r m) → IsMoved (kind_of core m)) (emitted : (m : ℕ) → m < length core.mems → IsEmitted (kind_of core m))
      (by_load : (m n dram u : ℕ) → kind_of core m ≡ Sram → NodeHas core.root 0 n (transfer dram m) → SomeHappens (writes_in m whole) n u → NodeMoves core.root 0 n (loads dram m))
      (stays : (x r m u v : ℕ) (e : Event) → NodeMoves core.root 0 x (loads r m) → Happens whole x u e → e.act ≡ writes v → e.mem ≡ m)
      (names : (x r m : ℕ) → NodeHas core.root 0 x (transfer r m) → NamesCopies s (writes_in m whole) t x (slice_index_or copies x None)) (in_whole : LoadsWriteInWhole) where
    abbrev Such : AccessNets → Type 0
    Such a = HasSuch core plan delays s Load (LoadActs t) (NodeMoves core.root 0) a

    such : (a : AccessNets) → Contains loading a → Such a
    such a there = by_access core plan delays s Load (LoadActs t) (NodeMoves core.root 0) a core.root [] env 0 0 qs c w loading (λ x v q. q) h there

    stands_for : (a : AccessNets) (x : Such a) → NodeHas core.root 0 (x.n + spans_size x.spans) (transfer x.r x.m)
    stands_for a x = items.load_is 0 (x.n + spans_size x.spans) x.r x.m x.stands

    -- an SRAM
    sram_of : (a : AccessNets) (x : Such a) → kind_of core a.mem ≡ Sram
    sram_of a x =
        ap (kind_of core) x.is.place.is.stands.write.mem_is
        ∙ is_sram (kind_of core x.m) (moved (x.n + spans_size x.spans) x.r x.m (stands_for a x)) (emitted x.m x.is.place.is.stands.chip)

    moves_along : (m k number other enable on : ℕ) (indices operands : List ℕ) (word net : ℕ) → m ≡ k → number ≡ other → enable ≡ on → indices ≡ operands → word ≡ net
        → WritesInTime s (writes_in k whole) t other (loaded_at core (kind_of core k) k) on operands net → WritesInTime s (writes_in m whole) t number (loaded_at core (kind_of core m) m) enable indices word
    moves_along m k number other enable on indices operands word net a b d e f h =
        subst (λ z. WritesInTime s (writes_in m whole) t number (loaded_at core (kind_of core m) m) enable indices z) (sym f)
        (subst (λ zs. WritesInTime s (writes_in m whole) t number (loaded_at core (kind_of core m) m) enable zs net) (sym e)
        (subst (λ z. WritesInTime s (writes_in m whole) t number (loaded_at core (kind_of core m) m) z operands net) (sym d)
        (subst (λ z. WritesInTime s (writes_in m whole) t z (loaded_at core (kind_of core m) m) on operands net) (sym b)
        (subst (λ z. WritesInTime s (writes_in z whole) t other (loaded_at core (kind_of core z) z) on operands net) (sym a) h))))

    write_acts : (a : AccessNets) (x : Such a) → WritesInTime s (writes_in a.mem whole) t a.number (loaded_at core (kind_of core a.mem) a.mem) a.enable (index_words Write a.operands.items) (word_that_changes Write a.operands.items)
    write_acts a x =
        let p = x.is.place in
        let own = (x.is.goes.goes p.is.stands.has t (omega arith) x.is.acts.part.starts x.is.acts.slices).acts in
        moves_along a.mem x.m a.number (x.n + spans_size x.spans) a.enable p.is.stands.has.nets.write (index_words Write a.operands.items) p.is.stands.has.nets.indices.items (word_that_changes Write a.operands.items) p.is.stands.has.part.port.word
        p.is.stands.write.mem_is p.is.stands.write.number_is p.is.stands.write.enable (indices_are x.r x.m x.spans x.k x.n x.qs x.c x.nets a p) (word_is x.r x.m x.spans x.k x.n x.qs x.c x.nets a p)
        (in_whole s whole (all_events core plan delays (load x.r x.m x.spans) x.k x.n (placed x.qs)) t (x.n + spans_size x.spans) x.m (loaded_at core (kind_of core x.m) x.m) p.is.stands.has.nets.write p.is.stands.has.nets.indices.items p.is.stands.has.part.port.word
        p.is.agrees (λ u v e happens act. stays (x.n + spans_size x.spans) x.r x.m u v e x.stands happens act) own)

    write_names : (a : AccessNets) (x : Such a) → NamesCopies s (writes_in a.mem whole) t a.number a.copy
    write_names a x =
        let write = x.is.place.is.stands.write in
        subst (λ m. NamesCopies s (writes_in m whole) t a.number a.copy) (sym write.mem_is)
        (subst (λ n. NamesCopies s (writes_in x.m whole) t n a.copy) (sym write.number_is)
        (subst (λ (copy : Option ℕ). NamesCopies s (writes_in x.m whole) t (x.n + spans_size x.spans) copy) (sym write.copied) (names (x.n + spans_size x.spans) x.r x.m (stands_for a x))))

    pub loads_in_time : LoadsInTime core s whole t loading
    loads_in_time = record {
      is_loading = λ a there.
          let x = such a there in
          record {
            dram = x.r;
            stands = number_stands x.r x.m x.spans x.k x.n x.qs x.c x.nets a x.is.place items;
            sram = sram_of a x;
            kind_is = x.is.place.is.stands.write.kind_is;
            some = some_operands x.r x.m x.spans x.k x.n x.qs x.c x.nets a x.is.place;
            unanswered = x.is.place.is.stands.write.unanswered;
          };
      all_loads = λ m n dram u sram there happens.
          let y = by_number core plan delays s Load (LoadActs t) n dram m core.root [] env 0 0 qs c w loading (by_load m n dram u sram there happens) h in
          (y.a, y.there, y.is.place.is.stands.write.number_is ∙ sym y.number, y.is.place.is.stands.write.mem_is);
      act = λ a there. write_acts a (such a there);
      named = λ a there. write_names a (such a there);
    }
