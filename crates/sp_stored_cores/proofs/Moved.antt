-- What the events of a run are of: what an SRAM is written at the number of a transfer is written by a load, and what is read of it there by a
-- store.
use Rattle.std.proofs.Common.{◌≡◌, ℕ, nat_lt, true, false, ◌⊎◌, inl, inr, List, length, Some, refl, sym, ap, subst, ◌∙◌, arith}
use Rattle.std.proofs.lemmas.Bool.{le-ltb}
use Rattle.sp_words.specs.declared.kind.Kind.TheVariants.{Sram, Dram}
use Rattle.sp_core.specs.Declarations.{kind_of, dram_number}
use Rattle.sp_core.specs.Events.{Act, reads, writes}
use Rattle.sp_core.specs.Meeting.{changes}
use Rattle.sp_core.specs.PlainCore.{PlainOp, PlainCore}
use Rattle.sp_time.specs.Lists.{Each}
use Rattle.sp_machine.specs.Stamps.{Stamped}
use Rattle.sp_node_runs.specs.BodiesTold.{SomeHappens}
use Rattle.sp_tree_events.specs.ToldItems.{Item, operation, transfer, NodeHas}
use Rattle.sp_tree_events.specs.ToldLaws.{NumbersStandForOne}
use Rattle.sp_bank_words.specs.Accesses.{reads_in, writes_in}
use Rattle.sp_bank_words.proofs.Filtered.{read_from, write_from}
use Rattle.sp_dram_words.specs.Moves.{Move, loads, stores, NodeMoves, MovesAreItems, MovesIn, IsActed}
use Rattle.sp_stored_cores.proofs.Elements.{each_in}

-- a memory outside is a DRAM
kind_is : (core : PlainCore) (r : ℕ) → kind_of core (dram_number core r) ≡ Dram
kind_is core r = let outside : nat_lt (dram_number core r) (length core.mems) ≡ false = le-ltb (dram_number core r) (length core.mems) (omega arith) in rw outside refl

read_clash : {X : Type 0} (v w : ℕ) (a : Act) → a ≡ reads v → a ≡ writes w → X
read_clash v w a e f = absurd (let clash : reads v ≡ writes w = sym e ∙ f in cc)

abbrev item_dram : Item → ℕ
item_dram (transfer r m) = r
item_dram i = 0

abbrev item_mem : Item → ℕ
item_mem (transfer r m) = m
item_mem i = 0

module _ (core : PlainCore) (whole : List Stamped) (items : MovesAreItems core.root) (one : NumbersStandForOne core.root) (acted : Each (λ (x : Stamped). IsActed core x.moment) whole) where
  no_dram : {X : Type 0} (m q : ℕ) → kind_of core m ≡ Sram → m ≡ dram_number core q → X
  no_dram m q sram e = absurd (let clash : Dram ≡ Sram = sym (kind_is core q) ∙ ap (kind_of core) (sym e) ∙ sram in cc)

  no_operation : {X : Type 0} (n r m : ℕ) (op : PlainOp) → NodeHas core.root 0 n (transfer r m) → NodeHas core.root 0 n (operation op) → X
  no_operation n r m op t o = absurd (let clash : transfer r m ≡ operation op = one 0 n (transfer r m) (operation op) t o in cc)

  -- the move at the number of a transfer is the transfer
  same_load : (n r m q l : ℕ) → NodeHas core.root 0 n (transfer r m) → NodeMoves core.root 0 n (loads q l) → NodeMoves core.root 0 n (loads r m)
  same_load n r m q l t h =
      let e : transfer q l ≡ transfer r m = one 0 n (transfer q l) (transfer r m) (items.load_is 0 n q l h) t in
      subst (λ y. NodeMoves core.root 0 n (loads y m)) (ap item_dram e) (subst (λ y. NodeMoves core.root 0 n (loads q y)) (ap item_mem e) h)

  same_store : (n r m q l : ℕ) → NodeHas core.root 0 n (transfer r m) → NodeMoves core.root 0 n (stores q l) → NodeMoves core.root 0 n (stores r m)
  same_store n r m q l t h =
      let e : transfer q l ≡ transfer r m = one 0 n (transfer q l) (transfer r m) (items.store_is 0 n q l h) t in
      subst (λ y. NodeMoves core.root 0 n (stores y m)) (ap item_dram e) (subst (λ y. NodeMoves core.root 0 n (stores q y)) (ap item_mem e) h)

  module _ (m n r : ℕ) (sram : kind_of core m ≡ Sram) (there : NodeHas core.root 0 n (transfer r m)) where
    pub loaded_by : (t : ℕ) → SomeHappens (writes_in m whole) n t → NodeMoves core.root 0 n (loads r m)
    loaded_by t (e, happens) = by (each_in (λ (x : Stamped). IsActed core x.moment) whole _ acted found.there)
      where
        found : Rattle.sp_bank_words.proofs.Filtered.IsWriteAt whole m t happens.copy e
        found = write_from whole m t happens.copy e happens.there

        by_move : (v : Move) → NodeMoves core.root 0 n v → MovesIn core v e → NodeMoves core.root 0 n (loads r m)
        by_move (loads q l) h (inl (at, w, act)) = read_clash w found.word e.act act found.act
        by_move (loads q l) h (inr (at, act)) = same_load n r m q l there h
        by_move (stores q l) h (inl (at, w, act)) = read_clash w found.word e.act act found.act
        by_move (stores q l) h (inr (at, w, act)) = no_dram m q sram (sym found.mem ∙ at)

        by : ((op : PlainOp) × NodeHas core.root 0 e.number (operation op) × (op.mem ≡ Some e.mem)) ⊎ ((v : Move) × NodeMoves core.root 0 e.number v × MovesIn core v e) → NodeMoves core.root 0 n (loads r m)
        by (inl (op, h, at)) = no_operation n r m op there (subst (λ x. NodeHas core.root 0 x (operation op)) happens.numbered h)
        by (inr (v, h, moves)) = by_move v (subst (λ x. NodeMoves core.root 0 x v) happens.numbered h) moves

    pub stored_by : (t : ℕ) → SomeHappens (reads_in m whole) n t → NodeMoves core.root 0 n (stores r m)
    stored_by t (e, happens) = by (each_in (λ (x : Stamped). IsActed core x.moment) whole _ acted found.there)
      where
        found : Rattle.sp_bank_words.proofs.Filtered.IsReadAt whole m t happens.copy e
        found = read_from whole m t happens.copy e happens.there

        no_change : {X : Type 0} → changes e.act ≡ true → X
        no_change c = absurd (let clash : false ≡ true = sym (ap changes found.act) ∙ c in cc)

        by_move : (v : Move) → NodeMoves core.root 0 n v → MovesIn core v e → NodeMoves core.root 0 n (stores r m)
        by_move (loads q l) h (inl (at, w, act)) = no_dram m q sram (sym found.mem ∙ at)
        by_move (loads q l) h (inr (at, act)) = no_change act
        by_move (stores q l) h (inl (at, w, act)) = same_store n r m q l there h
        by_move (stores q l) h (inr (at, w, act)) = read_clash found.word w e.act found.act act

        by : ((op : PlainOp) × NodeHas core.root 0 e.number (operation op) × (op.mem ≡ Some e.mem)) ⊎ ((v : Move) × NodeMoves core.root 0 e.number v × MovesIn core v e) → NodeMoves core.root 0 n (stores r m)
        by (inl (op, h, at)) = no_operation n r m op there (subst (λ x. NodeHas core.root 0 x (operation op)) happens.numbered h)
        by (inr (v, h, moves)) = by_move v (subst (λ x. NodeMoves core.root 0 x v) happens.numbered h) moves
