-- Steps that touch memories of a place and DRAMs, and the same steps in lanes.
use Rattle.std.proofs.Common.{◌≡◌, ℕ, ◌+◌, ◌-◌, ◌<◌, Bool, true, false, ◌||◌, List, [], ◌∷◌, length, refl, sym, ◌∙◌, ap, subst, arith, inl, inr, nat_lt}
use Rattle.std.proofs.lemmas.Bool.{and_parts, ltb-true, le-ltb, true≢false}
use Rattle.std.proofs.lemmas.Bool.Decides.{eqb_tells}
use Rattle.std.specs.Prelude.{if◌then◌else◌}
use Rattle.sp_words.specs.declared.kind.Kind.TheVariants.{Dram}
use Rattle.sp_core.specs.Around.{Around, is_port_kind, is_usable}
use Rattle.sp_core.specs.Declarations.{mem, dram, kind_of, dims, dram_number, is_among}
use Rattle.sp_core.specs.PlainCore.{PlainCore}
use Rattle.sp_core.specs.Step.{Step, went, pure, ◌>>=◌, stop, ensure, in_order}
use Rattle.sp_core.specs.Store.{Store}
use Rattle.sp_lanes.specs.Unrolled.{unrolled}
use Rattle.sp_lanes.specs.Within.{Within}
use Rattle.sp_lane_rules.specs.UnrolledPlaces.{GoTogether}
use Rattle.sp_lane_groups.specs.LiveStores.{AreCopies}
use Rattle.sp_lane_groups.proofs.LiveAlong.{Along, did_go, answer_of, store_of}
use Rattle.sp_lane_groups.proofs.LiveCopies.{copies_apart}
use Rattle.sp_lane_groups.proofs.Renewed.{bind_known, bind_split}
use Rattle.sp_lane_groups.specs.InnersAlong.{AgreeAt}
use Rattle.sp_lane_groups.proofs.InnersFollows.{no_copy}

-- two memories of one kind and with the same dimensions
pub record Alike (core lanes : PlainCore) (m n : ℕ) : Type 0 where
  pub kinds : kind_of lanes n ≡ kind_of core m
  pub sizes : dims lanes n ≡ dims core m

past : (m n r : ℕ) → m < n → m ≡ n + r → ⊥
past m n r lt e = omega (arith, lt, e)

not_less : (n r : ℕ) → nat_lt (n + r) n ≡ false
not_less n r = le-ltb (n + r) n (omega arith)

less : (n r : ℕ) → (n + r) - n ≡ r
less n r = omega arith

same_part : (n r k : ℕ) → n + r ≡ n + k → r ≡ k
same_part n r k e = omega (arith, e)

dram_kind : (core : PlainCore) (r : ℕ) → kind_of core (dram_number core r) ≡ Dram
dram_kind core r = ap (λ b. if b then (mem core (dram_number core r)).kind else Dram) (not_less (length core.mems) r)

dram_dims : (core : PlainCore) (r : ℕ) → dims core (dram_number core r) ≡ (dram core r).dims
dram_dims core r =
    ap (λ b. if b then (mem core (dram_number core r)).dims else (dram core (dram_number core r - length core.mems)).dims) (not_less (length core.mems) r)
    ∙ ap (λ k. (dram core k).dims) (less (length core.mems) r)

-- a DRAM in lanes is that of the core
pub dram_alike : (core : PlainCore) (r : ℕ) → Alike core (unrolled core) (dram_number core r) (dram_number (unrolled core) r)
unfolding unrolled
dram_alike core r = record {
  kinds = dram_kind (unrolled core) r ∙ sym (dram_kind core r);
  sizes = dram_dims (unrolled core) r ∙ sym (dram_dims core r);
}

module _ (core : PlainCore) (around inside : Around) (w : Within) (together : GoTogether core (unrolled core) around inside w) (copies : AreCopies core around w) where
  -- a memory of lanes that stands for none here holds what it did
  abbrev pub Others : Store → Store → Type 0
  Others t ended = (n : ℕ) → n < length (unrolled core).mems → ((m : ℕ) → is_usable core around m ≡ true → w.number m ≡ n → ⊥) → ended n ≡ t n

  pub record Moved {A : Type 0} (two : Step A) (t : Store) (a : A) (after : Store) : Type 0 where
    pub ended : Store
    pub ran : two t ≡ went a ended
    pub agree : AgreeAt core around w after ended
    pub others : Others t ended

  -- wherever the one goes on, from stores that agree, the other one does, with the same answer
  abbrev pub Moves : {A : Type 0} → Step A → Step A → Type 0
  Moves {A} one two = (s t after : Store) (a : A) → AgreeAt core around w s t → one s ≡ went a after → Moved two t a after

  pub pure_moves : {A : Type 0} (a : A) → Moves (pure a) (pure a)
  unfolding pure
  pure_moves a s t after b agree e = record {
    ended = t;
    ran = ap (λ x. went x t) (ap (answer_of a) e);
    agree = subst (λ (u : Store). AgreeAt core around w u t) (ap (store_of s) e) agree;
    others = λ n lt o. refl;
  }

  stop_moves : {A : Type 0} (two : Step A) → Moves stop two
  unfolding stop
  stop_moves two s t after b agree e = absurd (true≢false (sym (ap did_go e)))

  pub ensure_moves : (a b : Bool) → b ≡ a → Moves (ensure a) (ensure b)
  ensure_moves a b e = subst (λ c. Moves (ensure a) (ensure c)) (sym e) (by a)
    where
      by : (c : Bool) → Moves (ensure c) (ensure c)
      by true = pure_moves tt
      by false = stop_moves stop

  pub bind_moves : {A B : Type 0} (P Q : Step A) (F G : A → Step B) → Moves P Q → ((a : A) → Moves (F a) (G a)) → Moves (P >>= F) (Q >>= G)
  bind_moves P Q F G f g s t after c agree e =
      let r = bind_split P F s after c e in
      let x : Moved Q t r.0 r.1 = f s t r.1 r.0 agree r.2 in
      let y : Moved (G r.0) x.ended c after = g r.0 r.1 x.ended after c x.agree r.3 in
      record {
        ended = y.ended;
        ran = bind_known Q G t x.ended r.0 x.ran ∙ y.ran;
        agree = y.agree;
        others = λ n lt o. y.others n lt o ∙ x.others n lt o;
      }

  pub order_moves : {A B : Type 0} (one two : A → Step B) → ((a : A) → Moves (one a) (two a)) → (xs : List A) → Moves (in_order one xs) (in_order two xs)
  unfolding in_order
  order_moves one two f [] = pure_moves []
  order_moves one two f (x ∷ xs) =
      bind_moves (one x) (two x) (λ first. in_order one xs >>= (λ others. pure (first ∷ others))) (λ first. in_order two xs >>= (λ others. pure (first ∷ others))) (f x)
      (λ first. bind_moves (in_order one xs) (in_order two xs) (λ others. pure (first ∷ others)) (λ others. pure (first ∷ others)) (order_moves one two f xs) (λ others. pure_moves (first ∷ others)))

  pub choice_moves : {A : Type 0} (b : Bool) (one other one_too other_too : Step A) → Moves one one_too → Moves other other_too → Moves (elim b as (λ _. Step A) [ true ↦ one | false ↦ other ]) (elim b as (λ _. Step A) [ true ↦ one_too | false ↦ other_too ])
  choice_moves true one other one_too other_too f g = f
  choice_moves false one other one_too other_too f g = g

  low : (m : ℕ) → is_usable core around m ≡ true → m < length core.mems
  low m u = ltb-true m (length core.mems) (and_parts (nat_lt m (length core.mems)) (is_port_kind (mem core m).kind || is_among m around.owned) u).0

  -- what is done to a memory and to its copy
  pub memory_moves : {A : Type 0} (m : ℕ) → is_usable core around m ≡ true → (one two : Step A) → Along m (w.number m) A one two → Moves one two
  memory_moves m u one two along s t after a agree ran =
      let x = along s t (agree.memories m u) a after ran in
      record {
        ended = x.0;
        ran = x.1;
        agree = record {
          memories = λ k v. elim (eqb_tells k m) [
            | inl same ↦ subst (λ i. x.0 (w.number i) ≡ after i) (sym same.1) x.2
            | inr apart ↦ x.4 (w.number k) (λ e. apart.1 (copies_apart core around w copies k m v u e)) ∙ agree.memories k v ∙ sym (x.3 k apart.1)
          ];
          drams = λ r. x.4 (dram_number (unrolled core) r) (λ e. no_copy core around inside w together m r u (sym e)) ∙ agree.drams r ∙ sym (x.3 (dram_number core r) (λ e. past m (length core.mems) r (low m u) (sym e)));
        };
        others = λ n lt o. x.4 n (λ e. o m u (sym e));
      }

  -- and to a DRAM
  pub dram_moves : {A : Type 0} (r : ℕ) (one two : Step A) → Along (dram_number core r) (dram_number (unrolled core) r) A one two → Moves one two
  dram_moves r one two along s t after a agree ran =
      let x = along s t (agree.drams r) a after ran in
      record {
        ended = x.0;
        ran = x.1;
        agree = record {
          memories = λ k v. x.4 (w.number k) (λ e. no_copy core around inside w together k r v e) ∙ agree.memories k v ∙ sym (x.3 k (λ e. past k (length core.mems) r (low k v) e));
          drams = λ k. elim (eqb_tells k r) [
            | inl same ↦ subst (λ i. x.0 (dram_number (unrolled core) i) ≡ after (dram_number core i)) (sym same.1) x.2
            | inr apart ↦ x.4 (dram_number (unrolled core) k) (λ e. apart.1 (same_part (length (unrolled core).mems) k r e)) ∙ agree.drams k ∙ sym (x.3 (dram_number core k) (λ e. apart.1 (same_part (length core.mems) k r e)))
          ];
        };
        others = λ n lt o. x.4 n (λ e. past n (length (unrolled core).mems) r lt e);
      }
